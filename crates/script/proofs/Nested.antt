-- Groups: what `(`, `)` and ELSE come to. Assumes nothing.
use Rattle.std.specs.Int.{from_bool}
use mathlib.Core.Path.{◌≡◌, refl, sym, ap, ◌∙◌}
use mathlib.Core.Bool.{Bool, true, false}
use mathlib.Core.List.{List, ◌∷◌}
use Prim.Native.Nat.{ℕ, suc, ◌+◌, ◌-◌, ◌*◌, ◌/◌, ◌%◌, ◌≤◌, ◌<◌}
use native.Mathlib.Numerals.{add-one}
use native.Mathlib.Omega.{arith}
use lib.ListN.{length, get_or, set, length-set}
use lib.Seq.{get_or-set_same, get_or-set_other}
use lib.Dec.{ltb}
use borrow.Author.Tests.{lt-ltb, le-ltb, eq-eqb, ne_eqb}
use Rattle.definitions.specs.Control.{Item, opens, bare, bracket, otherwise}
use Rattle.definitions.specs.Reader.{next_byte, place_at}
use Rattle.definitions.specs.Script.{nothing, Group, group, reading, refused_at, more, done, closes, open_group, group_items, group_of, else_group, is_else, after_else, group_end, close_group}
use Rattle.matching.specs.Words.{bit_of}
use Rattle.answers.specs.declared.State.{State}
use Rattle.answers.specs.Answers.{read_as}
use Rattle.lexer.specs.Places.{cursor_at}
use Rattle.lexer.proofs.AtPlace.{is-next, not-next, after-in, after_next, next-inside}
use Rattle.items.specs.Kinds.{bracket_kind, else_kind, bare_kind}
use Rattle.items.specs.Words.{head, ItemAt, OpenerAt, Closed}
use Rattle.script.specs.Gathered.{Gathered}
use Rattle.script.specs.Reading.{due_of, group_in, groups_in, bodies_in, reading_of, Fits, Affords, ReadSoFar, Unwritten, OnwardRead}
use Rattle.script.proofs.Keeping.{gather, acc_kept, groups-kept, bodies_kept, fits_kept, free, kept-all, kept_set}
use Rattle.script.proofs.Affording.{affords-bare, affords-body, affords-end, affords-else}
use Rattle.script.proofs.Closing.{closed-kept, gathered-closes}
use Rattle.script.proofs.OneRound.{none-due, some-due, no-groups, some-groups, some-bodies, many-groups}

-- ---- the word of a group

pub group-back : (k : ℕ) (e : Bool) → group_in (2 * k + bit_of e) ≡ group k e
unfolding group_in bit_of
group-back k true =
    let a : (2 * k + 1) / 2 ≡ k = omega arith in
    let b : (2 * k + 1) % 2 ≡ 1 = omega arith in
    rw (a, b)
group-back k false =
    let a : (2 * k + 0) / 2 ≡ k = omega arith in
    let b : (2 * k + 0) % 2 ≡ 0 = omega arith in
    rw (a, b)

pub flag-half : (k : ℕ) (e : Bool) → (2 * k + bit_of e) / 2 ≡ k
unfolding bit_of
flag-half k true = omega arith
flag-half k false = omega arith

pub flag-is : (e : Bool) → from_bool e ≡ bit_of e
unfolding bit_of
flag-is true = refl
flag-is false = refl

-- one word is written at k, or two, then the word of a group
module _ (w : List ℕ) (k top d : ℕ) (far : top + d < length w) where
  module _ (a x : ℕ) (near : k < top) where
    pub one-stays : Unwritten k d w (set (set w k a) top x)
    one-stays =
        kept_set k d top x w (set w k a) (omega arith) far (kept_set k d k a w w (omega arith) (omega arith) (kept-all k d w))

    pub one-first : get_or (set (set w k a) top x) k 0 ≡ a
    one-first = get_or-set_other (set w k a) top k x 0 (λ e. omega (arith, e)) ∙ get_or-set_same w k a 0 (omega arith)

    pub one-top : get_or (set (set w k a) top x) top 0 ≡ x
    one-top = get_or-set_same (set w k a) top x 0 (rw (length-set w k a) (omega arith))

  module _ (a b x : ℕ) (near : k + 1 < top) where
    pub two-stay : Unwritten k d w (set (set (set w k a) (k + 1) b) top x)
    two-stay =
        kept_set k d top x w (set (set w k a) (k + 1) b) (omega arith) far
        (kept_set k d (k + 1) b w (set w k a) (omega arith) (omega arith) (kept_set k d k a w w (omega arith) (omega arith) (kept-all k d w)))

    pub two-first : get_or (set (set (set w k a) (k + 1) b) top x) k 0 ≡ a
    two-first = get_or-set_other (set (set w k a) (k + 1) b) top k x 0 (λ e. omega (arith, e))
        ∙ get_or-set_other (set w k a) (k + 1) k b 0 (λ e. omega (arith, e)) ∙ get_or-set_same w k a 0 (omega arith)

    pub two-second : get_or (set (set (set w k a) (k + 1) b) top x) (k + 1) 0 ≡ b
    two-second = get_or-set_other (set (set w k a) (k + 1) b) top (k + 1) x 0 (λ e. omega (arith, e))
        ∙ get_or-set_same (set w k a) (k + 1) b 0 (rw (length-set w k a) (omega arith))

    pub two-top : get_or (set (set (set w k a) (k + 1) b) top x) top 0 ≡ x
    two-top = get_or-set_same (set (set w k a) (k + 1) b) top x 0 (rw (length-set (set w k a) (k + 1) b, length-set w k a) (omega arith))

-- ---- a group opens: x is its word, d groups are open around it

module _ (s w w' : List ℕ) (k d d' x : ℕ) (one_more : d' ≡ d + 1) (kept : Unwritten k d w w') (word : get_or w' (length w - d') 0 ≡ x) where
  word-there : get_or w' (length w' - suc d) 0 ≡ x
  word-there = rw (kept.same_length, ← add-one d, ← one_more) word

  groups-more : groups_in w' d' ≡ group_in x ∷ groups_in w d
  unfolding groups_in
  groups-more = rw (one_more, add-one d, groups_in, word-there, groups-kept k d w w' kept d (omega arith))

  bodies-more : bodies_in w' d' ≡ x / 2 + bodies_in w d
  unfolding bodies_in
  bodies-more = rw (one_more, add-one d, bodies_in, word-there, bodies_kept k d w w' kept d (omega arith))

  pub opened : (from next k' : ℕ) (acc : List Item) (g : Group) → group_in x ≡ g → Gathered s w' k' acc → from < next → next ≤ length s → d < 16 → Fits s w
      → Affords s next k' 0 (x / 2 + bodies_in w d) d' acc
      → OnwardRead s w' from (more (reading (cursor_at s next) nothing (g ∷ groups_in w d) acc)) (read_as (record { k = k'; due = 0; elses = false; depth = d' }) next)
  unfolding reading_of due_of
  opened from next k' acc g is gathered far within deep fits affords = (
    acc,
    rw (groups-more, is),
    record {
      inside = within;
      deep = omega arith;
      no_body = λ z. refl;
      gathered = gathered;
      affords = rw bodies-more affords;
      fits = fits_kept k d w w' kept s fits;
    },
    far,
  )

module _ (s w : List ℕ) (st : State) (at : ℕ) (acc : List Item) (h : ReadSoFar s w st at acc) where
  pub ending-room : 0 < st.depth → (n : ℕ) → n ≡ get_or w (length w - st.depth) 0 / 2 → (st.k + n + 16 ≤ length w) × (n ≤ 32800)
  ending-room pos n is =
      let half = some-bodies w st.depth (λ z. omega (arith, z)) in
      (omega (arith, h.affords.room, h.deep, h.fits.work, h.inside, half), omega (arith, h.affords.room, h.deep, h.fits.small, h.inside, half))

  module _ (less : at < length s) where
    module _ (deep : st.depth < 16) where
      pub opens-bare : st.due ≡ 0 → (a : ℕ) → a ≡ head bare_kind at →
          OnwardRead s (set (set (set w st.k a) (st.k + 1) bracket_kind) (length w - (st.depth + 1)) 2) at
          (more (reading (cursor_at s (at + 1)) nothing (group 1 false ∷ groups_in w st.depth) (bracket ∷ opens at bare ∷ acc)))
          (read_as (record { k = st.k + 2; due = 0; elses = false; depth = st.depth + 1 }) (at + 1))
      unfolding ItemAt OpenerAt group_in
      opens-bare z a is =
          let room = free s w st at acc h in
          let top : ℕ = length w - (st.depth + 1) in
          let far : top + st.depth < length w = omega (arith, room) in
          let near : st.k + 1 < top = omega (arith, room) in
          let w' : List ℕ = set (set (set w st.k a) (st.k + 1) bracket_kind) top 2 in
          let kept : Unwritten st.k st.depth w w' = two-stay w st.k top st.depth far a bracket_kind 2 near in
          let e : st.k + 2 ≡ st.k + 1 + 1 = omega arith in
          opened s w w' st.k st.depth (st.depth + 1) 2 refl kept (two-top w st.k top st.depth far a bracket_kind 2 near)
          at (at + 1) (st.k + 2) (bracket ∷ opens at bare ∷ acc) (group 1 false) refl
          (gather s w' (st.k + 1) (st.k + 2) bracket (opens at bare ∷ acc) (omega arith) (e, two-second w st.k top st.depth far a bracket_kind 2 near)
          (gather s w' st.k (st.k + 1) (opens at bare) acc (omega arith) (refl, two-first w st.k top st.depth far a bracket_kind 2 near ∙ is)
          (acc_kept st.k st.depth w w' kept s acc (omega (arith, room)) h.gathered)))
          (omega arith) (omega arith) deep h.fits (affords-bare h.affords z at)

      pub opens-body : (x : ℕ) → x ≡ 2 * st.due + bit_of st.elses →
          OnwardRead s (set (set w st.k bracket_kind) (length w - (st.depth + 1)) x) at
          (more (reading (cursor_at s (at + 1)) nothing (group st.due st.elses ∷ groups_in w st.depth) (bracket ∷ acc)))
          (read_as (record { k = st.k + 1; due = 0; elses = false; depth = st.depth + 1 }) (at + 1))
      unfolding ItemAt
      opens-body x is =
          let room = free s w st at acc h in
          let top : ℕ = length w - (st.depth + 1) in
          let far : top + st.depth < length w = omega (arith, room) in
          let near : st.k < top = omega (arith, room) in
          let w' : List ℕ = set (set w st.k bracket_kind) top x in
          let kept : Unwritten st.k st.depth w w' = one-stays w st.k top st.depth far bracket_kind x near in
          let half : x / 2 ≡ st.due = ap (λ (n : ℕ). n / 2) is ∙ flag-half st.due st.elses in
          opened s w w' st.k st.depth (st.depth + 1) x refl kept (one-top w st.k top st.depth far bracket_kind x near)
          at (at + 1) (st.k + 1) (bracket ∷ acc) (group st.due st.elses) (ap group_in is ∙ group-back st.due st.elses)
          (gather s w' st.k (st.k + 1) bracket acc (omega arith) (refl, one-first w st.k top st.depth far bracket_kind x near)
          (acc_kept st.k st.depth w w' kept s acc (omega (arith, room)) h.gathered))
          (omega arith) (omega arith) deep h.fits (rw half (affords-body h.affords))

      shallow : ltb (length (groups_in w st.depth)) 16 ≡ true
      shallow = lt-ltb (length (groups_in w st.depth)) 16 (rw (many-groups w st.depth) deep)

      pub opening-bare : st.due ≡ 0 → open_group (due_of st.due st.elses) (groups_in w st.depth) acc (cursor_at s at)
          ≡ more (reading (cursor_at s (at + 1)) nothing (group 1 false ∷ groups_in w st.depth) (bracket ∷ opens at bare ∷ acc))
      unfolding open_group group_of group_items place_at
      opening-bare z = rw (shallow, none-due st.due st.elses z, after-in s at less)

      pub opening-body : (st.due ≡ 0 → ⊥) → open_group (due_of st.due st.elses) (groups_in w st.depth) acc (cursor_at s at)
          ≡ more (reading (cursor_at s (at + 1)) nothing (group st.due st.elses ∷ groups_in w st.depth) (bracket ∷ acc))
      unfolding open_group group_of group_items place_at
      opening-body z = rw (shallow, some-due st.due st.elses z, after-in s at less)

    pub too_deep : 16 ≤ st.depth → open_group (due_of st.due st.elses) (groups_in w st.depth) acc (cursor_at s at) ≡ done (refused_at 5 at)
    unfolding open_group place_at
    too_deep deep = rw (le-ltb (length (groups_in w st.depth)) 16 (rw (many-groups w st.depth) deep))

    -- ---- a group ends

    pub ends : 0 < st.depth → st.due ≡ 0 → (n : ℕ) → n ≡ get_or w (length w - st.depth) 0 / 2 → (w' : List ℕ) → Closed st.k n w w'
        → OnwardRead s w' at (more (reading (cursor_at s (at + 1)) nothing (groups_in w (st.depth - 1)) (closes n acc)))
        (read_as (record { k = st.k + n; due = 0; elses = false; depth = st.depth - 1 }) (at + 1))
    unfolding reading_of due_of
    ends pos z n is w' c =
        let half : bodies_in w st.depth ≡ n + bodies_in w (st.depth - 1) = some-bodies w st.depth (λ z. omega (arith, z)) ∙ ap (λ (m : ℕ). m + bodies_in w (st.depth - 1)) (sym is) in
        let far : st.k + n + 16 ≤ length w = omega (arith, h.affords.room, h.deep, h.fits.work, h.inside, half) in
        let kept : Unwritten st.k 16 w w' = closed-kept st.k 16 st.k n w w' (omega arith) far c in (
          closes n acc,
          rw (groups-kept st.k 16 w w' kept (st.depth - 1) (omega (arith, h.deep))),
          record {
            inside = omega arith;
            deep = omega (arith, h.deep);
            no_body = λ z. refl;
            gathered = gathered-closes s w' st.k n acc c.inside (acc_kept st.k 16 w w' kept s acc (omega (arith, far)) h.gathered);
            affords = rw (bodies_kept st.k 16 w w' kept (st.depth - 1) (omega (arith, h.deep))) (affords-end h.affords z n (bodies_in w (st.depth - 1)) half pos);
            fits = fits_kept st.k 16 w w' kept s h.fits;
          },
          omega arith,
        )

    pub missing-body : (st.due ≡ 0 → ⊥) → close_group (due_of st.due st.elses) (groups_in w st.depth) acc (cursor_at s at) ≡ done (refused_at 3 at)
    unfolding close_group place_at
    missing-body z = rw (some-due st.due st.elses z)

    pub unmatched : st.due ≡ 0 → st.depth ≡ 0 → close_group (due_of st.due st.elses) (groups_in w st.depth) acc (cursor_at s at) ≡ done (refused_at 5 at)
    unfolding close_group place_at
    unmatched z d = rw (none-due st.due st.elses z, no-groups w st.depth d)

    module _ (z : st.due ≡ 0) (d : st.depth ≡ 0 → ⊥) where
      pub closing-plain : (get_or w (length w - st.depth) 0 % 2 ≡ 1 → ⊥)
          → close_group (due_of st.due st.elses) (groups_in w st.depth) acc (cursor_at s at)
          ≡ more (reading (cursor_at s (at + 1)) nothing (groups_in w (st.depth - 1)) (closes (get_or w (length w - st.depth) 0 / 2) acc))
      unfolding close_group group_end group_in
      closing-plain e =
          rw (none-due st.due st.elses z, some-groups w st.depth d, after-in s at less, ne_eqb (get_or w (length w - st.depth) 0 % 2) 1 e)

      pub closing-alone : get_or w (length w - st.depth) 0 % 2 ≡ 1 → is_else (cursor_at s (at + 1)) ≡ false
          → close_group (due_of st.due st.elses) (groups_in w st.depth) acc (cursor_at s at)
          ≡ more (reading (cursor_at s (at + 1)) nothing (groups_in w (st.depth - 1)) (closes (get_or w (length w - st.depth) 0 / 2) acc))
      unfolding close_group group_end group_in
      closing-alone e f =
          rw (none-due st.due st.elses z, some-groups w st.depth d, after-in s at less, eq-eqb (get_or w (length w - st.depth) 0 % 2) 1 e, f)

      pub closing-else : (p : ℕ) → get_or w (length w - st.depth) 0 % 2 ≡ 1 → is_else (cursor_at s (at + 1)) ≡ true → after_else (cursor_at s (at + 1)) ≡ cursor_at s p
          → close_group (due_of st.due st.elses) (groups_in w st.depth) acc (cursor_at s at)
          ≡ else_group (get_or w (length w - st.depth) 0 / 2) (groups_in w (st.depth - 1)) acc (cursor_at s p)
      unfolding close_group group_end group_in
      closing-else p e f g =
          rw (none-due st.due st.elses z, some-groups w st.depth d, after-in s at less, eq-eqb (get_or w (length w - st.depth) 0 % 2) 1 e, f, g)

  -- ---- after ELSE

  module _ (n : ℕ) where
    pub else-missing : (next_byte (cursor_at s at) ≡ 40 → ⊥) → else_group n (groups_in w (st.depth - 1)) acc (cursor_at s at) ≡ done (refused_at 3 at)
    unfolding else_group place_at
    else-missing e = rw (not-next 40 (cursor_at s at) e)

    else-there : next_byte (cursor_at s at) ≡ 40 → else_group n (groups_in w (st.depth - 1)) acc (cursor_at s at)
        ≡ more (reading (cursor_at s (at + 1)) nothing (group n false ∷ groups_in w (st.depth - 1)) (bracket ∷ otherwise ∷ acc))
    unfolding else_group
    else-there e = rw (is-next 40 (cursor_at s at) e, after_next s at (rw e (omega arith)))

    pub else-opens : 0 < st.depth → st.due ≡ 0 → n ≡ get_or w (length w - st.depth) 0 / 2 → next_byte (cursor_at s at) ≡ 40
        → OnwardRead s (set (set (set w st.k else_kind) (st.k + 1) bracket_kind) (length w - st.depth) (2 * n)) at (else_group n (groups_in w (st.depth - 1)) acc (cursor_at s at))
        (read_as (record { k = st.k + 2; due = 0; elses = false; depth = st.depth }) (at + 1))
    unfolding ItemAt bit_of
    else-opens pos z is e =
        let within : at < length s = next-inside s at (rw e (omega arith)) in
        let half : bodies_in w st.depth ≡ n + bodies_in w (st.depth - 1) = some-bodies w st.depth (λ z. omega (arith, z)) ∙ ap (λ (m : ℕ). m + bodies_in w (st.depth - 1)) (sym is) in
        let room = free s w st at acc h in
        let top : ℕ = length w - st.depth in
        let far : top + (st.depth - 1) < length w = omega (arith, room, h.deep) in
        let near : st.k + 1 < top = omega (arith, room, h.deep) in
        let w' : List ℕ = set (set (set w st.k else_kind) (st.k + 1) bracket_kind) top (2 * n) in
        let kept : Unwritten st.k (st.depth - 1) w w' = two-stay w st.k top (st.depth - 1) far else_kind bracket_kind (2 * n) near in
        let e2 : st.k + 2 ≡ st.k + 1 + 1 = omega arith in
        let zero_flag : 2 * n ≡ 2 * n + bit_of false = omega arith in
        let twice : 2 * n / 2 ≡ n = omega arith in
        rw (else-there e)
        (opened s w w' st.k (st.depth - 1) st.depth (2 * n) (omega arith) kept (two-top w st.k top (st.depth - 1) far else_kind bracket_kind (2 * n) near)
        at (at + 1) (st.k + 2) (bracket ∷ otherwise ∷ acc) (group n false) (ap group_in zero_flag ∙ group-back n false)
        (gather s w' (st.k + 1) (st.k + 2) bracket (otherwise ∷ acc) (omega arith) (e2, two-second w st.k top (st.depth - 1) far else_kind bracket_kind (2 * n) near)
        (gather s w' st.k (st.k + 1) otherwise acc (omega arith) (refl, two-first w st.k top (st.depth - 1) far else_kind bracket_kind (2 * n) near)
        (acc_kept st.k (st.depth - 1) w w' kept s acc (omega (arith, room)) h.gathered)))
        (omega arith) (omega arith) (omega (arith, h.deep)) h.fits (rw (twice, ← half) (affords-else h.affords z)))
