-- One round: what each answer comes to in the definitions. Assumes nothing.
use mathlib.Core.Path.{◌≡◌, refl, sym, ap, ◌∙◌, subst}
use mathlib.Core.Bool.{Bool, true, false, cond}
use mathlib.Core.List.{List, [], ◌∷◌, reverse}
use Prim.Native.Nat.{ℕ, zero, suc, ◌+◌, ◌-◌, ◌/◌, ◌≤◌, ◌<◌}
use native.Mathlib.Numerals.{add-one, sub-one}
use native.Mathlib.Omega.{arith}
use lib.ListN.{length, get_or, set}
use lib.Seq.{get_or-set_same}
use lib.Dec.{eqb}
use borrow.Author.Tests.{eqb-true, eqb-false}
use Rattle.definitions.specs.Control.{Item, line_end}
use Rattle.definitions.specs.Reader.{Cursor, Got, refused}
use Rattle.definitions.specs.Commands.{Decoded}
use Rattle.definitions.specs.Script.{Due, nothing, body, Group, reading, refused_at, AfterRound, more, done, bodies, closes, decoded, separator, line_items, script_end}
use Rattle.std.specs.Prelude.{Result, Ok, Err, Option, Some, None, MatchResult, IsOkAnd}
use Rattle.std.specs.Result.{result_and}
use Rattle.answers.specs.declared.Command.{Command}
use Rattle.answers.specs.declared.Fault.TheVariants.{Argument, Bracket}
use Rattle.answers.specs.declared.Read.{Read}
use Rattle.answers.specs.declared.Refusal.{Refusal}
use Rattle.answers.specs.declared.Follow.{Follow}
use Rattle.answers.specs.declared.State.{State}
use Rattle.answers.specs.Answers.{number_of, read_as, refusal}
use Rattle.lexer.specs.Places.{cursor_at}
use Rattle.items.specs.Kinds.{line_end_kind}
use Rattle.items.specs.Words.{ItemAt, Closed}
use Rattle.script.specs.Reading.{due_of, group_in, groups_in, bodies_in, reading_of, ReadSoFar, Unwritten, WholeIs, PrefixIs, CommandIs, CommandAt, CommandRead, Finished, OnwardRead, RoundRead}
use Rattle.script.specs.Placed.{separated, ended}
use Rattle.script.proofs.Keeping.{gather, in_order, acc_kept, groups-kept, bodies_kept, fits_kept, free, stands-kept, kept-all, kept_set}
use Rattle.script.proofs.Affording.{affords-on, affords-line, affords-whole, affords-prefix, affords-all}
use Rattle.script.proofs.Closing.{closed-kept, gathered-closes}

-- ---- what is due, and the groups

pub none-due : (n : ℕ) (e : Bool) → n ≡ 0 → due_of n e ≡ nothing
unfolding due_of
none-due n e z = rw z

pub some-due : (n : ℕ) (e : Bool) → (n ≡ 0 → ⊥) → due_of n e ≡ body n e
unfolding due_of
some-due zero e z = absurd (z refl)
some-due (suc n) e z = refl

pub bodies-due : (n : ℕ) (e : Bool) → bodies (due_of n e) ≡ n
unfolding due_of bodies
bodies-due zero e = refl
bodies-due (suc n) e = refl

pub no-groups : (w : List ℕ) (d : ℕ) → d ≡ 0 → groups_in w d ≡ []
unfolding groups_in
no-groups w d z = rw z

pub some-groups : (w : List ℕ) (d : ℕ) → (d ≡ 0 → ⊥) → groups_in w d ≡ group_in (get_or w (length w - d) 0) ∷ groups_in w (d - 1)
unfolding groups_in
some-groups w zero z = absurd (z refl)
some-groups w (suc d) z = rw sub-one

pub some-bodies : (w : List ℕ) (d : ℕ) → (d ≡ 0 → ⊥) → bodies_in w d ≡ get_or w (length w - d) 0 / 2 + bodies_in w (d - 1)
unfolding bodies_in
some-bodies w zero z = absurd (z refl)
some-bodies w (suc d) z = rw sub-one

pub many-groups : (w : List ℕ) (d : ℕ) → length (groups_in w d) ≡ d
unfolding groups_in
many-groups w zero = refl
many-groups w (suc d) = ap suc (many-groups w d)

-- ---- separators and the end

module _ (s w : List ℕ) (st : State) (at : ℕ) (acc : List Item) (h : ReadSoFar s w st at acc) where
  pub separator-missing : (st.due ≡ 0 → ⊥) → (acc' : List Item) (c : Cursor)
      → separator (due_of st.due st.elses) (groups_in w st.depth) acc' at c ≡ done (refused_at 3 at)
  unfolding separator
  separator-missing z acc' c = rw (some-due st.due st.elses z)

  separator-more : st.due ≡ 0 → (acc' : List Item) (c : Cursor)
      → separator (due_of st.due st.elses) (groups_in w st.depth) acc' at c ≡ more (reading c (due_of st.due st.elses) (groups_in w st.depth) acc')
  unfolding separator
  separator-more z acc' c = rw (none-due st.due st.elses z)

  pub passed : (next : ℕ) → st.due ≡ 0 → at < next → next ≤ length s
      → OnwardRead s w at (separator (due_of st.due st.elses) (groups_in w st.depth) acc at (cursor_at s next))
      (read_as st next)
  unfolding reading_of
  passed next z far within = (
    acc,
    separator-more z acc (cursor_at s next),
    record { inside = within; deep = h.deep; no_body = h.no_body; gathered = h.gathered; affords = affords-on h.affords next (omega arith); fits = h.fits },
    far,
  )

  in_group : (d : ℕ) (acc' : List Item) → (d ≡ 0 → ⊥) → line_items (groups_in w d) acc' ≡ acc'
  unfolding line_items
  in_group d acc' z = rw (some-groups w d z)

  outside : (d : ℕ) (acc' : List Item) → d ≡ 0 → line_items (groups_in w d) acc' ≡ line_end ∷ acc'
  unfolding line_items
  outside d acc' z = rw (no-groups w d z)

  pub line-inside : st.due ≡ 0 → (st.depth ≡ 0 → ⊥) → at < length s
      → OnwardRead s w at (separator (due_of st.due st.elses) (groups_in w st.depth) (line_items (groups_in w st.depth) acc) at (cursor_at s (at + 1)))
      (read_as st (at + 1))
  line-inside z d less = rw (in_group st.depth acc d) (passed (at + 1) z (omega arith) (omega arith))

  pub line-outside : st.due ≡ 0 → st.depth ≡ 0 → at < length s
      → OnwardRead s (set w st.k line_end_kind) at (separator (due_of st.due st.elses) (groups_in w st.depth) (line_items (groups_in w st.depth) acc) at (cursor_at s (at + 1)))
      (read_as (record { k = st.k + 1; due = st.due; elses = st.elses; depth = st.depth }) (at + 1))
  unfolding reading_of ItemAt
  line-outside z d less =
      let far = free s w st at acc h in
      let kept : Unwritten st.k 16 w (set w st.k line_end_kind) = kept_set st.k 16 st.k line_end_kind w w (omega arith) (omega (arith, far)) (kept-all st.k 16 w) in (
        line_end ∷ acc,
        separator-more z (line_items (groups_in w st.depth) acc) (cursor_at s (at + 1))
            ∙ ap (λ (l : List Item). more (reading (cursor_at s (at + 1)) (due_of st.due st.elses) (groups_in w st.depth) l)) (outside st.depth acc d)
            ∙ ap (λ (g : List Group). more (reading (cursor_at s (at + 1)) (due_of st.due st.elses) g (line_end ∷ acc))) (sym (groups-kept st.k 16 w (set w st.k line_end_kind) kept st.depth h.deep)),
        record {
          inside = omega arith;
          deep = h.deep;
          no_body = h.no_body;
          gathered = gather s (set w st.k line_end_kind) st.k (st.k + 1) line_end acc (omega arith) (refl, get_or-set_same w st.k line_end_kind 0 (omega (arith, far)))
              (acc_kept st.k 16 w (set w st.k line_end_kind) kept s acc (omega (arith, far)) h.gathered);
          affords = rw (bodies_kept st.k 16 w (set w st.k line_end_kind) kept st.depth h.deep) (affords-line h.affords z);
          fits = fits_kept st.k 16 w (set w st.k line_end_kind) kept s h.fits;
        },
        omega arith,
      )

  pub end-missing : (st.due ≡ 0 → ⊥) → done (script_end (due_of st.due st.elses) (groups_in w st.depth) acc at) ≡ done (refused_at 3 at)
  unfolding script_end
  end-missing z = rw (some-due st.due st.elses z)

  pub end-open : st.due ≡ 0 → (st.depth ≡ 0 → ⊥) → done (script_end (due_of st.due st.elses) (groups_in w st.depth) acc at) ≡ done (refused_at 5 at)
  unfolding script_end
  end-open z d = rw (none-due st.due st.elses z, some-groups w st.depth d)

  pub end-done : st.due ≡ 0 → st.depth ≡ 0 → Finished s w (done (script_end (due_of st.due st.elses) (groups_in w st.depth) acc at)) st.k
  unfolding script_end
  end-done z d = let all = affords-all h.affords d in (reverse acc, rw (none-due st.due st.elses z, no-groups w st.depth d), record { lie = in_order s w st.k acc h.gathered; room = omega (arith, all.0, h.inside, h.fits.work); short = omega (arith, all.1, h.inside, h.fits.small) })

  pub separator-gives : (next : ℕ) (r : Result (Read State) Refusal) → r ≡ separated st at next → at < next → next ≤ length s
      → OnwardRead s w at (separator (due_of st.due st.elses) (groups_in w st.depth) acc at (cursor_at s next)) r
  unfolding separated
  separator-gives next r e far within = rw e (go (eqb st.due 0) refl)
    where
      go : (t : Bool) → eqb st.due 0 ≡ t
          → OnwardRead s w at (separator (due_of st.due st.elses) (groups_in w st.depth) acc at (cursor_at s next)) (cond t (read_as st next) (refusal Argument at))
      go true z = passed next (eqb-true st.due 0 z) far within
      go false z = separator-missing (eqb-false st.due 0 z) acc (cursor_at s next)

  -- of a round that began anywhere: it does not go on
  abbrev Ended : ℕ → Result ℕ Refusal → Type 0
  Ended from e = RoundRead s w st from (done (script_end (due_of st.due st.elses) (groups_in w st.depth) acc at)) (result_and e (Ok None))

  pub end-gives : (from : ℕ) (e : Result ℕ Refusal) → e ≡ ended st at → Ended from e
  unfolding ended
  end-gives from e is = rw is (go (eqb st.due 0) (eqb st.depth 0) refl refl)
    where
      go : (t u : Bool) → eqb st.due 0 ≡ t → eqb st.depth 0 ≡ u
          → Ended from (cond t (cond u (Ok st.k) (refusal Bracket at)) (refusal Argument at))
      go false u z d = end-missing (eqb-false st.due 0 z)
      go true false z d = end-open (eqb-true st.due 0 z) (eqb-false st.depth 0 d)
      go true true z d = end-done (eqb-true st.due 0 z) (eqb-true st.depth 0 d)

  -- ---- a command that was read

  module _ (x : Got Decoded) where
    whole-comes : (next m : ℕ) (w' : List ℕ) → WholeIs s w at st.k x next m → Closed m st.due w w'
        → OnwardRead s w' at (decoded (due_of st.due st.elses) (groups_in w st.depth) acc x)
        (read_as (record { k = m + st.due; due = 0; elses = false; depth = st.depth }) next)
    unfolding reading_of due_of decoded
    whole-comes next m w' (i, e, l) c =
        let far : m + st.due + 16 ≤ length w = omega (arith, h.affords.room, h.deep, h.fits.work, h.inside, l.two, l.inside, l.passed) in
        let kept : Unwritten m 16 w w' = closed-kept m 16 m st.due w w' (omega arith) far c in (
          closes st.due (i ∷ acc),
          rw (e, bodies-due st.due st.elses, groups-kept m 16 w w' kept st.depth h.deep),
          record {
            inside = l.inside;
            deep = h.deep;
            no_body = λ z. refl;
            gathered = gathered-closes s w' m st.due (i ∷ acc) c.inside
                (acc_kept m 16 w w' kept s (i ∷ acc) (omega (arith, far)) (gather s w st.k m i acc l.forth l.item h.gathered));
            affords = rw (bodies_kept m 16 w w' kept st.depth h.deep) (affords-whole h.affords next m i l.passed (omega (arith, l.two)) l.opening);
            fits = fits_kept m 16 w w' kept s h.fits;
          },
          l.passed,
        )

    prefix-comes : (b : Bool) (next m : ℕ) → PrefixIs s w at st.k x b next m
        → OnwardRead s w at (decoded (due_of st.due st.elses) (groups_in w st.depth) acc x)
        (read_as (record { k = m; due = st.due + 1; elses = b; depth = st.depth }) next)
    unfolding reading_of due_of decoded
    prefix-comes b next m (i, e, l, apart) = (
      i ∷ acc,
      rw (e, bodies-due st.due st.elses, add-one st.due),
      record {
        inside = l.inside;
        deep = h.deep;
        no_body = λ z. absurd (omega (arith, z));
        gathered = gather s w st.k m i acc l.forth l.item h.gathered;
        affords = affords-prefix h.affords next m i l.passed l.two l.opening apart;
        fits = h.fits;
      },
      l.passed,
    )

  closes-room : (next m : ℕ) (x : Got Decoded) → WholeIs s w at st.k x next m → m + st.due ≤ length w
  closes-room next m x (i, e, l) = omega (arith, h.affords.room, h.deep, h.fits.work, h.inside, l.two, l.inside, l.passed)

-- a round that does not end the script, and what it left
pub some-comes : (s w : List ℕ) (st : State) (at : ℕ) (x : AfterRound) (r : Result (Read State) Refusal) (q : Result (Option (Read State)) Refusal)
    → MatchResult r (λ y. IsOkAnd q (λ o. o ≡ Some y)) (λ e. q ≡ Err e) → OnwardRead s w at x r → RoundRead s w st at x q
some-comes s w st at x (Ok y) (Ok o) e h = rw e h
some-comes s w st at x (Ok y) (Err q) e h = absurd e
some-comes s w st at x (Err r) q e h = rw e h

-- a command that was read is whole, or a body must follow it
pub whole_is : (s w : List ℕ) (place k : ℕ) (x : Got Decoded) (f : Follow) (next m : ℕ) → f ≡ Follow.Nothing → CommandIs s w place k x f next m → WholeIs s w place k x next m
unfolding CommandIs
whole_is s w place k x f next m e is = rw e at is

pub prefix-is : (s w : List ℕ) (place k : ℕ) (x : Got Decoded) (f : Follow) (b : Bool) (next m : ℕ) → f ≡ Follow.Body b → CommandIs s w place k x f next m
    → PrefixIs s w place k x b next m
unfolding CommandIs
prefix-is s w place k x f b next m e is = rw e at is

module _ (s w w' : List ℕ) (st : State) (at : ℕ) (acc : List Item) (x : Got Decoded) (h : ReadSoFar s w st at acc) where
  module _ (next m : ℕ) (kept : Unwritten st.k 16 w w') where
    groups-now : groups_in w' st.depth ≡ groups_in w st.depth
    groups-now = groups-kept st.k 16 w w' kept st.depth h.deep

    module _ (is : WholeIs s w' at st.k x next m) where
      pub finish-room : m + st.due ≤ length w'
      finish-room = closes-room s w' st at acc (stands-kept s w w' st at acc kept h) next m x is

      pub finish-whole : (w'' : List ℕ) → Closed m st.due w' w''
          → OnwardRead s w'' at (decoded (due_of st.due st.elses) (groups_in w st.depth) acc x)
          (read_as (record { k = m + st.due; due = 0; elses = false; depth = st.depth }) next)
      finish-whole w'' closed =
          subst (λ (g : List Group). OnwardRead s w'' at (decoded (due_of st.due st.elses) g acc x) (read_as (record { k = m + st.due; due = 0; elses = false; depth = st.depth }) next))
          groups-now (whole-comes s w' st at acc (stands-kept s w w' st at acc kept h) x next m w'' is closed)

    pub finish-prefix : (b : Bool) → PrefixIs s w' at st.k x b next m
        → OnwardRead s w' at (decoded (due_of st.due st.elses) (groups_in w st.depth) acc x)
        (read_as (record { k = m; due = st.due + 1; elses = b; depth = st.depth }) next)
    finish-prefix b is =
        subst (λ (g : List Group). OnwardRead s w' at (decoded (due_of st.due st.elses) g acc x) (read_as (record { k = m; due = st.due + 1; elses = b; depth = st.depth }) next))
        groups-now (prefix-comes s w' st at acc (stands-kept s w w' st at acc kept h) x b next m is)

-- a refusal is passed upward
pub refused-up : (due : Due) (groups : List Group) (acc : List Item) (x : Got Decoded) (n p : ℕ) → x ≡ refused n p → decoded due groups acc x ≡ done (refused_at n p)
unfolding decoded
refused-up due groups acc x n p e = rw e

-- what the reader of a command answered
module _ (s before w : List ℕ) (at k : ℕ) (x : Got Decoded) (c : Result (Read Command) Refusal) (is : CommandRead s before w at k x c) where
  pub command-read : (y : Read Command) → c ≡ Ok y → CommandAt s before w at k x y.value y.next
  command-read y e = rw e at is

  pub finish-refused : (due : Due) (groups : List Group) (acc : List Item) (r : Refusal) → c ≡ Err r → decoded due groups acc x ≡ done (refused_at (number_of r.fault) r.place)
  finish-refused due groups acc r e = refused-up due groups acc x (number_of r.fault) r.place (rw e at is)
