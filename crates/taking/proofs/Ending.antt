-- What ends at a place of T, from the least start: it is what comes out of the pattern's marks there. Assumes nothing.
use mathlib.Core.Path.{◌≡◌, refl, sym, ap, ◌∙◌, subst}
use mathlib.Core.Bool.{Bool, true, false, cond, ◌&&◌}
use mathlib.Core.Option.{none, some}
use mathlib.Core.List.{List, ◌++◌}
use Prim.Native.Nat.{ℕ, ◌+◌, ◌-◌, ◌≤◌, ◌<◌}
use native.Mathlib.Omega.{arith}
use lib.ListN.{length, take, drop, get_or, length-append, take-append-drop}
use lib.Seq.{length-take-le, drop-drop, drop-append_seam}
use lib.Dec.{T, ltb}
use mir.Facts.{and_yes, yes_and}
use borrow.Author.Tests.{ltb-true, ltb-false}
use Rattle.definitions.specs.Bytes.{Line}
use Rattle.definitions.specs.Matching.{byte_before, is_apart, matched, stands_in, to_place}
use Rattle.definitions.specs.Patterns.{Pattern}
use Rattle.theorems.specs.PatternLanguage.{InLanguage}
use Rattle.theorems.specs.PatternTaken.{Matches}
use Rattle.theorems.proofs.PatternTaken.{stands-matches, matches-stands}
use Rattle.theorems.specs.TakenByPlaces.{may_begin, may_end, restricted}
use Rattle.theorems.proofs.TakenByPlaces.{to_none, to_some}
use Rattle.text.specs.Lines.{part}
use Rattle.text.proofs.Parts.{drop-take, part_length}
use Rattle.marks.specs.Sweeping.{never, out_of, marks_after}
use Rattle.marks.specs.Ends.{Ends, out-sound, out-complete}
use Rattle.taking.specs.Ways.{anchor_by, anchor_of, ending_at, is_at, is_free, enter_at, ends_at}
use Rattle.taking.specs.Walking.{stands_by}
use Rattle.taking.specs.declared.Way.{Way}

-- ---- B, E, P and W, each at its place

begin-is : (left right : Bool) (start i : ℕ) → may_begin (anchor_by left right) start i ≡ is_at left i start
unfolding may_begin anchor_by is_at
begin-is false false start i = refl
begin-is false true start i = refl
begin-is true false start i = refl
begin-is true true start i = refl

end_is : (left right : Bool) (end i : ℕ) → may_end (anchor_by left right) end i ≡ is_at right i end
unfolding may_end anchor_by is_at
end_is false false end i = refl
end_is false true end i = refl
end_is true false end i = refl
end_is true true end i = refl

apart-is : (isWord : ℕ → Bool) (w : Bool) (l : Line) (i j : ℕ) → is_apart isWord w l i j ≡ (is_free isWord w (byte_before l i) && is_free isWord w (get_or l j 0))
unfolding is_apart is_free
apart-is isWord true l i j = refl
apart-is isWord false l i j = refl

-- ---- where a match begins

module _ (isWord : ℕ → Bool) (way : Way) (l : Line) (start : ℕ) where
  -- only the place itself, or nothing, is entered
  pub enter-open : (j : ℕ) → T (is_at way.left j start) → T (is_free isWord way.word (byte_before l j)) → enter_at isWord way l start j ≡ j
  unfolding enter_at
  enter-open j a f = go (is_at way.left j start) (is_free isWord way.word (byte_before l j)) a f
    where
      go : (s t : Bool) → T s → T t → cond s (cond t j never) never ≡ j
      go true true a f = refl
      go true false a f = absurd f
      go false true a f = absurd a
      go false false a f = absurd a

  pub enter-only : (j t : ℕ) → t < never → enter_at isWord way l start j ≤ t
      → (enter_at isWord way l start j ≡ j) × T (is_at way.left j start) × T (is_free isWord way.word (byte_before l j))
  unfolding enter_at
  enter-only j t low h = go (is_at way.left j start) (is_free isWord way.word (byte_before l j)) h
    where
      go : (s u : Bool) → cond s (cond u j never) never ≤ t → (cond s (cond u j never) never ≡ j) × T s × T u
      go true true h = (refl, tt, tt)
      go true false h = omega arith
      go false true h = omega arith
      go false false h = omega arith

-- ---- what stands from j up to e

module _ (isWord : ℕ → Bool) (way : Way) (p : Pattern) (l : Line) (start end : ℕ) where
  -- the three tests of a part: where it begins, where it ends, what it is
  Passes : ℕ → ℕ → Type 0
  Passes j e = (enter_at isWord way l start j ≡ j) × T (ends_at isWord way l end e) × InLanguage p (take (e - j) (drop j l))

  ends_open : (e : ℕ) → T (is_at way.right e end) → T (is_free isWord way.word (get_or l e 0)) → T (ends_at isWord way l end e)
  unfolding ends_at
  ends_open e a f = go (is_at way.right e end) a
    where
      go : (s : Bool) → T s → T (cond s (is_free isWord way.word (get_or l e 0)) false)
      go true a = f
      go false a = absurd a

  ends-only : (e : ℕ) → T (ends_at isWord way l end e) → T (is_at way.right e end) × T (is_free isWord way.word (get_or l e 0))
  unfolding ends_at
  ends-only e h = go (is_at way.right e end) h
    where
      go : (s : Bool) → T (cond s (is_free isWord way.word (get_or l e 0)) false) → T s × T (is_free isWord way.word (get_or l e 0))
      go true h = (tt, h)
      go false h = absurd h

  stands-passes : (j e : ℕ) → j ≤ e → T (stands_by isWord way p l start end j (e - j)) → Passes j e
  unfolding restricted Passes Matches
  stands-passes j e le h =
      let to : j + (e - j) ≡ e = omega arith in
      let a : T (may_begin (anchor_of way) start j) × T (may_end (anchor_of way) end (j + (e - j)) && stands_in isWord way.word p l j (e - j)) =
      and_yes (may_begin (anchor_of way) start j) (may_end (anchor_of way) end (j + (e - j)) && stands_in isWord way.word p l j (e - j)) h in
      let b : T (may_end (anchor_of way) end (j + (e - j))) × T (stands_in isWord way.word p l j (e - j)) =
      and_yes (may_end (anchor_of way) end (j + (e - j))) (stands_in isWord way.word p l j (e - j)) a.1 in
      let m : Matches isWord way.word p l j (e - j) = stands-matches isWord way.word p l j (e - j) b.1 in
      let f : T (is_free isWord way.word (byte_before l j)) × T (is_free isWord way.word (get_or l e 0)) =
      and_yes (is_free isWord way.word (byte_before l j)) (is_free isWord way.word (get_or l e 0))
      (subst T (apart-is isWord way.word l j e) (subst (λ (n : ℕ). T (is_apart isWord way.word l j n)) to m.1)) in (
        enter-open isWord way l start j (subst T (begin-is way.left way.right start j) a.0) f.0,
        ends_open e (subst T (end_is way.left way.right end e) (subst (λ (n : ℕ). T (may_end (anchor_of way) end n)) to b.0)) f.1,
        m.0,
      )

  passes-stands : (j e t : ℕ) → j ≤ e → t < never → enter_at isWord way l start j ≤ t → T (ends_at isWord way l end e) → InLanguage p (take (e - j) (drop j l))
      → T (stands_by isWord way p l start end j (e - j))
  unfolding restricted Matches
  passes-stands j e t le low h d m =
      let to : e ≡ j + (e - j) = omega arith in
      let a = enter-only isWord way l start j t low h in
      let f = ends-only e d in
      yes_and (may_begin (anchor_of way) start j) (may_end (anchor_of way) end (j + (e - j)) && stands_in isWord way.word p l j (e - j))
      (subst T (sym (begin-is way.left way.right start j)) a.1)
      (yes_and (may_end (anchor_of way) end (j + (e - j))) (stands_in isWord way.word p l j (e - j))
      (subst (λ (n : ℕ). T (may_end (anchor_of way) end n)) to (subst T (sym (end_is way.left way.right end e)) f.0))
      (matches-stands isWord way.word p l j (e - j) (
        m,
        subst (λ (n : ℕ). T (is_apart isWord way.word l j n)) to (subst T (sym (apart-is isWord way.word l j e))
            (yes_and (is_free isWord way.word (byte_before l j)) (is_free isWord way.word (get_or l e 0)) a.2 f.1)),
      )))

-- ---- what comes out of the marks

pub below-never : (n : ℕ) → n ≤ 255 → n < never
unfolding never
below-never n h = omega arith

-- what follows the first bytes of those from `start` to e
rest_of : (l y z : List ℕ) (start e : ℕ) → part start e l ≡ y ++ z → z ≡ take (e - (start + length y)) (drop (start + length y) l)
rest_of l y z start e q =
    let less : e - start - length y ≡ e - (start + length y) = omega arith in
    sym (drop-append_seam y z) ∙ ap (drop (length y)) (sym q) ∙ drop-take (length y) (e - start) (drop start l)
    ∙ ap (λ (n : ℕ). take n (drop (length y) (drop start l))) less ∙ ap (take (e - (start + length y))) (drop-drop (length y) start l)

module _ (isWord : ℕ → Bool) (way : Way) (p : Pattern) (l : Line) (start end e : ℕ) (from : start ≤ e) (inside : e ≤ length l) (short : length l ≤ 255) where
  abbrev enters : ℕ → ℕ
  enters j = enter_at isWord way l start (start + j)

  -- the least start of what has come past the pattern at place e
  abbrev pub out_at : ℕ
  out_at = out_of (enter_at isWord way l start e) p (marks_after enters p (part start e l))

  out-is : out_of (enters (length (part start e l))) p (marks_after enters p (part start e l)) ≡ out_at
  out-is =
      let to : start + (e - start) ≡ e = omega arith in
      ap (λ (n : ℕ). out_of (enters n) p (marks_after enters p (part start e l))) (part_length l start e inside)
      ∙ ap (λ (n : ℕ). out_of (enter_at isWord way l start n) p (marks_after enters p (part start e l))) to

  -- what stands up to e comes out no later than it begins
  out-least : (j : ℕ) → start ≤ j → j ≤ e → Passes isWord way p l start end j e → out_at ≤ j
  unfolding Passes Ends
  out-least j h k s =
      subst (λ (n : ℕ). n ≤ j) out-is
      (out-complete enters p (part start e l) j
      (take (j - start) (part start e l), drop (j - start) (part start e l), sym (take-append-drop (j - start) (part start e l)), begun, rest))
    where
      size : length (take (j - start) (part start e l)) ≡ j - start
      size = length-take-le (j - start) (part start e l) (rw (part_length l start e inside) (omega arith))

      place : start + length (take (j - start) (part start e l)) ≡ j
      place = ap (λ (n : ℕ). start + n) size ∙ (omega arith)

      begun : enters (length (take (j - start) (part start e l))) ≤ j
      begun = rw place (omega (arith, s.0))

      rest : InLanguage p (drop (j - start) (part start e l))
      rest =
          subst (InLanguage p)
          (sym (rest_of l (take (j - start) (part start e l)) (drop (j - start) (part start e l)) start e (sym (take-append-drop (j - start) (part start e l)))))
          (rw place s.2)

  -- what comes out stands up to e, where a match may end there
  Standing : Type 0
  Standing = (start ≤ out_at) × (out_at ≤ e) × T (stands_by isWord way p l start end out_at (e - out_at))

  module _ (low : out_at < never) (d : T (ends_at isWord way l end e)) (y z : List ℕ) (q : part start e l ≡ y ++ z) (h : enters (length y) ≤ out_at) (m : InLanguage p z) where
    fits : start + length y ≤ e
    fits = omega (arith, sym (part_length l start e inside) ∙ ap length q ∙ length-append y z)

    whole : InLanguage p (take (e - (start + length y)) (drop (start + length y) l))
    whole = subst (InLanguage p) (rest_of l y z start e q) m

    own : enter_at isWord way l start (start + length y) ≡ start + length y
    own = (enter-only isWord way l start (start + length y) out_at low h).0

    same : out_at ≡ start + length y
    unfolding Passes
    same = omega (arith, out-least (start + length y) (omega arith) fits (own, d, whole), own, h)

    standing : Standing
    unfolding Standing
    standing = (
      omega (arith, same),
      omega (arith, same, fits),
      subst (λ (j : ℕ). T (stands_by isWord way p l start end j (e - j))) (sym same)
          (passes-stands isWord way p l start end (start + length y) e out_at fits low h d whole),
    )

  out-stands : out_at < never → T (ends_at isWord way l end e) → Standing
  unfolding Ends
  out-stands low d =
      let ends : Ends enters p (part start e l) out_at = out-sound enters p (part start e l) out_at low (rw out-is (omega arith)) in
      standing low d ends.0 ends.1 ends.2 ends.3 ends.4

  -- what ends at e, from the least start
  pub to_out : to_place (stands_by isWord way p l start end) start e ≡ cond (ends_at isWord way l end e) (ending_at out_at e) none
  unfolding ending_at Standing Passes
  to_out = go (ends_at isWord way l end e) refl
    where
      nothing : ends_at isWord way l end e ≡ false → (j : ℕ) → start ≤ j → j ≤ e → T (stands_by isWord way p l start end j (e - j)) → ⊥
      nothing q j h k s = subst T q (stands-passes isWord way p l start end j e k s).1

      may : ends_at isWord way l end e ≡ true → (t : Bool) → ltb out_at never ≡ t
          → to_place (stands_by isWord way p l start end) start e ≡ cond t (some (matched out_at (e - out_at))) none
      may q true r =
          let s : Standing = out-stands (ltb-true out_at never r) (rw q tt) in
          to_some (stands_by isWord way p l start end) start e out_at s.0 s.1 s.2
          (λ j h k t. omega (arith, out-least j h (omega (arith, s.1)) (stands-passes isWord way p l start end j e (omega (arith, s.1)) t)))
      may q false r =
          to_none (stands_by isWord way p l start end) start e from
          (λ j h k t. omega (arith, ltb-false out_at never r, below-never (length l) short, out-least j h k (stands-passes isWord way p l start end j e k t)))

      go : (t : Bool) → ends_at isWord way l end e ≡ t → to_place (stands_by isWord way p l start end) start e ≡ cond t (ending_at out_at e) none
      go true q = may q (ltb out_at never) refl
      go false q = to_none (stands_by isWord way p l start end) start e from (nothing q)

  -- it begins no later than it ends
  pub out-order : out_at < never → T (ends_at isWord way l end e) → out_at ≤ e
  unfolding Standing
  out-order low d = (out-stands low d).1
