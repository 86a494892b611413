-- What a qualified string matches, by its anchor, in the text T that is known. Assumes nothing.
use Rattle.std.specs.Prelude.{Option, Some, None, is_some}
use mathlib.Core.Path.{◌≡◌, refl, sym, ap, ◌∙◌}
use mathlib.Core.Bool.{Bool, true, false, not, beq}
use mathlib.Core.Option.{none}
use mathlib.Core.List.{List}
use Prim.Native.Nat.{ℕ, zero, suc, ◌-◌, ◌≤◌, ◌<◌}
use native.Mathlib.Nat.{add-zero, sub-zero}
use native.Mathlib.Omega.{arith}
use lib.ListN.{length}
use borrow.Author.Tests.{le-leb, eq-eqb, ne_eqb}
use Rattle.definitions.specs.Matching.{Anchor, anywhere, at_start, at_end, precisely, Text, text, window, after_spaces, stands_at, places, place_from, occurrence, located, only_at, counted, place_in, stands_in, taken, taken_by, qualified, with_width, match_of, is_found, turned, is_negated, matches}
use Rattle.definitions.specs.Patterns.{Pattern}
use Rattle.marks.specs.Sweeping.{Reads}
use Rattle.taking.specs.Ways.{anchor_by, found_of}
use Rattle.matching.specs.Quals.{anchor_of, columns_of, qualifiers_of, TextIn, string_in, pattern_in}
use Rattle.matching.specs.declared.Quals.{Quals}
use Rattle.matching.specs.declared.Span.{Span}
use Rattle.taking.specs.declared.Way.{Way}
use Rattle.taking.specs.declared.Found.{Found}

no-places : (a : Anchor) (st : ℕ → Bool) (w k : ℕ) (last : Bool) (t : Text) → places w t ≡ 0 → place_in a st w k last t ≡ none
unfolding place_in counted located occurrence only_at
no-places anywhere st w k last t e = rw e
no-places at_start st w k last t e = rw e
no-places at_end st w k last t e = rw e
no-places precisely st w k last t e = rw e

is-precise : (n : ℕ) → (n ≡ 0 → ⊥) → (n ≡ 1 → ⊥) → (n ≡ 2 → ⊥) → anchor_of n ≡ precisely
unfolding anchor_of
is-precise zero a b c = absurd (a refl)
is-precise (suc zero) a b c = absurd (b refl)
is-precise (suc (suc zero)) a b c = absurd (c refl)
is-precise (suc (suc (suc n))) a b c = refl

module _ (isWord : ℕ → Bool) (q : Quals) (s l : List ℕ) (start end : ℕ) where
  pub too_short : end - start < length s → found_of None ≡ string_in isWord q s l (text start end)
  unfolding found_of string_in with_width places
  too_short h =
      sym (ap (with_width (length s)) (no-places (anchor_of q.anchor) (stands_at isWord q.word q.fold s l) (length s) q.count q.last (text start end) (omega arith)))

  module _ (r : Option Found) where
    pub found-counted : (last : Bool) → q.anchor ≡ 0 → q.last ≡ last
        → found_of r ≡ with_width (length s) (counted (stands_at isWord q.word q.fold s l) (length s) q.count last (text start end)) → found_of r ≡ string_in isWord q s l (text start end)
    unfolding string_in anchor_of place_in
    found-counted last a b e = e ∙ sym (rw (a, b))

    module _ (fits : length s ≤ end - start) where
      pub found-start : q.anchor ≡ 1 → found_of r ≡ with_width (length s) (only_at (stands_at isWord q.word q.fold s l start) start)
          → found_of r ≡ string_in isWord q s l (text start end)
      unfolding string_in anchor_of place_in places place_from
      found-start a e = e ∙ sym (rw (a, le-leb 1 (suc (end - start) - length s) (omega arith), add-zero))

      pub found-end : q.anchor ≡ 2 → found_of r ≡ with_width (length s) (only_at (stands_at isWord q.word q.fold s l (end - length s)) (end - length s))
          → found_of r ≡ string_in isWord q s l (text start end)
      unfolding string_in anchor_of place_in places place_from
      found-end a e = e ∙ sym (rw (a, le-leb 1 (suc (end - start) - length s) (omega arith), sub-zero))

  module _ (a : q.anchor ≡ 0 → ⊥) (b : q.anchor ≡ 1 → ⊥) (c : q.anchor ≡ 2 → ⊥) where
    pub found-whole : (r : Option Found) → end - start ≡ length s → found_of r ≡ with_width (length s) (only_at (stands_at isWord q.word q.fold s l start) start)
        → found_of r ≡ string_in isWord q s l (text start end)
    unfolding string_in place_in places place_from
    found-whole r h e = e ∙ sym (rw (is-precise q.anchor a b c, eq-eqb (suc (end - start) - length s) 1 (omega arith), add-zero))

    pub not-whole : (end - start ≡ length s → ⊥) → length s ≤ end - start → found_of None ≡ string_in isWord q s l (text start end)
    unfolding string_in place_in places found_of with_width only_at
    not-whole h fits =
        sym (rw (is-precise q.anchor a b c, ne_eqb (suc (end - start) - length s) 1 (λ e. h (omega (arith, e)))))

-- the walk is asked for what the qualifiers ask for
pub found-taken : (isWord : ℕ → Bool) (q : Quals) (pat : Pattern) (l : List ℕ) (t : Text) (way : Way) (r : Option Found)
    → (anchor_by way.left way.right ≡ anchor_of q.anchor) × (way.last ≡ q.last) × (way.word ≡ q.word)
    → found_of r ≡ taken (anchor_by way.left way.right) way.last (stands_in isWord way.word pat l) t → found_of r ≡ pattern_in isWord q pat l t
unfolding pattern_in
found-taken isWord q pat l t way r asks e = e ∙ rw (asks.0, asks.1, asks.2)

-- a string, and a pattern, in the text T that is known
module _ (isWord : ℕ → Bool) (q : Quals) (s l : List ℕ) (p : ℕ) (t : Span) (known : TextIn l t (after_spaces q.skip l (window (columns_of q.from q.to) p l))) (r : Option Found) where
  pub by-string : q.pattern ≡ false → found_of r ≡ string_in isWord q s l (text t.start t.end) → found_of r ≡ match_of isWord (qualified (qualifiers_of q) s) p l
  unfolding match_of qualifiers_of string_in
  by-string off e = e ∙ sym (rw (off, ← known.is, off))

  pub by-pattern : q.pattern ≡ true → (pat : Pattern) → Reads s pat
      → found_of r ≡ pattern_in isWord q pat l (text t.start t.end)
      → found_of r ≡ match_of isWord (qualified (qualifiers_of q) s) p l
  unfolding match_of qualifiers_of taken_by pattern_in
  by-pattern on pat reads e = e ∙ sym (rw (on, reads, ← known.is))

-- N
differs : (t n : Bool) → not (beq t n) ≡ turned n t
unfolding turned
differs true true = refl
differs true false = refl
differs false true = refl
differs false false = refl

is-some-found : (r : Option Found) → is_some r ≡ is_found (found_of r)
unfolding found_of is_found
is-some-found (Some f) = refl
is-some-found None = refl

pub turned-match : (isWord : ℕ → Bool) (q : Quals) (s l : List ℕ) (p : ℕ) (r : Option Found) → found_of r ≡ match_of isWord (qualified (qualifiers_of q) s) p l
    → not (beq (is_some r) q.negated) ≡ matches isWord (qualified (qualifiers_of q) s) p l
unfolding matches is_negated qualifiers_of
turned-match isWord q s l p r e = differs (is_some r) q.negated ∙ ap (turned q.negated) (is-some-found r ∙ ap is_found e)
