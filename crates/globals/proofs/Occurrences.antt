-- Where a global's string next occurs in a line, and what is put for it there. Assumes nothing.
use Rattle.std.specs.Prelude as Prelude
use Rattle.std.specs.Prelude.{Some, None}
use mathlib.Core.Path.{◌≡◌, refl, sym, ap, ◌∙◌, subst}
use mathlib.Core.Bool.{Bool, true, false, false≢true}
use mathlib.Core.Option.{Option, none, some}
use mathlib.Core.List.{List, [], ◌∷◌, ◌++◌}
use Prim.Native.Nat.{ℕ, zero, suc, ◌+◌, ◌-◌, ◌≤◌, ◌<◌}
use native.Mathlib.Nat.{add-zero, add-suc}
use native.Mathlib.Omega.{arith}
use lib.ListN.{length, drop, get_or, length-drop}
use lib.Seq.{drop-cons, drop-drop}
use lib.Dec.{eqb}
use Rattle.definitions.specs.WordSet.{is_word_byte}
use Rattle.definitions.specs.Matching.{folded, stands_first, is_apart, stands_at, occurrence, located, counted, places, place_from, place_in, window, after_spaces, qualified, Match, matched, with_width, match_of}
use Rattle.definitions.specs.Strings.{no_qualifiers}
use Rattle.definitions.specs.Globals.{put_for_each}
use Rattle.theorems.specs.Lines.{and_right}
use Rattle.text.specs.Lines.{part}
use Rattle.text.proofs.Parts.{part_none, part-cons}
use Rattle.matching.proofs.Counts.{no_place, found_here, not-here}
use Rattle.matching.proofs.Plain.{plain-none}
use Rattle.taking.specs.Ways.{found_of}
use Rattle.taking.specs.declared.Found.{Found}
use Rattle.matching.specs.Quals.{plain, qualifiers_of, Formed}
use Rattle.matching.specs.declared.Quals.{Quals}
use Rattle.globals.specs.Passing.{place_or, next_place}

-- a string that stands first is no longer than the bytes
stands-length : (s l : List ℕ) → stands_first false s l ≡ true → length s ≤ length l
unfolding stands_first
stands-length [] l e = omega arith
stands-length (x ∷ s) [] e = absurd (false≢true e)
stands-length (x ∷ s) (b ∷ l) e =
    let h = stands-length s l (and_right (eqb (folded false x) (folded false b)) (stands_first false s l) e) in
    omega (arith, h)

stands-plainly : (s l : List ℕ) (i : ℕ) (t : Bool) → stands_first false s (drop i l) ≡ t → stands_at (is_word_byte []) false false s l i ≡ t
unfolding stands_at is_apart
stands-plainly s l i true e = rw e
stands-plainly s l i false e = rw e

module _ (s put : List ℕ) where
  -- the bytes of the last occurrence are passed
  skips : (k : ℕ) (l : List ℕ) → put_for_each s put k l ≡ put_for_each s put 0 (drop k l)
  unfolding put_for_each
  skips zero l = refl
  skips (suc k) [] = refl
  skips (suc k) (b ∷ l) = skips k l

  stands_here : (b : ℕ) (l : List ℕ) → stands_first false s (b ∷ l) ≡ true → put_for_each s put 0 (b ∷ l) ≡ put ++ put_for_each s put (length s - 1) l
  unfolding put_for_each
  stands_here b l e = rw (e, put_for_each)

  stands-not : (b : ℕ) (l : List ℕ) → stands_first false s (b ∷ l) ≡ false → put_for_each s put 0 (b ∷ l) ≡ b ∷ put_for_each s put 0 l
  unfolding put_for_each
  stands-not b l e = rw (e, put_for_each)

  put-here : (l : List ℕ) → 0 < length s → stands_first false s l ≡ true → put_for_each s put 0 l ≡ put ++ put_for_each s put 0 (drop (length s) l)
  put-here [] pos e =
      let h = stands-length s [] e in
      absurd (omega (arith, h))
  put-here (b ∷ l) pos e =
      let n : suc (length s - 1) ≡ length s = omega arith in
      stands_here b l e ∙ ap (λ (x : List ℕ). put ++ x) (skips (length s - 1) l ∙ ap (λ (n : ℕ). put_for_each s put 0 (drop n (b ∷ l))) n)

  too_short : (l : List ℕ) → length l < length s → put_for_each s put 0 l ≡ l
  unfolding put_for_each
  too_short [] h = refl
  too_short (b ∷ l) h = stands-not b l (go (stands_first false s (b ∷ l)) refl) ∙ ap (λ (x : List ℕ). b ∷ x) (too_short l (omega arith))
    where
      go : (t : Bool) → stands_first false s (b ∷ l) ≡ t → stands_first false s (b ∷ l) ≡ false
      go true e =
          let k = stands-length s (b ∷ l) e in
          absurd (omega (arith, h, k))
      go false e = e

  -- from place i on the string next occurs at a
  pub record Next (l : List ℕ) (i a : ℕ) : Type 0 where
    pub from : i ≤ a
    pub fits : a + length s ≤ length l
    pub text : put_for_each s put 0 (drop i l) ≡ part i a l ++ (put ++ put_for_each s put 0 (drop (a + length s) l))

  module _ (l : List ℕ) (pos : 0 < length s) where
    unfoldable Goes : Option Match → ℕ → Type 0
    Goes none i = put_for_each s put 0 (drop i l) ≡ drop i l
    Goes (some m) i = Next l i m.place

    here : (i : ℕ) → stands_first false s (drop i l) ≡ true → i ≤ length l → Goes (some (matched i (length s))) i
    unfolding Goes
    here i e h =
        let k = stands-length s (drop i l) e in
        record {
          from = omega arith;
          fits = omega (arith, k, length-drop i l);
          text = put-here (drop i l) pos e ∙ ap (λ (x : List ℕ). put ++ put_for_each s put 0 x) (drop-drop (length s) i l)
              ∙ ap (λ (x : List ℕ). x ++ (put ++ put_for_each s put 0 (drop (i + length s) l))) (sym (part_none l i));
        }

    later : (o : Option Match) (i : ℕ) → i < length l → stands_first false s (drop i l) ≡ false → Goes o (suc i) → Goes o i
    unfolding Goes
    later none i h e g =
        let d : drop i l ≡ get_or l i 0 ∷ drop (suc i) l = drop-cons l i 0 h in
        ap (put_for_each s put 0) d ∙ stands-not (get_or l i 0) (drop (suc i) l) (ap (stands_first false s) (sym d) ∙ e)
        ∙ ap (λ (x : List ℕ). get_or l i 0 ∷ x) g ∙ sym d
    later (some m) i h e g =
        let d : drop i l ≡ get_or l i 0 ∷ drop (suc i) l = drop-cons l i 0 h in
        record {
          from = omega (arith, g.from);
          fits = g.fits;
          text = ap (put_for_each s put 0) d ∙ stands-not (get_or l i 0) (drop (suc i) l) (ap (stands_first false s) (sym d) ∙ e)
              ∙ ap (λ (x : List ℕ). get_or l i 0 ∷ x) g.text
              ∙ ap (λ (x : List ℕ). x ++ (put ++ put_for_each s put 0 (drop (m.place + length s) l))) (sym (part-cons l i m.place g.from (omega (arith, g.fits))));
        }

    past : (i : ℕ) → i ≤ length l → length l < i + length s → Goes none i
    unfolding Goes
    past i k h = too_short (drop i l) (rw length-drop (omega (arith, h, k)))

    module _ (p : ℕ) (in-line : p ≤ length l) where
      abbrev from_p : ℕ → ℕ → Option Match
      from_p left j = with_width (length s) (located (λ j. p + j) (occurrence (λ j. stands_at (is_word_byte []) false false s l (p + j)) (length s) 0 0 left j))

      goes : (left j : ℕ) → p + j ≤ length l → left ≡ suc (length l) - (p + j + length s) → Goes (from_p left j) (p + j)
      unfolding located with_width
      goes zero j k e = rw (no_place (λ j. stands_at (is_word_byte []) false false s l (p + j)) (length s) 0 0 j) (past (p + j) k (omega (arith, e)))
      goes (suc left) j k e = by (stands_first false s (drop (p + j) l)) refl (λ h x. goes left (suc j) h x)
        where
          by : (t : Bool) → stands_first false s (drop (p + j) l) ≡ t
              → (p + suc j ≤ length l → left ≡ suc (length l) - (p + suc j + length s) → Goes (from_p left (suc j)) (p + suc j)) → Goes (from_p (suc left) j) (p + j)
          by true x go = rw (found_here (λ j. stands_at (is_word_byte []) false false s l (p + j)) (length s) left j (stands-plainly s l (p + j) true x)) (here (p + j) x k)
          by false x go =
              rw (not-here (λ j. stands_at (is_word_byte []) false false s l (p + j)) (length s) 0 left j (stands-plainly s l (p + j) false x))
              (later (from_p left (suc j)) (p + j) (omega (arith, e)) x (subst (Goes (from_p left (suc j))) (add-suc p j) (go (omega (arith, e)) (omega (arith, e)))))

      plain-match : match_of (is_word_byte []) (qualified no_qualifiers s) p l ≡ from_p (suc (length l - p) - length s) 0
      unfolding match_of no_qualifiers after_spaces window place_in counted places place_from located
      plain-match = refl

      next-goes : Goes (match_of (is_word_byte []) (qualified no_qualifiers s) p l) p
      next-goes = rw plain-match (subst (Goes (from_p (suc (length l - p) - length s) 0)) (add-zero p) (goes (suc (length l - p) - length s) 0 (omega arith) (omega arith)))

      -- it occurs, and where; or it does not
      pub occurs : next_place s l p < length l → Next l p (next_place s l p)
      unfolding Goes place_or
      occurs = by (match_of (is_word_byte []) (qualified no_qualifiers s) p l) next-goes
        where
          by : (o : Option Match) → Goes o p → place_or (length l) o < length l → Next l p (place_or (length l) o)
          by none g h = absurd (omega (arith, h))
          by (some m) g h = g

      pub nowhere : (next_place s l p < length l → ⊥) → put_for_each s put 0 (drop p l) ≡ drop p l
      unfolding Goes place_or
      nowhere = by (match_of (is_word_byte []) (qualified no_qualifiers s) p l) next-goes
        where
          by : (o : Option Match) → Goes o p → (place_or (length l) o < length l → ⊥) → put_for_each s put 0 (drop p l) ≡ drop p l
          by none g h = g
          by (some m) g h = absurd (h (omega (arith, g.fits)))

-- without W it does not matter which bytes count for it
any_word : (isWord : ℕ → Bool) (s l : List ℕ) (p : ℕ) → match_of isWord (qualified no_qualifiers s) p l ≡ match_of (is_word_byte []) (qualified no_qualifiers s) p l
unfolding match_of no_qualifiers stands_at is_apart
any_word isWord s l p = refl

-- without R the string is no pattern
pub plain-formed : (q : Quals) → q ≡ plain → (s : List ℕ) → Formed q s
plain-formed q is s given = absurd (false≢true (sym (ap (λ (x : Quals). x.pattern) is) ∙ given))

-- what `find` gives without qualifiers
module _ (isWord : ℕ → Bool) (s l : List ℕ) (p : ℕ) (r : Prelude.Option Found) (q : Quals) (none : q ≡ plain) (e : found_of r ≡ match_of isWord (qualified (qualifiers_of q) s) p l) where
  plainly : found_of r ≡ match_of (is_word_byte []) (qualified no_qualifiers s) p l
  plainly = rw (← any_word isWord s l p, ← plain-none, ← none) e

  pub is_at : (f : Found) → r ≡ Some f → f.at ≡ next_place s l p
  unfolding found_of place_or
  is_at f h = ap (place_or (length l)) (sym (ap found_of h) ∙ plainly)

  pub is-nowhere : r ≡ None → length l ≡ next_place s l p
  unfolding found_of place_or
  is-nowhere h = ap (place_or (length l)) (sym (ap found_of h) ∙ plainly)
