-- Spaces, comments and line ends at a place of the script. Assumes nothing.
use mathlib.Core.Path.{◌≡◌, refl, sym, ◌∙◌}
use mathlib.Core.Bool.{Bool, true, false, false≢true}
use mathlib.Core.List.{List, [], ◌∷◌}
use Prim.Native.Nat.{ℕ, zero, suc, ◌+◌, ◌-◌, ◌≤◌, ◌<◌}
use native.Mathlib.Nat.{not-suc-le-zero, add-zero}
use native.Mathlib.Omega.{arith}
use native.Mathlib.Numerals.{add-one}
use lib.ListN.{length, drop, get_or, length-drop, drop_of_length-le}
use lib.Seq.{drop-cons, drop-drop}
use lib.Dec.{eqb, ltb}
use borrow.Author.Tests.{ne_eqb, eqb-true, ltb-true, ltb-false, not-true, not-false}
use Rattle.definitions.specs.Reader.{Cursor, cursor, spaces_at, skip_spaces, line_end_at, skip_comment, blank_at, next_byte}
use Rattle.scans.specs.Leading.{leading, is_of}
use Rattle.scans.specs.declared.Kind.TheVariants.{Only, Not, Either}
use Rattle.scans.proofs.Runs.{leading-here, leading-later, reach, reach-on, reach-fails}
use Rattle.lexer.specs.Places.{cursor_at}
use Rattle.lexer.proofs.AtPlace.{next-in, next-inside}

-- ---- a run of bytes of one kind: `f` goes on where the byte passes the test, and is `g` where it does not

module _ (test : ℕ → Bool) (f g : ℕ → List ℕ → Cursor) (none : (at : ℕ) → f at [] ≡ g at [])
    (on : (at b : ℕ) (bs : List ℕ) → test b ≡ true → f at (b ∷ bs) ≡ f (suc at) bs)
    (stop : (at b : ℕ) (bs : List ℕ) → test b ≡ false → f at (b ∷ bs) ≡ g at (b ∷ bs)) where
  run : (n at : ℕ) (bs : List ℕ) → length bs ≤ n → f at bs ≡ g (at + leading test n bs) (drop (leading test n bs) bs)
  unfolding leading
  run zero at [] h = none at ∙ rw add-zero
  run (suc n) at [] h = none at ∙ rw add-zero
  run zero at (b ∷ bs) h = absurd (not-suc-le-zero h)
  run (suc n) at (b ∷ bs) h = go (test b) refl (run n (suc at) bs (omega arith))
    where
      go : (t : Bool) → test b ≡ t → f (suc at) bs ≡ g (suc at + leading test n bs) (drop (leading test n bs) bs)
          → f at (b ∷ bs) ≡ g (at + leading test (suc n) (b ∷ bs)) (drop (leading test (suc n) (b ∷ bs)) (b ∷ bs))
      go true e ih =
          let more : suc at + leading test n bs ≡ at + suc (leading test n bs) = omega arith in
          on at b bs e ∙ ih ∙ rw (leading-later test n b bs e, more)
      go false e ih = stop at b bs e ∙ rw (leading-here test (suc n) b bs e, add-zero)

  pub run-to : (s : List ℕ) (at r : ℕ) → r ≡ reach test s at (length s) → f at (drop at s) ≡ g r (drop r s)
  run-to s at r e =
      let h : length (drop at s) ≤ length s - at = simp length-drop (omega arith) in
      run (length s - at) at (drop at s) h ∙ rw (drop-drop (leading test (length s - at) (drop at s)) at s, ← e)

pub spaces-to : (s : List ℕ) (at r : ℕ) → r ≡ reach (is_of (Only 32)) s at (length s) → skip_spaces (cursor_at s at) ≡ cursor_at s r
unfolding skip_spaces spaces_at is_of
spaces-to = run-to (is_of (Only 32)) spaces_at cursor (λ at. refl) (λ at b bs e. rw (e, spaces_at)) (λ at b bs e. rw (e, spaces_at))

pub comment-to : (s : List ℕ) (at r : ℕ) → r ≡ reach (is_of (Not 10)) s at (length s) → skip_comment (cursor_at s at) ≡ cursor_at s r
unfolding skip_comment line_end_at is_of
comment-to = run-to (is_of (Not 10)) line_end_at cursor (λ at. refl) (λ at b bs e. rw (not-true (eqb b 10) e, line_end_at)) (λ at b bs e. rw (not-false (eqb b 10) e, line_end_at))

pub comment-more : (s : List ℕ) (i : ℕ) → i < length s → (get_or s i 0 ≡ 10 → ⊥) → skip_comment (cursor_at s i) ≡ skip_comment (cursor_at s (i + 1))
unfolding skip_comment line_end_at
comment-more s i more e = rw (add-one i, drop-cons s i 0 more, ne_eqb (get_or s i 0) 10 e, line_end_at)

-- ---- spaces, comments and line ends

blank-on : (at b : ℕ) (bs : List ℕ) → is_of (Either 32 10) b ≡ true → blank_at false at (b ∷ bs) ≡ blank_at false (suc at) bs
unfolding blank_at is_of
blank-on at b bs e = rw (ne_eqb b 92 (λ h. false≢true (rw h at e)), e, blank_at)

-- past spaces and line ends
pub blank-to : (s : List ℕ) (at r : ℕ) → r ≡ reach (is_of (Either 32 10)) s at (length s) → blank_at false at (drop at s) ≡ blank_at false r (drop r s)
blank-to = run-to (is_of (Either 32 10)) (blank_at false) (blank_at false) (λ at. refl) blank-on (λ at b bs e. refl)

-- in a comment, to its end
comment-blank : (s : List ℕ) (at r : ℕ) → r ≡ reach (is_of (Not 10)) s at (length s) → blank_at true at (drop at s) ≡ blank_at false r (drop r s)
unfolding blank_at is_of
comment-blank = run-to (is_of (Not 10)) (blank_at true) (blank_at false) (λ at. refl) (λ at b bs e. rw (not-true (eqb b 10) e, blank_at))
    (λ at b bs e. rw (eqb-true b 10 (not-false (eqb b 10) e)))

-- a comment from its backslash on
module _ (s : List ℕ) (at : ℕ) (is : next_byte (cursor_at s at) ≡ 92) where
  inside : at < length s
  inside = next-inside s at (omega arith)

  begins : blank_at false at (drop at s) ≡ blank_at true at (drop at s)
  unfolding blank_at
  begins = rw (drop-cons s at 0 inside, sym (next-in s at inside) ∙ is)

  pub blank-comment : (r : ℕ) → r ≡ reach (is_of (Not 10)) s at (length s) → blank_at false at (drop at s) ≡ blank_at false r (drop r s)
  blank-comment r e = begins ∙ comment-blank s at r e

  pub comment-falls : (r : ℕ) → r ≡ reach (is_of (Not 10)) s at (length s) → at < r
  unfolding is_of
  comment-falls r e =
      let h : get_or s at 0 ≡ 92 = sym (next-in s at inside) ∙ is in
      omega (arith, e, reach-on (is_of (Not 10)) s at (length s) inside (omega arith) (rw h))

pub blank-stops : (s : List ℕ) (at r : ℕ) → r ≡ reach (is_of (Either 32 10)) s at (length s) → (next_byte (cursor_at s r) ≡ 92 → ⊥)
    → blank_at false r (drop r s) ≡ cursor_at s r
unfolding blank_at is_of
blank-stops s at r e h = go (ltb r (length s)) refl
  where
    go : (t : Bool) → ltb r (length s) ≡ t → blank_at false r (drop r s) ≡ cursor_at s r
    go true q =
        let k : r < length s = ltb-true r (length s) q in
        let n : get_or s r 0 ≡ 92 → ⊥ = λ p. h (next-in s r k ∙ p) in
        rw (drop-cons s r 0 k, ne_eqb (get_or s r 0) 92 n, reach-fails (is_of (Either 32 10)) s at (length s) r (omega arith) e k, blank_at)
    go false q = rw (drop_of_length-le s {i = r} (ltb-false r (length s) q))
