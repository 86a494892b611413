-- A place of the string: its next byte, and the place after that. Assumes nothing.
use mathlib.Core.Path.{◌≡◌, refl, sym, ap, ◌∙◌, subst}
use mathlib.Core.Bool.{Bool, true, false, true≢false, ◌||◌}
use Prim.Native.Nat.{ℕ, suc, ◌≤◌, ◌<◌}
use native.Mathlib.Numerals.{add-one}
use native.Mathlib.Omega.{arith}
use lib.ListN.{length}
use lib.Dec.{ltb}
use borrow.Author.Tests.{ltb-true, ltb-false, eqb-true, ne_eqb}
use Rattle.definitions.specs.Bytes.{Line}
use Rattle.definitions.specs.Reader.{Cursor, next_byte, after_byte, is_next}
use Rattle.definitions.specs.Patterns.{is_at_end, ends_row, is_sign}
use Rattle.text.specs.Cursors.{cursor_at}
use Rattle.text.proofs.Cursors.{after-in, next-inside}
use Rattle.patterns.proofs.Places.{at-end, not_end}

-- one byte stands next, so that another does not
pub next-other : (b d : ℕ) (c : Cursor) → is_next b c ≡ true → (d ≡ b → ⊥) → is_next d c ≡ false
unfolding is_next
next-other b d c h other = ne_eqb d (next_byte c) (λ e. other (e ∙ sym (eqb-true b (next_byte c) h)))

pub no_sign : (c : Cursor) → is_sign (next_byte c) ≡ false → is_next 45 c ≡ false
unfolding is_next is_sign
no_sign c h = ne_eqb 45 (next_byte c) (λ e. true≢false (sym (subst (λ (b : ℕ). is_sign b ≡ true) e refl) ∙ h))

module _ (s : Line) (at : ℕ) where
  pub after-suc : at < length s → after_byte (cursor_at s at) ≡ cursor_at s (suc at)
  after-suc h = after-in s at h ∙ ap (cursor_at s) (add-one at)

  within : (length s ≤ at → ⊥) → at < length s
  within h = go (ltb at (length s)) refl
    where
      go : (t : Bool) → ltb at (length s) ≡ t → at < length s
      go true e = ltb-true at (length s) e
      go false e = absurd (h (ltb-false at (length s) e))

  pub inside : is_at_end (cursor_at s at) ≡ false → at < length s
  inside h = within (λ e. true≢false (sym (at-end s at e) ∙ h))

  pub end-next : (b : ℕ) → 0 < b → is_at_end (cursor_at s at) ≡ true → is_next b (cursor_at s at) ≡ false
  unfolding is_next
  end-next b h e = ne_eqb b (next_byte (cursor_at s at)) (λ is. true≢false (sym e ∙ not_end s at (next-inside s at (subst (λ (d : ℕ). 0 < d) is h))))

  pub ends_next : ends_row (cursor_at s at) ≡ true → is_next 45 (cursor_at s at) ≡ false
  unfolding ends_row
  ends_next h = go (is_at_end (cursor_at s at)) refl (is_next 124 (cursor_at s at)) refl h
    where
      go : (t : Bool) → is_at_end (cursor_at s at) ≡ t → (u : Bool) → is_next 124 (cursor_at s at) ≡ u → (t || u || is_next 41 (cursor_at s at)) ≡ true
          → is_next 45 (cursor_at s at) ≡ false
      go true e u f k = end-next 45 (omega arith) e
      go false e true f k = next-other 124 45 (cursor_at s at) f (λ is. omega (arith, is))
      go false e false f k = next-other 41 45 (cursor_at s at) k (λ is. omega (arith, is))

  pub ends-inside : ends_row (cursor_at s at) ≡ false → at < length s
  unfolding ends_row
  ends-inside h = go (is_at_end (cursor_at s at)) refl h
    where
      go : (t : Bool) → is_at_end (cursor_at s at) ≡ t → (t || is_next 124 (cursor_at s at) || is_next 41 (cursor_at s at)) ≡ false → at < length s
      go true e k = absurd (true≢false k)
      go false e k = inside e
