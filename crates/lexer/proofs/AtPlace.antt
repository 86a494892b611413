-- The cursor at a place of the script: the next byte, what is after it, and a byte that must stand next. Assumes nothing.
use mathlib.Core.Path.{◌≡◌, sym, ap, ◌∙◌}
use mathlib.Core.List.{List}
use Prim.Native.Nat.{ℕ, ◌+◌, ◌-◌, ◌≤◌, ◌<◌}
use native.Mathlib.Omega.{arith}
use lib.ListN.{length, get_or}
use lib.Seq.{drop-drop}
use Rattle.definitions.specs.Reader.{got, refused, expect, place_at, advance}
pub use Rattle.text.proofs.Cursors.{is-next, not-next, next-in, next-end, after-in, after-end, next-at, next-inside, after_next}
use Rattle.lexer.specs.Places.{cursor_at}

-- so many bytes further
pub advance-to : (s : List ℕ) (i r : ℕ) → i ≤ r → advance (r - i) (cursor_at s i) ≡ cursor_at s r
unfolding advance
advance-to s i r h =
    let e : i + (r - i) ≡ r = omega arith in
    rw (drop-drop (r - i) i s, e)

-- ---- a byte that must stand next

module _ (s : List ℕ) (at b : ℕ) where
  pub expect-is : at < length s → get_or s at 0 ≡ b → expect b (cursor_at s at) ≡ got tt (cursor_at s (at + 1))
  unfolding expect
  expect-is h e = rw (is-next b (cursor_at s at) (next-in s at h ∙ e)) (ap (got tt) (after-in s at h))

  pub expect-other : at < length s → (get_or s at 0 ≡ b → ⊥) → expect b (cursor_at s at) ≡ refused 3 at
  unfolding expect place_at
  expect-other h e = rw (not-next b (cursor_at s at) (λ k. e (sym (next-in s at h) ∙ k)))

  pub expect-end : 0 < b → length s ≤ at → expect b (cursor_at s at) ≡ refused 3 at
  unfolding expect place_at
  expect-end p h = rw (not-next b (cursor_at s at) (λ k. omega (arith, sym (next-end s at h) ∙ k)))
