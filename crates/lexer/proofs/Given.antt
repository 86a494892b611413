-- A definition's answer goes on or is passed upward. Assumes nothing.
use mathlib.Core.Path.{◌≡◌}
use Prim.Native.Nat.{ℕ}
use Rattle.definitions.specs.Reader.{Cursor, Got, got, refused, and_then}

module _ {A B : Type 0} (x : Got A) (g : A → Cursor → Got B) where
  pub goes_on : (a : A) (c : Cursor) → x ≡ got a c → and_then x g ≡ g a c
  unfolding and_then
  goes_on a c e = rw e

  pub passed-up : (k p : ℕ) → x ≡ refused k p → and_then x g ≡ refused k p
  unfolding and_then
  passed-up k p e = rw e
