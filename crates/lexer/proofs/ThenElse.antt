-- THEN and ELSE at a place of the script. Assumes nothing.
use mathlib.Core.Path.{◌≡◌, sym}
use mathlib.Core.Bool.{true, false}
use mathlib.Core.List.{List}
use Prim.Native.Nat.{ℕ}
use borrow.Author.Tests.{eq-eqb, ne_eqb}
use Rattle.definitions.specs.Reader.{skip_spaces, token, name, packed, packed_from, is_token, after_token}
use Rattle.definitions.specs.Commands.{skip_then}
use Rattle.definitions.specs.Script.{is_else, after_else}
use Rattle.lexer.specs.Places.{cursor_at}

module _ (s : List ℕ) (at i n r : ℕ) (spaces : skip_spaces (cursor_at s at) ≡ cursor_at s i) (read : name (cursor_at s i) ≡ token n (cursor_at s r)) where
  pub then_is : n ≡ 1414022478 → skip_then (cursor_at s at) ≡ cursor_at s r
  unfolding skip_then is_token after_token packed packed_from
  then_is e = rw (spaces, read, eq-eqb 1414022478 n (sym e))

  pub then-other : (n ≡ 1414022478 → ⊥) → skip_then (cursor_at s at) ≡ cursor_at s at
  unfolding skip_then is_token after_token packed packed_from
  then-other e = rw (spaces, read, ne_eqb 1414022478 n (λ h. e (sym h)))

  pub else_is : n ≡ 1162629957 → is_else (cursor_at s at) ≡ true
  unfolding is_else is_token packed packed_from
  else_is e = rw (spaces, read, eq-eqb 1162629957 n (sym e))

  pub else-other : (n ≡ 1162629957 → ⊥) → is_else (cursor_at s at) ≡ false
  unfolding is_else is_token packed packed_from
  else-other e = rw (spaces, read, ne_eqb 1162629957 n (λ h. e (sym h)))

  pub else-passed : (next : ℕ) → skip_spaces (cursor_at s r) ≡ cursor_at s next → after_else (cursor_at s at) ≡ cursor_at s next
  unfolding after_else after_token
  else-passed next e = rw (spaces, read) e
