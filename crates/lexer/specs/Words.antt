-- ELSE as the reader answers it.
use Rattle.std.specs.Prelude.{◌≡◌, true, false, List, ℕ, ◌≤◌, length, Option, Some, None}
use Rattle.definitions.specs.Script.{is_else, after_else}
use Rattle.lexer.specs.Places.{cursor_at}

abbrev pub ElseRead : List ℕ → ℕ → Option ℕ → Type 0
ElseRead s at (Some next) = (is_else (cursor_at s at) ≡ true) × (after_else (cursor_at s at) ≡ cursor_at s next) × (at ≤ next) × (next ≤ length s)
ElseRead s at None = is_else (cursor_at s at) ≡ false
