-- Line numbers as the reader answers them.
use Rattle.std.specs.Prelude.{cond, ℕ, ◌≤◌, eqb}
use Rattle.std.proofs.Math.Option.{Option, none, some}
use Rattle.definitions.specs.Editor.{Target, here, line, eof, Through, alone, up_to, to_eof}
use Rattle.definitions.specs.Commands.{Span, span}
use Rattle.lexer.specs.declared.targets.Lines.{Lines}

-- 0 is `.`, 65,536 is `*`
unfoldable pub target_of : ℕ → Target
target_of n = cond (eqb n 0) here (cond (eqb n 65536) eof (line n))

-- 0 is no further, 65,536 is `*`
unfoldable pub through_of : ℕ → Through
through_of n = cond (eqb n 0) alone (cond (eqb n 65536) to_eof (up_to n))

unfoldable pub span_of : Lines → Span
span_of l = span (target_of l.first) (through_of l.last)

-- 65,537 is none
unfoldable pub option_of : ℕ → Option Target
option_of n = cond (eqb n 65537) none (some (target_of n))

-- two line numbers were read from `at` on
abbrev pub SpanRead : ℕ → Lines → ℕ → Type 0
SpanRead at l next = (l.first ≤ 65535) × (l.last ≤ 65536) × (at ≤ next)
