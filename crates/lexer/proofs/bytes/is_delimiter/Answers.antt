use mathlib.Core.Path.{sym}
use native.Mathlib.Omega.{arith}
use Rattle.lexer.proofs.OneByte.{delimiter-single, delimiter-range, delimiter-low, delimiter-high}
use Rattle.lexer.proofs.bytes.is_delimiter.Goals as goal

pub returns-in_default : goal.returns-in_default
returns-in_default c = sym (delimiter-low _ c.in_default.in_default-own.rest.1 c.in_default.if-b-lt42-own.true)

pub returns-in_default-2 : goal.returns-in_default-2
returns-in_default-2 c = sym (delimiter-high _ c.in_default.in_default-own.rest.1 c.in_default.if-b-lt48-own.false)

pub returns-in-33 : goal.returns-in-33
returns-in-33 c = sym (delimiter-single _ c.in-33.in-33-own.keys1)

pub returns-in-33-2 : goal.returns-in-33-2
returns-in-33-2 c = sym (delimiter-range _ (omega arith) (omega arith))
