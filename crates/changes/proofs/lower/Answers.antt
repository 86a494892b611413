use mathlib.Core.Path.{sym}
use Rattle.changes.proofs.Casing.{lower-low, lower_high, lower-capital}
use borrow.Author.Rules.{rules}
use Rattle.changes.proofs.lower.Goals as goal

pub returns-then-b-lt65 : goal.returns-then-b-lt65
returns-then-b-lt65 c = sym (lower-low _ c.if-b-lt65.true)

pub returns-then-b-gt90 : goal.returns-then-b-gt90
returns-then-b-gt90 c = sym (lower_high _ c.if-b-gt90.true)

pub returns : goal.returns
returns c = sym (lower-capital _ (search rules) (search rules))
