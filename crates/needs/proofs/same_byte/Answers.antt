-- `needs::same_byte` meets its contract. Assumes nothing.
use mathlib.Core.Path.{◌∙◌}
use Rattle.needs.proofs.Joining.{first-none, second-none, both-known}
use Rattle.needs.proofs.same_byte.Goals as goal

pub returns-in_err-a : goal.returns-in_err-a
returns-in_err-a c = c.from_residual.ensures ∙ first-none _ _ c.in_err-a.was

pub returns-in_err-b : goal.returns-in_err-b
returns-in_err-b c = c.from_residual-in_err-b.ensures ∙ second-none _ _ c.in_err-b.was

pub returns : goal.returns
returns c = c.equal_byte.ensures ∙ both-known _ _ _ _ c.in_ok-a.was c.in_ok-b.was
