-- `patterns::after_quote` meets its contract. Assumes nothing.
use native.Mathlib.Omega.{arith}
use Rattle.patterns.proofs.Characters.{quote-none, quote-some}
use Rattle.patterns.proofs.after_quote.Goals as goal

pub returns-then-at-s : goal.returns-then-at-s
returns-then-at-s c = quote-none _ _ (omega arith)

pub returns : goal.returns
returns c = rw c.solid.ensures (quote-some _ _ (omega arith))
