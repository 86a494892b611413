-- `script::searching::seeks` meets its contract. Assumes nothing.
use mathlib.Core.Path.{ap}
use Prim.Native.Nat.{ℕ}
use Rattle.items.specs.Words.{head}
use Rattle.answers.proofs.Taking.{passed}
use Rattle.script.proofs.Searched.{seeks-written, seeks-refused}
use Rattle.script.proofs.searching.seeks.Goals as goal

pub returns-in_err-found : goal.returns-in_err-found
returns-in_err-found c = rw (passed _ _ c.from_residual.ensures.1) (seeks-refused _ _ _ _ _ c.in_err-found.ensures _)

pub returns : goal.returns
returns c = rw c.whole.ensures (seeks-written _ _ _ _ _ _ c.requires _ _ _ c.in_ok-found.ensures _ (ap (λ (n : ℕ). head n c.args.place) c.seek_kind.ensures.0))
