-- `script::searching::loops` meets its contract. Assumes nothing.
use mathlib.Core.Path.{ap}
use Prim.Native.Nat.{ℕ}
use Rattle.items.specs.Words.{head}
use Rattle.answers.proofs.Taking.{passed}
use Rattle.script.proofs.Searched.{loops-written, loops-refused}
use Rattle.script.proofs.searching.loops.Goals as goal

pub returns-in_err-found : goal.returns-in_err-found
returns-in_err-found c = rw (passed _ _ c.from_residual.ensures.1) (loops-refused _ _ _ _ _ c.in_err-found.ensures _)

pub returns : goal.returns
returns c = rw c.prefix.ensures (loops-written _ _ _ _ _ _ c.requires.0 _ _ _ c.in_ok-found.ensures _ c.requires.1 (ap (λ (n : ℕ). head n c.args.place) c.loop_kind.ensures.0))
