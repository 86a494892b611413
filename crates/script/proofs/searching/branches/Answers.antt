-- `script::searching::branches` meets its contract. Assumes nothing.
use mathlib.Core.Path.{ap}
use Prim.Native.Nat.{ℕ}
use Rattle.items.specs.Words.{head}
use Rattle.answers.proofs.Taking.{passed}
use Rattle.script.proofs.Searched.{branches-written, branches-refused}
use Rattle.script.proofs.searching.branches.Goals as goal

pub returns-in_err-found : goal.returns-in_err-found
returns-in_err-found c = rw (passed _ _ c.from_residual.ensures.1) (branches-refused _ _ _ _ _ c.in_err-found.ensures _)

pub skip_then-requires : goal.skip_then-requires
skip_then-requires c = c.in_ok-found.ensures.inside

pub returns : goal.returns
returns c = rw c.prefix.ensures (branches-written _ _ _ _ _ _ c.requires.0 _ _ _ c.in_ok-found.ensures _ _ c.requires.1 (ap (λ (n : ℕ). head n c.args.place) c.branch_kind.ensures.0) c.skip_then.ensures.place c.skip_then.ensures.within.0 c.skip_then.ensures.within.1)
