-- `script::groups::open_body` meets its contract. Assumes nothing.
use native.Mathlib.Omega.{arith}
use lib.ListN.{length-set}
use Rattle.script.proofs.Keeping.{free}
use mathlib.Core.Path.{ap, ◌∙◌}
use Prim.Native.Nat.{ℕ, ◌+◌, ◌*◌}
use Rattle.script.proofs.Nested.{flag-is, opens-body}
use Rattle.script.proofs.groups.open_body.Goals as goal

pub bounds-w-top : goal.bounds-w-top
bounds-w-top c = simp length-set (omega (arith, free _ _ _ _ _ c.requires.0.2))

pub returns : goal.returns
returns c = λ s acc h less. opens-body s _ _ _ acc h less c.requires.1 _ (ap (λ (n : ℕ). 2 * c.args.st.due + n) (c.from.ensures ∙ flag-is _))
