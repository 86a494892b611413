-- `wordset::is_in` meets its contract. Assumes nothing.
use mathlib.Core.Path.{sym, ap, ◌∙◌}
use Prim.Native.Nat.{ℕ, ◌-◌, ◌/◌, ◌%◌}
use native.Mathlib.Nat.{zero-add}
use native.Mathlib.Omega.{arith}
use lib.ListN.{get_or}
use Rattle.wordset.specs.Sets.{has_bit}
use Rattle.wordset.proofs.Setting.{in-below, in-beyond, in-range}
use Rattle.wordset.proofs.is_in.Goals as goal

pub returns-then-b-lt32 : goal.returns-then-b-lt32
returns-then-b-lt32 c =
    let a = c.args in
    sym (in-below a.set.now 0 a.b (omega arith))

pub returns-then-b-ge128 : goal.returns-then-b-ge128
returns-then-b-ge128 c =
    let a = c.args in
    sym (in-beyond a.set.now 0 a.b (omega arith))

pub returns : goal.returns
unfolding has_bit
returns c =
    let a = c.args in
    sym (in-range a.set.now 0 a.b (omega arith) (omega arith) ∙ ap (λ (i : ℕ). has_bit (get_or a.set.now i 0) (a.b % 32)) (zero-add (a.b / 32 - 1)))
