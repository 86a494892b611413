use mathlib.Core.Path.{ap}
use Prim.Native.Nat.{ℕ, ◌-◌}
use native.Mathlib.Omega.{arith}
use Rattle.editor.proofs.Records.{three-bytes}
use Rattle.editor.proofs.Sizes.{whole-inside, line-whole}
use Rattle.editor.proofs.Texts.{text-plain, text-new, zero-inside}
use Rattle.editor.proofs.walk.text_at.Goals as goal

pub record_end-end-requires : goal.record_end-end-requires
record_end-end-requires c =
    omega (arith, whole-inside c.args.j.now c.args.at c.requires.0 c.requires.1 c.requires.3)

pub overflow_sub-end : goal.overflow_sub-end
overflow_sub-end c =
    omega (arith, line-whole c.args.j.now c.args.at c.requires.0 c.requires.1 c.requires.2 c.requires.3, three-bytes c.requires.0, c.record_end-end.ensures)

pub bounds-j-at : goal.bounds-j-at
bounds-j-at c =
    omega (arith, whole-inside c.args.j.now c.args.at c.requires.0 c.requires.1 c.requires.3, three-bytes c.requires.0)

pub zero_after-from-requires : goal.zero_after-from-requires
zero_after-from-requires c =
    omega (arith, whole-inside c.args.j.now c.args.at c.requires.0 c.requires.1 c.requires.3)

pub overflow_add-from : goal.overflow_add-from
overflow_add-from c =
    omega (arith, whole-inside c.args.j.now c.args.at c.requires.0 c.requires.1 c.requires.3, zero-inside c.args.j.now c.args.at c.requires.1 c.if-j-at-eq60.true c.requires.0 c.requires.2 c.requires.3, c.zero_after-from.ensures)

pub overflow_sub-result : goal.overflow_sub-result
overflow_sub-result c =
    omega (arith, line-whole c.args.j.now c.args.at c.requires.0 c.requires.1 c.requires.2 c.requires.3, zero-inside c.args.j.now c.args.at c.requires.1 c.if-j-at-eq60.true c.requires.0 c.requires.2 c.requires.3, c.zero_after-from.ensures, c.record_end-end.ensures)

pub returns-then-j-at-eq60 : goal.returns-then-j-at-eq60
returns-then-j-at-eq60 c = λ r z g h. text-new _ _ z c.if-j-at-eq60.true r g h _ c.zero_after-from.result (ap (λ (i : ℕ). i - 1) c.record_end-end.ensures) c.zero_after-from.ensures

pub overflow_add-from-2 : goal.overflow_add-from-2
overflow_add-from-2 c =
    omega (arith, whole-inside c.args.j.now c.args.at c.requires.0 c.requires.1 c.requires.3, three-bytes c.requires.0)

pub overflow_sub-result-2 : goal.overflow_sub-result-2
overflow_sub-result-2 c =
    omega (arith, line-whole c.args.j.now c.args.at c.requires.0 c.requires.1 c.requires.2 c.requires.3, three-bytes c.requires.0, c.record_end-end.ensures)

pub returns : goal.returns
returns c = λ r z g h. text-plain _ _ z c.if-j-at-eq60.false r g h _ (ap (λ (i : ℕ). i - 1) c.record_end-end.ensures)
