use mathlib.Core.Path.{refl, sym, ap, ◌∙◌}
use Prim.Native.Nat.{ℕ, ◌-◌}
use native.Mathlib.Omega.{arith}
use Rattle.tail.proofs.Behind.{grows-long, grows-small, grows-bytes, kept-asks}
use Rattle.tail.proofs.grows_by.Goals as goal

pub returns-in_default : goal.returns-in_default
returns-in_default c = grows-long _ _ c.args.j.now c.args.at _ _ c.pass_text-left.ensures c.in_default.is

pub record_end-end-requires : goal.record_end-end-requires
record_end-end-requires c = omega (arith, (kept-asks c.args.j.now c.args.at c.requires.1).0)

pub overflow_sub-end : goal.overflow_sub-end
overflow_sub-end c = omega (arith, (kept-asks c.args.j.now c.args.at c.requires.1).1, c.record_end-end.ensures)

pub overflow_add-at : goal.overflow_add-at
overflow_add-at c = omega (arith, (kept-asks c.args.j.now c.args.at c.requires.1).0)

pub is_same-requires : goal.is_same-requires
is_same-requires c =
    let k = kept-asks c.args.j.now c.args.at c.requires.1 in
    let e = c.record_end-end.ensures in
    let small = grows-small _ _ c.args.j.now c.args.at _ _ c.pass_text-left.ensures _ c.in-Ok.is c.requires.0 c.requires.1 in
    (omega (arith, k.1, e), omega (arith, k.2, e), omega (arith, small, c.pass_text-left.auto.line))

pub returns-then-is_same : goal.returns-then-is_same
returns-then-is_same c =
    let small = grows-small _ _ c.args.j.now c.args.at _ _ c.pass_text-left.ensures _ c.in-Ok.is c.requires.0 c.requires.1 in
    grows-bytes _ _ c.args.j.now c.args.at _ _ c.pass_text-left.ensures _ c.in-Ok.is (omega (arith, small, c.pass_text-left.auto.line)) _ (ap (λ (i : ℕ). i - 1) c.record_end-end.ensures) _ (sym c.is_same.ensures ∙ c.if-is_same.true) 0 refl

pub overflow_add-result : goal.overflow_add-result
overflow_add-result c =
    let small = grows-small _ _ c.args.j.now c.args.at _ _ c.pass_text-left.ensures _ c.in-Ok.is c.requires.0 c.requires.1 in
    omega (arith, small)

pub returns : goal.returns
returns c =
    let small = grows-small _ _ c.args.j.now c.args.at _ _ c.pass_text-left.ensures _ c.in-Ok.is c.requires.0 c.requires.1 in
    grows-bytes _ _ c.args.j.now c.args.at _ _ c.pass_text-left.ensures _ c.in-Ok.is (omega (arith, small, c.pass_text-left.auto.line)) _ (ap (λ (i : ℕ). i - 1) c.record_end-end.ensures) _ (sym c.is_same.ensures ∙ c.if-is_same.false) _ refl
