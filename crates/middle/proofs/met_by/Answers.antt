-- `middle::met_by` meets its contract. One law for each way out. Assumes nothing.
use mathlib.Core.Path.{sym, ◌∙◌}
use native.Mathlib.Omega.{arith}
use Rattle.middle.proofs.Ways.{ordered, met-not, met-line}
use Rattle.middle.proofs.met_by.Goals as goal

pub returns-then-not-is_middle : goal.returns-then-not-is_middle
returns-then-not-is_middle c =
    let a = c.args in
    met-not a.j.now a.k.now a.x a.y (sym c.is_middle.ensures ∙ c.if-not-is_middle.true)

pub old_span-requires : goal.old_span-requires
old_span-requires c =
    let a = c.args in
    ordered a.j.now a.x.at a.x c.requires.0 (omega arith)

pub new_span-requires : goal.new_span-requires
new_span-requires c =
    let a = c.args in
    ordered a.k.now a.y.at a.y c.requires.1 (omega arith)

pub overflow_add-result : goal.overflow_add-result
overflow_add-result c =
    let a = c.args in
    let o = ordered a.j.now a.x.at a.x c.requires.0 (omega arith) in
    omega (arith, o.small)

pub overflow_add-result-2 : goal.overflow_add-result-2
overflow_add-result-2 c =
    let a = c.args in
    let o = ordered a.k.now a.y.at a.y c.requires.1 (omega arith) in
    omega (arith, o.small)

pub returns : goal.returns
returns c =
    let a = c.args in
    met-line a.j.now a.k.now a.x a.y _ _ c.old_span.ensures c.new_span.ensures (sym c.is_middle.ensures ∙ c.if-not-is_middle.false)
