use mathlib.Core.Path.{◌≡◌}
use mathlib.Core.Bool.{true}
use Rattle.taking.specs.Ways.{is_at}
use Rattle.taking.proofs.Leaves.{at_same, at-any, ends-not, ends, ends-word}
use Rattle.taking.proofs.may_end.Goals as goal
use Rattle.taking.proofs.may_end.Goals.{then-way+else-i-end, else-way}

pub returns-then-i-end : goal.returns-then-i-end
returns-then-i-end c = ends-not _ _ _ _ _ c.if-way.true c.if-i-end.true

pub returns-then-way-2 : goal.returns-then-way-2
returns-then-way-2 c =
    let here : is_at c.args.way.right c.args.i c.args.end ≡ true = elim c.if-way.branch [
      | then-way+else-i-end w ↦ at_same _ _ _ w.if-i-end.false
      | else-way w ↦ at-any _ _ _ w.if-way.false
    ] in
    ends-word _ _ _ _ _ here c.if-way-2.true _ c.is_free_at.ensures

pub returns : goal.returns
returns c =
    let here : is_at c.args.way.right c.args.i c.args.end ≡ true = elim c.if-way.branch [
      | then-way+else-i-end w ↦ at_same _ _ _ w.if-i-end.false
      | else-way w ↦ at-any _ _ _ w.if-way.false
    ] in
    ends _ _ _ _ _ here c.if-way-2.false
