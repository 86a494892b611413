use mathlib.Core.Path.{◌≡◌, sym, ◌∙◌}
use mathlib.Core.Bool.{true, false}
use Rattle.taking.specs.Ways.{is_at}
use Rattle.taking.proofs.Leaves.{at_same, at-any, enters-not, enters, enters-word}
use Rattle.taking.proofs.entering.Goals as goal
use Rattle.taking.proofs.entering.Goals.{then-way+else-i-start, else-way}

pub returns-then-i-start : goal.returns-then-i-start
returns-then-i-start c = enters-not _ _ _ _ _ c.if-way.true c.if-i-start.true

pub returns-then-is_free_before : goal.returns-then-is_free_before
returns-then-is_free_before c =
    let here : is_at c.args.way.left c.args.i c.args.start ≡ true = elim c.if-way.branch [
      | then-way+else-i-start w ↦ at_same _ _ _ w.if-i-start.false
      | else-way w ↦ at-any _ _ _ w.if-way.false
    ] in
    enters-word _ _ _ _ _ here c.if-way-2.true true (sym c.if-is_free_before.true ∙ c.is_free_before.ensures)

pub returns-then-way-2 : goal.returns-then-way-2
returns-then-way-2 c =
    let here : is_at c.args.way.left c.args.i c.args.start ≡ true = elim c.if-way.branch [
      | then-way+else-i-start w ↦ at_same _ _ _ w.if-i-start.false
      | else-way w ↦ at-any _ _ _ w.if-way.false
    ] in
    enters-word _ _ _ _ _ here c.if-way-2.true false (sym c.if-is_free_before.false ∙ c.is_free_before.ensures)

pub returns : goal.returns
returns c =
    let here : is_at c.args.way.left c.args.i c.args.start ≡ true = elim c.if-way.branch [
      | then-way+else-i-start w ↦ at_same _ _ _ w.if-i-start.false
      | else-way w ↦ at-any _ _ _ w.if-way.false
    ] in
    enters _ _ _ _ _ here c.if-way-2.false
