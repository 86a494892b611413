use mathlib.Core.Path.{sym, ◌∙◌}
use native.Mathlib.Omega.{arith}
use lib.Seq.{length-take-le}
use Rattle.reading.proofs.Text.{near_within, same-near}
use Rattle.reading.proofs.Line.{take_same, take-full, take-changed}
use Rattle.reading.proofs.lines.take_text.Goals as goal

pub overflow_sub-end : goal.overflow_sub-end
overflow_sub-end c = omega (arith, c.requires.0.3.start)

pub overflow_add-f : goal.overflow_add-f
overflow_add-f c = omega (arith, c.requires.0.3.start, near_within c.requires.0.3)

pub is_same-requires : goal.is_same-requires
is_same-requires c = (omega (arith, c.requires.0.3.start), omega (arith, near_within c.requires.0.3), c.requires.1)

pub returns-then-is_same : goal.returns-then-is_same
returns-then-is_same c = λ e l ls h. take_same e l _ ls h.holds _ (same-near h _ (sym c.is_same.ensures ∙ c.if-is_same.true))

pub returns-then-room-m : goal.returns-then-room-m
returns-then-room-m c =
    let long = length-take-le c.args.m c.args.line.now c.requires.1 in
    λ e l ls h. take-full e l _ ls h.holds (same-near h _ (sym c.is_same.ensures ∙ c.if-is_same.false)) (omega (arith, long, c.if-room-m.true))

pub change_passed-requires : goal.change_passed-requires
change_passed-requires c = (c.requires.0, c.requires.1, c.requires.2, omega (arith, c.if-room-m.false, c.requires.0.3.holds.order))

pub returns : goal.returns
returns c =
    let long = length-take-le c.args.m c.args.line.now c.requires.1 in
    λ e l ls h. take-changed e l _ ls h.holds _ _ (same-near h _ (sym c.is_same.ensures ∙ c.if-is_same.false)) (omega (arith, long, c.if-room-m.false)) (c.change_passed.ensures l _ _ h)
