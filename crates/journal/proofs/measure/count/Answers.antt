-- `journal::measure::count` meets its contract. No sum passes the place that is reached. Assumes nothing.
use mathlib.Core.Path.{ap, ◌∙◌}
use native.Mathlib.Omega.{arith}
use Rattle.journal.specs.Measuring.{span_lines, span_length, with_record}
use Rattle.journal.proofs.Measures.{counted-small, counted_is}
use Rattle.journal.proofs.measure.count.Goals as goal

pub overflow_add-result : goal.overflow_add-result
unfolding with_record
overflow_add-result c =
    let small = counted-small c.args.x c.requires.0 c.args.m c.requires.1 in
    let is = c.span_lines.ensures ∙ ap span_lines c.old_span-old.ensures in
    omega (arith, small.lines, is, c.requires.0.small)

pub overflow_add-result-2 : goal.overflow_add-result-2
unfolding with_record
overflow_add-result-2 c =
    let small = counted-small c.args.x c.requires.0 c.args.m c.requires.1 in
    let is = c.span_length.ensures ∙ ap span_length c.old_span-old.ensures in
    omega (arith, small.old, is, c.requires.0.small)

pub overflow_add-result-3 : goal.overflow_add-result-3
unfolding with_record
overflow_add-result-3 c =
    let small = counted-small c.args.x c.requires.0 c.args.m c.requires.1 in
    let is = c.span_lines-2.ensures ∙ ap span_lines c.new_span-new.ensures in
    omega (arith, small.shown, is, c.requires.0.small)

pub overflow_add-result-4 : goal.overflow_add-result-4
unfolding with_record
overflow_add-result-4 c =
    let small = counted-small c.args.x c.requires.0 c.args.m c.requires.1 in
    let is = c.span_length-2.ensures ∙ ap span_length c.new_span-new.ensures in
    omega (arith, small.new, is, c.requires.0.small)

pub returns : goal.returns
returns c =
    counted_is c.args.m c.args.x c.old_span-old.result c.new_span-new.result
    c.span_lines.result c.span_length.result c.span_lines-2.result c.span_length-2.result
    c.old_span-old.ensures c.new_span-new.ensures
    c.span_lines.ensures c.span_length.ensures c.span_lines-2.ensures c.span_length-2.ensures
