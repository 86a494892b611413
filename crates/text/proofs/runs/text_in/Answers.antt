-- `text::runs::text_in` meets its contract: the bytes before those that are left are text. Assumes nothing.
use Rattle.std.proofs.Common.{◌≡◌, ◌+◌, length, take, drop, ap, ◌∙◌, arith, rules}
use Rattle.text.specs.Words.{text_run}
use Rattle.text.proofs.Texts.{run_fits, run-stops, run-goes-on}
use Rattle.text.proofs.runs.text_in.Goals as goal

pub returns-then-n-lt8 : goal.returns-then-n-lt8
returns-then-n-lt8 c =
    let rest = c.loop-eight.rest.now in
    let first : c.in-Some.eight.now ≡ take 8 rest = search rules in
    let size : length c.in-Some.others.now + 8 ≡ length rest = search rules in
    let n = c.text_in_word-n.ensures ∙ ap text_run first in
    omega (arith, n, c.loop-eight.invariant.1, run-stops rest 8 (omega arith) (omega (arith, n)))

pub loop-eight-preserved : goal.loop-eight-preserved
loop-eight-preserved c =
    let rest = c.loop-eight.rest.now in
    let first : c.in-Some.eight.now ≡ take 8 rest = search rules in
    let others : c.in-Some.others.now ≡ drop 8 rest = search rules in
    let size : length c.in-Some.others.now + 8 ≡ length rest = search rules in
    let n = c.text_in_word-n.ensures ∙ ap text_run first in
    (omega arith, omega (arith, c.loop-eight.invariant.1, ap text_run others, run-goes-on rest 8 (omega arith) (omega (arith, n))))

pub overflow_add-result-2 : goal.overflow_add-result-2
overflow_add-result-2 c = let h = run_fits c.loop-eight.rest.now in search rules
