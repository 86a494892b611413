-- `seasons::join` meets its contract. 11, then 32, 10 or what is written. Assumes nothing.
use Rattle.std.proofs.Common.{Err}
use Rattle.std.proofs.lemmas.Result.{err_from_is_err_and}
use mathlib.Core.Path.{sym, ap, ◌∙◌}
use Rattle.journal.specs.Reading.{answered}
use Rattle.seasons.proofs.Answers.{first-malformed, second-malformed, both_left, all-refused, all-fits, all-written}
use Rattle.seasons.proofs.join.Goals as goal

pub returns-then-not-joinable : goal.returns-then-not-joinable
returns-then-not-joinable c = let a = c.args in first-malformed a.j.now a.k.now a.dest.now (sym c.joinable.ensures ∙ c.if-not-joinable.true)

pub returns-then-not-joinable-2 : goal.returns-then-not-joinable-2
returns-then-not-joinable-2 c = let a = c.args in second-malformed a.j.now a.k.now a.dest.now (sym c.joinable-2.ensures ∙ c.if-not-joinable-2.true)

pub measure-requires : goal.measure-requires
measure-requires c =
    let a = c.args in
    both_left a.j.now a.k.now a.dest.now (sym c.joinable.ensures ∙ c.if-not-joinable.false) (sym c.joinable-2.ensures ∙ c.if-not-joinable-2.false)

pub returns-in_err-n : goal.returns-in_err-n
returns-in_err-n c =
    let a = c.args in
    let y = err_from_is_err_and _ c.from_residual.ensures.1 in
    ap (λ r. answered r a.dest.now) (y.1 ∙ ap Err y.2)
    ∙ all-refused a.j.now a.k.now a.dest.now (sym c.joinable.ensures ∙ c.if-not-joinable.false) (sym c.joinable-2.ensures ∙ c.if-not-joinable-2.false) c.measure.result c.measure.ensures _ c.in_err-n.was

pub write-requires : goal.write-requires
write-requires c =
    let a = c.args in
    all-fits a.j.now a.k.now a.dest.now (sym c.joinable.ensures ∙ c.if-not-joinable.false) (sym c.joinable-2.ensures ∙ c.if-not-joinable-2.false) c.measure.result c.measure.ensures c.in_ok-n.n c.in_ok-n.was

pub returns : goal.returns
returns c =
    let a = c.args in
    all-written a.j.now a.k.now a.dest.now (sym c.joinable.ensures ∙ c.if-not-joinable.false) (sym c.joinable-2.ensures ∙ c.if-not-joinable-2.false) c.measure.result c.measure.ensures c.in_ok-n.n c.in_ok-n.was _ c.write.ensures
