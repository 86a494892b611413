-- `journal::read` meets its contract. One law for each way out. Assumes nothing.
use Rattle.std.proofs.Common.{Err}
use Rattle.std.proofs.lemmas.Result.{err_from_is_err_and}
use mathlib.Core.Path.{sym, ap, ◌∙◌}
use Rattle.journal.specs.Reading.{answered}
use Rattle.journal.proofs.Answers.{was-none, was-some, read-malformed, read_short, read-room, read-written}
use Rattle.journal.proofs.read.Goals as goal

pub returns-in_err-m : goal.returns-in_err-m
returns-in_err-m c =
    let a = c.args in
    let n = was-none _ _ _ c.in_err-m.ensures.value in
    let y = err_from_is_err_and _ c.from_residual.ensures.1 in
    ap (λ r. answered r a.dest.now) (y.1 ∙ ap Err (y.2 ∙ n.1)) ∙ read-malformed a.view a.j.now a.dest.now (sym c.check.ensures ∙ n.0)

pub returns-in_err-n : goal.returns-in_err-n
returns-in_err-n c =
    let a = c.args in
    let m = was-some _ _ _ c.in_ok-m.ensures.value in
    let n = was-none _ _ _ c.in_err-n.ensures.value in
    let y = err_from_is_err_and _ c.from_residual-in_err-n.ensures.1 in
    ap (λ r. answered r a.dest.now) (y.1 ∙ ap Err (y.2 ∙ n.1)) ∙ read_short a.view a.j.now a.dest.now _ (sym c.check.ensures ∙ m) (sym c.fits.ensures ∙ n.0)

pub write-requires : goal.write-requires
write-requires c =
    let a = c.args in
    read-room a.view a.j.now a.dest.now _ (sym c.check.ensures ∙ was-some _ _ _ c.in_ok-m.ensures.value) _ (sym c.fits.ensures ∙ was-some _ _ _ c.in_ok-n.ensures.value)

pub returns : goal.returns
returns c =
    let a = c.args in
    read-written a.view a.j.now a.dest.now _ (sym c.check.ensures ∙ was-some _ _ _ c.in_ok-m.ensures.value) _ (sym c.fits.ensures ∙ was-some _ _ _ c.in_ok-n.ensures.value)
    c.write.new.dest c.write.ensures
