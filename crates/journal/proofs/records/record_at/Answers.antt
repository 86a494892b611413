-- `journal::records::record_at` meets its contract. One law for each way out. Assumes nothing.
use mathlib.Core.Path.{sym, ◌∙◌}
use native.Mathlib.Omega.{arith}
use Rattle.text.proofs.Ends.{ended}
use Rattle.journal.proofs.Places.{is-changed, is-other, mark-there, no-mark, no-first, no_second, found-changed, found-other}
use Rattle.journal.proofs.records.record_at.Goals as goal

pub returns-in_err-mark : goal.returns-in_err-mark
returns-in_err-mark c = c.from_residual.ensures ∙ sym (no-mark _ _ (sym c.in_err-mark.ensures))

pub overflow_add-at : goal.overflow_add-at
overflow_add-at c = let w = mark-there c.args.j.now c.args.at _ (sym c.in_ok-mark.ensures) in omega (arith, w.2)

pub returns-in_err-mid : goal.returns-in_err-mid
returns-in_err-mid c = c.from_residual-in_err-mid.ensures ∙ sym (no-first _ _ _ (sym c.in_ok-mark.ensures) (sym c.in_err-mid.ensures))

pub overflow_add-mid : goal.overflow_add-mid
overflow_add-mid c = let w = ended _ _ _ (sym c.in_ok-mid.ensures) in omega arith

pub returns-in_err-end : goal.returns-in_err-end
returns-in_err-end c =
    c.from_residual-in_err-end.ensures
    ∙ sym (no_second _ _ _ (sym c.in_ok-mark.ensures) _ (sym c.in_ok-mid.ensures) (is-changed _ c.if-eq.ensures) (sym c.in_err-end.ensures))

pub returns-then-eq : goal.returns-then-eq
returns-then-eq c =
    sym (found-changed _ _ _ (sym c.in_ok-mark.ensures) _ (sym c.in_ok-mid.ensures) (is-changed _ c.if-eq.ensures) _ (sym c.in_ok-end.ensures))

pub returns : goal.returns
returns c = sym (found-other _ _ _ (sym c.in_ok-mark.ensures) _ (sym c.in_ok-mid.ensures) (is-other _ c.if-eq.ensures))
