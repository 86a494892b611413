-- `journal::records::mark_at` meets its contract. One law for each way out. Assumes nothing.
use mathlib.Core.Path.{sym, ◌∙◌}
use native.Mathlib.Omega.{arith}
use mathlib.Core.Logic.{⊎_elim}
use Rattle.journal.proofs.Places.{mark-none, mark-short, mark-long}
use Rattle.journal.proofs.records.mark_at.Goals as goal

pub returns-in_err-get : goal.returns-in_err-get
returns-in_err-get c =
    c.from_residual.ensures
    ∙ sym (mark-none c.args.j.now c.args.at (⊎_elim (λ h. omega (arith, h)) (λ h. absurd (omega (arith, h))) c.in_err-get.ensures.lookup.0))

pub returns-in_default : goal.returns-in_default
returns-in_default c = sym (mark-short c.args.j.now c.args.at _ c.in_default.len_below c.in_ok-get.ensures.lookup.0.3)

pub returns-in-len2-up : goal.returns-in-len2-up
returns-in-len2-up c = c.mark_of.ensures ∙ mark-long c.args.j.now c.args.at _ c.in_ok-get.ensures.lookup.0.2 c.in-len2-up.len_at_least
