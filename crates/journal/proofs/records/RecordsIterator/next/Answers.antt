-- `journal::records::RecordsIterator::next` meets its contract. A record found ends after its place. Assumes nothing.
use Rattle.std.proofs.Common.{refl}
use mathlib.Core.Path.{sym}
use native.Mathlib.Omega.{arith}
use Rattle.journal.proofs.Here.{ends-after}
use Rattle.journal.proofs.records.RecordsIterator.next.Goals as goal

pub returns-in_err-x-clause-steps : goal.returns-in_err-x-clause-steps
returns-in_err-x-clause-steps c = rw c.from_residual.ensures (sym c.in_err-x.ensures, refl)

pub overflow_add-self : goal.overflow_add-self
overflow_add-self c = omega (arith, ends-after _ _ _ (sym c.in_ok-x.ensures))

pub returns-clause-steps : goal.returns-clause-steps
returns-clause-steps c = (sym c.in_ok-x.ensures, refl, refl)

pub returns-clause-goes : goal.returns-clause-goes
returns-clause-goes c = let e = ends-after _ _ _ (sym c.in_ok-x.ensures) in record {
  on = λ f. (tt, tt, omega (arith, e));
  keeps = tt;
  rests = λ f. tt;
}
