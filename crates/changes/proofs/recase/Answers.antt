use mathlib.Core.Path.{refl}
use native.Mathlib.Omega.{arith}
use Rattle.editor.proofs.Parts.{handed}
use Rattle.changes.proofs.Commands.{has-byte, has_short, recase-text, recase-stop, recase-on}
use Rattle.changes.proofs.recase.Goals as goal

pub overflow_add-p : goal.overflow_add-p
overflow_add-p c = omega (arith, has_short (has-byte _ c.byte_here.ensures _ c.in_ok-x.was c.requires))

pub splice_current-requires : goal.splice_current-requires
splice_current-requires c = let sees = c.byte_here.ensures in
    (has-byte _ sees _ c.in_ok-x.was c.requires, omega arith, omega arith, recase-text _ sees _ c.in_ok-x.was _ _ c.cased.ensures c.requires)

pub returns-in_err-x : goal.returns-in_err-x
returns-in_err-x c = record {
  keeps = refl;
  long = refl;
  does = rw (handed _ _ c.from_residual.ensures.1) (recase-stop _ c.byte_here.ensures _ _ c.in_err-x.was);
}

pub returns : goal.returns
returns c = record {
  keeps = c.splice_current.ensures.keeps;
  long = c.splice_current.ensures.long;
  does = recase-on _ c.byte_here.ensures _ c.in_ok-x.was _ _ c.cased.ensures _ _ c.splice_current.ensures.does;
}
