use mathlib.Core.Path.{refl}
use native.Mathlib.Omega.{arith}
use Rattle.editor.proofs.Shown.{point-text}
use Rattle.editor.proofs.Parts.{handed}
use Rattle.changes.proofs.Commands.{has-byte, has_short, right-stop, right-on}
use Rattle.changes.proofs.right.Goals as goal

pub overflow_add-ed : goal.overflow_add-ed
overflow_add-ed c = omega (arith, has_short (has-byte _ c.byte_here.ensures _ c.in_ok-byte_here.was c.requires))

pub returns-in_err-byte_here : goal.returns-in_err-byte_here
returns-in_err-byte_here c = record {
  keeps = refl;
  long = refl;
  does = (refl, rw (handed _ _ c.from_residual.ensures.1) (right-stop _ c.byte_here.ensures _ c.in_err-byte_here.was));
}

pub invariant_of-ed-2 : goal.invariant_of-ed-2
invariant_of-ed-2 c = record { shows = point-text _ c.args.ed.now.shows }

pub returns : goal.returns
returns c = record {
  keeps = refl;
  long = refl;
  does = (refl, right-on _ c.byte_here.ensures _ c.in_ok-byte_here.was _ refl);
}
