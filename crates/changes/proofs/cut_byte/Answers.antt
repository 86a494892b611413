use mathlib.Core.Path.{refl}
use native.Mathlib.Omega.{arith}
use Rattle.definitions.specs.Bytes.{all_text}
use Rattle.editor.proofs.Parts.{handed}
use Rattle.changes.proofs.Commands.{has-byte, cut-stop, cut_on}
use Rattle.changes.proofs.cut_byte.Goals as goal

pub splice_current-requires : goal.splice_current-requires
splice_current-requires c = (has-byte _ c.byte_here.ensures _ c.in_ok-x.was c.requires, omega arith, omega arith, unfold all_text in refl)

pub returns-in_err-x : goal.returns-in_err-x
returns-in_err-x c = record {
  keeps = refl;
  long = refl;
  does = rw (handed _ _ c.from_residual.ensures.1) (cut-stop _ c.byte_here.ensures _ c.in_err-x.was);
}

pub returns : goal.returns
returns c = record {
  keeps = c.splice_current.ensures.keeps;
  long = c.splice_current.ensures.long;
  does = cut_on _ c.byte_here.ensures _ c.in_ok-x.was _ _ c.splice_current.ensures.does;
}
