use mathlib.Core.Path.{refl}
use Rattle.editor.proofs.CurrentText.{copy-eof, copied-good, copy-on}
use Rattle.editor.proofs.Editor.copy_line.Goals as goal

pub returns-then-self : goal.returns-then-self
returns-then-self c = record { keeps = refl; long = refl; does = copy-eof c.if-self.true }

pub insert_line-requires : goal.insert_line-requires
insert_line-requires c = copied-good _ _ _ c.copy_current-n.ensures c.requires

pub returns : goal.returns
returns c = record {
  keeps = c.insert_line.ensures.keeps;
  long = c.insert_line.ensures.long;
  does = copy-on _ _ _ c.copy_current-n.ensures c.if-self.false _ _ c.insert_line.ensures.does;
}
