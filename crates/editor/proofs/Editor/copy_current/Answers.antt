use native.Mathlib.Omega.{arith}
use Rattle.editor.proofs.CurrentText.{read_short, copies-line}
use Rattle.editor.proofs.Editor.copy_current.Goals as goal

pub current_line-text-requires : goal.current_line-text-requires
current_line-text-requires c = let w = c.requires in
    ((w.0.0, w.0.1, w.0.2.shows, w.0.2.old), w.1)

pub copy_in-requires : goal.copy_in-requires
copy_in-requires c = let short = read_short _ c.current_line-text.ensures c.requires.0 in
    (omega (arith, short, c.requires.2), omega arith)

pub returns : goal.returns
returns c = copies-line _ _ _ c.current_line-text.ensures c.copy_in.ensures
