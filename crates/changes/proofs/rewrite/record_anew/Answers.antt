use Rattle.editor.proofs.Walking.{passable}
use Rattle.changes.proofs.Rewriting.{has-ends, makes-anew}
use Rattle.changes.proofs.rewrite.record_anew.Goals as goal

pub record_ends-c-requires : goal.record_ends-c-requires
record_ends-c-requires c = let w = c.requires in
    passable w.0.2.holds w.1

pub build_record-n-requires : goal.build_record-n-requires
build_record-n-requires c = let w = c.requires in
    (has-ends c.record_ends-c.ensures w.1 w.0, w.2, w.3, w.4)

pub returns : goal.returns
returns c = makes-anew c.record_ends-c.ensures _ _ _ _ c.build_record-n.ensures
