use Rattle.editor.proofs.Walking.{source-walks}
use Rattle.editor.proofs.walk.to_source.Goals as goal

pub on_to-requires : goal.on_to-requires
on_to-requires c =
    let h = c.requires in
    (_, _, c.back_to-near.ensures.0 h.0 h.1 h.2)

pub returns : goal.returns
returns c = source-walks _ c.back_to-near.ensures c.on_to.ensures
