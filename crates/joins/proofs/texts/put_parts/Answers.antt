use Rattle.joins.proofs.Parts.{parts-put}
use Rattle.joins.proofs.texts.put_parts.Goals as goal

pub returns : goal.returns
returns c =
    parts-put _ c.args.a.now c.args.s.now c.args.j.now c.args.from c.args.n c.args.at c.args.m c.requires.0 c.requires.1 c.requires.2 c.copy_in.ensures c.copy_in-2.ensures c.copy_in-3.ensures
