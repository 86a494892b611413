use Rattle.changes.proofs.Building.{plain-built}
use Rattle.changes.proofs.rewrite.plain_record.Goals as goal

pub returns : goal.returns
returns c = plain-built c.args.rec.now c.args.line.now c.args.len c.requires.1 c.args.mark c.requires.0 c.put_byte.ensures c.put_byte-2.ensures c.copy_in.ensures c.put_byte-3.ensures
