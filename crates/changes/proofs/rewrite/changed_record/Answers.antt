use Rattle.changes.proofs.Building.{changed-built}
use lib.ListN.{length-drop}
use native.Mathlib.Omega.{arith}
use Rattle.changes.proofs.rewrite.changed_record.Goals as goal

pub returns : goal.returns
returns c = changed-built c.args.rec.now c.args.line.now c.args.len c.requires.2 _ c.args.n (omega (arith, length-drop c.args.from c.args.j.now)) c.requires.0 c.put_byte.ensures c.put_byte-2.ensures c.copy_in.ensures c.put_byte-3.ensures c.copy_in-2.ensures c.put_byte-4.ensures
