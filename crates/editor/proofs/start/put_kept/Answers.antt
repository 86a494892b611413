use native.Mathlib.Omega.{arith}
use lib.ListN.{length-set}
use Rattle.editor.proofs.Opening.{put-line}
use Rattle.editor.proofs.start.put_kept.Goals as goal

pub bounds-j-a-2 : goal.bounds-j-a-2
bounds-j-a-2 c =
    simp length-set (omega (arith, c.requires.0, c.requires.1, c.copy_in.auto.d))

pub returns : goal.returns
returns c =
    let a = c.args in
    (rw c.copy_in.ensures (put-line a.j.now a.t.now a.o a.from a.n c.requires.0 c.requires.1), omega (arith, c.requires.0))
