-- `text::copies::copy_down` meets its contract. The loop's invariant: the first i bytes are copied. Assumes nothing.
use Rattle.std.proofs.Common.{◌≡◌, drop, refl, ◌∙◌, arith}
use lib.Seq.{paste-zero}
use Rattle.text.proofs.Pieces.{paste-down}
use Rattle.text.proofs.copies.copy_down.Goals as goal

pub loop-i-init : goal.loop-i-init
loop-i-init c = let a = c.args in (omega arith, paste-zero a.d.now a.at (drop a.from a.d.now), refl)

pub piece_within-requires : goal.piece_within-requires
piece_within-requires c = (omega arith, omega arith, omega arith)

pub loop-i-preserved : goal.loop-i-preserved
loop-i-preserved c =
    let a = c.args in
    let l = c.loop-i in
    let k = c.min-k.result in
    let r = c.piece_within in
    (omega arith, r.ensures ∙ rw l.invariant.1 (paste-down a.d.now a.at a.from l.i k (omega arith) (omega arith)), r.auto.d ∙ l.invariant.2)

pub shape_of-d : goal.shape_of-d
shape_of-d c = c.loop-i.invariant.2

pub returns : goal.returns
returns c =
    let done : c.loop-i.i ≡ c.args.n = omega arith in
    rw done at c.loop-i.invariant.1
