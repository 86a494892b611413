-- `text::copies::piece_within` meets its contract: what is copied by way of the array is copied. Assumes nothing.
use Rattle.std.proofs.Common.{◌∙◌, arith}
use Rattle.text.proofs.Pieces.{paste-through}
use Rattle.text.proofs.copies.piece_within.Goals as goal

pub returns : goal.returns
returns c =
    let a = c.args in
    c.copy_in-2.ensures ∙ rw c.copy_in.ensures (paste-through a.d.now _ a.d.now a.at a.from a.n (omega arith))
