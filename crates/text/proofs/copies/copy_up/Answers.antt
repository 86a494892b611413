-- `text::copies::copy_up` meets its contract. The loop's invariant: the bytes behind the first `left` are copied. Assumes nothing.
use Rattle.std.proofs.Common.{◌≡◌, ◌+◌, ◌-◌, drop, refl, ◌∙◌, add-zero, arith}
use native.Mathlib.Nat.{sub-zero}
use lib.Seq.{paste-zero}
use Rattle.text.proofs.Pieces.{paste-up}
use Rattle.text.proofs.copies.copy_up.Goals as goal

pub loop-left-init : goal.loop-left-init
loop-left-init c =
    let a = c.args in
    let none : a.n - a.n ≡ 0 = omega arith in
    (omega arith, rw none (paste-zero a.d.now (a.at + a.n) (drop (a.from + a.n) a.d.now)), refl)

pub piece_within-requires : goal.piece_within-requires
piece_within-requires c = (omega arith, omega arith, omega arith)

pub loop-left-preserved : goal.loop-left-preserved
loop-left-preserved c =
    let a = c.args in
    let l = c.loop-left in
    let k = c.min-k.result in
    let r = c.piece_within in
    (omega arith, r.ensures ∙ rw l.invariant.1 (paste-up a.d.now a.at a.from a.n l.left k (omega arith) (omega arith) (omega arith) (omega arith)), r.auto.d ∙ l.invariant.2)

pub shape_of-d : goal.shape_of-d
shape_of-d c = c.loop-left.invariant.2

pub returns : goal.returns
returns c =
    let a = c.args in
    let done : c.loop-left.left ≡ 0 = omega arith in
    rw (done, add-zero a.at, add-zero a.from, sub-zero a.n) at c.loop-left.invariant.1
