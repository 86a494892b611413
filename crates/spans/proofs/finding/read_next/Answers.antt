use mathlib.Core.Logic.{inl, inr}
use Rattle.spans.proofs.Ends.{alone-ends}
use Rattle.spans.proofs.Nexts.{ThroughFirst, next-asks, next-after}
use Rattle.spans.proofs.finding.read_next.Goals.{then-j-b-ne43, else-j-b-ne43}
use Rattle.spans.proofs.finding.read_next.Goals as goal

pub next_from-requires : goal.next_from-requires
next_from-requires c =
    let way : ThroughFirst c.args.j.now c.args.st c.if-j-b-ne43.past = elim c.if-j-b-ne43.branch [ then-j-b-ne43 w ↦ inl (w.if-j-b-ne43.true, w.past-is) | else-j-b-ne43 w ↦ inr (w.if-j-b-ne43.false, w.past-is) ] in
    next-asks c.requires.0 c.requires.1 _ _ c.record_end-end.ensures way

pub returns : goal.returns
returns c =
    let way : ThroughFirst c.args.j.now c.args.st c.if-j-b-ne43.past = elim c.if-j-b-ne43.branch [ then-j-b-ne43 w ↦ inl (w.if-j-b-ne43.true, w.past-is) | else-j-b-ne43 w ↦ inr (w.if-j-b-ne43.false, w.past-is) ] in
    λ e t h. c.next_from.ensures e t 1 h (alone-ends e t h c.requires.1 _ c.record_end-end.ensures) (next-after e t h c.requires.1 way)
