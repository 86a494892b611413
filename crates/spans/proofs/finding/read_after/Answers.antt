use Rattle.spans.proofs.Struck.{spanned-until, counted_is}
use Rattle.spans.proofs.finding.read_after.Goals as goal

pub past_to-past-requires : goal.past_to-past-requires
past_to-past-requires c = spanned-until c.requires

pub next_from-requires : goal.next_from-requires
next_from-requires c =
    let w = spanned-until c.requires in
    (w.0, w.1, w.2, w.3, w.4, c.past_to-past.ensures w.0 w.1 w.2 w.3 w.4)

pub returns : goal.returns
returns c = λ e t n h w. c.next_from.ensures e t n h w (counted_is e t n h w c.past_to-past.ensures)
