use Rattle.spans.proofs.Struck.{spanned-until, struck-span}
use Rattle.spans.proofs.striking.strike_span.Goals as goal

pub strike_to-gone-requires : goal.strike_to-gone-requires
strike_to-gone-requires c = spanned-until c.requires

pub land_live-l-requires : goal.land_live-l-requires
land_live-l-requires c =
    let w = spanned-until c.requires in
    let s = c.strike_to-gone in
    (_, _, s.ensures.0 w.0 w.1 w.2 w.3 w.4)

pub read_current-requires : goal.read_current-requires
read_current-requires c =
    let w = spanned-until c.requires in
    let s = c.strike_to-gone in
    let l = c.land_live-l in
    (_, _, l.ensures.0 _ _ (s.ensures.0 w.0 w.1 w.2 w.3 w.4))

pub returns : goal.returns
returns c =
    let s = c.strike_to-gone.ensures in
    let l = c.land_live-l.ensures in
    λ e t n h w. struck-span _ e t n h w s l c.read_current.ensures
