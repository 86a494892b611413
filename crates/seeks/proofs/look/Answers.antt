use mathlib.Core.Path.{refl}
use Rattle.seeks.proofs.Finding.{look-eof, look-found, look-not}
use Rattle.seeks.proofs.look.Goals as goal

pub returns-then-ed : goal.returns-then-ed
returns-then-ed c = record { keeps = refl; long = refl; looks = λ se e x t w g h. look-eof _ _ se _ e x t h.shows c.if-ed.true _ c.stop_at_eof.ensures }

pub returns-then-holds_here : goal.returns-then-holds_here
returns-then-holds_here c =
    let f = c.found.ensures in
    record {
      keeps = f.keeps;
      long = f.long;
      looks = λ se e x t w g h. look-found _ _ se _ e x t h.shows c.if-ed.false _ (c.holds_here.ensures se e x t w g h) c.if-holds_here.true _ _ (f.looks e x t h.shows);
    }

pub look_further-requires : goal.look_further-requires
look_further-requires c = (c.requires.0, c.if-ed.false)

pub returns : goal.returns
returns c =
    let f = c.look_further.ensures in
    record {
      keeps = f.keeps;
      long = f.long;
      looks = λ se e x t w g h. look-not _ _ se _ e x t h.shows c.if-ed.false _ (c.holds_here.ensures se e x t w g h) c.if-holds_here.false _ _ (f.looks e x t g h.shows);
    }
