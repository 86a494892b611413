use mathlib.Core.Path.{refl}
use Rattle.definitions.specs.Given.{no_globals}
use Rattle.editor.proofs.Shown.{shown}
use Rattle.seeks.proofs.Looking.{held-text}
use Rattle.seeks.proofs.Finding.{found-forward, found-backward, found-deleting}
use Rattle.seeks.proofs.found.Goals as goal

pub strike_back-ed-requires : goal.strike_back-ed-requires
strike_back-ed-requires c = (_, _, (shown c.args.ed.now.shows).2.holds)

pub returns-in-Forward : goal.returns-in-Forward
returns-in-Forward c = record { keeps = refl; long = refl; looks = found-forward _ _ _ _ c.in-Forward.is }

pub returns-in-Backward : goal.returns-in-Backward
returns-in-Backward c = record { keeps = refl; long = refl; looks = found-backward _ _ _ _ c.in-Backward.is }

pub invariant_of-ed : goal.invariant_of-ed
invariant_of-ed c =
    let b = c.strike_back-ed in
    let w = shown c.args.ed.now.shows in
    record { shows = held-text _ _ (found-deleting _ _ _ _ c.in-Deleting.is _ _ b.auto.j b.ensures.0 b.ensures.1 w.0 no_globals w.1 w.2) }

pub returns-in-Deleting : goal.returns-in-Deleting
returns-in-Deleting c =
    let b = c.strike_back-ed in
    record { keeps = refl; long = b.auto.j; looks = found-deleting _ _ _ _ c.in-Deleting.is _ _ b.auto.j b.ensures.0 b.ensures.1 }
