-- `marks::single` meets its contract. Assumes nothing.
use native.Mathlib.Omega.{arith}
use Rattle.marks.proofs.Singles.{place_inside, names-there, slot-inside, single-flows}
use Rattle.marks.proofs.single.Goals as goal

pub bounds-s-at : goal.bounds-s-at
bounds-s-at c = place_inside c.requires.0 c.requires.1

pub after_mismatch-requires : goal.after_mismatch-requires
after_mismatch-requires c = omega (arith, place_inside c.requires.0 c.requires.1, c.well_formed)

pub named-c-requires : goal.named-c-requires
named-c-requires c = names-there c.requires.0 c.requires.1 c.after_mismatch.ensures

pub bounds-marks-slot : goal.bounds-marks-slot
bounds-marks-slot c = slot-inside c.requires.0 c.requires.1

pub bounds-marks-slot-2 : goal.bounds-marks-slot-2
bounds-marks-slot-2 c = slot-inside c.requires.0 c.requires.1

pub returns : goal.returns
returns c =
    single-flows c.requires.0 c.requires.1 c.args.b _ _ _ c.after_mismatch.ensures c.named-c.ensures c.mark_after-mark.ensures
