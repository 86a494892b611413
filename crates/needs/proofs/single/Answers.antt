-- `needs::single` meets its contract. Assumes nothing.
use native.Mathlib.Omega.{arith}
use borrow.Author.Tests.{eq-eqb, ne_eqb}
use Rattle.needs.proofs.Singles.{place_inside, names-there, mismatch-needs, plain-needs}
use Rattle.needs.proofs.single.Goals as goal

pub bounds-s-at : goal.bounds-s-at
bounds-s-at c = place_inside c.requires.1 c.requires.0

pub after_mismatch-requires : goal.after_mismatch-requires
after_mismatch-requires c = omega (arith, place_inside c.requires.1 c.requires.0, c.well_formed)

pub named-c-requires : goal.named-c-requires
named-c-requires c = names-there c.requires.1 c.after_mismatch.ensures c.requires.0

pub returns-then-mismatch : goal.returns-then-mismatch
returns-then-mismatch c =
    mismatch-needs c.requires.1 c.after_mismatch.ensures _ c.named-c.ensures (eq-eqb _ _ c.if-mismatch.true)

pub returns : goal.returns
returns c =
    plain-needs c.requires.1 c.after_mismatch.ensures _ c.named-c.ensures (ne_eqb _ _ c.if-mismatch.false) _ c.only_byte.ensures
