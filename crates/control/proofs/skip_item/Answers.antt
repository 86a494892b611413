use Rattle.control.proofs.Passing.{skip-opens, skip-last, skip-close, skip-other}
use Rattle.control.proofs.Standing.{stands-in}
use Rattle.control.proofs.Classes.{readable}
use native.Mathlib.Omega.{arith}
use Rattle.items.proofs.Reading.{seen_as}
use Rattle.control.proofs.Moving.{skips-opens, skips-last, skips-close, skips-other}
use Rattle.control.proofs.skip_item.Goals as goal

pub here-seen-requires : goal.here-seen-requires
here-seen-requires c = let p = c.requires.0 in readable p.0 _ p.1 _ _ _ p.3 p.2 p.5 p.4

pub overflow_add-count : goal.overflow_add-count
overflow_add-count c = let p = c.requires.0 in omega (arith, stands-in p.0 _ p.1 _ _ p.2 p.4.stands)

pub returns-in-Opens : goal.returns-in-Opens
returns-in-Opens c = ((λ s end items frames h less. skip-opens _ _ _ _ _ _ (seen_as _ _ _ c.here-seen.ensures) _ c.requires.1 s end items frames c.stand.ensures c.in-Opens.is h less), skips-opens _ _ c.here-seen.ensures _ _ _ c.in-Opens.is c.stand.ensures)

pub returns-then-count-eq1 : goal.returns-then-count-eq1
returns-then-count-eq1 c = ((λ s end items frames h less. skip-last _ _ _ _ _ _ (seen_as _ _ _ c.here-seen.ensures) _ c.requires.1 s end items frames c.stand-then-count-eq1.ensures c.in-Close.is c.if-count-eq1.true h less), skips-last _ _ c.here-seen.ensures _ _ _ c.in-Close.is c.if-count-eq1.true c.stand-then-count-eq1.ensures)

pub returns-else-count-eq1 : goal.returns-else-count-eq1
returns-else-count-eq1 c = ((λ s end items frames h less. skip-close _ _ _ _ _ _ (seen_as _ _ _ c.here-seen.ensures) _ c.requires.1 s end items frames c.stand-in-Close.ensures c.in-Close.is c.if-count-eq1.false h less), skips-close _ _ c.here-seen.ensures _ _ _ c.in-Close.is c.if-count-eq1.false c.stand-in-Close.ensures)

pub returns-in_default : goal.returns-in_default
returns-in_default c = ((λ s end items frames h less. skip-other _ _ _ _ _ _ (seen_as _ _ _ c.here-seen.ensures) _ c.requires.1 s end items frames c.stand-in_default.ensures c.in_default.not-Opens c.in_default.not-Close h less), skips-other _ _ c.here-seen.ensures _ _ _ c.in_default.not-Opens c.in_default.not-Close c.stand-in_default.ensures)
