-- `journal::measure::listing_room` meets its contract. No sum passes the destination's size. Assumes nothing.
use mathlib.Core.Path.{sym}
use native.Mathlib.Omega.{arith}
use Rattle.journal.proofs.Measures.{room-enough, room-lacking}
use Rattle.journal.proofs.measure.listing_room.Goals as goal

pub returns-then-size-shown : goal.returns-then-size-shown
returns-then-size-shown c = sym (room-lacking _ _ (omega arith))

pub returns-then-size-heads : goal.returns-then-size-heads
returns-then-size-heads c = sym (room-lacking _ _ (omega arith))

pub returns : goal.returns
returns c = sym (room-enough _ _ (omega arith))
