-- `run::opening_fits` meets its contract. Assumes nothing.
use Rattle.run.proofs.Whole.{too_short, no-marks, room-enough}
use Rattle.run.proofs.opening_fits.Goals as goal

pub returns-then-room-bytes : goal.returns-then-room-bytes
returns-then-room-bytes c = too_short _ _ _ c.if-room-bytes.true

pub returns-then-room-bytes-2 : goal.returns-then-room-bytes-2
returns-then-room-bytes-2 c = no-marks _ _ _ c.if-room-bytes.false c.if-room-bytes-2.true

pub returns : goal.returns
returns c = room-enough _ _ _ c.if-room-bytes.false c.if-room-bytes-2.false
