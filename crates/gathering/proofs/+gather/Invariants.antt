-- `gathering::gather`, which calls itself: its measure is the number of bytes.
use Rattle.std.proofs.Common.{length}
use Rattle.gathering.proofs.+gather.Given as goal

abbrev pub decreases-gather : goal.decreases-gather
decreases-gather l = length l.s.now
