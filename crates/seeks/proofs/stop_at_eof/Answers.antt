use Rattle.definitions.specs.Editor.{stop_number}
use Rattle.seeks.specs.Looks.{seek_of, eof_stop}
use Rattle.seeks.proofs.stop_at_eof.Goals as goal

pub returns-in-Forward : goal.returns-in-Forward
unfolding stop_number eof_stop seek_of
returns-in-Forward c = rw c.in-Forward.is

pub returns-in-Backward : goal.returns-in-Backward
unfolding stop_number eof_stop seek_of
returns-in-Backward c = rw c.in-Backward.is

pub returns-in-Deleting : goal.returns-in-Deleting
unfolding stop_number eof_stop seek_of
returns-in-Deleting c = rw c.in-Deleting.is
