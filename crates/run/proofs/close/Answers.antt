-- `run::close` meets its contract. Assumes nothing.
use Rattle.run.proofs.Whole.{closes-done, closes-stopped}
use Rattle.run.proofs.close.Goals as goal

pub returns-then-number-eq0 : goal.returns-then-number-eq0
returns-then-number-eq0 c = closes-done _ _ _ _ _ c.close_journal-length.ensures c.if-number-eq0.true

pub returns : goal.returns
returns c = closes-stopped _ _ _ _ _ c.close_journal-length.ensures c.if-number-eq0.false
