use Rattle.seeks.proofs.Tests.{eof-so}
use Rattle.seeks.proofs.test_eof.Goals as goal

pub returns : goal.returns
returns c = eof-so _
