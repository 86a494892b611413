use Rattle.seeks.proofs.Tests.{begin-stop, begin-yes}
use Rattle.seeks.proofs.begin.Goals as goal

pub returns-then-ed : goal.returns-then-ed
returns-then-ed c = begin-stop _ c.if-ed.true

pub returns : goal.returns
returns c = begin-yes _ c.if-ed.false
