use Rattle.seeks.proofs.Tests.{holds-so}
use Rattle.seeks.proofs.test.Goals as goal

pub returns : goal.returns
returns c = λ se e x t w g h. holds-so _ x _ _ se e t h.shows (c.holds_here.ensures se e x t w g h)
