-- `script::inserts::quotes` meets its contract. Assumes nothing.
use native.Mathlib.Omega.{arith}
use Rattle.answers.proofs.Taking.{passed}
use Rattle.script.proofs.Inserting.{quotes-small, quotes-refused, quotes-written}
use Rattle.script.proofs.inserts.quotes.Goals as goal

pub returns-in_err-string : goal.returns-in_err-string
returns-in_err-string c = λ shape a. rw (passed _ _ c.from_residual.ensures.1) (quotes-refused _ _ _ _ _ c.requires.0 a _ c.skip_spaces.ensures.place _ _ c.in_err-string.ensures)

pub head-requires : goal.head-requires
head-requires c = let pre = c.requires in (quotes-small pre.1, omega (arith, pre.0.named, pre.0.inside, pre.0.fits.small))

pub string_word-requires : goal.string_word-requires
string_word-requires c = let m = c.in_ok-string.ensures in (m.1.1, omega (arith, m.1.2, m.2, c.requires.0.fits.small))

pub returns : goal.returns
returns c = λ shape a. rw (c.whole.ensures, c.put_two.ensures) (quotes-written _ _ _ _ _ c.requires.0 a _ c.skip_spaces.ensures.place c.skip_spaces.ensures.within.0 _ _ _ _ _ c.head.ensures c.string_word.ensures c.in_ok-string.ensures)
