use native.Mathlib.Omega.{arith}
use borrow.Author.Rules.{rules}
use Rattle.matching.proofs.Writing.{bit-written, bit_low, flags-written}
use Rattle.matching.proofs.search.flags_of.Goals as goal

pub returns : goal.returns
returns c = (
  flags-written _ (search rules) _ _ _ _ _ _ _ (bit-written _ c.from-last.ensures)
      (bit-written _ c.from-negated.ensures)
      (bit-written _ c.from-word.ensures)
      (bit-written _ c.from-fold.ensures)
      (bit-written _ c.from-skip.ensures)
      (bit-written _ c.from-columns.ensures)
      (bit-written _ c.from-pattern.ensures),
  omega (arith, bit_low _ c.from-last.ensures, bit_low _ c.from-negated.ensures, bit_low _ c.from-word.ensures, bit_low _ c.from-fold.ensures, bit_low _ c.from-skip.ensures, bit_low _ c.from-columns.ensures, bit_low _ c.from-pattern.ensures),
)
