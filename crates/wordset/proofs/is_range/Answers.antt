-- `wordset::is_range` meets its contract. Assumes nothing.
use Rattle.definitions.specs.Bytes.{is_digit, is_capital, is_small}
use Rattle.definitions.specs.WordSet.{is_range}
use Rattle.wordset.proofs.is_range.Goals as goal

pub returns : goal.returns
unfolding is_range is_digit is_capital is_small
returns c = rw (c.is_ascii_digit.ensures.value, c.is_ascii_digit-2.ensures.value, c.is_ascii_uppercase.ensures.value, c.is_ascii_uppercase-2.ensures.value, c.is_ascii_lowercase.ensures.value, c.is_ascii_lowercase-2.ensures.value)
