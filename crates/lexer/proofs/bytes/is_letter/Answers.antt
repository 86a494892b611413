use Rattle.definitions.specs.Bytes.{is_letter, is_capital, is_small}
use Rattle.lexer.proofs.bytes.is_letter.Goals as goal

pub returns : goal.returns
unfolding is_letter is_capital is_small
returns c = c.is_ascii_alphabetic.ensures.value
