use Rattle.definitions.specs.Bytes.{is_digit}
use Rattle.lexer.proofs.bytes.is_digit.Goals as goal

pub returns : goal.returns
unfolding is_digit
returns c = c.is_ascii_digit.ensures.value
