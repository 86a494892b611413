-- `strings::letters::add_letter` meets its contract. in each arm the letter is known, and adding it is that clause of the definition. Assumes nothing.
use Rattle.strings.proofs.Adding.{letter-B, letter-E, letter-P, letter-L, letter-N, letter-W, letter-U, letter-S, letter-R, letter-other}
use Rattle.strings.proofs.letters.add_letter.Goals as goal

pub returns-in-66 : goal.returns-in-66
returns-in-66 c = let a = c.args in letter-B a.q a.in_search a.letter _ c.in-66.is c.add_anchor.ensures

pub returns-in-69 : goal.returns-in-69
returns-in-69 c = let a = c.args in letter-E a.q a.in_search a.letter _ c.in-69.is c.add_anchor-in-69.ensures

pub returns-in-80 : goal.returns-in-80
returns-in-80 c = let a = c.args in letter-P a.q a.in_search a.letter _ c.in-80.is c.add_anchor-in-80.ensures

pub returns-in-76 : goal.returns-in-76
returns-in-76 c = let a = c.args in letter-L a.q a.in_search a.letter _ c.in-76.is c.add_last.ensures

pub returns-in-78 : goal.returns-in-78
returns-in-78 c = let a = c.args in letter-N a.q a.in_search a.letter _ c.in-78.is c.add_negated.ensures

pub returns-in-87 : goal.returns-in-87
returns-in-87 c = let a = c.args in letter-W a.q a.in_search a.letter _ c.in-87.is c.add_word.ensures

pub returns-in-85 : goal.returns-in-85
returns-in-85 c = let a = c.args in letter-U a.q a.in_search a.letter _ c.in-85.is c.add_fold.ensures

pub returns-in-83 : goal.returns-in-83
returns-in-83 c = let a = c.args in letter-S a.q a.in_search a.letter _ c.in-83.is c.add_skip.ensures

pub returns-in-82 : goal.returns-in-82
returns-in-82 c = let a = c.args in letter-R a.q a.in_search a.letter _ c.in-82.is c.add_pattern.ensures

pub returns-in_default : goal.returns-in_default
returns-in_default c = let a = c.args in letter-other a.q a.in_search a.letter c.in_default.in_default-own.rest.0.0.0.0.0.0.0.0.1 c.in_default.in_default-own.rest.0.0.0.0.0.0.0.1 c.in_default.in_default-own.rest.0.0.0.0.0.0.1 c.in_default.in_default-own.rest.0.0.0.0.0.1 c.in_default.in_default-own.rest.0.0.0.0.1 c.in_default.in_default-own.rest.0.0.0.1 c.in_default.in_default-own.rest.0.0.1 c.in_default.in_default-own.rest.0.1 c.in_default.in_default-own.rest.1
