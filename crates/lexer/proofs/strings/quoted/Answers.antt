use mathlib.Core.Path.{sym, ◌∙◌}
use native.Mathlib.Omega.{arith}
use Rattle.lexer.proofs.Parts.{not-quoted, delimiter-inside, is-quoted}
use Rattle.lexer.proofs.strings.quoted.Goals as goal

pub returns-then-not-is_delimiter : goal.returns-then-not-is_delimiter
returns-then-not-is_delimiter c = rw c.at.ensures (not-quoted _ _ _ (sym c.next_byte-d.ensures) (sym c.is_delimiter.ensures ∙ c.if-not-is_delimiter.true))

pub string_end-end-requires : goal.string_end-end-requires
string_end-end-requires c = omega (arith, delimiter-inside c.args.s.now c.args.at _ (sym c.next_byte-d.ensures) (sym c.is_delimiter.ensures ∙ c.if-not-is_delimiter.false))

pub returns : goal.returns
returns c =
    is-quoted _ _ _ (sym c.next_byte-d.ensures) _ _ (sym c.is_delimiter.ensures ∙ c.if-not-is_delimiter.false) c.string_end-end.ensures.text (omega arith) (omega arith)
    c.past_delimiter-next.ensures.place (omega arith) (omega arith)
