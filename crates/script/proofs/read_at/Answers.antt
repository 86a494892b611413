-- `script::read_at` meets its contract. Assumes nothing.
use mathlib.Core.Path.{sym, ◌∙◌}
use native.Mathlib.Omega.{arith}
use Rattle.definitions.specs.Bytes.{is_digit, is_letter, is_capital, is_small}
use Rattle.script.proofs.Classes.{at-semicolon, at_line_end, at_open, at_close, at-digit, at-letter, at-comment, at_sign}
use Rattle.script.proofs.Distances.{name-far, name-longer}
use Rattle.script.proofs.OneRound.{separator-gives}
use Rattle.script.proofs.read_at.Goals as goal

pub returns-in-59 : goal.returns-in-59
returns-in-59 c = λ acc h. rw (at-semicolon _ _ acc _ _ c.requires.1 c.in-59.is) (separator-gives _ _ _ _ acc h _ _ c.separator.ensures (omega arith) (omega (arith, c.requires.1)))

pub line_end-requires : goal.line_end-requires
line_end-requires c = (_, c.requires.0.0, c.requires.0.1, c.requires.1)

pub returns-in-10 : goal.returns-in-10
returns-in-10 c = λ acc h. rw (at_line_end _ _ acc _ _ c.requires.1 c.in-10.is) (c.line_end.ensures _ acc h c.requires.1)

pub open_group-requires : goal.open_group-requires
open_group-requires c = (_, c.requires.0.0, c.requires.0.1, c.requires.1)

pub returns-in-40 : goal.returns-in-40
returns-in-40 c = λ acc h. rw (at_open _ _ acc _ _ c.requires.1 c.in-40.is) (c.open_group.ensures _ acc h c.requires.1)

pub returns-in-41 : goal.returns-in-41
returns-in-41 c = λ acc h. rw (at_close _ _ acc _ _ c.requires.1 c.in-41.is) (c.close_group.ensures acc h)

pub returns-in-92 : goal.returns-in-92
unfolding is_digit is_letter is_capital is_small
returns-in-92 c = λ acc h.
    let is = c.in-92.is in
    rw (at-comment _ _ acc _ _ c.requires.1 (λ e. omega (arith, e, is)) (λ e. omega (arith, e, is)) (λ e. omega (arith, e, is)) (λ e. omega (arith, e, is)) (rw is) (rw is) _ is c.skip_comment.ensures.place)
    (separator-gives _ _ _ _ acc h _ _ c.separator-in-92.ensures (omega (arith, c.skip_comment.ensures.within.0)) c.skip_comment.ensures.within.1)

pub counted-requires : goal.counted-requires
counted-requires c = (c.requires.0, c.requires.1, sym c.is_digit.ensures ∙ c.if-is_digit.true)

pub returns-in_default : goal.returns-in_default
returns-in_default c = λ acc h. rw (at-digit _ _ acc _ _ c.requires.1 c.in_default.in_default-own.rest.0.0.0.0.1 c.in_default.in_default-own.rest.0.0.0.1 c.in_default.in_default-own.rest.0.0.1 c.in_default.in_default-own.rest.0.1 (sym c.is_digit.ensures ∙ c.if-is_digit.true)) (c.counted.ensures acc h)

pub named-requires : goal.named-requires
named-requires c =
    let letter = sym c.is_letter.ensures ∙ c.if-is_letter.true in
    (c.requires.0, name-far _ _ _ _ c.requires.1 letter c.name.ensures.read, c.name.ensures.within.1, λ large. name-longer _ _ _ _ c.requires.1 (omega (arith, c.type_inv.s c.args.at)) letter c.name.ensures.read large)

pub returns-in_default-2 : goal.returns-in_default-2
returns-in_default-2 c = λ acc h. rw (at-letter _ _ acc _ _ c.requires.1 c.in_default.in_default-own.rest.0.0.0.0.1 c.in_default.in_default-own.rest.0.0.0.1 c.in_default.in_default-own.rest.0.0.1 c.in_default.in_default-own.rest.0.1 (sym c.is_digit.ensures ∙ c.if-is_digit.false) _ _ (sym c.is_letter.ensures ∙ c.if-is_letter.true) c.name.ensures.read) (c.named.ensures acc h)

pub named-requires-in_default-3 : goal.named-requires-in_default-3
named-requires-in_default-3 c = (c.requires.0, omega arith, omega (arith, c.requires.1), λ large. omega (arith, c.type_inv.s c.args.at, large, c.from.ensures))

pub returns-in_default-3 : goal.returns-in_default-3
returns-in_default-3 c = λ acc h. rw (at_sign _ _ acc _ _ c.requires.1 c.in_default.in_default-own.rest.0.0.0.0.1 c.in_default.in_default-own.rest.0.0.0.1 c.in_default.in_default-own.rest.0.0.1 c.in_default.in_default-own.rest.0.1 (sym c.is_digit.ensures ∙ c.if-is_digit.false) (sym c.is_letter.ensures ∙ c.if-is_letter.false) c.in_default.in_default-own.rest.1) (rw c.from.ensures at (c.named-in_default-3.ensures acc h))
