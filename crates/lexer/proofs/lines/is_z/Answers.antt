use mathlib.Core.Path.{sym, ap, ◌∙◌}
use native.Mathlib.Omega.{arith}
use lib.ListN.{get_or}
use Rattle.definitions.specs.Commands.{is_z}
use Rattle.lexer.proofs.Inserts.{z-not-one, one_byte}
use Rattle.lexer.proofs.ToZ.{z-is, z-other}
use Rattle.lexer.proofs.lines.is_z.Goals as goal

pub returns-then-end-at-ne1 : goal.returns-then-end-at-ne1
returns-then-end-at-ne1 c = sym (z-not-one _ _ _ (omega arith) (omega arith) c.if-end-at-ne1.true)

pub returns-in-90 : goal.returns-in-90
returns-in-90 c =
    let a = c.args in
    sym (ap is_z (one_byte a.s.now a.at a.end (omega arith) (omega arith) c.if-end-at-ne1.false) ∙ z-is (get_or a.s.now a.at 0) c.in-90.is)

pub returns-in_default : goal.returns-in_default
returns-in_default c =
    let a = c.args in
    sym (ap is_z (one_byte a.s.now a.at a.end (omega arith) (omega arith) c.if-end-at-ne1.false) ∙ z-other (get_or a.s.now a.at 0) c.in_default.in_default-own.rest.1)
