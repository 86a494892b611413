-- `wordset::name_at` meets its contract: one law for each way out. Assumes nothing.
use mathlib.Core.Path.{sym, ◌∙◌}
use native.Mathlib.Omega.{arith}
use Rattle.wordset.proofs.Naming.{quoted-none, quoted-some, first-minus, plain-last, plain_byte, range_none, range-some, range_other}
use Rattle.wordset.proofs.name_at.Goals as goal

pub returns-then-left-lt2 : goal.returns-then-left-lt2
returns-then-left-lt2 c =
    let a = c.args in
    sym (quoted-none a.s.now a.to a.i (omega arith) (omega arith) (omega arith))

pub returns-then-x-eq34 : goal.returns-then-x-eq34
returns-then-x-eq34 c =
    let a = c.args in
    sym (quoted-some a.s.now a.to a.i (omega arith) (omega arith) (omega arith))

pub returns-then-x-eq45 : goal.returns-then-x-eq45
returns-then-x-eq45 c =
    let a = c.args in
    sym (first-minus a.s.now a.to a.i (omega arith) (omega arith))

pub returns-then-left-lt2-2 : goal.returns-then-left-lt2-2
returns-then-left-lt2-2 c =
    let a = c.args in
    sym (plain-last a.s.now a.to a.i (omega arith) c.if-x-eq34.false c.if-x-eq45.false (omega arith))

pub returns-then-s-i-ne45 : goal.returns-then-s-i-ne45
returns-then-s-i-ne45 c =
    let a = c.args in
    sym (plain_byte a.s.now a.to a.i (omega arith) c.if-x-eq34.false c.if-x-eq45.false (omega arith) c.if-s-i-ne45.true)

pub returns-then-left-lt3 : goal.returns-then-left-lt3
returns-then-left-lt3 c =
    let a = c.args in
    sym (range_none a.s.now a.to a.i (omega arith) c.if-x-eq34.false c.if-x-eq45.false (omega arith) (omega arith) (omega arith))

pub returns-then-is_range : goal.returns-then-is_range
returns-then-is_range c =
    let a = c.args in
    sym (range-some a.s.now a.to a.i (omega arith) c.if-x-eq34.false c.if-x-eq45.false (omega arith) (omega arith) (sym c.is_range.ensures ∙ c.if-is_range.true))

pub returns : goal.returns
returns c =
    let a = c.args in
    sym (range_other a.s.now a.to a.i (omega arith) c.if-x-eq34.false c.if-x-eq45.false (omega arith) (omega arith) (sym c.is_range.ensures ∙ c.if-is_range.false))
