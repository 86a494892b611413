-- `strings::read_bytes` meets its contract. Assumes nothing.
use native.Mathlib.Omega.{arith}
use Rattle.text.specs.Lines.{part}
use Rattle.strings.proofs.Forming.{is-fault, is-pattern, plain-bytes, fault-bytes, pattern-bytes, fault-within}
use Rattle.strings.proofs.read_bytes.Goals as goal

pub overflow_add-part : goal.overflow_add-part
overflow_add-part c =
    let a = c.args in
    let string = part a.part.start a.part.end a.s.now in
    omega (arith, fault-within a.s.now a.part.start a.part.end _ c.requires.1 c.requires.2 (is-fault string c.in-Err.ensures))

pub with_leads-quals-requires : goal.with_leads-quals-requires
with_leads-quals-requires c =
    let a = c.args in
    let pattern = is-pattern (part a.part.start a.part.end a.s.now) c.in-Ok.ensures in
    (c.requires.0, c.if-q.true, pattern)

pub returns-in-Err : goal.returns-in-Err
returns-in-Err c =
    let a = c.args in
    let string = part a.part.start a.part.end a.s.now in
    rw c.at.ensures (fault-bytes a.s.now a.q a.part.start a.part.end a.next c.if-q.true _ (is-fault string c.in-Err.ensures))

pub returns-in-Ok : goal.returns-in-Ok
returns-in-Ok c =
    let a = c.args in
    let pattern = is-pattern (part a.part.start a.part.end a.s.now) c.in-Ok.ensures in
    pattern-bytes a.s.now a.q a.part.start a.part.end a.next c.if-q.true pattern.0 _ pattern.1 c.with_leads-quals.ensures

pub returns : goal.returns
returns c =
    let a = c.args in
    plain-bytes a.s.now a.q a.part.start a.part.end a.next c.requires.0 c.if-q.false
