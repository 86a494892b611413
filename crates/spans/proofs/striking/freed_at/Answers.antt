use native.Mathlib.Omega.{arith}
use Rattle.editor.proofs.Records.{some_bytes}
use Rattle.spans.proofs.Standing.{stands-in}
use Rattle.spans.proofs.Erasing.{freed-inserted, freed-changed, freed-none}
use Rattle.spans.proofs.striking.freed_at.Goals as goal

pub bounds-j-at : goal.bounds-j-at
bounds-j-at c = stands-in c.requires.2

pub overflow_sub-result : goal.overflow_sub-result
overflow_sub-result c =
    let w = c.requires in
    omega (arith, w.3)

pub returns-then-mark-eq43 : goal.returns-then-mark-eq43
returns-then-mark-eq43 c = λ r rs h is. freed-inserted c.if-mark-eq43.true r rs h is

pub overflow_sub-result-then-mark-eq60 : goal.overflow_sub-result-then-mark-eq60
overflow_sub-result-then-mark-eq60 c =
    let w = c.requires in
    omega (arith, w.3, some_bytes w.0)

pub zero_after-requires : goal.zero_after-requires
zero_after-requires c =
    let w = c.requires in
    omega (arith, stands-in w.2)

pub overflow_sub-result-then-mark-eq60-2 : goal.overflow_sub-result-then-mark-eq60-2
overflow_sub-result-then-mark-eq60-2 c =
    let w = c.requires in
    omega (arith, (freed-changed c.if-mark-eq60.true _ c.zero_after.ensures w.0 w.1 w.2 w.3).0)

pub returns-then-mark-eq60 : goal.returns-then-mark-eq60
returns-then-mark-eq60 c = λ r rs h is. (freed-changed c.if-mark-eq60.true _ c.zero_after.ensures r rs h is).1

pub returns : goal.returns
returns c = λ r rs h is. freed-none c.if-mark-eq43.false c.if-mark-eq60.false r rs h
