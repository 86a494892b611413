use mathlib.Core.Path.{refl, sym}
use native.Mathlib.Nat.{sub-zero}
use native.Mathlib.Omega.{arith}
use Rattle.editor.proofs.Records.{some_bytes, has-source, no_source}
use Rattle.editor.proofs.Held.{held-gap, held-lo, held-less, held-length, unpassed-first, source-past, some-past, unpass-old, unpass-all}
use Rattle.editor.proofs.walk.unpass_record.Goals as goal

pub shift_line_up-lo-requires : goal.shift_line_up-lo-requires
shift_line_up-lo-requires c =
    let h = c.requires.3 in
    (omega (arith, held-less h, some_bytes c.requires.0), h.order, omega (arith, held-length h), held-gap h)

pub overflow_sub-n : goal.overflow_sub-n
overflow_sub-n c =
    let h = c.requires.3 in
    omega (arith, held-lo h, held-less h, c.shift_line_up-lo.ensures.1)

pub overflow_sub-at : goal.overflow_sub-at
overflow_sub-at c =
    let h = c.requires.3 in
    omega (arith, h.order)

pub source_bytes-old-requires : goal.source_bytes-old-requires
source_bytes-old-requires c =
    let to = c.shift_line_up-lo in
    unpassed-first c.requires.3 _ to.result _ _ to.ensures.0 to.ensures.1 refl refl

pub overflow_sub-s : goal.overflow_sub-s
overflow_sub-s c =
    let w = c.requires in
    let to = c.shift_line_up-lo in
    omega (arith, source-past w.3, unpass-old to.result _ _ _ to.ensures.0 to.ensures.1 refl refl c.source_bytes-old.ensures w.0 w.1 w.2 w.3)

pub overflow_sub-s-then-old-gt0 : goal.overflow_sub-s-then-old-gt0
overflow_sub-s-then-old-gt0 c =
    let w = c.requires in
    let to = c.shift_line_up-lo in
    let more = c.if-old-gt0.true in
    some-past w.3 (omega (arith, unpass-old to.result _ _ _ to.ensures.0 to.ensures.1 refl refl c.source_bytes-old.ensures w.0 w.1 w.2 w.3))

pub returns-then-old-gt0 : goal.returns-then-old-gt0
returns-then-old-gt0 c =
    let to = c.shift_line_up-lo in
    let more = c.if-old-gt0.true in
    unpass-all to.result _ _ _ to.ensures.0 to.ensures.1 refl refl c.source_bytes-old.ensures _ 1 (λ r q. has-source r (omega arith)) refl refl refl refl refl refl (record { furthest = refl; lines = refl; p = refl }) c.requires

pub returns-else-old-gt0 : goal.returns-else-old-gt0
returns-else-old-gt0 c =
    let to = c.shift_line_up-lo in
    let none = c.if-old-gt0.false in
    unpass-all to.result _ _ _ to.ensures.0 to.ensures.1 refl refl c.source_bytes-old.ensures _ 0 (λ r q. no_source r (omega arith)) refl refl (sym (sub-zero _)) refl refl refl (record { furthest = refl; lines = refl; p = refl }) c.requires
