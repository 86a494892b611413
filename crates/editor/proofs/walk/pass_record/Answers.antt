use mathlib.Core.Path.{refl, sym}
use native.Mathlib.Nat.{add-zero}
use native.Mathlib.Omega.{arith}
use Rattle.editor.proofs.Records.{has-source, no_source}
use Rattle.editor.proofs.Held.{held-gap, held_more, held-record, passed_first, source-room, pass-old, pass_all}
use Rattle.editor.proofs.walk.pass_record.Goals as goal

pub shift_line_down-n-requires : goal.shift_line_down-n-requires
shift_line_down-n-requires c =
    let h = c.requires.3 in
    (h.order, omega (arith, held_more h), held-gap h)

pub source_bytes-old-requires : goal.source_bytes-old-requires
source_bytes-old-requires c =
    let to = c.shift_line_down-n in
    passed_first c.requires.3 _ _ to.ensures.0 to.ensures.1

pub overflow_add-s : goal.overflow_add-s
overflow_add-s c =
    let h = c.requires.3 in
    omega (arith, h.order, held_more h, held-record h, c.shift_line_down-n.ensures.1)

pub overflow_add-s-2 : goal.overflow_add-s-2
overflow_add-s-2 c =
    let h = c.requires.3 in
    omega (arith, h.order, held_more h, held-record h, c.shift_line_down-n.ensures.1)

pub overflow_add-s-3 : goal.overflow_add-s-3
overflow_add-s-3 c =
    let w = c.requires in
    let to = c.shift_line_down-n in
    omega (arith, source-room w.3, pass-old _ _ to.ensures.0 to.ensures.1 c.source_bytes-old.ensures w.0 w.1 w.2 w.3)

pub returns-then-old-gt0 : goal.returns-then-old-gt0
returns-then-old-gt0 c =
    let to = c.shift_line_down-n in
    let more = c.if-old-gt0.true in
    pass_all to.result _ to.ensures.0 to.ensures.1 c.source_bytes-old.ensures _ 1 (λ r q. has-source r (omega arith)) refl refl refl refl refl refl (record { furthest = refl; lines = refl; p = refl }) c.requires

pub returns-else-old-gt0 : goal.returns-else-old-gt0
returns-else-old-gt0 c =
    let to = c.shift_line_down-n in
    let none = c.if-old-gt0.false in
    pass_all to.result _ to.ensures.0 to.ensures.1 c.source_bytes-old.ensures _ 0 (λ r q. no_source r (omega arith)) refl refl (sym (add-zero _)) refl refl refl (record { furthest = refl; lines = refl; p = refl }) c.requires
