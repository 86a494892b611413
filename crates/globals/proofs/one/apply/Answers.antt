use mathlib.Core.Path.{refl}
use native.Mathlib.Nat.{sub-zero}
use native.Mathlib.Omega.{arith}
use Rattle.globals.proofs.Decoding.{makes-decoded, first-asked, passes_none, passes-after, passes-before, passes-exchange, occurs-after, occurs-before, occurs-exchange}
use Rattle.globals.proofs.one.apply.Goals as goal

pub overflow_add-k : goal.overflow_add-k
overflow_add-k c =
    let d = makes-decoded _ _ _ c.requires.0 in
    omega (arith, d.room, d.inside, d.inside')

pub start_at-from-requires : goal.start_at-from-requires
start_at-from-requires c =
    let d = makes-decoded _ _ _ c.requires.0 in
    omega (arith, d.room, d.inside, d.inside')

pub overflow_add-k-2 : goal.overflow_add-k-2
overflow_add-k-2 c =
    let d = makes-decoded _ _ _ c.requires.0 in
    omega (arith, d.room, d.inside, d.inside', c.start_at-from.ensures)

pub length_at-requires : goal.length_at-requires
length_at-requires c =
    let d = makes-decoded _ _ _ c.requires.0 in
    omega (arith, d.room, d.inside, d.inside', c.start_at-from.ensures)

pub overflow_add-to : goal.overflow_add-to
overflow_add-to c =
    let d = makes-decoded _ _ _ c.requires.0 in
    omega (arith, d.room, d.inside, d.inside', c.start_at-from.ensures, c.length_at.ensures)

pub slice_bounds-next_place-end-2 : goal.slice_bounds-next_place-end-2
slice_bounds-next_place-end-2 c =
    let d = makes-decoded _ _ _ c.requires.0 in
    omega (arith, d.room, d.inside, d.inside', c.start_at-from.ensures, c.length_at.ensures)

pub next_place-first-requires : goal.next_place-first-requires
next_place-first-requires c = rw sub-zero (first-asked _ _ _ _ _ _ _ _ _ c.start_at-from.ensures c.length_at.ensures refl refl c.requires.1 (omega (arith, c.requires.1, c.requires.2)))

pub returns-then-first-n : goal.returns-then-first-n
returns-then-first-n c =
    let d = makes-decoded _ _ _ c.requires.0 in
    passes_none _ _ _ _ _ _ _ _ _ c.start_at-from.ensures c.length_at.ensures refl refl c.requires.1 (omega (arith, c.requires.1, c.requires.2)) _ (rw sub-zero at c.next_place-first.ensures) c.if-first-n.true

pub overflow_add-word : goal.overflow_add-word
overflow_add-word c =
    let d = makes-decoded _ _ _ c.requires.0 in
    omega (arith, d.room, d.inside, d.inside', c.start_at-from.ensures, c.length_at.ensures)

pub offset_bounds-w-k : goal.offset_bounds-w-k
offset_bounds-w-k c =
    let d = makes-decoded _ _ _ c.requires.0 in
    omega (arith, d.room, d.inside, d.inside', c.start_at-from.ensures, c.length_at.ensures)

pub bounds-w-k : goal.bounds-w-k
bounds-w-k c =
    let d = makes-decoded _ _ _ c.requires.0 in
    omega (arith, d.room, d.inside, d.inside', c.start_at-from.ensures, c.length_at.ensures)

pub overflow_add-end : goal.overflow_add-end
overflow_add-end c =
    let d = makes-decoded _ _ _ c.requires.0 in
    omega (arith, d.room, d.inside, d.inside', c.start_at-from.ensures, c.length_at.ensures, c.string_start-start.ensures, c.string_length.ensures)

pub kind_of-kind-requires : goal.kind_of-kind-requires
kind_of-kind-requires c =
    let d = makes-decoded _ _ _ c.requires.0 in
    omega (arith, d.room, d.inside, d.inside', c.start_at-from.ensures, c.length_at.ensures, c.string_start-start.ensures, c.string_length.ensures)

pub slice_bounds-rewrite-end : goal.slice_bounds-rewrite-end
slice_bounds-rewrite-end c =
    let d = makes-decoded _ _ _ c.requires.0 in
    omega (arith, d.room, d.inside, d.inside', c.start_at-from.ensures, c.length_at.ensures, c.string_start-start.ensures, c.string_length.ensures)

pub slice_bounds-rewrite-end-then-kind-eq-GLOBAL_AFTER : goal.slice_bounds-rewrite-end-then-kind-eq-GLOBAL_AFTER
slice_bounds-rewrite-end-then-kind-eq-GLOBAL_AFTER c =
    let d = makes-decoded _ _ _ c.requires.0 in
    omega (arith, d.room, d.inside, d.inside', c.start_at-from.ensures, c.length_at.ensures, c.string_start-start.ensures, c.string_length.ensures)

pub slice_bounds-rewrite-end-then-kind-eq-GLOBAL_AFTER-2 : goal.slice_bounds-rewrite-end-then-kind-eq-GLOBAL_AFTER-2
slice_bounds-rewrite-end-then-kind-eq-GLOBAL_AFTER-2 c =
    let d = makes-decoded _ _ _ c.requires.0 in
    omega (arith, d.room, d.inside, d.inside', c.start_at-from.ensures, c.length_at.ensures, c.string_start-start.ensures, c.string_length.ensures)

pub rewrite-requires : goal.rewrite-requires
rewrite-requires c =
    let d = makes-decoded _ _ _ c.requires.0 in
    (c.requires.2, c.requires.1, occurs-after _ _ _ _ _ _ _ _ _ c.start_at-from.ensures c.length_at.ensures c.string_start-start.ensures c.string_length.ensures d c.requires.1 (omega (arith, c.requires.1, c.requires.2)) _ (rw sub-zero at c.next_place-first.ensures))

pub returns-then-kind-eq-GLOBAL_AFTER : goal.returns-then-kind-eq-GLOBAL_AFTER
returns-then-kind-eq-GLOBAL_AFTER c = passes-after _ _ _ c.args.line.now c.args.n _ _ _ _ c.start_at-from.ensures c.length_at.ensures c.string_start-start.ensures c.string_length.ensures _ c.kind_of-kind.ensures _ _ c.if-kind-eq-GLOBAL_AFTER.true c.rewrite.ensures

pub slice_bounds-rewrite-end-then-kind-eq-GLOBAL_BEFORE : goal.slice_bounds-rewrite-end-then-kind-eq-GLOBAL_BEFORE
slice_bounds-rewrite-end-then-kind-eq-GLOBAL_BEFORE c =
    let d = makes-decoded _ _ _ c.requires.0 in
    omega (arith, d.room, d.inside, d.inside', c.start_at-from.ensures, c.length_at.ensures, c.string_start-start.ensures, c.string_length.ensures)

pub slice_bounds-rewrite-end-then-kind-eq-GLOBAL_BEFORE-2 : goal.slice_bounds-rewrite-end-then-kind-eq-GLOBAL_BEFORE-2
slice_bounds-rewrite-end-then-kind-eq-GLOBAL_BEFORE-2 c =
    let d = makes-decoded _ _ _ c.requires.0 in
    omega (arith, d.room, d.inside, d.inside', c.start_at-from.ensures, c.length_at.ensures, c.string_start-start.ensures, c.string_length.ensures)

pub slice_bounds-rewrite-end-then-kind-eq-GLOBAL_BEFORE-3 : goal.slice_bounds-rewrite-end-then-kind-eq-GLOBAL_BEFORE-3
slice_bounds-rewrite-end-then-kind-eq-GLOBAL_BEFORE-3 c =
    let d = makes-decoded _ _ _ c.requires.0 in
    omega (arith, d.room, d.inside, d.inside', c.start_at-from.ensures, c.length_at.ensures, c.string_start-start.ensures, c.string_length.ensures)

pub rewrite-requires-then-kind-eq-GLOBAL_BEFORE : goal.rewrite-requires-then-kind-eq-GLOBAL_BEFORE
rewrite-requires-then-kind-eq-GLOBAL_BEFORE c =
    let d = makes-decoded _ _ _ c.requires.0 in
    (c.requires.2, c.requires.1, occurs-before _ _ _ _ _ _ _ _ _ c.start_at-from.ensures c.length_at.ensures c.string_start-start.ensures c.string_length.ensures d c.requires.1 (omega (arith, c.requires.1, c.requires.2)) _ (rw sub-zero at c.next_place-first.ensures))

pub returns-then-kind-eq-GLOBAL_BEFORE : goal.returns-then-kind-eq-GLOBAL_BEFORE
returns-then-kind-eq-GLOBAL_BEFORE c = passes-before _ _ _ c.args.line.now c.args.n _ _ _ _ c.start_at-from.ensures c.length_at.ensures c.string_start-start.ensures c.string_length.ensures _ c.kind_of-kind.ensures _ _ c.if-kind-eq-GLOBAL_BEFORE.true c.rewrite-then-kind-eq-GLOBAL_BEFORE.ensures

pub slice_bounds-rewrite-end-2 : goal.slice_bounds-rewrite-end-2
slice_bounds-rewrite-end-2 c =
    let d = makes-decoded _ _ _ c.requires.0 in
    omega (arith, d.room, d.inside, d.inside', c.start_at-from.ensures, c.length_at.ensures, c.string_start-start.ensures, c.string_length.ensures)

pub slice_bounds-rewrite-end-3 : goal.slice_bounds-rewrite-end-3
slice_bounds-rewrite-end-3 c =
    let d = makes-decoded _ _ _ c.requires.0 in
    omega (arith, d.room, d.inside, d.inside', c.start_at-from.ensures, c.length_at.ensures, c.string_start-start.ensures, c.string_length.ensures)

pub slice_bounds-rewrite-end-4 : goal.slice_bounds-rewrite-end-4
slice_bounds-rewrite-end-4 c =
    let d = makes-decoded _ _ _ c.requires.0 in
    omega (arith, d.room, d.inside, d.inside', c.start_at-from.ensures, c.length_at.ensures, c.string_start-start.ensures, c.string_length.ensures)

pub rewrite-requires-2 : goal.rewrite-requires-2
rewrite-requires-2 c =
    let d = makes-decoded _ _ _ c.requires.0 in
    (c.requires.2, c.requires.1, occurs-exchange _ _ _ _ _ _ _ _ _ c.start_at-from.ensures c.length_at.ensures c.string_start-start.ensures c.string_length.ensures d c.requires.1 (omega (arith, c.requires.1, c.requires.2)) _ (rw sub-zero at c.next_place-first.ensures))

pub returns : goal.returns
returns c = passes-exchange _ _ _ c.args.line.now c.args.n _ _ _ _ c.start_at-from.ensures c.length_at.ensures c.string_start-start.ensures c.string_length.ensures _ c.kind_of-kind.ensures _ _ c.if-kind-eq-GLOBAL_AFTER.false c.if-kind-eq-GLOBAL_BEFORE.false c.rewrite-2.ensures
