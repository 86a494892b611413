use mathlib.Core.Path.{refl, ◌∙◌}
use native.Mathlib.Omega.{arith}
use Rattle.globals.proofs.Putting.{starts, next-is, too_long, long₃, goes_on, rest-long, rest-done}
use Rattle.globals.proofs.one.put_for_each.Goals as goal

pub loop-i-init : goal.loop-i-init
loop-i-init c = (starts _ _ _ _ _ _ c.requires.1.at, refl)

pub overflow_sub-n : goal.overflow_sub-n
overflow_sub-n c =
    let x = next-is _ _ _ _ _ _ _ _ c.requires.1.some_byte (omega (arith, c.loop-i.invariant.1, c.requires.0)) c.loop-i.invariant.0 (omega arith) in
    x.from

pub overflow_add-n : goal.overflow_add-n
overflow_add-n c =
    let x = next-is _ _ _ _ _ _ _ _ c.requires.1.some_byte (omega (arith, c.loop-i.invariant.1, c.requires.0)) c.loop-i.invariant.0 (omega arith) in
    omega (arith, x.from, x.fits, c.loop-i.invariant.0.few, c.loop-i.invariant.1, c.requires.0, c.requires.1.short, c.requires.1.few, c.requires.1.few')

pub overflow_add-m : goal.overflow_add-m
overflow_add-m c =
    let x = next-is _ _ _ _ _ _ _ _ c.requires.1.some_byte (omega (arith, c.loop-i.invariant.1, c.requires.0)) c.loop-i.invariant.0 (omega arith) in
    omega (arith, x.from, x.fits, c.loop-i.invariant.0.few, c.loop-i.invariant.1, c.requires.0, c.requires.1.short, c.requires.1.few, c.requires.1.few')

pub overflow_add-end : goal.overflow_add-end
overflow_add-end c =
    let x = next-is _ _ _ _ _ _ _ _ c.requires.1.some_byte (omega (arith, c.loop-i.invariant.1, c.requires.0)) c.loop-i.invariant.0 (omega arith) in
    omega (arith, x.from, x.fits, c.loop-i.invariant.0.few, c.loop-i.invariant.1, c.requires.0, c.requires.1.short, c.requires.1.few, c.requires.1.few')

pub shape_of-out-then-end-gt255 : goal.shape_of-out-then-end-gt255
shape_of-out-then-end-gt255 c = c.loop-i.invariant.1

pub returns-then-end-gt255 : goal.returns-then-end-gt255
returns-then-end-gt255 c = too_long _ _ _ _ _ _ _ _ c.requires.1.some_byte (omega (arith, c.loop-i.invariant.1, c.requires.0)) c.loop-i.invariant.0 (omega arith) _ _ _ refl refl refl c.if-end-gt255.true _

pub overflow_sub-i : goal.overflow_sub-i
overflow_sub-i c =
    let x = next-is _ _ _ _ _ _ _ _ c.requires.1.some_byte (omega (arith, c.loop-i.invariant.1, c.requires.0)) c.loop-i.invariant.0 (omega arith) in
    x.from

pub copy_in-requires : goal.copy_in-requires
copy_in-requires c =
    let x = next-is _ _ _ _ _ _ _ _ c.requires.1.some_byte (omega (arith, c.loop-i.invariant.1, c.requires.0)) c.loop-i.invariant.0 (omega arith) in
    omega (arith, x.from, x.fits, c.loop-i.invariant.0.few, c.loop-i.invariant.1, c.requires.0, c.requires.1.short, c.requires.1.few, c.requires.1.few')

pub copy_in-requires-in-loop-i : goal.copy_in-requires-in-loop-i
copy_in-requires-in-loop-i c =
    let x = next-is _ _ _ _ _ _ _ _ c.requires.1.some_byte (omega (arith, c.loop-i.invariant.1, c.requires.0)) c.loop-i.invariant.0 (omega arith) in
    omega (arith, x.from, x.fits, c.loop-i.invariant.0.few, c.loop-i.invariant.1, c.requires.0, c.requires.1.short, c.requires.1.few, c.requires.1.few')

pub copy_in-requires-in-loop-i-2 : goal.copy_in-requires-in-loop-i-2
copy_in-requires-in-loop-i-2 c =
    let x = next-is _ _ _ _ _ _ _ _ c.requires.1.some_byte (omega (arith, c.loop-i.invariant.1, c.requires.0)) c.loop-i.invariant.0 (omega arith) in
    omega (arith, x.from, x.fits, c.loop-i.invariant.0.few, c.loop-i.invariant.1, c.requires.0, c.requires.1.short, c.requires.1.few, c.requires.1.few')

pub overflow_add-at : goal.overflow_add-at
overflow_add-at c =
    let x = next-is _ _ _ _ _ _ _ _ c.requires.1.some_byte (omega (arith, c.loop-i.invariant.1, c.requires.0)) c.loop-i.invariant.0 c.loop-i-test.true in
    omega (arith, x.from, x.fits, c.loop-i.invariant.0.few, c.loop-i.invariant.1, c.requires.0, c.requires.1.short, c.requires.1.few, c.requires.1.few')

pub next_place-i-requires : goal.next_place-i-requires
next_place-i-requires c =
    let x = next-is _ _ _ _ _ _ _ _ c.requires.1.some_byte (omega (arith, c.loop-i.invariant.1, c.requires.0)) c.loop-i.invariant.0 c.loop-i-test.true in
    (omega (arith, x.fits), c.requires.1.short, omega (arith, x.fits, c.requires.1.short))

pub loop-i-smaller : goal.loop-i-smaller
loop-i-smaller c =
    let x = next-is _ _ _ _ _ _ _ _ c.requires.1.some_byte (omega (arith, c.loop-i.invariant.1, c.requires.0)) c.loop-i.invariant.0 c.loop-i-test.true in
    omega (arith, c.requires.1.some_byte, x.from, x.fits, c.loop-i.invariant.0.few, c.loop-i.invariant.1, c.requires.0, c.requires.1.short, c.requires.1.few, c.requires.1.few')

pub loop-i-preserved : goal.loop-i-preserved
loop-i-preserved c = (goes_on _ _ _ _ _ _ _ _ c.requires.1.some_byte (omega (arith, c.loop-i.invariant.1, c.requires.0)) c.loop-i.invariant.0 c.loop-i-test.true _ _ _ refl refl refl (omega (arith, c.if-end-gt255.false)) _ _ _ c.copy_in.ensures c.copy_in-in-loop-i.ensures c.copy_in-in-loop-i-2.ensures _ c.next_place-i.ensures, long₃ _ _ _ _ _ _ _ _ c.requires.1.some_byte (omega (arith, c.loop-i.invariant.1, c.requires.0)) c.loop-i.invariant.0 c.loop-i-test.true _ _ _ refl refl refl (omega (arith, c.if-end-gt255.false)) _ _ _ c.copy_in.ensures c.copy_in-in-loop-i.ensures c.copy_in-in-loop-i-2.ensures ∙ c.loop-i.invariant.1)

pub overflow_sub-rest : goal.overflow_sub-rest
overflow_sub-rest c = c.loop-i.invariant.0.inside

pub overflow_add-len : goal.overflow_add-len
overflow_add-len c = omega (arith, c.loop-i.invariant.0.few, c.requires.1.short)

pub shape_of-out-then-len-rest-gt255 : goal.shape_of-out-then-len-rest-gt255
shape_of-out-then-len-rest-gt255 c = c.loop-i.invariant.1

pub returns-then-len-rest-gt255 : goal.returns-then-len-rest-gt255
returns-then-len-rest-gt255 c = rest-long _ _ _ _ _ _ _ _ c.requires.1.some_byte (omega (arith, c.loop-i.invariant.1, c.requires.0)) c.loop-i.invariant.0 (omega arith) _ refl c.if-len-rest-gt255.true _

pub copy_in-requires-2 : goal.copy_in-requires-2
copy_in-requires-2 c = omega (arith, c.loop-i.invariant.0.inside, c.loop-i.invariant.0.few, c.loop-i.invariant.1, c.requires.0)

pub overflow_add-result : goal.overflow_add-result
overflow_add-result c = omega (arith, c.loop-i.invariant.0.few, c.requires.1.short)

pub returns : goal.returns
returns c = rest-done _ _ _ _ _ _ _ _ c.requires.1.some_byte (omega (arith, c.loop-i.invariant.1, c.requires.0)) c.loop-i.invariant.0 (omega arith) _ _ refl (omega arith) c.copy_in-2.ensures
