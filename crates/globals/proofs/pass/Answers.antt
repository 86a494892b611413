use mathlib.Core.Path.{refl}
use Prim.Native.Nat.{◌+◌, ◌-◌}
use native.Mathlib.Omega.{arith}
use lib.ListN.{length}
use borrow.Author.Rules.{rules}
use Rattle.std.proofs.lemmas.Result.{err_from_is_err_and}
use Rattle.items.specs.Reserve.{reserve}
use Rattle.globals.proofs.Through.{none-acted, ended-word, ended-all, its-global, acts, act-long, act-few, has-reserve}
use Rattle.globals.proofs.pass.Goals as goal

pub overflow_sub-top : goal.overflow_sub-top
overflow_sub-top c = has-reserve _ _ c.requires.0

pub loop-i-init : goal.loop-i-init
loop-i-init c = (none-acted _ _ _ _ c.requires.1, refl)

pub overflow_add-word : goal.overflow_add-word
overflow_add-word c = omega (arith, has-reserve _ _ c.requires.0)

pub offset_bounds-w-top : goal.offset_bounds-w-top
offset_bounds-w-top c = omega (arith, has-reserve _ _ c.requires.0)

pub bounds-w-top : goal.bounds-w-top
bounds-w-top c = omega (arith, has-reserve _ _ c.requires.0)

pub returns-then-word-eq0 : goal.returns-then-word-eq0
returns-then-word-eq0 c = ended-word _ _ _ _ _ _ c.loop-i.invariant.0 c.if-word-eq0.true

pub overflow_cast-word : goal.overflow_cast-word
overflow_cast-word c = omega (arith, c.shared_slice_known-in-loop-i-1.given (length c.args.w.now - reserve + c.loop-i.i))

pub apply-requires : goal.apply-requires
apply-requires c = (its-global _ _ _ _ _ _ c.loop-i.invariant.0 (omega arith) c.if-word-eq0.false c.requires.0.0 c.requires.0.1, c.loop-i.invariant.0.few, omega (arith, c.loop-i.invariant.1, c.requires.2))

pub returns-in_err-len : goal.returns-in_err-len
returns-in_err-len c =
    let p = err_from_is_err_and c.from_residual.result c.from_residual.ensures.1 in
    rw p.1 (act-long _ _ _ _ _ _ c.loop-i.invariant.0 c.loop-i-test.true c.if-word-eq0.false _ _ c.in_err-len.ensures refl)

pub loop-i-preserved : goal.loop-i-preserved
loop-i-preserved c =
    let few = act-few _ _ _ _ _ _ c.loop-i.invariant.0 c.loop-i-test.true c.if-word-eq0.false _ _ c.in_ok-len.ensures _ refl c.requires.0 in
    (acts _ _ _ _ _ _ c.loop-i.invariant.0 c.loop-i-test.true c.if-word-eq0.false _ _ c.in_ok-len.ensures _ refl few, search rules)

pub returns : goal.returns
returns c = ended-all _ _ _ _ _ _ c.loop-i.invariant.0 (omega arith)
