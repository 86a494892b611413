use mathlib.Core.Path.{refl}
use native.Mathlib.Nat.{sub-zero}
use native.Mathlib.Omega.{arith}
use Rattle.std.proofs.lemmas.Result.{err_from_is_err_and}
use Rattle.globals.proofs.Putting.{back_by, long-by, few-by}
use Rattle.globals.proofs.one.rewrite.Goals as goal

pub put_for_each-requires : goal.put_for_each-requires
put_for_each-requires c = (omega arith, rw sub-zero c.requires.2)

pub returns-in_err-m : goal.returns-in_err-m
returns-in_err-m c =
    let p = err_from_is_err_and c.from_residual.result c.from_residual.ensures.1 in
    rw p.1 (long-by _ _ _ _ (rw sub-zero at c.in_err-m.ensures) refl)

pub copy_in-requires : goal.copy_in-requires
copy_in-requires c =
    let few = few-by _ _ _ _ c.in_ok-m.ensures refl in
    (omega (arith, few, c.requires.0), omega (arith, few))

pub returns : goal.returns
returns c =
    let few = few-by _ _ _ _ c.in_ok-m.ensures refl in
    back_by _ _ _ _ _ _ (rw sub-zero at c.in_ok-m.ensures) refl (omega (arith, few)) (omega (arith, few, c.requires.0)) c.copy_in.ensures
