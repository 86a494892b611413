use mathlib.Core.Path.{refl, ◌∙◌}
use native.Mathlib.Omega.{arith}
use lib.ListN.{drop, length-set}
use Rattle.editor.proofs.Held.{held-length}
use Rattle.editor.proofs.Inserting.{put_holds, put_is, text-fits}
use Rattle.editor.proofs.edits.put_line.Goals as goal

pub bounds-j-f : goal.bounds-j-f
bounds-j-f c =
    omega (arith, c.requires.2, held-length c.requires.0.2)

pub overflow_add-j : goal.overflow_add-j
overflow_add-j c =
    omega (arith, c.requires.2, held-length c.requires.0.2)

pub bounds-j-f-2 : goal.bounds-j-f-2
bounds-j-f-2 c =
    simp length-set (omega (arith, c.requires.2, held-length c.requires.0.2))

pub overflow_add-at : goal.overflow_add-at
overflow_add-at c =
    omega (arith, c.requires.2, held-length c.requires.0.2)

pub copy_in-requires : goal.copy_in-requires
copy_in-requires c =
    (simp length-set (omega (arith, c.requires.2, held-length c.requires.0.2)), c.requires.1.0)

pub overflow_add-end : goal.overflow_add-end
overflow_add-end c =
    omega (arith, c.requires.2, held-length c.requires.0.2)

pub bounds-j-end : goal.bounds-j-end
bounds-j-end c =
    omega (arith, c.requires.2, held-length c.requires.0.2, simp length-set at c.copy_in.auto.d)

pub overflow_add-r : goal.overflow_add-r
overflow_add-r c =
    omega (arith, c.requires.2, held-length c.requires.0.2)

pub shape_of-j : goal.shape_of-j
shape_of-j c = simp length-set (c.copy_in.auto.d ∙ simp length-set)

pub returns : goal.returns
returns c =
    let fits = text-fits c.args.s.now c.args.from c.args.n c.requires.1.0 in
    (put_holds c.args.j.now _ c.args.st _ (drop c.args.from c.args.s.now) c.args.n fits c.requires.1.1 c.requires.2 (put_is _ _ _ _ c.copy_in.ensures) refl refl refl refl refl refl, record { furthest = refl; lines = refl; p = refl })
