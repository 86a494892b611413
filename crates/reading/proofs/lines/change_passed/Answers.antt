use mathlib.Core.Path.{refl, ◌∙◌}
use native.Mathlib.Omega.{arith}
use lib.ListN.{length-set}
use Rattle.editor.proofs.Held.{held-length}
use Rattle.editor.proofs.Inserting.{put_is}
use Rattle.reading.proofs.Text.{near_within, change-holds}
use Rattle.reading.proofs.lines.change_passed.Goals as goal

pub bounds-j-f : goal.bounds-j-f
bounds-j-f c = omega (arith, c.requires.3, near_within c.requires.0.3, c.requires.0.3.start, held-length c.requires.0.3.holds)

pub overflow_add-j : goal.overflow_add-j
overflow_add-j c = omega (arith, c.requires.3, near_within c.requires.0.3, c.requires.0.3.start, held-length c.requires.0.3.holds)

pub bounds-j-f-2 : goal.bounds-j-f-2
bounds-j-f-2 c = simp length-set (omega (arith, c.requires.3, near_within c.requires.0.3, c.requires.0.3.start, held-length c.requires.0.3.holds))

pub overflow_sub-j : goal.overflow_sub-j
overflow_sub-j c = omega (arith, c.requires.3, near_within c.requires.0.3, c.requires.0.3.start, held-length c.requires.0.3.holds)

pub bounds-j-end : goal.bounds-j-end
bounds-j-end c = simp length-set (omega (arith, c.requires.3, near_within c.requires.0.3, c.requires.0.3.start, held-length c.requires.0.3.holds))

pub copy_in-requires : goal.copy_in-requires
copy_in-requires c = (simp length-set (omega (arith, c.requires.3, near_within c.requires.0.3, c.requires.0.3.start, held-length c.requires.0.3.holds)), omega (arith, c.requires.1))

pub overflow_add-last : goal.overflow_add-last
overflow_add-last c = omega (arith, c.requires.3, near_within c.requires.0.3, c.requires.0.3.start, held-length c.requires.0.3.holds)

pub bounds-j-last : goal.bounds-j-last
bounds-j-last c = omega (arith, c.requires.3, near_within c.requires.0.3, held-length c.requires.0.3.holds, simp length-set at c.copy_in.auto.d)

pub overflow_add-s : goal.overflow_add-s
overflow_add-s c = omega (arith, c.requires.3, near_within c.requires.0.3, c.requires.0.3.start, held-length c.requires.0.3.holds)

pub shape_of-j : goal.shape_of-j
shape_of-j c = simp length-set (c.copy_in.auto.d ∙ simp length-set)

pub returns : goal.returns
returns c = change-holds c.args.j.now _ c.args.st _ c.args.f c.args.line.now c.args.m c.requires.1 c.requires.2 c.requires.3 (put_is _ _ _ _ c.copy_in.ensures) refl refl refl refl refl refl
