use Rattle.editor.proofs.Held.{held_more}
use Rattle.changes.proofs.Putting.{put-grown, put-shrunk}
use mathlib.Core.Path.{refl}
use native.Mathlib.Omega.{arith}
use Rattle.changes.proofs.rewrite.put_record.Goals as goal

pub copy_in-requires : goal.copy_in-requires
copy_in-requires c = (omega (arith, held_more c.requires.0.4.holds, c.requires.0.4.ends), omega (arith, c.requires.0.4.fits))

pub clear-requires : goal.clear-requires
clear-requires c = omega (arith, held_more c.requires.0.4.holds, c.requires.0.4.ends)

pub returns-then-at-to : goal.returns-then-at-to
returns-then-at-to c = λ b r a x w. put-shrunk w.holds _ _ _ x w.ends w.fits w.is w.good w.source _ c.requires.1 _ _ refl refl refl refl refl refl refl refl c.if-at-to.true _ c.copy_in.ensures c.clear.ensures

pub returns : goal.returns
returns c = λ b r a x w. put-grown w.holds _ _ _ x w.ends w.fits w.is w.good w.source _ c.requires.1 _ _ refl refl refl refl refl refl refl refl c.if-at-to.false c.copy_in.ensures
