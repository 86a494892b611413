use mathlib.Core.Path.{refl}
use native.Mathlib.Omega.{arith}
use Rattle.changes.proofs.Splicing.{text-room, splices-none, splices-on}
use Rattle.changes.proofs.look.splice_text.Goals as goal

pub current_line-text-requires : goal.current_line-text-requires
current_line-text-requires c = let w = c.requires.0 in
    ((w.0, w.1, w.2.text.shows, w.2.text.old), w.2.more)

pub overflow_sub-len : goal.overflow_sub-len
overflow_sub-len c = omega (arith, (text-room _ c.current_line-text.ensures c.requires.0).0)

pub overflow_add-len : goal.overflow_add-len
overflow_add-len c = omega (arith, (text-room _ c.current_line-text.ensures c.requires.0).1, c.requires.3)

pub returns-then-len-gt255 : goal.returns-then-len-gt255
returns-then-len-gt255 c = splices-none _ _ _ _ _ _ _ _ c.current_line-text.ensures _ c.requires.2 _ refl c.if-len-gt255.true

pub splice_line-requires : goal.splice_line-requires
splice_line-requires c = let r = text-room _ c.current_line-text.ensures c.requires.0 in
    (r.0, c.requires.2, omega (arith, r.0, r.1, c.if-len-gt255.false, c.requires.1))

pub returns : goal.returns
returns c = splices-on _ _ _ _ _ _ _ _ c.current_line-text.ensures _ c.requires.2 _ refl c.if-len-gt255.false _ c.splice_line.ensures
