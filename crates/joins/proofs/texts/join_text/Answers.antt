use mathlib.Core.Path.{refl}
use native.Mathlib.Omega.{arith}
use Rattle.editor.proofs.Inserting.{text-short}
use Rattle.editor.proofs.CurrentText.{read_short}
use Rattle.joins.proofs.Parts.{next-bound, joins-none, joins-on}
use Rattle.joins.proofs.texts.join_text.Goals as goal

pub current_line-text-requires : goal.current_line-text-requires
current_line-text-requires c =
    let w = c.requires in
    ((w.0.0, w.0.1, w.0.2.shows, w.0.2.old), w.1)

pub text_at-next-requires : goal.text_at-next-requires
text_at-next-requires c =
    c.requires.2

pub overflow_add-len : goal.overflow_add-len
overflow_add-len c =
    omega (arith, read_short _ c.current_line-text.ensures c.requires.0, text-short c.args.s.now c.args.from c.args.n c.requires.3)

pub overflow_add-len-2 : goal.overflow_add-len-2
overflow_add-len-2 c =
    omega (arith, read_short _ c.current_line-text.ensures c.requires.0, text-short c.args.s.now c.args.from c.args.n c.requires.3, (next-bound c.requires.2 c.text_at-next.ensures).0)

pub returns-then-len-gt255 : goal.returns-then-len-gt255
returns-then-len-gt255 c =
    joins-none _ _ _ _ _ _ _ c.requires.3 _ _ c.current_line-text.ensures _ _ c.text_at-next.ensures _ refl c.if-len-gt255.true

pub put_parts-requires : goal.put_parts-requires
put_parts-requires c =
    (omega (arith, c.if-len-gt255.false, c.requires.4), c.requires.3.0, omega (arith, (next-bound c.requires.2 c.text_at-next.ensures).1))

pub returns : goal.returns
returns c =
    joins-on _ _ _ _ _ _ _ c.requires.3 _ _ c.current_line-text.ensures _ _ c.text_at-next.ensures _ refl c.if-len-gt255.false _ c.put_parts.ensures
