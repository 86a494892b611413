use Rattle.items.specs.Simple.{byte_op}
use borrow.Author.Tests.{ne_eqb}
use Rattle.commands.proofs.Performed.{performs-as, tableless, shown-text}
use Rattle.commands.proofs.one_word.on_bytes.Goals as goal

pub returns-in-20 : goal.returns-in-20
unfolding byte_op
returns-in-20 c = record { keeps = c.point_start.ensures.keeps; long = c.point_start.ensures.long; does = tableless _ _ (rw c.in-20.is) c.point_start.ensures.does.1 }

pub returns-in-21 : goal.returns-in-21
unfolding byte_op
returns-in-21 c = record { keeps = c.right.ensures.keeps; long = c.right.ensures.long; does = performs-as _ _ (rw c.in-21.is) c.right.ensures.does.1 }

pub returns-in-22 : goal.returns-in-22
unfolding byte_op
returns-in-22 c = record { keeps = c.left.ensures.keeps; long = c.left.ensures.long; does = tableless _ _ (rw c.in-22.is) c.left.ensures.does.1 }

pub returns-in-23 : goal.returns-in-23
unfolding byte_op
returns-in-23 c = record { keeps = c.cut_byte.ensures.keeps; long = c.cut_byte.ensures.long; does = performs-as _ _ (rw c.in-23.is) c.cut_byte.ensures.does }

pub returns-in-24 : goal.returns-in-24
unfolding byte_op
returns-in-24 c = record { keeps = c.recase.ensures.keeps; long = c.recase.ensures.long; does = performs-as _ _ (rw c.in-24.is) c.recase.ensures.does }

pub returns-in_default : goal.returns-in_default
unfolding byte_op
returns-in_default c = record {
  keeps = c.recase-in_default.ensures.keeps;
  long = c.recase-in_default.ensures.long;
  does = let n = c.in_default.in_default-own.rest in performs-as _ _ (rw (ne_eqb _ _ n.0.0.0.0.1, ne_eqb _ _ n.0.0.0.1, ne_eqb _ _ n.0.0.1, ne_eqb _ _ n.0.1, ne_eqb _ _ n.1)) c.recase-in_default.ensures.does;
}
