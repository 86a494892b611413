-- `searches::operator` meets its contract. Assumes nothing.
use Rattle.searches.proofs.Operators.{no-operator-left, no-operator, operator-here}
use Rattle.searches.proofs.operator.Goals as goal

pub returns-then-s-i : goal.returns-then-s-i
returns-then-s-i c = let all = no-operator-left c.args.s.now c.args.at c.args.b _ c.skip_blank-i.ensures.place c.requires.1 c.if-s-i.true in record { operator = all.0; right = all.1 }

pub returns-then-s-i-2 : goal.returns-then-s-i-2
returns-then-s-i-2 c = let all = no-operator c.args.s.now c.args.at c.args.b _ c.skip_blank-i.ensures.place c.if-s-i.false c.if-s-i-2.true in record { operator = all.0; right = all.1 }

pub returns : goal.returns
returns c = let all = operator-here c.args.s.now c.args.at c.args.b _ c.skip_blank-i.ensures.place _ c.if-s-i.false c.if-s-i-2.false c.skip_blank-i.ensures.within.0 c.skip_blank.ensures.place c.skip_blank.ensures.within.0 c.skip_blank.ensures.within.1 in record { operator = all.0; right = all.1 }
