use native.Mathlib.Omega.{arith}
use Rattle.changes.proofs.Commands.{has-less, has_short, whole-text, altered-after, altered-before, altered-exchange}
use Rattle.changes.proofs.alter_at.Goals as goal

pub point_after-q-requires : goal.point_after-q-requires
point_after-q-requires c = (has_short c.requires.0, c.requires.1)

pub overflow_add-i : goal.overflow_add-i
overflow_add-i c = omega (arith, has_short c.requires.0)

pub splice_current-requires : goal.splice_current-requires
splice_current-requires c = let w = c.requires in
    (has-less _ (omega arith) w.0, omega arith, w.1, whole-text _ w.2)

pub returns-in-After : goal.returns-in-After
returns-in-After c = record {
  keeps = c.splice_current.ensures.keeps;
  long = c.splice_current.ensures.long;
  does = altered-after _ _ _ _ _ _ _ _ c.point_after-q.ensures c.in-After.is c.splice_current.ensures.does;
}

pub splice_current-requires-in-Before : goal.splice_current-requires-in-Before
splice_current-requires-in-Before c = let w = c.requires in
    (has-less _ (omega arith) w.0, omega arith, w.1, whole-text _ w.2)

pub returns-in-Before : goal.returns-in-Before
returns-in-Before c = record {
  keeps = c.splice_current-in-Before.ensures.keeps;
  long = c.splice_current-in-Before.ensures.long;
  does = altered-before _ _ _ _ _ _ _ _ c.point_after-q.ensures c.in-Before.is c.splice_current-in-Before.ensures.does;
}

pub splice_current-requires-in-Exchange : goal.splice_current-requires-in-Exchange
splice_current-requires-in-Exchange c = let w = c.requires in
    (has-less _ (omega arith) w.0, omega arith, w.1, whole-text _ w.2)

pub returns-in-Exchange : goal.returns-in-Exchange
returns-in-Exchange c = record {
  keeps = c.splice_current-in-Exchange.ensures.keeps;
  long = c.splice_current-in-Exchange.ensures.long;
  does = altered-exchange _ _ _ _ _ _ _ _ c.point_after-q.ensures c.in-Exchange.is c.splice_current-in-Exchange.ensures.does;
}
