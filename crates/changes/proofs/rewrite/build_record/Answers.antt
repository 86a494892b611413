use mathlib.Core.Path.{refl}
use native.Mathlib.Omega.{arith}
use Rattle.changes.proofs.Rewriting.{in-range, len_short, builds-inserted, builds-kept, builds-changed}
use Rattle.changes.proofs.rewrite.build_record.Goals as goal

pub bounds-j-at : goal.bounds-j-at
bounds-j-at c = let r = in-range c.requires.0 in
    omega (arith, r.after, r.inside, r.within)

pub plain_record-requires : goal.plain_record-requires
plain_record-requires c = (omega (arith, c.requires.1, len_short _ _ c.requires.2 c.requires.3), c.requires.2)

pub returns-then-j-at-eq43 : goal.returns-then-j-at-eq43
returns-then-j-at-eq43 c = builds-inserted _ _ _ _ _ c.requires.2 _ _ _ c.if-j-at-eq43.true c.plain_record.ensures refl

pub overflow_add-from : goal.overflow_add-from
overflow_add-from c = let r = in-range c.requires.0 in
    omega (arith, r.after, r.inside, r.within)

pub is_same-requires : goal.is_same-requires
is_same-requires c = let r = in-range c.requires.0 in
    (r.after, omega (arith, r.inside, r.within), c.requires.2)

pub plain_record-requires-then-is_same : goal.plain_record-requires-then-is_same
plain_record-requires-then-is_same c = (omega (arith, c.requires.1, len_short _ _ c.requires.2 c.requires.3), c.requires.2)

pub returns-then-is_same : goal.returns-then-is_same
returns-then-is_same c = builds-kept _ _ _ _ _ c.requires.2 _ _ _ c.if-j-at-eq43.false _ c.is_same.ensures c.if-is_same.true c.plain_record-then-is_same.ensures refl

pub overflow_sub-n : goal.overflow_sub-n
overflow_sub-n c = (in-range c.requires.0).after

pub changed_record-requires : goal.changed_record-requires
changed_record-requires c = let r = in-range c.requires.0 in
    (omega (arith, r.short, c.requires.1, len_short _ _ c.requires.2 c.requires.3), omega (arith, r.after, r.inside, r.within), c.requires.2)

pub overflow_add-result-2 : goal.overflow_add-result-2
overflow_add-result-2 c = omega (arith, (in-range c.requires.0).short, len_short _ _ c.requires.2 c.requires.3)

pub overflow_add-result-3 : goal.overflow_add-result-3
overflow_add-result-3 c = omega (arith, (in-range c.requires.0).short, len_short _ _ c.requires.2 c.requires.3)

pub returns : goal.returns
returns c = builds-changed _ _ _ _ _ c.requires.2 _ _ _ c.if-j-at-eq43.false _ c.is_same.ensures c.if-is_same.false _ refl c.changed_record.ensures refl
