use mathlib.Core.Path.{refl, ◌∙◌}
use Rattle.definitions.specs.Given.{no_globals}
use Rattle.editor.proofs.Shown.{on-text}
use native.Mathlib.Omega.{arith}
use Rattle.joins.proofs.Both.{asks-line, asks-next, asks-freed, join-range, join-record, join-full, join-on}
use borrow.Author.Rules.{rules}
use Rattle.joins.proofs.join_at.Goals as goal

pub record_anew-c-requires : goal.record_anew-c-requires
record_anew-c-requires c =
    ((asks-line c.args.at c.requires.0).0, (asks-line c.args.at c.requires.0).1, search rules, c.requires.1, c.requires.2)

pub record_end-requires : goal.record_end-requires
record_end-requires c =
    omega (arith, c.requires.0.1)

pub freed_at-freed-requires : goal.freed_at-freed-requires
freed_at-freed-requires c =
    asks-freed c.args.at c.requires.0 _ c.record_end.ensures

pub overflow_add-end : goal.overflow_add-end
overflow_add-end c =
    omega (arith, (join-range _ c.requires.2 _ _ _ c.record_anew-c.ensures c.requires.0.1 _ _ c.record_end.ensures c.freed_at-freed.ensures c.requires.0).1)

pub overflow_sub-end : goal.overflow_sub-end
overflow_sub-end c =
    omega (arith, (join-range _ c.requires.2 _ _ _ c.record_anew-c.ensures c.requires.0.1 _ _ c.record_end.ensures c.freed_at-freed.ensures c.requires.0).0)

pub returns-then-end-front : goal.returns-then-end-front
returns-then-end-front c = record {
  keeps = refl;
  long = refl;
  does = join-full _ c.requires.2 _ _ _ c.record_anew-c.ensures c.requires.0.1 _ _ c.record_end.ensures c.freed_at-freed.ensures _ (omega (arith, c.if-end-front.true, (join-range _ c.requires.2 _ _ _ c.record_anew-c.ensures c.requires.0.1 _ _ c.record_end.ensures c.freed_at-freed.ensures c.requires.0).0));
}

pub strike_at-s-requires : goal.strike_at-s-requires
strike_at-s-requires c =
    asks-next c.args.at c.requires.0

pub put_record-ed-requires : goal.put_record-ed-requires
put_record-ed-requires c =
    let x = join-record _ c.requires.2 _ _ _ c.record_anew-c.ensures c.requires.0.1 _ _ c.record_end.ensures c.freed_at-freed.ensures c.requires.0 _ _ c.strike_at-s.ensures in
    (x.0, omega (arith, x.1, c.if-end-front.false, (join-range _ c.requires.2 _ _ _ c.record_anew-c.ensures c.requires.0.1 _ _ c.record_end.ensures c.freed_at-freed.ensures c.requires.0).0))

pub invariant_of-ed-2 : goal.invariant_of-ed-2
invariant_of-ed-2 c =
    let w = c.requires.0.0 in
    record { shows = on-text _ (join-on _ c.requires.2 _ _ _ c.record_anew-c.ensures c.requires.0.1 _ _ c.record_end.ensures c.freed_at-freed.ensures _ _ _ c.strike_at-s.ensures _ _ (c.put_record-ed.auto.j ∙ c.strike_at-s.auto.j) c.put_record-ed.ensures w.0 no_globals w.1 w.2 w.3) }

pub returns : goal.returns
returns c = record {
  keeps = refl;
  long = c.put_record-ed.auto.j ∙ c.strike_at-s.auto.j;
  does = join-on _ c.requires.2 _ _ _ c.record_anew-c.ensures c.requires.0.1 _ _ c.record_end.ensures c.freed_at-freed.ensures _ _ _ c.strike_at-s.ensures _ _ (c.put_record-ed.auto.j ∙ c.strike_at-s.auto.j) c.put_record-ed.ensures;
}
