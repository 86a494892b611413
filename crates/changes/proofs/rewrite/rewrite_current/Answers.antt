use mathlib.Core.Path.{refl}
use native.Mathlib.Omega.{arith}
use Rattle.definitions.specs.Given.{no_globals}
use Rattle.editor.proofs.Shown.{shown, on-text}
use Rattle.changes.proofs.Rewriting.{has-record, anew-ends, rewrites-full, rewrites-on}
use borrow.Author.Rules.{rules}
use Rattle.changes.proofs.rewrite.rewrite_current.Goals as goal

pub record_anew-c-requires : goal.record_anew-c-requires
record_anew-c-requires c = let w = c.requires in
    (shown c.args.ed.now.shows, w.0, search rules, w.1, w.2)

pub overflow_sub-end : goal.overflow_sub-end
overflow_sub-end c = let w = c.requires in
    let x = shown c.args.ed.now.shows in
    (anew-ends _ w.2 _ _ _ c.record_anew-c.ensures w.0 x).0

pub returns-then-end-front : goal.returns-then-end-front
returns-then-end-front c = record {
  keeps = refl;
  long = refl;
  does = let w = c.requires in
      let x = shown c.args.ed.now.shows in
      let made = c.record_anew-c.ensures in
      rewrites-full _ w.2 _ _ _ made w.0 _ (omega (arith, c.if-end-front.true, (anew-ends _ w.2 _ _ _ made w.0 x).0));
}

pub put_record-ed-requires : goal.put_record-ed-requires
put_record-ed-requires c = let w = c.requires in
    let x = shown c.args.ed.now.shows in
    let made = c.record_anew-c.ensures in
    (has-record _ w.2 _ _ _ made w.0 x, omega (arith, c.if-end-front.false, (anew-ends _ w.2 _ _ _ made w.0 x).0))

pub invariant_of-ed-2 : goal.invariant_of-ed-2
invariant_of-ed-2 c = let w = c.requires in
    let x = shown c.args.ed.now.shows in
    let r = c.put_record-ed in
    record { shows = on-text _ (rewrites-on _ w.2 _ _ _ c.record_anew-c.ensures w.0 _ _ _ r.auto.j r.ensures no_globals x.0 x.1 x.2) }

pub returns : goal.returns
returns c = record {
  keeps = refl;
  long = c.put_record-ed.auto.j;
  does = let w = c.requires in
      let x = shown c.args.ed.now.shows in
      let r = c.put_record-ed in
      rewrites-on _ w.2 _ _ _ c.record_anew-c.ensures w.0 _ _ _ r.auto.j r.ensures;
}
