use mathlib.Core.Path.{refl, ◌∙◌}
use Rattle.definitions.specs.Given.{no_globals}
use Rattle.editor.proofs.Shown.{shown, on-text}
use native.Mathlib.Omega.{arith}
use lib.ListN.{length-drop}
use Rattle.theorems.specs.GoodLines.{dropped_line}
use Rattle.theorems.specs.JournalBytes.{line-short}
use Rattle.changes.proofs.Rewriting.{has-record, anew-ends}
use Rattle.splits.proofs.Cutting.{rest-is, rest-again, rest-made, cut-full, left-room, cut_on}
use borrow.Author.Rules.{rules}
use Rattle.splits.proofs.cut_line.Goals as goal

pub record_anew-c-requires : goal.record_anew-c-requires
record_anew-c-requires c =
    let l = c.args.line.now in
    (shown c.args.ed.now.shows, c.requires.0, search rules, rw (rest-is l c.args.k) (omega (arith, length-drop c.args.k l)), rw (rest-again l c.args.k) (dropped_line c.args.k l c.requires.2))

pub overflow_sub-end : goal.overflow_sub-end
overflow_sub-end c =
    (anew-ends _ (dropped_line c.args.k c.args.line.now c.requires.2) _ _ _ (rest-made c.args.line.now c.args.k _ _ _ c.record_anew-c.ensures) c.requires.0 (shown c.args.ed.now.shows)).0

pub overflow_add-size : goal.overflow_add-size
overflow_add-size c =
    omega (arith, c.requires.1, line-short c.args.line.now c.requires.2, (anew-ends _ (dropped_line c.args.k c.args.line.now c.requires.2) _ _ _ (rest-made c.args.line.now c.args.k _ _ _ c.record_anew-c.ensures) c.requires.0 (shown c.args.ed.now.shows)).1)

pub returns-then-end-front : goal.returns-then-end-front
returns-then-end-front c =
    let made = rest-made c.args.line.now c.args.k _ _ _ c.record_anew-c.ensures in
    record {
      keeps = refl;
      long = refl;
      does = cut-full c.args.line.now c.args.k c.requires.1 c.requires.2 _ _ _ made c.requires.0 (omega (arith, c.if-end-front.true, (anew-ends _ (dropped_line c.args.k c.args.line.now c.requires.2) _ _ _ made c.requires.0 (shown c.args.ed.now.shows)).0));
    }

pub put_record-s-requires : goal.put_record-s-requires
put_record-s-requires c =
    let made = rest-made c.args.line.now c.args.k _ _ _ c.record_anew-c.ensures in
    (has-record _ (dropped_line c.args.k c.args.line.now c.requires.2) _ _ _ made c.requires.0 (shown c.args.ed.now.shows), omega (arith, c.if-end-front.false, (anew-ends _ (dropped_line c.args.k c.args.line.now c.requires.2) _ _ _ made c.requires.0 (shown c.args.ed.now.shows)).0))

pub put_line-ed-requires : goal.put_line-ed-requires
put_line-ed-requires c =
    let made = rest-made c.args.line.now c.args.k _ _ _ c.record_anew-c.ensures in
    left-room c.args.line.now c.args.k c.requires.1 c.requires.2 _ _ _ made c.requires.0 _ _ c.put_record-s.ensures (shown c.args.ed.now.shows) (omega (arith, c.if-end-front.false, (anew-ends _ (dropped_line c.args.k c.args.line.now c.requires.2) _ _ _ made c.requires.0 (shown c.args.ed.now.shows)).0))

pub invariant_of-ed-2 : goal.invariant_of-ed-2
invariant_of-ed-2 c =
    let made = rest-made c.args.line.now c.args.k _ _ _ c.record_anew-c.ensures in
    let w = shown c.args.ed.now.shows in
    record { shows = on-text _ (cut_on c.args.line.now c.args.k c.requires.1 c.requires.2 _ _ _ made c.requires.0 _ _ c.put_record-s.ensures _ _ (search rules) c.put_line-ed.ensures no_globals w.0 w.1 w.2) }

pub returns : goal.returns
returns c =
    let made = rest-made c.args.line.now c.args.k _ _ _ c.record_anew-c.ensures in
    record {
      keeps = refl;
      long = c.put_line-ed.auto.j ∙ c.put_record-s.auto.j;
      does = cut_on c.args.line.now c.args.k c.requires.1 c.requires.2 _ _ _ made c.requires.0 _ _ c.put_record-s.ensures _ _ (search rules) c.put_line-ed.ensures;
    }
