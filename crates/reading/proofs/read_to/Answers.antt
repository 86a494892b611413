use mathlib.Core.Path.{refl, sym, ◌∙◌}
use native.Mathlib.Omega.{arith}
use Rattle.globals.proofs.Standing.{none-stand}
use Rattle.editor.specs.Shows.{lent}
use Rattle.editor.proofs.Shown.{shown, went-text, halt-text}
use Rattle.reading.proofs.Stands.{stand-room}
use Rattle.reading.proofs.To.{nothing_read, first-asks, on-asks, stop-asks, came-back, came-stopped, plain-read}
use Rattle.reading.proofs.read_to.Goals as goal

pub none_stands-requires : goal.none_stands-requires
none_stands-requires c = stand-room _ _ c.requires.0 c.requires.1

pub read_to-ed-requires : goal.read_to-ed-requires
read_to-ed-requires c = let w = shown c.args.ed.now.shows in w.2.holds.few

pub invariant_of-ed : goal.invariant_of-ed
invariant_of-ed c =
    let w = shown c.args.ed.now.shows in
    let none = sym c.none_stands.ensures ∙ c.if-none_stands.true in
    record { shows = went-text _ (plain-read _ w.0 c.requires.0 w.1 (none-stand _ _ c.requires.0 none c.requires.1) c.read_to-ed.ensures w.2) }

pub returns-then-none_stands : goal.returns-then-none_stands
returns-then-none_stands c =
    let none = sym c.none_stands.ensures ∙ c.if-none_stands.true in
    record {
      keeps = refl;
      long = refl;
      does = λ e d t stands h. plain-read _ e d t (none-stand _ _ d none stands) c.read_to-ed.ensures h;
    }

pub returns-then-to-st : goal.returns-then-to-st
returns-then-to-st c =
    let far = c.if-to-st.true in
    record { keeps = refl; long = refl; does = λ e d t stands h. nothing_read _ d _ e t h (omega (arith, c.lesser-to.ensures)) }

pub overflow_add-st : goal.overflow_add-st
overflow_add-st c = let w = shown c.args.ed.now.shows in omega (arith, w.2.holds.few)

pub to_source-first-requires : goal.to_source-first-requires
to_source-first-requires c = let w = shown c.args.ed.now.shows in (_, _, w.2.holds)

pub read_lines-requires : goal.read_lines-requires
read_lines-requires c =
    let less = c.if-to-st.false in
    let x = shown c.args.ed.now.shows in
    let w = first-asks c.args.a _ (omega (arith, c.lesser-to.ensures)) c.to_source-first.ensures c.lesser-last.ensures x.0 x.1 x.2 in
    (c.requires, w.0, w.1)

pub come_back-ed-requires : goal.come_back-ed-requires
come_back-ed-requires c =
    let w = shown c.args.ed.now.shows in
    on-asks (record {
      less = let z = c.if-to-st.false in omega (arith, c.lesser-to.ensures);
      walks = c.to_source-first.ensures;
      same = c.to_source-first.auto.j;
      last_is = c.lesser-last.ensures;
      reads = c.read_lines.ensures;
    }) c.in-Ok.is c.requires.0 w.0 w.1 c.requires.1 w.2

pub come_back-ed-requires-in-Err : goal.come_back-ed-requires-in-Err
come_back-ed-requires-in-Err c =
    let w = shown c.args.ed.now.shows in
    stop-asks (record {
      less = let z = c.if-to-st.false in omega (arith, c.lesser-to.ensures);
      walks = c.to_source-first.ensures;
      same = c.to_source-first.auto.j;
      last_is = c.lesser-last.ensures;
      reads = c.read_lines.ensures;
    }) _ c.in-Err.is c.requires.0 w.0 w.1 c.requires.1 w.2

pub invariant_of-ed-in-Ok : goal.invariant_of-ed-in-Ok
invariant_of-ed-in-Ok c =
    let w = shown c.args.ed.now.shows in
    let b = c.come_back-ed.ensures in
    record {
      shows = went-text _ (came-back (record {
        less = let z = c.if-to-st.false in omega (arith, c.lesser-to.ensures);
        walks = c.to_source-first.ensures;
        same = c.to_source-first.auto.j;
        last_is = c.lesser-last.ensures;
        reads = c.read_lines.ensures;
      }) b.0 b.2 c.in-Ok.is (b.1 ∙ c.lesser-to.ensures) w.0 c.requires.0 w.1 c.requires.1 w.2);
    }

pub returns-in-Ok : goal.returns-in-Ok
returns-in-Ok c =
    let b = c.come_back-ed.ensures in
    record {
      keeps = refl;
      long = c.come_back-ed.auto.j ∙ c.read_lines.auto.j ∙ c.to_source-first.auto.j;
      does = came-back (record {
        less = let z = c.if-to-st.false in omega (arith, c.lesser-to.ensures);
        walks = c.to_source-first.ensures;
        same = c.to_source-first.auto.j;
        last_is = c.lesser-last.ensures;
        reads = c.read_lines.ensures;
      }) b.0 b.2 c.in-Ok.is (b.1 ∙ c.lesser-to.ensures);
    }

pub invariant_of-ed-in-Err : goal.invariant_of-ed-in-Err
invariant_of-ed-in-Err c =
    let w = shown c.args.ed.now.shows in
    let b = c.come_back-ed-in-Err.ensures in
    record {
      shows = halt-text _ _ (came-stopped (record {
        less = let z = c.if-to-st.false in omega (arith, c.lesser-to.ensures);
        walks = c.to_source-first.ensures;
        same = c.to_source-first.auto.j;
        last_is = c.lesser-last.ensures;
        reads = c.read_lines.ensures;
      }) b.0 b.2 _ c.in-Err.is b.1 w.0 c.requires.0 w.1 c.requires.1 w.2);
    }

pub returns-in-Err : goal.returns-in-Err
returns-in-Err c =
    let b = c.come_back-ed-in-Err.ensures in
    record {
      keeps = refl;
      long = c.come_back-ed-in-Err.auto.j ∙ c.read_lines.auto.j ∙ c.to_source-first.auto.j;
      does = came-stopped (record {
        less = let z = c.if-to-st.false in omega (arith, c.lesser-to.ensures);
        walks = c.to_source-first.ensures;
        same = c.to_source-first.auto.j;
        last_is = c.lesser-last.ensures;
        reads = c.read_lines.ensures;
      }) b.0 b.2 _ c.in-Err.is b.1;
    }
