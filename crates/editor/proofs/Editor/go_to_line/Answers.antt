use mathlib.Core.Path.{refl, sym, ◌∙◌}
use Rattle.editor.specs.Shows.{lent}
use Rattle.editor.specs.declared.Stop.TheVariants.{MetEof, LineDeleted}
use Rattle.editor.proofs.Walking.{raised-holds, source-away}
use Rattle.editor.proofs.Parts.{came-as}
use Rattle.editor.proofs.Moving.{line-eof, line_dead, line-live}
use Rattle.editor.proofs.Shown.{shown, went-text, halt-text, text-as}
use Rattle.editor.proofs.Editor.go_to_line.Goals as goal

pub to_source-s-requires : goal.to_source-s-requires
to_source-s-requires c = (_, _, raised-holds c.args.a c.read_to-was.ensures (shown c.args.self.now.shows).2.holds)

pub gap_to-requires : goal.gap_to-requires
gap_to-requires c =
    let to = c.to_source-s in
    (c.args.self.now.journal.now, source-away _ (raised-holds c.args.a c.read_to-was.ensures (shown c.args.self.now.shows).2.holds) to.ensures (sym to.auto.j))

pub invariant_of-self : goal.invariant_of-self
invariant_of-self c =
    let w = shown c.args.self.now.shows in
    let back = c.gap_to.ensures _ (source-away _ (raised-holds c.args.a c.read_to-was.ensures w.2.holds) c.to_source-s.ensures (sym c.to_source-s.auto.j)) in
    record { shows = text-as back (halt-text MetEof _ (line-eof (lent c.args.self.now.journal.now) _ c.requires w.0 w.1 w.2 c.read_to-was.ensures c.to_source-s.ensures c.if-at-j.true)) }

pub returns-then-at-j : goal.returns-then-at-j
returns-then-at-j c =
    let read = c.read_to-was in
    let to = c.to_source-s in
    record {
      keeps = refl;
      long = c.gap_to.auto.j ∙ c.to_source-s.auto.j;
      does = λ e t h.
          came-as (c.gap_to.ensures _ (source-away _ (raised-holds c.args.a read.ensures h.holds) to.ensures (sym to.auto.j))) _ _
          (line-eof _ _ c.requires e t h read.ensures to.ensures c.if-at-j.true);
    }

pub gap_to-requires-then-j-at-eq45 : goal.gap_to-requires-then-j-at-eq45
gap_to-requires-then-j-at-eq45 c =
    let to = c.to_source-s in
    (c.args.self.now.journal.now, source-away _ (raised-holds c.args.a c.read_to-was.ensures (shown c.args.self.now.shows).2.holds) to.ensures (sym to.auto.j))

pub invariant_of-self-then-j-at-eq45 : goal.invariant_of-self-then-j-at-eq45
invariant_of-self-then-j-at-eq45 c =
    let w = shown c.args.self.now.shows in
    let back = c.gap_to-then-j-at-eq45.ensures _ (source-away _ (raised-holds c.args.a c.read_to-was.ensures w.2.holds) c.to_source-s.ensures (sym c.to_source-s.auto.j)) in
    record { shows = text-as back (halt-text LineDeleted _ (line_dead (lent c.args.self.now.journal.now) _ c.requires w.0 w.1 w.2 c.read_to-was.ensures c.to_source-s.ensures c.if-at-j.false c.if-j-at-eq45.true)) }

pub returns-then-j-at-eq45 : goal.returns-then-j-at-eq45
returns-then-j-at-eq45 c =
    let read = c.read_to-was in
    let to = c.to_source-s in
    record {
      keeps = refl;
      long = c.gap_to-then-j-at-eq45.auto.j ∙ c.to_source-s.auto.j;
      does = λ e t h.
          came-as (c.gap_to-then-j-at-eq45.ensures _ (source-away _ (raised-holds c.args.a read.ensures h.holds) to.ensures (sym to.auto.j))) _ _
          (line_dead _ _ c.requires e t h read.ensures to.ensures c.if-at-j.false c.if-j-at-eq45.true);
    }

pub invariant_of-self-2 : goal.invariant_of-self-2
invariant_of-self-2 c =
    let w = shown c.args.self.now.shows in
    record { shows = went-text _ (line-live (lent c.args.self.now.journal.now) _ c.requires w.0 w.1 w.2 c.read_to-was.ensures c.to_source-s.ensures c.if-at-j.false c.if-j-at-eq45.false) }

pub returns : goal.returns
returns c =
    record { keeps = refl; long = c.to_source-s.auto.j; does = λ e t h. line-live _ _ c.requires e t h c.read_to-was.ensures c.to_source-s.ensures c.if-at-j.false c.if-j-at-eq45.false }
