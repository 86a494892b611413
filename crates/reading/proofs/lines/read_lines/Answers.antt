use mathlib.Core.Path.{refl, sym, ◌∙◌}
use mathlib.Core.List.{[]}
use native.Mathlib.Omega.{arith}
use Rattle.definitions.specs.Editor.{ed}
use Rattle.editor.proofs.Parts.{lent_same, passed-on}
use Rattle.reading.specs.Lines.{passed_of}
use Rattle.reading.proofs.Going.{going_start, going-in, going-ends, going_on, going-stops, some-text}
use Rattle.reading.proofs.lines.read_lines.Goals as goal

pub loop-s-init : goal.loop-s-init
loop-s-init c = ((λ e d ls stands h. going_start e ls h c.requires.2), refl)

pub read_line-requires : goal.read_line-requires
read_line-requires c =
    let h = (c.loop-s.invariant.0 (ed c.requires.1.0 [] 0) c.requires.0.0 c.requires.1.1 c.requires.0.1 (some-text c.requires.1.0 c.requires.1.1 c.requires.1.2)) in
    (c.requires.0, (passed_of h.text, h.rest, h.holds), going-in h c.loop-s-test.true)

pub shape_of-j-in_err-s : goal.shape_of-j-in_err-s
shape_of-j-in_err-s c = c.read_line.auto.j ∙ c.loop-s.invariant.1

pub returns-in_err-s : goal.returns-in_err-s
returns-in_err-s c =
    let l = c.loop-s in
    let r = c.read_line in
    λ e d ls stands h.
    rw (passed-on _ _ _ c.in_err-s.was c.from_residual.ensures.1)
    (going-stops _ _ _ stands (sym (lent_same _ _ l.invariant.1)) c.loop-s-test.true (l.invariant.0 e d ls stands h) _ _ _ c.in_err-s.was r.ensures)

pub loop-s-smaller : goal.loop-s-smaller
loop-s-smaller c =
    let l = c.loop-s in
    let more = c.loop-s-test.true in
    omega (arith, more, (going_on _ _ _ c.requires.0.1 (sym (lent_same _ _ l.invariant.1)) more ((c.loop-s.invariant.0 (ed c.requires.1.0 [] 0) c.requires.0.0 c.requires.1.1 c.requires.0.1 (some-text c.requires.1.0 c.requires.1.1 c.requires.1.2))) _ _ c.in_ok-s.was c.read_line.ensures).1)

pub loop-s-preserved : goal.loop-s-preserved
loop-s-preserved c =
    let l = c.loop-s in
    let r = c.read_line in (
      (λ e d ls stands h.
          (going_on _ _ _ stands (sym (lent_same _ _ l.invariant.1)) c.loop-s-test.true (l.invariant.0 e d ls stands h) _ _ c.in_ok-s.was r.ensures).0),
      r.auto.j ∙ l.invariant.1,
    )

pub shape_of-j : goal.shape_of-j
shape_of-j c = c.loop-s.invariant.1

pub returns : goal.returns
returns c =
    let l = c.loop-s in
    let end = c.loop-s-test.false in
    λ e d ls stands h. going-ends (l.invariant.0 e d ls stands h) (omega arith)
