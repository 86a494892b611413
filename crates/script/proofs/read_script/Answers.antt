-- `script::read_script` meets its contract. Assumes nothing.
use Rattle.std.proofs.Common.{None, Ok}
use borrow.Author.Rules.{rules}
use mathlib.Core.Path.{◌≡◌, refl, ap, ◌∙◌}
use native.Mathlib.Omega.{arith}
use Rattle.script.proofs.WholeScript.{begins, goes_on, ends, refuses}
use Rattle.script.proofs.read_script.Goals.{in_default-via-in-Ok+in_default, in_default-via-in_default}
use Rattle.script.proofs.read_script.Goals as goal

pub loop-next-init : goal.loop-next-init
loop-next-init c = let e = c.reader_at-reader.ensures in (rw e.1 (begins _ _ c.requires.0 c.requires.1), rw e.0, refl)

pub returns-in_default : goal.returns-in_default
returns-in_default c =
    let inv = c.loop-next.invariant in
    let t = c.read_next-round.ensures.1 in
    elim c.in_default.branch [
      | in_default-via-in-Ok+in_default w ↦
          let none : w.in_default.field-0 ≡ None = search rules in
          let e = w.in_default.is ∙ ap Ok none in
          rw c.and.ensures (ends _ _ _ _ _ _ inv.0 _ e (rw inv.1 at (rw e at t).0))
      | in_default-via-in_default w ↦
          let e = w.in_default.is in
          rw c.and.ensures (refuses _ _ c.read_next-round.new.w _ _ _ inv.0 _ _ e (rw inv.1 at (rw e at t).0))
    ]

pub loop-next-smaller : goal.loop-next-smaller
loop-next-smaller c =
    let inv = c.loop-next.invariant in
    let t = rw (rw c.in-Ok-Some.is at c.in-Ok-Some.field-0-is) at c.in-Ok-Some.ensures-1 in
    let g = goes_on _ _ _ _ _ _ inv.0 _ _ (rw inv.1 at t.1.1) in
    omega (arith, g.1, g.2, t.1.2)

pub loop-next-preserved : goal.loop-next-preserved
loop-next-preserved c =
    let inv = c.loop-next.invariant in
    let t = rw (rw c.in-Ok-Some.is at c.in-Ok-Some.field-0-is) at c.in-Ok-Some.ensures-1 in
    (rw t.1.2 (goes_on _ _ _ _ _ _ inv.0 t.1.0 _ (rw inv.1 at t.1.1)).0, rw t.0 inv.1, c.read_next-round.auto.w ∙ inv.2)
