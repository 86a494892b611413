-- `script::groups::close_group` meets its contract. Assumes nothing.
use lib.ListN.{length}
use Prim.Native.Nat.{◌-◌}
use Rattle.script.proofs.Nested.{missing-body, unmatched, closing-plain, closing-alone, closing-else}
use Rattle.script.proofs.Classes.{stands_on, comes-from}
use mathlib.Core.Path.{refl}
use native.Mathlib.Omega.{arith}
use Rattle.script.proofs.groups.close_group.Goals as goal
use Rattle.script.proofs.groups.close_group.Goals.{then-word-eq1+in_default, else-word-eq1}

pub returns-then-st-ne0 : goal.returns-then-st-ne0
returns-then-st-ne0 c = λ acc h. rw c.at.ensures (missing-body _ _ _ _ acc h c.requires.1 c.if-st-ne0.true)

pub returns-then-depth-eq0 : goal.returns-then-depth-eq0
returns-then-depth-eq0 c = λ acc h. rw c.at-then-depth-eq0.ensures (unmatched _ _ _ _ acc h c.requires.1 c.if-st-ne0.false c.if-depth-eq0.true)

pub overflow_cast-bodies : goal.overflow_cast-bodies
overflow_cast-bodies c =
    let a = c.args in
    omega (arith, c.slice_known-2-1.given (length a.w.now - a.st.depth))

pub else_group-requires : goal.else_group-requires
else_group-requires c =
    let e = c.in-Some.ensures in
    ((c.requires.0.0, stands_on _ _ _ _ _ _ c.requires.0.1 (omega (arith, e.2)) e.3), omega (arith, c.if-depth-eq0.false), refl, c.if-st-ne0.false)

pub returns-in-Some : goal.returns-in-Some
returns-in-Some c = λ acc h.
    let e = c.in-Some.ensures in
    rw (closing-else _ _ _ _ acc h c.requires.1 c.if-st-ne0.false c.if-depth-eq0.false _ c.if-word-eq1.true e.0 e.1)
    (comes-from _ _ _ _ _ _ (omega (arith, e.2)) (c.else_group.ensures acc (stands_on _ _ _ _ _ _ h (omega (arith, e.2)) e.3)))

pub returns : goal.returns
returns c = λ acc h.
    elim c.if-word-eq1.branch [
      | then-word-eq1+in_default w ↦
          rw (closing-alone _ _ _ _ acc h c.requires.1 c.if-st-ne0.false c.if-depth-eq0.false w.if-word-eq1.true w.in_default.ensures) (c.end_group.ensures _ acc h c.requires.1)
      | else-word-eq1 w ↦
          rw (closing-plain _ _ _ _ acc h c.requires.1 c.if-st-ne0.false c.if-depth-eq0.false w.if-word-eq1.false) (c.end_group.ensures _ acc h c.requires.1)
    ]
