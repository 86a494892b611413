-- `turning::turn_one` meets its contract. A kept record is copied, a changed one exchanges its lines. Assumes nothing.
use mathlib.Core.Path.{sym}
use native.Mathlib.Omega.{arith}
use Rattle.journal.proofs.Places.{is-changed, is-other}
use Rattle.journal.proofs.Here.{in-places}
use Rattle.turning.proofs.Steps.{one-nowhere, kept-asks, kept-done, new-asks, old-asks, changed-done}
use Rattle.turning.proofs.turn_one.Goals as goal

pub returns-in_default : goal.returns-in_default
returns-in_default c = let a = c.args in absurd (one-nowhere a.j.now a.dest.now a.at c.requires.0 c.requires.1 c.requires.2 c.requires.3 c.requires.4 (sym c.in_default.ensures))

pub overflow_add-x : goal.overflow_add-x
overflow_add-x c = omega (arith, in-places _ _ _ (sym c.in-Some.ensures))

pub overflow_add-x-then-eq : goal.overflow_add-x-then-eq
overflow_add-x-then-eq c = omega (arith, in-places _ _ _ (sym c.in-Some.ensures))

pub slice_bounds-put_marked-count : goal.slice_bounds-put_marked-count
slice_bounds-put_marked-count c = omega (arith, in-places _ _ _ (sym c.in-Some.ensures))

pub slice_bounds-put_marked-start : goal.slice_bounds-put_marked-start
slice_bounds-put_marked-start c = omega (arith, in-places _ _ _ (sym c.in-Some.ensures))

pub slice_bounds-put_marked-end : goal.slice_bounds-put_marked-end
slice_bounds-put_marked-end c = omega (arith, in-places _ _ _ (sym c.in-Some.ensures))

pub overflow_add-x-then-eq-2 : goal.overflow_add-x-then-eq-2
overflow_add-x-then-eq-2 c = omega (arith, in-places _ _ _ (sym c.in-Some.ensures))

pub slice_bounds-put_line-count : goal.slice_bounds-put_line-count
slice_bounds-put_line-count c = omega (arith, in-places _ _ _ (sym c.in-Some.ensures))

pub slice_bounds-put_line-start : goal.slice_bounds-put_line-start
slice_bounds-put_line-start c = omega (arith, in-places _ _ _ (sym c.in-Some.ensures))

pub slice_bounds-put_line-end : goal.slice_bounds-put_line-end
slice_bounds-put_line-end c = omega (arith, in-places _ _ _ (sym c.in-Some.ensures))

pub overflow_add-x-2 : goal.overflow_add-x-2
overflow_add-x-2 c = omega (arith, in-places _ _ _ (sym c.in-Some.ensures))

pub slice_bounds-put_line-count-2 : goal.slice_bounds-put_line-count-2
slice_bounds-put_line-count-2 c = omega (arith, in-places _ _ _ (sym c.in-Some.ensures))

pub slice_bounds-put_line-start-2 : goal.slice_bounds-put_line-start-2
slice_bounds-put_line-start-2 c = omega (arith, in-places _ _ _ (sym c.in-Some.ensures))

pub slice_bounds-put_line-end-2 : goal.slice_bounds-put_line-end-2
slice_bounds-put_line-end-2 c = omega (arith, in-places _ _ _ (sym c.in-Some.ensures))

pub put_marked-next-requires : goal.put_marked-next-requires
put_marked-next-requires c =
    let a = c.args in
    (new-asks a.j.now a.dest.now a.at c.requires.0 c.requires.1 c.requires.2 c.requires.3 c.requires.4 _ (sym c.in-Some.ensures) (is-changed _ c.if-eq.ensures)).2

pub put_line-requires : goal.put_line-requires
put_line-requires c =
    let a = c.args in
    (old-asks a.j.now a.dest.now a.at c.requires.0 c.requires.1 c.requires.2 c.requires.3 c.requires.4 _ (sym c.in-Some.ensures) (is-changed _ c.if-eq.ensures) _ _ c.put_marked-next.ensures).2

pub returns-then-eq : goal.returns-then-eq
returns-then-eq c =
    let a = c.args in
    changed-done a.j.now a.dest.now a.at c.requires.0 c.requires.1 c.requires.2 c.requires.3 c.requires.4 _ (sym c.in-Some.ensures) (is-changed _ c.if-eq.ensures) _ _ c.put_marked-next.ensures _ _ c.put_line.ensures

pub put_line-requires-2 : goal.put_line-requires-2
put_line-requires-2 c = let a = c.args in (kept-asks a.j.now a.dest.now a.at c.requires.0 c.requires.1 c.requires.2 c.requires.3 c.requires.4 _ (sym c.in-Some.ensures)).2

pub returns : goal.returns
returns c =
    let a = c.args in
    kept-done a.j.now a.dest.now a.at c.requires.0 c.requires.1 c.requires.2 c.requires.3 c.requires.4 _ (sym c.in-Some.ensures) (is-other _ c.if-eq.ensures) _ _ c.put_line-2.ensures
