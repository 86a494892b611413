-- `seasons::measure::measure` meets its contract. The loop's invariant is `Measuring`. Assumes nothing.
use Rattle.std.proofs.Common.{ℕ, ◌-◌, ◌≤◌, Option, SomeIff, Ok, Err}
use Rattle.std.proofs.lemmas.Result.{err_from_is_err_and}
use mathlib.Core.Path.{sym, ap, subst, ◌∙◌}
use native.Mathlib.Omega.{arith}
use Rattle.seasons.proofs.Lengths.{measuring-differs, measuring-fits, measuring-long, measuring-stands, measuring-further, measuring-more, measuring-over}
use Rattle.seasons.proofs.measure.measure.Goals as goal
use Rattle.seasons.proofs.measure.measure.Goals.{in-Some-left, in_default-left}

pub returns-in_err-next : goal.returns-in_err-next
returns-in_err-next c rs ss f s =
    let l = c.loop-next in
    let a = c.args in
    let y = err_from_is_err_and _ c.from_residual.ensures.1 in
    y.1 ∙ ap Err y.2 ∙ measuring-differs a.j.now a.k.now a.size l.p l.left l.invariant _ c.in_err-next.ensures rs ss f s

pub length_of-need-requires : goal.length_of-need-requires
length_of-need-requires c =
    let l = c.loop-next in
    let a = c.args in
    measuring-stands a.j.now a.k.now a.size l.p l.left l.invariant _ (ap Ok (sym c.in-Some.is) ∙ c.in_ok-next.ensures)

pub loop-next-smaller : goal.loop-next-smaller
loop-next-smaller c =
    let l = c.loop-next in
    let a = c.args in
    let f = measuring-further a.j.now a.k.now a.size l.p l.left l.invariant c.in-Some.next (ap Ok (sym c.in-Some.is) ∙ c.in_ok-next.ensures) in
    omega (arith, f.0, f.1)

pub loop-next-preserved : goal.loop-next-preserved
loop-next-preserved c =
    let l = c.loop-next in
    let a = c.args in
    let e = ap Ok (sym c.in-Some.is) ∙ c.in_ok-next.ensures in
    elim c.match-left.branch [
      | in-Some-left w ↦
          measuring-more a.j.now a.k.now a.size l.p l.left l.invariant _ e _ c.length_of-need.ensures _ _ w.in-Some-left.is
          (subst (λ (o : Option ℕ). SomeIff o (c.length_of-need.result ≤ w.in-Some-left.room) (w.in-Some-left.room - c.length_of-need.result)) (sym w.left-is) w.checked_sub-left.ensures)
      | in_default-left w ↦
          measuring-over a.j.now a.k.now a.size l.p l.left l.invariant _ e _ c.length_of-need.ensures _ w.in_default-left.is (w.left-is ∙ w.in_default-left.is)
    ]

pub returns-in-Some-left-2 : goal.returns-in-Some-left-2
returns-in-Some-left-2 c rs ss f s =
    let l = c.loop-next in
    let a = c.args in
    measuring-fits a.j.now a.k.now a.size l.p l.left l.invariant (ap Ok (sym c.in_default.is) ∙ c.in_ok-next.ensures) rs ss f s c.in-Some-left-2.room c.in-Some-left-2.is

pub returns-in-None : goal.returns-in-None
returns-in-None c rs ss f s =
    let l = c.loop-next in
    let a = c.args in
    measuring-long a.j.now a.k.now a.size l.p l.left l.invariant (ap Ok (sym c.in_default.is) ∙ c.in_ok-next.ensures) rs ss f s c.in-None.is
