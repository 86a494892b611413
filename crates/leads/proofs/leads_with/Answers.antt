-- `leads::leads_with` meets its contract. Assumes nothing.
use mathlib.Core.Path.{sym, ap, ◌∙◌}
use mathlib.Core.Bool.{Bool, ◌&&◌}
use native.Mathlib.Omega.{arith}
use lib.Dec.{leb}
use borrow.Author.Tests.{le-leb, lt-leb}
use Rattle.leads.specs.Passing.{lead-below, lead-beyond, lead-range}
use Rattle.leads.proofs.leads_with.Goals as goal

pub returns-then-b-lt32 : goal.returns-then-b-lt32
returns-then-b-lt32 c =
    let a = c.args in
    sym (lead-below a.r a.b (omega arith))

pub returns-then-b-ge128 : goal.returns-then-b-ge128
returns-then-b-ge128 c =
    let a = c.args in
    sym (lead-beyond a.r a.b (omega arith))

pub returns-then-b-r : goal.returns-then-b-r
returns-then-b-r c =
    let a = c.args in
    sym
    (lead-range a.r a.b (omega arith) (omega arith)
    ∙ ap (λ (t : Bool). t && leb a.b a.r.high) (lt-leb a.r.low a.b (omega arith)))

pub returns : goal.returns
returns c =
    let a = c.args in
    sym
    (lead-range a.r a.b (omega arith) (omega arith)
    ∙ ap (λ (t : Bool). t && leb a.b a.r.high) (le-leb a.r.low a.b (omega arith)))
