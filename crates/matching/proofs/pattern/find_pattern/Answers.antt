use native.Mathlib.Omega.{arith}
use Rattle.matching.proofs.Leads.{number_small, leads-back}
use Rattle.matching.proofs.Finding.{found-taken}
use Rattle.matching.proofs.pattern.find_pattern.Goals as goal

pub overflow_cast-leads-2 : goal.overflow_cast-leads-2
overflow_cast-leads-2 c =
    let given = c.requires.5 in
    omega (arith, given.2, number_small given.0)

pub find-requires : goal.find-requires
find-requires c =
    let pre = c.requires in
    let given = pre.5 in
    (pre.0, pre.1, pre.2, pre.3, pre.4, (given.0, given.1, leads-back given.0 _ given.2))

pub returns : goal.returns
returns c = λ pat reads. found-taken _ _ pat _ _ _ _ c.way_of.ensures (c.find.ensures pat reads)
