-- `leads::leads_of` meets its contract. Assumes nothing.
use Rattle.leads.proofs.Ranging.{both_ends}
use Rattle.leads.proofs.leads_of.Goals as goal

pub returns : goal.returns
returns c =
    let first = c.first_lead in
    let last = c.last_lead in
    (first.ensures.0, last.ensures.0, λ p r. both_ends p first.result last.result (first.ensures.1 p r) (last.ensures.1 p r))
