-- `run::run_opened` meets its contract. Assumes nothing.
use mathlib.Core.Path.{sym, ◌∙◌}
use native.Mathlib.Omega.{arith}
use Rattle.run.proofs.Whole.{opened-ready, runnable-room, begins, opened-ends}
use Rattle.run.proofs.run_opened.Goals as goal

pub open-ed-requires : goal.open-ed-requires
open-ed-requires c = c.requires.0

pub begin-requires : goal.begin-requires
begin-requires c = let p = c.requires in let room = runnable-room _ _ _ _ p.1.0.1 in omega (arith, room)

pub run_items-requires : goal.run_items-requires
run_items-requires c =
    let p = c.requires in
    let z = begins _ _ _ _ p.1.0.0 c.begin.ensures p.1.0.1 in
    (((p.1.0.0, z.0), p.1.1), z.1, (_, _, opened-ready _ p.0.0 c.open-ed.ensures.opens))

pub returns : goal.returns
returns c = λ is d.
    let p = c.requires in
    rw (c.journal-1.given.1.1 (sym (c.run_items.ensures.lent ∙ c.open-ed.ensures.lent)))
    (opened-ends _ _ _ _ _ _ _ _ is c.open-ed.ensures.long
    (c.run_items.ensures.runs.runs is _ _ (begins _ _ _ _ is c.begin.ensures d).0 (opened-ready _ p.0.0 c.open-ed.ensures.opens)))
