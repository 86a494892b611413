-- `run::run_table` meets its contract. Assumes nothing.
use Rattle.run.proofs.Whole.{end-holds, table-gives}
use Rattle.run.proofs.run_table.Goals as goal

pub pass_unread-last-requires : goal.pass_unread-last-requires
pass_unread-last-requires c =
    let p = c.requires in
    (_, _, c.run_opened-ended.ensures p.1.0.0 p.1.0.1)

pub close-requires : goal.close-requires
close-requires c =
    let p = c.requires in
    end-holds _ _ _ _ (c.pass_unread-last.ensures _ _ (c.run_opened-ended.ensures p.1.0.0 p.1.0.1))

pub returns : goal.returns
returns c = λ is d.
    let p = c.requires in
    table-gives _ _ _ _ _ _ _ is _ _ _ _ p.0 c.run_opened-ended.auto.journal c.pass_unread-last.auto.journal
    (c.run_opened-ended.ensures is d) c.pass_unread-last.ensures c.close.ensures
