-- `script::read_one` meets its contract. Assumes nothing.
use Rattle.script.proofs.Classes.{at-end, past-spaces, stands_on, comes-from}
use Rattle.script.proofs.OneRound.{end-gives, some-comes}
use Rattle.script.proofs.read_one.Goals as goal

pub read_at-requires : goal.read_at-requires
read_at-requires c =
    let sp = c.skip_spaces-at.ensures in
    ((c.requires.0, stands_on _ _ _ _ _ _ c.requires.1 sp.within.0 sp.within.1), c.if-at-s.true)

pub returns-then-at-s : goal.returns-then-at-s
returns-then-at-s c = λ acc h.
    let sp = c.skip_spaces-at.ensures in
    rw (past-spaces _ _ _ _ acc _ sp.place)
    (some-comes _ _ c.args.st _ _ _ _ c.map.ensures.cases (comes-from _ _ _ _ _ _ sp.within.0 (c.read_at.ensures acc (stands_on _ _ _ _ _ _ h sp.within.0 sp.within.1))))

pub returns : goal.returns
returns c = λ acc h.
    let sp = c.skip_spaces-at.ensures in
    rw (past-spaces _ _ _ _ acc _ sp.place, at-end _ _ acc _ _ c.if-at-s.false, c.and.ensures)
    (end-gives _ _ c.args.st _ acc (stands_on _ _ _ _ _ _ h sp.within.0 sp.within.1) _ _ c.script_end.ensures)
