-- `script::words::names` meets its contract. Assumes nothing.
use Rattle.answers.proofs.Taking.{passed}
use Rattle.script.proofs.Naming.{misused-is, set_is, names-refused, names-asks, names-misused, names-written}
use Rattle.script.proofs.words.names.Goals as goal

pub returns-in_err-string : goal.returns-in_err-string
returns-in_err-string c = rw (passed _ _ c.from_residual.ensures.1) (names-refused _ _ _ _ _ c.requires _ c.skip_spaces.ensures.place _ _ c.in_err-string.ensures)

pub decode-requires : goal.decode-requires
decode-requires c = names-asks _ _ _ _ _ c.requires _ c.skip_spaces.ensures.place _ _ _ c.in_ok-string.ensures

pub returns-in-Err : goal.returns-in-Err
returns-in-Err c =
    rw c.at.ensures
    (names-misused _ _ _ _ _ c.requires _ c.skip_spaces.ensures.place _ _ _ c.in_ok-string.ensures _
    (misused-is _ _ _ _ c.in-Err.ensures.1))

pub returns-in-Ok : goal.returns-in-Ok
returns-in-Ok c =
    let d = c.in-Ok.ensures in
    let named = set_is _ _ _ d.1 in
    rw (c.whole.ensures, c.put_one.ensures)
    (names-written _ _ _ _ _ c.requires _ c.skip_spaces.ensures.place _ _ _ c.in_ok-string.ensures _ d.0 _ c.head.ensures c.skip_spaces.ensures.within.0 named.0 named.1 named.2)
