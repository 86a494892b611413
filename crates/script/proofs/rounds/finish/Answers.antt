-- `script::rounds::finish` meets its contract. Assumes nothing.
use native.Mathlib.Omega.{arith}
use Rattle.script.proofs.OneRound.{whole_is, prefix-is, finish-room, finish-whole, finish-prefix, finish-refused, command-read}
use Rattle.script.proofs.rounds.finish.Goals as goal

pub returns-in_default : goal.returns-in_default
returns-in_default c = λ s before at acc x h is. finish-refused s before c.args.w.now at _ x _ is _ _ acc _ c.unwrap_err.ensures

pub put_closes-requires : goal.put_closes-requires
put_closes-requires c =
    let got = command-read _ _ _ _ _ _ _ c.requires.6 _ c.in-Ok.is in
    finish-room _ _ _ _ _ _ _ c.requires.5 _ _ got.0 (whole_is _ _ _ _ _ _ _ _ c.in-Nothing.is got.1)

pub overflow_add-closed : goal.overflow_add-closed
overflow_add-closed c =
    let got = command-read _ _ _ _ _ _ _ c.requires.6 _ c.in-Ok.is in
    omega (arith, finish-room _ _ _ _ _ _ _ c.requires.5 _ _ got.0 (whole_is _ _ _ _ _ _ _ _ c.in-Nothing.is got.1))

pub returns-in-Nothing : goal.returns-in-Nothing
returns-in-Nothing c = λ s before at acc x h is.
    let got = command-read _ _ _ _ _ _ _ is _ c.in-Ok.is in
    finish-whole s before _ _ at acc x h _ _ got.0 (whole_is _ _ _ _ _ _ _ _ c.in-Nothing.is got.1) _ c.put_closes.ensures

pub returns-in-Body : goal.returns-in-Body
returns-in-Body c = λ s before at acc x h is.
    let got = command-read _ _ _ _ _ _ _ is _ c.in-Ok.is in
    finish-prefix s before _ _ at acc x h _ _ got.0 _ (prefix-is _ _ _ _ _ _ _ _ _ c.in-Body.is got.1)
