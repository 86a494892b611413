-- `cases::hex::write_hex` meets its contract. Assumes nothing.
use Rattle.std.proofs.Common.{◌≡◌, length, rules}
use borrow.Author.Tests.{tests}
use Rattle.cases.proofs.Digits.{digits-none}
use Rattle.cases.proofs.hex.write_hex.Goals as goal

pub returns-then-is_empty : goal.returns-then-is_empty
returns-then-is_empty t c =
    let none : length c.args.s.now ≡ 0 = search (rules, tests) in
    digits-none c.args.hex.now c.args.s.now none
