-- `gathering::gather_line` meets its contract. Assumes nothing.
use Rattle.std.proofs.Common.{◌≡◌, ◌<◌, length, get_or, rules}
use Rattle.gathering.proofs.Passes.{none-gathered, minus-gathered, other-gathered}
use Rattle.gathering.proofs.gather_line.Goals as goal

pub returns-in-Some-eq45 : goal.returns-in-Some-eq45
returns-in-Some-eq45 c =
    let s = c.args.s.now in
    let some : 0 < length s = search rules in
    let minus : get_or s 0 0 ≡ 45 = search rules in
    minus-gathered s some c.requires minus

pub returns-in_default : goal.returns-in_default
returns-in_default c =
    let s = c.args.s.now in
    let some : 0 < length s = search rules in
    let other : get_or s 0 0 ≡ 45 → ⊥ = search rules in
    other-gathered s some c.requires other

pub returns-in_default-2 : goal.returns-in_default-2
returns-in_default-2 c =
    let none : length c.args.s.now ≡ 0 = search rules in
    none-gathered c.args.s.now none
