-- `strings::two_plain_strings` meets its contract. Assumes nothing.
use Rattle.answers.proofs.Taking.{passed}
use Rattle.strings.proofs.Opening.{none-are}
use Rattle.strings.proofs.Unqualified.{plain-refused, plain-empty, opening-in, plain-first, plain-both}
use Rattle.strings.proofs.two_plain_strings.Goals as goal

pub returns-in_err-string : goal.returns-in_err-string
returns-in_err-string c =
    let skipped = c.skip_spaces-open in
    rw (passed _ _ c.from_residual.ensures.1) (plain-refused c.args.s.now c.args.at _ skipped.ensures.place skipped.ensures.within.0 _ _ c.in_err-string.ensures)

pub returns-then-part : goal.returns-then-part
returns-then-part c =
    let skipped = c.skip_spaces-open in
    let string = c.in_ok-string.ensures in
    rw c.at.ensures (plain-empty c.args.s.now c.args.at _ skipped.ensures.place skipped.ensures.within.0 _ _ _ string c.if-part.true)

pub bounds-s-open : goal.bounds-s-open
bounds-s-open c =
    let skipped = c.skip_spaces-open in
    let string = c.in_ok-string.ensures in
    opening-in c.args.s.now c.args.at _ skipped.ensures.place skipped.ensures.within.0 _ _ _ string

pub with_second-requires : goal.with_second-requires
with_second-requires c =
    let skipped = c.skip_spaces-open in
    let string = c.in_ok-string.ensures in
    let none = none-are _ c.no_qualifiers.ensures in
    (_, _, _, plain-first c.args.s.now c.args.at _ skipped.ensures.place skipped.ensures.within.0 _ _ _ string _ none.0 none.1 none.2)

pub returns : goal.returns
returns c =
    let skipped = c.skip_spaces-open in
    let string = c.in_ok-string.ensures in
    let none = none-are _ c.no_qualifiers.ensures in
    plain-both c.args.s.now c.args.at _ skipped.ensures.place skipped.ensures.within.0 _ _ _ string _ none.0 none.1 none.2 c.if-part.false _ _ (c.with_second.ensures _ _ _ (plain-first c.args.s.now c.args.at _ skipped.ensures.place skipped.ensures.within.0 _ _ _ string _ none.0 none.1 none.2))
