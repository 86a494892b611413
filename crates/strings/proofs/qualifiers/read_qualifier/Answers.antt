-- `strings::qualifiers::read_qualifier` meets its contract. Assumes nothing.
use mathlib.Core.Path.{sym, ◌∙◌}
use Rattle.strings.proofs.Reading.{nothing_left, digit-here, columns-twice, columns-here, letter-here}
use Rattle.strings.proofs.qualifiers.read_qualifier.Goals as goal

pub returns-then-s-at : goal.returns-then-s-at
returns-then-s-at c =
    let then1 = c.if-s-at in
    rw c.at.ensures (nothing_left c.args.s.now c.args.at c.args.q c.args.in_search then1.true)

pub returns-then-is_digit : goal.returns-then-is_digit
returns-then-is_digit c =
    let else1 = c.if-s-at in
    let is_digit = c.is_digit in
    let then2 = c.if-is_digit in
    let read_count = c.read_count in
    digit-here c.args.s.now c.args.at c.args.q c.args.in_search else1.false _ (sym is_digit.ensures ∙ then2.true) read_count.ensures

pub returns-then-q-ne0 : goal.returns-then-q-ne0
returns-then-q-ne0 c =
    let else1 = c.if-s-at in
    let is_digit = c.is_digit in
    let else2 = c.if-is_digit in
    let then3 = c.if-b-eq95 in
    let then4 = c.if-q-ne0 in
    rw c.at-then-q-ne0.ensures (columns-twice c.args.s.now c.args.at c.args.q c.args.in_search else1.false (sym is_digit.ensures ∙ else2.false) then3.true then4.true)

pub returns-then-b-eq95 : goal.returns-then-b-eq95
returns-then-b-eq95 c =
    let else1 = c.if-s-at in
    let is_digit = c.is_digit in
    let else2 = c.if-is_digit in
    let then3 = c.if-b-eq95 in
    let else4 = c.if-q-ne0 in
    let read-columns = c.read_columns in
    columns-here c.args.s.now c.args.at c.args.q c.args.in_search else1.false (sym is_digit.ensures ∙ else2.false) _ then3.true else4.false read-columns.ensures

pub returns : goal.returns
returns c =
    let else1 = c.if-s-at in
    let is_digit = c.is_digit in
    let else2 = c.if-is_digit in
    let else3 = c.if-b-eq95 in
    let upper = c.upper in
    let add-letter = c.add_letter in
    let added-at = c.added_at in
    letter-here c.args.s.now c.args.at c.args.q c.args.in_search else1.false (sym is_digit.ensures ∙ else2.false) _ _ _ else3.false upper.ensures add-letter.ensures added-at.ensures c.requires.1
