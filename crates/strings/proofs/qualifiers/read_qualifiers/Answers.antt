-- `strings::qualifiers::read_qualifiers` meets its contract. The loop keeps `Begun`: what is read so far, and that the rounds left are enough; the bytes that are left fall. Assumes nothing.
use mathlib.Core.Path.{sym, ◌∙◌}
use native.Mathlib.Omega.{arith}
use Rattle.answers.proofs.Taking.{passed}
use Rattle.strings.proofs.Opening.{none-are, begins, opened, refused-up, goes-round}
use Rattle.strings.proofs.qualifiers.read_qualifiers.Goals as goal

pub loop-q-init : goal.loop-q-init
loop-q-init c =
    let none = none-are _ c.no_qualifiers-q.ensures in
    let skip-spaces = c.skip_spaces-i in
    begins c.args.s.now c.args.at c.args.in_search _ _ skip-spaces.ensures.place skip-spaces.ensures.within.0 skip-spaces.ensures.within.1 none.0 none.1 none.2

pub returns : goal.returns
returns c =
    let loop = c.loop-q in
    let next-byte = c.next_byte in
    let is-delimiter = c.is_delimiter in
    opened c.args.s.now c.args.at c.args.in_search loop.q loop.i loop.invariant (rw (← next-byte.ensures) (sym is-delimiter.ensures ∙ c.loop-q-test.false))

pub read_qualifier-requires : goal.read_qualifier-requires
read_qualifier-requires c = (c.loop-q.invariant.to, c.loop-q.invariant.small)

pub returns-in_err-step : goal.returns-in_err-step
returns-in_err-step c =
    let loop = c.loop-q in
    let next-byte = c.next_byte in
    let is-delimiter = c.is_delimiter in
    rw (passed _ _ c.from_residual.ensures.1) (refused-up c.args.s.now c.args.at c.args.in_search loop.q loop.i loop.invariant (rw (← next-byte.ensures) (sym is-delimiter.ensures ∙ c.loop-q-test.true)) _ _ c.in_err-step.ensures)

pub loop-q-smaller : goal.loop-q-smaller
loop-q-smaller c =
    let on = c.in_ok-step.ensures in
    omega (arith, on.1, c.skip_spaces-i-in-loop-q.ensures.within.0, c.skip_spaces-i-in-loop-q.ensures.within.1)

pub loop-q-preserved : goal.loop-q-preserved
loop-q-preserved c =
    let loop = c.loop-q in
    let next-byte = c.next_byte in
    let is-delimiter = c.is_delimiter in
    let skip-spaces2 = c.skip_spaces-i-in-loop-q in
    goes-round c.args.s.now c.args.at c.args.in_search loop.q loop.i loop.invariant (rw (← next-byte.ensures) (sym is-delimiter.ensures ∙ c.loop-q-test.true)) _ _ _ c.in_ok-step.ensures skip-spaces2.ensures.place skip-spaces2.ensures.within.0 skip-spaces2.ensures.within.1
