-- `turning::turn` meets its contract. One law for each way out. Assumes nothing.
use mathlib.Core.Path.{sym, ◌∙◌}
use native.Mathlib.Omega.{arith}
use Rattle.turning.proofs.Answers.{turn_malformed, turn-short, turn-asks, turn-done}
use Rattle.turning.proofs.turn.Goals as goal

pub returns-then-not-joinable : goal.returns-then-not-joinable
returns-then-not-joinable c =
    let a = c.args in
    turn_malformed a.j.now a.dest.now (sym c.joinable.ensures ∙ c.if-not-joinable.true)

pub returns-then-dest-j : goal.returns-then-dest-j
returns-then-dest-j c =
    let a = c.args in
    turn-short a.j.now a.dest.now (sym c.joinable.ensures ∙ c.if-not-joinable.false) (omega arith)

pub turn_all-requires : goal.turn_all-requires
turn_all-requires c =
    let a = c.args in
    turn-asks a.j.now a.dest.now (sym c.joinable.ensures ∙ c.if-not-joinable.false) (omega arith)

pub returns : goal.returns
returns c =
    let a = c.args in
    turn-done a.j.now a.dest.now (sym c.joinable.ensures ∙ c.if-not-joinable.false) (omega arith) c.turn_all.new.dest c.turn_all.ensures
