-- `vectors::journals::make` meets its contract. By the work. Assumes nothing.
use Rattle.vectors.specs.Cases.{made_to}
use Rattle.vectors.proofs.journals.make.Goals as goal

pub returns-in-Join : goal.returns-in-Join
unfolding made_to
returns-in-Join c =
    let e = c.zed_join.ensures in
    rw c.in-Join.is (record { value = e.number; len_after = e.length; dest_after = e.bytes })

pub returns-in-Turn : goal.returns-in-Turn
unfolding made_to
returns-in-Turn c =
    let e = c.zed_turn.ensures in
    rw c.in-Turn.is (record { value = e.number; len_after = e.length; dest_after = e.bytes })
