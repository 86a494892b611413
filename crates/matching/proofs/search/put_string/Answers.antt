use native.Mathlib.Omega.{arith}
use lib.ListN.{length-set}
use Rattle.matching.proofs.Writing.{put_two, put_three, at-least-two, then-three}
use Rattle.matching.proofs.search.put_string.Goals as goal

pub bounds-words-k : goal.bounds-words-k
bounds-words-k c =
    let a = c.args in
    omega (arith, c.requires.1, at-least-two a.q a.start a.len)

pub bounds-words-k-2 : goal.bounds-words-k-2
bounds-words-k-2 c =
    let a = c.args in
    simp length-set (omega (arith, c.requires.1, at-least-two a.q a.start a.len))

pub returns-then-q-eq0 : goal.returns-then-q-eq0
returns-then-q-eq0 c = put_two _ _ _ _ _ _ _ c.first_word.ensures c.second_word.ensures c.if-q-eq0.true

pub bounds-words-k-3 : goal.bounds-words-k-3
bounds-words-k-3 c =
    let a = c.args in
    simp length-set (omega (arith, c.requires.1, then-three a.q a.start a.len c.if-q-eq0.false))

pub returns : goal.returns
returns c = put_three _ _ _ _ _ _ _ c.first_word.ensures c.second_word.ensures c.if-q-eq0.false
