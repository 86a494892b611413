-- `seasons::measure::both_length` meets its contract. Equal texts are one line. Assumes nothing.
use mathlib.Core.Path.{sym, ap, ◌∙◌}
use Prim.Native.Nat.{ℕ, ◌+◌, ◌-◌}
use Rattle.middle.specs.Leaving.{text_in}
use Rattle.seasons.proofs.Lengths.{same_length, both-length}
use Rattle.seasons.proofs.measure.both_length.Goals as goal

pub returns-then-same_text : goal.returns-then-same_text
unfolding text_in
returns-then-same_text c =
    let a = c.args in
    c.marked_length-first.ensures
    ∙ same_length a.j.now a.k.now a.old a.new c.requires.0 c.requires.1 (sym c.same_text.ensures ∙ c.if-same_text.true)

pub returns : goal.returns
unfolding text_in
returns c =
    let a = c.args in
    ap (λ (n : ℕ). n + (a.new.to - a.new.from)) c.marked_length-first.ensures
    ∙ both-length a.j.now a.k.now a.old a.new c.requires.0 c.requires.1 (sym c.same_text.ensures ∙ c.if-same_text.false)
