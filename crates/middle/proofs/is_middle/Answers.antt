-- `middle::is_middle` meets its contract. One law for each way out; the records found give the bounds. Assumes nothing.
use mathlib.Core.Path.{sym, ◌∙◌}
use native.Mathlib.Omega.{arith}
use Rattle.middle.proofs.Ways.{ordered, old-some, new-some, none_first, none-second, both-there}
use Rattle.middle.proofs.is_middle.Goals as goal

pub new_span-requires : goal.new_span-requires
new_span-requires c = let a = c.args in ordered a.j.now a.x.at a.x c.requires.0 (omega arith)

pub returns-in_default : goal.returns-in_default
returns-in_default c = none_first _ _ _ _ (sym c.in_default.ensures)

pub old_span-requires : goal.old_span-requires
old_span-requires c = let a = c.args in ordered a.k.now a.y.at a.y c.requires.1 (omega arith)

pub returns-in_default-old_span : goal.returns-in_default-old_span
returns-in_default-old_span c = none-second _ _ _ _ _ (sym c.in-Some.ensures) (sym c.in_default-old_span.ensures)

pub same_text-requires : goal.same_text-requires
same_text-requires c =
    let a = c.args in
    let w = new-some a.j.now a.x c.requires.0 _ (sym c.in-Some.ensures) in
    let v = old-some a.k.now a.y c.requires.1 _ (sym c.in-Some-old_span.ensures) in
    (w.0, w.1, v.0, v.1)

pub returns : goal.returns
returns c = c.same_text.ensures ∙ both-there _ _ _ _ _ _ (sym c.in-Some.ensures) (sym c.in-Some-old_span.ensures)
