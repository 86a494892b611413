-- `text::lines_form` meets its contract. The loop's invariant: the form of all is that of what is left, after `n` lines. Assumes nothing.
use Rattle.std.proofs.Common.{◌≡◌, ◌-◌, ◌≤◌, length, drop}
use Rattle.text.specs.Lines.{lines_form}
use Rattle.text.proofs.Forms.{form_after}
use Rattle.text.proofs.lines_form.Given as goal

abbrev pub invariant-loop-at : goal.invariant-loop-at
invariant-loop-at l = (l.n ≤ l.at) × (l.at ≤ length l.s) × (lines_form l.s ≡ form_after l.n (drop l.at l.s))

abbrev pub decreases-loop-at : goal.decreases-loop-at
decreases-loop-at l = length l.s - l.at
