-- `text::runs::text_in`: the bytes that are left are the last ones, and all before them is text.
use Rattle.std.proofs.Common.{◌≡◌, ◌+◌, ◌-◌, ◌≤◌, length}
use Rattle.text.specs.Words.{text_run}
use Rattle.text.proofs.runs.text_in.Given as goal

abbrev pub invariant-loop-eight : goal.invariant-loop-eight
invariant-loop-eight l = (length l.rest ≤ length l.s) × (text_run l.s ≡ length l.s - length l.rest + text_run l.rest)

abbrev pub decreases-loop-eight : goal.decreases-loop-eight
decreases-loop-eight l = length l.rest
