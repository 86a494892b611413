-- `text::feeds::line_start`: the bytes that are left are the first ones, and the line of place k begins where theirs does.
use Rattle.std.proofs.Common.{◌≡◌, ◌≤◌, length, take}
use Rattle.text.specs.Feeds.{line_start}
use Rattle.text.proofs.feeds.line_start.Given as goal

abbrev pub invariant-loop-front : goal.invariant-loop-front
invariant-loop-front l = (length l.rest ≤ l.k) × (l.rest ≡ take (length l.rest) l.s) × (line_start l.s l.k ≡ line_start l.s (length l.rest))

abbrev pub decreases-loop-front : goal.decreases-loop-front
decreases-loop-front l = length l.rest
