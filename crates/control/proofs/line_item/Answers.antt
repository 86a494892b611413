use Rattle.control.proofs.Failing.{outside, line-end, line_plain}
use Rattle.control.proofs.Classes.{readable}
use mathlib.Core.List.{[]}
use Rattle.items.proofs.Reading.{seen_as}
use Rattle.control.proofs.Moving.{lines_end, lines-plain}
use Rattle.control.proofs.line_item.Goals as goal

pub here-seen-requires : goal.here-seen-requires
here-seen-requires c = let p = c.requires in readable p.0 _ p.1 _ 0 p.2 [] p.3 p.5 (outside p.0 _ p.1 _ p.2 p.3 p.4)

pub returns-in-LineEnd : goal.returns-in-LineEnd
returns-in-LineEnd c = ((λ s end d items h less. line-end _ _ _ _ (seen_as _ _ _ c.here-seen.ensures) _ s end d items h less c.stand.ensures c.in-LineEnd.is), lines_end _ _ c.here-seen.ensures _ c.in-LineEnd.is c.stand.ensures)

pub returns-in_default : goal.returns-in_default
returns-in_default c = ((λ s end d items h less. line_plain _ _ _ _ (seen_as _ _ _ c.here-seen.ensures) _ s end d items h less c.stand-in_default.ensures c.in_default.not-LineEnd), lines-plain _ _ c.here-seen.ensures _ c.in_default.not-LineEnd c.stand-in_default.ensures)
