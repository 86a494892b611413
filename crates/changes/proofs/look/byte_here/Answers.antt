use Rattle.changes.proofs.Looking.{sights-eof, sights-end, sights-on}
use Rattle.changes.proofs.look.byte_here.Goals as goal

pub returns-then-at-j : goal.returns-then-at-j
returns-then-at-j c = sights-eof _ _ _ c.if-at-j.true

pub current_line-line-requires : goal.current_line-line-requires
current_line-line-requires c = let w = c.requires in
    ((w.0, w.1, w.2.shows, w.2.old), c.if-at-j.false)

pub returns-then-p-line : goal.returns-then-p-line
returns-then-p-line c = sights-end _ _ _ c.if-at-j.false _ c.current_line-line.ensures c.if-p-line.true

pub returns : goal.returns
returns c = sights-on _ _ _ c.if-at-j.false _ c.current_line-line.ensures c.if-p-line.false
