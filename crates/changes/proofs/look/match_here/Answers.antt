use native.Mathlib.Omega.{arith}
use Rattle.text.proofs.Parts.{part_length}
use Rattle.changes.proofs.Looking.{line-fits, finds-eof, finds-none, finds-on}
use Rattle.changes.proofs.look.match_here.Goals as goal

pub returns-then-ed : goal.returns-then-ed
returns-then-ed c = finds-eof _ _ _ _ _ c.if-ed.true

pub current_line-line-requires : goal.current_line-line-requires
current_line-line-requires c = let w = c.requires.1 in
    ((w.0, w.1, w.2.shows, w.2.old), c.if-ed.false)

pub find-found-requires : goal.find-found-requires
find-found-requires c = let w = c.requires in
    let fits = line-fits c.if-ed.false _ c.current_line-line.ensures w.1 in
    (w.0, fits.0, w.5, fits.1, omega (arith, part_length c.args.script.now c.args.from c.args.to w.3, w.4))

pub returns-in-Some : goal.returns-in-Some
returns-in-Some c = finds-on _ _ _ _ _ c.if-ed.false _ c.current_line-line.ensures _ c.find-found.ensures _ c.in-Some.is

pub returns-in-None : goal.returns-in-None
returns-in-None c = finds-none _ _ _ _ _ c.if-ed.false _ c.current_line-line.ensures _ c.find-found.ensures c.in-None.is
