use native.Mathlib.Omega.{arith}
use mathlib.Core.List.{map}
use Rattle.definitions.specs.Journal.{kept}
use Rattle.reading.proofs.Line.{some-kept, unread-passable, line-long, line-asks, line-takes}
use Rattle.reading.proofs.lines.read_line.Goals as goal

pub pass_text-left-requires : goal.pass_text-left-requires
pass_text-left-requires c = (c.requires.0, some-kept c.requires.1.1 c.requires.1.2 c.requires.2, omega arith)

pub pass_record-s-requires : goal.pass_record-s-requires
pass_record-s-requires c =
    let w = unread-passable c.requires.1.1 c.requires.1.2 c.requires.2 in
    (w.0, kept w.1, map kept w.2, w.3)

pub take_text-requires : goal.take_text-requires
take_text-requires c = line-asks _ _ _ _ c.pass_text-left.ensures c.pass_record-s.ensures c.in-Ok.is c.requires.0 c.requires.1 c.requires.2 c.pass_text-left.auto.line

pub returns-in-Err : goal.returns-in-Err
returns-in-Err c = line-long _ _ _ _ c.pass_text-left.ensures c.pass_record-s.ensures c.in-Err.is

pub returns-in-Ok : goal.returns-in-Ok
returns-in-Ok c = line-takes _ _ _ _ c.pass_text-left.ensures c.pass_record-s.ensures c.in-Ok.is _ _ c.pass_record-s.auto.j c.take_text.ensures
