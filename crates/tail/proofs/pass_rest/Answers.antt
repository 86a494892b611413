use mathlib.Core.Path.{sym, ◌∙◌}
use native.Mathlib.Omega.{arith}
use Rattle.globals.proofs.Standing.{none-stand}
use Rattle.reading.proofs.Stands.{stand-room}
use Rattle.tail.proofs.All.{none_passed, eof-passed, rest-asks, rest-stops, rest-passes}
use Rattle.tail.proofs.pass_rest.Goals as goal

pub none_stands-requires : goal.none_stands-requires
none_stands-requires c = stand-room _ _ c.requires.0.0 c.requires.0.1

pub returns-then-none_stands : goal.returns-then-none_stands
returns-then-none_stands c =
    let none = sym c.none_stands.ensures ∙ c.if-none_stands.true in
    λ e d t stands h. none_passed _ e d t (none-stand _ _ d none stands) h

pub returns-then-st : goal.returns-then-st
returns-then-st c = λ e d t stands h. eof-passed _ e d t h c.if-st.true

pub measure-requires : goal.measure-requires
measure-requires c =
    let more = c.if-st.false in
    (c.requires.0, (rest-asks c.to_source-first.ensures (omega arith) c.requires.1.0 c.requires.1.1 c.requires.1.2).0)

pub returns-in-Err : goal.returns-in-Err
returns-in-Err c =
    let more = c.if-st.false in
    rest-stops c.to_source-first.ensures (omega arith) c.to_source-first.auto.j _ _ _ c.measure.ensures _ c.in-Err.is

pub read_lines-requires : goal.read_lines-requires
read_lines-requires c =
    let more = c.if-st.false in
    let w = rest-asks c.to_source-first.ensures (omega arith) c.requires.1.0 c.requires.1.1 c.requires.1.2 in
    (c.requires.0, w.0, w.1)

pub returns-in-Ok : goal.returns-in-Ok
returns-in-Ok c =
    let more = c.if-st.false in
    rest-passes c.to_source-first.ensures (omega arith) c.to_source-first.auto.j _ _ _ c.measure.ensures _ c.in-Ok.is _ _ c.read_lines.ensures
