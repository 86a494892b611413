use Rattle.globals.proofs.Occurrences.{plain-formed, is_at, is-nowhere}
use native.Mathlib.Omega.{arith}
use Rattle.globals.proofs.one.next_place.Goals as goal

pub find-found-requires : goal.find-found-requires
find-found-requires c =
    let pre = c.requires in
    (omega arith, pre.0, plain-formed _ c.no_qualifiers.ensures _, pre.1, pre.2)

pub returns-in-Some : goal.returns-in-Some
returns-in-Some c = is_at _ _ _ _ _ _ c.no_qualifiers.ensures c.find-found.ensures _ c.in-Some.is

pub returns-in-None : goal.returns-in-None
returns-in-None c = is-nowhere _ _ _ _ _ _ c.no_qualifiers.ensures c.find-found.ensures c.in-None.is
