use Rattle.control.proofs.Again.{end-last, end-once, again-times, again-forever, again-loop}
use Rattle.control.proofs.Ending.{item_in, item-two, closing-in, closing-top}
use Rattle.control.proofs.Standing.{kept-none, kept_set}
use mathlib.Core.Path.{refl}
use native.Mathlib.Omega.{arith}
use Rattle.control.proofs.Moving.{is-as, closes-last, closes-times, closes-forever, closes-loop, closes-once}
use Rattle.control.proofs.bodies.end_body.Goals as goal

pub overflow_add-j : goal.overflow_add-j
overflow_add-j c = let p = c.requires in omega (arith, closing-in p.0 _ _ p.1 _ _ p.2 p.3 p.4 p.5 p.6 p.7 p.8)

pub offset_bounds-w-j : goal.offset_bounds-w-j
offset_bounds-w-j c = let p = c.requires in omega (arith, closing-in p.0 _ _ p.1 _ _ p.2 p.3 p.4 p.5 p.6 p.7 p.8)

pub bounds-w-j : goal.bounds-w-j
bounds-w-j c = let p = c.requires in omega (arith, closing-in p.0 _ _ p.1 _ _ p.2 p.3 p.4 p.5 p.6 p.7 p.8)

pub end_of-start-requires : goal.end_of-start-requires
end_of-start-requires c = let p = c.requires in (item_in p.0 _ _ _ _ p.3 p.4 p.5 p.6 (closing-top p.0 _ _ p.1 _ _ p.2 p.3 p.4 p.5 p.6 p.7 p.8), item-two p.0 _ _ _ _ p.3 p.4 p.5 p.6 (closing-top p.0 _ _ p.1 _ _ p.2 p.3 p.4 p.5 p.6 p.7 p.8) _ c.kind_of-kind.ensures)

pub returns-then-left-eq0 : goal.returns-then-left-eq0
returns-then-left-eq0 c = (kept-none _ _, (λ s at items g place o body frames h. end-last _ _ _ _ _ _ _ _ refl refl c.kind_of-kind.ensures c.way_of.ensures _ s at items g place _ c.stand-out.ensures refl o body frames h c.in-Counting.is _ refl c.if-left-eq0.true), is-as _ _ _ _ _ (closes-last _ _ _ _ _ _ c.kind_of-kind.ensures c.way_of.ensures _ c.stand-out.ensures c.in-Counting.is c.if-left-eq0.true) refl refl)

pub returns-else-left-eq0 : goal.returns-else-left-eq0
returns-else-left-eq0 c = (kept_set _ _ _ _ (omega arith) (let p = c.requires in omega (arith, closing-in p.0 _ _ p.1 _ _ p.2 p.3 p.4 p.5 p.6 p.7 p.8)), (λ s at items g place o body frames h. again-times _ _ _ _ _ _ _ _ refl refl c.kind_of-kind.ensures c.way_of.ensures _ s at items g place _ c.end_of-start.ensures _ c.stand-again.ensures _ c.place_of-place.ensures c.in-Counting.is _ refl c.if-left-eq0.false _ refl c.wants.ensures o body frames h), is-as _ _ _ _ _ (closes-times _ _ _ _ _ _ c.kind_of-kind.ensures c.way_of.ensures _ c.stand-out.ensures _ c.place_of-place.ensures _ c.end_of-start.ensures _ c.stand-again.ensures c.in-Counting.is c.if-left-eq0.false) c.wants.ensures refl)

pub returns-in-Repeating : goal.returns-in-Repeating
returns-in-Repeating c = (kept-none _ _, (λ s at items g place o body frames h. again-forever _ _ _ _ _ _ _ _ refl refl c.kind_of-kind.ensures c.way_of.ensures _ s at items g place _ c.end_of-start.ensures _ c.stand-again.ensures _ c.place_of-place.ensures c.in-Repeating.is c.wants-in-Repeating.ensures o body frames h), is-as _ _ _ _ _ (closes-forever _ _ _ _ _ _ c.kind_of-kind.ensures c.way_of.ensures _ c.stand-out.ensures _ c.place_of-place.ensures _ c.end_of-start.ensures _ c.stand-again.ensures c.in-Repeating.is) c.wants-in-Repeating.ensures refl)

pub returns-in-Looping : goal.returns-in-Looping
returns-in-Looping c = (kept-none _ _, (λ s at items g place o body frames h. again-loop _ _ _ _ _ _ _ _ refl refl c.kind_of-kind.ensures c.way_of.ensures _ s at items g place _ c.end_of-start.ensures _ c.stand-again.ensures _ c.place_of-place.ensures c.in-Looping.is _ c.test_of.ensures _ c.stand-out.ensures c.wants-in-Looping.ensures o body frames h), is-as _ _ _ _ _ (closes-loop _ _ _ _ _ _ c.kind_of-kind.ensures c.way_of.ensures _ c.stand-out.ensures _ c.place_of-place.ensures _ c.end_of-start.ensures _ c.stand-again.ensures c.in-Looping.is _ c.test_of.ensures) c.wants-in-Looping.ensures refl)

pub returns-in_default : goal.returns-in_default
returns-in_default c = (kept-none _ _, (λ s at items g place o body frames h. end-once _ _ _ _ _ _ _ _ refl refl c.kind_of-kind.ensures c.way_of.ensures _ s at items g place _ c.stand-out.ensures refl o body frames h c.in_default.not-Counting c.in_default.not-Repeating c.in_default.not-Looping), is-as _ _ _ _ _ (closes-once _ _ _ _ _ _ c.kind_of-kind.ensures c.way_of.ensures _ c.stand-out.ensures c.in_default.not-Counting c.in_default.not-Repeating c.in_default.not-Looping) refl refl)
