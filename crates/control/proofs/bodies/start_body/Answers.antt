use Rattle.control.proofs.Starting.{opening-in, opening-two, opening-few, start_none, start-times, start-round, start-branch, start_loop}
use Rattle.control.proofs.Standing.{kept-none, kept-written}
use Rattle.items.specs.Ends.{way_by}
use mathlib.Core.Path.{◌∙◌, refl, sym, ap}
use native.Mathlib.Omega.{arith}
use Rattle.control.proofs.Moving.{is-as, opens-none, opens-times, opens-branch, opens-loop, opens-round}
use Rattle.control.proofs.bodies.start_body.Goals as goal

pub kind_of-kind-requires : goal.kind_of-kind-requires
kind_of-kind-requires c = let p = c.requires in omega (arith, opening-in p.0 _ _ _ _ _ p.1 p.2 p.3 p.4 p.5)

pub place_of-place-requires : goal.place_of-place-requires
place_of-place-requires c = let p = c.requires in omega (arith, opening-in p.0 _ _ _ _ _ p.1 p.2 p.3 p.4 p.5)

pub overflow_add-depth : goal.overflow_add-depth
overflow_add-depth c = let p = c.requires in omega (arith, opening-in p.0 _ _ _ _ _ p.1 p.2 p.3 p.4 p.5)

pub times_at-n-requires : goal.times_at-n-requires
times_at-n-requires c = let p = c.requires in (omega (arith, opening-in p.0 _ _ _ _ _ p.1 p.2 p.3 p.4 p.5), opening-two p.0 _ _ _ _ _ p.1 p.2 p.3 p.4 p.5 (ap way_by (sym c.kind_of-kind.ensures) ∙ sym c.way_of.ensures ∙ c.in-Counting.is))

pub returns-else-n-gt0 : goal.returns-else-n-gt0
returns-else-n-gt0 c = (kept-none _ _, (λ s place o items frames h. start_none _ _ _ _ _ _ _ c.kind_of-kind.ensures c.way_of.ensures _ s place _ c.times_at-n.ensures (omega (arith, c.if-n-gt0.false)) c.in-Counting.is _ c.stand.ensures refl o items frames h), is-as _ _ _ _ _ (opens-none _ _ _ _ _ _ _ c.kind_of-kind.ensures c.way_of.ensures c.in-Counting.is _ c.times_at-n.ensures (omega (arith, c.if-n-gt0.false)) _ c.stand.ensures) refl refl)

pub push-requires : goal.push-requires
push-requires c = let p = c.requires in omega (arith, opening-in p.0 _ _ _ _ _ p.1 p.2 p.3 p.4 p.5, opening-few p.0 _ _ _ _ _ p.1 p.2 p.3 p.4 p.5 (ap way_by (sym c.kind_of-kind.ensures) ∙ sym c.way_of.ensures ∙ c.in-Counting.is) _ c.times_at-n.ensures)

pub returns-then-n-gt0 : goal.returns-then-n-gt0
returns-then-n-gt0 c = (kept-written _ _ _ _ _ c.push.ensures (omega arith) (let p = c.requires in omega (arith, opening-in p.0 _ _ _ _ _ p.1 p.2 p.3 p.4 p.5)), (λ s place o items frames h. start-times _ _ _ _ _ _ _ c.kind_of-kind.ensures c.way_of.ensures _ s place _ _ c.push.ensures _ c.place_of-place.ensures _ c.stand-yes.ensures _ c.times_at-n.ensures (λ z. omega (arith, z, c.if-n-gt0.true)) refl c.in-Counting.is c.wants.ensures o items frames h), is-as _ _ _ _ _ (opens-times _ _ _ _ _ _ _ c.kind_of-kind.ensures c.way_of.ensures _ c.place_of-place.ensures _ c.stand-yes.ensures c.in-Counting.is _ c.times_at-n.ensures (λ z. omega (arith, z, c.if-n-gt0.true))) c.wants.ensures c.push.ensures)

pub push-requires-in-Branching : goal.push-requires-in-Branching
push-requires-in-Branching c = let p = c.requires in omega (arith, opening-in p.0 _ _ _ _ _ p.1 p.2 p.3 p.4 p.5)

pub push-requires-in-Looping : goal.push-requires-in-Looping
push-requires-in-Looping c = let p = c.requires in omega (arith, opening-in p.0 _ _ _ _ _ p.1 p.2 p.3 p.4 p.5)

pub push-requires-in_default : goal.push-requires-in_default
push-requires-in_default c = let p = c.requires in omega (arith, opening-in p.0 _ _ _ _ _ p.1 p.2 p.3 p.4 p.5)

pub returns-in-Branching : goal.returns-in-Branching
returns-in-Branching c = (kept-written _ _ _ _ _ c.push-in-Branching.ensures (omega arith) (let p = c.requires in omega (arith, opening-in p.0 _ _ _ _ _ p.1 p.2 p.3 p.4 p.5)), (λ s place o items frames h. start-branch _ _ _ _ _ _ _ c.kind_of-kind.ensures c.way_of.ensures _ s place _ 0 c.push-in-Branching.ensures _ c.place_of-place.ensures _ c.stand-yes.ensures _ _ c.wants-in-Branching.ensures c.in-Branching.is c.test_of.ensures c.stand-no.ensures o items frames h), is-as _ _ _ _ _ (opens-branch _ _ _ _ _ _ _ c.kind_of-kind.ensures c.way_of.ensures _ c.place_of-place.ensures _ c.stand-yes.ensures _ c.test_of.ensures _ c.in-Branching.is c.stand-no.ensures) c.wants-in-Branching.ensures c.push-in-Branching.ensures)

pub returns-in-Looping : goal.returns-in-Looping
returns-in-Looping c = (kept-written _ _ _ _ _ c.push-in-Looping.ensures (omega arith) (let p = c.requires in omega (arith, opening-in p.0 _ _ _ _ _ p.1 p.2 p.3 p.4 p.5)), (λ s place o items frames h. start_loop _ _ _ _ _ _ _ c.kind_of-kind.ensures c.way_of.ensures _ s place _ 0 c.push-in-Looping.ensures _ c.place_of-place.ensures _ c.stand-yes.ensures _ _ c.wants-in-Looping.ensures c.in-Looping.is c.test_of-in-Looping.ensures c.stand-no-in-Looping.ensures o items frames h), is-as _ _ _ _ _ (opens-loop _ _ _ _ _ _ _ c.kind_of-kind.ensures c.way_of.ensures _ c.place_of-place.ensures _ c.stand-yes.ensures _ c.test_of-in-Looping.ensures _ c.in-Looping.is c.stand-no-in-Looping.ensures) c.wants-in-Looping.ensures c.push-in-Looping.ensures)

pub returns-in_default : goal.returns-in_default
returns-in_default c = (kept-written _ _ _ _ _ c.push-in_default.ensures (omega arith) (let p = c.requires in omega (arith, opening-in p.0 _ _ _ _ _ p.1 p.2 p.3 p.4 p.5)), (λ s place o items frames h. start-round _ _ _ _ _ _ _ c.kind_of-kind.ensures c.way_of.ensures _ s place _ 0 c.push-in_default.ensures _ c.place_of-place.ensures _ c.stand-yes.ensures c.in_default.not-Counting c.in_default.not-Branching c.in_default.not-Looping c.wants-in_default.ensures o items frames h), is-as _ _ _ _ _ (opens-round _ _ _ _ _ _ _ c.kind_of-kind.ensures c.way_of.ensures _ c.place_of-place.ensures _ c.stand-yes.ensures c.in_default.not-Counting c.in_default.not-Branching c.in_default.not-Looping) c.wants-in_default.ensures c.push-in_default.ensures)
