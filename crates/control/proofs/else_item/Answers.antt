use mathlib.Core.Path.{refl}
use Rattle.control.proofs.Failing.{else-opens, else-last, else-close, else-group, else-inner, else-plain}
use Rattle.control.proofs.Standing.{stands-in, kept-none, kept-written}
use Rattle.control.proofs.Classes.{readable}
use native.Mathlib.Omega.{arith}
use Rattle.items.proofs.Reading.{seen_as}
use Rattle.control.proofs.Moving.{is-as, fails-opens, fails-last, fails-close, fails-group, fails-inner, fails-plain}
use Rattle.control.proofs.else_item.Goals as goal

pub here-seen-requires : goal.here-seen-requires
here-seen-requires c = let p = c.requires.0 in readable p.0 _ _ _ _ _ p.2 p.1 c.requires.1 p.3

pub overflow_add-count : goal.overflow_add-count
overflow_add-count c = let p = c.requires.0 in omega (arith, stands-in p.0 _ _ _ _ p.1 p.3.stands)

pub returns-in-Opens : goal.returns-in-Opens
returns-in-Opens c = (kept-none _ _, (λ s items frames h. else-opens _ _ _ _ _ _ _ (seen_as _ _ _ c.here-seen.ensures) c.requires.1 _ c.requires.2 s items frames h c.stand.ensures c.in-Opens.is), is-as _ _ _ _ _ (fails-opens _ _ c.here-seen.ensures _ _ _ _ _ c.in-Opens.is) c.stand.ensures refl)

pub returns-then-count-eq1 : goal.returns-then-count-eq1
returns-then-count-eq1 c = (kept-none _ _, (λ s items frames h. else-last _ _ _ _ _ _ _ (seen_as _ _ _ c.here-seen.ensures) c.requires.1 _ c.requires.2 s items frames h c.stand-then-count-eq1.ensures c.in-Close.is c.if-count-eq1.true), is-as _ _ _ _ _ (fails-last _ _ c.here-seen.ensures _ _ _ _ _ c.in-Close.is c.if-count-eq1.true) c.stand-then-count-eq1.ensures refl)

pub returns-else-count-eq1 : goal.returns-else-count-eq1
returns-else-count-eq1 c = (kept-none _ _, (λ s items frames h. else-close _ _ _ _ _ _ _ (seen_as _ _ _ c.here-seen.ensures) c.requires.1 _ c.requires.2 s items frames h c.stand-in-Close.ensures c.in-Close.is c.if-count-eq1.false), is-as _ _ _ _ _ (fails-close _ _ c.here-seen.ensures _ _ _ _ _ c.in-Close.is c.if-count-eq1.false) c.stand-in-Close.ensures refl)

pub push-requires : goal.push-requires
push-requires c = let p = c.requires.0 in let i = stands-in p.0 _ _ _ _ p.1 p.3.stands in omega (arith, i, c.requires.1, c.requires.2)

pub overflow_add-depth : goal.overflow_add-depth
overflow_add-depth c = let p = c.requires.0 in omega (arith, stands-in p.0 _ _ _ _ p.1 p.3.stands)

pub returns-then-count-eq1-2 : goal.returns-then-count-eq1-2
returns-then-count-eq1-2 c = (kept-written _ _ _ _ _ c.push.ensures (omega arith) (let p = c.requires.0 in omega (arith, stands-in p.0 _ _ _ _ p.1 p.3.stands)), (λ s items frames h. else-group _ _ _ _ _ _ _ (seen_as _ _ _ c.here-seen.ensures) c.requires.1 _ c.requires.2 s items frames h _ c.push.ensures c.stand-then-count-eq1-2.ensures c.in-Else.is c.if-count-eq1-2.true), is-as _ _ _ _ _ (fails-group _ _ c.here-seen.ensures _ _ _ _ _ c.in-Else.is c.if-count-eq1-2.true) c.stand-then-count-eq1-2.ensures c.push.ensures)

pub returns-else-count-eq1-2 : goal.returns-else-count-eq1-2
returns-else-count-eq1-2 c = (kept-none _ _, (λ s items frames h. else-inner _ _ _ _ _ _ _ (seen_as _ _ _ c.here-seen.ensures) c.requires.1 _ c.requires.2 s items frames h c.stand-in-Else.ensures c.in-Else.is c.if-count-eq1-2.false), is-as _ _ _ _ _ (fails-inner _ _ c.here-seen.ensures _ _ _ _ _ c.in-Else.is c.if-count-eq1-2.false) c.stand-in-Else.ensures refl)

pub returns-in_default : goal.returns-in_default
returns-in_default c = (kept-none _ _, (λ s items frames h. else-plain _ _ _ _ _ _ _ (seen_as _ _ _ c.here-seen.ensures) c.requires.1 _ c.requires.2 s items frames h c.stand-in_default.ensures c.in_default.not-Opens c.in_default.not-Close c.in_default.not-Else), is-as _ _ _ _ _ (fails-plain _ _ c.here-seen.ensures _ _ _ _ _ c.in_default.not-Opens c.in_default.not-Close c.in_default.not-Else) c.stand-in_default.ensures refl)
