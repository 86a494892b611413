use Rattle.control.proofs.Groups.{run_none, run-bracket, run-else, run-closing, run-close}
use Rattle.control.proofs.Running.{as-entered, run-opening, run-leaving, run-opens, run-seek, run-simple, run-leave, run-line}
use Rattle.control.proofs.Classes.{readable, close-left}
use Rattle.control.proofs.Standing.{kept-none}
use mathlib.Core.Path.{refl}
use Rattle.items.proofs.Reading.{seen_as}
use Rattle.control.proofs.Moving.{is-as, is_same, ran-opens, ran-search, ran-simple, ran-leave, ran_line, ran-none, ran-bracket, ran-else, ran-close}
use Rattle.control.proofs.run_item.Goals as goal

pub here-seen-requires : goal.here-seen-requires
here-seen-requires c = let p = c.requires.0 in readable p.0 _ _ _ _ _ _ p.1 c.requires.1 p.3

pub start_body-requires : goal.start_body-requires
start_body-requires c = let p = c.requires.0 in run-opening _ _ _ _ _ _ (seen_as _ _ _ c.here-seen.ensures) c.requires.1 p.0 p.1 _ p.3 c.in-Opens.is

pub returns-in-Opens : goal.returns-in-Opens
returns-in-Opens c = (c.start_body.ensures.0, (λ s items frames h. as-entered s _ _ _ _ items frames (run-opens _ _ _ _ _ _ (seen_as _ _ _ c.here-seen.ensures) c.requires.1 s items _ h _ _ c.in-Opens.is c.start_body.ensures.1)), is_same _ _ _ _ (ran-opens _ _ c.here-seen.ensures _ _ _ _ c.in-Opens.is) c.start_body.ensures.2)

pub returns-in-Seeks : goal.returns-in-Seeks
returns-in-Seeks c = (kept-none _ _, (λ s items frames h. as-entered s _ _ _ _ items frames (run-seek _ _ _ _ _ _ (seen_as _ _ _ c.here-seen.ensures) c.requires.1 s items _ h _ c.in-Seeks.is c.begin_search.ensures)), is-as _ _ _ _ _ (ran-search _ _ c.here-seen.ensures _ _ _ _ c.in-Seeks.is) c.begin_search.ensures refl)

pub returns-in-Simple : goal.returns-in-Simple
returns-in-Simple c = (kept-none _ _, (λ s items frames h. as-entered s _ _ _ _ items frames (run-simple _ _ _ _ _ _ (seen_as _ _ _ c.here-seen.ensures) c.requires.1 s items _ h _ _ c.place_of.ensures _ c.in-Simple.is c.stand-on.ensures c.wants.ensures)), is-as _ _ _ _ _ (ran-simple _ _ c.here-seen.ensures _ _ _ _ _ c.place_of.ensures _ c.in-Simple.is c.stand-on.ensures) c.wants.ensures refl)

pub leave_to-on-requires : goal.leave_to-on-requires
leave_to-on-requires c = let p = c.requires.0 in run-leaving _ _ _ _ _ _ (seen_as _ _ _ c.here-seen.ensures) c.requires.1 p.0 p.1 _ p.3 c.in-Agp.is

pub returns-in-Agp : goal.returns-in-Agp
returns-in-Agp c = (kept-none _ _, (λ s items frames h. as-entered s _ _ _ _ items frames (run-leave _ _ _ _ _ _ (seen_as _ _ _ c.here-seen.ensures) c.requires.1 s items _ h _ _ c.place_of-in-Agp.ensures _ c.in-Agp.is c.leave_to-on.ensures.0 c.wants-in-Agp.ensures)), is-as _ _ _ _ _ (ran-leave _ _ c.here-seen.ensures _ _ _ _ _ c.place_of-in-Agp.ensures _ c.in-Agp.is c.leave_to-on.ensures.1) c.wants-in-Agp.ensures refl)

pub returns-in-LineEnd : goal.returns-in-LineEnd
returns-in-LineEnd c = (kept-none _ _, (λ s items frames h. as-entered s _ _ _ _ items frames (run-line _ _ _ _ _ _ (seen_as _ _ _ c.here-seen.ensures) c.requires.1 s items _ h _ c.in-LineEnd.is _ c.stand.ensures refl)), is-as _ _ _ _ _ (ran_line _ _ c.here-seen.ensures _ _ _ _ c.in-LineEnd.is _ c.stand.ensures) refl refl)

pub returns-then-depth-eq0 : goal.returns-then-depth-eq0
returns-then-depth-eq0 c = (kept-none _ _, (λ s items frames h. as-entered s _ _ _ _ items frames (run_none _ _ _ _ _ _ (seen_as _ _ _ c.here-seen.ensures) c.requires.1 s items _ c.if-depth-eq0.true c.in_default.not-Opens c.in_default.not-Seeks c.in_default.not-Simple c.in_default.not-Agp c.in_default.not-LineEnd refl _ h)), is-as _ _ _ _ _ (ran-none _ _ c.here-seen.ensures _ _ _ _ c.if-depth-eq0.true c.in_default.not-Opens c.in_default.not-Seeks c.in_default.not-Simple c.in_default.not-Agp c.in_default.not-LineEnd) refl refl)

pub returns-in-Bracket : goal.returns-in-Bracket
returns-in-Bracket c = (kept-none _ _, (λ s items frames h. run-bracket _ _ _ _ _ _ (seen_as _ _ _ c.here-seen.ensures) c.requires.1 s items _ c.if-depth-eq0.false c.in-Bracket.is _ c.stand-in-Bracket.ensures refl frames h), is-as _ _ _ _ _ (ran-bracket _ _ c.here-seen.ensures _ _ _ _ c.if-depth-eq0.false c.in-Bracket.is _ c.stand-in-Bracket.ensures) refl refl)

pub returns-in-Else : goal.returns-in-Else
returns-in-Else c = (kept-none _ _, (λ s items frames h. as-entered s _ _ _ _ items frames (run-else _ _ _ _ _ _ (seen_as _ _ _ c.here-seen.ensures) c.requires.1 s items _ c.if-depth-eq0.false c.in-Else.is _ c.stand-in-Else.ensures refl _ h)), is-as _ _ _ _ _ (ran-else _ _ c.here-seen.ensures _ _ _ _ c.if-depth-eq0.false c.in-Else.is _ c.stand-in-Else.ensures) refl refl)

pub end_body-requires : goal.end_body-requires
end_body-requires c = let p = c.requires.0 in run-closing _ _ _ _ _ _ (seen_as _ _ _ c.here-seen.ensures) c.requires.1 p.0 p.1 c.if-depth-eq0.false (close-left _ c.in_default.not-Opens c.in_default.not-Seeks c.in_default.not-Simple c.in_default.not-Agp c.in_default.not-LineEnd c.in_default-class.not-Bracket c.in_default-class.not-Else) _ p.3

pub returns-in_default-class : goal.returns-in_default-class
returns-in_default-class c = (c.end_body.ensures.0, (λ s items frames h. as-entered s _ _ _ _ items frames (run-close _ _ _ _ _ _ (seen_as _ _ _ c.here-seen.ensures) c.requires.1 s items c.if-depth-eq0.false (close-left _ c.in_default.not-Opens c.in_default.not-Seeks c.in_default.not-Simple c.in_default.not-Agp c.in_default.not-LineEnd c.in_default-class.not-Bracket c.in_default-class.not-Else) _ h _ _ c.end_body.ensures.1)), is_same _ _ _ _ (ran-close _ _ c.here-seen.ensures _ _ _ _ c.if-depth-eq0.false (close-left _ c.in_default.not-Opens c.in_default.not-Seeks c.in_default.not-Simple c.in_default.not-Agp c.in_default.not-LineEnd c.in_default-class.not-Bracket c.in_default-class.not-Else)) c.end_body.ensures.2)
