-- `steps::answer_step` meets its contract. Assumes nothing.
use mathlib.Core.Path.{refl, ap}
use mathlib.Core.Bool.{true, false}
use mathlib.Core.List.{List, [], ◌∷◌}
use Prim.Native.Nat.{ℕ}
use types.Run.{miss}
use Rattle.seeks.specs.Edited.{sought_by}
use Rattle.steps.specs.Steps.{ask_test}
use Rattle.steps.proofs.Globals.{below-stands, same-only}
use Rattle.steps.proofs.Views.{look-asked}
use Rattle.steps.proofs.Answering.{command-at, after_test, after-command, after-eof, after-begin, after-begin-back, after-round}
use Rattle.steps.proofs.answer_step.Goals as goal

-- the tags of what a search asks
abbrev looks : List ℕ
looks = 6 ∷ 7 ∷ 8 ∷ []

pub test-requires : goal.test-requires
unfolding ask_test
test-requires c = let p = c.requires.0 in (below-stands _ _ _ p.0.6, ((p.0.2, (p.0.0, p.0.5.asks)), p.1), c.in-Holds.is)

pub test-requires-in-HoldsNot : goal.test-requires-in-HoldsNot
unfolding ask_test
test-requires-in-HoldsNot c = let p = c.requires.0 in (below-stands _ _ _ p.0.6, ((p.0.2, (p.0.0, p.0.5.asks)), p.1), c.in-HoldsNot.is)

pub command-requires : goal.command-requires
command-requires c =
    let p = c.requires.0 in
    let y = p.0 in
    ((y.0, y.2, command-at _ _ _ _ y.1 y.2 y.3 y.4 _ c.in-Command.is y.5 y.6.1, y.6), p.1)

pub way_of-requires : goal.way_of-requires
way_of-requires c =
    look-asked _ (λ q. miss looks 0 tt (rw q at c.in-Find.in-Find-own.keys8)) (λ q. miss looks 1 tt (rw q at c.in-Find.in-Find-own.keys8)) (λ q. miss looks 2 tt (rw q at c.in-Find.in-Find-own.keys8))
    (λ q. miss looks 3 tt (rw q at c.in-Find.in-Find-own.keys8)) (λ q. miss looks 4 tt (rw q at c.in-Find.in-Find-own.keys8)) (λ q. miss looks 5 tt (rw q at c.in-Find.in-Find-own.keys8))
    (λ q. miss looks 9 tt (rw q at c.in-Find.in-Find-own.keys8))

pub returns-in-Round : goal.returns-in-Round
returns-in-Round c = record { answers_step = record { keeps = refl; long = refl; seeks = after-round _ _ _ _ _ _ _ _ _ (ap (λ z. sought_by z c.args.ed.now.st) c.once.ensures) refl c.in-Round.is }; only_carried = same-only _ }

pub returns-in-Holds : goal.returns-in-Holds
unfolding ask_test
returns-in-Holds c = record { answers_step = record { keeps = refl; long = refl; seeks = after_test _ _ _ _ _ _ _ _ _ _ _ (ap (λ z. sought_by z c.args.ed.now.st) c.once-in-Holds.ensures) refl true c.in-Holds.is c.test.ensures }; only_carried = same-only _ }

pub returns-in-HoldsNot : goal.returns-in-HoldsNot
unfolding ask_test
returns-in-HoldsNot c = record { answers_step = record { keeps = refl; long = refl; seeks = after_test _ _ _ _ _ _ _ _ _ _ _ (ap (λ z. sought_by z c.args.ed.now.st) c.once-in-HoldsNot.ensures) refl false c.in-HoldsNot.is c.test-in-HoldsNot.ensures }; only_carried = same-only _ }

pub returns-in-AtEof : goal.returns-in-AtEof
returns-in-AtEof c = record { answers_step = record { keeps = refl; long = refl; seeks = after-eof _ _ _ _ _ _ _ _ _ _ _ (ap (λ z. sought_by z c.args.ed.now.st) c.once-in-AtEof.ensures) refl c.in-AtEof.is c.test_eof.ensures }; only_carried = same-only _ }

pub returns-in-Begin : goal.returns-in-Begin
returns-in-Begin c = record { answers_step = record { keeps = refl; long = refl; seeks = after-begin _ _ _ _ _ _ _ _ _ _ _ (ap (λ z. sought_by z c.args.ed.now.st) c.once-in-Begin.ensures) refl c.in-Begin.is c.begin.ensures }; only_carried = same-only _ }

pub returns-in-BeginBack : goal.returns-in-BeginBack
returns-in-BeginBack c = record { answers_step = record { keeps = c.begin_back.ensures.keeps; long = c.begin_back.ensures.long; seeks = after-begin-back _ _ _ _ _ _ _ _ _ _ _ (ap (λ z. sought_by z c.begin_back.new.ed.st) c.once-in-BeginBack.ensures) refl c.in-BeginBack.is c.begin_back.ensures.looks }; only_carried = same-only _ }

pub returns-in-Command : goal.returns-in-Command
returns-in-Command c = let f = c.command.ensures in record { answers_step = record { keeps = f.commanded.keeps; long = f.commanded.long; seeks = after-command _ _ _ _ _ _ _ _ _ _ _ (ap (λ z. sought_by z c.command.new.ed.st) c.once-in-Command.ensures) c.in-Command.is f.commanded.looks }; only_carried = f.only_carried }

pub returns-in-Find : goal.returns-in-Find
returns-in-Find c = record { answers_step = c.search.ensures; only_carried = same-only _ }
