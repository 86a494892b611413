-- Demand 3 of the function `run`: its contract, and demand 3 of the values that a caller sees. Assumes nothing.
use mathlib.Core.Path.{◌≡◌, refl, sym, ◌∙◌}
use mathlib.Core.List.{List}
use Prim.Native.Nat.{ℕ}
use Rattle.definitions.specs.Run.{Answer as Answered, answer, refusal, answer_records, outcome_of}
use Rattle.theorems.specs.Demand3.{IsAccepted}
use Rattle.theorems.proofs.Demand3Values.{Call, defined, IsRun, holds, read-journal, journal-fits, past-journal, rest-after, rest-passes, ComparedCall, calls-agree}
use Rattle.run.specs.Answers.{values_of, outcome_with, case_of, Ran}
use Rattle.run.specs.Demand3.{Accepted, Compared, DemandThree}
use Rattle.run.specs.declared.Answer.{Answer}

-- a call that is accepted is accepted by the definitions
accepted-case : (a : Answered) (r : Answer) → r ≡ case_of a → Accepted r → IsAccepted a
unfolding case_of Accepted IsAccepted
accepted-case (answer n steps f at j) r q h = tt
accepted-case (refusal n at) r q h = rw q at h

module _ (table script : List ℕ) (budget work : ℕ) (buffer : List ℕ) (r : Answer) (bytes : List ℕ) where
  abbrev call : Call
  call = record {
    table = table;
    script = script;
    budget = budget;
    work = work;
    buffer = buffer;
    number = (values_of r).number;
    steps = (values_of r).steps;
    furthest = (values_of r).furthest;
    long = (values_of r).length;
    place = (values_of r).place;
    bytes = bytes;
  }

  is-run : Ran table script budget work buffer r bytes → IsRun call
  unfolding outcome_of outcome_with
  is-run ran = ran.values

  is-accepted : Ran table script budget work buffer r bytes → Accepted r → IsAccepted (defined call)
  is-accepted ran accepted = accepted-case (defined call) r ran.case accepted

  -- a call that is compared
  compared : Compared script r → ComparedCall call
  compared h = record { not_full = h.not_full; not_after = h.not_after }

-- THE LAW: demand 3 holds of every accepted call of `run`
pub run-demand3 : DemandThree
run-demand3 table script budget work buffer r bytes ran accepted =
    let c : Call = call table script budget work buffer r bytes in
    let run : IsRun c = is-run table script budget work buffer r bytes ran in
    let taken : IsAccepted (defined c) = is-accepted table script budget work buffer r bytes ran accepted in
    record {
      journal = answer_records (defined c);
      read = read-journal c run taken;
      fits = journal-fits c run taken;
      past = past-journal c run taken;
      old = (holds c run taken).old;
      old-bytes = (holds c run taken).old-bytes;
      arranged = (holds c run taken).arranged;
      after = record { rest = rest-after c run taken; passed = rest-passes c run taken };
      agreeing = λ table₂ work₂ buffer₂ r₂ bytes₂ j₂ ran₂ accepted₂ read agree h h₂.
          let s =
          calls-agree c run taken (call table₂ script budget work₂ buffer₂ r₂ bytes₂) (is-run table₂ script budget work₂ buffer₂ r₂ bytes₂ ran₂)
          (is-accepted table₂ script budget work₂ buffer₂ r₂ bytes₂ ran₂ accepted₂) refl refl j₂ read agree (compared table script budget work buffer r bytes h) (compared table₂ script budget work₂ buffer₂ r₂ bytes₂ h₂) in (
            record { number = s.number; place = s.place; steps = s.steps; furthest = s.furthest; journal = s.journal },
            record { rest = rw s.number s.after; passed = λ q. s.passed (sym s.number ∙ q) },
          );
    }
