-- Document 01's values of an answer. Assumes nothing.
use Rattle.std.specs.Prelude.{◌≡◌, List, ℕ, zero, suc, length}
use Rattle.definitions.specs.Journal.{journal_length}
use Rattle.definitions.specs.Run.{Answer as Answered, answer, refusal, run_answer, Outcome, outcome, outcome_from, outcome_of}
use Rattle.answers.specs.declared.Refusal.{Refusal}
use Rattle.answers.specs.Answers.{number_of}
use Rattle.run.specs.declared.values.Values.{Values}
use Rattle.run.specs.declared.Answer.{Answer}
use Rattle.run.specs.declared.Answer.TheVariants.{Done, Stopped, Refused}

-- "A run ends done (0), stopped or refused"; "Refused: .. steps, furthest and length are 0"; "Done .. have place 0"
unfoldable pub values_of : Answer → Values
values_of (Done steps furthest length) = record { number = 0; steps = steps; furthest = furthest; length = length; place = 0 }
values_of (Stopped number steps furthest length place) = record { number = number; steps = steps; furthest = furthest; length = length; place = place }
values_of (Refused number place) = record { number = number; steps = 0; furthest = 0; length = 0; place = place }

-- the five values, and the bytes of the journal buffer
unfoldable pub outcome_with : Values → List ℕ → Outcome
outcome_with v bytes = outcome v.number v.steps v.furthest v.length v.place bytes

-- which case an answer is
unfoldable pub case_of : Answered → Answer
case_of (answer zero steps furthest place j) = Done steps furthest (journal_length j)
case_of (answer (suc n) steps furthest place j) = Stopped (suc n) steps furthest (journal_length j) place
case_of (refusal number place) = Refused number place

-- the refusal that the script's reader gives, with its number and place
unfoldable pub refused_by : Refusal → Answer
refused_by r = Refused (number_of r.fault) r.place

-- the answer r and the bytes of the journal buffer afterwards are those of `a`
pub record Gives (buffer : List ℕ) (a : Answered) (r : Answer) (bytes : List ℕ) : Type 0 where
  pub values : outcome_with (values_of r) bytes ≡ outcome_from buffer a
  pub case : r ≡ case_of a

-- what `run` answers, and the bytes of the journal buffer afterwards: the values are document 01's, and the case says which end it was
pub record Ran (table script : List ℕ) (budget work : ℕ) (buffer : List ℕ) (r : Answer) (bytes : List ℕ) : Type 0 where
  pub values : outcome_with (values_of r) bytes ≡ outcome_of table script budget work buffer
  pub case : r ≡ case_of (run_answer table script budget work (length buffer))
