-- A run's answer as five numbers and the bytes of the journal buffer. Assumes nothing.
use mathlib.Core.Path.{◌≡◌, ap}
use mathlib.Core.List.{List, [], ◌∷◌}
use Prim.Native.Nat.{ℕ}
use lib.ListN.{length}
use Rattle.definitions.specs.Run.{Outcome, outcome, outcome_of, outcome_from, answer_number, buffer_after}
use Rattle.run.specs.Answers.{values_of, outcome_with, Ran}
use Rattle.run.specs.declared.values.Values.{Values}
use Rattle.run.specs.declared.Answer.{Answer}
use Rattle.zed.specs.Values.{values, run_of}

-- the parts of an outcome
the_number : Outcome → ℕ
the_number (outcome n s f l p b) = n

the_values : Outcome → List ℕ
the_values (outcome n s f l p b) = n ∷ s ∷ f ∷ l ∷ p ∷ []

the_bytes : Outcome → List ℕ
the_bytes (outcome n s f l p b) = b

-- what `run` answers, handed over
module _ (table script : List ℕ) (budget : ℕ) (work buffer : List ℕ) (r : Answer) (bytes : List ℕ) (ran : Ran table script budget (length work) buffer r bytes) where
  number_is : (values_of r).number ≡ answer_number (run_of table script budget work buffer)
  unfolding run_of outcome_with outcome_of outcome_from the_number
  number_is = ap the_number ran.values

  values-are : (values_of r).number ∷ (values_of r).steps ∷ (values_of r).furthest ∷ (values_of r).length ∷ (values_of r).place ∷ [] ≡ values (run_of table script budget work buffer)
  unfolding run_of outcome_with outcome_of outcome_from the_values values
  values-are = ap the_values ran.values

  bytes-are : bytes ≡ buffer_after buffer (run_of table script budget work buffer)
  unfolding run_of outcome_with outcome_of outcome_from the_bytes
  bytes-are = ap the_bytes ran.values

  pub handed : (v : Values) → v ≡ values_of r
      → (v.number ≡ answer_number (run_of table script budget work buffer))
      × ((v.number ∷ v.steps ∷ v.furthest ∷ v.length ∷ v.place ∷ [] ≡ values (run_of table script budget work buffer))
      × (bytes ≡ buffer_after buffer (run_of table script budget work buffer)))
  handed v q = rw q (number_is, (values-are, bytes-are))
