-- The numbers that a run hands to a C program.
use Rattle.std.specs.Prelude.{List, [], ◌∷◌, ℕ, length}
use Rattle.definitions.specs.Run.{Answer, run_answer, answer_number, answer_steps, answer_furthest, answer_length, answer_place}

-- "The answer gives number, steps, furthest, the journal's length and place"
unfoldable pub values : Answer → List ℕ
values a = answer_number a ∷ answer_steps a ∷ answer_furthest a ∷ answer_length a ∷ answer_place a ∷ []

-- the answer of a run of the script on the table, with a work area and a journal buffer as they are lent
unfoldable pub run_of : List ℕ → List ℕ → ℕ → List ℕ → List ℕ → Answer
run_of table script budget work journal = run_answer table script budget (length work) (length journal)
