-- The number of an answer tells how the run ended (document 01, "Who causes which number"): 0 done, 20 to 31 stopped, 1 to 9, 33 and 34 refused.
use Rattle.std.specs.Prelude.{◌≡◌, ◌⊎◌, ℕ, ◌≤◌}
use Rattle.definitions.specs.Tape.{Tape}
use Rattle.definitions.specs.StepProgram.{Out}
use Rattle.definitions.specs.Run.{Answer, answer, refusal}
use Rattle.theorems.specs.Runs.{StepOr}

-- ---- a step

-- the number with which a step ends a run: W's 0, or a stop's; 29 is none of them
abbrev pub StepNumber : ℕ → Type 0
StepNumber n = (n ≡ 0) ⊎ ((20 ≤ n) × (n ≤ 31) × (n ≡ 29 → ⊥))

-- a step goes on, or ends the run with such a number
abbrev pub StepNumbered : Out → Tape → Type 0
StepNumbered o t = StepOr (λ s u. Unit {0}) (λ n s u. StepNumber n) o t

-- ---- the answer

-- "done (0)", or a number of "The run: 20 .. 29", or document 02's 30 and 31
abbrev pub EndNumber : ℕ → Type 0
EndNumber n = (n ≡ 0) ⊎ ((20 ≤ n) × (n ≤ 31))

-- a number of "The script's author", "The table's keeper", or 8 and 9 of "The loader", or document 02's 33 and 34
abbrev pub RefusalNumber : ℕ → Type 0
RefusalNumber n = ((1 ≤ n) × (n ≤ 9)) ⊎ ((33 ≤ n) × (n ≤ 34))

-- the number of an answer, by its case
unfoldable pub Numbered : Answer → Type 0
Numbered (answer n steps f at j) = EndNumber n
Numbered (refusal n at) = RefusalNumber n
