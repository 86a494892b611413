-- The reader that carries its place, where a round leaves it, and rounds that read no command.
use Rattle.std.specs.Prelude.{◌≡◌, cond, List, ℕ, eqb, Option, Some, None, Result, Ok, Err}
use Rattle.definitions.specs.Control.{Item}
use Rattle.definitions.specs.Script.{AfterRound, done, refused_at, read_one}
use Rattle.answers.specs.declared.Fault.TheVariants.{Argument, Bracket}
use Rattle.answers.specs.declared.Read.{Read}
use Rattle.answers.specs.declared.Refusal.{Refusal}
use Rattle.answers.specs.declared.State.{State}
use Rattle.answers.specs.Answers.{number_of, read_as, refusal}
use Rattle.script.specs.Reading.{reading_of, ReadSoFar, Onward, Finished}
use Rattle.script.specs.declared.reading.Reader.{Reader}

-- ---- the reader

-- what a round from the state st and the place `from` on comes to, in which the words w become w'
abbrev pub Round : List ℕ → List ℕ → State → ℕ → (AfterRound → Type 0) → Type 0
Round s w st from P = (acc : List Item) → ReadSoFar s w st from acc → P (read_one (reading_of s w st from acc))

-- such a round leaves the reader at `at`: after what was read; it stays where reading does not go on
abbrev pub Turned : List ℕ → List ℕ → List ℕ → State → ℕ → ℕ → Result (Option State) Refusal → Type 0
Turned s w w' st from at (Ok (Some next)) = (after : ℕ) × Round s w st from (λ x. Onward s w' from x next after) × (at ≡ after)
Turned s w w' st from at (Ok None) = Round s w st from (λ x. Finished s w' x st.k) × (at ≡ from)
Turned s w w' st from at (Err r) = Round s w st from (λ x. x ≡ done (refused_at (number_of r.fault) r.place)) × (at ≡ from)

-- the reader r makes that round, and is r' then: it still has its script
abbrev pub Moves : Reader → Reader → List ℕ → List ℕ → State → Result (Option State) Refusal → Type 0
Moves r r' w w' st q = (r'.script ≡ r.script) × Turned r.script.now w w' st r.at r'.at q

-- ---- rounds that read no command

-- `;`, a line end in a group, or a comment, from `at` up to `next`: where a body must follow it is missing, 3
unfoldable pub separated : State → ℕ → ℕ → Result (Read State) Refusal
separated st at next = cond (eqb st.due 0) (read_as st next) (refusal Argument at)

-- the script's end, and that of the items: a body that is missing is 3, a group that is never closed 5
unfoldable pub ended : State → ℕ → Result ℕ Refusal
ended st at = cond (eqb st.due 0) (cond (eqb st.depth 0) (Ok st.k) (refusal Bracket at)) (refusal Argument at)
