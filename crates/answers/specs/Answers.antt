-- What a reader answers, as a relation: what it read, of which P holds, or a refusal, of whose number and place Q holds.
use Rattle.std.specs.Prelude.{ℕ, Bool, Result, Ok, Err}
use Rattle.answers.specs.declared.Command.{Command}
use Rattle.answers.specs.declared.Fault.{Fault}
use Rattle.answers.specs.declared.Fault.TheVariants.{Unknown, Argument, Qualifier, Bracket, NoZ, Names, Pattern}
use Rattle.answers.specs.declared.Follow.{Follow}
use Rattle.answers.specs.declared.Read.{Read}
use Rattle.answers.specs.declared.Refusal.{Refusal}

-- document 01's number of a fault; 33 and 34 are document 02's
abbrev pub number_of : Fault → ℕ
number_of Unknown = 2
number_of Argument = 3
number_of Qualifier = 4
number_of Bracket = 5
number_of NoZ = 6
number_of Names = 33
number_of Pattern = 34

abbrev pub AnswerOr : {T : Type 0} → (T → Type 0) → (ℕ → ℕ → Type 0) → Result T Refusal → Type 0
AnswerOr P Q (Ok x) = P x
AnswerOr P Q (Err r) = Q (number_of r.fault) r.place

-- the same, of what was read and of the place after it
abbrev pub ReadOr : {T : Type 0} → (T → ℕ → Type 0) → (ℕ → ℕ → Type 0) → Result (Read T) Refusal → Type 0
ReadOr P Q = AnswerOr (λ r. P r.value r.next) Q

-- the two answers
abbrev pub read_as : {T : Type 0} → T → ℕ → Result (Read T) Refusal
read_as x next = Ok (record { value = x; next = next })

abbrev pub refusal : {T : Type 0} → Fault → ℕ → Result T Refusal
refusal fault place = Err (record { fault = fault; place = place })

-- a command, up to the next free word and the place after it: a whole one, and one that a command or group must follow
abbrev pub whole_read : ℕ → ℕ → Read Command
whole_read free next = record { value = record { follow = Follow.Nothing; free = free }; next = next }

abbrev pub prefix_read : Bool → ℕ → ℕ → Read Command
prefix_read elses free next = record { value = record { follow = Follow.Body elses; free = free }; next = next }
