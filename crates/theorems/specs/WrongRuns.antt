-- Runs that the buyer won't take (document 01, "What the buyer won't take"). Each is told from the definitions' run by K1: no function that does
-- the like meets demand 2.
use Rattle.std.specs.Prelude.{◌≡◌, refl, List, [], ◌∷◌, ◌++◌, ℕ, ◌≤◌, length}
use Rattle.std.proofs.Common.{sym, ap, ◌∙◌, arith}
use Rattle.definitions.specs.Bytes.{bytes, lines_of}
use Rattle.definitions.specs.Journal.{Record, kept, changed, deleted, inserted}
use Rattle.definitions.specs.Run.{Answer, answer, run_answer, answer_steps, answer_records}
use Rattle.definitions.specs.Cases.{k1_table}
use Rattle.definitions.specs.Everything.{everything}

-- what takes a table, a script, a budget and the lengths of work area and journal buffer to an answer
abbrev pub Runs : Type 0
Runs = List ℕ → List ℕ → ℕ → ℕ → ℕ → Answer

-- demand 2: its answers are the definitions'
abbrev pub Meets : Runs → Type 0
Meets f = (table script : List ℕ) (budget work size : ℕ) → f table script budget work size ≡ run_answer table script budget work size

-- a run of K1's table
abbrev k1_with : Runs → List ℕ → Answer
k1_with f script = f (bytes k1_table) script 4294967295 999 65536

abbrev first_line : List ℕ
first_line = bytes "F B/R02/; E/90/120/\n"

abbrev rest_lines : List ℕ
rest_lines = bytes "F B/R03/; D\nIS/R04 open 07:15 60/\nW\n"

abbrev r01 : List ℕ
r01 = bytes "R01 open 06:10 90"

abbrev r02 : List ℕ
r02 = bytes "R02 open 06:25 90"

abbrev r03 : List ℕ
r03 = bytes "R03 open 07:00 60"

abbrev r04 : List ℕ
r04 = bytes "R04 open 07:15 60"

abbrev new : List ℕ
new = bytes "R02 open 06:25 120"

whole : k1_with run_answer (first_line ++ rest_lines) ≡ answer 0 10 4 0 (kept r01 ∷ changed r02 new ∷ deleted r03 ∷ inserted r04 ∷ [])
unfolding everything k1_table
whole = refl

first : k1_with run_answer first_line ≡ answer 0 4 2 0 (kept r01 ∷ changed r02 new ∷ kept r03 ∷ [])
unfolding everything k1_table
first = refl

three-lines : length (lines_of (bytes k1_table)) ≡ 3
unfolding everything k1_table
three-lines = refl

lengths : (a : Answer) (n steps f at : ℕ) (j : List Record) → a ≡ answer n steps f at j → length (answer_records a) ≡ length j
unfolding answer_records
lengths a n steps f at j e = rw e

steps-are : (a : Answer) (n steps f at : ℕ) (j : List Record) → a ≡ answer n steps f at j → answer_steps a ≡ steps
unfolding answer_steps
steps-are a n steps f at j e = rw e

module _ (f : Runs) (meets : Meets f) where
  met : k1_with f (first_line ++ rest_lines) ≡ answer 0 10 4 0 (kept r01 ∷ changed r02 new ∷ deleted r03 ∷ inserted r04 ∷ [])
  met = meets (bytes k1_table) (first_line ++ rest_lines) 4294967295 999 65536 ∙ whole

  met-first : k1_with f first_line ≡ answer 0 4 2 0 (kept r01 ∷ changed r02 new ∷ kept r03 ∷ [])
  met-first = meets (bytes k1_table) first_line 4294967295 999 65536 ∙ first

  -- "a run that stops with 29 on its first step"
  pub no-stop-at-once : ((table script : List ℕ) (budget work size : ℕ) → answer_steps (f table script budget work size) ≤ 1) → ⊥
  no-stop-at-once h =
      omega (arith, h (bytes k1_table) (first_line ++ rest_lines) 4294967295 999 65536, steps-are _ 0 10 4 0 _ met)

  -- "nor invented steps": K1 takes 10, no more and no less
  pub steps-of-K1 : answer_steps (k1_with f (first_line ++ rest_lines)) ≡ 10
  steps-of-K1 = steps-are _ 0 10 4 0 _ met

  -- "or copies the table and says done"
  pub no_copy : ((table script : List ℕ) (budget work size : ℕ) → length (answer_records (f table script budget work size)) ≡ length (lines_of table)) → ⊥
  no_copy h = omega (arith, sym (h (bytes k1_table) (first_line ++ rest_lines) 4294967295 999 65536) ∙ lengths _ 0 10 4 0 _ met, three-lines)

  -- "or refuses all scripts"
  pub no-refusing-all : ((table script : List ℕ) (budget work size : ℕ) → answer_steps (f table script budget work size) ≡ 0) → ⊥
  no-refusing-all h = omega (arith, sym (h (bytes k1_table) (first_line ++ rest_lines) 4294967295 999 65536) ∙ steps-of-K1)

  -- "or gives one fixed journal"
  pub no-fixed-journal : (j : List Record) → ((table script : List ℕ) (budget work size : ℕ) → answer_records (f table script budget work size) ≡ j) → ⊥
  no-fixed-journal j h =
      omega (arith, sym (ap length (h (bytes k1_table) (first_line ++ rest_lines) 4294967295 999 65536)) ∙ lengths _ 0 10 4 0 _ met, sym (ap length (h (bytes k1_table) first_line 4294967295 999 65536)) ∙ lengths _ 0 4 2 0 _ met-first)

  -- "one that edits in the first command and idles after"
  pub no-idling-after : ((table script more : List ℕ) (budget work size : ℕ) → answer_records (f table (script ++ more) budget work size) ≡ answer_records (f table script budget work size)) → ⊥
  no-idling-after h =
      omega (arith, sym (lengths _ 0 10 4 0 _ met) ∙ ap length (h (bytes k1_table) first_line rest_lines 4294967295 999 65536) ∙ lengths _ 0 4 2 0 _ met-first)
