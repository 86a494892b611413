-- What demand 3 says of two runs: the tables agree up to the furthest line read, and differ after it; work area and journal buffer are others. A global stands at the
-- script's end, and the lines that are not read go through it.
use Rattle.std.specs.Prelude.{◌≡◌, refl, List, [], ◌∷◌, ℕ}
use Rattle.std.proofs.Common.{arith}
use Rattle.definitions.specs.Bytes.{bytes, lines_of}
use Rattle.definitions.specs.Journal.{kept, changed}
use Rattle.definitions.specs.WordSet.{letters_and_digits}
use Rattle.definitions.specs.Given.{global, Carried, carried}
use Rattle.definitions.specs.Run.{Answer, answer, run_answer, answer_furthest}
use Rattle.definitions.specs.Everything.{everything}
use Rattle.theorems.specs.Demand3.{IsAccepted, IsCompared, Agree, agree_up_to, SameUpTo, LeftAfter, standing_at, standing_of, standing}
use Rattle.theorems.proofs.Demand3Proof.{demand3}

abbrev table : List ℕ
table = bytes "a\nb\nc\n"

abbrev table₂ : List ℕ
table₂ = bytes "a\nb\nx\nyy\n"

-- F finds the second line and E changes it: no further line is read
abbrev script : List ℕ
script = bytes "GE/y/z/; F /b/; E/b/B/\n"

abbrev ran : Answer
ran = run_answer table script 99 110 40

abbrev ran₂ : Answer
ran₂ = run_answer table₂ script 99 500 65536

ran-is : ran ≡ answer 0 5 2 0 (kept (bytes "a") ∷ changed (bytes "b") (bytes "B") ∷ kept (bytes "c") ∷ [])
unfolding everything
ran-is = refl

ran₂-is : ran₂ ≡ answer 0 5 2 0 (kept (bytes "a") ∷ changed (bytes "b") (bytes "B") ∷ kept (bytes "x") ∷ changed (bytes "yy") (bytes "zz") ∷ [])
unfolding everything
ran₂-is = refl

-- the global that stands at the end; letters and digits count for W, as at first
abbrev stands : Carried
stands = carried (global (bytes "y") (bytes "z") ∷ []) letters_and_digits

stands-is : standing table script 99 40 ≡ stands
unfolding everything standing standing_of standing_at
stands-is = refl

-- the hypotheses hold
accepted : IsAccepted ran
unfolding everything IsAccepted
accepted = tt

accepted₂ : IsAccepted ran₂
unfolding everything IsAccepted
accepted₂ = tt

agree : Agree (answer_furthest ran) (lines_of table) (lines_of table₂)
unfolding everything
agree = agree_up_to (omega arith) (omega arith) refl

compared : IsCompared script ran
unfolding everything
compared = record { not_full = λ h. omega (arith, h); not_after = λ h k. omega (arith, h) }

compared₂ : IsCompared script ran₂
unfolding everything
compared₂ = record { not_full = λ h. omega (arith, h); not_after = λ h k. omega (arith, h) }

-- so the runs are the same up to line 2, and the second journal goes on with the second table's lines, as the global leaves them
pub same : SameUpTo (answer_furthest ran) ran ran₂ × LeftAfter (answer_furthest ran) stands (lines_of table₂) ran₂
same = rw (← stands-is) ((demand3 table script 99 110 40 accepted).agreeing table₂ 500 65536 accepted₂ agree compared compared₂)
