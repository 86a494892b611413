-- What wish 5 cannot do without: that the budget is larger, or allows the steps that were made, that the first run ends otherwise than with 29, that nothing but the budget
-- is changed. Each statement is false where one of them is left out; and so is that every run spends its budget.
use Rattle.std.specs.Prelude.{◌≡◌, refl, List, ℕ, suc, ◌≤◌, replicate}
use Rattle.std.proofs.Common.{sym, ap, ◌∙◌, arith}
use Rattle.definitions.specs.Bytes.{bytes}
use Rattle.definitions.specs.Run.{Outcome}
use Rattle.definitions.specs.Everything.{everything}
use Rattle.theorems.specs.Budgets.{outcome_number, outcome_steps, EndsOtherwise, under}

-- the first part of wish 5 with the budgets, the journal buffers and the first run's outcome left to choose
abbrev pub Agreeing : (ℕ → ℕ → Type 0) → (List ℕ → List ℕ → Type 0) → (Outcome → Type 0) → Type 0
Agreeing budgets buffers ends =
    (table script : List ℕ) (work : ℕ) (buffer buffer₂ : List ℕ) (budget budget₂ : ℕ)
    → ends (under table script work buffer budget)
    → budgets budget budget₂ → buffers buffer buffer₂
    → under table script work buffer₂ budget₂ ≡ under table script work buffer budget

abbrev Same : List ℕ → List ℕ → Type 0
Same buffer buffer₂ = buffer₂ ≡ buffer

abbrev Any : Outcome → Type 0
Any o = Unit {0}

numbers-differ : (o o₂ : Outcome) (n n₂ : ℕ) → outcome_number o ≡ n → outcome_number o₂ ≡ n₂ → (n ≡ n₂ → ⊥) → o ≡ o₂ → ⊥
numbers-differ o o₂ n n₂ h h₂ d q = d (sym h ∙ ap outcome_number q ∙ h₂)

-- K7 and K8: `4N` on three lines stops with 20 at its eighth step
abbrev counted : ℕ → Outcome
counted budget = under (bytes "a\nb\nc\n") (bytes "4N\n") 70 (replicate 12 0) budget

seven : outcome_number (counted 7) ≡ 29
unfolding everything outcome_number
seven = refl

eight : outcome_number (counted 8) ≡ 20
unfolding everything outcome_number
eight = refl

eight-made : outcome_steps (counted 8) ≡ 8
unfolding everything outcome_steps
eight-made = refl

nine : outcome_steps (counted 9) ≡ 8
unfolding everything outcome_steps
nine = refl

-- a smaller budget
pub smaller-differs : Agreeing (λ budget budget₂. budget₂ ≤ budget) Same EndsOtherwise → ⊥
smaller-differs h =
    numbers-differ (counted 7) (counted 8) 29 20 seven eight (λ q. omega (arith, q))
    (h (bytes "a\nb\nc\n") (bytes "4N\n") 70 (replicate 12 0) (replicate 12 0) 8 7 (λ q. omega (arith, sym eight ∙ q)) (omega arith) refl)

-- a run that ended with 29
pub spent-differs : Agreeing (λ budget budget₂. budget ≤ budget₂) Same Any → ⊥
spent-differs h =
    numbers-differ (counted 8) (counted 7) 20 29 eight seven (λ q. omega (arith, q))
    (h (bytes "a\nb\nc\n") (bytes "4N\n") 70 (replicate 12 0) (replicate 12 0) 7 8 tt (omega arith) refl)

-- one step less than were made
pub one-less-differs : ((table script : List ℕ) (work : ℕ) (buffer : List ℕ) (budget other : ℕ)
    → EndsOtherwise (under table script work buffer budget) → outcome_steps (under table script work buffer budget) ≤ suc other
    → under table script work buffer other ≡ under table script work buffer budget) → ⊥
one-less-differs h =
    numbers-differ (counted 7) (counted 8) 29 20 seven eight (λ q. omega (arith, q))
    (h (bytes "a\nb\nc\n") (bytes "4N\n") 70 (replicate 12 0) 8 7 (λ q. omega (arith, sym eight ∙ q)) (omega (arith, eight-made)))

-- a run that ended otherwise has not always made as many steps as its budget
pub some_left : ((table script : List ℕ) (work : ℕ) (buffer : List ℕ) (budget : ℕ) → outcome_steps (under table script work buffer budget) ≡ budget) → ⊥
some_left h = omega (arith, sym nine ∙ h (bytes "a\nb\nc\n") (bytes "4N\n") 70 (replicate 12 0) 9)

-- a longer journal buffer: where the global acts on the second line after the script's end, the first buffer is full
abbrev global : List ℕ → Outcome
global buffer = under (bytes "a\nb\n") (bytes "GE/b/c/\n") 80 buffer 1

full : outcome_number (global (replicate 8 0)) ≡ 26
unfolding everything outcome_number
full = refl

room : outcome_number (global (replicate 10 0)) ≡ 0
unfolding everything outcome_number
room = refl

pub buffer-differs : Agreeing (λ budget budget₂. budget ≤ budget₂) (λ buffer buffer₂. Unit {0}) EndsOtherwise → ⊥
buffer-differs h =
    numbers-differ (global (replicate 10 0)) (global (replicate 8 0)) 0 26 room full (λ q. omega (arith, q))
    (h (bytes "a\nb\n") (bytes "GE/b/c/\n") 80 (replicate 8 0) (replicate 10 0) 1 1 (λ q. omega (arith, sym full ∙ q)) (omega arith) tt)
