-- Laws of operators and closing brackets, one for each way out. Assumes nothing.
use mathlib.Core.Path.{◌≡◌, sym, ◌∙◌}
use mathlib.Core.List.{List}
use mathlib.Core.Option.{none}
use Prim.Native.Nat.{ℕ, ◌+◌, ◌-◌, ◌≤◌, ◌<◌}
use native.Mathlib.Omega.{arith}
use lib.ListN.{length, get_or, length-drop}
use borrow.Author.Tests.{eq-eqb, ne_eqb}
use Rattle.definitions.specs.Reader.{place_at, bytes_left, next_byte, skip_spaces, skip_blank}
use Rattle.definitions.specs.Strings.{closing, operator}
use Rattle.std.specs.Prelude.{Ok, Some, None}
use Rattle.answers.specs.declared.Fault.TheVariants.{Argument, Bracket}
use Rattle.answers.specs.Answers.{refusal}
use Rattle.lexer.specs.Places.{cursor_at}
use Rattle.lexer.proofs.AtPlace.{is-next, not-next, next-in, next-end, after-in, next-inside}
use Rattle.searches.specs.Parsing.{right_of, RightOn, Closes}

module _ (s : List ℕ) (at b i : ℕ) (blank : skip_blank (cursor_at s at) ≡ cursor_at s i) where
  absent : (next_byte (cursor_at s i) ≡ b → ⊥) → operator b (cursor_at s at) ≡ none
  unfolding operator
  absent e = rw (blank, not-next b (cursor_at s i) e)

  pub no-operator-left : 0 < b → length s ≤ i → (right_of s None ≡ operator b (cursor_at s at)) × RightOn at (length s) None
  no-operator-left pos h = (sym (absent (λ e. omega (arith, e, next-end s i h))), tt)

  pub no-operator : i < length s → (get_or s i 0 ≡ b → ⊥) → (right_of s None ≡ operator b (cursor_at s at)) × RightOn at (length s) None
  no-operator h e = (sym (absent (λ f. e (sym (next-in s i h) ∙ f))), tt)

  pub operator-here : (next : ℕ) → i < length s → get_or s i 0 ≡ b → at ≤ i → skip_blank (cursor_at s (i + 1)) ≡ cursor_at s next → i + 1 ≤ next → next ≤ length s
      → (right_of s (Some next) ≡ operator b (cursor_at s at)) × RightOn at (length s) (Some next)
  unfolding operator
  operator-here next h e from blank₂ low high =
      (rw (blank, is-next b (cursor_at s i) (next-in s i h ∙ e), after-in s i h, blank₂), (omega arith, high))

module _ (s : List ℕ) (at i : ℕ) (spaces : skip_spaces (cursor_at s at) ≡ cursor_at s i) where
  pub bracket-inside : next_byte (cursor_at s i) ≡ 41 → i < length s
  bracket-inside e = next-inside s i (omega (arith, e))

  pub closes_here : next_byte (cursor_at s i) ≡ 41 → at ≤ i → Closes s at (Ok (i + 1))
  unfolding closing
  closes_here e from = (
    λ se. rw (spaces, is-next 41 (cursor_at s i) e, after-in s i (bracket-inside e)),
    omega arith,
    omega (arith, bracket-inside e),
  )

  module _ (other : next_byte (cursor_at s i) ≡ 41 → ⊥) (end : ℕ) (blank : skip_blank (cursor_at s i) ≡ cursor_at s end) (within : end ≤ length s) where
    left : bytes_left (skip_blank (cursor_at s i)) ≡ length s - end
    unfolding bytes_left
    left = rw blank (length-drop end s)

    pub never-closed : length s ≤ end → Closes s at (refusal Bracket end)
    unfolding closing place_at
    never-closed h = (λ se. rw (spaces, not-next 41 (cursor_at s i) other, left, eq-eqb (length s - end) 0 (omega arith), blank))

    pub something-else : end < length s → Closes s at (refusal Argument i)
    unfolding closing place_at
    something-else h = (λ se. rw (spaces, not-next 41 (cursor_at s i) other, left, ne_eqb (length s - end) 0 (λ e. omega (arith, e))))
