-- Line numbers at a place of the script. Assumes nothing.
use mathlib.Core.Path.{◌≡◌, refl, sym, ap, ◌∙◌}
use mathlib.Core.Bool.{Bool, true, false, cond, ◌&&◌, true≢false}
use mathlib.Core.List.{List}
use Prim.Native.Nat.{ℕ, suc, ◌+◌, ◌≤◌, ◌<◌}
use native.Mathlib.Omega.{arith}
use lib.ListN.{length}
use lib.Dec.{eqb}
use borrow.Author.Tests.{eq-eqb, ne_eqb, eqb-true, eqb-false}
use Rattle.definitions.specs.Bytes.{is_digit}
use Rattle.definitions.specs.Editor.{Target, here, line, eof, up_to, to_eof}
use Rattle.definitions.specs.Reader.{Cursor, Got, got, refused, and_then, next_byte, after_byte, is_next, is_digit_next, skip_spaces, number}
use Rattle.definitions.specs.Commands.{starts_target, target, through, line_span, optional_target}
use Rattle.lexer.specs.Places.{cursor_at}
use Rattle.std.specs.Prelude.{Result, Ok, Err}
use Rattle.answers.specs.declared.Read.{Read}
use Rattle.answers.specs.declared.Refusal.{Refusal}
use Rattle.answers.specs.Answers.{read_as}
use Rattle.lexer.specs.Answers.{ValueAt, ValueRead, NumberUpTo}
use Rattle.lexer.specs.Targets.{target_of, through_of, span_of, option_of, SpanRead}
use Rattle.lexer.specs.declared.targets.Lines.{Lines}
use Rattle.lexer.proofs.AtPlace.{is-next, not-next, next-inside, after_next}
use Rattle.lexer.proofs.Digits.{IsNumber}

-- ---- a byte that may begin a line number

eqb-turned : (m n : ℕ) → eqb m n ≡ eqb n m
eqb-turned m n = go (eqb n m) refl
  where
    go : (t : Bool) → eqb n m ≡ t → eqb m n ≡ t
    go true e = eq-eqb m n (sym (eqb-true n m e))
    go false e = ne_eqb m n (λ k. eqb-false n m e (sym k))

module _ (star : Bool) (c : Cursor) where
  pub starts-digit : is_digit (next_byte c) ≡ true → starts_target star c ≡ true
  unfolding starts_target is_digit_next
  starts-digit e = rw e

  pub starts-here : is_digit (next_byte c) ≡ false → next_byte c ≡ 46 → starts_target star c ≡ true
  unfolding starts_target is_digit_next
  starts-here e h = rw (e, is-next 46 c h)

  pub starts-star : is_digit (next_byte c) ≡ false → (next_byte c ≡ 46 → ⊥) → starts_target star c ≡ (star && eqb (next_byte c) 42)
  unfolding starts_target is_digit_next is_next
  starts-star e h = rw (e, ne_eqb 46 (next_byte c) (λ k. h (sym k)), eqb-turned 42 (next_byte c))

-- ---- numbers as lines

target-line : (k : ℕ) → 1 ≤ k → k ≤ 65535 → target_of k ≡ line k
unfolding target_of
target-line k h g = rw (ne_eqb k 0 (omega arith), ne_eqb k 65536 (omega arith))

through-line : (k : ℕ) → 1 ≤ k → k ≤ 65535 → through_of k ≡ up_to k
unfolding through_of
through-line k h g = rw (ne_eqb k 0 (omega arith), ne_eqb k 65536 (omega arith))

-- ---- a line

abbrev IsTarget : List ℕ → ℕ → Result (Read ℕ) Refusal → Type 0
IsTarget s at = ValueRead s target_of (NumberUpTo 65536 (suc at)) (target (cursor_at s at))

module _ (s : List ℕ) (at : ℕ) where
  pub target-here : next_byte (cursor_at s at) ≡ 46 → IsTarget s at (read_as 0 (at + 1))
  unfolding target target_of
  target-here e =
      let h : 0 < next_byte (cursor_at s at) = omega arith in
      let inside : at < length s = next-inside s at h in
      (rw (is-next 46 (cursor_at s at) e) (ap (got here) (after_next s at h)), (omega arith, omega arith), omega arith)

  pub target-eof : (next_byte (cursor_at s at) ≡ 46 → ⊥) → next_byte (cursor_at s at) ≡ 42 → IsTarget s at (read_as 65536 (at + 1))
  unfolding target target_of
  target-eof d e =
      let h : 0 < next_byte (cursor_at s at) = omega arith in
      let inside : at < length s = next-inside s at h in (
        rw (not-next 46 (cursor_at s at) d, is-next 42 (cursor_at s at) e) (ap (got eof) (after_next s at h)),
        (omega arith, omega arith),
        omega arith,
      )

  pub target-number : (r : Result (Read ℕ) Refusal) → (next_byte (cursor_at s at) ≡ 46 → ⊥) → (next_byte (cursor_at s at) ≡ 42 → ⊥) → IsNumber s at r → IsTarget s at r
  unfolding target and_then
  target-number (Ok x) d e (is, on, to) = (
    rw (not-next 46 (cursor_at s at) d, not-next 42 (cursor_at s at) e, is, target-line x.value on.0 on.1),
    (omega arith, on.2),
    to,
  )
  target-number (Err x) d e is = (rw (not-next 46 (cursor_at s at) d, not-next 42 (cursor_at s at) e, is))

-- ---- how far

abbrev IsThrough : List ℕ → ℕ → Result (Read ℕ) Refusal → Type 0
IsThrough s at = ValueRead s through_of (NumberUpTo 65536 at) (through (cursor_at s at))

-- ---- a line or none

abbrev IsOption : List ℕ → ℕ → Result (Read ℕ) Refusal → Type 0
IsOption s at = ValueRead s option_of (NumberUpTo 65537 at) (optional_target (cursor_at s at))

module _ (s : List ℕ) (at i : ℕ) (spaces : skip_spaces (cursor_at s at) ≡ cursor_at s i) (from : at ≤ i) (to : i ≤ length s) where
  pub through-eof : next_byte (cursor_at s i) ≡ 42 → IsThrough s at (read_as 65536 (i + 1))
  unfolding through through_of
  through-eof e =
      let h : 0 < next_byte (cursor_at s i) = omega arith in
      let inside : i < length s = next-inside s i h in
      (rw (spaces, is-next 42 (cursor_at s i) e) (ap (got to_eof) (after_next s i h)), (omega arith, omega arith), omega arith)

  module _ (other : next_byte (cursor_at s i) ≡ 42 → ⊥) where
    pub through-number : (r : Result (Read ℕ) Refusal) → is_digit (next_byte (cursor_at s i)) ≡ true → IsNumber s i r → IsThrough s at r
    unfolding through and_then is_digit_next
    through-number (Ok x) d (is, on, end) = (
      rw (spaces, not-next 42 (cursor_at s i) other, d, is, through-line x.value on.0 on.1),
      (omega (arith, on.1), omega (arith, on.2)),
      end,
    )
    through-number (Err x) d is = (rw (spaces, not-next 42 (cursor_at s i) other, d, is))

    pub through-alone : is_digit (next_byte (cursor_at s i)) ≡ false → IsThrough s at (read_as 0 at)
    unfolding through through_of is_digit_next
    through-alone d = (rw (spaces, not-next 42 (cursor_at s i) other, d), (omega arith, omega arith), omega arith)

  pub option-none : starts_target true (cursor_at s i) ≡ false → IsOption s at (read_as 65537 at)
  unfolding optional_target option_of
  option-none e = (rw (spaces, e), (omega arith, omega arith), omega arith)

  pub option-some : (r : Result (Read ℕ) Refusal) → starts_target true (cursor_at s i) ≡ true → IsTarget s i r → IsOption s at r
  unfolding optional_target option_of and_then
  option-some (Ok x) e (is, on, end) =
      (rw (spaces, e, is, ne_eqb x.value 65537 (omega (arith, on.0))), (omega (arith, on.0), omega (arith, on.1)), end)
  option-some (Err x) e is = (rw (spaces, e, is))

-- ---- the lines of D and R

abbrev IsSpan : List ℕ → ℕ → Result (Read Lines) Refusal → Type 0
IsSpan s at = ValueRead s span_of (SpanRead at) (line_span (cursor_at s at))

-- a line that was read, and how far
abbrev TargetAt : List ℕ → ℕ → ℕ → ℕ → Type 0
TargetAt s at = ValueAt s target_of (NumberUpTo 65536 (suc at)) (target (cursor_at s at))

abbrev ThroughAt : List ℕ → ℕ → ℕ → ℕ → Type 0
ThroughAt s at = ValueAt s through_of (NumberUpTo 65536 at) (through (cursor_at s at))

-- where `*` does not count, no line number begins with it
no-star : (c : Cursor) → starts_target false c ≡ true → is_next 42 c ≡ false
unfolding is_digit
no-star c starts = not-next 42 c (λ e. true≢false (sym starts ∙ starts-star false c (rw e) (λ k. omega arith)))

no-eof : (c d : Cursor) → is_next 42 c ≡ false → target c ≡ got eof d → ⊥
unfolding target and_then
no-eof c d other e = go (is_next 46 c) (number c) (rw other at e)
  where
    go : (t : Bool) (n : Got ℕ) → cond t (got here (after_byte c)) (and_then n (λ a c₁. got (line a) c₁)) ≡ got eof d → ⊥
    go true n e = let z : ◌≡◌ {A = ℕ} 0 1 = cc in omega arith
    go false (got a c₁) e = let z : ◌≡◌ {A = ℕ} 0 1 = cc in omega arith
    go false (refused k p) e = let z : ◌≡◌ {A = ℕ} 0 1 = cc in omega arith

below-eof : (s : List ℕ) (at n next : ℕ) → starts_target false (cursor_at s at) ≡ true → TargetAt s at n next → n ≤ 65535
unfolding target_of
below-eof s at n next starts first = go first.1.0 other
  where
    other : n ≡ 65536 → ⊥
    other k = no-eof (cursor_at s at) (cursor_at s next) (no-star (cursor_at s at) starts) (first.0 ∙ ap (λ (t : Target). got t (cursor_at s next)) (rw k))

    go : n ≤ 65536 → (n ≡ 65536 → ⊥) → n ≤ 65535
    go h k = omega arith

module _ (s : List ℕ) (at i : ℕ) (spaces : skip_spaces (cursor_at s at) ≡ cursor_at s i) (from : at ≤ i) (to : i ≤ length s) where
  pub span_none : starts_target false (cursor_at s i) ≡ false → IsSpan s at (read_as (record { first = 0; last = 0 }) at)
  unfolding line_span span_of target_of through_of
  span_none e = (rw (spaces, e), (omega arith, omega arith, omega arith), omega arith)

  module _ (starts : starts_target false (cursor_at s i) ≡ true) where
    pub span-first : (k p : ℕ) → target (cursor_at s i) ≡ refused k p → line_span (cursor_at s at) ≡ refused k p
    unfolding line_span and_then
    span-first k p e = rw (spaces, starts, e)

    module _ (n next : ℕ) (first : TargetAt s i n next) where
      pub span_last : (k p : ℕ) → through (cursor_at s next) ≡ refused k p → line_span (cursor_at s at) ≡ refused k p
      unfolding line_span and_then
      span_last k p e = rw (spaces, starts, first.0, e)

      pub span-both : (m end : ℕ) → ThroughAt s next m end → IsSpan s at (read_as (record { first = n; last = m }) end)
      unfolding line_span span_of and_then
      span-both m end last = (
        rw (spaces, starts, first.0, last.0),
        (below-eof s i n next starts first, last.1.0, omega (arith, first.1.1, last.1.1)),
        last.2,
      )
