use Prim.Native.Nat.{ℕ}
use mathlib.Core.Path.{sym, ap, ◌∙◌}
use lib.Dec.{eqb}
use Rattle.definitions.specs.Bytes.{is_digit}
use Rattle.lexer.proofs.Spans.{starts-digit, starts-here, starts-star}
use Rattle.lexer.proofs.targets.starts_target.Goals as goal

pub returns-then-is_digit : goal.returns-then-is_digit
returns-then-is_digit c = sym (starts-digit _ _ (ap is_digit (sym c.next_byte-b.ensures) ∙ sym c.is_digit.ensures ∙ c.if-is_digit.true))

pub returns-then-b-eq46 : goal.returns-then-b-eq46
returns-then-b-eq46 c = sym (starts-here _ _ (ap is_digit (sym c.next_byte-b.ensures) ∙ sym c.is_digit.ensures ∙ c.if-is_digit.false) (sym c.next_byte-b.ensures ∙ c.if-b-eq46.true))

pub returns-then-star : goal.returns-then-star
returns-then-star c = rw c.if-star.true (ap (λ (b : ℕ). eqb b 42) c.next_byte-b.ensures ∙ sym (starts-star _ _ (ap is_digit (sym c.next_byte-b.ensures) ∙ sym c.is_digit.ensures ∙ c.if-is_digit.false) (λ e. c.if-b-eq46.false (c.next_byte-b.ensures ∙ e))))

pub returns-else-star : goal.returns-else-star
returns-else-star c = rw c.if-star.false (sym (starts-star _ _ (ap is_digit (sym c.next_byte-b.ensures) ∙ sym c.is_digit.ensures ∙ c.if-is_digit.false) (λ e. c.if-b-eq46.false (c.next_byte-b.ensures ∙ e))))
