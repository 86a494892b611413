use mathlib.Core.Path.{◌≡◌, refl, sym, ap, ◌∙◌}
use Prim.Native.Nat.{ℕ, ◌+◌}
use native.Mathlib.Omega.{arith}
use lib.ListN.{length, drop}
use Rattle.definitions.specs.Reader.{token, digits, digits_at}
use Rattle.lexer.specs.Places.{cursor_at}
use Rattle.lexer.specs.Answers.{capped}
use Rattle.lexer.proofs.Digits.{digits-end, digits-stop, digits_more}
use Rattle.lexer.proofs.OneByte.{is-digit-from}
use Rattle.lexer.proofs.numbers.digits.Goals as goal

pub loop-i-init : goal.loop-i-init
unfolding digits
loop-i-init c = (omega arith, refl)

pub returns-then-not-is_digit-clause-read : goal.returns-then-not-is_digit-clause-read
returns-then-not-is_digit-clause-read c = c.loop-i.invariant.1 ∙ digits-stop _ _ _ (omega arith) (omega arith) (sym c.is_digit.ensures ∙ c.if-not-is_digit.true)

pub with_digit-n-requires : goal.with_digit-n-requires
with_digit-n-requires c = (omega arith, is-digit-from _ (sym c.is_digit.ensures ∙ c.if-not-is_digit.false))

pub loop-i-preserved : goal.loop-i-preserved
loop-i-preserved c =
    let l = c.loop-i in
    let a = c.args in (
      omega (arith, c.with_digit-n.ensures),
      l.invariant.1
          ∙ digits_more a.s.now l.i l.n (omega arith) (sym c.is_digit.ensures ∙ c.if-not-is_digit.false)
          ∙ ap (λ (m : ℕ). capped (digits_at m (l.i + 1) (drop (l.i + 1) a.s.now))) (sym c.with_digit-n.ensures),
    )

pub returns-clause-read : goal.returns-clause-read
returns-clause-read c =
    let l = c.loop-i in
    let s = c.args.s.now in
    let e : l.i ≡ length s = omega (arith, l.auto.i-end c.requires) in
    l.invariant.1 ∙ digits-end _ _ _ (omega arith) (omega arith) ∙ ap (λ (i : ℕ). token l.n (cursor_at s i)) e
