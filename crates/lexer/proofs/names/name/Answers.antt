use Prim.Native.Nat.{ℕ}
use lib.ListN.{length, get_or}
use mathlib.Core.Path.{◌≡◌, refl, sym, ap, ◌∙◌}
use native.Mathlib.Omega.{arith}
use Rattle.definitions.specs.Reader.{token, name}
use Rattle.lexer.specs.Places.{cursor_at}
use Rattle.lexer.specs.Steps.{limit}
use Rattle.lexer.proofs.Letters.{letters-end, letters-stop, letters-more, letters-below}
use Rattle.lexer.proofs.names.name.Goals as goal

pub loop-i-init : goal.loop-i-init
unfolding name limit
loop-i-init c = (omega arith, refl)

pub returns-then-not-is_letter-clause-read : goal.returns-then-not-is_letter-clause-read
returns-then-not-is_letter-clause-read c = c.loop-i.invariant.1 ∙ letters-stop _ _ _ _ (omega arith) (sym c.is_letter.ensures ∙ c.if-not-is_letter.true)

pub loop-i-preserved : goal.loop-i-preserved
loop-i-preserved c =
    let l = c.loop-i in
    let a = c.args in
    let b = c.type_inv.s l.i in (
      rw (c.saturating_sub-left.ensures, c.with_letter-n.ensures) (letters-below l.left l.n (get_or a.s.now l.i 0) l.invariant.0 (omega (arith, b))),
      l.invariant.1
          ∙ letters-more a.s.now l.i l.left l.n (omega arith) (sym c.is_letter.ensures ∙ c.if-not-is_letter.false)
          ∙ rw (c.saturating_sub-left.ensures, c.with_letter-n.ensures),
    )

pub returns-clause-read : goal.returns-clause-read
returns-clause-read c =
    let l = c.loop-i in
    let s = c.args.s.now in
    let e : l.i ≡ length s = omega (arith, l.auto.i-end c.requires) in
    l.invariant.1 ∙ letters-end _ _ _ _ (omega arith) ∙ ap (λ (i : ℕ). token l.n (cursor_at s i)) e
