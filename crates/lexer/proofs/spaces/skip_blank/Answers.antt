use mathlib.Core.Path.{refl, sym, ◌∙◌}
use native.Mathlib.Omega.{arith}
use Rattle.definitions.specs.Reader.{skip_blank}
use Rattle.lexer.proofs.Blanks.{blank-to, blank-comment, comment-falls, blank-stops}
use Rattle.lexer.proofs.spaces.skip_blank.Goals as goal

pub loop-at-init : goal.loop-at-init
unfolding skip_blank
loop-at-init c = (omega arith, omega arith, refl)

pub returns-then-next_byte-ne92 : goal.returns-then-next_byte-ne92
returns-then-next_byte-ne92 c =
    let e = c.past-i.ensures.0 in
    let stops = blank-stops _ _ _ e (λ h. c.if-next_byte-ne92.true (c.next_byte.ensures ∙ h)) in record { place = c.loop-at.invariant.2 ∙ blank-to _ _ _ e ∙ stops; within = omega arith }

pub loop-at-smaller : goal.loop-at-smaller
loop-at-smaller c = omega (arith, comment-falls _ _ (sym c.next_byte.ensures ∙ c.if-next_byte-ne92.false) _ c.past-i-in-loop-at.ensures.0)

pub loop-at-preserved : goal.loop-at-preserved
loop-at-preserved c =
    let comment = blank-comment _ _ (sym c.next_byte.ensures ∙ c.if-next_byte-ne92.false) _ c.past-i-in-loop-at.ensures.0 in
    (omega arith, omega arith, c.loop-at.invariant.2 ∙ blank-to _ _ _ c.past-i.ensures.0 ∙ comment)
