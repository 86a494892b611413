-- `patterns::after_plain` meets its contract. Assumes nothing.
use mathlib.Core.Path.{sym, ◌∙◌}
use native.Mathlib.Omega.{arith}
use Rattle.patterns.proofs.Places.{next-within}
use Rattle.patterns.proofs.Characters.{begins-range, plain-alone, plain-no-range, plain-range}
use Rattle.patterns.proofs.after_plain.Goals as goal

pub returns-then-not-is_next : goal.returns-then-not-is_next
returns-then-not-is_next c = rw c.solid.ensures (plain-alone _ _ _ (omega arith) (sym c.is_next.ensures ∙ c.if-not-is_next.true))

pub returns-then-not-is_ascii_alphanumeric : goal.returns-then-not-is_ascii_alphanumeric
returns-then-not-is_ascii_alphanumeric c =
    rw c.solid-then-not-is_ascii_alphanumeric.ensures (plain-no-range _ _ _ (sym c.is_next.ensures ∙ c.if-not-is_next.false)
    (sym (begins-range c.args.a) ∙ sym c.is_ascii_alphanumeric.ensures.value ∙ c.if-not-is_ascii_alphanumeric.true))

pub range_end-requires : goal.range_end-requires
range_end-requires c =
    let within = next-within _ _ 45 (omega arith) (sym c.is_next.ensures ∙ c.if-not-is_next.false) in
    omega (arith, within)

pub returns : goal.returns
returns c =
    plain-range _ _ _ (sym c.is_next.ensures ∙ c.if-not-is_next.false)
    (sym (begins-range c.args.a) ∙ sym c.is_ascii_alphanumeric.ensures.value ∙ c.if-not-is_ascii_alphanumeric.false) c.range_end.ensures
