-- `run::run` meets its contract. Assumes nothing.
use mathlib.Core.Path.{sym, ◌∙◌}
use native.Mathlib.Omega.{arith}
use Rattle.strings.proofs.Lines.{script-short}
use Rattle.run.proofs.Whole.{not-script, small-work, runnable, read-items, refused-script}
use Rattle.run.proofs.run.Goals as goal

pub returns-then-not-is_script : goal.returns-then-not-is_script
returns-then-not-is_script c = not-script _ _ _ _ _ _ c.is_script.ensures (c.if-not-is_script.true)

pub overflow_add-script : goal.overflow_add-script
overflow_add-script c = omega (arith, script-short _ (sym c.is_script.ensures ∙ c.if-not-is_script.false))

pub returns-then-work-script : goal.returns-then-work-script
returns-then-work-script c = small-work _ _ _ _ _ (sym c.is_script.ensures ∙ c.if-not-is_script.false) c.if-work-script.true

pub read_script-decoded-requires : goal.read_script-decoded-requires
read_script-decoded-requires c = ((sym c.is_script.ensures ∙ c.if-not-is_script.false), c.if-work-script.false)

pub returns-in_default : goal.returns-in_default
returns-in_default c =
    let is = rw c.unwrap_err.ensures at c.read_script-decoded.ensures in
    refused-script _ _ _ _ _ (sym c.is_script.ensures ∙ c.if-not-is_script.false) c.if-work-script.false _ is _ c.refused.ensures

pub run_decoded-requires : goal.run_decoded-requires
run_decoded-requires c =
    let z = runnable _ _ _ (sym c.is_script.ensures ∙ c.if-not-is_script.false) (rw c.in-Ok.is at c.read_script-decoded.ensures) in
    ((z.0, z.2), omega arith)

pub returns : goal.returns
returns c =
    let z = runnable _ _ _ (sym c.is_script.ensures ∙ c.if-not-is_script.false) (rw c.in-Ok.is at c.read_script-decoded.ensures) in
    read-items _ _ _ _ _ (sym c.is_script.ensures ∙ c.if-not-is_script.false) c.if-work-script.false z.0 z.1 _ _ (c.run_decoded.ensures z.0 z.2)
