use mathlib.Core.Path.{sym, ◌∙◌}
use native.Mathlib.Omega.{arith}
use Rattle.lexer.proofs.Inserts.{no-z-at, z-never, z-not-last, z-here, no-z-next}
use Rattle.lexer.proofs.lines.lines_to_z.Goals as goal

pub loop-i-init : goal.loop-i-init
loop-i-init c = (omega arith, omega arith, no-z-at c.args.s.now c.args.at)

pub is_z-requires : goal.is_z-requires
is_z-requires c = (omega arith, omega arith)

pub returns-then-is_z : goal.returns-then-is_z
returns-then-is_z c = z-here c.args.in_group c.args.s.now c.args.at c.loop-i.i (omega arith) (omega arith) c.loop-i.invariant.2 c.string_end-e.result (omega arith) (omega arith) c.string_end-e.ensures.text (omega arith) (sym c.is_z.ensures ∙ c.if-is_z.true)

pub returns-then-s-e : goal.returns-then-s-e
returns-then-s-e c = z-not-last c.args.in_group c.args.s.now c.args.at c.loop-i.i (omega arith) (omega arith) c.loop-i.invariant.2 c.string_end-e.result (omega arith) (omega arith) c.string_end-e.ensures.text (omega arith) c.no_z.result (sym c.is_z.ensures ∙ c.if-is_z.false) (omega arith) c.no_z.ensures

pub loop-i-preserved : goal.loop-i-preserved
loop-i-preserved c = (omega arith, omega arith, no-z-next c.args.in_group c.args.s.now c.args.at c.loop-i.i (omega arith) (omega arith) c.loop-i.invariant.2 c.string_end-e.result (omega arith) (omega arith) c.string_end-e.ensures.text (omega arith) (sym c.is_z.ensures ∙ c.if-is_z.false) (omega arith))

pub returns : goal.returns
returns c = z-never c.args.in_group c.args.s.now c.args.at c.loop-i.i (omega arith) (omega arith) c.loop-i.invariant.2 c.no_z-2.result (omega arith) c.no_z-2.ensures
