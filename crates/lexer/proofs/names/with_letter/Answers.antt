use Prim.Native.Nat.{ℕ, ◌+◌, ◌*◌}
use Rattle.lexer.proofs.OneByte.{upper-below}
use mathlib.Core.Path.{sym, ap, ◌∙◌}
use native.Mathlib.Omega.{arith}
use Rattle.lexer.proofs.Letters.{letter-counts, letter-over, letters-room}
use Rattle.lexer.proofs.names.with_letter.Goals as goal

pub returns-then-left-eq0 : goal.returns-then-left-eq0
returns-then-left-eq0 c = sym (letter-over _ _ _ c.if-left-eq0.true)

pub overflow_mul-result : goal.overflow_mul-result
overflow_mul-result c = omega (arith, letters-room c.args.left c.args.n (omega arith) c.requires)

pub overflow_add-result : goal.overflow_add-result
overflow_add-result c = omega (arith, letters-room c.args.left c.args.n (omega arith) c.requires, upper-below c.args.b (omega arith))

pub returns : goal.returns
returns c =
    let a = c.args in
    ap (λ (u : ℕ). a.n * 256 + u) (c.from.ensures ∙ c.upper.ensures) ∙ sym (letter-counts a.left a.n a.b (omega arith))
