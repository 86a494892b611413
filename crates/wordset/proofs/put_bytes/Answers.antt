-- `wordset::put_bytes` meets its contract. The loop's invariant: with the bytes from b on added it is as with all of them. Assumes nothing.
use mathlib.Core.Path.{sym, ap, ◌∙◌}
use mathlib.Core.List.{List}
use Prim.Native.Nat.{ℕ, suc, ◌+◌, ◌-◌}
use native.Mathlib.Omega.{arith}
use lib.ListN.{length, length-set}
use Rattle.wordset.specs.Decoding.{with_byte, with_bytes}
use Rattle.wordset.proofs.Setting.{bytes_on, bytes-none}
use Rattle.wordset.proofs.put_bytes.Goals as goal

pub loop-b-preserved : goal.loop-b-preserved
loop-b-preserved c =
    let l = c.loop-b in
    let a = c.args in
    let is = c.put_byte.ensures in (
      omega arith,
      ap length is ∙ simp length-set l.invariant.1,
      l.invariant.2 ∙ bytes_on l.w a.k l.b a.y (omega arith) ∙ ap (λ (w : List ℕ). with_bytes w a.k (l.b + 1) (suc a.y - (l.b + 1))) (sym is),
    )

pub returns : goal.returns
returns c =
    let l = c.loop-b in
    let a = c.args in
    sym (l.invariant.2 ∙ bytes-none l.w a.k l.b a.y (omega arith))

-- after the last byte
pub returns-2 : goal.returns-2
returns-2 c =
    let l = c.loop-b in
    let a = c.args in
    let is = c.put_byte.ensures in
    is ∙ sym (l.invariant.2 ∙ bytes_on l.w a.k l.b a.y (omega arith) ∙ bytes-none (with_byte l.w a.k l.b) a.k (l.b + 1) a.y (omega arith))
