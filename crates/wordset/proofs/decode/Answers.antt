-- `wordset::decode` meets its contract. The loop's invariant: the string is read up to i. Assumes nothing.
use native.Mathlib.Omega.{arith}
use Rattle.std.proofs.lemmas.Result.{err_from_is_err_and}
use Rattle.wordset.proofs.Reading.{read_none, put-over, put-length, read_all, read-misused, bytes-text, bytes-within, read-on}
use Rattle.wordset.proofs.decode.Goals as goal

pub loop-i-init : goal.loop-i-init
loop-i-init c =
    let a = c.args in
    let pre = c.requires in
    read_none a.w.now a.k c.put_three.new.w c.put_three.ensures a.s.now a.from a.to (omega arith) (omega arith) pre.3

pub put_bytes-requires : goal.put_bytes-requires
put_bytes-requires c =
    let a = c.args in
    let l = c.loop-i in
    let w₀ = c.put_three.new.w in
    let e = c.in_ok-name.ensures in
    let text = bytes-text w₀ a.k a.s.now a.from a.to l.w l.i (omega arith) l.invariant (omega arith) _ e in
    let long = put-length w₀ a.k l.w l.invariant.put in
    (omega arith, text.0, text.1)

pub overflow_add-i : goal.overflow_add-i
overflow_add-i c =
    let a = c.args in
    let l = c.loop-i in
    let w₀ = c.put_three.new.w in
    let e = c.in_ok-name.ensures in
    let within = bytes-within w₀ a.k a.s.now a.from a.to l.w l.i (omega arith) l.invariant (omega arith) _ e in
    omega (arith, within.1)

pub loop-i-smaller : goal.loop-i-smaller
loop-i-smaller c =
    let a = c.args in
    let l = c.loop-i in
    let w₀ = c.put_three.new.w in
    let e = c.in_ok-name.ensures in
    let within = bytes-within w₀ a.k a.s.now a.from a.to l.w l.i (omega arith) l.invariant (omega arith) _ e in
    omega (arith, within.0, within.1)

pub loop-i-preserved : goal.loop-i-preserved
loop-i-preserved c =
    let a = c.args in
    let l = c.loop-i in
    let w₀ = c.put_three.new.w in
    let e = c.in_ok-name.ensures in
    read-on w₀ a.k a.s.now a.from a.to l.w l.i (omega arith) l.invariant (omega arith) _ e
    c.put_bytes.new.w c.put_bytes.ensures

pub returns-in_err-name : goal.returns-in_err-name
returns-in_err-name c =
    let a = c.args in
    let l = c.loop-i in
    let w₀ = c.put_three.new.w in
    let p = err_from_is_err_and c.from_residual.result c.from_residual.ensures.1 in
    (put-over a.w.now a.k w₀ c.put_three.ensures l.w l.invariant.put, rw (p.1, p.2) (read-misused w₀ a.k a.s.now a.from a.to l.w l.i (omega arith) l.invariant (omega arith) _ c.in_err-name.ensures))

pub shape_of-w : goal.shape_of-w
shape_of-w c =
    let a = c.args in
    let l = c.loop-i in
    put-length a.w.now a.k l.w (put-over a.w.now a.k c.put_three.new.w c.put_three.ensures l.w l.invariant.put)

pub returns : goal.returns
returns c =
    let a = c.args in
    let l = c.loop-i in (
      put-over a.w.now a.k c.put_three.new.w c.put_three.ensures l.w l.invariant.put,
      read_all c.put_three.new.w a.k a.s.now a.from a.to l.w l.i (omega arith) l.invariant (omega arith),
    )
