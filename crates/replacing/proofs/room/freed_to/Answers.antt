use mathlib.Core.Path.{ap, ◌∙◌}
use Prim.Native.Nat.{ℕ, ◌+◌}
use native.Mathlib.Omega.{arith}
use Rattle.spans.specs.Spans.{freed_by}
use Rattle.spans.proofs.Standing.{stands-held, stands-in, stands-record}
use Rattle.spans.proofs.Sums.{counting-first, counting-less, counting-done, counting-on}
use Rattle.replacing.proofs.Freed.{freed-none, freed-cons, counting-fits}
use Rattle.replacing.proofs.room.freed_to.Goals as goal

pub loop-at-init : goal.loop-at-init
loop-at-init c = λ m d h is. record { left = m; stands = h; sum = omega arith }

pub record_end-next-requires : goal.record_end-next-requires
record_end-next-requires c =
    let f = counting-first (let w = c.requires in c.loop-at.invariant w.1 w.2 (stands-held w.3) w.4) _ c.requires.4 c.loop-at-test.true in
    omega (arith, stands-in f.2)

pub freed_at-n-requires : goal.freed_at-n-requires
freed_at-n-requires c =
    let f = counting-first (let w = c.requires in c.loop-at.invariant w.1 w.2 (stands-held w.3) w.4) _ c.requires.4 c.loop-at-test.true in
    (f.0, f.1, f.2, c.record_end-next.ensures ∙ ap (λ (i : ℕ). c.loop-at.at + i) (stands-record f.2))

pub overflow_add-n : goal.overflow_add-n
overflow_add-n c =
    let w = counting-on (let w = c.requires in c.loop-at.invariant w.1 w.2 (stands-held w.3) w.4) _ c.requires.4 freed_by freed-cons c.loop-at-test.true _ (c.loop-at.n + c.freed_at-n.result) c.record_end-next.ensures (λ r rs h to. ap (λ (i : ℕ). c.loop-at.n + i) (c.freed_at-n.ensures r rs h to)) in
    omega (arith, counting-fits _ (stands-held c.requires.3) w)

pub loop-at-smaller : goal.loop-at-smaller
loop-at-smaller c =
    let w = counting-less (let w = c.requires in c.loop-at.invariant w.1 w.2 (stands-held w.3) w.4) _ c.requires.4 c.loop-at-test.true _ c.record_end-next.ensures in
    omega (arith, w.0, w.1)

pub loop-at-preserved : goal.loop-at-preserved
loop-at-preserved c =
    λ m d h is.
    counting-on (c.loop-at.invariant m d h is) _ is freed_by freed-cons c.loop-at-test.true _ _ c.record_end-next.ensures (λ r rs s to. ap (λ (i : ℕ). c.loop-at.n + i) (c.freed_at-n.ensures r rs s to))

pub returns : goal.returns
returns c =
    let l = c.loop-at in
    λ b m d h is. counting-done (l.invariant m d (stands-held h) is) _ is freed-none (λ x. let y = c.loop-at-test.false in omega arith)
