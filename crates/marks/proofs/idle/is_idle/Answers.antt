-- `marks::idle::is_idle` meets its contract. The loop's invariant: the marks are idle exactly if those that are left are. Assumes nothing.
use mathlib.Core.Path.{◌≡◌, sym, ap, ◌∙◌}
use mathlib.Core.Bool.{Bool, true, false, ◌&&◌}
use mathlib.Core.List.{List}
use Prim.Native.Nat.{ℕ, suc, ◌+◌, ◌≤◌, ◌<◌}
use native.Mathlib.Numerals.{add-one}
use native.Mathlib.Omega.{arith}
use lib.ListN.{length, take, drop, get_or, drop_of_length-le}
use lib.Seq.{drop-cons}
use lib.Dec.{eqb}
use borrow.Author.Tests.{eq-eqb, ne_eqb}
use Rattle.marks.specs.Sweeping.{never}
use Rattle.marks.specs.Idling.{are_idle}
use Rattle.marks.proofs.idle.is_idle.Goals as goal

module _ (ms : List ℕ) (k : ℕ) where
  first-mark : k < length ms → are_idle (drop k ms) ≡ (eqb (get_or ms k 0) 65535 && are_idle (drop (suc k) ms))
  unfolding are_idle never
  first-mark h = ap are_idle (drop-cons ms k 0 h)

  first-set : k < length ms → (get_or ms k 0 ≡ 65535 → ⊥) → are_idle (drop k ms) ≡ false
  first-set h other = first-mark h ∙ ap (λ (t : Bool). t && are_idle (drop (suc k) ms)) (ne_eqb (get_or ms k 0) 65535 other)

  first-idle : k < length ms → get_or ms k 0 ≡ 65535 → are_idle (drop k ms) ≡ are_idle (drop (k + 1) ms)
  first-idle h same =
      first-mark h ∙ ap (λ (t : Bool). t && are_idle (drop (suc k) ms)) (eq-eqb (get_or ms k 0) 65535 same)
      ∙ ap (λ (i : ℕ). are_idle (drop i ms)) (sym (add-one k))

  none_left : length ms ≤ k → are_idle (drop k ms) ≡ true
  unfolding are_idle
  none_left e = ap are_idle (drop_of_length-le ms {i = k} e)

pub returns-then-mark : goal.returns-then-mark
returns-then-mark c =
    let l = c.loop-mark in
    sym (l.invariant ∙ first-set (take c.args.n c.args.marks.now) l.mark-index c.loop-mark-test.true c.if-mark.true)

pub loop-mark-preserved : goal.loop-mark-preserved
loop-mark-preserved c =
    let l = c.loop-mark in
    l.invariant ∙ first-idle (take c.args.n c.args.marks.now) l.mark-index c.loop-mark-test.true c.if-mark.false

pub returns : goal.returns
returns c =
    let l = c.loop-mark in
    sym (l.invariant ∙ none_left (take c.args.n c.args.marks.now) l.mark-index (omega arith))
