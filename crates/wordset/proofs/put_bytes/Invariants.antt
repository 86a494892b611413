-- `wordset::put_bytes` meets its contract. The loop's invariant: with the bytes from b on added it is as with all of them. Assumes nothing.
use mathlib.Core.Path.{◌≡◌}
use Prim.Native.Nat.{suc, ◌-◌, ◌≤◌}
use lib.ListN.{length}
use Rattle.wordset.specs.Decoding.{with_bytes}
use Rattle.wordset.proofs.put_bytes.Given as goal

abbrev pub invariant-loop-b : goal.invariant-loop-b
invariant-loop-b l = (l.x ≤ l.b) × (length l.w ≡ length l.initial.w) × (with_bytes l.initial.w l.k l.x (suc l.y - l.x) ≡ with_bytes l.w l.k l.b (suc l.y - l.b))
