-- A string of the script by its word. Assumes nothing.
use mathlib.Core.Path.{◌≡◌, sym, ap, ◌∙◌}
use mathlib.Core.List.{List}
use Prim.Native.Nat.{ℕ, ◌+◌, ◌-◌, ◌≤◌}
use native.Mathlib.Omega.{arith}
use lib.ListN.{length, take, drop}
use Rattle.definitions.specs.Bytes.{Line}
use Rattle.items.specs.Words.{part_of, StringIn}
use Rattle.items.specs.Arguments.{string_start, string_length}
use Rattle.items.proofs.FirstWords.{below, above}

module _ {s : List ℕ} {word : ℕ} {l : Line} (w : StringIn s word l) (small : length s ≤ 16384) where
  start_is : string_start word ≡ w.start
  start_is = below word w.start (length l) (omega (arith, w.inside)) w.word_is

  length-is : string_length word ≡ length l
  length-is = above word w.start (length l) (omega (arith, w.inside)) w.word_is

  pub string-inside : string_start word + string_length word ≤ length s
  string-inside = omega (arith, start_is, length-is, w.inside)

  pub string-is : take (string_length word) (drop (string_start word) s) ≡ l
  unfolding part_of
  string-is =
      let n : w.start + length l - w.start ≡ length l = omega arith in
      rw (start_is, length-is) (ap (λ (x : ℕ). take x (drop w.start s)) (sym n) ∙ sym w.is)
