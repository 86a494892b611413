-- The journal bytes that the script's lines take as inserted records. Assumes nothing.
use mathlib.Core.Path.{◌≡◌, refl}
use mathlib.Core.List.{List, ◌∷◌, map}
use Prim.Native.Nat.{ℕ, ◌+◌, ◌-◌, ◌≤◌, ◌<◌}
use native.Mathlib.Omega.{arith}
use lib.ListN.{length}
use Rattle.definitions.specs.Bytes.{Line, lines_of}
use Rattle.definitions.specs.Journal.{inserted, record_length, journal_length}
use Rattle.items.specs.Words.{part_of}
use Rattle.inserts.specs.Lines.{feed_place, room_of}
use Rattle.inserts.proofs.Lines.{part_length, stop-inside, lines_none, lines-first}

line-room : (l : Line) (ls : List Line) → journal_length (map inserted (l ∷ ls)) ≡ 3 + length l + journal_length (map inserted ls)
unfolding journal_length record_length
line-room l ls = refl

module _ (s : List ℕ) (at end : ℕ) (inside : end ≤ length s) where
  pub room-none : end ≤ at → room_of s at end ≡ 0
  unfolding journal_length
  room-none h = rw (lines_none s at end inside h)

  pub room-first : at < end → (e : ℕ) → e ≡ at + feed_place (part_of s at end) → room_of s at end ≡ (e - at + 3) + room_of s (e + 1) end
  room-first h e q =
      let z : e ≤ end = omega (arith, stop-inside s at end inside (omega arith)) in
      rw (lines-first s at end inside h, ← q, line-room (part_of s at e) (lines_of (part_of s (e + 1) end)))
      (omega (arith, part_length s at e (omega arith)))
