-- Lines and fields by their places, and the numbers and bytes that stand in fields.
use Rattle.std.specs.Prelude.{true, false, not, List, [], ◌∷◌, ℕ, zero, suc, ◌+◌, ◌-◌, ◌*◌, ◌≤◌, min, length, drop, eqb, leb}
use Rattle.text.specs.Lines.{part}
use Rattle.scans.specs.Leading.{leading}
use Rattle.cases.specs.declared.fields.Part.{Part}
use Rattle.cases.specs.Hex.{digit_of, bytes_for}

-- the place of the next byte b from `at` on; the end where there is none
unfoldable pub next_of : ℕ → List ℕ → ℕ → ℕ
next_of b s at = at + leading (λ x. not (eqb x b)) (length s - at) (drop at s)

-- the field after k spaces from `at` on; what follows the last space where there are fewer
unfoldable pub field_from : ℕ → List ℕ → ℕ → Part
field_from zero s at = record { start = at; end = next_of 32 s at }
field_from (suc k) s at =
    elim (leb (length s) (next_of 32 s at)) [ true ↦ record { start = at; end = next_of 32 s at } | false ↦ field_from k s (next_of 32 s at + 1) ]

-- a field lies in its line
pub record FieldIn (s : List ℕ) (f : Part) : Type 0 where
  pub ordered : f.start ≤ f.end
  pub inside : f.end ≤ length s

-- the bytes of a field
unfoldable pub field_bytes : List ℕ → Part → List ℕ
field_bytes s f = part f.start f.end s

-- a decimal number, after the digits whose value is n
unfoldable pub value_of : ℕ → List ℕ → ℕ
value_of n [] = n
value_of n (b ∷ s) = value_of (10 * n + digit_of b) s

-- the number in the field after k spaces, at most 65,535
unfoldable pub number_in : ℕ → List ℕ → ℕ
number_in k s = min 65535 (value_of 0 (field_bytes s (field_from k s 0)))

-- the bytes in the field after k spaces, as many as there is room for
unfoldable pub hex_in : ℕ → ℕ → List ℕ → List ℕ
hex_in k room s = bytes_for room (field_bytes s (field_from k s 0))
