-- The bytes of the table that a record has, read from its bytes in the buffer. Assumes nothing.
use mathlib.Core.Path.{◌≡◌, sym, ap, ◌∙◌}
use Prim.Native.Nat.{ℕ, ◌+◌, ◌-◌, ◌≤◌}
use native.Mathlib.Omega.{arith}
use mathlib.Core.List.{List, [], ◌∷◌, ◌++◌, append_assoc}
use lib.ListN.{length, drop, get_or, length-append, length-drop}
use lib.Seq.{get_or-drop}
use Rattle.definitions.specs.Journal.{Record, kept, changed, deleted, inserted}
use Rattle.text.specs.Feeds.{place_of, line_length}
use Rattle.editor.specs.Records.{enc, mark, Good, old_bytes, zero_place}
use Rattle.editor.proofs.Records.{text-place, marked, three-bytes, old-bytes-one, line-text, record-line}

module _ (j : List ℕ) (at : ℕ) where
  -- the record's bytes are in the buffer
  pub stands-inside : (r : Record) (z : List ℕ) → drop at j ≡ enc r ++ z → at + 3 ≤ length j
  stands-inside r z is = omega (arith, length-drop at j, ap length is, length-append (enc r) z, three-bytes r)

  pub first_byte : (r : Record) (z : List ℕ) → drop at j ≡ enc r ++ z → get_or j at 0 ≡ mark r
  first_byte r z is =
      let none : at + 0 ≡ at = omega arith in
      rw none at (sym (get_or-drop at j 0 0)) ∙ rw (is, marked r)

  pub whole-inside : (r : Record) (z : List ℕ) → drop at j ≡ enc r ++ z → at + length (enc r) ≤ length j
  whole-inside r z is = omega (arith, length-drop at j, ap length is, length-append (enc r) z, three-bytes r)

  -- its line feed ends it
  pub line-whole : (r : Record) (z : List ℕ) → Good r → drop at j ≡ enc r ++ z → line_length (drop at j) ≡ length (enc r)
  line-whole r z good is = rw is (record-line r z good)

  -- the place of the 0 after the old text
  pub zero-place : (o n z : List ℕ) → Good (changed o n) → drop at j ≡ enc (changed o n) ++ z → zero_place (drop at j) ≡ 2 + length o
  unfolding place_of
  zero-place o n z good is =
      let R : List ℕ = n ++ ((10 ∷ []) ++ z) in
      let q : drop at j ≡ 60 ∷ 62 ∷ (o ++ (0 ∷ R)) = is ∙ simp append_assoc in
      rw (q, text-place 0 (omega arith) o R (line-text o good.0)) (omega arith)

  pub size-inserted : get_or j at 0 ≡ 43 → (n : ℕ) (r : Record) (z : List ℕ) → Good r → drop at j ≡ enc r ++ z → n ≡ length (enc r) → 0 ≡ old_bytes (r ∷ [])
  size-inserted m n (kept l) z good is long = absurd (omega (arith, first_byte (kept l) z is))
  size-inserted m n (changed o p) z good is long = absurd (omega (arith, first_byte (changed o p) z is))
  size-inserted m n (deleted l) z good is long = absurd (omega (arith, first_byte (deleted l) z is))
  size-inserted m n (inserted l) z good is long = sym (old-bytes-one (inserted l))

  module _ (m : get_or j at 0 ≡ 60) where
    pub zero-after-mark : (r : Record) (z : List ℕ) → Good r → drop at j ≡ enc r ++ z → 2 ≤ zero_place (drop at j)
    zero-after-mark (kept l) z good is = absurd (omega (arith, first_byte (kept l) z is))
    zero-after-mark (changed o p) z good is = omega (arith, zero-place o p z good is)
    zero-after-mark (deleted l) z good is = absurd (omega (arith, first_byte (deleted l) z is))
    zero-after-mark (inserted l) z good is = absurd (omega (arith, first_byte (inserted l) z is))

    pub size-changed : (k : ℕ) → k ≡ at + zero_place (drop at j)
        → (n : ℕ) (r : Record) (z : List ℕ) → Good r → drop at j ≡ enc r ++ z → n ≡ length (enc r) → k - at - 1 ≡ old_bytes (r ∷ [])
    size-changed k place n (kept l) z good is long = absurd (omega (arith, first_byte (kept l) z is))
    size-changed k place n (changed o p) z good is long = omega (arith, zero-place o p z good is, old-bytes-one (changed o p))
    size-changed k place n (deleted l) z good is long = absurd (omega (arith, first_byte (deleted l) z is))
    size-changed k place n (inserted l) z good is long = absurd (omega (arith, first_byte (inserted l) z is))

  module _ (m : get_or j at 0 ≡ 43 → ⊥) (m₂ : get_or j at 0 ≡ 60 → ⊥) where
    pub size-plain : (n : ℕ) (r : Record) (z : List ℕ) → Good r → drop at j ≡ enc r ++ z → n ≡ length (enc r) → n - 2 ≡ old_bytes (r ∷ [])
    size-plain n (kept l) z good is long = omega (arith, length-append l (10 ∷ []), old-bytes-one (kept l))
    size-plain n (changed o p) z good is long = absurd (m₂ (first_byte (changed o p) z is))
    size-plain n (deleted l) z good is long = omega (arith, length-append l (10 ∷ []), old-bytes-one (deleted l))
    size-plain n (inserted l) z good is long = absurd (m (first_byte (inserted l) z is))
