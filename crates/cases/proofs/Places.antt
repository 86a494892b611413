-- Laws of lines, fields and numbers. Assumes nothing.
use mathlib.Core.Path.{◌≡◌}
use mathlib.Core.List.{List, [], ◌∷◌}
use Prim.Native.Nat.{ℕ, zero, suc, ◌+◌, ◌-◌, ◌*◌, ◌≤◌, ◌<◌, min}
use native.Mathlib.Nat.{not-suc-le-zero}
use native.Mathlib.Numerals.{add-one, sub-one}
use native.Mathlib.Omega.{arith}
use lib.ListN.{length, drop, get_or, drop_of_length-le}
use lib.Seq.{drop-cons}
use borrow.Author.Tests.{le-leb, lt-leb}
use Rattle.text.specs.Lines.{part}
use Rattle.scans.specs.Leading.{is_of}
use Rattle.scans.specs.declared.Kind.TheVariants.{Not}
use Rattle.scans.proofs.Runs.{reach}
use Rattle.cases.specs.declared.fields.Part.{Part}
use Rattle.cases.specs.Hex.{digit_of, bytes_for}
use Rattle.cases.specs.Fields.{next_of, field_from, field_bytes, value_of, number_in, hex_in}

pub next-is : (b : ℕ) (s : List ℕ) (at r : ℕ) → r ≡ reach (is_of (Not b)) s at (length s) → r ≡ next_of b s at
unfolding next_of is_of
next-is b s at r e = e

-- ---- fields

module _ (s : List ℕ) (at e : ℕ) (is : e ≡ next_of 32 s at) where
  pub field-here : (k : ℕ) → k ≤ 0 → record { start = at; end = e } ≡ field_from k s at
  unfolding field_from
  field-here zero h = rw is
  field-here (suc k) h = absurd (not-suc-le-zero h)

  pub field-last : (k : ℕ) → 0 < k → length s ≤ e → record { start = at; end = e } ≡ field_from k s at
  unfolding field_from
  field-last zero h l = absurd (not-suc-le-zero h)
  field-last (suc k) h l = rw (is) (rw (le-leb (length s) (next_of 32 s at) (rw (← is) l), field_from))

  pub field-on : (k : ℕ) → 0 < k → e < length s → field_from k s at ≡ field_from (k - 1) s (e + 1)
  unfolding field_from
  field-on zero h l = absurd (not-suc-le-zero h)
  field-on (suc k) h l = rw (sub-one, is) (rw (lt-leb (length s) (next_of 32 s at) (rw (← is) l), field_from))

-- ---- numbers

value-least : (n : ℕ) (s : List ℕ) → n ≤ value_of n s
unfolding value_of
value-least n [] = omega arith
value-least n (b ∷ s) = omega (arith, value-least (10 * n + digit_of b) s)

module _ (s : List ℕ) (n i : ℕ) where
  pub value-end : length s ≤ i → value_of n (drop i s) ≡ n
  unfolding value_of
  value-end h = rw (drop_of_length-le s {i = i} h)

  value-more : i < length s → value_of n (drop i s) ≡ value_of (10 * n + digit_of (get_or s i 0)) (drop (i + 1) s)
  unfolding value_of
  value-more h = rw (add-one i, drop-cons s i 0 h)

  -- one digit more, of value d
  pub value_on : (d : ℕ) → i < length s → d ≡ digit_of (get_or s i 0) → value_of n (drop i s) ≡ value_of (10 * n + d) (drop (i + 1) s)
  value_on d h e = rw e (value-more h)

  pub value-over : (d : ℕ) → i < length s → d ≡ digit_of (get_or s i 0) → 65535 < 10 * n + d → min 65535 (value_of n (drop i s)) ≡ 65535
  value-over d h e k = rw (value_on d h e) (omega (arith, value-least (10 * n + d) (drop (i + 1) s)))

-- ---- what stands in a field

module _ (k : ℕ) (s : List ℕ) (f : Part) (is : f ≡ field_from k s 0) where
  pub number-in : (r : ℕ) → r ≡ min 65535 (value_of 0 (part f.start f.end s)) → r ≡ number_in k s
  unfolding number_in field_bytes
  number-in r e = rw (← is) e

  pub hex-in : (room : ℕ) → bytes_for room (part f.start f.end s) ≡ hex_in k room s
  unfolding hex_in field_bytes
  hex-in room = rw (← is)
