-- The bytes that deleted lines leave, and how they are counted in the buffer. Assumes nothing.
use mathlib.Core.Path.{◌≡◌, refl}
use Prim.Native.Nat.{ℕ, ◌+◌, ◌-◌, ◌≤◌}
use native.Mathlib.Omega.{arith}
use mathlib.Core.List.{List, [], ◌∷◌, ◌++◌, reverse_aux}
use lib.ListN.{length}
use Rattle.definitions.specs.Journal.{Record, kept, changed, deleted, inserted, erase, record_length, journal_length}
use Rattle.theorems.specs.JournalBytes.{length_both}
use Rattle.editor.specs.Shows.{Holds, strike_over}
use Rattle.editor.specs.declared.State.{State}
use Rattle.editor.proofs.Records.{all-length}
use Rattle.editor.proofs.Inserting.{held-journal, length-reverse}
use Rattle.spans.specs.Spans.{freed_by, Stands}
use Rattle.spans.proofs.Struck.{all_append}
use Rattle.spans.proofs.Standing.{stands-length}
use Rattle.spans.proofs.Erasing.{erased-length}
use Rattle.spans.proofs.Sums.{Counting}
use Rattle.replacing.specs.Freed.{freed}

-- no more than the records have
freed-most : (m : List Record) → freed m ≤ journal_length m
unfolding freed freed_by journal_length record_length
freed-most [] = omega arith
freed-most (kept l ∷ m) = omega (arith, freed-most m)
freed-most (changed o n ∷ m) = omega (arith, freed-most m)
freed-most (deleted l ∷ m) = omega (arith, freed-most m)
freed-most (inserted l ∷ m) = omega (arith, freed-most m)

pub freed-none : freed [] ≡ 0
unfolding freed
freed-none = refl

pub freed-cons : (r : Record) (rs : List Record) → freed (r ∷ rs) ≡ freed_by r + freed rs
unfolding freed
freed-cons r rs = refl

-- the count of bytes is a number of the machine's
pub counting-fits : {j : List ℕ} {at next n : ℕ} (m : List Record) {d : List Record} → Stands j at (m ++ d) → Counting freed (freed m) j next n d → n ≤ length j
counting-fits m {d} h w = omega (arith, w.sum, freed-most m, all-length m, all_append m d, stands-length h)

-- ---- the journal's length

one_more : (r : Record) (c : List Record) → journal_length (r ∷ c) ≡ record_length r + journal_length c
unfolding journal_length
one_more r c = refl

struck-length : (m c : List Record) → journal_length (strike_over m c) + freed m ≡ journal_length m + journal_length c
unfolding strike_over freed
struck-length [] c = unfold journal_length in omega arith
struck-length (r ∷ m) c = omega (arith, struck-length m (erase r ++ c), erased-length r c, one_more r c, one_more r m)

-- THE LAW OF ROOM: lines that are deleted leave so much less of a journal
pub strike-length : (m c d : List Record) → journal_length (reverse_aux (strike_over m c) d) + freed m ≡ journal_length (reverse_aux c (m ++ d))
strike-length m c d = omega (arith, length-reverse (strike_over m c) d, length-reverse c (m ++ d), length_both m d, struck-length m c)

-- the gap and what is freed are within the buffer
pub gap-fits : {j : List ℕ} {st : State} (c m d : List Record) → Holds j st c (m ++ d) → (st.back - st.front) + freed m ≤ length j
gap-fits c m d h = omega (arith, held-journal h, strike-length m c d)
