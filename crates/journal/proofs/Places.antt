-- The record at a place of a journal's bytes: one law for each way out of the code that finds it. Assumes nothing.
use Rattle.std.proofs.Common.{Some, None, true, false, true≢false}
use Rattle.std.proofs.lemmas.List.{take_all}
use denote.Enum.Bare.{sameb}
use Rattle.journal.specs.contracts.records.Mark.{the_type}
use mathlib.Core.Path.{◌≡◌, refl, sym, ap, ◌∙◌}
use mathlib.Core.List.{List, [], ◌∷◌}
use Prim.Native.Nat.{ℕ, zero, suc, ◌+◌, ◌-◌, ◌≤◌, ◌<◌}
use native.Mathlib.Numerals.{add-one, add-two}
use native.Mathlib.Omega.{arith}
use lib.ListN.{length, take, drop, get_or, length-drop, drop_of_length-le}
use lib.Seq.{drop-cons}
use Rattle.text.specs.Lines.{line_end}
use Rattle.journal.specs.Records.{mark_of, mark_in, after_second, after_first, after_mark, with_mark, record_at}
use Rattle.journal.specs.declared.records.Mark.{Mark}
use Rattle.journal.specs.declared.records.Mark.TheVariants.{Kept, Changed, Deleted, Inserted}

-- ---- the mark at a place

pub mark-none : (j : List ℕ) (at : ℕ) → length j ≤ at → mark_in (drop at j) ≡ None
unfolding mark_in
mark-none j at h = rw (drop_of_length-le j {i = at} h)

mark-one : (j : List ℕ) (at : ℕ) → at < length j → length j - at < 2 → mark_in (drop at j) ≡ None
unfolding mark_in
mark-one j at h k = rw (drop-cons j at 0 h, drop_of_length-le j {i = suc at} (omega arith))

pub mark-short : (j : List ℕ) (at n : ℕ) → n < 2 → n + at ≡ length j → mark_in (drop at j) ≡ None
mark-short j at zero h e = mark-none j at (omega arith)
mark-short j at (suc n) h e = mark-one j at (omega arith) (omega arith)

-- the bytes of a slice from a place on
pub mark-long : (j : List ℕ) (at : ℕ) (v : List ℕ) → v ≡ take (length j - at) (drop at j) → 2 ≤ length v → mark_of (get_or v 0 0) (get_or v 1 0) ≡ mark_in (drop at j)
unfolding mark_in
mark-long j at v e h = go v h ∙ ap mark_in (e ∙ take_all (length j - at) (drop at j) (omega (arith, length-drop at j)))
  where
    go : (v : List ℕ) → 2 ≤ length v → mark_of (get_or v 0 0) (get_or v 1 0) ≡ mark_in v
    go [] k = absurd (omega arith)
    go (a ∷ []) k = absurd (omega arith)
    go (a ∷ b ∷ bs) k = refl

two : (j : List ℕ) (at : ℕ) → at + 2 ≤ length j → drop at j ≡ get_or j at 0 ∷ get_or j (at + 1) 0 ∷ drop (at + 2) j
two j at h =
    let near : at < length j = omega arith in
    let next : suc at < length j = omega arith in
    drop-cons j at 0 near ∙ ap (λ (r : List ℕ). get_or j at 0 ∷ r) (drop-cons j (suc at) 0 next ∙ rw (add-one at, add-two at))

pub mark-two : (j : List ℕ) (at : ℕ) → at + 2 ≤ length j → mark_in (drop at j) ≡ mark_of (get_or j at 0) (get_or j (at + 1) 0)
unfolding mark_in
mark-two j at h = rw (two j at h)

-- a mark: two bytes stand there
pub mark-there : (j : List ℕ) (at : ℕ) (m : Mark) → mark_in (drop at j) ≡ Some m
    → (a : ℕ) × (b : ℕ) × (at + 2 ≤ length j) × (drop at j ≡ a ∷ b ∷ drop (at + 2) j) × (mark_of a b ≡ Some m)
unfolding mark_in
mark-there j at m h = go (drop at j) refl h
  where
    room : (bs : List ℕ) (a b : ℕ) → drop at j ≡ a ∷ b ∷ bs → at + 2 ≤ length j
    room bs a b e = let n : length j - at ≡ suc (suc (length bs)) = sym (length-drop at j) ∙ ap length e in omega arith

    go : (bs : List ℕ) → drop at j ≡ bs → mark_in bs ≡ Some m
        → (a : ℕ) × (b : ℕ) × (at + 2 ≤ length j) × (drop at j ≡ a ∷ b ∷ drop (at + 2) j) × (mark_of a b ≡ Some m)
    go [] e k = absurd (let z : ◌≡◌ {A = ℕ} 0 1 = cc in omega arith)
    go (a ∷ []) e k = absurd (let z : ◌≡◌ {A = ℕ} 0 1 = cc in omega arith)
    go (a ∷ b ∷ bs) e k =
        let fits : at + 2 ≤ length j = room bs a b e in
        (get_or j at 0, get_or j (at + 1) 0, fits, two j at fits, sym (mark-two j at fits) ∙ ap mark_in e ∙ k)

-- ---- `==` with the mark of a changed record

pub is-changed : (m : Mark) → true ≡ sameb the_type m Changed → m ≡ Changed
is-changed Kept e = absurd (true≢false e)
is-changed Changed e = refl
is-changed Deleted e = absurd (true≢false e)
is-changed Inserted e = absurd (true≢false e)

pub is-other : (m : Mark) → false ≡ sameb the_type m Changed → m ≡ Changed → ⊥
is-other m e h = true≢false (sym (e ∙ ap (λ (n : Mark). sameb the_type n Changed) h))

-- ---- the ways out of `record_at`

module _ (j : List ℕ) (at : ℕ) where
  pub no-mark : mark_in (drop at j) ≡ None → record_at j at ≡ None
  unfolding record_at with_mark
  no-mark h = rw h

  module _ (m : Mark) (h : mark_in (drop at j) ≡ Some m) where
    pub no-first : line_end (at + 2) (drop (at + 2) j) ≡ None → record_at j at ≡ None
    unfolding record_at with_mark after_mark
    no-first k = rw (h, k)

    module _ (mid : ℕ) (k : line_end (at + 2) (drop (at + 2) j) ≡ Some mid) where
      pub first : record_at j at ≡ after_first j at mid m
      unfolding record_at with_mark after_mark
      first = rw (h, k)

      pub found-other : (m ≡ Changed → ⊥) → record_at j at ≡ Some (record { at = at; mark = m; mid = mid; end = mid })
      unfolding after_first
      found-other e = first ∙ go m e
        where
          go : (n : Mark) → (n ≡ Changed → ⊥) → after_first j at mid n ≡ Some (record { at = at; mark = n; mid = mid; end = mid })
          go Kept e = refl
          go Changed e = absurd (e refl)
          go Deleted e = refl
          go Inserted e = refl

      pub found-kept : m ≡ Kept → record_at j at ≡ Some (record { at = at; mark = m; mid = mid; end = mid })
      unfolding after_first
      found-kept e = first ∙ rw e

      pub found-deleted : m ≡ Deleted → record_at j at ≡ Some (record { at = at; mark = m; mid = mid; end = mid })
      unfolding after_first
      found-deleted e = first ∙ rw e

      pub found-inserted : m ≡ Inserted → record_at j at ≡ Some (record { at = at; mark = m; mid = mid; end = mid })
      unfolding after_first
      found-inserted e = first ∙ rw e

      pub no_second : m ≡ Changed → line_end (mid + 1) (drop (mid + 1) j) ≡ None → record_at j at ≡ None
      unfolding after_first after_second
      no_second e f = first ∙ rw (e, f)

      pub found-changed : m ≡ Changed → (end : ℕ) → line_end (mid + 1) (drop (mid + 1) j) ≡ Some end
          → record_at j at ≡ Some (record { at = at; mark = m; mid = mid; end = end })
      unfolding after_first after_second
      found-changed e end f = first ∙ rw (e, f)
