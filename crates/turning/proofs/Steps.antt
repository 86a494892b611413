-- The two steps of turning a journal round: a stretch, and a kept or changed record. Assumes nothing.
use Rattle.std.proofs.Common.{Some, None}
use mathlib.Core.Path.{◌≡◌, sym, ap, subst, ◌∙◌}
use mathlib.Core.List.{List, ◌∷◌}
use Prim.Native.Nat.{ℕ, ◌+◌, ◌-◌, ◌≤◌}
use native.Mathlib.Omega.{arith}
use lib.ListN.{length}
use Rattle.definitions.specs.Journal.{Record, record_bytes, record_length, journal_length}
use Rattle.definitions.specs.Joining.{turn_one}
use Rattle.theorems.specs.Arranged.{IsApart}
use Rattle.text.specs.Lines.{part}
use Rattle.text.specs.Buffer.{laid}
use Rattle.text.proofs.Parts.{part_length}
use Rattle.text.proofs.Buffer.{laid-length, laid-laid}
use Rattle.journal.specs.Records.{record_at, record_in, Left}
use Rattle.journal.specs.Views.{Puts}
use Rattle.journal.specs.declared.records.Mark.TheVariants.{Changed}
use Rattle.journal.specs.declared.records.Extent.{Extent}
use Rattle.journal.proofs.Here.{here, nowhere}
use Rattle.journal.proofs.Left.{none-some, some_is, left-next}
use Rattle.journal.proofs.Writing.{puts-both}
use Rattle.turning.specs.Rows.{row_of, after_row, row_bytes, came_next, gone_first, stretch_length, stretch_turned}
use Rattle.turning.proofs.Places.{found-length, one_kept, one-changed, cons-is, left-first, left_after}
use Rattle.turning.proofs.Rows.{row-split, gone_long, came-long}

-- ---- a stretch

module _ (j d : List ℕ) (at : ℕ) (rs : List Record) (l : Left j at rs) (inside : at ≤ length j) (room : length j ≤ length d)
    (left : ℕ) (is-left : (qs : List Record) → Left j at qs → left ≡ at + journal_length (row_of 45 qs)) where
  -- the `++` are left after the `--`
  after-gone : Left j left (after_row 45 rs) × (left ≤ length j)
  after-gone = rw (is-left rs l) (left_after j at (gone_first rs) (after_row 45 rs) (rw (row-split 45 rs) at l) inside)

  came-end : left + journal_length (came_next rs) ≤ length j
  came-end = (left_after j left (came_next rs) (after_row 43 (after_row 45 rs)) (rw (row-split 43 (after_row 45 rs)) at after-gone.0) after-gone.1).1

  came-room : at + length (row_bytes 45 (came_next rs)) ≤ length d
  came-room = omega (arith, came-end, is-left rs l, came-long 45 (after_row 45 rs))

  pub came-asks : (qs : List Record) × Left j left qs × (at + length (row_bytes 45 (row_of 43 qs)) ≤ length d)
  came-asks = (after_row 45 rs, after-gone.0, came-room)

  module _ (came : ℕ) (d₁ : List ℕ)
      (first : (qs : List Record) → Left j left qs → (came ≡ left + journal_length (row_of 43 qs)) × (d₁ ≡ laid d at (row_bytes 45 (row_of 43 qs)))) where
    came-is : came ≡ left + journal_length (came_next rs)
    came-is = (first (after_row 45 rs) after-gone.0).0

    pub came-after : (left ≤ came) × (at + (came - left) ≤ length j)
    came-after = (omega (arith, came-is), omega (arith, came-is, came-end, is-left rs l))

    came-bytes : d₁ ≡ laid d at (row_bytes 45 (came_next rs))
    came-bytes = (first (after_row 45 rs) after-gone.0).1

    long : length d₁ ≡ length d
    long = ap length came-bytes ∙ laid-length d at (row_bytes 45 (came_next rs)) came-room

    pub gone-asks : (qs : List Record) × Left j at qs × (at + (came - left) + length (row_bytes 43 (row_of 45 qs)) ≤ length d₁)
    gone-asks = (rs, l, omega (arith, long, came-is, came-end, is-left rs l, gone_long 43 rs))

    module _ (end : ℕ) (d₂ : List ℕ)
        (second : (qs : List Record) → Left j at qs → (end ≡ at + journal_length (row_of 45 qs)) × (d₂ ≡ laid d₁ (at + (came - left)) (row_bytes 43 (row_of 45 qs)))) where
      pub stretch-done : (qs : List Record) → Left j at qs → (came ≡ at + stretch_length qs) × (d₂ ≡ laid d at (stretch_turned qs))
      stretch-done qs k =
          let is : rs ≡ qs = some_is rs qs (sym l ∙ k) in
          let there : at + (came - left) ≡ at + length (row_bytes 45 (came_next rs)) = omega (arith, came-is, came-long 45 (after_row 45 rs)) in
          let bytes : d₂ ≡ laid d at (stretch_turned rs) =
          (second rs l).1 ∙ ap (λ (z : List ℕ). laid z (at + (came - left)) (row_bytes 43 (gone_first rs))) came-bytes
          ∙ ap (λ (n : ℕ). laid (laid d at (row_bytes 45 (came_next rs))) n (row_bytes 43 (gone_first rs))) there
          ∙ laid-laid d at (row_bytes 45 (came_next rs)) came-room (row_bytes 43 (gone_first rs)) in
          rw (← is) (omega (arith, came-is, is-left rs l), bytes)

-- ---- one record

module _ (j d : List ℕ) (at : ℕ) (q : Record) (qs : List Record) (l : Left j at (q ∷ qs)) (apart : IsApart q) (room : at + record_length q ≤ length d) where
  pub one-nowhere : record_at j at ≡ None → ⊥
  one-nowhere e = none-some (q ∷ qs) (sym (nowhere j at (left-first j at q qs l) e) ∙ l)

  module _ (x : Extent) (found : record_at j at ≡ Some x) where
    is : q ≡ record_in j x
    is = let n = left-next j at (q ∷ qs) x l found in (cons-is q (record_in j x) qs n.0 n.2).0

    apart_in : IsApart (record_in j x)
    apart_in = subst IsApart is apart

    end-room : x.end + 1 ≤ length d
    end-room = omega (arith, found-length j at x found, ap record_length is)

    -- what is written is what is asked for, whichever way the record is told
    told : (w d' : List ℕ) (r : ℕ) → w ≡ record_bytes (turn_one (record_in j x)) → Puts w d at d' r
        → (p : Record) (ps : List Record) → Left j at (p ∷ ps) → Puts (record_bytes (turn_one p)) d at d' r
    told w d' r e h p ps k =
        let same : record_in j x ≡ p = sym is ∙ (cons-is q p qs ps (some_is (q ∷ qs) (p ∷ ps) (sym l ∙ k))).0 in
        subst (λ (z : List ℕ). Puts z d at d' r) (e ∙ ap (λ (z : Record). record_bytes (turn_one z)) same) h

    pub kept-asks : (at ≤ x.end + 1) × (x.end + 1 ≤ length j) × (at + length (part at (x.end + 1) j) ≤ length d)
    kept-asks =
        let w = here j at x found in
        let inside : x.end + 1 ≤ length j = omega (arith, w.inside) in
        (omega (arith, w.first.low, w.order), inside, omega (arith, w.first.low, w.order, end-room, part_length j at (x.end + 1) inside))

    pub kept-done : (x.mark ≡ Changed → ⊥) → (d' : List ℕ) (r : ℕ) → Puts (part at (x.end + 1) j) d at d' r
        → (p : Record) (ps : List Record) → Left j at (p ∷ ps) → Puts (record_bytes (turn_one p)) d at d' r
    kept-done other d' r h = told (part at (x.end + 1) j) d' r (one_kept j at x found apart_in other) h

    module _ (mark : x.mark ≡ Changed) where
      new-long : length (part (x.mid + 1) (x.end + 1) j) ≡ x.end + 1 - (x.mid + 1)
      new-long = part_length j (x.mid + 1) (x.end + 1) (let w = here j at x found in omega (arith, w.inside))

      pub new-asks : (x.mid + 1 ≤ x.end + 1) × (x.end + 1 ≤ length j) × (at + 2 + length (part (x.mid + 1) (x.end + 1) j) ≤ length d)
      new-asks =
          let w = here j at x found in
          (omega (arith, w.order), omega (arith, w.inside), omega (arith, w.first.low, w.order, end-room, new-long))

      new-room : at + length (60 ∷ 62 ∷ part (x.mid + 1) (x.end + 1) j) ≤ length d
      new-room = omega (arith, new-asks.2)

      module _ (d₁ : List ℕ) (next : ℕ) (new : Puts (60 ∷ 62 ∷ part (x.mid + 1) (x.end + 1) j) d at d₁ next) where
        pub old-asks : (at + 2 ≤ x.mid + 1) × (x.mid + 1 ≤ length j) × (next + length (part (at + 2) (x.mid + 1) j) ≤ length d₁)
        old-asks =
            let w = here j at x found in
            let long : length d₁ ≡ length d = ap length new.1 ∙ laid-length d at (60 ∷ 62 ∷ part (x.mid + 1) (x.end + 1) j) new-room in
            let inside : x.mid + 1 ≤ length j = omega (arith, w.order, w.inside) in
            (omega (arith, w.first.low), inside, omega (arith, new.0, new-long, long, w.first.low, w.order, end-room, part_length j (at + 2) (x.mid + 1) inside))

        pub changed-done : (d₂ : List ℕ) (r : ℕ) → Puts (part (at + 2) (x.mid + 1) j) d₁ next d₂ r
            → (p : Record) (ps : List Record) → Left j at (p ∷ ps) → Puts (record_bytes (turn_one p)) d at d₂ r
        changed-done d₂ r old =
            told _ d₂ r (one-changed j at x found mark) (puts-both (60 ∷ 62 ∷ part (x.mid + 1) (x.end + 1) j) (part (at + 2) (x.mid + 1) j) d d₁ d₂ at next r new-room new old)
