-- Laws of the loops over a row's items and over alternatives. Assumes nothing.
use Rattle.std.specs.Prelude.{Ok, Err}
use mathlib.Core.Path.{◌≡◌, refl, ap, ◌∙◌}
use mathlib.Core.Bool.{Bool, true, false, ◌&&◌, and-true, and-false}
use mathlib.Core.List.{List}
use Prim.Native.Nat.{ℕ, suc, ◌+◌, ◌-◌, ◌*◌, ◌≤◌, ◌<◌}
use native.Mathlib.Omega.{arith}
use lib.ListN.{length}
use Rattle.definitions.specs.Reader.{Cursor, Got, is_next}
use Rattle.definitions.specs.Patterns.{Pattern, empty_row, in_row, either_of, is_blank, ends_row, read_alternatives, read_row}
use Rattle.text.specs.Cursors.{cursor_at}
use Rattle.text.proofs.Cursors.{after-in}
use Rattle.patterns.specs.declared.Past.{Past}
use Rattle.patterns.specs.declared.Fault.{Fault}
use Rattle.patterns.specs.Reading.{Found, past-to, Reads, ReadsBy, ItemReads, RowReads, AlternativesRead}
use Rattle.patterns.proofs.Answering.{is-past, is-fault, rest_of, rest-of-blank, rest-of-both, rest-reads}
use Rattle.patterns.proofs.Places.{next-within}
use Rattle.patterns.proofs.Steps.{fuelled, row-empty, row-item, row-refused, alternatives-refused, alternatives-last, alternatives-more}

-- ---- what both loops keep

-- what x finds from a place on; it needs four of the fuel for each byte that is left, and `more`
abbrev Finds : List ℕ → ℕ → (ℕ → Cursor → Got Pattern) → ℕ → Found → Type 0
Finds s more x at = ReadsBy (4 * (length s - at) + more) s at (λ n. x n (cursor_at s at))

-- what x finds from i on is the rest of what it finds from `at` on; is what stands before i blank
pub record Onward (s : List ℕ) (more : ℕ) (x : ℕ → Cursor → Got Pattern) (at i : ℕ) (blank : Bool) : Type 0 where
  pub after : at ≤ i
  pub within : i ≤ length s
  pub whole : (r : Found) → Finds s more x i r → Finds s more x at (rest_of blank r)

pub starts : {s : List ℕ} {more : ℕ} {x : ℕ → Cursor → Got Pattern} (at : ℕ) → at ≤ length s → Onward s more x at at true
starts at h = record { after = omega arith; within = h; whole = λ r found n g. rw (rest-of-blank r) (found n g) }

module _ {s : List ℕ} {more : ℕ} {x : ℕ → Cursor → Got Pattern} {at i : ℕ} {blank : Bool} (on : Onward s more x at i blank) where
  ends : {next : ℕ} {b : Bool} → Finds s more x i (Ok (past-to next b)) → Finds s more x at (Ok (past-to next (blank && b)))
  unfolding rest_of
  ends {next} {b} found = on.whole (Ok (past-to next b)) found

  faults : {f : Fault} → Finds s more x i (Err f) → Finds s more x at (Err f)
  unfolding rest_of
  faults {f} found = on.whole (Err f) found

  goes_on : (empty : Bool) (i' : ℕ) → i ≤ i' → i' ≤ length s
      → ((r : Found) → Finds s more x i' r → Finds s more x i (rest_of empty r))
      → Onward s more x at i' (blank && empty)
  goes_on empty i' low high step = record {
    after = omega (arith, on.after);
    within = high;
    whole = λ r found n g. rw (rest-of-both blank empty r) at (on.whole (rest_of empty r) (step r found) n g);
  }

-- ---- a row

module _ {s : List ℕ} (deep : ℕ) {at i : ℕ} {blank : Bool} (on : Onward s 3 (λ n c. read_row n deep c) at i blank) where
  pub row_ends : ends_row (cursor_at s i) ≡ true → RowReads s at deep (Ok (past-to i blank))
  unfolding is_blank
  row_ends e = rw (and-true blank) at (ends on (fuelled (λ n. Reads s i (read_row n deep (cursor_at s i)) (Ok (past-to i true))) (omega arith)
      (λ n h. Reads.past i true (record { pattern = empty_row; is = row-empty n deep (cursor_at s i) e; same = refl; after = omega arith; within = on.within }))))

  module _ (more : ends_row (cursor_at s i) ≡ false) where
    pub item-fault : {f : Fault} → ItemReads s i deep (Err f) → RowReads s at deep (Err f)
    item-fault {f} first = faults on (fuelled (λ n. Reads s i (read_row n deep (cursor_at s i)) (Err f)) (omega arith)
        (λ n h. Reads.fault f.at (row-refused n deep (cursor_at s i) more 34 f.at (is-fault (first n (omega arith))))))

    module _ {p : Past} (first : ItemReads s i deep (Ok p)) where
      pub item-within : (suc i ≤ p.next) × (p.next ≤ length s)
      item-within = let read = is-past (first (4 * (length s - i) + 2) (omega arith)) in (read.after, read.within)

      item-rest : (r : Found) → RowReads s p.next deep r → RowReads s i deep (rest_of false r)
      unfolding is_blank
      item-rest r found = fuelled (λ n. Reads s i (read_row n deep (cursor_at s i)) (rest_of false r)) (omega arith)
          (λ n h.
          let read = is-past (first n (omega arith)) in
          rest-reads (in_row read.pattern) false (λ q. refl) (found n (omega (arith, read.after, read.within))) (omega (arith, read.after))
          (row-item n deep (cursor_at s i) more read.pattern (cursor_at s p.next) read.is))

      pub row_goes : Onward s 3 (λ n c. read_row n deep c) at p.next false
      row_goes = rw (and-false blank) at (goes_on on false p.next (omega (arith, item-within.0)) item-within.1 item-rest)

-- ---- alternatives

module _ {s : List ℕ} (deep : ℕ) {at i : ℕ} {blank : Bool} (on : Onward s 4 (λ n c. read_alternatives n deep c) at i blank) where
  pub row-fault : {f : Fault} → RowReads s i deep (Err f) → AlternativesRead s at deep (Err f)
  row-fault {f} first = faults on (fuelled (λ n. Reads s i (read_alternatives n deep (cursor_at s i)) (Err f)) (omega arith)
      (λ n h. Reads.fault f.at (alternatives-refused n deep (cursor_at s i) 34 f.at (is-fault (first n (omega arith))))))

  module _ {p : Past} (first : RowReads s i deep (Ok p)) where
    pub row_within : (i ≤ p.next) × (p.next ≤ length s)
    row_within = let read = is-past (first (4 * (length s - i) + 3) (omega arith)) in (read.after, read.within)

    pub alternatives-end : is_next 124 (cursor_at s p.next) ≡ false → AlternativesRead s at deep (Ok (past-to p.next (blank && p.blank)))
    alternatives-end last = ends on (fuelled (λ n. Reads s i (read_alternatives n deep (cursor_at s i)) (Ok p)) (omega arith)
        (λ n h.
        let read = is-past (first n (omega arith)) in
        Reads.past p.next p.blank (record {
          pattern = read.pattern;
          is = alternatives-last n deep (cursor_at s i) read.pattern (cursor_at s p.next) read.is last;
          same = read.same;
          after = read.after;
          within = read.within;
        })))

    module _ (bar : is_next 124 (cursor_at s p.next) ≡ true) where
      within : p.next < length s
      within = next-within s p.next 124 (omega arith) bar

      row-rest : (r : Found) → AlternativesRead s (p.next + 1) deep r → AlternativesRead s i deep (rest_of p.blank r)
      unfolding is_blank
      row-rest r found = fuelled (λ n. Reads s i (read_alternatives n deep (cursor_at s i)) (rest_of p.blank r)) (omega arith)
          (λ n h.
          let read = is-past (first n (omega arith)) in
          rest-reads (either_of read.pattern) p.blank (λ q. ap (λ (t : Bool). t && is_blank q) read.same)
          (found n (omega (arith, within, read.after))) (omega (arith, read.after))
          (alternatives-more n deep (cursor_at s i) read.pattern (cursor_at s p.next) read.is bar ∙ rw (after-in s p.next within)))

      pub alternatives-go : Onward s 4 (λ n c. read_alternatives n deep c) at (p.next + 1) (blank && p.blank)
      alternatives-go = goes_on on p.blank (p.next + 1) (omega (arith, row_within.0)) (omega (arith, within)) row-rest
