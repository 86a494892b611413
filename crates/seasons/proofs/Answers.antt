-- The answers of `join`: 11, then 32, then 10, then what is written. Assumes nothing.
use mathlib.Core.Path.{◌≡◌, refl, sym, ap, ◌∙◌}
use mathlib.Core.Bool.{Bool, true, false, true≢false}
use mathlib.Core.Logic.{◌⊎◌, inl, inr, ⊎_elim}
use Rattle.std.proofs.Common.{Result, Ok, Err}
use mathlib.Core.Option.{some}
use mathlib.Core.List.{List, ◌++◌}
use Prim.Native.Nat.{ℕ, ◌≤◌, ◌<◌}
use native.Mathlib.Omega.{arith}
use lib.ListN.{length, drop}
use lib.Dec.{ltb}
use borrow.Author.Tests.{le-leb, lt-leb, ltb-true, ltb-false}
use Rattle.definitions.specs.Journal.{Record, old_side, new_side, journal_length, journal_bytes}
use Rattle.definitions.specs.Listing.{written_to}
use Rattle.definitions.specs.Arranging.{arrange}
use Rattle.definitions.specs.Joining.{by_middle, join, arranged_of, eq_lines, join_to}
use Rattle.theorems.specs.JournalBytes.{journal-length}
use Rattle.theorems.specs.ArrangeLaws.{arrange-length}
use Rattle.theorems.specs.JoinAnswers.{lines-equal, lines_are, reads-records, join-malformed, join-differ, join-agree}
use Rattle.text.specs.Buffer.{laid}
use Rattle.text.proofs.Buffer.{laid-zero}
use Rattle.journal.specs.Records.{Left}
use Rattle.journal.specs.Reading.{reading_number, reading_length, answered}
use Rattle.journal.specs.declared.Refusal.{Refusal}
use Rattle.journal.specs.declared.Refusal.TheVariants.{Short, Malformed, Differ}
use Rattle.journal.proofs.Left.{left-start}
use Rattle.joinable.specs.Joinable.{is_taken}
use Rattle.joinable.proofs.Taken.{is-taken, not_taken}
use Rattle.seasons.specs.Joined.{Due, start, measured, found}

-- ---- what was found

measured-fits : (a b : Bool) (n k : ℕ) → measured a b n ≡ Ok k → (a ≡ true) × (b ≡ false) × (k ≡ n)
unfolding measured
measured-fits false b n k h = absurd (let z : ◌≡◌ {A = ℕ} 0 1 = cc in omega arith)
measured-fits true true n k h = absurd (let z : ◌≡◌ {A = ℕ} 0 1 = cc in omega arith)
measured-fits true false n k h = (refl, refl, cc)

-- why nothing was found
measured-not : (a b : Bool) (n : ℕ) (e : Refusal) → measured a b n ≡ Err e → ((e ≡ Differ) × (a ≡ false)) ⊎ ((e ≡ Short) × (a ≡ true) × (b ≡ true))
unfolding measured
measured-not false b n e h = inl (cc, refl)
measured-not true true n e h = inr (cc, refl, refl)
measured-not true false n e h = absurd (let z : ◌≡◌ {A = ℕ} 0 1 = cc in omega arith)

module _ (rs ss : List Record) (size : ℕ) where
  not-is : (e : Refusal) → found rs ss size ≡ Err e
      → ((e ≡ Differ) × (eq_lines (new_side rs) (old_side ss) ≡ false)) ⊎ ((e ≡ Short) × (eq_lines (new_side rs) (old_side ss) ≡ true) × (size < journal_length (by_middle rs ss)))
  unfolding found
  not-is e h =
      ⊎_elim (λ f. inl f) (λ f. inr (f.0, f.1, ltb-true size (journal_length (by_middle rs ss)) f.2))
      (measured-not (eq_lines (new_side rs) (old_side ss)) (ltb size (journal_length (by_middle rs ss))) (journal_length (by_middle rs ss)) e h)

  fits-is : (n : ℕ) → found rs ss size ≡ Ok n
      → (eq_lines (new_side rs) (old_side ss) ≡ true) × (journal_length (by_middle rs ss) ≤ size) × (n ≡ journal_length (by_middle rs ss))
  unfolding found
  fits-is n e =
      let h = measured-fits (eq_lines (new_side rs) (old_side ss)) (ltb size (journal_length (by_middle rs ss))) (journal_length (by_middle rs ss)) n e in
      (h.0, ltb-false size (journal_length (by_middle rs ss)) h.1, h.2)

-- ---- the ways out

module _ (j k d : List ℕ) where
  pub first-malformed : is_taken (arranged_of j) ≡ false → answered (Err Malformed) d ≡ join_to j k d
  unfolding answered
  first-malformed h = sym (join-malformed j k d (inl (not_taken (arranged_of j) h)))

  pub second-malformed : is_taken (arranged_of k) ≡ false → answered (Err Malformed) d ≡ join_to j k d
  unfolding answered
  second-malformed h = sym (join-malformed j k d (inr (not_taken (arranged_of k) h)))

  module _ (h : is_taken (arranged_of j) ≡ true) (i : is_taken (arranged_of k) ≡ true) where
    abbrev first : (rs : List Record) × (arranged_of j ≡ some rs)
    first = is-taken (arranged_of j) h

    abbrev second : (ss : List Record) × (arranged_of k ≡ some ss)
    second = is-taken (arranged_of k) i

    abbrev pub both_left : (rs : List Record) × (ss : List Record) × Left j 0 rs × Left k 0 ss
    both_left = (
      first.0,
      second.0,
      (left-start j first.0 (reads-records j first.0 first.1)).0,
      (left-start k second.0 (reads-records k second.0 second.1)).0,
    )

    -- `r`: what was found of both
    module _ (r : Result ℕ Refusal) (u : (rs ss : List Record) → Left j 0 rs → Left k 0 ss → r ≡ found rs ss (length d)) where
      told : r ≡ found first.0 second.0 (length d)
      told = u first.0 second.0 both_left.2 both_left.3

      differs : eq_lines (new_side first.0) (old_side second.0) ≡ false → answered (Err Differ) d ≡ join_to j k d
      unfolding answered
      differs f =
          sym (join-differ j k d first.0 second.0 first.1 second.1
          (λ q. true≢false (sym (lines-equal (old_side second.0)) ∙ ap (λ ls. eq_lines ls (old_side second.0)) (sym q) ∙ f)))

      abbrev out : List ℕ
      out = journal_bytes (join first.0 second.0)

      long : length out ≡ journal_length (by_middle first.0 second.0)
      unfolding join
      long = journal-length (arrange (by_middle first.0 second.0)) ∙ arrange-length (by_middle first.0 second.0)

      answer-is : new_side first.0 ≡ old_side second.0 → join_to j k d ≡ written_to d out
      answer-is a = join-agree j k d first.0 second.0 (record { first = first.1; second = second.1; middle = a })

      too_short : eq_lines (new_side first.0) (old_side second.0) ≡ true → length d < journal_length (by_middle first.0 second.0) → answered (Err Short) d ≡ join_to j k d
      unfolding answered written_to
      too_short a f = sym (answer-is (lines_are (new_side first.0) (old_side second.0) a) ∙ rw (lt-leb (length out) (length d) (rw long f)))

      pub all-refused : (e : Refusal) → r ≡ Err e → answered (Err e) d ≡ join_to j k d
      all-refused e is =
          ⊎_elim (λ f. ap (λ (x : Refusal). answered (Err x) d) f.0 ∙ differs f.1)
          (λ f. ap (λ (x : Refusal). answered (Err x) d) f.0 ∙ too_short f.1 f.2)
          (not-is first.0 second.0 (length d) e (sym told ∙ is))

      module _ (n : ℕ) (is : r ≡ Ok n) where
        fits : (eq_lines (new_side first.0) (old_side second.0) ≡ true) × (journal_length (by_middle first.0 second.0) ≤ length d) × (n ≡ journal_length (by_middle first.0 second.0))
        fits = fits-is first.0 second.0 (length d) n (sym told ∙ is)

        agree : new_side first.0 ≡ old_side second.0
        agree = lines_are (new_side first.0) (old_side second.0) fits.0

        -- what both journals leave is due from their start on
        due : Due j k start (by_middle first.0 second.0)
        due = record {
          rs = first.0;
          ss = second.0;
          at = record { first = both_left.2; second = both_left.3; in_first = omega arith; in_second = omega arith };
          agree = agree;
          joined = refl;
        }

        pub all-fits : (w : List Record) × Due j k start w × (journal_length w ≤ length d)
        all-fits = (by_middle first.0 second.0, due, fits.1)

        pub all-written : (d' : List ℕ) → ((w : List Record) → Due j k start w → d' ≡ laid d 0 (journal_bytes (arrange w))) → answered (Ok n) d' ≡ join_to j k d
        unfolding answered reading_number reading_length written_to join
        all-written d' x =
            let bytes : d' ≡ out ++ drop (length out) d = x (by_middle first.0 second.0) due ∙ laid-zero d out in
            rw (answer-is agree, le-leb (length out) (length d) (rw long fits.1), fits.2 ∙ sym long, bytes)
