-- The answers of `turn`: 11, then 10, then what is written. Assumes nothing.
use Rattle.std.proofs.Common.{Ok, Err}
use mathlib.Core.Path.{◌≡◌, sym, ap, ◌∙◌}
use mathlib.Core.Bool.{true, false}
use mathlib.Core.Option.{some}
use mathlib.Core.List.{List, ◌++◌}
use Prim.Native.Nat.{ℕ, ◌≤◌, ◌<◌}
use lib.ListN.{length, drop}
use borrow.Author.Tests.{le-leb, lt-leb}
use Rattle.definitions.specs.Journal.{Record, journal_bytes, records_of}
use Rattle.definitions.specs.Joining.{turn, is_arranged, arranged_of, turn_to}
use Rattle.definitions.specs.Listing.{written_to, read_out}
use Rattle.theorems.specs.JournalBytes.{journal-length}
use Rattle.theorems.specs.JoinLaws.{turn-length}
use Rattle.theorems.specs.JoinAnswers.{reads-records, reads_bytes, reads-fine}
use Rattle.text.specs.Buffer.{laid}
use Rattle.text.proofs.Buffer.{laid-zero}
use Rattle.journal.specs.Reading.{reading_number, reading_length, answered}
use Rattle.journal.specs.declared.Refusal.TheVariants.{Short, Malformed}
use Rattle.joinable.specs.Joinable.{is_taken}
use Rattle.joinable.proofs.Taken.{is-taken, not_taken}

module _ (j d : List ℕ) where
  pub turn_malformed : is_taken (arranged_of j) ≡ false → answered (Err Malformed) d ≡ turn_to j d
  unfolding answered turn_to read_out
  turn_malformed h = rw (not_taken (arranged_of j) h)

  module _ (h : is_taken (arranged_of j) ≡ true) where
    taken : (rs : List Record) × (arranged_of j ≡ some rs)
    taken = is-taken (arranged_of j) h

    records : (records_of j ≡ some taken.0) × (is_arranged taken.0 ≡ true)
    records = (reads-records j taken.0 taken.1, (reads-fine j taken.0 taken.1).arranged)

    long : length (journal_bytes (turn taken.0)) ≡ length j
    long = journal-length (turn taken.0) ∙ turn-length taken.0 ∙ sym (journal-length taken.0) ∙ ap length (reads_bytes j taken.0 taken.1)

    pub turn-short : length d < length j → answered (Err Short) d ≡ turn_to j d
    unfolding answered turn_to read_out written_to
    turn-short k = rw (taken.1, lt-leb (length (journal_bytes (turn taken.0))) (length d) (rw long k))

    module _ (k : length j ≤ length d) where
      pub turn-asks : (rs : List Record) × (records_of j ≡ some rs) × (is_arranged rs ≡ true) × (length j ≤ length d)
      turn-asks = (taken.0, records.0, records.1, k)

      pub turn-done : (d' : List ℕ) → ((rs : List Record) → records_of j ≡ some rs → d' ≡ laid d 0 (journal_bytes (turn rs))) → answered (Ok (length j)) d' ≡ turn_to j d
      unfolding answered reading_number reading_length turn_to read_out written_to
      turn-done d' e =
          let is : d' ≡ journal_bytes (turn taken.0) ++ drop (length (journal_bytes (turn taken.0))) d = e taken.0 records.0 ∙ laid-zero d (journal_bytes (turn taken.0)) in
          rw (taken.1, le-leb (length (journal_bytes (turn taken.0))) (length d) (rw long k), ← long, is)
