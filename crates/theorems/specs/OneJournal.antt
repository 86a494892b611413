-- Wish 7 of document 02, "One journal for two seasons", as one statement: of every two or three journals, over their bytes.
use Rattle.std.specs.Prelude.{◌≡◌, ◌⊎◌, List, ◌∷◌, ◌++◌, map, ℕ, ◌+◌, ◌≤◌, length, take}
use Rattle.std.proofs.Math.Option.{none, some}
use Rattle.definitions.specs.Bytes.{Line}
use Rattle.definitions.specs.Journal.{Record, kept, deleted, inserted, old_side, new_side, journal_bytes, change, records_of}
use Rattle.definitions.specs.Arranging.{arrange}
use Rattle.definitions.specs.Listing.{Written, written, number_of, length_of, bytes_of, written_to, old_side_to, new_side_to}
use Rattle.definitions.specs.Joining.{join, turn, arranged_of, join_to, turn_to}
use Rattle.definitions.specs.Run.{run_answer, answer_records}
use Rattle.theorems.specs.Arranged.{IsApart, Stretch}
use Rattle.theorems.specs.Demand3.{IsAccepted}

-- ---- the terms

-- the bytes that an answer has written
abbrev pub out : Written → List ℕ
out w = take (length_of w) (bytes_of w)

-- the answer of an accepted joining or turning round
abbrev pub IsDone : Written → Type 0
IsDone w = number_of w ≡ 0

-- an arranged journal, and its records
abbrev pub Reads : List ℕ → List Record → Type 0
Reads j rs = arranged_of j ≡ some rs

-- two arranged journals "whose middle tables agree" (W7.5)
pub record Agreeing (j k : List ℕ) (rs ss : List Record) : Type 0 where
  pub first : Reads j rs
  pub second : Reads k ss
  pub middle : new_side rs ≡ old_side ss

-- no middle line is kept or changed in both: no two such records, `r` of the first journal and `s` of the second, have the same middle lines before them
abbrev pub NoneStays : List Record → List Record → Type 0
NoneStays rs ss =
    (before after before₂ after₂ : List Record) (r s : Record) → rs ≡ before ++ (r ∷ after) → ss ≡ before₂ ++ (s ∷ after₂) → new_side before ≡ old_side before₂
    → IsApart r → IsApart s → ⊥

-- three journals joined, the first two in `d` first or the last two in `e`
pub record SameBytes (j k l d e : List ℕ) : Type 0 where
  -- "must give the same bytes under either bracketing": the same answer in every destination
  pub same : (dest : List ℕ) → join_to (out (join_to j k d)) l dest ≡ join_to j (out (join_to k l e)) dest
  -- and it is accepted where the destination is long enough
  pub done : (dest : List ℕ) → length j + length k + length l ≤ length dest → IsDone (join_to (out (join_to j k d)) l dest)

-- ---- the statement

-- WISH 7
pub record WishSeven : Type 0 where
  -- "Joining makes of a journal from old to middle and one from middle to new that from old to new"
  pub from_old : (j k d : List ℕ) → IsDone (join_to j k d) → (dest : List ℕ) → old_side_to (out (join_to j k d)) dest ≡ old_side_to j dest
  pub to_new : (j k d : List ℕ) → IsDone (join_to j k d) → (dest : List ℕ) → new_side_to (out (join_to j k d)) dest ≡ new_side_to k dest
  -- "arranged as in Wish 6": what is written is an arranged journal again
  pub joined : (j k d : List ℕ) (rs ss : List Record) → Agreeing j k rs ss → IsDone (join_to j k d) → Reads (out (join_to j k d)) (join rs ss)
  -- "A middle line kept or changed in both stays one record, kept or changed by its old and new text", and parts what stands before it from what stands after it (W7.8)
  pub stays : (rs after ss after₂ : List Record) (old middle new : Line) → new_side rs ≡ old_side ss
      → join (rs ++ (change old middle ∷ after)) (ss ++ (change middle new ∷ after₂)) ≡ join rs ss ++ (change old new ∷ join after after₂)
  -- "a line inserted in the first and deleted in the second leaves nothing; every other line is `--` or `++`": where no line stays, all old ones, then all new ones
  pub others : (rs ss : List Record) → new_side rs ≡ old_side ss → NoneStays rs ss → join rs ss ≡ map deleted (old_side rs) ++ map inserted (new_side ss)
  -- "Turning round a journal exchanges its sides record by record and arranges it"
  pub turned : (j d : List ℕ) (rs : List Record) → Reads j rs → IsDone (turn_to j d) → Reads (out (turn_to j d)) (turn rs)
  pub turned_old : (j d : List ℕ) → IsDone (turn_to j d) → (dest : List ℕ) → old_side_to (out (turn_to j d)) dest ≡ new_side_to j dest
  pub turned_new : (j d : List ℕ) → IsDone (turn_to j d) → (dest : List ℕ) → new_side_to (out (turn_to j d)) dest ≡ old_side_to j dest
  pub turned_stays : (rs after : List Record) (old new : Line) → turn (rs ++ (change old new ∷ after)) ≡ turn rs ++ (change new old ∷ turn after)
  pub turned_others : (rs : List Record) → Stretch rs → turn rs ≡ map deleted (new_side rs) ++ map inserted (old_side rs)
  -- "Both refuse as the sides do": 11 whichever journal it is; "32: the middle tables differ, between 11 and 10"; 10 is `writtenTo`'s
  pub malformed : (j k d : List ℕ) → (arranged_of j ≡ none) ⊎ (arranged_of k ≡ none) → join_to j k d ≡ written 11 0 d
  pub differ : (j k d : List ℕ) (rs ss : List Record) → Reads j rs → Reads k ss → (new_side rs ≡ old_side ss → ⊥) → join_to j k d ≡ written 32 0 d
  pub agree : (j k d : List ℕ) (rs ss : List Record) → Agreeing j k rs ss → join_to j k d ≡ written_to d (journal_bytes (join rs ss))
  pub turn_malformed : (j d : List ℕ) → arranged_of j ≡ none → turn_to j d ≡ written 11 0 d
  pub turn_arranged : (j d : List ℕ) (rs : List Record) → Reads j rs → turn_to j d ≡ written_to d (journal_bytes (turn rs))
  -- "For arranged journals and long enough destinations": as long as what is given is enough
  pub enough : (j k d : List ℕ) (rs ss : List Record) → Agreeing j k rs ss → length j + length k ≤ length d → IsDone (join_to j k d)
  pub turn_enough : (j d : List ℕ) (rs : List Record) → Reads j rs → length j ≤ length d → IsDone (turn_to j d)
  -- "joining three whose middle tables agree must give the same bytes under either bracketing"
  pub three : (j k l d e : List ℕ) (rs ss ts : List Record) → Agreeing j k rs ss → Agreeing k l ss ts
      → length j + length k ≤ length d → length k + length l ≤ length e → SameBytes j k l d e
  -- that is, wherever both joinings of two are accepted
  pub accepted : (j k l d e : List ℕ) → IsDone (join_to j k d) → IsDone (join_to k l e) → SameBytes j k l d e
  -- "and turning round twice the first bytes"
  pub twice : (j d : List ℕ) → IsDone (turn_to j d) → (dest : List ℕ) → turn_to (out (turn_to j d)) dest ≡ written_to dest j
  -- "Unarranged ones, and those with either side over 65,535 lines, count as malformed here": no others do
  pub taken : (j : List ℕ) (rs : List Record) → records_of j ≡ some rs → arrange rs ≡ rs → length (new_side rs) ≤ 65535 → Reads j rs
  pub only : (j : List ℕ) (rs : List Record) → Reads j rs → (records_of j ≡ some rs) × (arrange rs ≡ rs) × (length (old_side rs) ≤ 65535) × (length (new_side rs) ≤ 65535)
  -- what every run leaves is such a journal, if its new side has no more lines than that: no rule of runs bounds it
  pub runs : (table script : List ℕ) (budget work size : ℕ)
      → let rs = answer_records (run_answer table script budget work size) in
      IsAccepted (run_answer table script budget work size) → length (new_side rs) ≤ 65535 → Reads (journal_bytes rs) rs
  -- a season in which nothing changes adds nothing, before another or after it
  pub kept_after : (j : List ℕ) (rs : List Record) → Reads j rs → (dest : List ℕ) → join_to j (journal_bytes (map kept (new_side rs))) dest ≡ written_to dest j
  pub kept_before : (j : List ℕ) (rs : List Record) → Reads j rs → (dest : List ℕ) → join_to (journal_bytes (map kept (old_side rs))) j dest ≡ written_to dest j
