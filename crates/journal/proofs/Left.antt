-- The records that are left from a place on: at the start, at the end, and one record further. Assumes nothing.
use Rattle.std.proofs.Common.{Some, None}
use mathlib.Core.Path.{◌≡◌, refl, sym, ap, ◌∙◌}
use mathlib.Core.Bool.{Bool, true, false, not}
use mathlib.Core.Option.{Option as Maybe, none, some}
use mathlib.Core.List.{List, [], ◌∷◌}
use Prim.Native.Nat.{ℕ, ◌+◌, ◌≤◌}
use native.Mathlib.Omega.{arith}
use lib.ListN.{length, drop, drop_of_length-le}
use lib.Dec.{leb}
use borrow.Author.Tests.{leb-true, leb-false}
use Rattle.definitions.specs.Journal.{Record, old_side, followed, records_of}
use Rattle.theorems.specs.JournalRecords.{few-lines}
use Rattle.journal.specs.Records.{record_at, record_in, unchanged_in, records_from, Left}
use Rattle.journal.specs.declared.records.Extent.{Extent}
use Rattle.journal.proofs.Walk.{records-few, records-none}
use Rattle.journal.proofs.Here.{here, nowhere}

pub none-some : {A : Type 0} (a : A) → none ≡ some a → ⊥
none-some a h = let z : ◌≡◌ {A = ℕ} 0 1 = cc in omega arith

pub some_is : {A : Type 0} (a b : A) → some a ≡ some b → a ≡ b
some_is a b h = cc

-- the first of some records, which are good
pub followed-some : (good : Bool) (r : Record) (o : Maybe (List Record)) (rs : List Record) → followed good r o ≡ some rs
    → (qs : List Record) × (o ≡ some qs) × (rs ≡ r ∷ qs) × (good ≡ true)
unfolding followed
followed-some true r none rs h = absurd (none-some rs h)
followed-some true r (some qs) rs h = (qs, refl, sym (some_is (r ∷ qs) rs h), refl)
followed-some false r o rs h = absurd (none-some rs h)

module _ (j : List ℕ) where
  -- a journal's records are left from its start on
  pub left-start : (rs : List Record) → records_of j ≡ some rs → Left j 0 rs × (length (old_side rs) ≤ 65535)
  left-start rs e = few-lines (records_from j) rs (sym (records-few j) ∙ e)

  -- at the end none are left
  pub left_end : (at : ℕ) (rs : List Record) → length j ≤ at → Left j at rs → rs ≡ []
  left_end at rs h e = sym (some_is [] rs (sym records-none ∙ ap records_from (sym (drop_of_length-le j {i = at} h)) ∙ e))

  -- a record found is the first of those that are left
  pub left-next : (at : ℕ) (rs : List Record) (x : Extent) → Left j at rs → record_at j at ≡ Some x
      → (qs : List Record) × Left j (x.end + 1) qs × (rs ≡ record_in j x ∷ qs) × (not (unchanged_in j x) ≡ true)
  left-next at rs x e h =
      followed-some (not (unchanged_in j x)) (record_in j x) (records_from (drop (x.end + 1) j)) rs (sym (here j at x h).records ∙ e)

  -- where none is found, none are left
  pub left-none : (at : ℕ) (rs : List Record) → Left j at rs → record_at j at ≡ None → rs ≡ []
  left-none at rs e h = go (leb (length j) at) refl
    where
      go : (t : Bool) → leb (length j) at ≡ t → rs ≡ []
      go true k = left_end at rs (leb-true (length j) at k) e
      go false k = absurd (none-some rs (sym (nowhere j at (leb-false (length j) at k) h) ∙ e))
