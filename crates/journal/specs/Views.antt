-- What a view writes, record by record.
use Rattle.std.specs.Prelude.{◌≡◌, Bool, true, false, cond, List, [], ◌∷◌, ◌++◌, ℕ, suc, ◌+◌, ◌/◌, ◌%◌, length, ltb}
use Rattle.definitions.specs.Bytes.{bytes, line_bytes, lines_bytes}
use Rattle.definitions.specs.Journal.{Record, kept, changed, deleted, inserted, old_of, old_side, new_of, new_side}
use Rattle.definitions.specs.Listing.{mark_if, listed_line, listing_from}
use Rattle.text.specs.Buffer.{laid}
use Rattle.journal.specs.declared.records.Mark.{Mark}
use Rattle.journal.specs.declared.records.Mark.TheVariants.{Kept, Changed, Deleted, Inserted}
use Rattle.journal.specs.declared.records.View.{View}
use Rattle.journal.specs.declared.records.View.TheVariants.{OldSide, NewSide, Listing}
use Rattle.journal.specs.declared.write.Gone.{Gone}

-- the bytes `x` are written over d at `out`, which gives k, and the next go to r
abbrev pub Puts : List ℕ → List ℕ → ℕ → List ℕ → ℕ → Type 0
Puts x d out k r = (r ≡ out + length x) × (k ≡ laid d out x)

-- the digit of `n` in the column of `unit`, or a space before the number
unfoldable pub column_of : ℕ → ℕ → ℕ
column_of n unit = cond (ltb n unit) 32 (48 + n / unit % 10)

-- what stands before an original line
unfoldable pub original_head : ℕ → Bool → Bool → List ℕ
original_head n gap new =
    column_of n 10000 ∷ column_of n 1000 ∷ column_of n 100 ∷ column_of n 10 ∷ (48 + n % 10) ∷ mark_if gap 45 ∷ mark_if new 43 ∷ []

-- what stands before a line of the listing
unfoldable pub head_of : Mark → Gone → List ℕ
head_of Kept g = original_head (g.lines + 1) g.gap false
head_of Changed g = original_head (g.lines + 1) g.gap true
head_of Deleted g = original_head (g.lines + 1) g.gap false
head_of Inserted g = 32 ∷ 42 ∷ 42 ∷ 42 ∷ 42 ∷ 32 ∷ 32 ∷ []

-- what a view has before a line
unfoldable pub head_by : View → Mark → Gone → List ℕ
head_by OldSide m g = []
head_by NewSide m g = []
head_by Listing m g = head_of m g

-- what has gone by after a record
unfoldable pub gone_by : Gone → Mark → Gone
gone_by g Kept = record { lines = g.lines + 1; gap = false }
gone_by g Changed = record { lines = g.lines + 1; gap = false }
gone_by g Deleted = record { lines = g.lines + 1; gap = true }
gone_by g Inserted = g

-- what a listing writes of one record
unfoldable pub listed : Gone → Record → List ℕ
listed g (kept l) = listed_line (suc g.lines) g.gap false l
listed g (changed o l) = listed_line (suc g.lines) g.gap true l
listed g (deleted l) = []
listed g (inserted l) = bytes " ****  " ++ line_bytes l

-- what a view writes of one record
unfoldable pub piece : View → Gone → Record → List ℕ
piece OldSide g r = lines_bytes (old_of r)
piece NewSide g r = lines_bytes (new_of r)
piece Listing g r = listed g r

-- what a view writes of records
unfoldable pub out_from : View → Gone → List Record → List ℕ
out_from OldSide g rs = lines_bytes (old_side rs)
out_from NewSide g rs = lines_bytes (new_side rs)
out_from Listing g rs = listing_from g.lines g.gap rs

unfoldable pub out_of : View → List Record → List ℕ
unfolding out_from
out_of view rs = out_from view (record { lines = 0; gap = false }) rs
