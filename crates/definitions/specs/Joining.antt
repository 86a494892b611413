-- Two journals made one, and a journal turned round (document 02, wish 7, "One journal for two seasons"; numbers 11, 32 and 10).
use Rattle.std.specs.Prelude.{Bool, true, false, cond, not, ◌&&◌, List, [], ◌∷◌, ◌++◌, map, ℕ, length, leb}
use Rattle.std.proofs.Math.Option.{Option, none, some}
use Rattle.definitions.specs.Bytes.{Line, eq_line}
use Rattle.definitions.specs.Journal.{Record, kept, changed, deleted, inserted, old_side, new_side, journal_bytes, rewrite, erase, records_of}
use Rattle.definitions.specs.Arranging.{arrange}
use Rattle.definitions.specs.Listing.{Written, written, written_to, read_out}

-- ---- joining

-- The middle line whose record in the first journal is `r`, by the second journal's records: what the second inserts before that line stands before it, and
-- its own record in the second changes or deletes it as a command does. "A middle line kept or changed in both stays one record, kept or changed by its old
-- and new text; a line inserted in the first and deleted in the second leaves nothing; every other line is `--` or `++`" (W7.6, W7.7). `rest`: what follows.
unfoldable pub at_middle : Record → (List Record → List Record) → List Record → List Record
at_middle r rest [] = r ∷ rest []
at_middle r rest (kept l ∷ ss) = rewrite r l ∷ rest ss
at_middle r rest (changed o n ∷ ss) = rewrite r n ∷ rest ss
at_middle r rest (deleted l ∷ ss) = erase r ++ rest ss
at_middle r rest (inserted l ∷ ss) = inserted l ∷ at_middle r rest ss

-- both journals gone through by the middle lines; a line that the first deletes is none of them
unfoldable pub by_middle : List Record → List Record → List Record
by_middle [] ss = ss
by_middle (kept l ∷ rs) ss = at_middle (kept l) (by_middle rs) ss
by_middle (changed o n ∷ rs) ss = at_middle (changed o n) (by_middle rs) ss
by_middle (deleted l ∷ rs) ss = deleted l ∷ by_middle rs ss
by_middle (inserted l ∷ rs) ss = at_middle (inserted l) (by_middle rs) ss

-- "Joining makes of a journal from old to middle and one from middle to new that from old to new, arranged as in Wish 6" (W7.8)
unfoldable pub join : List Record → List Record → List Record
join rs ss = arrange (by_middle rs ss)

-- ---- turning round

-- "exchanges its sides record by record" (W7.9)
unfoldable pub turn_one : Record → Record
turn_one (kept l) = kept l
turn_one (changed o n) = changed n o
turn_one (deleted l) = inserted l
turn_one (inserted l) = deleted l

-- "and arranges it"
unfoldable pub turn : List Record → List Record
turn rs = arrange (map turn_one rs)

-- ---- the journals that are taken

-- no `--` anywhere after a `++` of the same stretch (W7.3); `came`: a `++` of this stretch has gone by
unfoldable pub is_arranged_from : Bool → List Record → Bool
is_arranged_from came [] = true
is_arranged_from came (kept l ∷ rs) = is_arranged_from false rs
is_arranged_from came (changed o n ∷ rs) = is_arranged_from false rs
is_arranged_from came (deleted l ∷ rs) = not came && is_arranged_from came rs
is_arranged_from came (inserted l ∷ rs) = is_arranged_from true rs

unfoldable pub is_arranged : List Record → Bool
is_arranged rs = is_arranged_from false rs

-- "Unarranged ones, and those with either side over 65,535 lines, count as malformed here" (W7.4); the old side has been counted (records_of)
unfoldable pub only_arranged : Option (List Record) → Option (List Record)
only_arranged none = none
only_arranged (some rs) = cond (is_arranged rs && leb (length (new_side rs)) 65535) (some rs) none

unfoldable pub arranged_of : List ℕ → Option (List Record)
arranged_of j = only_arranged (records_of j)

-- two tables, as lists of lines (W7.5)
unfoldable pub eq_lines : List Line → List Line → Bool
eq_lines [] [] = true
eq_lines [] (m ∷ ms) = false
eq_lines (l ∷ ls) [] = false
eq_lines (l ∷ ls) (m ∷ ms) = eq_line l m && eq_lines ls ms

-- ---- what joining and turning round answer: they "refuse as the sides do" (W7.1)

-- 11, whichever journal it is; then "32: the middle tables differ, between 11 and 10" (W7.2)
unfoldable pub joined_to : Option (List Record) → Option (List Record) → List ℕ → Written
joined_to none second dest = written 11 0 dest
joined_to (some rs) none dest = written 11 0 dest
joined_to (some rs) (some ss) dest = cond (eq_lines (new_side rs) (old_side ss)) (written_to dest (journal_bytes (join rs ss))) (written 32 0 dest)

-- the journals `j` and `k` joined, written into `dest`
unfoldable pub join_to : List ℕ → List ℕ → List ℕ → Written
join_to j k dest = joined_to (arranged_of j) (arranged_of k) dest

-- the journal `j` turned round, written into `dest`
unfoldable pub turn_to : List ℕ → List ℕ → Written
turn_to j dest = read_out (λ rs. journal_bytes (turn rs)) (arranged_of j) dest
