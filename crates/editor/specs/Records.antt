-- Records as they stand in the journal buffer during a run: one line feed a record, so that they can be walked both ways. Assumes nothing.
use Rattle.std.specs.Prelude.{◌≡◌, true, List, [], ◌∷◌, ◌++◌, map, ℕ, ◌+◌, ◌≤◌, length, take, drop}
use Rattle.text.specs.Feeds.{place_of}
use Rattle.definitions.specs.Bytes.{Line, lines_bytes, is_line}
use Rattle.definitions.specs.Journal.{Record, kept, changed, deleted, inserted, old_side}
use Rattle.definitions.specs.Run.{opening_length}

-- a record without the line feed that ends it; a 0 stands between the two lines of a changed one
abbrev pub body : Record → List ℕ
body (kept l) = 61 ∷ 61 ∷ l
body (changed o n) = 60 ∷ 62 ∷ (o ++ (0 ∷ n))
body (deleted l) = 45 ∷ 45 ∷ l
body (inserted l) = 43 ∷ 43 ∷ l

abbrev pub enc : Record → List ℕ
enc r = body r ++ (10 ∷ [])

-- records in order
unfoldable pub enc_all : List Record → List ℕ
enc_all [] = []
enc_all (r ∷ rs) = enc r ++ enc_all rs

-- records of which the last stands first in the list
unfoldable pub enc_before : List Record → List ℕ
enc_before [] = []
enc_before (r ∷ rs) = enc_before rs ++ enc r

-- a record's first byte
abbrev pub mark : Record → ℕ
mark (kept l) = 61
mark (changed o n) = 60
mark (deleted l) = 45
mark (inserted l) = 43

-- its lines are of text bytes, at most 255 of them
abbrev pub Good : Record → Type 0
Good (kept l) = is_line l ≡ true
Good (changed o n) = (is_line o ≡ true) × (is_line n ≡ true)
Good (deleted l) = is_line l ≡ true
Good (inserted l) = is_line l ≡ true

abbrev pub Goods : List Record → Type 0
Goods [] = Unit {0}
Goods (r ∷ rs) = Good r × Goods rs

-- the bytes of the table that records have: their source lines, each with its line feed
unfoldable pub old_bytes : List Record → ℕ
old_bytes rs = length (lines_bytes (old_side rs))

-- the n bytes of s from `from` on are a line
abbrev pub LineIn : List ℕ → ℕ → ℕ → Type 0
LineIn s from n = (from + n ≤ length s) × (is_line (take n (drop from s)) ≡ true)

-- ---- walking bytes

-- the place of the first 0; the length where there is none
abbrev pub zero_place : List ℕ → ℕ
zero_place l = place_of 0 l

-- ---- the opening

-- the opening journal of the lines `ls`, written into the buffer j so that it ends where the buffer does: it starts at `at`
abbrev pub OpeningAt : List Line → List ℕ → List ℕ → ℕ → Type 0
OpeningAt ls j k at = (k ≡ take at j ++ enc_all (map kept ls)) × (at + opening_length ls ≡ length j)
