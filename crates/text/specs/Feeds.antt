-- A byte, and line feeds, among bytes of any kind.
use Rattle.std.specs.Prelude.{ℕ, zero, suc, Bool, false, cond, ◌||◌, List, [], ◌∷◌, ◌==◌, slice_index}

-- how many bytes stand before the first c; all where there is none
unfoldable pub place_of : ℕ → List ℕ → ℕ
place_of c [] = 0
place_of c (b ∷ bs) = cond (b == c) 0 (suc (place_of c bs))

-- whether a line feed is among the bytes
unfoldable pub has_feed : List ℕ → Bool
has_feed [] = false
has_feed (b ∷ bs) = b == 10 || has_feed bs

-- the length up to the first line feed, with it; all of the bytes where there is none
unfoldable pub line_length : List ℕ → ℕ
line_length [] = 0
line_length (x ∷ l) = cond (x == 10) 1 (suc (line_length l))

-- the start of the line that place k is in: after the last line feed before k, or 0
unfoldable pub line_start : List ℕ → ℕ → ℕ
line_start l zero = 0
line_start l (suc k) = cond (slice_index l k == 10) (suc k) (line_start l k)
