-- Searches as words: a decoded search lies in the words from k up to m, in the order in which it is tested. Assumes nothing.
use Rattle.std.specs.Prelude.{◌≡◌, Bool, true, false, cond, List, [], ◌∷◌, ℕ, ◌+◌, ◌*◌, ◌/◌, ◌%◌, ◌≤◌, ◌<◌, length, take, drop, get_or, eqb}
use Rattle.definitions.specs.Bytes.{Line}
use Rattle.definitions.specs.Matching.{Anchor, anywhere, at_start, at_end, precisely, Columns, all_columns, columns, Qualifiers, qualifiers, Qualified, qualified}
use Rattle.definitions.specs.Patterns.{Pattern, read_pattern}
use Rattle.definitions.specs.Reader.{Got, got, refused}
use Rattle.definitions.specs.Search.{Search, one, both, either}
use Rattle.marks.specs.Sweeping.{Reads}
use Rattle.leads.specs.Leading.{leads_of}
use Rattle.matching.specs.Quals.{qualifiers_of, lead_number, Formed}
use Rattle.matching.specs.declared.Quals.{Quals}

-- ---- the words of one qualified string

unfoldable pub anchor_number : Anchor → ℕ
anchor_number anywhere = 0
anchor_number at_start = 1
anchor_number at_end = 2
anchor_number precisely = 3

unfoldable pub bit_of : Bool → ℕ
bit_of true = 1
bit_of false = 0

unfoldable pub are_given : Columns → Bool
are_given all_columns = false
are_given (columns n m) = true

-- the anchor, and a bit each for L, N, W, U, S, columns and R
unfoldable pub flags_of : Qualifiers → ℕ
flags_of (qualifiers anchor k last n w u skip cols pattern) =
    anchor_number anchor + 4 * bit_of last + 8 * bit_of n + 16 * bit_of w + 32 * bit_of u + 64 * bit_of skip + 128 * bit_of (are_given cols) + 256 * bit_of pattern

-- the flags, and where the string starts in the script
unfoldable pub first_word : Qualifiers → ℕ → ℕ
first_word q start = 4 * (flags_of q + 512 * start)

-- the string's length, and the count, or the number of what a pattern's matches can begin with
unfoldable pub second_word : Qualifiers → ℕ → ℕ → ℕ
second_word (qualifiers anchor k last n w u skip cols pattern) len led = len + 256 * (k + led)

unfoldable pub columns_in : Qualifiers → Columns
columns_in (qualifiers anchor k last n w u skip cols pattern) = cols

unfoldable pub column_words : Columns → List ℕ
column_words all_columns = []
column_words (columns n m) = (n + 65536 * m) ∷ []

-- a string of the script, from `start` and of length `len`, with its qualifiers and the number of what a pattern's matches can begin with
unfoldable pub string_words : Qualifiers → ℕ → ℕ → ℕ → List ℕ
string_words q start len led = first_word q start ∷ second_word q len led ∷ column_words (columns_in q)

unfoldable pub led_by : Got Pattern → ℕ
led_by (got pat c) = lead_number (leads_of pat)
led_by (refused n at) = 0

-- the number of what the matches of the string can begin with; 0 where it is no pattern
unfoldable pub led_of : Qualifiers → Line → ℕ
led_of (qualifiers anchor k last n w u skip cols true) s = led_by (read_pattern 0 s)
led_of (qualifiers anchor k last n w u skip cols false) s = 0

-- where R is given, the string is a pattern and no count is given
unfoldable pub IsFormed : Qualifiers → Line → Type 0
IsFormed (qualifiers anchor k last n w u skip cols true) s = (k ≡ 0) × (pat : Pattern) × Reads s pat
IsFormed (qualifiers anchor k last n w u skip cols false) s = Unit {0}

-- columns from 1 to 65,535
unfoldable pub AreColumns : Columns → Type 0
AreColumns all_columns = Unit {0}
AreColumns (columns n m) = (0 < n) × (n < 65536)

-- the list ws lies in the words from k on, up to m
pub record Lies (words : List ℕ) (k m : ℕ) (ws : List ℕ) : Type 0 where
  pub ends : m ≡ k + length ws
  pub room : m ≤ length words
  pub same : take (length ws) (drop k words) ≡ ws

-- the words from k up to m are those of the string s with the qualifiers q
pub record Leaf (script words : List ℕ) (k m : ℕ) (q : Qualifiers) (s : Line) : Type 0 where
  pub start : ℕ
  pub len : ℕ
  pub lies : Lies words k m (string_words q start len (led_of q s))
  pub formed : IsFormed q s
  pub columned : AreColumns (columns_in q)
  pub short : len < 256
  pub inside : start + len ≤ length script
  pub string : s ≡ take len (drop start script)

-- ---- the words of a search

-- "if false, go to m" between the parts of `both`, "if true, go to m" between those of `either`
unfoldable pub Encodes : List ℕ → List ℕ → ℕ → ℕ → Search → Type 0
Encodes script words k m (one (qualified q s)) = Leaf script words k m q s
Encodes script words k m (both a b) =
    (j : ℕ) × Encodes script words k j a × (get_or words j 0 ≡ 4 * m + 1) × Encodes script words (j + 1) m b
Encodes script words k m (either a b) =
    (j : ℕ) × Encodes script words k j a × (get_or words j 0 ≡ 4 * m + 2) × Encodes script words (j + 1) m b

-- ---- reading the words

unfoldable pub flags_at : List ℕ → ℕ → ℕ
flags_at words k = get_or words k 0 / 4 % 512

unfoldable pub start_at : List ℕ → ℕ → ℕ
start_at words k = get_or words k 0 / 2048

unfoldable pub length_at : List ℕ → ℕ → ℕ
length_at words k = get_or words (k + 1) 0 % 256

-- the columns' word, 0 where none are given
unfoldable pub columns_at : List ℕ → ℕ → ℕ
columns_at words k = cond (eqb (flags_at words k / 128 % 2) 0) 0 (get_or words (k + 2) 0)

unfoldable pub quals_at : List ℕ → ℕ → Quals
quals_at words k = record {
  anchor = flags_at words k % 4;
  count = get_or words (k + 1) 0 / 256;
  last = eqb (flags_at words k / 4 % 2) 1;
  negated = eqb (flags_at words k / 8 % 2) 1;
  word = eqb (flags_at words k / 16 % 2) 1;
  fold = eqb (flags_at words k / 32 % 2) 1;
  skip = eqb (flags_at words k / 64 % 2) 1;
  from = columns_at words k % 65536;
  to = columns_at words k / 65536;
  pattern = eqb (flags_at words k / 256) 1;
}

unfoldable pub string_at : List ℕ → List ℕ → ℕ → Qualified
string_at script words k = qualified (qualifiers_of (quals_at words k)) (take (length_at words k) (drop (start_at words k) script))

unfoldable pub end_at : List ℕ → ℕ → ℕ
end_at words k = cond (eqb (flags_at words k / 128 % 2) 0) (k + 2) (k + 3)

-- where the test goes on after the word at k, which joins two parts
unfoldable pub onward : List ℕ → ℕ → Bool → ℕ
onward words k truth =
    cond (eqb (get_or words k 0 % 4) 1) (cond truth (k + 1) (get_or words k 0 / 4)) (cond truth (get_or words k 0 / 4) (k + 1))

-- the qualifiers of a string can be read at k
abbrev pub HasQuals : List ℕ → ℕ → Type 0
HasQuals words k = (k + 1 < length words) × (flags_at words k / 128 % 2 ≡ 1 → k + 2 < length words)

-- the words of a string can be read at k
pub record Readable (script words : List ℕ) (k : ℕ) : Type 0 where
  pub quals : HasQuals words k
  pub string : start_at words k + length_at words k ≤ length script
  pub formed : Formed (quals_at words k) (take (length_at words k) (drop (start_at words k) script))

-- ---- writing the words

-- the number of what the matches can begin with, where R is given
unfoldable pub led_in : Quals → ℕ
led_in q = cond q.pattern q.count 0

-- what the words have room for
pub record Writable (q : Quals) (start len : ℕ) : Type 0 where
  pub anchored : q.anchor ≤ 3
  pub counted : q.count ≤ 65535
  pub first : q.from ≤ 65535
  pub last : q.to ≤ 65535
  pub starts : start ≤ 65535
  pub short : len ≤ 255
