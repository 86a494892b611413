-- How decoded items lie in the work area of 32-bit numbers. Strings and inserted lines are parts of the script; WORD's string is decoded.
use Rattle.std.specs.Prelude.{◌≡◌, ◌⊎◌, List, [], ◌∷◌, ℕ, suc, ◌+◌, ◌-◌, ◌*◌, ◌/◌, ◌%◌, ◌≤◌, ◌<◌, length, take, drop, get_or}
use Rattle.std.proofs.Math.Option.{Option, none, some}
use Rattle.definitions.specs.Bytes.{Line, lines_of}
use Rattle.definitions.specs.Matching.{Qualified, qualified}
use Rattle.definitions.specs.Search.{Search, one}
use Rattle.definitions.specs.Strings.{no_qualifiers}
use Rattle.definitions.specs.Editor.{Target, here, line, eof, Through, alone, up_to, to_eof}
use Rattle.definitions.specs.Edit.{is, is_not, is_eof, Op, only_step, quit, test, begin, begin_back, find, find_back, find_delete, move, next_line, previous_line, delete, replace, insert, copy, alter, split, join, add_global, cancel_globals, name_words, point, point_start, right, left, cut_byte, recase}
use Rattle.definitions.specs.Control.{Opener, times, forever, bare, branch, loop, Item, simple, seek, opens, bracket, close, otherwise, leave, line_end}
use Rattle.wordset.specs.Sets.{SetAt}
use Rattle.matching.specs.Words.{Encodes}
use Rattle.items.specs.Kinds.{line_end_kind, bracket_kind, close_kind, else_kind, leave_kind, quit_kind, next_kind, previous_kind, copy_kind, point_start_kind, right_kind, left_kind, cut_byte_kind, cancel_kind, move_kind, delete_kind, insert_string_kind, join_kind, replace_kind, insert_lines_kind, word_set_kind, if_kind, unless_kind, while_kind, until_kind, count_kind, repeat_kind, bare_kind, if_eof_kind, long_count_kind, case_kind, point_kind, split_kind, change_kind, global_kind, seek_kind}

-- ---- an item's first word: its kind, below 256, its place, below 32,768, and a number below 512

abbrev pub head : ℕ → ℕ → ℕ
head kind place = kind + 256 * place

abbrev pub head_with : ℕ → ℕ → ℕ → ℕ
head_with kind place n = head kind place + 8388608 * n

-- what the word at k says
abbrev pub kind_at : List ℕ → ℕ → ℕ
kind_at w k = get_or w k 0 % 256

abbrev pub place_at : List ℕ → ℕ → ℕ
place_at w k = get_or w k 0 / 256 % 32768

abbrev pub number_at : List ℕ → ℕ → ℕ
number_at w k = get_or w k 0 / 8388608

-- ---- arguments

unfoldable pub target_code : Target → ℕ
target_code here = 0
target_code (line a) = a
target_code eof = 65536

unfoldable pub spot_code : Option Target → ℕ
spot_code none = 0
spot_code (some t) = suc (target_code t)

-- how far D and R go: 1 in the first word for `*`; a line's number in the second
unfoldable pub end_bit : Through → ℕ
end_bit alone = 0
end_bit (up_to b) = 0
end_bit to_eof = 1

unfoldable pub last_code : Through → ℕ
last_code alone = 0
last_code (up_to b) = b
last_code to_eof = 0

-- the bytes of the script from `start` up to `end`
unfoldable pub part_of : List ℕ → ℕ → ℕ → List ℕ
part_of s start end = take (end - start) (drop start s)

-- a string in one word: where it starts in the script, below 32,768, and its length
abbrev pub string_word : ℕ → ℕ → ℕ
string_word start len = start + 32768 * len

pub record StringIn (s : List ℕ) (word : ℕ) (l : Line) : Type 0 where
  pub start : ℕ
  pub word_is : word ≡ string_word start (length l)
  pub inside : start + length l ≤ length s
  pub is : l ≡ part_of s start (start + length l)

-- lines in two words: where they start and end in the script
pub record LinesIn (s : List ℕ) (start end : ℕ) (ls : List Line) : Type 0 where
  pub ordered : start ≤ end
  pub inside : end ≤ length s
  pub is : ls ≡ lines_of (part_of s start end)

-- ---- items

module _ (s w : List ℕ) where
  -- the word at k
  abbrev pub at : ℕ → ℕ
  at k = get_or w k 0

  -- the words from k up to m are one word, two
  abbrev pub Words1 : ℕ → ℕ → ℕ → Type 0
  Words1 k m a = (m ≡ k + 1) × (at k ≡ a)

  abbrev pub Words2 : ℕ → ℕ → ℕ → ℕ → Type 0
  Words2 k m a b = (m ≡ k + 2) × (at k ≡ a) × (at (k + 1) ≡ b)

  -- the lines of D and R; they start at no EOF, and the place is below the number in the first word
  pub record SpanAt (k kind place : ℕ) (a : Target) (b : Through) : Type 0 where
    pub low : place < 32768
    pub first : at k ≡ head_with kind place (end_bit b)
    pub second : at (k + 1) ≡ target_code a + 65536 * last_code b
    pub before : target_code a < 65536

  -- a first word, the words of a qualified string, and a string's word
  abbrev pub TwoStringsAt : ℕ → ℕ → ℕ → Qualified → Line → Type 0
  TwoStringsAt k m first q new = (n : ℕ) × (m ≡ n + 1) × (at k ≡ first) × Encodes s w (k + 1) n (one q) × StringIn s (at n) new

  -- a simple command at `place`, in the words from k up to m
  unfoldable pub OpAt : ℕ → ℕ → ℕ → Op → Type 0
  OpAt k m place quit = Words1 k m (head quit_kind place)
  OpAt k m place next_line = Words1 k m (head next_kind place)
  OpAt k m place previous_line = Words1 k m (head previous_kind place)
  OpAt k m place copy = Words1 k m (head copy_kind place)
  OpAt k m place point_start = Words1 k m (head point_start_kind place)
  OpAt k m place right = Words1 k m (head right_kind place)
  OpAt k m place left = Words1 k m (head left_kind place)
  OpAt k m place cut_byte = Words1 k m (head cut_byte_kind place)
  OpAt k m place (recase up) = Words1 k m (head (case_kind up) place)
  OpAt k m place (move a) = Words2 k m (head move_kind place) (target_code a)
  OpAt k m place (delete a b) = (m ≡ k + 2) × SpanAt k delete_kind place a b
  OpAt k m place (replace a b ls) = (m ≡ k + 4) × SpanAt k replace_kind place a b × LinesIn s (at (k + 2)) (at (k + 3)) ls
  OpAt k m place (insert a ls) =
      ((m ≡ k + 2) × (at k ≡ head insert_string_kind place) × (a ≡ none) × ((l : Line) × StringIn s (at (k + 1)) l × (ls ≡ l ∷ [])))
      ⊎ ((m ≡ k + 4) × (at k ≡ head insert_lines_kind place) × (at (k + 1) ≡ spot_code a) × LinesIn s (at (k + 2)) (at (k + 3)) ls)
  OpAt k m place (alter c pointing q new) = TwoStringsAt k m (head (change_kind c pointing) place) q new
  OpAt k m place (split after q) = (at k ≡ head (split_kind after) place) × Encodes s w (k + 1) m (one q)
  OpAt k m place (join l) = (m ≡ k + 2) × (at k ≡ head join_kind place) × StringIn s (at (k + 1)) l
  OpAt k m place (add_global c l new) = TwoStringsAt k m (head (global_kind c) place) (qualified no_qualifiers l) new
  OpAt k m place cancel_globals = Words1 k m (head cancel_kind place)
  OpAt k m place (name_words xs) = (m ≡ k + 4) × (at k ≡ head word_set_kind place) × SetAt w (k + 1) xs
  OpAt k m place (point after q) = (at k ≡ head (point_kind after) place) × Encodes s w (k + 1) m (one q)
  OpAt k m place only_step = ⊥
  OpAt k m place (test c) = ⊥
  OpAt k m place begin = ⊥
  OpAt k m place begin_back = ⊥
  OpAt k m place (find se) = ⊥
  OpAt k m place (find_back se) = ⊥
  OpAt k m place (find_delete se n) = ⊥

  -- a first word, then where the search ends, then the search
  unfoldable pub SearchAt : ℕ → ℕ → ℕ → Search → Type 0
  SearchAt k m first se = (at k ≡ first) × (at (k + 1) ≡ m) × Encodes s w (k + 2) m se

  -- a count below 512 stands in the first word, a larger one in the next
  unfoldable pub TimesAt : ℕ → ℕ → ℕ → ℕ → Type 0
  TimesAt k m place n = ((n < 512) × Words1 k m (head_with count_kind place n)) ⊎ Words2 k m (head long_count_kind place) n

  unfoldable pub OpenerAt : ℕ → ℕ → ℕ → Opener → Type 0
  OpenerAt k m place (times n) = TimesAt k m place n
  OpenerAt k m place forever = Words1 k m (head repeat_kind place)
  OpenerAt k m place bare = Words1 k m (head bare_kind place)
  OpenerAt k m place (branch (is se)) = SearchAt k m (head if_kind place) se
  OpenerAt k m place (branch (is_not se)) = SearchAt k m (head unless_kind place) se
  OpenerAt k m place (branch is_eof) = Words1 k m (head if_eof_kind place)
  OpenerAt k m place (loop (is se)) = SearchAt k m (head while_kind place) se
  OpenerAt k m place (loop (is_not se)) = SearchAt k m (head until_kind place) se
  OpenerAt k m place (loop is_eof) = ⊥

  -- an item, in the words from k up to m
  unfoldable pub ItemAt : ℕ → ℕ → Item → Type 0
  ItemAt k m (simple place op) = OpAt k m place op
  ItemAt k m (seek place f se) = SearchAt k m (head (seek_kind f) place) se
  ItemAt k m (opens place o) = OpenerAt k m place o
  ItemAt k m line_end = Words1 k m line_end_kind
  ItemAt k m bracket = Words1 k m bracket_kind
  ItemAt k m close = Words1 k m close_kind
  ItemAt k m otherwise = Words1 k m else_kind
  ItemAt k m (leave place) = Words1 k m (head leave_kind place)

  -- items in reading order, from k up to m
  unfoldable pub ItemsAt : ℕ → ℕ → List Item → Type 0
  ItemsAt k m [] = k ≡ m
  ItemsAt k m (i ∷ rest) = (n : ℕ) × ItemAt k n i × ItemsAt n m rest

-- n closes stand from k on, all else stays
pub record Closed (k n : ℕ) (w w' : List ℕ) : Type 0 where
  pub same_length : length w' ≡ length w
  pub inside : (j : ℕ) → k ≤ j → j < k + n → get_or w' j 0 ≡ close_kind
  pub outside : (j : ℕ) → (j < k) ⊎ (k + n ≤ j) → get_or w' j 0 ≡ get_or w j 0
