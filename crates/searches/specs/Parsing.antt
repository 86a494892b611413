-- What the reader of search expressions answers and writes. Assumes nothing.
use Rattle.std.specs.Prelude.{◌≡◌, true, List, ℕ, suc, ◌+◌, ◌-◌, ◌*◌, ◌≤◌, length, take, get_or, Option, Some, None, Result}
use Rattle.std.proofs.Math.Option.{Option as Maybe, none, some}
use Rattle.definitions.specs.Bytes.{is_digit}
use Rattle.definitions.specs.Table.{is_script}
use Rattle.definitions.specs.Reader.{Cursor, Got, got, refused, and_then, skip_spaces}
use Rattle.definitions.specs.Search.{Search, one}
use Rattle.definitions.specs.Strings.{qualified_string, closing}
use Rattle.matching.specs.Words.{Encodes}
use Rattle.answers.specs.declared.Read.{Read}
use Rattle.answers.specs.declared.Refusal.{Refusal}
use Rattle.answers.specs.Answers.{AnswerOr, ReadOr}
use Rattle.lexer.specs.Places.{cursor_at}

-- ---- operators and brackets

abbrev pub right_of : List ℕ → Option ℕ → Maybe Cursor
right_of s (Some next) = some (cursor_at s next)
right_of s None = none

-- the operator takes a byte, of n bytes
abbrev pub RightOn : ℕ → ℕ → Option ℕ → Type 0
RightOn at n (Some next) = (suc at ≤ next) × (next ≤ n)
RightOn at n None = Unit {0}

-- the closing bracket, which takes a byte, after any search
abbrev pub ClosesAt : List ℕ → ℕ → ℕ → Type 0
ClosesAt s at next = ((se : Search) → closing se (skip_spaces (cursor_at s at)) ≡ got se (cursor_at s next)) × (suc at ≤ next) × (next ≤ length s)

abbrev pub NotClosed : List ℕ → ℕ → ℕ → ℕ → Type 0
NotClosed s at k p = (se : Search) → closing se (skip_spaces (cursor_at s at)) ≡ refused k p

abbrev pub Closes : List ℕ → ℕ → Result ℕ Refusal → Type 0
Closes s at = AnswerOr (ClosesAt s at) (NotClosed s at)

-- ---- searches

-- one qualified string as a search
unfoldable pub string_part : Cursor → Got Search
string_part c = and_then (qualified_string true c) (λ q c₁. got (one q) c₁)

-- The work area has two words from k on for each byte of the script that is left, and a place in it fits a word
pub record SearchRoom (script words : List ℕ) (at k : ℕ) : Type 0 where
  pub form : is_script script ≡ true
  pub inside : at ≤ length script
  pub enough : k + 2 * (length script - at) ≤ length words
  pub fits : k + 2 * (length script - at) ≤ 1073741823

-- A search was read from `at` up to `next`, and lies in the words from k up to m; the words before k are as they were, and two words for each
-- byte that is left are still free, and one more where a digit follows. x n is the definition's answer with fuel n, and `bound` is enough fuel.
pub record SearchWritten (script before words : List ℕ) (at k bound : ℕ) (x : ℕ → Got Search) (next m : ℕ) : Type 0 where
  pub search : Search
  pub is : (n : ℕ) → bound ≤ n → x n ≡ got search (cursor_at script next)
  pub encodes : Encodes script words k m search
  pub kept : take k words ≡ take k before
  pub after : suc at ≤ next
  pub within : next ≤ length script
  pub room : m + 2 * (length script - next) ≤ k + 2 * (length script - at)
  pub spare : is_digit (get_or script next 0) ≡ true → suc m + 2 * (length script - next) ≤ k + 2 * (length script - at)

-- the definition refuses, with `bound` fuel or more
abbrev pub SearchRefused : ℕ → (ℕ → Got Search) → ℕ → ℕ → Type 0
SearchRefused bound x e p = (n : ℕ) → bound ≤ n → x n ≡ refused e p

-- what a reader of a search at `at` answers, with the words before and after
abbrev pub Parsed : List ℕ → List ℕ → List ℕ → ℕ → ℕ → ℕ → (ℕ → Got Search) → Result (Read ℕ) Refusal → Type 0
Parsed script before words at k bound x = ReadOr (λ m next. SearchWritten script before words at k bound x next m) (SearchRefused bound x)
