-- A line's text passed through globals (document 02, wish 2; W2.6, W2.7).
use Rattle.std.specs.Prelude.{◌≡◌, List, [], ◌∷◌, ◌++◌, ℕ, ◌≤◌, ◌<◌, length, take, Result, Ok, Err}
use Rattle.std.proofs.Math.Option.{Option, none, some}
use Rattle.definitions.specs.Bytes.{Line}
use Rattle.definitions.specs.WordSet.{is_word_byte}
use Rattle.definitions.specs.Matching.{qualified, Match, match_of}
use Rattle.definitions.specs.Strings.{no_qualifiers}
use Rattle.definitions.specs.Given.{Global, global, Carried}
use Rattle.definitions.specs.Editor.{n25, Got, got, stop}
use Rattle.definitions.specs.Globals.{passed_through, left_by}
use Rattle.globals.specs.Standing.{GlobalAt, Standing}
use Rattle.globals.specs.declared.TooLong.{TooLong}

-- the length of the text that globals leave, or the text is too long
abbrev pub Passed : Type 0
Passed = Result ℕ TooLong

abbrev pub too-long : Passed
too-long = Err (record {})

-- the text is the first bytes of the buffer; or it is too long
unfoldable pub LeftAs : Passed → List ℕ → Got Line → Type 0
LeftAs (Ok m) line (got l) = (m ≤ 255) × (l ≡ take m line)
LeftAs (Ok m) line (stop n) = ⊥
LeftAs (Err e) line (got l) = ⊥
LeftAs (Err e) line (stop n) = n ≡ n25

-- ---- one global

-- where the string first occurs in the line from place i on; at its end where it does not. Globals have no W (W8.6)
unfoldable pub place_or : ℕ → Option Match → ℕ
place_or n none = n
place_or n (some m) = m.place

abbrev pub next_place : Line → Line → ℕ → ℕ
next_place s l i = place_or (length l) (match_of (is_word_byte []) (qualified no_qualifiers s) i l)

-- a line of at most 255 bytes, a string that is not empty, and where it first occurs; what is put for it has two parts
pub record Occurs (l : Line) (first : ℕ) (s a b : Line) : Type 0 where
  pub short : length l ≤ 255
  pub some_byte : 0 < length s
  pub at : first ≡ next_place s l 0
  pub few : length a ≤ 255
  pub few' : length b ≤ 255

-- the global that puts a, then b, for each s
abbrev pub through_one : Line → Line → Line → Line → Got Line
through_one s a b l = passed_through (global s (a ++ b) ∷ []) l

-- the item at k makes a global
pub record MakesGlobal (s w : List ℕ) (k : ℕ) : Type 0 where
  pub end : ℕ
  pub x : Global
  pub at : GlobalAt s w end k x
  pub inside : end ≤ length w

-- the text l passed through the global of the item at k
abbrev pub PassesOne : List ℕ → List ℕ → ℕ → Line → Passed → List ℕ → Type 0
PassesOne s w k l r line = (end : ℕ) (x : Global) → GlobalAt s w end k x → end ≤ length w → LeftAs r line (passed_through (x ∷ []) l)

-- ---- all that stand

abbrev pub PassesAll : List ℕ → List ℕ → Line → Passed → List ℕ → Type 0
PassesAll s w l r line = (c : Carried) → Standing s w c → LeftAs r line (left_by c l)
