-- A search expression in a command.
use Rattle.std.specs.Prelude.{◌≡◌, true, List, ℕ, suc, ◌+◌, ◌-◌, ◌*◌, ◌≤◌, ◌<◌, length, get_or, Result}
use Rattle.definitions.specs.Bytes.{is_digit}
use Rattle.definitions.specs.Reader.{Got, got}
use Rattle.definitions.specs.Search.{Search}
use Rattle.answers.specs.declared.Read.{Read}
use Rattle.answers.specs.declared.Refusal.{Refusal}
use Rattle.answers.specs.Answers.{ReadOr}
use Rattle.lexer.specs.Places.{cursor_at}
use Rattle.lexer.specs.Answers.{Refuses}
use Rattle.lexer.specs.declared.shapes.Shape.{Shape}
use Rattle.lexer.specs.declared.shapes.Shape.TheVariants.{Plain, Leaves, Seeks, Moves, Deletes, InsertsString, InsertsLines, Replaces, Alters, Points, Splits, Joins, Globals, Names, Repeats, Branches, BranchesEof, Loops, Unknown}
use Rattle.items.specs.Words.{SearchAt}
use Rattle.script.specs.Reading.{Unwritten}

-- the names of prefixes have two letters at least
unfoldable pub NameOf : Shape → ℕ → ℕ → Type 0
NameOf (Plain p) place at = Unit {0}
NameOf Leaves place at = Unit {0}
NameOf (Seeks s) place at = Unit {0}
NameOf Moves place at = Unit {0}
NameOf Deletes place at = Unit {0}
NameOf InsertsString place at = Unit {0}
NameOf InsertsLines place at = Unit {0}
NameOf Replaces place at = Unit {0}
NameOf (Alters c pointing) place at = Unit {0}
NameOf (Points after) place at = Unit {0}
NameOf (Splits after) place at = Unit {0}
NameOf Joins place at = Unit {0}
NameOf (Globals c) place at = Unit {0}
NameOf Names place at = Unit {0}
NameOf Repeats place at = place + 2 ≤ at
NameOf (Branches b) place at = place + 2 ≤ at
NameOf BranchesEof place at = place + 2 ≤ at
NameOf (Loops b) place at = place + 2 ≤ at
NameOf Unknown place at = Unit {0}

-- the search was read up to `next`; with the first word it lies in the words from k up to m
pub record Found (s w w' : List ℕ) (at k first next m : ℕ) (x : Got Search) : Type 0 where
  pub search : Search
  pub is : x ≡ got search (cursor_at s next)
  pub lies : SearchAt s w' k m first search
  pub kept : Unwritten k 16 w w'
  pub forth : k + 2 ≤ m
  pub passed : at < next
  pub inside : next ≤ length s
  pub two : m + 2 * (length s - next) ≤ k + 2 + 2 * (length s - at)
  pub spare : is_digit (get_or s next 0) ≡ true → suc m + 2 * (length s - next) ≤ k + 2 + 2 * (length s - at)

abbrev pub Searched : List ℕ → List ℕ → List ℕ → ℕ → ℕ → ℕ → Got Search → Result (Read ℕ) Refusal → Type 0
Searched s w w' at k first x = ReadOr (λ m next. Found s w w' at k first next m x) (Refuses x)
