-- Kinds of commands, and a command read by its shape.
use Rattle.std.specs.Prelude.{◌≡◌, Bool, false, List, ℕ, Result}
use Rattle.definitions.specs.Edit.{Change}
use Rattle.definitions.specs.Commands.{Shape, inserts_string, alters, points, splits, joins, globals, decode}
use Rattle.answers.specs.declared.Command.{Command}
use Rattle.answers.specs.declared.Read.{Read}
use Rattle.answers.specs.declared.Refusal.{Refusal}
use Rattle.lexer.specs.Places.{cursor_at}
use Rattle.lexer.specs.declared.shapes.Plain.{Plain}
use Rattle.lexer.specs.declared.shapes.Plain.TheVariants.{Next, Previous, Copy, PointStart, Right, Left, CutByte, Lower, Upper, Quit, Cancel}
use Rattle.strings.specs.declared.TwoStrings.{TwoStrings}
use Rattle.strings.specs.Answers.{PairOf, PlainOf}
use Rattle.script.specs.Reading.{CommandRoom, CommandAt, CommandRead}
use Rattle.items.specs.Kinds.{quit_kind, next_kind, previous_kind, copy_kind, point_start_kind, right_kind, left_kind, cut_byte_kind, lower_kind, upper_kind, cancel_kind, insert_string_kind, join_kind, point_kind, split_kind, change_kind, global_kind}

-- the kind of a command of one word
unfoldable pub plain_kind : Plain → ℕ
plain_kind Quit = quit_kind
plain_kind Next = next_kind
plain_kind Previous = previous_kind
plain_kind Copy = copy_kind
plain_kind PointStart = point_start_kind
plain_kind Right = right_kind
plain_kind Left = left_kind
plain_kind CutByte = cut_byte_kind
plain_kind Lower = lower_kind
plain_kind Upper = upper_kind
plain_kind Cancel = cancel_kind

-- the commands of one qualified string, and of one string, with their kinds
pub data Aims (kind : ℕ) : Shape → Type 0 where
  of_points : (after : Bool) → kind ≡ point_kind after → Aims kind (points after)
  of_splits : (after : Bool) → kind ≡ split_kind after → Aims kind (splits after)

pub data Quotes (kind : ℕ) : Shape → Type 0 where
  of_inserts : kind ≡ insert_string_kind → Quotes kind inserts_string
  of_joins : kind ≡ join_kind → Quotes kind joins

-- the commands of two strings, with their kinds and what was read at `at`
pub data Pairs (s : List ℕ) (at kind : ℕ) (both : Read TwoStrings) : Shape → Type 0 where
  of_alters : (c : Change) (pointing : Bool) → kind ≡ change_kind c pointing → PairOf s at both.value both.next → Pairs s at kind both (alters c pointing)
  of_globals : (c : Change) → kind ≡ global_kind c → PlainOf s at both.value both.next → Pairs s at kind both (globals c)

-- a command of this shape was read, whose name stands at `place` and whose arguments begin at `at`
abbrev pub ShapeRead : List ℕ → List ℕ → List ℕ → ℕ → ℕ → ℕ → Bool → Shape → Result (Read Command) Refusal → Type 0
ShapeRead s w w' place at k grouped shape = CommandRead s w w' place k (decode grouped place shape (cursor_at s at))

-- two strings for a command, whose words are to be written; and these written
abbrev pub PairGiven : List ℕ → ℕ → ℕ → ℕ → Read TwoStrings → Type 0
PairGiven w k place kind both = (s : List ℕ) × (at : ℕ) × (shape : Shape) × CommandRoom s w place at k × Pairs s at kind both shape

abbrev pub PairWritten : List ℕ → List ℕ → ℕ → ℕ → ℕ → Read TwoStrings → Read Command → Type 0
PairWritten w w' k place kind both r =
    (s : List ℕ) (at : ℕ) (shape : Shape) → CommandRoom s w place at k → Pairs s at kind both shape → CommandAt s w w' place k (decode false place shape (cursor_at s at)) r.value r.next
