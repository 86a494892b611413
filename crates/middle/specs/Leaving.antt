-- What a line of two journals leaves, and the records that both have from places on.
use Rattle.std.specs.Prelude.{◌≡◌, List, [], ◌∷◌, ℕ, ◌+◌, ◌-◌, ◌≤◌, ◌<◌, length, Option, Some, None, IfSome}
use Rattle.definitions.specs.Bytes.{Line, line_bytes}
use Rattle.definitions.specs.Journal.{Record, deleted, inserted, change}
use Rattle.text.specs.Lines.{part}
use Rattle.journal.specs.Records.{Left}
use Rattle.journal.specs.declared.records.Span.{Span}
use Rattle.middle.specs.declared.Places.{Places}
use Rattle.middle.specs.declared.Texts.{Texts}

-- a text's line
unfoldable pub text_in : List ℕ → Span → Line
text_in j t = part t.from (t.to - 1) j

-- the records that a line leaves, by its texts
unfoldable pub leaves_by : List ℕ → List ℕ → Option Span → Option Span → List Record
leaves_by j k (Some o) (Some n) = change (text_in j o) (text_in k n) ∷ []
leaves_by j k (Some o) None = deleted (text_in j o) ∷ []
leaves_by j k None (Some n) = inserted (text_in k n) ∷ []
leaves_by j k None None = []

unfoldable pub leaves : List ℕ → List ℕ → Texts → List Record
unfolding leaves_by
leaves j k line = leaves_by j k line.old line.new

-- from the places `p` on the first journal has the records `rs`, the second `ss`
pub record At (j k : List ℕ) (p : Places) (rs ss : List Record) : Type 0 where
  pub first : Left j p.first rs
  pub second : Left k p.second ss
  pub in_first : p.first ≤ length j
  pub in_second : p.second ≤ length k

-- a text is a line of at most 255 bytes and its LF, within the bytes
pub record Within (j : List ℕ) (t : Span) : Type 0 where
  pub low : t.from < t.to
  pub inside : t.to ≤ length j
  pub short : t.to ≤ t.from + 256
  pub line : part t.from t.to j ≡ line_bytes (text_in j t)

-- the texts of a line stand in their journals
abbrev pub Stand : List ℕ → List ℕ → Texts → Type 0
Stand j k line = IfSome line.old (Within j) × IfSome line.new (Within k)
