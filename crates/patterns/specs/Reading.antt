-- What the reader of patterns answers (document 02, wish 9). The cursor is over the string's own bytes, from place 0 on. Assumes nothing.
use Rattle.std.specs.Prelude.{◌≡◌, Bool, List, [], ℕ, suc, ◌+◌, ◌-◌, ◌*◌, ◌≤◌, length, Result, Ok, Err, ⊤}
use Rattle.definitions.specs.Reader.{cursor, Got, got, refused}
use Rattle.definitions.specs.Patterns.{Pattern, is_blank, close_bracket, read_alternatives, read_row, read_item, read_part, read_pattern}
use Rattle.text.specs.Cursors.{cursor_at}
use Rattle.patterns.specs.declared.Past.{Past}
use Rattle.patterns.specs.declared.Fault.{Fault}

-- what is found at a place: a part, up to the place after it, and is it blank; or the byte that cannot stand
abbrev pub Found : Type 0
Found = Result Past Fault

abbrev pub past-to : ℕ → Bool → Past
past-to next blank = record { next = next; blank = blank }

abbrev pub fault-at : ℕ → Fault
fault-at k = record { at = k }

-- x, the definition's answer, is a part up to `next`, which is not before `least`; is it blank
pub record ReadTo (s : List ℕ) (least : ℕ) (x : Got Pattern) (next : ℕ) (blank : Bool) : Type 0 where
  pub pattern : Pattern
  pub is : x ≡ got pattern (cursor_at s next)
  pub same : is_blank pattern ≡ blank
  pub after : least ≤ next
  pub within : next ≤ length s

-- x is what is found
pub data Reads (s : List ℕ) (least : ℕ) (x : Got Pattern) : Found → Type 0 where
  past : (next : ℕ) (blank : Bool) → ReadTo s least x next blank → Reads s least x (Ok (past-to next blank))
  fault : (k : ℕ) → x ≡ refused 34 k → Reads s least x (Err (fault-at k))

-- the same of an answer that goes by whether `~` stood before
abbrev pub ReadsEither : List ℕ → ℕ → (Bool → Got Pattern) → Found → Type 0
ReadsEither s least x r = (mismatch : Bool) → Reads s least (x mismatch) r

-- the same of an answer that goes by the fuel, where `need` is enough of it
abbrev pub ReadsBy : ℕ → List ℕ → ℕ → (ℕ → Got Pattern) → Found → Type 0
ReadsBy need s least x r = (n : ℕ) → need ≤ n → Reads s least (x n) r

-- a part, an item, a row, alternatives, from a place on, where `deep` brackets may still be opened: four of the fuel for each byte that is left, and
-- one to four more, are enough
abbrev pub PartReads : List ℕ → ℕ → ℕ → Found → Type 0
PartReads s at deep = ReadsBy (4 * (length s - at) + 1) s (suc at) (λ n. read_part n deep (cursor_at s at))

abbrev pub ItemReads : List ℕ → ℕ → ℕ → Found → Type 0
ItemReads s at deep = ReadsBy (4 * (length s - at) + 2) s (suc at) (λ n. read_item n deep (cursor_at s at))

abbrev pub RowReads : List ℕ → ℕ → ℕ → Found → Type 0
RowReads s at deep = ReadsBy (4 * (length s - at) + 3) s at (λ n. read_row n deep (cursor_at s at))

abbrev pub AlternativesRead : List ℕ → ℕ → ℕ → Found → Type 0
AlternativesRead s at deep = ReadsBy (4 * (length s - at) + 4) s at (λ n. read_alternatives n deep (cursor_at s at))

-- the `)` of a bracket, of whichever alternatives, blank or not
abbrev pub ClosedBy : Bool → List ℕ → ℕ → Found → Type 0
ClosedBy blank s at r = (p : Pattern) → is_blank p ≡ blank → Reads s (suc at) (close_bracket p (cursor_at s at)) r

-- the whole string is a pattern; or the first byte that cannot stand, its end included
unfoldable pub Forms : List ℕ → Result ⊤ Fault → Type 0
Forms s (Ok _) = (p : Pattern) × (read_pattern 0 s ≡ got p (cursor (length s) []))
Forms s (Err f) = read_pattern 0 s ≡ refused 34 f.at
