-- A byte that every match of a pattern has, so that a line without that byte is passed by one scan. Assumes nothing.
use Rattle.std.specs.Prelude.{◌≡◌, Bool, true, false, cond, not, ◌&&◌, List, [], ◌∷◌, ℕ, eqb, Option, Some, None}
use Rattle.definitions.specs.Bytes.{Line}
use Rattle.definitions.specs.WordSet.{Named, byte, quoted_byte, range}
use Rattle.definitions.specs.Patterns.{Pattern, one_byte, empty_row, in_row, either_of, any_number}
use Rattle.marks.specs.Written.{Kind, Stands}
use Rattle.needs.specs.declared.Need.{Need}

-- ---- the byte

-- the byte that both are
unfoldable pub equal_byte : ℕ → ℕ → Option ℕ
equal_byte a b = cond (eqb a b) (Some a) None

-- the one byte that is named; none where there may be several
unfoldable pub only_byte : Named → Option ℕ
only_byte (byte b) = Some b
only_byte (quoted_byte b) = Some b
only_byte (range a b) = equal_byte a b

-- of two that are needed: the second, where one is known, else the first
unfoldable pub later_byte : Option ℕ → Option ℕ → Option ℕ
later_byte a None = a
later_byte a (Some b) = Some b

-- of two of which one is needed: the byte that they are both
unfoldable pub same_byte : Option ℕ → Option ℕ → Option ℕ
same_byte None b = None
same_byte (Some a) None = None
same_byte (Some a) (Some b) = equal_byte a b

-- a byte that every match of the pattern has, where one is known
unfoldable pub need_of : Pattern → Option ℕ
need_of (one_byte true x) = None
need_of (one_byte false x) = only_byte x
need_of empty_row = None
need_of (in_row p q) = later_byte (need_of p) (need_of q)
need_of (either_of p q) = same_byte (need_of p) (need_of q)
need_of (any_number p) = None

-- ---- bytes that do not have it

-- no byte of the list is b
unfoldable pub is_without : ℕ → List ℕ → Bool
is_without b [] = true
is_without b (x ∷ s) = not (eqb x b) && is_without b s

-- the byte is known, and the bytes do not have it
unfoldable pub lacks : Option ℕ → List ℕ → Bool
lacks None s = false
lacks (Some b) s = is_without b s

-- ---- what is read of a pattern's string

-- the place after what is read, and its byte
pub record Needed (p : Pattern) (end : ℕ) (r : Need) : Type 0 where
  pub at : r.at ≡ end
  pub byte : r.byte ≡ need_of p

-- such a thing stands at the place
pub record There (s : Line) (k : Kind) (at : ℕ) : Type 0 where
  pub pattern : Pattern
  pub end : ℕ
  pub stands : Stands s k at pattern end

-- what stands at the place is read, whichever pattern it is
abbrev pub Needs : Line → Kind → ℕ → Need → Type 0
Needs s k at r = (p : Pattern) (end : ℕ) → Stands s k at p end → Needed p end r
