-- What the values of the code stand for, in the terms of the definitions. Assumes nothing.
use Rattle.std.specs.Prelude.{◌≡◌, Bool, true, false, cond, ℕ, zero, suc, ◌+◌, ◌*◌, ◌≤◌, length}
use Rattle.std.proofs.Math.Option.{Option}
use Rattle.definitions.specs.Bytes.{Line}
use Rattle.definitions.specs.Matching.{Anchor, anywhere, at_start, at_end, precisely, Columns, all_columns, columns, Qualifiers, qualifiers, Text, text, Match, stands_at, place_in, stands_in, taken, with_width}
use Rattle.definitions.specs.Patterns.{Pattern}
use Rattle.marks.specs.Sweeping.{Reads}
use Rattle.leads.specs.Leading.{leads_of}
use Rattle.leads.specs.declared.Leads.{Leads}
use Rattle.matching.specs.declared.Quals.{Quals}
use Rattle.matching.specs.declared.Span.{Span}

-- 0: none of B, E, P; 1: B; 2: E; 3 and more: P
unfoldable pub anchor_of : ℕ → Anchor
anchor_of zero = anywhere
anchor_of (suc zero) = at_start
anchor_of (suc (suc zero)) = at_end
anchor_of (suc (suc (suc n))) = precisely

-- columns `from` to `to`, all of them where `from` is 0
unfoldable pub columns_of : ℕ → ℕ → Columns
columns_of zero m = all_columns
columns_of (suc n) m = columns (suc n) m

-- a pattern has no count (W9.1)
unfoldable pub qualifiers_of : Quals → Qualifiers
qualifiers_of q =
    qualifiers (anchor_of q.anchor) (cond q.pattern 0 q.count) q.last q.negated q.word q.fold q.skip (columns_of q.from q.to) q.pattern

-- no qualifiers
abbrev pub plain : Quals
plain = record { anchor = 0; count = 0; last = false; negated = false; word = false; fold = false; skip = false; from = 0; to = 0; pattern = false }

-- the bytes that a match of a pattern can begin with, as a number
unfoldable pub lead_number : Leads → ℕ
lead_number r = r.low + 256 * r.high

-- where R is given, the string is a pattern, and `count` holds the bytes that its matches can begin with
abbrev pub Formed : Quals → Line → Type 0
Formed q s = q.pattern ≡ true → (pat : Pattern) × Reads s pat × (q.count ≡ lead_number (leads_of pat))

-- the part of the line is the text t, and lies within the line
pub record TextIn (l : Line) (r : Span) (t : Text) : Type 0 where
  pub is : text r.start r.end ≡ t
  pub ordered : r.start ≤ r.end
  pub inside : r.end ≤ length l

-- what the string matches in the text, R not given
unfoldable pub string_in : (ℕ → Bool) → Quals → Line → Line → Text → Option Match
string_in isWord q s l t =
    with_width (length s) (place_in (anchor_of q.anchor) (stands_at isWord q.word q.fold s l) (length s) q.count q.last t)

-- what the pattern matches in the text
unfoldable pub pattern_in : (ℕ → Bool) → Quals → Pattern → Line → Text → Option Match
pattern_in isWord q pat l t = taken (anchor_of q.anchor) q.last (stands_in isWord q.word pat l) t
