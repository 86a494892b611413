-- What the answers of the code stand for, in the terms of the definitions. Assumes nothing.
use Rattle.std.specs.Prelude.{◌≡◌, Bool, true, false, cond, List, ℕ, suc, ◌+◌, ◌≤◌, ◌<◌, leb, length, get_or, Result, Ok, Err}
use Rattle.std.proofs.Math.Option.{Option}
use Rattle.definitions.specs.Bytes.{Line, is_digit}
use Rattle.definitions.specs.Matching.{Qualifiers, Qualified, qualified}
use Rattle.definitions.specs.Patterns.{read_pattern}
use Rattle.definitions.specs.Reader.{Cursor, Got, got, refused, and_then, place_at, next_byte, after_byte, expect, skip_spaces, number, string_next, quoted}
use Rattle.definitions.specs.Strings.{no_qualifiers, added, is_pattern, set_columns, qualifier_byte, read_qualifier, pattern_or, start_qualifiers, qualified_string, Pair, pair, two_strings, two_plain_strings}
use Rattle.text.specs.Lines.{part}
use Rattle.matching.specs.declared.Quals.{Quals}
use Rattle.matching.specs.Quals.{qualifiers_of, Formed}
use Rattle.answers.specs.declared.Fault.{Fault}
use Rattle.answers.specs.declared.Read.{Read}
use Rattle.answers.specs.declared.Refusal.{Refusal}
use Rattle.answers.specs.Answers.{number_of, ReadOr, read_as, refusal}
use Rattle.lexer.specs.Places.{cursor_at}
use Rattle.lexer.specs.Answers.{Refuses}
use Rattle.strings.specs.declared.OneString.{OneString}
use Rattle.strings.specs.declared.TwoStrings.{TwoStrings}

-- the numbers of qualifiers that a script can give
pub record Fits (q : Quals) : Type 0 where
  pub anchor : q.anchor ≤ 3
  pub count : q.count ≤ 65535
  pub from : q.from ≤ 65535
  pub to : q.to ≤ 65535

-- the same while they are read: of a pattern no count is given, and it is not known yet what its matches can begin with
pub record Small (q : Quals) : Type 0 where
  pub fits : Fits q
  pub uncounted : q.pattern ≡ true → q.count ≡ 0

-- what adding a qualifier comes to, with the place of the qualifier and the cursor after it: 4 where it cannot stand, 3 where there is none such
unfoldable pub added_of : Result Quals Fault → ℕ → Cursor → Got Qualifiers
added_of (Ok q) at c = got (qualifiers_of q) c
added_of (Err fault) at c = refused (number_of fault) at

unfoldable pub SmallAdded : Result Quals Fault → Type 0
SmallAdded (Ok q) = Small q
SmallAdded (Err fault) = Unit {0}

-- the answer r is what the definition says of the qualifiers q with one more
pub record Adds (x : Option Qualifiers) (q : Quals) (r : Result Quals Fault) : Type 0 where
  pub is : (at : ℕ) (c : Cursor) → added_of r at c ≡ added at x c
  pub small : Small q → SmallAdded r

-- the same of a qualifier of one byte, at the cursor
pub record AddsAt (x : Cursor → Got Qualifiers) (q : Quals) (r : Result Quals Fault) : Type 0 where
  pub is : (c : Cursor) → added_of r (place_at c) (after_byte c) ≡ x c
  pub small : Small q → SmallAdded r

-- ---- one qualifier, and all of a string

-- a qualifier that stands at `at` was added or not; `next` is the place after it
unfoldable pub read_added : Result Quals Fault → ℕ → ℕ → Result (Read Quals) Refusal
read_added (Ok q) at next = read_as q next
read_added (Err fault) at next = refusal fault at

-- one qualifier was read at `at`
abbrev pub QualifierAt : List ℕ → ℕ → Got Qualifiers → Quals → ℕ → Type 0
QualifierAt s at x q next = (x ≡ got (qualifiers_of q) (cursor_at s next)) × (suc at ≤ next) × (next ≤ length s) × Small q

abbrev pub QualifierRead : List ℕ → ℕ → Got Qualifiers → Result (Read Quals) Refusal → Type 0
QualifierRead s at x = ReadOr (QualifierAt s at x) (Refuses x)

-- the qualifier at the cursor, which is no delimiter
abbrev pub qualifier_here : Bool → Quals → Cursor → Got Qualifiers
qualifier_here inSearch q c = read_qualifier inSearch (qualifiers_of q) c (qualifier_byte (next_byte c))

-- the parts of `_n,m_` from the comma on, n being read
unfoldable pub second_column : ℕ → Cursor → Got ℕ
second_column n c =
    and_then (expect 44 (skip_spaces c)) (λ comma c₂.
    and_then (number (skip_spaces c₂)) (λ m c₃.
    cond (leb n m) (and_then (expect 95 (skip_spaces c₃)) (λ end c₄. got m c₄)) (refused 3 (place_at (skip_spaces c₂)))))

unfoldable pub columns_from : ℕ → Qualifiers → Cursor → Got Qualifiers
columns_from n q c = and_then (second_column n c) (λ m c₁. got (set_columns n m q) c₁)

-- the opening delimiter stands at the place answered, after the columns if there are any
pub record Open (s : List ℕ) (at : ℕ) (q : Quals) (next : ℕ) : Type 0 where
  pub from : at ≤ next
  pub inside : next < length s
  pub small : Small q
  pub columned : 0 < q.from → suc at ≤ next

abbrev pub OpenAt : List ℕ → ℕ → Got Qualifiers → Quals → ℕ → Type 0
OpenAt s at x q next = (x ≡ got (qualifiers_of q) (cursor_at s next)) × Open s at q next

-- all qualifiers of a string were read
abbrev pub QualifiersRead : List ℕ → ℕ → Got Qualifiers → Result (Read Quals) Refusal → Type 0
QualifiersRead s at x = ReadOr (OpenAt s at x) (Refuses x)

-- ---- strings

-- no string that can be read is longer than a line
abbrev pub Short : List ℕ → Type 0
Short s = (d i : ℕ) → length (string_next d (cursor_at s i)) ≤ 255

-- what is read of the string l from `start` on, which the cursor c follows
unfoldable pub bytes_then : Qualifiers → ℕ → Line → Cursor → Got Qualified
bytes_then q start l c = cond (is_pattern q) (pattern_or (read_pattern start l) (got (qualified q l) c)) (got (qualified q l) c)

-- r are the qualifiers q of the string l, with what the matches of a pattern can begin with (W9.1)
pub record Finished (q : Quals) (l : Line) (r : Quals) : Type 0 where
  pub same : qualifiers_of r ≡ qualifiers_of q
  pub from : r.from ≡ q.from
  pub fits : Fits r
  pub formed : length l ≤ 255 → Formed r l

abbrev pub BytesAt : List ℕ → Quals → ℕ → ℕ → ℕ → Quals → ℕ → ℕ → ℕ → Type 0
BytesAt s q start end next r a e n =
    (bytes_then (qualifiers_of q) start (part start end s) (cursor_at s next) ≡ got (qualified (qualifiers_of q) (part start end s)) (cursor_at s next))
    × Finished q (part start end s) r
    × (a ≡ start)
    × (e ≡ end)
    × (n ≡ next)

-- the bytes of a string were read, with its qualifiers
abbrev pub BytesRead : List ℕ → Quals → ℕ → ℕ → ℕ → Result (Read OneString) Refusal → Type 0
BytesRead s q start end next =
    ReadOr (λ r n. BytesAt s q start end next r.quals r.part.start r.part.end n) (Refuses (bytes_then (qualifiers_of q) start (part start end s) (cursor_at s next)))

-- Where the string lies: after `at`, and after the columns if there are any. Where a digit follows, its delimiter was read: else the line ends there.
pub record StringAt (s : List ℕ) (at : ℕ) (q : Quals) (start end next : ℕ) : Type 0 where
  pub after : suc at ≤ start
  pub ordered : start ≤ end
  pub ends : end ≤ next
  pub closed : is_digit (get_or s next 0) ≡ true → end < next
  pub within : next ≤ length s
  pub fits : Fits q
  pub columned : 0 < q.from → suc (suc at) ≤ start
  pub short : Short s → end ≤ start + 255
  pub formed : Short s → Formed q (part start end s)

-- the string starts after its opening delimiter, up to which the qualifiers y are read; so its bytes fix its end
pub record Opened (s : List ℕ) (y : Got Qualifiers) (q : Quals) (start : ℕ) : Type 0 where
  pub opening : ℕ
  pub is : y ≡ got (qualifiers_of q) (cursor_at s opening)
  pub starts : start ≡ suc opening

-- y is the reading of the qualifiers, x that of the whole
abbrev pub QuotedAt : List ℕ → ℕ → Got Qualifiers → Got Qualified → Quals → ℕ → ℕ → ℕ → Type 0
QuotedAt s at y x q start end next =
    (x ≡ got (qualified (qualifiers_of q) (part start end s)) (cursor_at s next)) × StringAt s at q start end next × Opened s y q start

abbrev pub QuotedOf : List ℕ → ℕ → Got Qualifiers → Got Qualified → OneString → ℕ → Type 0
QuotedOf s at y x r next = QuotedAt s at y x r.quals r.part.start r.part.end next

abbrev pub Quoted : List ℕ → ℕ → Got Qualifiers → Got Qualified → Result (Read OneString) Refusal → Type 0
Quoted s at y x = ReadOr (QuotedOf s at y x) (Refuses x)

-- where the two strings lie
pub record PairAt (s : List ℕ) (at : ℕ) (q : Quals) (start end second secondEnd next : ℕ) : Type 0 where
  pub first : StringAt s at q start end second
  pub ordered : second ≤ secondEnd
  pub ends : secondEnd ≤ next
  pub within : next ≤ length s
  pub short : Short s → secondEnd ≤ second + 255

-- y is the reading of the qualifiers, x that of the first string, after which the second starts, and z that of both
abbrev pub PairedAt : List ℕ → ℕ → Got Qualifiers → Got Qualified → Got Pair → Quals → ℕ → ℕ → ℕ → ℕ → ℕ → Type 0
PairedAt s at y x z q start end second secondEnd next =
    (z ≡ got (pair (qualified (qualifiers_of q) (part start end s)) (part second secondEnd s)) (cursor_at s next))
    × PairAt s at q start end second secondEnd next
    × QuotedAt s at y x q start end second

abbrev pub PairedOf : List ℕ → ℕ → Got Qualifiers → Got Qualified → Got Pair → TwoStrings → ℕ → Type 0
PairedOf s at y x z r next = PairedAt s at y x z r.first.quals r.first.part.start r.first.part.end r.second.start r.second.end next

abbrev pub Paired : List ℕ → ℕ → Got Qualifiers → Got Qualified → Got Pair → Result (Read TwoStrings) Refusal → Type 0
Paired s at y x z = ReadOr (PairedOf s at y x z) (Refuses z)

-- a qualified string and a second string were read at `at`
abbrev pub PairOf : List ℕ → ℕ → TwoStrings → ℕ → Type 0
PairOf s at = PairedOf s at (start_qualifiers false (cursor_at s at)) (qualified_string false (cursor_at s at)) (two_strings (cursor_at s at))

abbrev pub PairRead : List ℕ → ℕ → Result (Read TwoStrings) Refusal → Type 0
PairRead s at = ReadOr (PairOf s at) (Refuses (two_strings (cursor_at s at)))

-- Two unqualified strings, for which no qualifiers are answered: x is the reading of the first, which starts after its opening delimiter, and z that of
-- both (document 02, wish 2; W2.1).
pub record PlainAt (s : List ℕ) (at : ℕ) (x : Got Line) (z : Got (Line × Line)) (q : Quals) (start end second secondEnd next : ℕ) : Type 0 where
  pub unqualified : qualifiers_of q ≡ no_qualifiers
  pub starts : start ≡ suc (place_at (skip_spaces (cursor_at s at)))
  pub first : x ≡ got (part start end s) (cursor_at s second)
  pub both : z ≡ got (part start end s, part second secondEnd s) (cursor_at s next)
  pub stand : PairAt s at q start end second secondEnd next

-- they were read at `at`
abbrev pub PlainOf : List ℕ → ℕ → TwoStrings → ℕ → Type 0
PlainOf s at r = PlainAt s at (quoted (skip_spaces (cursor_at s at))) (two_plain_strings (cursor_at s at)) r.first.quals r.first.part.start r.first.part.end r.second.start r.second.end

abbrev pub PlainRead : List ℕ → ℕ → Result (Read TwoStrings) Refusal → Type 0
PlainRead s at = ReadOr (PlainOf s at) (Refuses (two_plain_strings (cursor_at s at)))
