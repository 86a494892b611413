-- What the readers of the script answer: x is the definition's answer, and W says more of what was read.
use Rattle.std.specs.Prelude.{◌≡◌, List, ℕ, suc, ◌≤◌, min, length, Result}
use Rattle.definitions.specs.Reader.{Got, got, refused, Token, token}
use Rattle.answers.specs.declared.Part.{Part}
use Rattle.answers.specs.declared.Read.{Read}
use Rattle.answers.specs.declared.Refusal.{Refusal}
use Rattle.answers.specs.Answers.{AnswerOr, ReadOr}
use Rattle.text.specs.Lines.{part}
use Rattle.lexer.specs.Places.{cursor_at}

abbrev pub Refuses : {A : Type 0} → Got A → ℕ → ℕ → Type 0
Refuses x k p = x ≡ refused k p

-- only the place after it
abbrev pub PastAt : List ℕ → (ℕ → Type 0) → Got (Unit {0}) → ℕ → Type 0
PastAt s W x next = (x ≡ got tt (cursor_at s next)) × W next × (next ≤ length s)

abbrev pub PastRead : List ℕ → (ℕ → Type 0) → Got (Unit {0}) → Result ℕ Refusal → Type 0
PastRead s W x = AnswerOr (PastAt s W x) (Refuses x)

-- a value; f says what it stands for
abbrev pub ValueAt : {T A : Type 0} → List ℕ → (T → A) → (T → ℕ → Type 0) → Got A → T → ℕ → Type 0
ValueAt s f W x v next = (x ≡ got (f v) (cursor_at s next)) × W v next × (next ≤ length s)

abbrev pub ValueRead : {T A : Type 0} → List ℕ → (T → A) → (T → ℕ → Type 0) → Got A → Result (Read T) Refusal → Type 0
ValueRead s f W x = ReadOr (ValueAt s f W x) (Refuses x)

-- ---- what was read, and where it ends

abbrev pub itself : ℕ → ℕ
itself n = n

-- one byte was read at `at`; or bytes from `at` on
abbrev pub OneByte : ℕ → ℕ → Type 0
OneByte at next = next ≡ suc at

abbrev pub From : ℕ → ℕ → Type 0
From at next = at ≤ next

-- a number was read from `at` on
abbrev pub Numbered : ℕ → ℕ → ℕ → Type 0
Numbered at n next = (1 ≤ n) × (n ≤ 65535) × (suc at ≤ next)

-- a number up to `top`, to a place from `from` on
abbrev pub NumberUpTo : ℕ → ℕ → ℕ → ℕ → Type 0
NumberUpTo top from n next = (n ≤ top) × (from ≤ next)

-- the bytes of a part of the script
abbrev pub part_in : List ℕ → Part → List ℕ
part_in s p = part p.start p.end s

-- a string whose delimiter stands at `at`
abbrev pub QuotedRead : ℕ → Part → ℕ → Type 0
QuotedRead at p next = (p.start ≡ suc at) × (p.start ≤ p.end) × (p.end ≤ next)

-- a value over 65,535 counts as 65,536
unfoldable pub capped : Token → Token
capped (token n c) = token (min n 65536) c
