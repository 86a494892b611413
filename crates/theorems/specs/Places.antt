-- What a qualified string matches lies in the window.
use Rattle.std.specs.Prelude.{Bool, ℕ, ◌+◌, ◌≤◌, length}
use Rattle.definitions.specs.Bytes.{Line}
use Rattle.definitions.specs.Matching.{Columns, Text, text, window, after_spaces, Match}

-- ---- the text T lies in the window

abbrev pub TextIn : ℕ → Line → Text → Type 0
TextIn p l (text start end) = (p ≤ start) × (start ≤ end) × (end ≤ length l)

-- the text T, by the columns and S
abbrev pub text_for : Columns → Bool → ℕ → Line → Text
text_for cols skip p l = after_spaces skip l (window cols p l)

-- ---- the match

-- it begins after p bytes at least, and ends within the line
abbrev pub MatchIn : ℕ → Line → Match → Type 0
MatchIn p l m = (p ≤ m.place) × (m.place + m.width ≤ length l)
