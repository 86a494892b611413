-- Where a line ends, and the form of bytes made up of lines, in terms of document 01's lines and tables.
use Rattle.std.specs.Prelude.{ℕ, ◌+◌, ◌-◌, Bool, true, false, cond, List, [], ◌∷◌, length, take, drop, ◌==◌, Option, Some, None}
use Rattle.definitions.specs.Bytes.{Line, lines_of, is_line, are_lines}
use Rattle.definitions.specs.Table.{is_table}

-- the bytes before the first LF, of bytes that begin with `b`; `o`: those of the bytes after `b`
unfoldable pub cut_at : Bool → ℕ → Option Line → Option Line
cut_at true b o = Some []
cut_at false b None = None
cut_at false b (Some l) = Some (b ∷ l)

-- the bytes before the first LF; none where no LF stands
unfoldable pub up_to_lf : List ℕ → Option Line
unfolding cut_at
up_to_lf [] = None
up_to_lf (b ∷ bs) = cut_at (b == 10) b (up_to_lf bs)

-- a line that begins at `at` ends at its LF, if it is a line
unfoldable pub end_of : ℕ → Option Line → Option ℕ
end_of at None = None
end_of at (Some l) = cond (is_line l) (Some (at + length l)) None

-- the end of the line that begins `bs`, whose first byte stands at `at`
unfoldable pub line_end : ℕ → List ℕ → Option ℕ
unfolding end_of up_to_lf
line_end at bs = end_of at (up_to_lf bs)

-- the bytes of `s` from `a` up to `e`
abbrev pub part : ℕ → ℕ → List ℕ → List ℕ
part a e s = take (e - a) (drop a s)

-- bytes that are lines, each ended by LF: how many
unfoldable pub lines_form : List ℕ → Option ℕ
lines_form bs = cond (are_lines bs) (Some (length (lines_of bs))) None

-- a table's number of lines; none: malformed (7)
unfoldable pub table_form : List ℕ → Option ℕ
table_form t = cond (is_table t) (Some (length (lines_of t))) None
