-- The commands' names and arguments (document 01, "Commands"; numbers 2, 3, 5 and 6; document 02, wishes 1, 2 and 8).
use Rattle.std.specs.Prelude.{Bool, true, false, cond, ◌&&◌, ◌||◌, List, [], ◌∷◌, ℕ, suc, ◌+◌, length, drop, eqb}
use Rattle.std.proofs.Math.Option.{Option, none, some}
use Prim.Native.String.{String}
use Rattle.definitions.specs.Bytes.{Line, lines_of}
use Rattle.definitions.specs.Editor.{Target, here, line, eof, Through, alone, up_to, to_eof}
use Rattle.definitions.specs.Edit.{Change, after_it, before_it, exchange, Test, is, is_not, is_eof, Op, quit, move, next_line, previous_line, delete, replace, insert, copy, alter, split, join, add_global, cancel_globals, name_words, point, point_start, right, left, cut_byte, recase}
use Rattle.definitions.specs.Search.{Search}
use Rattle.definitions.specs.Control.{Seek, forward, backward, deleting, forever, branch, loop, Item, simple, seek, opens, leave}
use Rattle.definitions.specs.Reader.{Cursor, cursor, Got, got, refused, and_then, place_at, after_byte, is_next, skip_spaces, skip_comment, is_digit_next, number, name, packed, is_token, after_token, quoted}
use Rattle.definitions.specs.Strings.{Pair, pair, qualified_string, two_strings, two_plain_strings, word_names, search_expression}

-- ---- names

-- What a command is and what must follow its name; a new command is a row of `command_table`
pub data Shape : Type 0 where
  -- nothing follows
  plain : Op → Shape
  -- AGP
  leaves : Shape
  -- F, BF, DF: a search expression
  seeks : Seek → Shape
  -- M: a
  moves : Shape
  -- D: [a [b]]
  deletes : Shape
  -- IS: a string
  inserts_string : Shape
  -- I: [a], and lines
  inserts_lines : Shape
  -- R: [a [b]], and lines
  replaces : Shape
  -- A, B, E, AP, BP, EP: a qualified string and a second string
  alters : Change → Bool → Shape
  -- PA, PB: a qualified string
  points : Bool → Shape
  -- SA, SB: a qualified string; CL: a string (document 02, wish 1)
  splits : Bool → Shape
  joins : Shape
  -- GE, GA, GB: two unqualified strings (document 02, wish 2)
  globals : Change → Shape
  -- WORD: an unqualified string (document 02, wish 8)
  names_words : Shape
  -- RPT, and a command or group
  repeats : Shape
  -- IF, UL: a search expression, THEN or not, and a command or group; IFEOF without the search expression
  branches : Bool → Shape
  branches_eof : Shape
  -- WH, UT: a search expression, and a command or group
  loops : Bool → Shape
  unknown : Shape

pub data Row : Type 0 where
  row : String → Shape → Row

-- the names of the commands: letters, or one byte of another kind (R4); THEN and ELSE are none of them (R7)
unfoldable pub command_table : List Row
command_table =
    row "M" moves ∷ row "N" (plain next_line) ∷ row "P" (plain previous_line)
    ∷ row "F" (seeks forward) ∷ row "BF" (seeks backward) ∷ row "DF" (seeks deleting)
    ∷ row "D" deletes ∷ row "IS" inserts_string ∷ row "IC" (plain copy) ∷ row "I" inserts_lines ∷ row "R" replaces
    ∷ row "A" (alters after_it false) ∷ row "B" (alters before_it false) ∷ row "E" (alters exchange false)
    ∷ row "AP" (alters after_it true) ∷ row "BP" (alters before_it true) ∷ row "EP" (alters exchange true)
    ∷ row "PA" (points true) ∷ row "PB" (points false) ∷ row "PR" (plain point_start)
    ∷ row "SA" (splits true) ∷ row "SB" (splits false) ∷ row "CL" joins
    ∷ row "GE" (globals exchange) ∷ row "GA" (globals after_it) ∷ row "GB" (globals before_it) ∷ row "CG" (plain cancel_globals) ∷ row "WORD" names_words
    ∷ row ">" (plain right) ∷ row "<" (plain left) ∷ row "#" (plain cut_byte) ∷ row "$" (plain (recase false)) ∷ row "%" (plain (recase true))
    ∷ row "RPT" repeats ∷ row "IF" (branches true) ∷ row "UL" (branches false) ∷ row "IFEO" branches_eof
    ∷ row "WH" (loops true) ∷ row "UT" (loops false) ∷ row "AGP" leaves ∷ row "W" (plain quit) ∷ []

unfoldable pub look_up : List Row → ℕ → Shape
look_up [] w = unknown
look_up (row s shape ∷ rows) w = elim (eqb w (packed s)) [ true ↦ shape | false ↦ look_up rows w ]

-- the command with the name packed in `w`
unfoldable pub shape_of : ℕ → Shape
shape_of w = look_up command_table w

-- ---- line numbers

-- "a a number or .": M and I take `*` too
unfoldable pub starts_target : Bool → Cursor → Bool
starts_target star c = is_digit_next c || is_next 46 c || (star && is_next 42 c)

-- a number, `.` or `*`
unfoldable pub target : Cursor → Got Target
target c =
    cond (is_next 46 c) (got here (after_byte c))
    (cond (is_next 42 c) (got eof (after_byte c)) (and_then (number c) (λ a c₁. got (line a) c₁)))

-- how far D goes, after its first line: "b a number or *"; once a digit stands there, it must be right (R2)
unfoldable pub through : Cursor → Got Through
through c =
    cond (is_next 42 (skip_spaces c)) (got to_eof (after_byte (skip_spaces c)))
    (cond (is_digit_next (skip_spaces c)) (and_then (number (skip_spaces c)) (λ b c₁. got (up_to b) c₁)) (got alone c))

-- the lines of D and R
pub data Span : Type 0 where
  span : Target → Through → Span

-- "D [a [b]]": a byte that cannot begin a line number ends the command (R3)
unfoldable pub line_span : Cursor → Got Span
line_span c =
    cond (starts_target false (skip_spaces c))
    (and_then (target (skip_spaces c)) (λ a c₁. and_then (through c₁) (λ b c₂. got (span a b) c₂)))
    (got (span here alone) c)

-- "I [a]"
unfoldable pub optional_target : Cursor → Got (Option Target)
optional_target c =
    cond (starts_target true (skip_spaces c)) (and_then (target (skip_spaces c)) (λ a c₁. got (some a) c₁)) (got none c)

-- ---- the lines of I and R

-- "it must end its line": only spaces and a comment may follow, anything else is 3 at it (R10); the cursor is then after the line's end
unfoldable pub end_of_line : Cursor → Got (Unit {0})
end_of_line c =
    cond (is_next 10 (skip_spaces c)) (got tt (after_byte (skip_spaces c)))
    (cond (is_next 92 (skip_spaces c)) (got tt (after_byte (skip_comment (skip_spaces c)))) (refused 3 (place_at (skip_spaces c))))

-- "a line Z or z": that one byte (R10)
unfoldable pub is_z : Line → Bool
is_z [] = false
is_z (b ∷ []) = eqb b 90 || eqb b 122
is_z (b ∷ c ∷ l) = false

-- lines up to a line Z, and how many bytes they have with that Z
pub data UpToZ : Type 0 where
  up_to_z : List Line → ℕ → UpToZ
  no_z : UpToZ

unfoldable pub add_line : Line → UpToZ → UpToZ
add_line l (up_to_z ls n) = up_to_z (l ∷ ls) (suc (length l) + n)
add_line l no_z = no_z

unfoldable pub lines_up_to_z : List Line → UpToZ
lines_up_to_z [] = no_z
lines_up_to_z (l ∷ ls) = elim (is_z l) [ true ↦ up_to_z [] 1 | false ↦ add_line l (lines_up_to_z ls) ]

-- the following script lines; the cursor is then at the end of the line Z. No Z line: 6 at the script's length, but 5 there in an open group (R11)
unfoldable pub lines_after : Bool → Cursor → UpToZ → Got (List Line)
lines_after inGroup (cursor at bs) (up_to_z ls n) = got ls (cursor (at + n) (drop n bs))
lines_after inGroup (cursor at bs) no_z = refused (cond inGroup 5 6) (at + length bs)

unfoldable pub bytes_from : Cursor → List ℕ
bytes_from (cursor at bs) = bs

unfoldable pub script_lines : Bool → Cursor → Got (List Line)
script_lines inGroup c = and_then (end_of_line c) (λ end c₁. lines_after inGroup c₁ (lines_up_to_z (lines_of (bytes_from c₁))))

-- ---- a command's arguments

-- what a name comes to: a whole command, or what stands before a command or group (`true`: if that is a group, ELSE may follow it)
pub data Decoded : Type 0 where
  whole : Item → Decoded
  prefix : Bool → Item → Decoded

-- "IF se [THEN]" (R7)
unfoldable pub skip_then : Cursor → Cursor
skip_then c = cond (is_token (packed "THEN") (name (skip_spaces c))) (after_token (name (skip_spaces c))) c

-- IF and WH (true); UL and UT, "the opposite"
unfoldable pub test_of : Bool → Search → Test
test_of true se = is se
test_of false se = is_not se

unfoldable pub delete_op : Span → Op
delete_op (span a b) = delete a b

unfoldable pub replace_op : Span → List Line → Op
replace_op (span a b) ls = replace a b ls

unfoldable pub alter_op : Change → Bool → Pair → Op
alter_op c pointing (pair q new) = alter c pointing q new

-- The command of a given shape whose name stands at place `at`, the cursor after the name
unfoldable pub decode : Bool → ℕ → Shape → Cursor → Got Decoded
decode inGroup at (plain op) c = got (whole (simple at op)) c
decode inGroup at leaves c = got (whole (leave at)) c
decode inGroup at (seeks s) c = and_then (search_expression c) (λ se c₁. got (whole (seek at s se)) c₁)
decode inGroup at moves c = and_then (target (skip_spaces c)) (λ a c₁. got (whole (simple at (move a))) c₁)
decode inGroup at deletes c = and_then (line_span c) (λ s c₁. got (whole (simple at (delete_op s))) c₁)
decode inGroup at inserts_string c = and_then (quoted (skip_spaces c)) (λ s c₁. got (whole (simple at (insert none (s ∷ [])))) c₁)
decode inGroup at inserts_lines c =
    and_then (optional_target c) (λ a c₁. and_then (script_lines inGroup c₁) (λ ls c₂. got (whole (simple at (insert a ls))) c₂))
decode inGroup at replaces c =
    and_then (line_span c) (λ s c₁. and_then (script_lines inGroup c₁) (λ ls c₂. got (whole (simple at (replace_op s ls))) c₂))
decode inGroup at (alters ch pointing) c = and_then (two_strings c) (λ x c₁. got (whole (simple at (alter_op ch pointing x))) c₁)
decode inGroup at (points after) c = and_then (qualified_string false c) (λ q c₁. got (whole (simple at (point after q))) c₁)
-- SA, SB as PA (W1.1); CL: the string must stand, unqualified (W0.5, W1.5)
decode inGroup at (splits after) c = and_then (qualified_string false c) (λ q c₁. got (whole (simple at (split after q))) c₁)
decode inGroup at joins c = and_then (quoted (skip_spaces c)) (λ s c₁. got (whole (simple at (join s))) c₁)
-- GE, GA, GB (W2.1)
decode inGroup at (globals ch) c = and_then (two_plain_strings c) (λ x c₁. got (whole (simple at (add_global ch x.0 x.1))) c₁)
-- WORD (W8.1)
decode inGroup at names_words c = and_then (word_names c) (λ xs c₁. got (whole (simple at (name_words xs))) c₁)
decode inGroup at repeats c = got (prefix false (opens at forever)) c
decode inGroup at (branches b) c =
    and_then (search_expression c) (λ se c₁. got (prefix true (opens at (branch (test_of b se)))) (skip_then c₁))
decode inGroup at branches_eof c = got (prefix true (opens at (branch is_eof))) (skip_then c)
decode inGroup at (loops b) c = and_then (search_expression c) (λ se c₁. got (prefix false (opens at (loop (test_of b se)))) c₁)
decode inGroup at unknown c = refused 2 at
