-- What the items of a script hold is within document 01's bounds: strings and lines are lines, numbers are 1 to 65,535, counts at most 65,535;
-- a string with R is a pattern (document 02, wish 9).
use Rattle.std.specs.Prelude.{Bool, true, false, cond, not, ◌&&◌, List, [], ◌∷◌, ℕ, leb, ltb}
use Rattle.std.proofs.Math.Option.{Option, none, some}
use Rattle.definitions.specs.Bytes.{Line, is_line, all_lines}
use Rattle.definitions.specs.Matching.{Columns, all_columns, columns, Qualifiers, qualifiers, Qualified, qualified}
use Rattle.definitions.specs.Reader.{Got, got, refused}
use Rattle.definitions.specs.Patterns.{Pattern, read_pattern}
use Rattle.definitions.specs.Strings.{is_pattern, is_empty}
use Rattle.definitions.specs.Search.{Search, one, both, either}
use Rattle.definitions.specs.Editor.{Target, here, line, eof, Through, alone, up_to, to_eof}
use Rattle.definitions.specs.Edit.{Test, is, is_not, is_eof, Op, only_step, quit, test, begin, begin_back, find, find_back, find_delete, move, next_line, previous_line, delete, replace, insert, copy, alter, split, join, add_global, cancel_globals, name_words, point, point_start, right, left, cut_byte, recase}
use Rattle.definitions.specs.Control.{Opener, times, forever, bare, branch, loop, Item, simple, seek, opens, bracket, close, otherwise, leave, line_end}

-- "Numbers are 1 to 65,535"
abbrev pub is_number : ℕ → Bool
is_number n = leb 1 n && leb n 65535

-- "_n,m_ with n ≤ m"
unfoldable pub good_columns : Columns → Bool
good_columns all_columns = true
good_columns (columns n m) = is_number n && is_number m && leb n m

-- the count is 0 where none is given
unfoldable pub good_qualifiers : Qualifiers → Bool
good_qualifiers (qualifiers a k l n w u s c r) = leb k 65535 && good_columns c

unfoldable pub is_read : Got Pattern → Bool
is_read (got p c) = true
is_read (refused n at) = false

-- a string with R is a pattern
unfoldable pub is_formed : Qualifiers → Line → Bool
is_formed q l = cond (is_pattern q) (is_read (read_pattern 0 l)) true

unfoldable pub good_qualified : Qualified → Bool
good_qualified (qualified q l) = good_qualifiers q && is_line l && is_formed q l

unfoldable pub good_search : Search → Bool
good_search (one q) = good_qualified q
good_search (both a b) = good_search a && good_search b
good_search (either a b) = good_search a && good_search b

unfoldable pub good_test : Test → Bool
good_test (is se) = good_search se
good_test (is_not se) = good_search se
good_test is_eof = true

unfoldable pub good_target : Target → Bool
good_target here = true
good_target (line a) = is_number a
good_target eof = true

unfoldable pub good_through : Through → Bool
good_through alone = true
good_through (up_to b) = is_number b
good_through to_eof = true

unfoldable pub good_option : Option Target → Bool
good_option none = true
good_option (some a) = good_target a

-- what a command does; what only a step of a search, a test or a round asks stands in no item
unfoldable pub good_op : Op → Bool
good_op only_step = false
good_op quit = true
good_op (test t) = false
good_op begin = false
good_op begin_back = false
good_op (find se) = false
good_op (find_back se) = false
good_op (find_delete se k) = false
good_op (move a) = good_target a
good_op next_line = true
good_op previous_line = true
good_op (delete a b) = good_target a && good_through b
good_op (replace a b ls) = good_target a && good_through b && all_lines ls
good_op (insert a ls) = good_option a && all_lines ls
good_op copy = true
good_op (alter c pointing q new) = good_qualified q && is_line new
good_op (split after q) = good_qualified q
good_op (join s) = is_line s
good_op (add_global c s new) = is_line s && not (is_empty s) && is_line new
good_op cancel_globals = true
good_op (name_words xs) = true
good_op (point after q) = good_qualified q
good_op point_start = true
good_op right = true
good_op left = true
good_op cut_byte = true
good_op (recase b) = true

unfoldable pub good_opener : Opener → Bool
good_opener (times n) = leb n 65535
good_opener forever = true
good_opener bare = true
good_opener (branch t) = good_test t
good_opener (loop t) = good_test t

unfoldable pub good_item : Item → Bool
good_item (simple at op) = good_op op
good_item (seek at s se) = good_search se
good_item (opens at o) = good_opener o
good_item bracket = true
good_item close = true
good_item otherwise = true
good_item (leave at) = true
good_item line_end = true

-- the place of an item that has one is that of a byte, of `n`
unfoldable pub placed_in : ℕ → Item → Bool
placed_in n (simple at op) = ltb at n
placed_in n (seek at s se) = ltb at n
placed_in n (opens at o) = ltb at n
placed_in n bracket = true
placed_in n close = true
placed_in n otherwise = true
placed_in n (leave at) = ltb at n
placed_in n line_end = true

unfoldable pub all_items : (Item → Bool) → List Item → Bool
all_items passes [] = true
all_items passes (i ∷ rest) = passes i && all_items passes rest
