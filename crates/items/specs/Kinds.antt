-- The kinds of items: the one table. Each shape has sixteen kinds; an item's shape says how many words it has and what they hold. What a shape has free
-- is for commands to come, and so are the shapes from 10 to 15.
use Rattle.std.specs.Prelude.{Bool, true, false, ◌||◌, ℕ, ◌+◌, ◌*◌, ◌/◌, eqb}
use Rattle.definitions.specs.Edit.{Change, after_it, before_it, exchange}
use Rattle.definitions.specs.Control.{Seek, forward, backward, deleting}

-- ---- shapes

-- a mark of the script's structure, or AGP: one word
abbrev pub mark_shape : ℕ
mark_shape = 0

-- a simple command of one word, two, or four
abbrev pub word_shape : ℕ
word_shape = 1

abbrev pub pair_shape : ℕ
pair_shape = 2

abbrev pub four_shape : ℕ
four_shape = 3

-- a first word and the words of a qualified string; a change has one more word, of its second string
abbrev pub string_shape : ℕ
string_shape = 4

abbrev pub change_shape : ℕ
change_shape = 5

-- a first word, where the search ends, and the words of the search; a search, or an opener with a test
abbrev pub search_shape : ℕ
search_shape = 6

abbrev pub test_shape : ℕ
test_shape = 7

-- an opener of one word, or two
abbrev pub opener_shape : ℕ
opener_shape = 8

abbrev pub long_opener_shape : ℕ
long_opener_shape = 9

-- the shape of a kind
abbrev pub shape_of : ℕ → ℕ
shape_of kind = kind / 16

-- ---- marks

abbrev pub line_end_kind : ℕ
line_end_kind = 16 * mark_shape + 0

abbrev pub bracket_kind : ℕ
bracket_kind = 16 * mark_shape + 1

abbrev pub close_kind : ℕ
close_kind = 16 * mark_shape + 2

abbrev pub else_kind : ℕ
else_kind = 16 * mark_shape + 3

abbrev pub leave_kind : ℕ
leave_kind = 16 * mark_shape + 4

-- ---- simple commands

abbrev pub quit_kind : ℕ
quit_kind = 16 * word_shape + 0

abbrev pub next_kind : ℕ
next_kind = 16 * word_shape + 1

abbrev pub previous_kind : ℕ
previous_kind = 16 * word_shape + 2

abbrev pub copy_kind : ℕ
copy_kind = 16 * word_shape + 3

abbrev pub point_start_kind : ℕ
point_start_kind = 16 * word_shape + 4

abbrev pub right_kind : ℕ
right_kind = 16 * word_shape + 5

abbrev pub left_kind : ℕ
left_kind = 16 * word_shape + 6

abbrev pub cut_byte_kind : ℕ
cut_byte_kind = 16 * word_shape + 7

abbrev pub lower_kind : ℕ
lower_kind = 16 * word_shape + 8

abbrev pub upper_kind : ℕ
upper_kind = 16 * word_shape + 9

abbrev pub cancel_kind : ℕ
cancel_kind = 16 * word_shape + 10

abbrev pub move_kind : ℕ
move_kind = 16 * pair_shape + 0

abbrev pub delete_kind : ℕ
delete_kind = 16 * pair_shape + 1

abbrev pub insert_string_kind : ℕ
insert_string_kind = 16 * pair_shape + 2

abbrev pub join_kind : ℕ
join_kind = 16 * pair_shape + 3

abbrev pub replace_kind : ℕ
replace_kind = 16 * four_shape + 0

abbrev pub insert_lines_kind : ℕ
insert_lines_kind = 16 * four_shape + 1

abbrev pub word_set_kind : ℕ
word_set_kind = 16 * four_shape + 2

abbrev pub point_after_kind : ℕ
point_after_kind = 16 * string_shape + 0

abbrev pub point_before_kind : ℕ
point_before_kind = 16 * string_shape + 1

abbrev pub split_after_kind : ℕ
split_after_kind = 16 * string_shape + 2

abbrev pub split_before_kind : ℕ
split_before_kind = 16 * string_shape + 3

abbrev pub after_kind : ℕ
after_kind = 16 * change_shape + 0

abbrev pub after_pointing_kind : ℕ
after_pointing_kind = 16 * change_shape + 1

abbrev pub before_kind : ℕ
before_kind = 16 * change_shape + 2

abbrev pub before_pointing_kind : ℕ
before_pointing_kind = 16 * change_shape + 3

abbrev pub exchange_kind : ℕ
exchange_kind = 16 * change_shape + 4

abbrev pub exchange_pointing_kind : ℕ
exchange_pointing_kind = 16 * change_shape + 5

abbrev pub global_after_kind : ℕ
global_after_kind = 16 * change_shape + 6

abbrev pub global_before_kind : ℕ
global_before_kind = 16 * change_shape + 7

abbrev pub global_exchange_kind : ℕ
global_exchange_kind = 16 * change_shape + 8

-- ---- searches and openers

abbrev pub find_kind : ℕ
find_kind = 16 * search_shape + 0

abbrev pub find_back_kind : ℕ
find_back_kind = 16 * search_shape + 1

abbrev pub find_delete_kind : ℕ
find_delete_kind = 16 * search_shape + 2

abbrev pub if_kind : ℕ
if_kind = 16 * test_shape + 0

abbrev pub unless_kind : ℕ
unless_kind = 16 * test_shape + 1

abbrev pub while_kind : ℕ
while_kind = 16 * test_shape + 2

abbrev pub until_kind : ℕ
until_kind = 16 * test_shape + 3

-- a count that stands in the first word; RPT; a group that is the body of nothing; IFEOF; a count in the second word
abbrev pub count_kind : ℕ
count_kind = 16 * opener_shape + 0

abbrev pub repeat_kind : ℕ
repeat_kind = 16 * opener_shape + 1

abbrev pub bare_kind : ℕ
bare_kind = 16 * opener_shape + 2

abbrev pub if_eof_kind : ℕ
if_eof_kind = 16 * opener_shape + 3

abbrev pub long_count_kind : ℕ
long_count_kind = 16 * long_opener_shape + 0

-- ---- the kinds of commands that differ in an argument

-- $ (false), %
unfoldable pub case_kind : Bool → ℕ
case_kind false = lower_kind
case_kind true = upper_kind

-- PA (true), PB
unfoldable pub point_kind : Bool → ℕ
point_kind true = point_after_kind
point_kind false = point_before_kind

-- SA (true), SB
unfoldable pub split_kind : Bool → ℕ
split_kind true = split_after_kind
split_kind false = split_before_kind

-- A, AP, B, BP, E, EP
unfoldable pub change_kind : Change → Bool → ℕ
change_kind after_it false = after_kind
change_kind after_it true = after_pointing_kind
change_kind before_it false = before_kind
change_kind before_it true = before_pointing_kind
change_kind exchange false = exchange_kind
change_kind exchange true = exchange_pointing_kind

-- GA, GB, GE (document 02, wish 2)
unfoldable pub global_kind : Change → ℕ
global_kind after_it = global_after_kind
global_kind before_it = global_before_kind
global_kind exchange = global_exchange_kind

-- among the kinds of a change's shape
unfoldable pub is_global : ℕ → Bool
is_global kind = eqb kind global_after_kind || (eqb kind global_before_kind || eqb kind global_exchange_kind)

-- F, BF, DF
unfoldable pub seek_kind : Seek → ℕ
seek_kind forward = find_kind
seek_kind backward = find_back_kind
seek_kind deleting = find_delete_kind

-- IF (true), UL
unfoldable pub branch_kind : Bool → ℕ
branch_kind true = if_kind
branch_kind false = unless_kind

-- WH (true), UT
unfoldable pub loop_kind : Bool → ℕ
loop_kind true = while_kind
loop_kind false = until_kind
