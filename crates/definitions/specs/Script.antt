-- The script's reader: bytes to items with their places, or a number and a place (document 01, "Script text" and "Who causes which number").
use Rattle.std.specs.Prelude.{Bool, true, false, cond, ◌&&◌, List, [], ◌∷◌, reverse, ℕ, zero, suc, length, eqb, leb, ltb}
use Rattle.definitions.specs.Bytes.{is_digit, is_letter}
use Rattle.definitions.specs.Control.{times, bare, Item, opens, bracket, close, otherwise, line_end}
use Rattle.definitions.specs.Reader.{Cursor, cursor, Got, got, refused, place_at, next_byte, after_byte, is_next, skip_spaces, skip_comment, Token, token, digits, name, packed, is_token, after_token}
use Rattle.definitions.specs.Commands.{Decoded, whole, prefix, shape_of, decode}

-- What must follow: nothing, or a command or group that is a body; it closes so many bodies, and `true`: ELSE may follow it if it is a group
pub data Due : Type 0 where
  nothing : Due
  body : ℕ → Bool → Due

-- an open group: how many bodies its end closes, and whether ELSE may follow it
pub data Group : Type 0 where
  group : ℕ → Bool → Group

-- The reader's state: the cursor, what must follow, the open groups (innermost first), the items so far (last first)
pub data Reading : Type 0 where
  reading : Cursor → Due → List Group → List Item → Reading

-- the items of a script, or number and place
pub data Script : Type 0 where
  items : List Item → Script
  refused_at : ℕ → ℕ → Script

-- after a round: more is to be read, or the whole is
pub data AfterRound : Type 0 where
  more : Reading → AfterRound
  done : Script → AfterRound

unfoldable pub bodies : Due → ℕ
bodies nothing = 0
bodies (body k e) = k

unfoldable pub is_in_group : List Group → Bool
is_in_group [] = false
is_in_group (g ∷ groups) = true

-- so many bodies end
unfoldable pub closes : ℕ → List Item → List Item
closes zero acc = acc
closes (suc k) acc = closes k (close ∷ acc)

-- a whole command ends the bodies that it was due for; after a prefix a command or group must follow
unfoldable pub decoded : Due → List Group → List Item → Got Decoded → AfterRound
decoded due groups acc (got (whole i) c) = more (reading c nothing groups (closes (bodies due) (i ∷ acc)))
decoded due groups acc (got (prefix e i) c) = more (reading c (body (suc (bodies due)) e) groups (i ∷ acc))
decoded due groups acc (refused n at) = done (refused_at n at)

unfoldable pub named : Due → List Group → List Item → ℕ → Token → AfterRound
named due groups acc at (token w c) = decoded due groups acc (decode (is_in_group groups) at (shape_of w) c)

-- "repeat counts 0 to 65,535": else 3 at the count. Any command or group can be counted (R5)
unfoldable pub count_read : Due → List Group → List Item → ℕ → Token → AfterRound
count_read due groups acc at (token n c) =
    decoded due groups acc (cond (leb n 65535) (got (prefix false (opens at (times n))) c) (refused 3 at))

-- `(`: a body of what stands before it, or a bare group
unfoldable pub group_items : Due → ℕ → List Item → List Item
group_items nothing at acc = bracket ∷ opens at bare ∷ acc
group_items (body k e) at acc = bracket ∷ acc

unfoldable pub group_of : Due → Group
group_of nothing = group 1 false
group_of (body k e) = group k e

-- "Groups nest at most 16 deep": the one too many is 5 at it (R23)
unfoldable pub open_group : Due → List Group → List Item → Cursor → AfterRound
open_group due groups acc c =
    cond (ltb (length groups) 16)
    (more (reading (after_byte c) nothing (group_of due ∷ groups) (group_items due (place_at c) acc)))
    (done (refused_at 5 (place_at c)))

-- ELSE, and the group that must follow it: else 3 at what follows (R8)
unfoldable pub else_group : ℕ → List Group → List Item → Cursor → AfterRound
else_group k groups acc c =
    cond (is_next 40 c) (more (reading (after_byte c) nothing (group k false ∷ groups) (bracket ∷ otherwise ∷ acc))) (done (refused_at 3 (place_at c)))

unfoldable pub is_else : Cursor → Bool
is_else c = is_token (packed "ELSE") (name (skip_spaces c))

unfoldable pub after_else : Cursor → Cursor
after_else c = skip_spaces (after_token (name (skip_spaces c)))

-- the cursor after the `)` of a group
unfoldable pub group_end : Group → List Group → List Item → Cursor → AfterRound
group_end (group k e) groups acc c =
    cond (e && is_else c) (else_group k groups acc (after_else c)) (more (reading c nothing groups (closes k acc)))

-- `)`: 5 where no group is open; where a body must follow it is missing, 3, the lower number (R6)
unfoldable pub close_group : Due → List Group → List Item → Cursor → AfterRound
close_group (body k e) groups acc c = done (refused_at 3 (place_at c))
close_group nothing [] acc c = done (refused_at 5 (place_at c))
close_group nothing (g ∷ groups) acc c = group_end g groups acc (after_byte c)

-- `;`, line ends and comments: where a body must follow it is missing, 3 (R1, R6)
unfoldable pub separator : Due → List Group → List Item → ℕ → Cursor → AfterRound
separator nothing groups acc at c = more (reading c nothing groups acc)
separator (body k e) groups acc at c = done (refused_at 3 at)

-- a line end outside groups is an item, which AGP may go on after (R25)
unfoldable pub line_items : List Group → List Item → List Item
line_items [] acc = line_end ∷ acc
line_items (g ∷ groups) acc = acc

-- the script's end: a body that must follow is missing, 3; a group that is never closed is 5 at the script's length
unfoldable pub script_end : Due → List Group → List Item → ℕ → Script
script_end (body k e) groups acc at = refused_at 3 at
script_end nothing (g ∷ groups) acc at = refused_at 5 at
script_end nothing [] acc at = items (reverse acc)

-- what a byte can be where a command may begin
pub data Class : Type 0 where
  is_semicolon is_line_end is_open is_close is_count is_name is_comment is_sign : Class

unfoldable pub class_of : ℕ → Class
class_of b =
    cond (eqb b 59) is_semicolon (cond (eqb b 10) is_line_end (cond (eqb b 40) is_open (cond (eqb b 41) is_close (cond (is_digit b) is_count
    (cond (is_letter b) is_name (cond (eqb b 92) is_comment is_sign))))))

unfoldable pub by_class : Due → List Group → List Item → Cursor → Class → AfterRound
by_class due groups acc c is_semicolon = separator due groups acc (place_at c) (after_byte c)
by_class due groups acc c is_line_end = separator due groups (line_items groups acc) (place_at c) (after_byte c)
by_class due groups acc c is_open = open_group due groups acc c
by_class due groups acc c is_close = close_group due groups acc c
by_class due groups acc c is_count = count_read due groups acc (place_at c) (digits c)
by_class due groups acc c is_name = named due groups acc (place_at c) (name c)
by_class due groups acc c is_comment = separator due groups acc (place_at c) (skip_comment c)
by_class due groups acc c is_sign = named due groups acc (place_at c) (token (next_byte c) (after_byte c))

unfoldable pub read_at : Due → List Group → List Item → Cursor → AfterRound
read_at due groups acc (cursor at []) = done (script_end due groups acc at)
read_at due groups acc (cursor at (b ∷ bs)) = by_class due groups acc (cursor at (b ∷ bs)) (class_of b)

-- one round: a command, a prefix, a bracket or a separator
unfoldable pub read_one : Reading → AfterRound
read_one (reading c due groups acc) = read_at due groups acc (skip_spaces c)

-- each round but the last reads a byte at least, so one more than there are bytes is enough: the first clause never comes (theorems, ReadScript:
-- fuel-suffices); 0 is no number of document 01's
unfoldable pub read_all : ℕ → Reading → Script
read_all zero s = refused_at 0 0
read_all (suc rounds) s = elim (read_one s) [ more s' ↦ read_all rounds s' | done r ↦ r ]

unfoldable pub read_script : List ℕ → Script
read_script bs = read_all (suc (length bs)) (reading (cursor 0 bs) nothing [] [])
