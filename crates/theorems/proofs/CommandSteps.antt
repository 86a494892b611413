-- The reader of a command's name and arguments keeps to the script; what it reads is one command or one opener, within bounds.
use Rattle.std.specs.Prelude.{◌≡◌, refl, Bool, true, false, ◌&&◌, List, [], ◌∷◌, ℕ, ◌+◌, ◌<◌, length, eqb}
use Rattle.std.proofs.Math.Option.{Option, none}
use Rattle.std.proofs.Common.{arith, lt-ltb}
use Rattle.definitions.specs.Bytes.{Line, lines_of, is_line, all_lines}
use Rattle.definitions.specs.Search.{Search}
use Rattle.definitions.specs.Editor.{Target, Through}
use Rattle.definitions.specs.Edit.{Change, Test, is_eof, Op, insert, add_global}
use Rattle.definitions.specs.Control.{Seek, Opener, forever, branch, loop, Item, simple, seek, opens, leave}
use Rattle.definitions.specs.Reader.{Cursor, cursor, place_at, bytes_left, is_next, skip_spaces, skip_comment, is_digit_next, number, name, packed, is_token}
use Rattle.definitions.specs.Strings.{Pair, pair}
use Rattle.definitions.specs.Commands.{Shape, plain, leaves, seeks, moves, deletes, inserts_string, inserts_lines, replaces, alters, points, splits, joins, globals, names_words, repeats, branches, branches_eof, loops, unknown, Row, row, command_table, look_up, shape_of, starts_target, target, through, Span, span, line_span, optional_target, end_of_line, UpToZ, up_to_z, no_z, lines_up_to_z, lines_after, bytes_from, script_lines, Decoded, whole, prefix, skip_then, test_of, delete_op, replace_op, alter_op, decode}
use Rattle.theorems.specs.Lines.{and_both, and_left, and_right, TakenFrom, taken-from}
use Rattle.theorems.specs.GoodItems.{good_test, good_target, good_through, good_option, good_op, good_opener, good_item, placed_in}
use Rattle.theorems.specs.Nesting.{is_branch, is_bare}
use Rattle.theorems.proofs.NestingSteps.{is_command}
use Rattle.theorems.specs.ReaderSteps.{Sound, Reached, ReadsWell, gets, refuses, refuses-at, anything, as-far, then, decides, after-byte, past-spaces, past-comment, past-name, number-reads, IsNumber, advanced, quoted-reads}
use Rattle.theorems.proofs.StringsSteps.{good_pair, two-reads, good_plain_pair, two-plain-reads, words-reads, qualified-reads}
use Rattle.theorems.proofs.SearchSteps.{GoodSearch, search-reads}

-- ---- line numbers

abbrev GoodTarget : Target → Type 0
GoodTarget a = good_target a ≡ true

number-along : {s : List ℕ} {left : ℕ} (c : Cursor) → Reached s left c → ReadsWell IsNumber s left (number c)
number-along c h = number-reads c (as-far h)

target-reads : {s : List ℕ} {left : ℕ} (c : Cursor) → Reached s left c → ReadsWell GoodTarget s left (target c)
unfolding target good_target
target-reads {s} {left} c h = decides (ReadsWell GoodTarget s left) (is_next 46 c) _ _ (λ t. gets (after-byte c h) refl)
    (λ t. decides (ReadsWell GoodTarget s left) (is_next 42 c) _ _ (λ u. gets (after-byte c h) refl)
    (λ u. then (number-along c h) (λ a c₁ h₁ e. gets h₁ e)))

abbrev GoodThrough : Through → Type 0
GoodThrough b = good_through b ≡ true

through-reads : {s : List ℕ} {left : ℕ} (c : Cursor) → Reached s left c → ReadsWell GoodThrough s left (through c)
unfolding through good_through
through-reads {s} {left} c h = decides (ReadsWell GoodThrough s left) (is_next 42 (skip_spaces c)) _ _ (λ t. gets (after-byte (skip_spaces c) (past-spaces c h)) refl)
    (λ t. decides (ReadsWell GoodThrough s left) (is_digit_next (skip_spaces c)) _ _
    (λ u. then (number-along (skip_spaces c) (past-spaces c h)) (λ b c₁ h₁ e. gets h₁ e)) (λ u. gets h refl))

abbrev GoodSpan : Span → Type 0
GoodSpan (span a b) = (good_target a && good_through b) ≡ true

span-reads : {s : List ℕ} {left : ℕ} (c : Cursor) → Reached s left c → ReadsWell GoodSpan s left (line_span c)
unfolding line_span good_target good_through
span-reads {s} {left} c h = decides (ReadsWell GoodSpan s left) (starts_target false (skip_spaces c)) _ _
    (λ t. then (target-reads (skip_spaces c) (past-spaces c h)) (λ a c₁ h₁ e. then (through-reads c₁ h₁) (λ b c₂ h₂ f.
    gets h₂ (and_both (good_target a) (good_through b) e f))))
    (λ t. gets h refl)

abbrev GoodOption : Option Target → Type 0
GoodOption a = good_option a ≡ true

optional-reads : {s : List ℕ} {left : ℕ} (c : Cursor) → Reached s left c → ReadsWell GoodOption s left (optional_target c)
unfolding optional_target good_option
optional-reads {s} {left} c h = decides (ReadsWell GoodOption s left) (starts_target true (skip_spaces c)) _ _
    (λ t. then (target-reads (skip_spaces c) (past-spaces c h)) (λ a c₁ h₁ e. gets h₁ e)) (λ t. gets h refl)

-- ---- the lines of I and R

end-of-line-reads : {s : List ℕ} {left : ℕ} (c : Cursor) → Reached s left c → ReadsWell anything s left (end_of_line c)
unfolding end_of_line
end-of-line-reads {s} {left} c h = decides (ReadsWell anything s left) (is_next 10 (skip_spaces c)) _ _ (λ t. gets (after-byte (skip_spaces c) (past-spaces c h)) tt)
    (λ t. decides (ReadsWell anything s left) (is_next 92 (skip_spaces c)) _ _
    (λ u. gets (after-byte (skip_comment (skip_spaces c)) (past-comment (skip_spaces c) (past-spaces c h))) tt)
    (λ u. refuses-at refl (past-spaces c h)))

abbrev GoodLines : List ℕ → List Line → Type 0
GoodLines s ls = Sound s (all_lines ls)

lines-after-reads : {s : List ℕ} {left : ℕ} (inGroup : Bool) (c : Cursor) (u : UpToZ) → Reached s left c → TakenFrom (bytes_from c) u
    → ReadsWell (GoodLines s) s left (lines_after inGroup c u)
unfolding lines_after place_at bytes_left bytes_from
lines-after-reads inGroup (cursor at bs) (up_to_z ls n) h k = gets (advanced n k.0 h) (λ e. k.1 (h.lines e))
lines-after-reads true (cursor at bs) no_z h k = refuses {at = at + length bs} refl (omega (arith, h.within))
lines-after-reads false (cursor at bs) no_z h k = refuses {at = at + length bs} refl (omega (arith, h.within))

script-lines-reads : {s : List ℕ} {left : ℕ} (inGroup : Bool) (c : Cursor) → Reached s left c → ReadsWell (GoodLines s) s left (script_lines inGroup c)
unfolding script_lines
script-lines-reads inGroup c h = then (end-of-line-reads c h) (λ end c₁ h₁ x.
    lines-after-reads inGroup c₁ (lines_up_to_z (lines_of (bytes_from c₁))) h₁ (taken-from (bytes_from c₁)))

-- ---- names: what a row of the table says is within bounds

unfoldable good_shape : Shape → Bool
good_shape (plain op) = good_op op
good_shape leaves = true
good_shape (seeks s) = true
good_shape moves = true
good_shape deletes = true
good_shape inserts_string = true
good_shape inserts_lines = true
good_shape replaces = true
good_shape (alters c pointing) = true
good_shape (points after) = true
good_shape (splits after) = true
good_shape joins = true
good_shape (globals c) = true
good_shape names_words = true
good_shape repeats = true
good_shape (branches b) = true
good_shape branches_eof = true
good_shape (loops b) = true
good_shape unknown = true

good_rows : List Row → Bool
good_rows [] = true
good_rows (row name shape ∷ rows) = good_shape shape && good_rows rows

look-up-good : (rows : List Row) (w : ℕ) → good_rows rows ≡ true → good_shape (look_up rows w) ≡ true
unfolding look_up good_rows good_shape
look-up-good [] w e = refl
look-up-good (row name shape ∷ rows) w e =
    go (eqb w (packed name)) (and_left (good_shape shape) (good_rows rows) e) (look-up-good rows w (and_right (good_shape shape) (good_rows rows) e))
  where
    go : (t : Bool) → good_shape shape ≡ true → good_shape (look_up rows w) ≡ true → good_shape (elim t [ true ↦ shape | false ↦ look_up rows w ]) ≡ true
    go true p q = p
    go false p q = q

shape-good : (w : ℕ) → good_shape (shape_of w) ≡ true
unfolding shape_of command_table good_rows good_shape good_op
shape-good w = look-up-good command_table w refl

-- ---- a command

-- one command, or one opener with whether ELSE may follow a group after it
pub data DecodedWell (s : List ℕ) : Decoded → Type 0 where
  a_command : {i : Item} → is_command i ≡ true → placed_in (length s) i ≡ true → Sound s (good_item i) → DecodedWell s (whole i)
  an_opener : {e : Bool} (at : ℕ) (o : Opener) → is_bare o ≡ false → is_branch o ≡ e → at < length s → Sound s (good_item (opens at o)) → DecodedWell s (prefix e (opens at o))

past-then : {s : List ℕ} {left : ℕ} (c : Cursor) → Reached s left c → Reached s left (skip_then c)
unfolding skip_then
past-then {s} {left} c h = decides (Reached s left) (is_token (packed "THEN") (name (skip_spaces c))) _ _ (λ t. past-name (skip_spaces c) (past-spaces c h)) (λ t. h)

simple-well : {s : List ℕ} (at : ℕ) (op : Op) → at < length s → Sound s (good_op op) → DecodedWell s (whole (simple at op))
unfolding is_command good_item placed_in
simple-well {s} at op le g = a_command refl (lt-ltb at (length s) le) g

seek-well : {s : List ℕ} (at : ℕ) (k : Seek) (se : Search) → at < length s → GoodSearch s se → DecodedWell s (whole (seek at k se))
unfolding is_command good_item placed_in
seek-well {s} at k se le g = a_command refl (lt-ltb at (length s) le) g

leave-well : {s : List ℕ} (at : ℕ) → at < length s → DecodedWell s (whole (leave at))
unfolding is_command good_item placed_in
leave-well {s} at le = a_command refl (lt-ltb at (length s) le) (λ e. refl)

test_good : (s : List ℕ) (b : Bool) (se : Search) → GoodSearch s se → Sound s (good_test (test_of b se))
unfolding good_test test_of
test_good s true se g = g
test_good s false se g = g

branch-well : {s : List ℕ} (at : ℕ) (t : Test) → at < length s → Sound s (good_test t) → DecodedWell s (prefix true (opens at (branch t)))
unfolding is_bare is_branch good_item good_opener
branch-well at t le g = an_opener at (branch t) refl refl le g

loop-well : {s : List ℕ} (at : ℕ) (t : Test) → at < length s → Sound s (good_test t) → DecodedWell s (prefix false (opens at (loop t)))
unfolding is_bare is_branch good_item good_opener
loop-well at t le g = an_opener at (loop t) refl refl le g

forever-well : {s : List ℕ} (at : ℕ) → at < length s → DecodedWell s (prefix false (opens at forever))
unfolding is_bare is_branch good_item good_opener
forever-well at le = an_opener at forever refl refl le (λ e. refl)

eof-good : (s : List ℕ) → Sound s (good_test is_eof)
unfolding good_test
eof-good s e = refl

delete-good : (s : List ℕ) (x : Span) → GoodSpan x → Sound s (good_op (delete_op x))
unfolding delete_op good_op
delete-good s (span a b) g e = g

replace-good : (s : List ℕ) (x : Span) (ls : List Line) → GoodSpan x → GoodLines s ls → Sound s (good_op (replace_op x ls))
unfolding replace_op good_op
replace-good s (span a b) ls g l e = and_both (good_target a && good_through b) (all_lines ls) g (l e)

insert-good : (s : List ℕ) (a : Option Target) (ls : List Line) → GoodOption a → GoodLines s ls → Sound s (good_op (insert a ls))
unfolding good_op
insert-good s a ls g l e = and_both (good_option a) (all_lines ls) g (l e)

string-good : (s : List ℕ) (l : Line) → Sound s (is_line l) → Sound s (good_op (insert none (l ∷ [])))
unfolding good_op good_option all_lines
string-good s l g e = and_both (is_line l) true (g e) refl

alter-good : (s : List ℕ) (c : Change) (pointing : Bool) (x : Pair) → Sound s (good_pair x) → Sound s (good_op (alter_op c pointing x))
unfolding alter_op good_op good_pair
alter-good s c pointing (pair q new) g = g

global-good : (s : List ℕ) (c : Change) (x : Line × Line) → Sound s (good_plain_pair x) → Sound s (good_op (add_global c x.0 x.1))
unfolding good_op good_plain_pair
global-good s c x g = g

decode-reads : {s : List ℕ} {left : ℕ} (inGroup : Bool) (at : ℕ) (shape : Shape) (c : Cursor) → at < length s → good_shape shape ≡ true → Reached s left c
    → ReadsWell (DecodedWell s) s left (decode inGroup at shape c)
unfolding decode good_shape good_op
decode-reads i at (plain op) c le g h = gets h (simple-well at op le (λ e. g))
decode-reads i at leaves c le g h = gets h (leave-well at le)
decode-reads i at (seeks k) c le g h = then (search-reads c h) (λ se c₁ h₁ f. gets h₁ (seek-well at k se le f))
decode-reads i at moves c le g h = then (target-reads (skip_spaces c) (past-spaces c h)) (λ a c₁ h₁ f. gets h₁ (simple-well at _ le (λ e. f)))
decode-reads {s} i at deletes c le g h = then (span-reads c h) (λ x c₁ h₁ f. gets h₁ (simple-well at (delete_op x) le (delete-good s x f)))
decode-reads {s} i at inserts_string c le g h = then (quoted-reads (skip_spaces c) (past-spaces c h)) (λ l c₁ h₁ f. gets h₁ (simple-well at _ le (string-good s l f)))
decode-reads {s} i at inserts_lines c le g h =
    then (optional-reads c h) (λ a c₁ h₁ f. then (script-lines-reads i c₁ h₁) (λ ls c₂ h₂ k. gets h₂ (simple-well at _ le (insert-good s a ls f k))))
decode-reads {s} i at replaces c le g h =
    then (span-reads c h) (λ x c₁ h₁ f. then (script-lines-reads i c₁ h₁) (λ ls c₂ h₂ k. gets h₂ (simple-well at (replace_op x ls) le (replace-good s x ls f k))))
decode-reads {s} i at (alters ch pointing) c le g h = then (two-reads c h) (λ x c₁ h₁ f. gets h₁ (simple-well at (alter_op ch pointing x) le (alter-good s ch pointing x f)))
decode-reads i at (points after) c le g h = then (qualified-reads false c h) (λ q c₁ h₁ f. gets h₁ (simple-well at _ le f))
decode-reads i at (splits after) c le g h = then (qualified-reads false c h) (λ q c₁ h₁ f. gets h₁ (simple-well at _ le f))
decode-reads i at joins c le g h = then (quoted-reads (skip_spaces c) (past-spaces c h)) (λ l c₁ h₁ f. gets h₁ (simple-well at _ le f))
decode-reads {s} i at (globals ch) c le g h = then (two-plain-reads c h) (λ x c₁ h₁ f. gets h₁ (simple-well at _ le (global-good s ch x f)))
decode-reads i at names_words c le g h = then (words-reads c h) (λ xs c₁ h₁ f. gets h₁ (simple-well at _ le (λ e. refl)))
decode-reads i at repeats c le g h = gets h (forever-well at le)
decode-reads {s} i at (branches b) c le g h = then (search-reads c h) (λ se c₁ h₁ f. gets (past-then c₁ h₁) (branch-well at (test_of b se) le (test_good s b se f)))
decode-reads {s} i at branches_eof c le g h = gets (past-then c h) (branch-well at is_eof le (eof-good s))
decode-reads {s} i at (loops b) c le g h = then (search-reads c h) (λ se c₁ h₁ f. gets h₁ (loop-well at (test_of b se) le (test_good s b se f)))
decode-reads i at unknown c le g h = refuses {at = at} refl (omega arith)

-- the command with the name packed in `w`
pub command-reads : {s : List ℕ} {left : ℕ} (inGroup : Bool) (at w : ℕ) (c : Cursor) → at < length s → Reached s left c
    → ReadsWell (DecodedWell s) s left (decode inGroup at (shape_of w) c)
command-reads i at w c le h = decode-reads i at (shape_of w) c le (shape-good w) h
