-- The text of a run: the records as far as read, the current line, the window (document 01, "Tables and the journal"); moves among the records, and
-- changes of them.
use Rattle.std.specs.Prelude.{Bool, true, false, ◌||◌, ℕ, zero, suc, ◌-◌, length}
use Rattle.std.proofs.Math.Option.{Option, none, some}
use mathlib.Core.List.{List, [], ◌∷◌, ◌++◌, map, reverse_aux}
use Rattle.definitions.specs.Bytes.{Line}
use Rattle.definitions.specs.Journal.{Record, kept, changed, deleted, inserted, rewrite, erase, old_side}
use Rattle.definitions.specs.Tape.{Tape, unread, ended, rest_lines}

-- The records before the current one, the nearest first; the records from the current one on, as far as read, none where EOF is current; and p.
-- The current record is live.
pub data Ed : Type 0 where
  ed : List Record → List Record → ℕ → Ed

unfoldable pub before_of : Ed → List Record
before_of (ed before after p) = before

unfoldable pub after_of : Ed → List Record
after_of (ed before after p) = after

-- the records as far as read
unfoldable pub records : Ed → List Record
records (ed before after p) = reverse_aux before after

-- the journal: the records as far as read, then the unread lines, kept
unfoldable pub journal : Ed → Tape → List Record
journal e t = records e ++ map kept (rest_lines t)

-- the number of source lines among records
unfoldable pub sources : List Record → ℕ
sources rs = length (old_side rs)

-- document 01's "furthest read": the highest source line read, "EOF counting as lines + 1"
unfoldable pub furthest : Ed → Tape → ℕ
furthest e (unread ls) = sources (records e)
furthest e ended = suc (sources (records e))

-- the text of a record's line
unfoldable pub current : Record → Line
current (kept l) = l
current (changed o n) = n
current (deleted l) = l
current (inserted l) = l

-- "Live records are all but `--`"
unfoldable pub is_live : Record → Bool
is_live (kept l) = true
is_live (changed o n) = true
is_live (deleted l) = false
is_live (inserted l) = true

unfoldable pub has_live : List Record → Bool
has_live [] = false
has_live (r ∷ rs) = is_live r || has_live rs

-- the text of the first live line among records
unfoldable pub first_live : List Record → Option Line
first_live [] = none
first_live (kept l ∷ rs) = some l
first_live (changed o n ∷ rs) = some n
first_live (deleted l ∷ rs) = first_live rs
first_live (inserted l ∷ rs) = some l

-- ---- numbers

-- the numbers with which a command stops before its end ("The run: 20 .."; document 02: 30 of wish 1, 31 of wish 2)
pub data Stop : Type 0 where
  n20 n21 n22 n23 n24 n25 n26 n27 n28 n30 n31 : Stop

unfoldable pub stop_number : Stop → ℕ
stop_number n20 = 20
stop_number n21 = 21
stop_number n22 = 22
stop_number n23 = 23
stop_number n24 = 24
stop_number n25 = 25
stop_number n26 = 26
stop_number n27 = 27
stop_number n28 = 28
stop_number n30 = 30
stop_number n31 = 31

-- an answer, or the number to stop with
pub data Got (A : Type 0) : Type 0 where
  got : A → Got A
  stop : Stop → Got A

-- ---- moves among the records that are read

-- what M, D and I move to: `.`, a source line, `*`
pub data Target : Type 0 where
  here : Target
  line : ℕ → Target
  eof : Target

-- how far D goes: one line; through a source line; through the last line
pub data Through : Type 0 where
  alone : Through
  up_to : ℕ → Through
  to_eof : Through

-- to the next live line, or EOF after the last; to the previous one; to what M names; p to so many bytes
pub data Move : Type 0 where
  ahead back : Move
  to : Target → Move
  point_to : ℕ → Move

-- the first live record of `after`, or EOF, becomes current: "a line that becomes current gets p = 0"
unfoldable pub land : List Record → List Record → Ed
land before [] = ed before [] 0
land before (kept l ∷ after) = ed before (kept l ∷ after) 0
land before (changed o n ∷ after) = ed before (changed o n ∷ after) 0
land before (deleted l ∷ after) = land (deleted l ∷ before) after
land before (inserted l ∷ after) = ed before (inserted l ∷ after) 0

-- the nearest live record of `before` becomes current; "22 no previous line"
unfoldable pub go_back : List Record → List Record → Got Ed
go_back [] after = stop n22
go_back (kept l ∷ before) after = got (ed before (kept l ∷ after) 0)
go_back (changed o n ∷ before) after = got (ed before (changed o n ∷ after) 0)
go_back (deleted l ∷ before) after = go_back before (deleted l ∷ after)
go_back (inserted l ∷ before) after = got (ed before (inserted l ∷ after) 0)

-- "The record of source line n is the nth record that gives the old side a line". The record after `k` source records of `rs` becomes current,
-- `before` standing before `rs`. 21: "a line number, meets EOF unfound"; 23: "numbered line is deleted".
unfoldable pub locate : ℕ → List Record → List Record → Got Ed
locate k before [] = stop n21
locate k before (inserted l ∷ rs) = locate k (inserted l ∷ before) rs
locate zero before (kept l ∷ rs) = got (ed before (kept l ∷ rs) 0)
locate zero before (changed o n ∷ rs) = got (ed before (changed o n ∷ rs) 0)
locate zero before (deleted l ∷ rs) = stop n23
locate (suc k) before (kept l ∷ rs) = locate k (kept l ∷ before) rs
locate (suc k) before (changed o n ∷ rs) = locate k (changed o n ∷ before) rs
locate (suc k) before (deleted l ∷ rs) = locate k (deleted l ∷ before) rs

-- "`M a`: to source line a; `M *` to EOF; `M .`, or a move to the current line's own number, sets p to 0"
unfoldable pub moved : Move → Ed → Got Ed
moved ahead (ed before [] p) = got (ed before [] 0)
moved ahead (ed before (r ∷ after) p) = got (land (r ∷ before) after)
moved back (ed before after p) = go_back before after
moved (to here) (ed before after p) = got (ed before after 0)
moved (to (line a)) e = locate (a - 1) [] (records e)
moved (to eof) (ed before after p) = got (ed (reverse_aux after before) [] 0)
moved (point_to q) (ed before after p) = got (ed before after q)

-- ---- changes of records

pub data Edit : Type 0 where
  -- the live ones of the next k records, the current one first, are deleted; the next live line is current
  strike : ℕ → Edit
  -- the nearest k live lines before the current one are deleted
  strike_back : ℕ → Edit
  -- the next live line after the current one is deleted
  strike_next : Edit
  -- "An insertion goes directly before the current line's record, or at the end if EOF is current"
  put : List Line → Edit
  -- the current line's text, and p
  retext : Line → ℕ → Edit

unfoldable pub struck : ℕ → List Record → List Record → Ed
struck zero before after = land before after
struck (suc k) before [] = ed before [] 0
struck (suc k) before (r ∷ after) = struck k (erase r ++ before) after

-- `passed` stood after them
unfoldable pub struck_back : ℕ → List Record → List Record → List Record
struck_back zero before passed = reverse_aux passed before
struck_back (suc k) [] passed = reverse_aux passed []
struck_back (suc k) (kept l ∷ before) passed = struck_back k before (deleted l ∷ passed)
struck_back (suc k) (changed o n ∷ before) passed = struck_back k before (deleted o ∷ passed)
struck_back (suc k) (deleted l ∷ before) passed = struck_back (suc k) before (deleted l ∷ passed)
struck_back (suc k) (inserted l ∷ before) passed = struck_back k before passed

-- the first live line among records is deleted, a source line with its old text (W1.6)
unfoldable pub struck_next : List Record → List Record
struck_next [] = []
struck_next (kept l ∷ rs) = deleted l ∷ rs
struck_next (changed o n ∷ rs) = deleted o ∷ rs
struck_next (deleted l ∷ rs) = deleted l ∷ struck_next rs
struck_next (inserted l ∷ rs) = rs

unfoldable pub put_before : List Line → List Record → List Record
put_before [] before = before
put_before (l ∷ ls) before = put_before ls (inserted l ∷ before)

unfoldable pub edit : Edit → Ed → Ed
edit (strike k) (ed before after p) = struck k before after
edit (strike_back k) (ed before after p) = ed (struck_back k before []) after p
edit strike_next (ed before [] p) = ed before [] p
edit strike_next (ed before (r ∷ after) p) = ed before (r ∷ struck_next after) p
edit (put ls) (ed before after p) = ed (put_before ls before) after p
edit (retext l q) (ed before [] p) = ed before [] p
edit (retext l q) (ed before (r ∷ after) p) = ed before (rewrite r l ∷ after) q

-- one after the other
unfoldable pub edits : List Edit → Ed → Ed
edits [] e = e
edits (x ∷ xs) e = edits xs (edit x e)
