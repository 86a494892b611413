-- The unread lines of a done run passed through the standing globals (document 02, wish 2; W2.11, W2.12). Assumes nothing.
use Rattle.std.specs.Prelude.{◌≡◌, true, false, cond, ℕ, ◌+◌, ◌-◌, length, drop, ltb, Result, Ok, Err}
use mathlib.Core.List.{List, [], ◌∷◌, ◌++◌, map, reverse_aux}
use Rattle.definitions.specs.Bytes.{Line, eq_line, is_line}
use Rattle.definitions.specs.Journal.{Record, kept}
use Rattle.definitions.specs.Tape.{Tape}
use Rattle.definitions.specs.Given.{Carried}
use Rattle.definitions.specs.Globals.{left_by}
use Rattle.definitions.specs.Editor.{Ed, records, journal, n25, stop_number, Got, got, stop, eof}
use Rattle.definitions.specs.Reading.{Ran, gave, stopped, read_to}
use Rattle.editor.specs.Records.{enc}
use Rattle.editor.specs.Shows.{Holds, Shows, lent}
use Rattle.editor.specs.declared.State.{State}
use Rattle.editor.specs.declared.Stop.{Stop}
use Rattle.editor.specs.declared.Stop.TheVariants.{LineLong}
use Rattle.editor.specs.Stops.{Moved, numbered}
use Rattle.globals.specs.Standing.{Standing}

-- ---- one line

-- how many bytes more the record of `l` takes where its text becomes `new`: none where it is the same, or else the new line and its end
unfoldable pub extra : Line → Line → ℕ
extra l new = cond (eq_line l new) 0 (length new + 1)

unfoldable pub Grows : Line → Result ℕ Stop → Got Line → Type 0
Grows l (Ok n) (got new) = n ≡ extra l new
Grows l (Ok n) (stop k) = ⊥
Grows l (Err i) (got new) = ⊥
Grows l (Err i) (stop k) = (i ≡ LineLong) × (k ≡ n25)

-- the kept record at `at`
abbrev pub GrowsAt : List ℕ → List ℕ → List ℕ → ℕ → Result ℕ Stop → Type 0
GrowsAt s w j at r =
    (l : Line) (z : List ℕ) (c : Carried) → is_line l ≡ true → drop at j ≡ enc (kept l) ++ z → Standing s w c → Grows l r (left_by c l)

-- ---- all lines

-- the number with which the first line stops where there is room for so many bytes, or else that of the others, which are told the room then left
unfoldable pub measured_by : (ℕ → ℕ) → ℕ → Line → Got Line → ℕ
measured_by others room l (got new) = elim (ltb room (extra l new)) [ true ↦ 26 | false ↦ others (room - extra l new) ]
measured_by others room l (stop n) = stop_number n

-- the number with which they stop; 0 where they do not
unfoldable pub measured : Carried → ℕ → List Line → ℕ
measured c room [] = 0
measured c room (l ∷ ls) = measured_by (λ left. measured c left ls) room l (left_by c l)

-- none stops, and the number is 0; or it is that of the stop
unfoldable pub Tells : Result (Unit {0}) Stop → ℕ → Type 0
Tells (Ok u) n = 0 ≡ n
Tells (Err i) n = (numbered i ≡ n) × (numbered i ≡ 0 → ⊥)

-- the lines behind the gap, which has room for as many bytes as it is wide
abbrev pub Measures : List ℕ → List ℕ → List ℕ → State → Result (Unit {0}) Stop → Type 0
Measures s w j st r = (b : List Record) (ls : List Line) (c : Carried) → Standing s w c → Holds j st b (map kept ls) → Tells r (measured c (st.back - st.front) ls)

-- ---- the end of a done run

-- the buffer holds these records, wherever the gap stands
abbrev pub HoldsAll : List ℕ → State → List Record → Type 0
HoldsAll k s rs = (b : List Record) × (a : List Record) × Holds k s b a × (reverse_aux b a ≡ rs)

-- "all of them, or none": the records that they come to, or the journal as it was
unfoldable pub RestLeft : List ℕ → Moved → List Record → Ran (Unit {0}) → Type 0
RestLeft k (Ok s) was (gave u all) = HoldsAll k s (records all)
RestLeft k (Ok s) was (stopped n x) = ⊥
RestLeft k (Err y) was (gave u all) = ⊥
RestLeft k (Err y) was (stopped n x) = (numbered y.stop ≡ stop_number n) × HoldsAll k y.st was

-- with the buffer j and its numbers st before, and the buffer k after, the function that answered r passed the unread lines through the globals
abbrev pub PassesRest : List ℕ → List ℕ → List ℕ → State → List ℕ → Moved → Type 0
PassesRest s w j st k r =
    (e : Ed) (c : Carried) (t : Tape) → Standing s w c → Shows j st e t → RestLeft k r (journal e t) (read_to (lent j) c eof e t).0
