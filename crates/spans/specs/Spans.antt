-- Several records at once: how far D and R go, where the records that they take end, and what is left of these. Assumes nothing.
use Rattle.std.specs.Prelude.{◌≡◌, false, cond, ℕ, zero, suc, ◌+◌, ◌-◌, ◌≤◌, length, take, drop, eqb, leb, Result, Ok, Err}
use mathlib.Core.List.{List, [], ◌∷◌, ◌++◌, map, reverse_aux}
use Rattle.definitions.specs.Journal.{Record, kept, changed, deleted, inserted, erase}
use Rattle.definitions.specs.Tape.{Tape, rest_lines}
use Rattle.definitions.specs.Given.{Carried, no_globals}
use Rattle.definitions.specs.Editor.{Ed, before_of, after_of, sources, has_live, land, n20, n28, stop_number, Target, Through, alone, up_to, to_eof, struck_back, strike, edit}
use Rattle.definitions.specs.Editor.{Edit as Editing}
use Rattle.definitions.specs.Reading.{Ran, gave, stopped}
use Rattle.definitions.specs.StepProgram.{Program, gives, ◌>>=◌, ◌>>◌, runs, Did, changes}
use Rattle.definitions.specs.Edit.{stop_if, see, read_up_to, read_past, line_or, reach}
use Rattle.gap.specs.Gap.{moved_up, cleared}
use Rattle.editor.specs.Records.{enc_all, Goods, mark}
use Rattle.editor.specs.Shows.{Holds, Stays, Shows, rest_of, GroundedAt, lent, Came}
use Rattle.editor.specs.declared.State.{State}
use Rattle.editor.specs.declared.Stopped.{Stopped}
use Rattle.editor.specs.Stops.{Moved, numbered}
use Rattle.globals.specs.Standing.{Standing}
use Rattle.spans.specs.declared.finding.Live.{Live}
use Rattle.spans.specs.declared.Next.{Next}

-- ---- how far D and R go, as a number

-- 0 is one line, 65,536 is `*`, any other number is that of a source line
unfoldable pub through_of : ℕ → Through
through_of n = cond (eqb n 0) alone (cond (eqb n 65536) to_eof (up_to n))

-- ---- D and R from the current line on

-- how many records they take
unfoldable pub reach_here : Through → Program ℕ
reach_here b = do
  line_or n20
  reach b

-- the same, and the next live line after these is read: `span` after its move
unfoldable pub span_here : Through → Program ℕ
span_here b = do
  line_or n20
  k ← reach b
  read_past k
  gives k

-- what is left of the command then: changes by the number of records
unfoldable pub change_here : (ℕ → List Editing) → Through → Program Did
change_here f b = do
  k ← span_here b
  gives (changes (f k))

-- what `reach` reads: "28 line b is before the current line" is tested before b is read
unfoldable pub read_through : Through → Program (Unit {0})
read_through alone = gives tt
read_through (up_to b) = do
  n ← see (λ e. sources (before_of e))
  stop_if n28 (leb b n)
  read_up_to (Target.line b)
read_through to_eof = read_up_to Target.eof

-- the same from the current line on
unfoldable pub read_here : Through → Program (Unit {0})
read_here b = do
  line_or n20
  read_through b

-- ---- the records that are taken

-- the n records from the current one on, which are read, end at the place `end` of the buffer
pub record EndsAt (j : List ℕ) (end n : ℕ) (e : Ed) (t : Tape) : Type 0 where
  pub within : n ≤ length (after_of e)
  pub place : end + length (enc_all (drop n (rest_of e t))) ≡ length j

-- there is a text with records that end there
abbrev pub Spanned : List ℕ → State → ℕ → Type 0
Spanned j st end = (e : Ed) × (t : Tape) × (n : ℕ) × Shows j st e t × EndsAt j end n e t

-- where the records end that are taken, and the buffer's numbers; or the stop
abbrev pub Found : Type 0
Found = Result (ℕ × State) Stopped

-- what `span_end` answers, and what `reach_here` comes to
unfoldable pub FoundBy : List ℕ → Found → Ran ℕ → Tape → Type 0
FoundBy j (Ok x) (gave n e) t = Shows j x.1 e t × EndsAt j x.0 n e t
FoundBy j (Ok x) (stopped n e) t = ⊥
FoundBy j (Err s) (gave n e) t = ⊥
FoundBy j (Err s) (stopped n e) t = (numbered s.stop ≡ stop_number n) × Shows j s.st e t

abbrev pub Finds : List ℕ → State → Through → Found → Type 0
Finds j st b r =
    (e : Ed) (t : Tape) → Shows j st e t → let x = runs (lent j) no_globals (reach_here b) e t in
    FoundBy j r x.0 x.1

-- the records `rs` stand in the buffer from the place `at` to its end
pub record Stands (j : List ℕ) (at : ℕ) (rs : List Record) : Type 0 where
  pub bytes : drop at j ≡ enc_all rs
  pub inside : at ≤ length j
  pub good : Goods rs

-- the source record after k others of `rs` stands at the place `at`
pub record SourceAt (j : List ℕ) (at k : ℕ) (rs : List Record) : Type 0 where
  pub passed : List Record
  pub this : Record
  pub after : List Record
  pub same : reverse_aux passed (this ∷ after) ≡ rs
  pub count : sources passed ≡ k
  pub source : mark this ≡ 43 → ⊥
  pub stands : Stands j at (this ∷ after)

-- ---- deletion

-- how many bytes fewer a record takes once its line is deleted: an inserted line's record goes, a changed line's new text
unfoldable pub freed_by : Record → ℕ
freed_by (kept l) = 0
freed_by (changed o n) = suc (length n)
freed_by (deleted l) = 0
freed_by (inserted l) = 3 + length l

-- some record stands at the place `at`, the current one or one after it
abbrev pub StandsAt : List ℕ → State → ℕ → Type 0
StandsAt j st at =
    (b : List Record) × (m : List Record) × (x : Record) × (a : List Record) × Holds j st b (m ++ (x ∷ a)) × (at + length (enc_all (x ∷ a)) ≡ length j)

-- its line is deleted where it stands; the gap takes the bytes that this frees
abbrev pub StrikesAt : ℕ → List ℕ → State → List ℕ → State → Type 0
StrikesAt at j st k r =
    ((b : List Record) (m : List Record) (x : Record) (a : List Record) → Holds j st b (m ++ (x ∷ a)) → at + length (enc_all (x ∷ a)) ≡ length j
    → Holds k r b (m ++ (erase x ++ a)) × (r.back ≡ st.back + freed_by x))
    × Stays st r

-- the gap ends n bytes later
abbrev pub widened : State → ℕ → State
widened st n = record {
  front = st.front;
  back = st.back + n;
  past = st.past;
  furthest = st.furthest;
  lines = st.lines;
  source = st.source;
  size = st.size;
  p = st.p;
}

-- the bytes from `from` up to `to` go; those between the gap and them move up
abbrev pub ClosesHole : ℕ → ℕ → List ℕ → State → List ℕ → State → Type 0
ClosesHole from to j st k r = (k ≡ moved_up st.back from to (cleared from (to - from) j)) × (r ≡ widened st (to - from))

-- some records up to the place `end` stand from the current one on
abbrev pub Until : List ℕ → State → ℕ → Type 0
Until j st end = (c : List Record) × (m : List Record) × (d : List Record) × Holds j st c (m ++ d) × (end + length (enc_all d) ≡ length j)

-- the records up to the place `end` are passed, and become what `over` makes of them before the gap
abbrev pub PassesTo : (List Record → List Record → List Record) → ℕ → List ℕ → State → List ℕ → State → Type 0
PassesTo over end j st k r =
    ((c : List Record) (m : List Record) (d : List Record) → Holds j st c (m ++ d) → end + length (enc_all d) ≡ length j → Holds k r (over m c) d) × Stays st r

-- the nearest n live records of `before`, and the deleted ones among them, are gone back over, or all of `before`: what is left of it, and what `passed` becomes
unfoldable pub back_live : ℕ → List Record → List Record → List Record × List Record
back_live zero before passed = (before, passed)
back_live (suc n) [] passed = ([], passed)
back_live (suc n) (kept l ∷ before) passed = back_live n before (kept l ∷ passed)
back_live (suc n) (changed o l ∷ before) passed = back_live n before (changed o l ∷ passed)
back_live (suc n) (deleted l ∷ before) passed = back_live (suc n) before (deleted l ∷ passed)
back_live (suc n) (inserted l ∷ before) passed = back_live n before (inserted l ∷ passed)

-- the gap goes back over them
abbrev pub Withdraws : ℕ → List ℕ → State → List ℕ → State → Type 0
Withdraws n j st k r =
    ((b : List Record) (a : List Record) → Holds j st b a → let w = back_live n b [] in Holds k r w.0 (w.1 ++ a)) × Stays st r

-- the nearest n live lines before the current one are deleted
abbrev pub StrikesBack : ℕ → List ℕ → State → List ℕ → State → Type 0
StrikesBack n j st k r = ((b : List Record) (a : List Record) → Holds j st b a → Holds k r (struck_back n b []) a) × Stays st r

-- the text that a part of a step comes to is shown once n records are struck
unfoldable pub StruckBy : List ℕ → State → ℕ → Ran (Unit {0}) → Tape → Type 0
StruckBy j s n (gave u e) t = Shows j s (edit (strike n) e) t
StruckBy j s n (stopped m e) t = ⊥

-- the records up to the place `end` are struck, and the next live line after them, which is read, is current
abbrev pub StrikesSpan : ℕ → List ℕ → State → List ℕ → State → Type 0
StrikesSpan end j st k r =
    (e : Ed) (t : Tape) (n : ℕ) → Shows j st e t → EndsAt j end n e t → let x = runs (lent j) no_globals (read_past n) e t in
    StruckBy k r n x.0 x.1

-- ---- the next live line

-- r is where the first live record of `rest` stands, or EOF, and the source lines before it, `before` standing before `rest`
abbrev pub LiveAt : List ℕ → Live → List Record → List Record → Type 0
LiveAt j r before rest = Stands j r.at (after_of (land before rest)) × (r.past ≡ sources (before_of (land before rest)))

-- after the n records from the current one on, the next live record stands at the place `at`; or EOF does, and is read
pub record NextAt (j : List ℕ) (at n : ℕ) (e : Ed) (t : Tape) : Type 0 where
  pub passed : List Record
  pub left : List Record
  pub same : passed ++ left ≡ drop n (after_of e)
  pub dead : has_live passed ≡ false
  pub grounded : GroundedAt left t
  pub place : at + length (enc_all (left ++ map kept (rest_lines t))) ≡ length j

-- what is answered, and what `read_past n` comes to
unfoldable pub NextBy : List ℕ → ℕ → Next → Ran (Unit {0}) → Tape → Type 0
NextBy j n r (gave u e) t = Shows j r.st e t × NextAt j r.at n e t
NextBy j n r (stopped m e) t = ⊥

-- some records up to the place `end` stand from the current one on, and `past` source lines before that place
abbrev pub CountedTo : List ℕ → State → ℕ → ℕ → Type 0
CountedTo j st end past =
    (c : List Record) × (m : List Record) × (d : List Record) × Holds j st c (m ++ d) × (end + length (enc_all d) ≡ length j) × (past ≡ sources c + sources m)

-- r source lines stand before the place `end`
abbrev pub Counts : ℕ → List ℕ → State → ℕ → Type 0
Counts end j st r =
    (c : List Record) (m : List Record) (d : List Record) → Holds j st c (m ++ d) → end + length (enc_all d) ≡ length j → r ≡ sources c + sources m

-- the next live line after them is found and read
abbrev pub ReadsFrom : ℕ → ℕ → List ℕ → State → Next → Type 0
ReadsFrom end past j st r =
    (e : Ed) (t : Tape) (n : ℕ) → Shows j st e t → EndsAt j end n e t → past ≡ sources (before_of e) + sources (take n (after_of e))
    → let x = runs (lent j) no_globals (read_past n) e t in
    NextBy j n r x.0 x.1

-- the same, the source lines being counted on the way
abbrev pub FindsAfter : ℕ → List ℕ → State → Next → Type 0
FindsAfter end j st r =
    (e : Ed) (t : Tape) (n : ℕ) → Shows j st e t → EndsAt j end n e t → let x = runs (lent j) no_globals (read_past n) e t in
    NextBy j n r x.0 x.1

-- the next live line after the current one is found and read
abbrev pub ReadsNext : List ℕ → State → Next → Type 0
ReadsNext j st r =
    (e : Ed) (t : Tape) → Shows j st e t → let x = runs (lent j) no_globals (read_past 1) e t in
    NextBy j 1 r x.0 x.1

-- with the script s and the work area w, the next live line after the records up to the place `end` is read through the globals that stand
abbrev pub ReadsAfter : List ℕ → List ℕ → ℕ → List ℕ → State → List ℕ → Moved → Type 0
ReadsAfter s w end j st k r =
    (e : Ed) (c : Carried) (t : Tape) (n : ℕ) → Standing s w c → Shows j st e t → EndsAt j end n e t → Came k r (runs (lent j) c (read_past n) e t)
