-- What the functions promise that look at the current line, write its record anew, and do the commands. Assumes nothing.
use Rattle.std.specs.Prelude.{◌≡◌, Bool, true, cond, List, ◌∷◌, ◌++◌, ℕ, zero, suc, ◌+◌, ◌≤◌, ◌<◌, length, take, drop, get_or, leb, Result, Ok, Err}
use Rattle.definitions.specs.Bytes.{Line, all_text}
use Rattle.definitions.specs.Journal.{Record, kept, changed, deleted, inserted, old_of, rewrite}
use Rattle.definitions.specs.Tape.{Tape}
use Rattle.definitions.specs.Given.{Carried, words_of}
use Rattle.definitions.specs.Editor.{Ed, is_live, n20, stop_number}
use Rattle.definitions.specs.Editor.{Stop as StopNumber}
use Rattle.definitions.specs.Reading.{Ran, gave, stopped}
use Rattle.definitions.specs.StepProgram.{Program, gives, ◌>>=◌, runs, state, Did, perform}
use Rattle.definitions.specs.Matching.{Qualified, qualified, Match, matched}
use Rattle.definitions.specs.Edit.{Op, Change, after_it, before_it, exchange, splice, altered, altered_point, line_or, match_or24, byte_here, write, step}
use Rattle.text.specs.Lines.{part}
use Rattle.matching.specs.Quals.{qualifiers_of}
use Rattle.matching.specs.declared.Quals.{Quals}
use Rattle.editor.specs.declared.State.{State}
use Rattle.editor.specs.declared.Stop.{Stop}
use Rattle.editor.specs.Stops.{Moved, numbered}
use Rattle.editor.specs.Records.{enc, Good}
use Rattle.editor.specs.Shows.{Holds, lent, Answered}
use Rattle.editor.specs.Current.{current_line, Ready, ShowsOf}
use Rattle.changes.specs.declared.Change.{Change as ChangeHere}
use Rattle.changes.specs.declared.Change.TheVariants.{After, Before, Exchange}
use Rattle.changes.specs.declared.rewrite.Ends.{Ends}
use Rattle.changes.specs.declared.rewrite.Anew.{Anew}

-- x written over the first bytes of d
unfoldable pub written : List ℕ → List ℕ → List ℕ
written d x = x ++ drop (length x) d

-- ---- the commands' arguments

-- A; B; E
unfoldable pub change_of : ChangeHere → Change
change_of After = after_it
change_of Before = before_it
change_of Exchange = exchange

-- by number: 0, 1 and any other
unfoldable pub change_numbered : ℕ → Change
change_numbered zero = after_it
change_numbered (suc zero) = before_it
change_numbered (suc (suc n)) = exchange

-- the qualified string that the script has from `from` to `to`
abbrev pub sought : Quals → List ℕ → ℕ → ℕ → Qualified
sought q script from to = qualified (qualifiers_of q) (part from to script)

-- A, B or E of it, with the bytes that the script has from `start` to `end`
abbrev pub alter_of : ChangeHere → Bool → Quals → List ℕ → ℕ → ℕ → ℕ → ℕ → Op
alter_of change pointing q script from to start end = Op.alter (change_of change) pointing (sought q script from to) (part start end script)

-- the script has a string from `from` to `to`, and one of text from `start` to `end`
pub record StringsIn (script : List ℕ) (from to start end : ℕ) : Type 0 where
  pub first : from ≤ to
  pub inside : to ≤ length script
  pub second : start ≤ end
  pub within : end ≤ length script
  pub short : length script ≤ 16384
  pub text : all_text (part start end script) ≡ true

-- ---- a look at the current line

-- the byte at p
unfoldable pub byte_at : Program ℕ
byte_at = do
  (l, p) ← byte_here
  gives (get_or l p 0)

-- the match of a string in the line's window, where the bytes of `isWord` count for W
unfoldable pub match_at : (ℕ → Bool) → Qualified → Program Match
match_at isWord q = do
  (l, p) ← line_or n20
  match_or24 isWord q l p

-- a part of a step stops with the number m, the text and the tape as they were
abbrev pub Halts : {A : Type 0} → ℕ → Ed → Tape → Ran A × Tape → Type 0
Halts m e t x = (n : StopNumber) × (m ≡ stop_number n) × (x ≡ (stopped n e, t))

-- what `byte_here` answers, and what the look comes to
unfoldable pub ByteIs : Result ℕ Stop → Ed → Tape → Ran ℕ × Tape → Type 0
ByteIs (Ok b) e t x = x ≡ (gave b e, t)
ByteIs (Err s) e t x = Halts (numbered s) e t x

-- what `match_here` answers, and what the look comes to
unfoldable pub MatchIs : Result (ℕ × ℕ) Stop → Ed → Tape → Ran Match × Tape → Type 0
MatchIs (Ok m) e t x = x ≡ (gave (matched m.0 m.1) e, t)
MatchIs (Err s) e t x = Halts (numbered s) e t x

-- the byte at p is r
abbrev pub Sights : List ℕ → List ℕ → State → Result ℕ Stop → Type 0
Sights table j st r = (e : Ed) (c : Carried) (t : Tape) → ShowsOf table j st e t → ByteIs r e t (runs (lent j) c byte_at e t)

-- the match of the string q is r
abbrev pub Finds : (ℕ → Bool) → List ℕ → List ℕ → State → Qualified → Result (ℕ × ℕ) Stop → Type 0
Finds isWord table j st q r = (e : Ed) (c : Carried) (t : Tape) → Ready table j st e t → MatchIs r e t (runs (lent j) c (match_at isWord q) e t)

-- with the buffer j and its numbers st before, and the buffer k after, the function that answered r did the command, which looks for a string: it is told
-- which bytes count for W
abbrev pub PerformsTold : (ℕ → Bool) → List ℕ → List ℕ → State → Op → List ℕ → Moved → Type 0
PerformsTold isWord table j st op k r =
    (e : Ed) (c : Carried) (t : Tape) → isWord ≡ words_of c → Ready table j st e t → Answered k r (step (lent j) op (state e c) t)

-- ---- the current line with another text

-- a line is current, and it has w bytes at least
pub record AtLine (table j : List ℕ) (st : State) (w : ℕ) (e : Ed) (t : Tape) : Type 0 where
  pub text : ShowsOf table j st e t
  pub more : st.back < length j
  pub long : w ≤ length (current_line e)

-- there is such a text
abbrev pub HasLine : List ℕ → List ℕ → State → ℕ → Type 0
HasLine table j st w = (e : Ed) × (t : Tape) × AtLine table j st w e t

-- The line with `new` for its n bytes from place i on is r bytes long, and stands at the start of k where a line can be so long; else k is d.
abbrev pub Splices : List ℕ → List ℕ → State → ℕ → ℕ → Line → List ℕ → List ℕ → ℕ → Type 0
Splices table j st i n new d k r =
    (e : Ed) (t : Tape) → AtLine table j st (i + n) e t → let l = splice (current_line e) i n new in
    (r ≡ length l) × (k ≡ cond (leb (length l) 255) (written d l) d)

-- with the buffer j and its numbers st before, and the buffer k after, the function that answered r did what is left of a command, which is told the current line
abbrev pub CompletesAt : List ℕ → List ℕ → State → ℕ → (Line → Program Did) → List ℕ → Moved → Type 0
CompletesAt table j st w m k r =
    (e : Ed) (c : Carried) (t : Tape) → AtLine table j st w e t → Answered k r (perform (lent j) (m (current_line e)) (state e c) t)

-- the current line's text becomes what f makes of it, and p becomes q
abbrev pub Writes : List ℕ → List ℕ → State → ℕ → (Line → Line) → ℕ → List ℕ → Moved → Type 0
Writes table j st w f q k r = CompletesAt table j st w (λ l. write (f l) q) k r

-- A, B, E, AP, BP, EP where the string of n bytes is found at place i
abbrev pub Alters : List ℕ → List ℕ → State → ChangeHere → Bool → ℕ → ℕ → Line → List ℕ → Moved → Type 0
Alters table j st change pointing i n new k r =
    Writes table j st (i + n) (λ l. altered (change_of change) l i n new) (altered_point (change_of change) pointing st.p i n (length new)) k r

-- ---- the record that is written anew

-- a record's first line: the old one where it is changed
abbrev pub first_line : Record → Line
first_line (kept l) = l
first_line (changed o n) = o
first_line (deleted l) = l
first_line (inserted l) = l

-- where the first line of the record that starts at `at` ends, and where the record does
pub record EndsAt (j : List ℕ) (at : ℕ) (c : Ends) (r : Record) : Type 0 where
  pub first : part (at + 2) c.old j ≡ first_line r
  pub after : at + 2 ≤ c.old
  pub inside : c.old < c.end
  pub ends : c.end ≡ at + length (enc r)
  pub within : c.end ≤ length j

-- the live record that is current, with its ends
pub record EndsOf (j : List ℕ) (st : State) (c : Ends) (b : List Record) (r : Record) (a : List Record) : Type 0 where
  pub holds : Holds j st b (r ∷ a)
  pub live : is_live r ≡ true
  pub ends : EndsAt j st.back c r

-- there is such a record
abbrev pub HasEnds : List ℕ → State → Ends → Type 0
HasEnds j st c = (b : List Record) × (r : Record) × (a : List Record) × EndsOf j st c b r a

-- the current record with the text `l` stands at the start of k, in n bytes
abbrev pub Builds : List ℕ → State → Ends → Line → List ℕ → List ℕ → ℕ → Type 0
Builds j st c l d k n =
    (b : List Record) (r : Record) (a : List Record) → EndsOf j st c b r a → (k ≡ written d (enc (rewrite r l))) × (n ≡ length (enc (rewrite r l)))

-- the record that the live current one becomes with the text `l` stands at the start of k, with its length; and where the current one ends
abbrev pub MakesAnew : List ℕ → State → Line → List ℕ → List ℕ → Anew → Type 0
MakesAnew j st l d k c =
    (b : List Record) (r : Record) (a : List Record) → Holds j st b (r ∷ a) → is_live r ≡ true
    → (k ≡ written d (enc (rewrite r l))) × (c.n ≡ length (enc (rewrite r l))) × (c.end ≡ st.back + length (enc r))

-- the first n bytes of rec are a record x that can stand for the current one r, which ends at `end`
pub record Replacing (j : List ℕ) (st : State) (end : ℕ) (rec : List ℕ) (n : ℕ) (b : List Record) (r : Record) (a : List Record) (x : Record) : Type 0 where
  pub holds : Holds j st b (r ∷ a)
  pub ends : end ≡ st.back + length (enc r)
  pub fits : n ≤ length rec
  pub is : take n rec ≡ enc x
  pub good : Good x
  pub source : old_of x ≡ old_of r

-- the records are `before` and `rest`, of which the first ends at `end` and has n bytes, and p is q; all else is as it was
pub record SetTo (st : State) (end n : ℕ) (k : List ℕ) (s : State) (before rest : List Record) (q : ℕ) : Type 0 where
  pub holds : Holds k s before rest
  pub front : s.front ≡ st.front
  pub back : s.back + n ≡ end
  pub furthest : s.furthest ≡ st.furthest
  pub lines : s.lines ≡ st.lines
  pub p : s.p ≡ q

-- the first n bytes of rec stand for the current record, and p becomes q
abbrev pub Replaces : List ℕ → State → ℕ → List ℕ → ℕ → ℕ → List ℕ → State → Type 0
Replaces j st end rec n q k s =
    (b : List Record) (r : Record) (a : List Record) (x : Record) → Replacing j st end rec n b r a x → SetTo st end n k s b (x ∷ a) q
