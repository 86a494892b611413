-- Changes of records: the buffer shows the text with the changes made, and 26 is tested. Assumes nothing.
use mathlib.Core.Path.{◌≡◌, refl, sym, ap, ◌∙◌}
use mathlib.Core.Bool.{Bool, true, false, cond}
use mathlib.Core.Option.{none}
use Prim.Native.Nat.{ℕ, ◌+◌, ◌-◌, ◌≤◌, ◌<◌}
use native.Mathlib.Omega.{arith}
use mathlib.Core.List.{List, [], ◌∷◌, ◌++◌, map, reverse_aux, append_assoc}
use lib.ListN.{length}
use Rattle.definitions.specs.Bytes.{Line, eq_line}
use Rattle.definitions.specs.Journal.{Record, kept, changed, deleted, inserted, change, rewrite, erase, journal_length, record_length}
use Rattle.definitions.specs.Tape.{Tape, rest_lines}
use Rattle.definitions.specs.Given.{Carried}
use Rattle.definitions.specs.Editor.{Ed, ed, before_of, after_of, journal, sources, is_live, land, struck, struck_back, put_before, strike, strike_back, put, retext, edit, edits}
use Rattle.definitions.specs.Editor.{Edit as Editing}
use Rattle.definitions.specs.Reading.{gave}
use Rattle.definitions.specs.StepProgram.{gives, state, changes, finish, perform}
use Rattle.definitions.specs.Edit.{Op, program, step}
use Rattle.theorems.specs.RecordLaws.{sources-append}
use Rattle.theorems.specs.ReadLines.{seen_all}
use Rattle.editor.specs.Shows.{Holds, Stays, Shows, lent, Answered, Puts, strike_over, raised, line_at}
use Rattle.editor.specs.declared.State.{State}
use Rattle.std.specs.Prelude.{Ok}
use Rattle.editor.specs.Stops.{stopping}
use Rattle.editor.specs.declared.Stop.TheVariants.{JournalFull}
use Rattle.editor.proofs.Records.{sourced, sources-cons, sources-nil}
use Rattle.editor.proofs.Reading.{reach_of, shows-anew, journal-is}
use Rattle.editor.proofs.Reaching.{land_read, landing_all}
use Rattle.editor.proofs.Parts.{finish-edited, finish-full, perform-changes}
use Rattle.editor.proofs.Moving.{landing-shows}
use Rattle.editor.proofs.Inserting.{held-journal, put-length}

-- ---- 26

-- what the buffer shows fits in it
pub shows-fits : {j : List ℕ} {st : State} (e : Ed) (t : Tape) → Shows j st e t → journal_length (journal e t) ≤ length j
unfolding before_of after_of
shows-fits (ed b a p) t h = omega (arith, ap journal_length (journal-is b a p t), held-journal h.holds)

module _ (c : Carried) (xs : List Editing) (e : Ed) (t : Tape) (j k : List ℕ) (s : State) where
  -- the changes are made
  pub edited-on : length k ≡ length j → Shows k s (edits xs e) t → Answered k (Ok s) (finish (lent j) c (gave (changes xs) e) t)
  edited-on q h = finish-edited c xs e t j k s (omega (arith, shows-fits (edits xs e) t h)) h

  -- THE LAW OF CHANGES: a command that is nothing but changes
  pub changes-on : length k ≡ length j → Shows k s (edits xs e) t → Answered k (Ok s) (perform (lent j) (gives (changes xs)) (state e c) t)
  changes-on q h = rw (perform-changes c xs e t (lent j)) (edited-on q h)

  -- there is no room for them
  pub changes-full : length j < journal_length (journal (edits xs e) t) → Shows k s e t → Answered k (stopping JournalFull s) (perform (lent j) (gives (changes xs)) (state e c) t)
  changes-full full h = rw (perform-changes c xs e t (lent j)) (finish-full c xs e t j k s full h)

-- ---- lines put before the current one

pub put-shows : {j k : List ℕ} {st s : State} (ls : List Line) (e : Ed) (t : Tape) → Shows j st e t → Puts ls j st k s → Shows k s (edit (put ls) e) t
unfolding edit before_of after_of
put-shows ls (ed b a p) t h puts =
    shows-anew (ed b a p) (ed (put_before ls b) a p) t h (puts.0 b (a ++ map kept (rest_lines t)) h.holds) puts.1.furthest puts.1.lines (puts.1.p ∙ h.p) h.grounded

-- how long the journal is then
pub put-journal : {j : List ℕ} {st : State} (ls : List Line) (e : Ed) (t : Tape) → Shows j st e t
    → journal_length (journal (edit (put ls) e) t) + (st.back - st.front) ≡ journal_length (map inserted ls) + length j
unfolding edit before_of after_of
put-journal ls (ed b a p) t h =
    let new : journal_length (journal (ed (put_before ls b) a p) t) ≡ journal_length (reverse_aux (put_before ls b) (a ++ map kept (rest_lines t))) =
    ap journal_length (sym (journal-is (put_before ls b) a p t)) in
    omega (arith, put-length ls b (a ++ map kept (rest_lines t)), held-journal h.holds)

-- I and IS where the current line is
module _ {j : List ℕ} {st : State} (c : Carried) (ls : List Line) (e : Ed) (t : Tape) (h : Shows j st e t) where
  pub put_on : {k : List ℕ} {s : State} → length k ≡ length j → Puts ls j st k s → Answered k (Ok s) (perform (lent j) (gives (changes (put ls ∷ []))) (state e c) t)
  unfolding edits
  put_on {k} {s} q puts = changes-on c (put ls ∷ []) e t j k s q (put-shows ls e t h puts)

  pub put_full : st.back - st.front < journal_length (map inserted ls) → Answered j (stopping JournalFull st) (perform (lent j) (gives (changes (put ls ∷ []))) (state e c) t)
  unfolding edits
  put_full full = changes-full c (put ls ∷ []) e t j j st (omega (arith, put-journal ls e t h)) h

  pub insert-on : {k : List ℕ} {s : State} → length k ≡ length j → Puts ls j st k s → Answered k (Ok s) (step (lent j) (Op.insert none ls) (state e c) t)
  unfolding step program
  insert-on q puts = put_on q puts

  pub insert-full : st.back - st.front < journal_length (map inserted ls) → Answered j (stopping JournalFull st) (step (lent j) (Op.insert none ls) (state e c) t)
  unfolding step program
  insert-full full = put_full full

-- the journal's bytes of one inserted line
pub one-length : (l : Line) → journal_length (map inserted (l ∷ [])) ≡ length l + 3
unfolding journal_length record_length
one-length l = omega arith

-- ---- lines deleted

pub erase-sources : (r : Record) (b : List Record) → sources (erase r ++ b) ≡ sourced r + sources b
unfolding erase
erase-sources (kept l) b = sources-cons (deleted l) b
erase-sources (changed o n) b = sources-cons (deleted o) b
erase-sources (deleted l) b = sources-cons (deleted l) b
erase-sources (inserted l) b = omega arith

pub strike-sources : (m b : List Record) → sources (strike_over m b) ≡ sources m + sources b
unfolding strike_over
strike-sources [] b = omega (arith, sources-nil)
strike-sources (r ∷ m) b = omega (arith, strike-sources m (erase r ++ b), erase-sources r b, sources-cons r m)

-- the records m are passed and their lines deleted, and the next live line after them is landed on
pub strike-lands : (m b d : List Record) → struck (length m) b (m ++ d) ≡ land (strike_over m b) d
unfolding struck strike_over
strike-lands [] b d = refl
strike-lands (r ∷ m) b d = strike-lands m (erase r ++ b) d

-- D of the records m from the current one on, once the next live line after them is read
pub strike-shows : {k : List ℕ} {l s : State} (b m d : List Record) (p : ℕ) (t : Tape)
    → l.lines ≡ sources b + sources ((m ++ d) ++ map kept (rest_lines t)) → l.furthest ≡ reach_of l.lines t
    → Holds k l (before_of (landing_all (strike_over m b) d t)) (after_of (landing_all (strike_over m b) d t)) → l.p ≡ 0
    → s ≡ raised l (line_at (before_of (landing_all (strike_over m b) d t)) (after_of (landing_all (strike_over m b) d t)))
    → Shows k s (edit (strike (length m)) (seen_all (land_read d t).0 (ed b (m ++ d) p))) (land_read d t).1
unfolding edit seen_all
strike-shows {k} {l} {s} b m d p t total far held q is =
    let U : List Record = map kept (rest_lines t) in
    let all : l.lines ≡ sources (strike_over m b) + sources (d ++ U) =
    omega (arith, total, ap sources (append_assoc m d U), sources-append m (d ++ U), strike-sources m b) in
    rw (append_assoc m d (map kept (land_read d t).0), strike-lands m b (d ++ map kept (land_read d t).0))
    (landing-shows (strike_over m b) d t all far held q is)

-- DF: the nearest n live lines before the current one
pub strike-back-shows : {j k : List ℕ} {st s : State} (n : ℕ) (e : Ed) (t : Tape) → Shows j st e t
    → ((b : List Record) (a : List Record) → Holds j st b a → Holds k s (struck_back n b []) a) → Stays st s → Shows k s (edit (strike_back n) e) t
unfolding edit before_of after_of
strike-back-shows n (ed b a p) t h strikes stays =
    shows-anew (ed b a p) (ed (struck_back n b []) a p) t h (strikes b (a ++ map kept (rest_lines t)) h.holds) stays.furthest stays.lines (stays.p ∙ h.p) h.grounded

-- ---- the current line's text

change-live : (old new : Line) → is_live (change old new) ≡ true
unfolding change
change-live old new = by (eq_line old new)
  where
    by : (x : Bool) → is_live (cond x (kept old) (changed old new)) ≡ true
    by true = unfold is_live in refl
    by false = unfold is_live in refl

rewrite-live : (r : Record) (l : Line) → is_live r ≡ true → is_live (rewrite r l) ≡ true
unfolding rewrite is_live
rewrite-live (kept o) l h = change-live o l
rewrite-live (changed o n) l h = change-live o l
rewrite-live (deleted o) l h = h
rewrite-live (inserted o) l h = refl

pub retext-shows : {j k : List ℕ} {st s : State} (l : Line) (q : ℕ) (b : List Record) (r : Record) (a : List Record) (p : ℕ) (t : Tape) → Shows j st (ed b (r ∷ a) p) t
    → Holds k s b (rewrite r l ∷ (a ++ map kept (rest_lines t))) → s.furthest ≡ st.furthest → s.lines ≡ st.lines → s.p ≡ q
    → Shows k s (edit (retext l q) (ed b (r ∷ a) p)) t
unfolding edit before_of after_of
retext-shows l q b r a p t h held f n z = shows-anew (ed b (r ∷ a) p) (ed b (rewrite r l ∷ a) q) t h held f n z (rewrite-live r l h.grounded)
