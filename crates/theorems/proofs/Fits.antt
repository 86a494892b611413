-- The journal never exceeds its buffer. A step that changes no record or stops leaves the records as they were; the lines that it reads are kept, or as the
-- standing globals leave them.
use Rattle.std.specs.Prelude.{◌≡◌, refl, true, ℕ, ◌≤◌}
use Rattle.std.proofs.Math.Path.{sym, ap}
use Rattle.std.proofs.Common.{◌∙◌, zero-le}
use mathlib.Core.List.{List, [], ◌∷◌, ◌++◌, map, append_assoc, append-nil}
use borrow.Author.Tests.{leb-true}
use Rattle.definitions.specs.Bytes.{Line}
use Rattle.definitions.specs.Journal.{Record, kept, changed, deleted, inserted, journal_bytes, journal_length}
use Rattle.definitions.specs.Tape.{Tape, unread, ended, rest_lines, bind}
use Rattle.definitions.specs.Given.{Given, Global, given, bytes, Carried, carried, words_of}
use Rattle.definitions.specs.Globals.{left_by}
use Rattle.definitions.specs.Editor.{Ed, records, journal, Got, got, stop, Move, moved, eof, edits}
use Rattle.definitions.specs.Reading.{Ran, gave, stopped, seen, has_room, read_line, opening}
use Rattle.definitions.specs.StepProgram.{Program, runs, RunState, state, text_of, words_in, Did, answers, changes, quits, adds, cancels, names, Out, on, edited, halt, one_more, finish, perform}
use Rattle.definitions.specs.Edit.{Op, program, step}
use Rattle.definitions.specs.Control.{Item}
use Rattle.definitions.specs.Run.{Answer, answer, refusal, ran_items, opening_length, answer_records}
use Rattle.theorems.specs.OldSide.{seen-records, Left, moved-left}
use Rattle.theorems.specs.ComesTo.{Keeping, OnGot, ComesTo, to-keeps, runs-keep, within-comes, one-comes}
use Rattle.theorems.specs.Passing.{line-comes-to}
use Rattle.theorems.specs.Reading.{At}
use Rattle.theorems.specs.Runs.{AfterStep, inner-all, items-all, run_items-keeps}
use Rattle.theorems.specs.ArrangeLaws.{arrange-length}
use Rattle.theorems.proofs.Answers.{Shown, ran-shown}

-- ---- a journal in two parts

pub journal-append : (xs ys : List Record) → journal_bytes (xs ++ ys) ≡ journal_bytes xs ++ journal_bytes ys
unfolding journal_bytes
journal-append [] ys = refl
journal-append (x ∷ xs) ys = rw (journal-append xs ys, append_assoc)

-- ---- moves, and lines that are kept, leave the journal

left-journal : (e e' : Ed) (t : Tape) → records e' ≡ records e → journal e' t ≡ journal e t
unfolding journal
left-journal e e' t h = ap (λ (x : List Record). x ++ map kept (rest_lines t)) h

seen-journal : (l : Line) (ls : List Line) (e : Ed) → journal (seen (kept l) e) (unread ls) ≡ journal e (unread (l ∷ ls))
unfolding journal rest_lines
seen-journal l ls e = rw (seen-records (kept l) e, append_assoc)

end-journal : (e : Ed) → journal e ended ≡ journal e (unread [])
unfolding journal rest_lines
end-journal e = refl

-- a move leaves the records
moved_same : (I : Ed → Type 0) (x : Move) (e : Ed) → ((e' : Ed) → records e' ≡ records e → I e') → OnGot I (λ n. Unit {0}) (moved x e)
moved_same I x e f = by (moved x e) (moved-left x e)
  where
    by : (y : Got Ed) → Left (records e) y → OnGot I (λ n. Unit {0}) y
    by (got e') k = f e' (unfold Left in k)
    by (stop n) k = tt

-- ---- what a step leaves

-- the journal of a run's state
abbrev pub journal_of : RunState → Tape → List Record
journal_of s t = journal (text_of s) t

-- the record of a line that is read: it is kept, or changed to what the globals leave of it
abbrev pub AsLeft : Carried → Line → Record → Type 0
AsLeft c l (kept k) = k ≡ l
AsLeft c l (changed o n) = (o ≡ l) × (left_by c l ≡ got n)
AsLeft c l (deleted k) = ⊥
AsLeft c l (inserted k) = ⊥

-- the records of lines that are read, one for each
abbrev pub AllAsLeft : Carried → List Line → List Record → Type 0
AllAsLeft c [] [] = Unit {0}
AllAsLeft c [] (r ∷ rs) = ⊥
AllAsLeft c (l ∷ ls) [] = ⊥
AllAsLeft c (l ∷ ls) (r ∷ rs) = AsLeft c l r × AllAsLeft c ls rs

-- from the records `base` and the unread lines `rest` on: the records are these still, and then those of the lines `read`, which were the first of `rest`
pub record OnlyRead (c : Carried) (base : List Record) (rest : List Line) (e : Ed) (t : Tape) : Type 0 where
  pub read : List Line
  pub rs : List Record
  pub same : records e ≡ base ++ rs
  pub first : rest ≡ read ++ rest_lines t
  pub left : AllAsLeft c read rs

left_one : (c : Carried) (ls : List Line) (rs : List Record) (l : Line) (r : Record) → AllAsLeft c ls rs → AsLeft c l r → AllAsLeft c (ls ++ (l ∷ [])) (rs ++ (r ∷ []))
left_one c [] [] l r h k = (k, tt)
left_one c [] (x ∷ rs) l r h k = absurd h
left_one c (m ∷ ls) [] l r h k = absurd h
left_one c (m ∷ ls) (x ∷ rs) l r h k = (h.0, left_one c ls rs l r h.1 k)

module _ (g : Given) (c : Carried) (base : List Record) (rest : List Line) where
  abbrev Only : Ed → Tape → Type 0
  Only e t = OnlyRead c base rest e t

  only_one : (e : Ed) (l : Line) (ls : List Line) (r : Record) → AsLeft c l r → Only e (unread (l ∷ ls)) → Only (seen r e) (unread ls)
  unfolding rest_lines
  only_one e l ls r k x = record {
    read = x.read ++ (l ∷ []);
    rs = x.rs ++ (r ∷ []);
    same = seen-records r e ∙ ap (λ (z : List Record). z ++ (r ∷ [])) x.same ∙ append_assoc base x.rs (r ∷ []);
    first = x.first ∙ sym (append_assoc x.read (l ∷ []) ls);
    left = left_one c x.read x.rs l r x.left k;
  }

  line-only : (e : Ed) (t : Tape) → Only e t → At (Keeping Only) (read_line g c e t)
  line-only e (unread (l ∷ ls)) x =
      line-comes-to (Keeping Only) g c e l ls (only_one e l ls (kept l) refl x) (λ new q d room. only_one e l ls (changed l new) (refl, q) x)
      (only_one e l ls (kept l) refl x) (only_one e l ls (kept l) refl x)
  line-only e (unread []) x = unfold read_line in (record { read = x.read; rs = x.rs; same = x.same; first = unfold rest_lines in x.first; left = x.left })
  line-only e ended x = unfold read_line in x

  move-only : (x : Move) (e : Ed) (t : Tape) → Only e t → OnGot (λ e'. Only e' t) (λ n. Unit {0}) (moved x e)
  move-only x e t h = moved_same (λ e'. Only e' t) x e (λ e' k. record { read = h.read; rs = h.rs; same = k ∙ h.same; first = h.first; left = h.left })

  pub runs-only : {A : Type 0} (m : Program A) (e : Ed) (t : Tape) → Only e t → ComesTo g c {A = A} (λ a. Only) (λ n. Only) m e t
  runs-only m e t h = runs-keep g c Only line-only move-only m e t h

-- only lines are read, unless the step has changed records
unfoldable pub Stays : Carried → Ed → Tape → Out → Tape → Type 0
Stays c e t (on b s) t' = OnlyRead c (records e) (rest_lines t) (text_of s) t'
Stays c e t (edited s) t' = Unit {0}
Stays c e t (halt n s) t' = OnlyRead c (records e) (rest_lines t) (text_of s) t'

more_stays : (c d : Carried) (x : Global) (e₀ e : Ed) (t₀ t : Tape) → OnlyRead c (records e₀) (rest_lines t₀) e t → Stays c e₀ t₀ (one_more d x e) t
more_stays c (carried gs xs) x e₀ e t₀ t h = one-comes (λ o. Stays c e₀ t₀ o t) gs xs x e (λ q. unfold Stays text_of in h) (unfold Stays text_of in h)

finish-stays : (g : Given) (c : Carried) (e₀ : Ed) (t₀ : Tape) (r : Ran Did) (t : Tape) → Keeping (OnlyRead c (records e₀) (rest_lines t₀)) r t → At (Stays c e₀ t₀) (finish g c r t)
unfolding finish Stays text_of
finish-stays g c e₀ t₀ (gave (answers b) e) t h = h
finish-stays g c e₀ t₀ (gave (changes xs) e) t h = unfold Stays text_of in (within-comes (Stays c e₀ t₀) g c e (edits xs e) t (λ x. tt) h)
finish-stays g c e₀ t₀ (gave quits e) t h = h
finish-stays g c e₀ t₀ (gave (adds x) e) t h = more_stays c c x e₀ e t₀ t h
finish-stays g c e₀ t₀ (gave cancels e) t h = h
finish-stays g c e₀ t₀ (gave (names xs) e) t h = h
finish-stays g c e₀ t₀ (stopped n e) t h = h

-- "the stopping command changes no record, its reading counts"; nor does one that goes on without a change
pub step_stays : (g : Given) (op : Op) (e : Ed) (c : Carried) (t : Tape) → At (Stays c e t) (step g op (state e c) t)
unfolding step perform bind words_in
step_stays g op e c t =
    finish-stays g c e t (runs g c (program (words_of c) op) e t).0 (runs g c (program (words_of c) op) e t).1 (runs-only g c (records e) (rest_lines t) (program (words_of c) op) e t
    (record { read = []; rs = []; same = sym (append-nil (records e)); first = refl; left = tt }))

-- ---- the buffer has room

-- a journal buffer of `size` bytes has room
abbrev FitsIn : ℕ → Ed → Tape → Type 0
FitsIn size e t = journal_length (journal e t) ≤ size

abbrev FitsState : ℕ → RunState → Tape → Type 0
FitsState size s t = journal_length (journal_of s t) ≤ size

module _ (size : ℕ) where
  room_fits : (e : Ed) (t : Tape) → has_room (given (bytes size)) (journal e t) ≡ true → FitsIn size e t
  unfolding has_room
  room_fits e t h = leb-true (journal_length (journal e t)) size h

  kept-fits : (l : Line) (ls : List Line) (e : Ed) → FitsIn size e (unread (l ∷ ls)) → FitsIn size (seen (kept l) e) (unread ls)
  kept-fits l ls e h = rw (seen-journal l ls e) h

  -- reading a line: it is kept, or there is room for it as it is changed
  line-fits : (c : Carried) (e : Ed) (t : Tape) → FitsIn size e t → At (Keeping (FitsIn size)) (read_line (given (bytes size)) c e t)
  line-fits c e (unread (l ∷ ls)) h =
      line-comes-to (Keeping (FitsIn size)) (given (bytes size)) c e l ls (kept-fits l ls e h) (λ new q d room. room_fits (seen (changed l new) e) (unread ls) room)
      (kept-fits l ls e h) (kept-fits l ls e h)
  line-fits c e (unread []) h = unfold read_line in (rw (end-journal e) h)
  line-fits c e ended h = unfold read_line in h

  move-fits : (x : Move) (e : Ed) (t : Tape) → FitsIn size e t → OnGot (λ e'. FitsIn size e' t) (λ n. Unit {0}) (moved x e)
  move-fits x e t h = moved_same (λ e'. FitsIn size e' t) x e (λ e' k. rw (left-journal e e' t k) h)

  -- ---- a step

  more-fits : (c : Carried) (x : Global) (e : Ed) (t : Tape) → FitsIn size e t → AfterStep (FitsState size) (one_more c x e) t
  more-fits (carried gs xs) x e t h = one-comes (λ o. AfterStep (FitsState size) o t) gs xs x e (λ q. unfold text_of in h) (unfold text_of in h)

  finish-fits : (c : Carried) (r : Ran Did) (t : Tape) → Keeping (FitsIn size) r t → At (AfterStep (FitsState size)) (finish (given (bytes size)) c r t)
  unfolding finish text_of
  finish-fits c (gave (answers b) e) t h = h
  finish-fits c (gave (changes xs) e) t h =
      unfold text_of in (within-comes (AfterStep (FitsState size)) (given (bytes size)) c e (edits xs e) t (λ x. room_fits (edits xs e) t x) h)
  finish-fits c (gave quits e) t h = h
  finish-fits c (gave (adds x) e) t h = more-fits c x e t h
  finish-fits c (gave cancels e) t h = h
  finish-fits c (gave (names xs) e) t h = h
  finish-fits c (stopped n e) t h = h

  step_fits : (op : Op) (s : RunState) (t : Tape) → FitsState size s t → At (AfterStep (FitsState size)) (step (given (bytes size)) op s t)
  unfolding step perform bind words_in text_of
  step_fits op (state e c) t h =
      let g : Given = given (bytes size) in
      finish-fits c (runs g c (program (words_of c) op) e t).0 (runs g c (program (words_of c) op) e t).1 (runs-keep g c (FitsIn size) (line-fits c) move-fits (program (words_of c) op) e t h)

-- ---- the run

pub opening-journal : (ls : List Line) → journal (opening (unread ls)).0 (opening (unread ls)).1 ≡ map kept ls
unfolding opening journal records rest_lines
opening-journal [] = refl
opening-journal (l ∷ ls) = refl

shown-fits : (size : ℕ) (a : Answer) → Shown (λ j. journal_length j ≤ size) a → journal_length (answer_records a) ≤ size
unfolding answer_records journal_length
shown-fits size (answer n steps f at j) h = h
shown-fits size (refusal n at) h = zero-le

-- a run in a buffer for the opening journal leaves a journal that fits
pub items-fit : (size place budget : ℕ) (is : List Item) (ls : List Line) → opening_length ls ≤ size
    → journal_length (answer_records (ran_items (given (bytes size)) place budget is ls)) ≤ size
unfolding opening_length
items-fit size place budget is ls le =
    let g : Given = given (bytes size) in
    shown-fits size (ran_items g place budget is ls) (ran-shown (FitsState size) (λ j. journal_length j ≤ size) (λ s t h. h) (λ rs h. rw (arrange-length rs) h) g
    (λ e c t h. unfold text_of in (to-keeps g c (FitsIn size) (line-fits size c) eof e t h)) place budget is ls
    (run_items-keeps (λ op. Unit {0}) (inner-all (λ op. Unit {0}) (λ op. tt)) (FitsState size) (step g) (λ op s t u. step_fits size op s t)
    budget is (unread ls) (items-all (λ op. Unit {0}) (λ op. tt) is) (unfold text_of in (rw (opening-journal ls) le))))
