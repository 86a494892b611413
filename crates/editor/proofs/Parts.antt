-- A step put together from its parts: what functions promise of the parts of a program, they promise of the whole. Assumes nothing.
use mathlib.Core.Path.{◌≡◌, refl, sym, ap, ◌∙◌}
use mathlib.Core.List.{List, [], ◌∷◌, ◌++◌, map}
use Prim.Native.Nat.{ℕ, ◌≤◌, ◌<◌}
use native.Mathlib.Omega.{arith}
use lib.ListN.{length}
use lib.Dec.{leb}
use borrow.Author.Tests.{le-leb, lt-leb}
use Rattle.definitions.specs.Bytes.{Line}
use Rattle.definitions.specs.Journal.{Record, kept, journal_length}
use Rattle.definitions.specs.Tape.{Tape, unread, ended, rest_lines, bind}
use Rattle.definitions.specs.Given.{Given, Room, given, Carried}
use Rattle.definitions.specs.Editor.{Ed, ed, before_of, after_of, journal, stop_number, got, stop, Move, moved, edits}
use Rattle.definitions.specs.Editor.{Stop as StopNumber, Edit as Editing}
use Rattle.definitions.specs.Reading.{Ran, gave, stopped, has_room}
use Rattle.definitions.specs.StepProgram.{Program, gives, ◌>>=◌, ◌>>◌, runs, state, Did, changes, within, finish, perform}
use Rattle.definitions.specs.Edit.{go, goes_on, line_or}
use Rattle.theorems.specs.Programs.{runs_on, runs-stop, runs-line, runs-no-line, runs-go, runs-no-go}
use Rattle.editor.specs.Records.{enc_all}
use Rattle.editor.specs.Shows.{Shows, ShowsText, point_of, lent, CameTo, Came, Answers, Answered}
use Rattle.editor.specs.Current.{current_line}
use Rattle.editor.specs.declared.State.{State}
use Rattle.std.specs.Prelude.{Result, Ok, Err, IsErrAnd}
use Rattle.std.proofs.lemmas.Result.{err_from_is_err_and}
use Rattle.editor.specs.Stops.{Moved, numbered, stopping}
use Rattle.editor.specs.declared.Stop.TheVariants.{JournalFull}
use Rattle.editor.specs.declared.Stop.{Stop}
use Rattle.editor.proofs.Held.{held-length, held_none}

-- a buffer of the same length is lent alike
pub lent_same : (j k : List ℕ) → length k ≡ length j → lent k ≡ lent j
unfolding lent
lent_same j k q = ap (λ (n : ℕ). given (Room.bytes n)) q

-- what `?` hands on is the answer that it was given
pub handed : {A E : Type 0} (r : Result A E) (x : E) → IsErrAnd r (λ y. y ≡ x) → r ≡ Err x
handed r x h =
    let p = err_from_is_err_and r h in
    p.1 ∙ ap Err p.2

pub passed-on : {A E : Type 0} (m r : Result A E) (x : E) → m ≡ Err x → IsErrAnd r (λ y. y ≡ x) → r ≡ m
passed-on m r x is h = handed r x h ∙ sym is

-- ---- one part after another

-- where a part goes on: its value, the text that is then shown, and what is then unread
pub record Went {A : Type 0} (j : List ℕ) (s : State) (x : Ran A × Tape) : Type 0 where
  pub value : A
  pub text : Ed
  pub tape : Tape
  pub is : x ≡ (gave value text, tape)
  pub shows : Shows j s text tape

-- where it stops
pub record Halted {A : Type 0} (j : List ℕ) (m : Stop) (s : State) (x : Ran A × Tape) : Type 0 where
  pub number : StopNumber
  pub text : Ed
  pub tape : Tape
  pub is : x ≡ (stopped number text, tape)
  pub same : numbered m ≡ stop_number number
  pub shows : Shows j s text tape

pub went : {A : Type 0} {j : List ℕ} {s : State} (x : Ran A × Tape) → Came j (Ok s) x → Went j s x
unfolding CameTo
went (gave a e, t) h = record { value = a; text = e; tape = t; is = refl; shows = h }
went (stopped n e, t) h = absurd h

pub halted : {A : Type 0} {j : List ℕ} {m : Stop} {s : State} (x : Ran A × Tape) → Came j (stopping m s) x → Halted j m s x
unfolding CameTo
halted (gave a e, t) h = absurd h
halted (stopped n e, t) h = record { number = n; text = e; tape = t; is = refl; same = h.0; shows = h.1 }

-- some text is shown where a part that went on came to
pub moved-shown : {A : Type 0} {i : List ℕ} {s : State} {m : Moved} (x : Ran A × Tape) → m ≡ Ok s → Came i m x → ShowsText i s
moved-shown {i = i} {s = s} x q h = let w : Went i s x = went x (rw q at h) in (w.text, w.tape, w.shows)

-- what a part comes to, by an equation
pub came-on : {A : Type 0} {j : List ℕ} {s : State} {x : Ran A × Tape} {a : A} {e : Ed} {t : Tape} → x ≡ (gave a e, t) → Shows j s e t → Came j (Ok s) x
unfolding CameTo
came-on q h = rw q h

pub came-stop : {A : Type 0} {j : List ℕ} (m : Stop) {s : State} {x : Ran A × Tape} {n : StopNumber} {e : Ed} {t : Tape}
    → x ≡ (stopped n e, t) → numbered m ≡ stop_number n → Shows j s e t → Came j (stopping m s) x
unfolding CameTo
came-stop m q same h = rw q (same, h)

-- with another name for the buffer
pub came-as : {A : Type 0} {j k : List ℕ} → k ≡ j → (r : Moved) (x : Ran A × Tape) → Came j r x → Came k r x
came-as q r x h = rw q h

module _ {A B : Type 0} (g : Given) (c : Carried) (m : Program A) (n : A → Program B) (e : Ed) (t : Tape) where
  -- m goes on, then n
  pub then-on : {j : List ℕ} {s : State} (k : List ℕ) (r : Moved) → Came j (Ok s) (runs g c m e t)
      → ((a : A) (x : Ed) (u : Tape) → Shows j s x u → Came k r (runs g c (n a) x u)) → Came k r (runs g c (◌>>=◌ m n) e t)
  then-on {j} {s} k r h f =
      let w : Went j s (runs g c m e t) = went (runs g c m e t) h in
      rw (runs_on g c n m e t w.is) (f w.value w.text w.tape w.shows)

  -- m stops
  pub then-stop : (j : List ℕ) (i : Stop) (s : State) → Came j (stopping i s) (runs g c m e t) → Came j (stopping i s) (runs g c (◌>>=◌ m n) e t)
  then-stop j i s h =
      let w : Halted j i s (runs g c m e t) = halted (runs g c m e t) h in
      came-stop i (runs-stop g c n m e t w.is) w.same w.shows

-- ---- a whole command

-- two programs that come to the same
pub perform-as : (g : Given) (c : Carried) (m n : Program Did) (e x : Ed) (t u : Tape) → runs g c m e t ≡ runs g c n x u → perform g m (state e c) t ≡ perform g n (state x c) u
unfolding perform bind
perform-as g c m n e x t u q = ap (λ (y : Ran Did × Tape). finish g c y.0 y.1) q

finish-stop : (g : Given) (c : Carried) (j : List ℕ) (i : Stop) (s : State) (x : Ran Did × Tape) → Came j (stopping i s) x → Answered j (stopping i s) (finish g c x.0 x.1)
unfolding CameTo Answers finish
finish-stop g c j i s (gave d e, t) h = absurd h
finish-stop g c j i s (stopped n e, t) h = h

-- a program that stops
pub perform-stop : (g : Given) (c : Carried) (m : Program Did) (e : Ed) (t : Tape) (j : List ℕ) (i : Stop) (s : State) → Came j (stopping i s) (runs g c m e t)
    → Answered j (stopping i s) (perform g m (state e c) t)
unfolding perform bind
perform-stop g c m e t j i s h = finish-stop g c j i s (runs g c m e t) h

module _ {A : Type 0} (g : Given) (c : Carried) (m : Program A) (n : A → Program Did) (e : Ed) (t : Tape) where
  -- m goes on, then n
  pub perform-then : {j : List ℕ} {s : State} (k : List ℕ) (r : Moved) → Came j (Ok s) (runs g c m e t)
      → ((a : A) (x : Ed) (u : Tape) → Shows j s x u → Answered k r (perform g (n a) (state x c) u)) → Answered k r (perform g (◌>>=◌ m n) (state e c) t)
  perform-then {j} {s} k r h f =
      let w : Went j s (runs g c m e t) = went (runs g c m e t) h in
      rw (perform-as g c (◌>>=◌ m n) (n w.value) e w.text t w.tape (runs_on g c n m e t w.is)) (f w.value w.text w.tape w.shows)

  -- m stops
  pub perform-halt : (j : List ℕ) (i : Stop) (s : State) → Came j (stopping i s) (runs g c m e t) → Answered j (stopping i s) (perform g (◌>>=◌ m n) (state e c) t)
  perform-halt j i s h = perform-stop g c (◌>>=◌ m n) e t j i s (then-stop g c m n e t j i s h)

-- it ends, and no record is changed
pub perform-answers : (g : Given) (c : Carried) (e : Ed) (t : Tape) (j : List ℕ) (s : State) → Shows j s e t → Answered j (Ok s) (perform g goes_on (state e c) t)
unfolding perform bind goes_on runs finish Answers
perform-answers g c e t j s h = h

-- THE LAW OF PARTS: a command that is a part of a step, and nothing else
pub goes_on_lem : {A : Type 0} (g : Given) (c : Carried) (m : Program A) (e : Ed) (t : Tape) (j : List ℕ) (r : Moved) → Came j r (runs g c m e t)
    → Answered j r (perform g (◌>>◌ m goes_on) (state e c) t)
unfolding ◌>>◌
goes_on_lem g c m e t j (Ok s) h = perform-then g c m (λ a. goes_on) e t j (Ok s) h (λ a x u w. perform-answers g c x u j s w)
goes_on_lem g c m e t j (Err x) h = perform-halt g c m (λ a. goes_on) e t j x.stop x.st h

-- ---- changes

-- what the buffer has room for
room-is : (j : List ℕ) (rs : List Record) → has_room (lent j) rs ≡ leb (journal_length rs) (length j)
unfolding has_room lent
room-is j rs = refl

module _ (c : Carried) (xs : List Editing) (e : Ed) (t : Tape) where
  -- records changed, and the journal fits
  pub finish-edited : (j k : List ℕ) (s : State) → journal_length (journal (edits xs e) t) ≤ length j → Shows k s (edits xs e) t
      → Answered k (Ok s) (finish (lent j) c (gave (changes xs) e) t)
  unfolding finish within Answers
  finish-edited j k s fits h = rw (room-is j (journal (edits xs e) t), le-leb (journal_length (journal (edits xs e) t)) (length j) fits) h

  -- it does not: 26, and nothing is changed
  pub finish-full : (j k : List ℕ) (s : State) → length j < journal_length (journal (edits xs e) t) → Shows k s e t
      → Answered k (stopping JournalFull s) (finish (lent j) c (gave (changes xs) e) t)
  unfolding finish within Answers stop_number
  finish-full j k s full h = rw (room-is j (journal (edits xs e) t), lt-leb (journal_length (journal (edits xs e) t)) (length j) full) (refl, h)

  -- the same of a program that is nothing but the changes
  pub perform-changes : (g : Given) → perform g (gives (changes xs)) (state e c) t ≡ finish g c (gave (changes xs) e) t
  unfolding perform bind runs
  perform-changes g = refl

-- ---- the current line

-- EOF is current only where it is read, and the buffer has no record at its back then
pub shown-record : {j : List ℕ} {st : State} (b : List Record) (p : ℕ) (t : Tape) → Shows j st (ed b [] p) t → st.back < length j → ⊥
unfolding enc_all rest_lines before_of after_of
shown-record b p (unread ls) h more = h.grounded
shown-record b p ended h more = omega (arith, held-length h.holds)

pub shown-eof : {j : List ℕ} {st : State} (b : List Record) (r : Record) (a : List Record) (p : ℕ) (t : Tape) → Shows j st (ed b (r ∷ a) p) t → length j ≤ st.back → ⊥
unfolding before_of after_of
shown-eof b r a p t h end =
    let none : r ∷ (a ++ map kept (rest_lines t)) ≡ [] = held_none h.holds end in
    let z : ◌≡◌ {A = ℕ} 0 1 = cc in
    omega arith

module _ {A : Type 0} {j : List ℕ} {st : State} (g : Given) (c : Carried) (n : StopNumber) (k : Line × ℕ → Program A) where
  -- one is current
  pub line_on : (e : Ed) (t : Tape) → Shows j st e t → st.back < length j → runs g c (◌>>=◌ (line_or n) k) e t ≡ runs g c (k (current_line e, point_of e)) e t
  line_on (ed b [] p) t h more = absurd (shown-record b p t h more)
  line_on (ed b (r ∷ a) p) t h more = runs-line g c n k b r a p t

  -- EOF is
  pub line-stop : (e : Ed) (t : Tape) → Shows j st e t → length j ≤ st.back → runs g c (◌>>=◌ (line_or n) k) e t ≡ (stopped n e, t)
  line-stop (ed b [] p) t h end = runs-no-line g c n k b p t
  line-stop (ed b (r ∷ a) p) t h end = absurd (shown-eof b r a p t h end)

-- the same of a whole command
module _ {j : List ℕ} {st : State} (g : Given) (c : Carried) (n : StopNumber) (k : Line × ℕ → Program Did) (e : Ed) (t : Tape) (h : Shows j st e t) where
  pub perform-line : st.back < length j → perform g (◌>>=◌ (line_or n) k) (state e c) t ≡ perform g (k (current_line e, point_of e)) (state e c) t
  perform-line more = perform-as g c (◌>>=◌ (line_or n) k) (k (current_line e, point_of e)) e e t t (line_on g c n k e t h more)

  pub perform-no-line : (i : Stop) → numbered i ≡ stop_number n → length j ≤ st.back → Answered j (stopping i st) (perform g (◌>>=◌ (line_or n) k) (state e c) t)
  perform-no-line i q end = perform-stop g c (◌>>=◌ (line_or n) k) e t j i st (came-stop i (line-stop g c n k e t h end) q h)

-- ---- moves

module _ {j : List ℕ} {s : State} (g : Given) (c : Carried) (x : Move) (e : Ed) (t : Tape) where
  -- one that can be made
  pub go_on : {y : Ed} → moved x e ≡ got y → Shows j s y t → Came j (Ok s) (runs g c (go x) e t)
  go_on q h = came-on (runs-go g c x e t q) h

  -- one that cannot leaves the text where it was
  pub go-stop : (i : Stop) {n : StopNumber} → moved x e ≡ stop n → numbered i ≡ stop_number n → Shows j s e t → Came j (stopping i s) (runs g c (go x) e t)
  go-stop i q m h = came-stop i (runs-no-go g c x e t q) m h
