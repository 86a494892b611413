-- No command reads too little: where EOF is current, a line is not found (21), or there is no next line (30), EOF has been read, and a current line is not deleted. This
-- holds at the start, is kept by every step, and so holds at the end of every run.
use Rattle.std.specs.Prelude.{refl, Bool, not, ℕ, take, drop, T}
use Rattle.std.proofs.Math.Bool.{true, false}
use Rattle.std.proofs.Math.Option.{none, some}
use mathlib.Core.List.{List, [], ◌∷◌}
use Rattle.std.proofs.Common.{arith}
use Rattle.definitions.specs.Bytes.{Line}
use Rattle.definitions.specs.Journal.{old_of, old_side}
use Rattle.definitions.specs.Matching.{Qualified, Match, match_of}
use Rattle.definitions.specs.Search.{Search, holds}
use Rattle.definitions.specs.Tape.{Tape, unread, ended, bind}
use Rattle.definitions.specs.Given.{Given, Global, given, bytes, Carried, carried, no_globals, words_of}
use Rattle.definitions.specs.Editor.{Ed, ed, sources, Stop, n20, n21, n22, n24, n25, n27, stop_number, back, point_to, Edit, strike, strike_back, strike_next, put, retext, edit, edits}
use Rattle.definitions.specs.Reading.{Ran, gave, stopped, opening}
use Rattle.definitions.specs.StepProgram.{Program, gives, ◌>>=◌, ◌>>◌, runs, RunState, state, words_in, Did, answers, changes, quits, adds, cancels, names, Out, on, edited, halt, one_more, finish, perform}
use Rattle.definitions.specs.Edit.{Op, only_step, quit, test, begin, begin_back, find, find_back, find_delete, move, next_line, previous_line, delete, replace, insert, copy, alter, split, join, add_global, cancel_globals, name_words, point, point_start, right, left, cut_byte, recase}
use Rattle.definitions.specs.Edit.{stop_if, either, see, go, goes_on, go_ahead, go_to, line_or, is_at_eof, look_on, look_back, write, match_or24, byte_here, cut_after, next_or30, write_joined, span, program, step}
use Rattle.definitions.specs.Control.{Item}
use Rattle.definitions.specs.Run.{run_items}
use Rattle.theorems.specs.Reading.{At}
use Rattle.theorems.specs.ComesTo.{Gives, Ended, then-comes, and-comes, either-comes, test-comes, some-comes, byte-comes, within-comes, one-comes}
use Rattle.theorems.specs.Runs.{StepOr, EndOf, inner-all, items-all, run_items-ends}
use Rattle.theorems.specs.Changes.{HoldsEd, HoldsState, HoldsOut, step_keeps}
use Rattle.theorems.specs.RecordLaws.{rewrite-live}
use Rattle.theorems.specs.ReadFar.{AnyLine, AnyText, AnyGlobal, Sourced, read-closed, read_keeps}
use Rattle.theorems.specs.Reaching.{Grounded, GroundedState, StoppedState, GroundedOut, other-number, Halts, ComesGrounded, struck-grounded, meets_eof}
use Rattle.theorems.specs.GroundedMoves.{Ground, OnLine, Spans, line-grounded, spans-grounded, back-comes, point-comes, line_or-comes, go_ahead-comes, next_or30-comes, go_to-comes, span-comes}

-- ---- changes of records

-- what a change needs: a live line, or EOF, read after the records that are struck
abbrev EditFrom : Edit → Ed → Tape → Type 0
EditFrom (strike k) e t = Spans k e t
EditFrom (strike_back k) e t = Grounded e t
EditFrom strike_next e t = Grounded e t
EditFrom (put ls) e t = Grounded e t
EditFrom (retext l q) e t = Grounded e t

abbrev EditsFrom : List Edit → Ed → Tape → Type 0
EditsFrom [] e t = Grounded e t
EditsFrom (x ∷ xs) e t = EditFrom x e t × EditsFrom xs (edit x e) t

edit-grounded : (x : Edit) (e : Ed) (t : Tape) → EditFrom x e t → Grounded (edit x e) t
unfolding edit
edit-grounded (strike k) (ed before after p) t h = struck-grounded k before after t h.1
edit-grounded (strike_back k) (ed before [] p) t h = h
edit-grounded (strike_back k) (ed before (r ∷ after) p) t h = h
edit-grounded strike_next (ed before [] p) t h = h
edit-grounded strike_next (ed before (r ∷ after) p) t h = h
edit-grounded (put ls) (ed before [] p) t h = h
edit-grounded (put ls) (ed before (r ∷ after) p) t h = h
edit-grounded (retext l q) (ed before [] p) t h = h
edit-grounded (retext l q) (ed before (r ∷ after) p) t h = rewrite-live r l h

edits-grounded : (xs : List Edit) (e : Ed) (t : Tape) → EditsFrom xs e t → Grounded (edits xs e) t
unfolding edits
edits-grounded [] e t h = h
edits-grounded (x ∷ xs) e t h = edits-grounded xs (edit x e) t h.1

-- one change
abbrev OneFrom : Edit → Ed → Tape → Type 0
OneFrom x e t = Grounded e t × EditsFrom (x ∷ []) e t

one_from : (x : Edit) (e : Ed) (t : Tape) → Grounded e t → EditFrom x e t → OneFrom x e t
one_from x e t h k = (h, (k, edit-grounded x e t k))

-- two changes
two_from : (x y : Edit) (e : Ed) (t : Tape) → Grounded e t → EditFrom x e t → EditFrom y (edit x e) t → Grounded e t × EditsFrom (x ∷ y ∷ []) e t
two_from x y e t h k m = (h, (k, (m, edit-grounded y (edit x e) t m)))

-- ---- a step's end

-- what a program may end with
abbrev Does : Did → Ed → Tape → Type 0
Does (answers b) e t = Grounded e t
Does (changes xs) e t = Grounded e t × EditsFrom xs e t
Does quits e t = Grounded e t
Does (adds x) e t = Grounded e t
Does cancels e t = Grounded e t
Does (names xs) e t = Grounded e t

-- a seventeenth is 31
more-grounded : (c : Carried) (x : Global) (e : Ed) (t : Tape) → Grounded e t → GroundedOut (one_more c x e) t
more-grounded (carried gs xs) x e t h = one-comes (λ o. GroundedOut o t) gs xs x e (λ q. h) (unfold stop_number in (other-number 31 e t tt h))

finish-grounded : (g : Given) (c : Carried) (r : Ran Did) (t : Tape) → Ended Does Halts r t → At GroundedOut (finish g c r t)
unfolding finish
finish-grounded g c (gave (answers b) e) t h = h
finish-grounded g c (gave (changes xs) e) t h = within-comes GroundedOut g c e (edits xs e) t (λ x. edits-grounded xs e t h.1) (unfold stop_number in (other-number 26 e t tt h.0))
finish-grounded g c (gave quits e) t h = other-number 0 e t tt h
finish-grounded g c (gave (adds x) e) t h = more-grounded c x e t h
finish-grounded g c (gave cancels e) t h = h
finish-grounded g c (gave (names xs) e) t h = h
finish-grounded g c (stopped n e) t h = h

-- ---- parts of programs

-- any stop but 21 and 30
other-stop : (n : Stop) (e : Ed) (t : Tape) → T (not (meets_eof (stop_number n))) → OnLine e t → Halts n e t
other-stop n e t k h = other-number (stop_number n) e t k (line-grounded e t h)

module _ (g : Given) (c : Carried) where
  -- a part that may begin wherever EOF is read or a live line is current; one that begins at a line
  abbrev Anywhere : {A : Type 0} → Gives A → Program A → Type 0
  Anywhere Q m = (e : Ed) (t : Tape) → Grounded e t → ComesGrounded g c Q m e t

  abbrev AtLine : {A : Type 0} → Gives A → Program A → Type 0
  AtLine Q m = (e : Ed) (t : Tape) → OnLine e t → ComesGrounded g c Q m e t

  on-comes : (b : Bool) → Anywhere Does (gives (answers b))
  unfolding runs
  on-comes b e t h = h

  goes-comes : Anywhere Does goes_on
  unfolding goes_on
  goes-comes e t h = on-comes true e t h

  -- a move, and on
  then-goes : (m : Program (Unit {0})) (e : Ed) (t : Tape) → ComesGrounded g c Ground m e t → ComesGrounded g c Does (◌>>◌ m goes_on) e t
  then-goes m e t h = and-comes g c Ground Does Halts m goes_on e t h (λ u. goes-comes)

  with-line : (n : Stop) (k : Line × ℕ → Program Did) → ((x : Line × ℕ) → AtLine Does (k x)) → Anywhere Does (◌>>=◌ (line_or n) k)
  with-line n k f e t h = then-comes g c (λ x. OnLine) Does Halts (line_or n) k e t (line_or-comes g c n e t h) f

  at-line : (n : Stop) (k : Program Did) → AtLine Does k → Anywhere Does (◌>>◌ (line_or n) k)
  at-line n k f e t h = and-comes g c (λ x. OnLine) Does Halts (line_or n) k e t (line_or-comes g c n e t h) (λ x. f)

  -- a test that is not 21 or 30
  tested : (n : Stop) (x : Bool) (m : Program Did) → T (not (meets_eof (stop_number n))) → AtLine Does m → AtLine Does (◌>>◌ (stop_if n x) m)
  tested n x m k f e t h = test-comes g c Does Halts n x m e t (λ q. other-stop n e t k h) (λ q. f e t h)

  with-match : (isWord : ℕ → Bool) (q : Qualified) (l : Line) (p : ℕ) (k : Match → Program Did) → ((m : Match) → AtLine Does (k m)) → AtLine Does (◌>>=◌ (match_or24 isWord q l p) k)
  unfolding match_or24
  with-match isWord q l p k f e t h = some-comes g c Does Halts n24 (match_of isWord q p l) k e t (other-stop n24 e t (unfold stop_number in tt) h) (λ m. f m e t h)

  with_byte : (k : Line × ℕ → Program Did) → ((x : Line × ℕ) → AtLine Does (k x)) → Anywhere Does (◌>>=◌ byte_here k)
  with_byte k f (ed before [] p) t h = unfold stop_number in (byte-comes g c Does Halts k (ed before [] p) t (other-number 27 (ed before [] p) t tt h) (other-number 20 (ed before [] p) t tt h))
  with_byte k f (ed before (r ∷ after) p) t h =
      unfold stop_number in (byte-comes g c Does Halts k (ed before (r ∷ after) p) t (other-number 27 (ed before (r ∷ after) p) t tt h) (λ x. f _ (ed before (r ∷ after) p) t h))

  write-comes : (l : Line) (q : ℕ) → AtLine Does (write l q)
  unfolding write
  write-comes l q = tested n25 _ _ (unfold stop_number in tt) (λ e t h. unfold runs in (one_from (retext l q) e t (line-grounded e t h) (line-grounded e t h)))

  pointed : (q : ℕ) → AtLine Does (◌>>◌ (go (point_to q)) goes_on)
  pointed q e t h = then-goes (go (point_to q)) e t (point-comes g c q e t (line-grounded e t h))

  put-comes : (ls : List Line) → Anywhere Does (gives (changes (put ls ∷ [])))
  unfolding runs
  put-comes ls e t h = one_from (put ls) e t h h

  strike-comes : (k : ℕ) (e : Ed) (t : Tape) → Spans k e t → ComesGrounded g c Does (gives (changes (strike k ∷ []))) e t
  unfolding runs
  strike-comes k e t h = one_from (strike k) e t (spans-grounded k e t h) h

  replace-comes : (ls : List Line) (k : ℕ) (e : Ed) (t : Tape) → Spans k e t → ComesGrounded g c Does (gives (changes (strike k ∷ put ls ∷ []))) e t
  unfolding runs
  replace-comes ls k e t h = two_from (strike k) (put ls) e t (spans-grounded k e t h) h (edit-grounded (strike k) e t h)

  strike_back-comes : (k : ℕ) → AtLine Does (gives (changes (strike_back k ∷ [])))
  unfolding runs
  strike_back-comes k e t h = one_from (strike_back k) e t (line-grounded e t h) (line-grounded e t h)

  -- SA, SB, and CL once the next line is read
  cut-comes : (l : Line) (k : ℕ) → AtLine Does (cut_after l k)
  unfolding cut_after runs
  cut-comes l k e t h =
      let f = line-grounded e t h in
      two_from (put (take k l ∷ [])) (retext (drop k l) 0) e t f f (edit-grounded (put (take k l ∷ [])) e t f)

  joined-comes : (l : Line) (q : ℕ) → AtLine Does (write_joined l q)
  unfolding write_joined
  joined-comes l q =
      tested n25 _ _ (unfold stop_number in tt) (λ e t h. unfold runs in (let f = line-grounded e t h in
      two_from (retext l q) strike_next e t f f (edit-grounded (retext l q) e t f)))

  look_on-comes : AtLine Does look_on
  unfolding look_on
  look_on-comes e t h =
      and-comes g c Ground Does Halts go_ahead _ e t (go_ahead-comes g c e t h) (λ u. at-line n21 _ (λ e₁ t₁ h₁. on-comes false e₁ t₁ (line-grounded e₁ t₁ h₁)))

  look_back-comes : AtLine Does look_back
  unfolding look_back
  look_back-comes e t h = and-comes g c Ground Does Halts (go back) _ e t (back-comes g c e t (line-grounded e t h)) (λ u. on-comes false)

  looked : (n : Stop) (isWord : ℕ → Bool) (se : Search) (m k : Program Did) → AtLine Does m → AtLine Does k
      → Anywhere Does (◌>>=◌ (line_or n) (λ x. either (holds isWord se x.1 x.0) m k))
  looked n isWord se m k f i = with-line n _ (λ x e t h. either-comes g c Does Halts (holds isWord se x.1 x.0) m k e t (f e t h) (i e t h))

  -- ---- every command

  program-comes : (isWord : ℕ → Bool) (op : Op) (e : Ed) (t : Tape) → HoldsEd Sourced e t → Grounded e t → ComesGrounded g c Does (program isWord op) e t
  unfolding program
  program-comes isWord only_step e t s h = goes-comes e t h
  program-comes isWord quit e t s h = unfold runs in h
  program-comes isWord (test x) e t s h = unfold see ◌>>=◌ runs in h
  program-comes isWord begin e t s h = at-line n21 _ (λ e₁ t₁ h₁. goes-comes e₁ t₁ (line-grounded e₁ t₁ h₁)) e t h
  program-comes isWord begin_back e t s h =
      unfold see ◌>>=◌ runs in (then-goes (either (is_at_eof e) (go back) (gives tt)) e t
      (either-comes g c Ground Halts (is_at_eof e) (go back) (gives tt) e t (back-comes g c e t h) (unfold runs in h)))
  program-comes isWord (find se) e t s h = looked n21 isWord se _ _ (λ e₁ t₁ h₁. goes-comes e₁ t₁ (line-grounded e₁ t₁ h₁)) look_on-comes e t h
  program-comes isWord (find_back se) e t s h = looked n22 isWord se _ _ (λ e₁ t₁ h₁. goes-comes e₁ t₁ (line-grounded e₁ t₁ h₁)) look_back-comes e t h
  program-comes isWord (find_delete se k) e t s h = looked n21 isWord se _ _ (strike_back-comes k) look_on-comes e t h
  program-comes isWord (move a) e t s h = then-goes (go_to a) e t (go_to-comes g c a e t s h)
  program-comes isWord next_line e t s h = at-line n20 _ (λ e₁ t₁ h₁. then-goes go_ahead e₁ t₁ (go_ahead-comes g c e₁ t₁ h₁)) e t h
  program-comes isWord previous_line e t s h = then-goes (go back) e t (back-comes g c e t h)
  program-comes isWord (delete a b) e t s h = then-comes g c Spans Does Halts (span a b) _ e t (span-comes g c a b e t s h) strike-comes
  program-comes isWord (replace a b ls) e t s h = then-comes g c Spans Does Halts (span a b) _ e t (span-comes g c a b e t s h) (replace-comes ls)
  program-comes isWord (insert none ls) e t s h = put-comes ls e t h
  program-comes isWord (insert (some a) ls) e t s h = and-comes g c Ground Does Halts (go_to a) _ e t (go_to-comes g c a e t s h) (λ u. put-comes ls)
  program-comes isWord copy e t s h = with-line n20 _ (λ x e₁ t₁ h₁. put-comes (x.0 ∷ []) e₁ t₁ (line-grounded e₁ t₁ h₁)) e t h
  program-comes isWord (alter d pointing q new) e t s h = with-line n20 _ (λ x. with-match isWord q x.0 x.1 _ (λ m. write-comes _ _)) e t h
  program-comes isWord (split after q) e t s h = with-line n20 _ (λ x. with-match isWord q x.0 x.1 _ (λ m. cut-comes _ _)) e t h
  program-comes isWord (join l) e t s h =
      with-line n20 _ (λ x e₁ t₁ h₁. then-comes g c (λ m. OnLine) Does Halts next_or30 _ e₁ t₁ (next_or30-comes g c e₁ t₁ h₁) (λ m. joined-comes _ _)) e t h
  program-comes isWord (add_global d l new) e t s h = unfold runs in h
  program-comes isWord cancel_globals e t s h = unfold runs in h
  program-comes isWord (name_words xs) e t s h = unfold runs in h
  program-comes isWord (point b q) e t s h = with-line n20 _ (λ x. with-match isWord q x.0 x.1 _ (λ m. pointed _)) e t h
  program-comes isWord point_start e t s h = at-line n20 _ (pointed 0) e t h
  program-comes isWord right e t s h = with_byte _ (λ x. pointed _) e t h
  program-comes isWord left e t s h = with-line n20 _ (λ x. tested n27 _ _ (unfold stop_number in tt) (pointed _)) e t h
  program-comes isWord cut_byte e t s h = with_byte _ (λ x. write-comes _ _) e t h
  program-comes isWord (recase up) e t s h = with_byte _ (λ x. write-comes _ _) e t h

-- ---- the theorem

-- for every step, also one that stops the run
pub step-grounded : (g : Given) (op : Op) (s : RunState) (t : Tape) → HoldsState AnyGlobal Sourced s t → GroundedState s t → At GroundedOut (step g op s t)
unfolding step perform bind words_in
step-grounded g op (state e c) t s h = finish-grounded g c (runs g c (program (words_of c) op) e t).0 (runs g c (program (words_of c) op) e t).1 (program-comes g c (words_of c) op e t s.0 h)

-- with the first source line read
abbrev pub Settled : RunState → Tape → Type 0
Settled s t = HoldsState AnyGlobal Sourced s t × GroundedState s t

both : (o : Out) (t : Tape) → HoldsOut AnyGlobal Sourced o t → GroundedOut o t → StepOr Settled StoppedState o t
both (on b s) t h k = (h, k)
both (edited s) t h k = (h, k)
both (halt n s) t h k = k

step-settled : (g : Given) (op : Op) (s : RunState) (t : Tape) → Settled s t → At (StepOr Settled StoppedState) (step g op s t)
step-settled g op s t h =
    both (step g op s t).0 (step g op s t).1 (step_keeps AnyLine AnyText AnyGlobal Sourced (read-closed 1) g op s t (λ isWord. read_keeps 1 (program isWord op)) h.0) (step-grounded g op s t h.0 h.1)

pub opening-settled : (t : Tape) → Settled (state (opening t).0 no_globals) (opening t).1
unfolding opening sources old_side old_of no_globals
opening-settled (unread []) = ((omega arith, tt), refl)
opening-settled (unread (l ∷ ls)) = ((omega arith, tt), tt)
opening-settled ended = ((omega arith, tt), refl)

other-state : (n : ℕ) (s : RunState) (t : Tape) → T (not (meets_eof n)) → Settled s t → StoppedState n s t
other-state n (state e c) t k h = other-number n e t k h.1

-- at the end of every run: where EOF is current, or the number is 21 or 30, EOF has been read; a current line is not deleted
pub run-grounded : (size budget : ℕ) (items : List Item) (ls : List Line) → At (EndOf StoppedState) (run_items (step (given (bytes size))) budget items (unread ls))
run-grounded size budget items ls =
    run_items-ends (λ op. Unit {0}) (inner-all (λ op. Unit {0}) (λ op. tt)) Settled StoppedState (λ s t. other-state 0 s t tt) (λ s t. other-state 29 s t tt)
    (step (given (bytes size))) (λ op s t u. step-settled (given (bytes size)) op s t) budget items (unread ls) (items-all (λ op. Unit {0}) (λ op. tt) items) (opening-settled (unread ls))
