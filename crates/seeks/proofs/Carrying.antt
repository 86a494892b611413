-- What a step carries on: but for GE, GA, GB, CG and WORD it carries after it what it carried before. Assumes nothing.
use mathlib.Core.Path.{◌≡◌, refl}
use mathlib.Core.Bool.{Bool, true, false, cond}
use mathlib.Core.Option.{none, some}
use mathlib.Core.List.{List}
use Prim.Native.Nat.{ℕ}
use native.Mathlib.Omega.{arith}
use Rattle.definitions.specs.Bytes.{Line}
use Rattle.definitions.specs.Tape.{Tape, bind}
use Rattle.definitions.specs.WordSet.{Named}
use Rattle.definitions.specs.Given.{Given, Carried, words_of}
use Rattle.definitions.specs.Editor.{Ed, journal, n20, n21, n22, n25, n26, n27, stop_number, edits, back, point_to}
use Rattle.definitions.specs.Reading.{Ran, gave, stopped, has_room}
use Rattle.definitions.specs.StepProgram.{Program, gives, ◌>>◌, runs, state, words_in, Did, answers, changes, quits, adds, cancels, names, Out, edited, halt, within, finish, perform}
use Rattle.definitions.specs.Search.{Search, holds}
use Rattle.definitions.specs.Edit.{Change, Test, Op, only_step, quit, test, begin, begin_back, find, find_back, find_delete, move, next_line, previous_line, delete, replace, insert, copy, alter, split, join, add_global, cancel_globals, name_words, point, point_start, right, left, cut_byte, recase}
use Rattle.definitions.specs.Edit.{stop_if, either, see, go, goes_on, go_ahead, go_to, line_or, is_at_eof, passes, look_on, look_back, match_or24, byte_here, write, cut_after, next_or30, write_joined, span, program, step}
use Rattle.definitions.specs.Control.{Seek, forward, backward, deleting, look_op}
use Rattle.spans.proofs.Outcomes.{Calm, calm-then, calm-runs}
use Rattle.seeks.specs.Looks.{carried_of}

-- all operations but those of GE, GA, GB, CG and WORD
pub record LeavesOp (op : Op) : Type 0 where
  pub not_added : (c : Change) (s new : Line) → op ≡ add_global c s new → ⊥
  pub not_cancelled : op ≡ cancel_globals → ⊥
  pub not_named : (xs : List Named) → op ≡ name_words xs → ⊥

-- ---- the end of a step

abbrev CalmEnd : Ran Did → Type 0
CalmEnd (gave d e) = Calm (gives d)
CalmEnd (stopped n e) = Unit {0}

finish-leaves : (g : Given) (c : Carried) (r : Ran Did) (t : Tape) → CalmEnd r → carried_of (finish g c r t).0 ≡ c
unfolding Calm finish carried_of within
finish-leaves g c (gave (answers b) e) t h = refl
finish-leaves g c (gave (changes xs) e) t h = by (has_room g (journal (edits xs e) t))
  where
    by : (b : Bool) → carried_of (cond {A = Out × Tape} b (edited (state (edits xs e) c), t) (halt (stop_number n26) (state e c), t)).0 ≡ c
    by true = unfold carried_of in refl
    by false = unfold carried_of in refl
finish-leaves g c (gave quits e) t h = refl
finish-leaves g c (gave (adds x) e) t h = absurd h
finish-leaves g c (gave cancels e) t h = absurd h
finish-leaves g c (gave (names xs) e) t h = absurd h
finish-leaves g c (stopped n e) t h = refl

-- ---- the commands' programs

calm-and : {A : Type 0} (m : Program A) (k : Program Did) → Calm k → Calm (◌>>◌ m k)
unfolding ◌>>◌
calm-and m k h = calm-then m (λ a. k) (λ a. h)

calm-either : (b : Bool) (m k : Program Did) → Calm m → Calm k → Calm (either b m k)
unfolding either
calm-either true m k h i = h
calm-either false m k h i = i

calm_goes : Calm goes_on
unfolding goes_on Calm
calm_goes = tt

calm-on : Calm look_on
unfolding look_on Calm
calm-on = calm-and go_ahead _ (calm-and (line_or n21) _ tt)

calm-back : Calm look_back
unfolding look_back Calm
calm-back = calm-and (go back) _ tt

calm_write : (l : Line) (q : ℕ) → Calm (write l q)
unfolding write Calm
calm_write l q = calm-and (stop_if n25 _) _ tt

calm-joined : (l : Line) (q : ℕ) → Calm (write_joined l q)
unfolding write_joined Calm
calm-joined l q = calm-and (stop_if n25 _) _ tt

calm-program : (isWord : ℕ → Bool) (op : Op) → LeavesOp op → Calm (program isWord op)
unfolding program cut_after Calm
calm-program isWord only_step h = calm_goes
calm-program isWord quit h = tt
calm-program isWord (test x) h = calm-then (see (passes isWord x)) _ (λ b. tt)
calm-program isWord begin h = calm-and (line_or n21) _ calm_goes
calm-program isWord begin_back h = calm-then (see is_at_eof) _ (λ b. calm-and (either b (go back) (gives tt)) _ calm_goes)
calm-program isWord (find se) h = calm-then (line_or n21) _ (λ x. calm-either (holds isWord se x.1 x.0) goes_on look_on calm_goes calm-on)
calm-program isWord (find_back se) h = calm-then (line_or n22) _ (λ x. calm-either (holds isWord se x.1 x.0) goes_on look_back calm_goes calm-back)
calm-program isWord (find_delete se n) h = calm-then (line_or n21) _ (λ x. calm-either (holds isWord se x.1 x.0) _ look_on tt calm-on)
calm-program isWord (move a) h = calm-and (go_to a) _ calm_goes
calm-program isWord next_line h = calm-and (line_or n20) _ (calm-and go_ahead _ calm_goes)
calm-program isWord previous_line h = calm-and (go back) _ calm_goes
calm-program isWord (delete a b) h = calm-then (span a b) _ (λ n. tt)
calm-program isWord (replace a b ls) h = calm-then (span a b) _ (λ n. tt)
calm-program isWord (insert none ls) h = tt
calm-program isWord (insert (some a) ls) h = calm-and (go_to a) _ tt
calm-program isWord copy h = calm-then (line_or n20) _ (λ x. tt)
calm-program isWord (alter x pointing q new) h = calm-then (line_or n20) _ (λ y. calm-then (match_or24 isWord q y.0 y.1) _ (λ m. calm_write _ _))
calm-program isWord (split after q) h = calm-then (line_or n20) _ (λ y. calm-then (match_or24 isWord q y.0 y.1) _ (λ m. tt))
calm-program isWord (join s) h = calm-then (line_or n20) _ (λ y. calm-then next_or30 _ (λ l. calm-joined _ _))
calm-program isWord (add_global x s new) h = absurd (h.not_added x s new refl)
calm-program isWord cancel_globals h = absurd (h.not_cancelled refl)
calm-program isWord (name_words xs) h = absurd (h.not_named xs refl)
calm-program isWord (point after q) h = calm-then (line_or n20) _ (λ y. calm-then (match_or24 isWord q y.0 y.1) _ (λ m. calm-and (go _) _ calm_goes))
calm-program isWord point_start h = calm-and (line_or n20) _ (calm-and (go (point_to 0)) _ calm_goes)
calm-program isWord right h = calm-then byte_here _ (λ y. calm-and (go _) _ calm_goes)
calm-program isWord left h = calm-then (line_or n20) _ (λ y. calm-and (stop_if n27 _) _ (calm-and (go _) _ calm_goes))
calm-program isWord cut_byte h = calm-then byte_here _ (λ y. calm_write _ _)
calm-program isWord (recase up) h = calm-then byte_here _ (λ y. calm_write _ _)

-- THE LAW: after a step of another command what is carried is as before it
pub step-leaves : (g : Given) (op : Op) (e : Ed) (c : Carried) (t : Tape) → LeavesOp op → carried_of (step g op (state e c) t).0 ≡ c
unfolding step words_in perform bind
step-leaves g op e c t h =
    let x = runs g c (program (words_of c) op) e t in
    finish-leaves g c x.0 x.1 (calm-runs g c (program (words_of c) op) (calm-program (words_of c) op h) e t)

-- a round, a test, the beginning of a search, and its tests of lines
pub round-leaves : LeavesOp only_step
round-leaves = record {
  not_added = λ c s new q. let y : ◌≡◌ {A = ℕ} 0 1 = cc in omega arith;
  not_cancelled = λ q. let y : ◌≡◌ {A = ℕ} 0 1 = cc in omega arith;
  not_named = λ xs q. let y : ◌≡◌ {A = ℕ} 0 1 = cc in omega arith;
}

pub test-leaves : (x : Test) → LeavesOp (test x)
test-leaves x = record {
  not_added = λ c s new q. let y : ◌≡◌ {A = ℕ} 0 1 = cc in omega arith;
  not_cancelled = λ q. let y : ◌≡◌ {A = ℕ} 0 1 = cc in omega arith;
  not_named = λ xs q. let y : ◌≡◌ {A = ℕ} 0 1 = cc in omega arith;
}

pub begin-leaves : LeavesOp begin
begin-leaves = record {
  not_added = λ c s new q. let y : ◌≡◌ {A = ℕ} 0 1 = cc in omega arith;
  not_cancelled = λ q. let y : ◌≡◌ {A = ℕ} 0 1 = cc in omega arith;
  not_named = λ xs q. let y : ◌≡◌ {A = ℕ} 0 1 = cc in omega arith;
}

pub begin-back-leaves : LeavesOp begin_back
begin-back-leaves = record {
  not_added = λ c s new q. let y : ◌≡◌ {A = ℕ} 0 1 = cc in omega arith;
  not_cancelled = λ q. let y : ◌≡◌ {A = ℕ} 0 1 = cc in omega arith;
  not_named = λ xs q. let y : ◌≡◌ {A = ℕ} 0 1 = cc in omega arith;
}

pub look-leaves : (f : Seek) (se : Search) (n : ℕ) → LeavesOp (look_op f se n)
unfolding look_op
look-leaves forward se n = record {
  not_added = λ c s new q. let y : ◌≡◌ {A = ℕ} 0 1 = cc in omega arith;
  not_cancelled = λ q. let y : ◌≡◌ {A = ℕ} 0 1 = cc in omega arith;
  not_named = λ xs q. let y : ◌≡◌ {A = ℕ} 0 1 = cc in omega arith;
}
look-leaves backward se n = record {
  not_added = λ c s new q. let y : ◌≡◌ {A = ℕ} 0 1 = cc in omega arith;
  not_cancelled = λ q. let y : ◌≡◌ {A = ℕ} 0 1 = cc in omega arith;
  not_named = λ xs q. let y : ◌≡◌ {A = ℕ} 0 1 = cc in omega arith;
}
look-leaves deleting se n = record {
  not_added = λ c s new q. let y : ◌≡◌ {A = ℕ} 0 1 = cc in omega arith;
  not_cancelled = λ q. let y : ◌≡◌ {A = ℕ} 0 1 = cc in omega arith;
  not_named = λ xs q. let y : ◌≡◌ {A = ℕ} 0 1 = cc in omega arith;
}
