-- What holds of every program, and so of every step, and of the opening: they keep the old side, and depend on no more lines than they read. No
-- command is named here.
use Rattle.std.specs.Prelude.{◌≡◌, ◌⊎◌, true, ℕ}
use Rattle.std.proofs.Math.Path.{refl, ap, subst}
use Rattle.std.proofs.Common.{inl}
use Rattle.std.proofs.Math.Logic.{inr}
use mathlib.Core.List.{List, [], ◌∷◌, ◌++◌}
use Rattle.definitions.specs.Bytes.{Line}
use Rattle.definitions.specs.Journal.{kept, old_of, old_side}
use Rattle.definitions.specs.Tape.{Tape, unread, ended, rest_lines, Reads, bind}
use Rattle.definitions.specs.Given.{given, bytes, boundless, Global, Carried, carried, words_of, with_words, without_globals}
use Rattle.definitions.specs.Editor.{Ed, ed, records, stop_number, Got, got, stop, Target, moved, edits}
use Rattle.definitions.specs.Reading.{Ran, gave, stopped, once_read, has_room, read_to, opening}
use Rattle.definitions.specs.StepProgram.{Program, gives, stops, looks, reads, moves, once_moved, runs, RunState, state, words_in, Did, answers, changes, quits, adds, cancels, names, Out, on, edited, halt, within, one_more, finish, perform}
use Rattle.definitions.specs.Edit.{Op, program, step}
use Rattle.theorems.specs.ComesTo.{within-comes, one-comes}
use Rattle.theorems.specs.Reading.{At, Local, met_eof, read_only, Faithful, never, ret-faithful, bind-faithful}
use Rattle.theorems.specs.OldSide.{left-old, Left, moved-left, edits-old}
use Rattle.theorems.specs.ReadTo.{old_ran, full_ran, once-faithful, once-full, to-faithful}
unfoldable pub use Rattle.theorems.specs.OldSide.{old_ed}

-- ---- every program

module _ {A : Type 0} (go go' : Ed → Reads (Ran A)) (h : (e : Ed) → Faithful (go e) (go' e) old_ran full_ran (old_ed e)) where
  moved-faithful : (e : Ed) (x : Got Ed) → Left (records e) x → Faithful (once_moved go e x) (once_moved go' e x) old_ran full_ran (old_ed e)
  unfolding once_moved old_ran Left
  moved-faithful e (got e') k = subst (λ (b : List Line). Faithful (go e') (go' e') old_ran full_ran b) (left-old e e' k) (h e')
  moved-faithful e (stop n) k = ret-faithful (stopped n e) old_ran full_ran (old_ed e) refl

  read-faithful : (size : ℕ) (c : Carried) (a : Target) (e : Ed)
      → Faithful (bind (read_to (given (bytes size)) c a e) (once_read go)) (bind (read_to (given boundless) c a e) (once_read go')) old_ran full_ran (old_ed e)
  read-faithful size c a e =
      bind-faithful (read_to (given (bytes size)) c a e) (read_to (given boundless) c a e) (once_read go) (once_read go') old_ran full_ran old_ran full_ran (old_ed e)
      (once-full go go' h) (to-faithful size c a e) (once-faithful go go' h)

pub runs-faithful : {A : Type 0} (size : ℕ) (c : Carried) (m : Program A) (e : Ed) → Faithful (runs (given (bytes size)) c m e) (runs (given boundless) c m e) old_ran full_ran (old_ed e)
unfolding runs old_ran
runs-faithful size c (gives a) e = ret-faithful (gave a e) old_ran full_ran (old_ed e) refl
runs-faithful size c (stops n) e = ret-faithful (stopped n e) old_ran full_ran (old_ed e) refl
runs-faithful size c (looks f) e = runs-faithful size c (f e) e
runs-faithful size c (reads a m) e =
    read-faithful (λ e'. runs (given (bytes size)) c m e') (λ e'. runs (given boundless) c m e') (λ e'. runs-faithful size c m e') size c a e
runs-faithful size c (moves x m) e =
    moved-faithful (λ e'. runs (given (bytes size)) c m e') (λ e'. runs (given boundless) c m e') (λ e'. runs-faithful size c m e') e (moved x e) (moved-left x e)

-- ---- a step's end

-- the old lines of a run's state
unfoldable pub old_state : RunState → List Line
old_state (state e c) = old_ed e

unfoldable pub old_out : Out → List Line
old_out (on b s) = old_state s
old_out (edited s) = old_state s
old_out (halt n s) = old_state s

-- a step that stopped on a full journal buffer
unfoldable pub full_out : Out → Type 0
full_out (on b s) = ⊥
full_out (edited s) = ⊥
full_out (halt n s) = n ≡ 26

module _ (size : ℕ) (c : Carried) (e e' : Ed) where
  within-keeps : old_ed e' ≡ old_ed e → (t : Tape) → At (λ o t'. old_out o ++ rest_lines t' ≡ old_ed e ++ rest_lines t) (within (given (bytes size)) c e e' t)
  unfolding old_out old_state
  within-keeps h t =
      within-comes (λ o t'. old_out o ++ rest_lines t' ≡ old_ed e ++ rest_lines t) (given (bytes size)) c e e' t (λ x. ap (λ (b : List Line). b ++ rest_lines t) h) refl

  within-bounded : (t : Tape) → At (λ o t'. full_out o ⊎ ((o, t') ≡ within (given boundless) c e e' t)) (within (given (bytes size)) c e e' t)
  unfolding full_out stop_number
  within-bounded t =
      within-comes (λ o t'. full_out o ⊎ ((o, t') ≡ within (given boundless) c e e' t)) (given (bytes size)) c e e' t (λ x. inr (unfold within has_room in refl)) (inl refl)

  within-faithful : old_ed e' ≡ old_ed e → Faithful (within (given (bytes size)) c e e') (within (given boundless) c e e') old_out full_out (old_ed e)
  within-faithful h = record {
    keeps = within-keeps h;
    bounded = within-bounded;
    near = λ u. read_only [] u (edited (state e' c)) refl (λ w. unfold within has_room in refl);
    stays = (edited (state e' c), unfold within has_room in refl);
  }

-- one global more, or 31: the text is left
one-old : (c : Carried) (x : Global) (e : Ed) → old_out (one_more c x e) ≡ old_ed e
unfolding old_out old_state
one-old (carried gs xs) x e = one-comes (λ o. old_out o ≡ old_ed e) gs xs x e (λ room. refl) refl

finish-faithful : (size : ℕ) (c : Carried) (r : Ran Did) → Faithful (finish (given (bytes size)) c r) (finish (given boundless) c r) old_out full_out (old_ran r)
unfolding finish old_out old_state old_ran
finish-faithful size c (gave (answers b) e) = ret-faithful (on b (state e c)) old_out full_out (old_ed e) refl
finish-faithful size c (gave (changes xs) e) = within-faithful size c e (edits xs e) (edits-old xs e)
finish-faithful size c (gave quits e) = ret-faithful (halt 0 (state e c)) old_out full_out (old_ed e) refl
finish-faithful size c (gave (adds x) e) = ret-faithful (one_more c x e) old_out full_out (old_ed e) (one-old c x e)
finish-faithful size c (gave cancels e) = ret-faithful (on true (state e (without_globals c))) old_out full_out (old_ed e) refl
finish-faithful size c (gave (names xs) e) = ret-faithful (on true (state e (with_words c xs))) old_out full_out (old_ed e) refl
finish-faithful size c (stopped n e) = ret-faithful (halt (stop_number n) (state e c)) old_out full_out (old_ed e) refl

finish-full : (size : ℕ) (c : Carried) (r : Ran Did) (t : Tape) → full_ran r → full_out (finish (given (bytes size)) c r t).0
unfolding finish full_ran full_out
finish-full size c (gave d e) t x = absurd x
finish-full size c (stopped n e) t x = x

-- ---- every step

-- a step in a journal buffer without bounds
unfoldable pub step_free : Op → RunState → Reads Out
step_free op s = step (given boundless) op s

pub step-faithful : (size : ℕ) (op : Op) (s : RunState) → Faithful (step (given (bytes size)) op s) (step_free op s) old_out full_out (old_state s)
unfolding step step_free perform words_in old_state
step-faithful size op (state e c) =
    bind-faithful (runs (given (bytes size)) c (program (words_of c) op) e) (runs (given boundless) c (program (words_of c) op) e) (finish (given (bytes size)) c) (finish (given boundless) c)
    old_ran full_ran old_out full_out (old_ed e) (finish-full size c) (runs-faithful size c (program (words_of c) op) e) (finish-faithful size c)

-- ---- the opening

opening-keeps : (t : Tape) → old_ed (opening t).0 ++ rest_lines (opening t).1 ≡ rest_lines t
unfolding opening old_ed records old_side old_of rest_lines
opening-keeps (unread (l ∷ ls)) = refl
opening-keeps (unread []) = refl
opening-keeps ended = refl

opening-near : (u : List Line) → Local opening u
unfolding opening
opening-near [] = met_eof (ed [] [] 0) refl
opening-near (l ∷ ls) = read_only (l ∷ []) ls (ed [] (kept l ∷ []) 0) refl (λ w. refl)

pub opening-faithful : Faithful opening opening old_ed never []
unfolding opening
opening-faithful = record { keeps = opening-keeps; bounded = λ t. inr refl; near = opening-near; stays = (ed [] [] 0, refl) }
