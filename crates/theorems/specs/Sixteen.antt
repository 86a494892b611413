-- Of the globals "at most 16" stand at a run's end (document 02, wish 2; W2.3).
use Rattle.std.specs.Prelude.{List, [], ◌∷◌, ℕ, ◌≤◌, length}
use Rattle.std.proofs.Common.{arith, length-append}
use borrow.Author.Tests.{leb-false}
use Rattle.definitions.specs.Bytes.{Line, lines_of}
use Rattle.definitions.specs.Tape.{Tape, unread, bind}
use Rattle.definitions.specs.WordSet.{Named}
use Rattle.definitions.specs.Given.{Given, given, bytes, Global, Carried, carried, no_globals, words_of, with_words, without_globals}
use Rattle.definitions.specs.Editor.{Ed, edits}
use Rattle.definitions.specs.Reading.{Ran, gave, stopped}
use Rattle.definitions.specs.StepProgram.{runs, RunState, state, words_in, Did, answers, changes, quits, adds, cancels, names, one_more, finish, perform}
use Rattle.definitions.specs.Edit.{Op, program, step}
use Rattle.definitions.specs.Control.{Item}
use Rattle.definitions.specs.Script.{Script, items, refused_at, read_script}
use Rattle.definitions.specs.Run.{End, end, run_items}
use Rattle.theorems.specs.Reading.{At}
use Rattle.theorems.specs.ComesTo.{within-comes, one-comes}
use Rattle.theorems.specs.Runs.{AfterStep, AtEnd, inner-all, items-all, run_items-keeps}
use Rattle.theorems.specs.Demand3.{standing_at, standing_of, standing}

-- so many globals are carried
unfoldable pub how_many : Carried → ℕ
how_many (carried gs xs) = length gs

abbrev Few : RunState → Tape → Type 0
Few (state e c) t = how_many c ≤ 16

one-few : (c : Carried) (x : Global) (e : Ed) (t : Tape) → how_many c ≤ 16 → AfterStep Few (one_more c x e) t
unfolding how_many
one-few (carried gs xs) x e t h =
    one-comes (λ o. AfterStep Few o t) gs xs x e (λ room. unfold how_many in (rw (length-append gs (x ∷ [])) (omega (arith, leb-false 16 (length gs) room)))) (unfold how_many in h)

-- CG and WORD (document 02, wishes 2 and 8)
none-few : (c : Carried) → how_many (without_globals c) ≤ 16
unfolding how_many without_globals
none-few (carried gs xs) = omega arith

words-few : (c : Carried) (xs : List Named) → how_many c ≤ 16 → how_many (with_words c xs) ≤ 16
unfolding how_many with_words
words-few (carried gs xs) ys h = h

finish-few : (g : Given) (c : Carried) (r : Ran Did) (t : Tape) → how_many c ≤ 16 → At (AfterStep Few) (finish g c r t)
unfolding finish
finish-few g c (gave (answers b) e) t h = h
finish-few g c (gave (changes xs) e) t h = within-comes (AfterStep Few) g c e (edits xs e) t (λ x. h) h
finish-few g c (gave quits e) t h = h
finish-few g c (gave (adds x) e) t h = one-few c x e t h
finish-few g c (gave cancels e) t h = none-few c
finish-few g c (gave (names xs) e) t h = words-few c xs h
finish-few g c (stopped n e) t h = h

step-few : (g : Given) (op : Op) (s : RunState) (t : Tape) → Few s t → At (AfterStep Few) (step g op s t)
unfolding step perform bind words_in
step-few g op (state e c) t h = finish-few g c (runs g c (program (words_of c) op) e t).0 (runs g c (program (words_of c) op) e t).1 h

end-few : (x : End) (t : Tape) → AtEnd Few x t → how_many (standing_at x) ≤ 16
unfolding standing_at
end-few (end n steps at (state e c)) t h = h

ran-few : (g : Given) (budget : ℕ) (is : List Item) (ls : List Line) → how_many (standing_at (run_items (step g) budget is (unread ls)).0) ≤ 16
ran-few g budget is ls =
    end-few (run_items (step g) budget is (unread ls)).0 (run_items (step g) budget is (unread ls)).1
    (run_items-keeps (λ op. Unit {0}) (inner-all (λ op. Unit {0}) (λ op. tt)) Few (step g) (λ op s t u h. step-few g op s t h) budget is (unread ls)
    (items-all (λ op. Unit {0}) (λ op. tt) is) (unfold how_many no_globals in (omega arith)))

-- THE LAW
pub at-most-sixteen : (table script : List ℕ) (budget size : ℕ) → how_many (standing table script budget size) ≤ 16
unfolding standing
at-most-sixteen table script budget size = by (read_script script)
  where
    by : (r : Script) → how_many (standing_of (lines_of table) budget size r) ≤ 16
    by (items is) = unfold standing_of in (ran-few (given (bytes size)) budget is (lines_of table))
    by (refused_at n at) = unfold standing_of how_many no_globals in (omega arith)
