-- The lines that a done run leaves unread: they pass through the standing globals, all of them, or none where these stop (document 02, wish 2). So the answer of a run
-- is one of two: what its last state tells, or a stop with 25 or 26 after the script's end.
use Rattle.std.specs.Prelude.{◌≡◌, ◌⊎◌, List, [], ◌∷◌, ◌++◌, map, length}
use Rattle.std.proofs.Math.Path.{refl}
use Rattle.std.proofs.Common.{sym, ap, ◌∙◌, inl, inr, append-nil, append_assoc, arith}
use Prim.Native.Nat.{ℕ, zero, suc}
use Rattle.definitions.specs.Bytes.{Line}
use Rattle.definitions.specs.Journal.{Record, kept, changed, change}
use Rattle.definitions.specs.Arranging.{arrange}
use Rattle.definitions.specs.Tape.{Tape, unread, ended, rest_lines, bind}
use Rattle.definitions.specs.Given.{Given, Carried}
use Rattle.definitions.specs.Globals.{left_by}
use Rattle.definitions.specs.Editor.{Ed, records, journal, furthest, Stop, n25, n26, stop_number, Got, got, stop, eof}
use Rattle.definitions.specs.Reading.{Ran, gave, stopped, once_read, seen, read_line, read_lines, read_to}
use Rattle.definitions.specs.StepProgram.{state, text_of}
use Rattle.definitions.specs.Run.{End, end, end_place, Answer, answer, rest_passed, in_run_order, arranged, answer_of}
use Rattle.theorems.specs.Each.{Each, each_all, each_map}
use Rattle.theorems.specs.RecordLaws.{by-change, change-same, change-other}
use Rattle.theorems.specs.Arranged.{IsApart}
use Rattle.theorems.specs.ArrangeLaws.{arrange-tail}
use Rattle.theorems.specs.Reading.{At}
use Rattle.theorems.specs.OldSide.{seen-records}
use Rattle.theorems.specs.ReadTo.{as-comes}
use Rattle.theorems.specs.Passing.{left-25}
use Rattle.theorems.specs.Demand3.{Passes, left_as, unread_as, standing_at}

-- ---- all lines, up to EOF

-- they come through, each as the globals leave it; or these stop with 25 or 26
abbrev pub Passed : Ed → Carried → List Line → Ran (Unit {0}) → Type 0
Passed e c ls (gave u e') = (records e' ≡ records e ++ unread_as 0 c ls) × Each (Passes c) ls
Passed e c ls (stopped n e') = (n ≡ n25) ⊎ (n ≡ n26)

rest_more : (c : Carried) (l : Line) (ls : List Line) (new : Line) → left_by c l ≡ got new → unread_as 0 c (l ∷ ls) ≡ change l new ∷ unread_as 0 c ls
unfolding unread_as
rest_more c l ls new q = unfold unread_as left_as in (rw q)

passed-more : (e : Ed) (c : Carried) (l : Line) (ls : List Line) (new : Line) (r : Record) → left_by c l ≡ got new → change l new ≡ r
    → (x : Ran (Unit {0})) → Passed (seen r e) c ls x → Passed e c (l ∷ ls) x
passed-more e c l ls new r q p (gave u e') h =
    (h.0 ∙ rw (seen-records r e, append_assoc, rest_more c l ls new q, p), ((new, q), h.1))
passed-more e c l ls new r q p (stopped n e') h = h

why-stopped : (c : Carried) (l : Line) (n : Stop) → (left_by c l ≡ stop n) ⊎ (n ≡ n26) → (n ≡ n25) ⊎ (n ≡ n26)
why-stopped c l n (inl q) = inl (left-25 c l n q)
why-stopped c l n (inr q) = inr q

lines-passed : (g : Given) (c : Carried) (ls : List Line) (e : Ed) → Passed e c ls (read_lines g c (suc (length ls)) e (unread ls)).0
unfolding read_lines read_line bind once_read
lines-passed g c [] e = (unfold unread_as in (sym (append-nil (records e))), tt)
lines-passed g c (l ∷ ls) e =
    as-comes (λ r t. Passed e c (l ∷ ls) (once_read (λ e'. read_lines g c (suc (length ls)) e') r t).0) g l e (left_by c l) (unread ls)
    (λ new q same. more new (kept l) q (change-same l new same) (lines-passed g c ls (seen (kept l) e)))
    (λ new q differs room. more new (changed l new) q (change-other l new differs) (lines-passed g c ls (seen (changed l new) e)))
    (λ n why. why-stopped c l n why)
  where
    more : (new : Line) (r : Record) → left_by c l ≡ got new → change l new ≡ r → Passed (seen r e) c ls (read_lines g c (suc (length ls)) (seen r e) (unread ls)).0
        → Passed e c (l ∷ ls) (read_lines g c (suc (length ls)) (seen r e) (unread ls)).0
    more new r q p h = passed-more e c l ls new r q p (read_lines g c (suc (length ls)) (seen r e) (unread ls)).0 h

pub rest-passed : (g : Given) (c : Carried) (e : Ed) (t : Tape) → Passed e c (rest_lines t) (read_to g c eof e t).0
unfolding read_to rest_lines
rest-passed g c e (unread ls) = lines-passed g c ls e
rest-passed g c e ended = unfold read_lines read_line bind once_read unread_as in ((sym (append-nil (records e)), tt))

-- then EOF is read
abbrev pub AllRead : Ran (Unit {0}) → Tape → Type 0
AllRead (gave u e) t = t ≡ ended
AllRead (stopped n e) t = Unit {0}

lines-all : (g : Given) (c : Carried) (ls : List Line) (e : Ed) → At AllRead (read_lines g c (suc (length ls)) e (unread ls))
unfolding read_lines read_line bind once_read
lines-all g c [] e = refl
lines-all g c (l ∷ ls) e =
    as-comes (λ r t. At AllRead (once_read (λ e'. read_lines g c (suc (length ls)) e') r t)) g l e (left_by c l) (unread ls)
    (λ new q same. lines-all g c ls (seen (kept l) e)) (λ new q differs room. lines-all g c ls (seen (changed l new) e)) (λ n why. tt)

pub rest_read : (g : Given) (c : Carried) (e : Ed) (t : Tape) → At AllRead (read_to g c eof e t)
unfolding read_to rest_lines
rest_read g c e (unread ls) = lines-all g c ls e
rest_read g c e ended = unfold read_lines read_line bind once_read in refl

-- ---- unread lines are kept or changed: arranging parts there, and leaves them

left-apart : (l : Line) (x : Got Line) → IsApart (left_as l x)
unfolding left_as
left-apart l (got new) = by-change IsApart l new (λ e. tt) (λ e. tt)
left-apart l (stop n) = tt

pub unread-apart : (n : ℕ) (c : Carried) (ls : List Line) → Each IsApart (unread_as n c ls)
unfolding unread_as
unread-apart zero c ls = each_map IsApart (λ l. Unit {0}) (λ l. left_as l (left_by c l)) (λ l u. left-apart l (left_by c l)) ls (each_all (λ l. Unit {0}) (λ l. tt) ls)
unread-apart (suc n) c ls = each_map IsApart (λ l. Unit {0}) kept (λ l u. tt) ls (each_all (λ l. Unit {0}) (λ l. tt) ls)

-- the records that are read, arranged, and after them the lines that are not
unread-arranged : (rs : List Record) (n : ℕ) (c : Carried) (ls : List Line) → arrange (rs ++ unread_as n c ls) ≡ arrange rs ++ unread_as n c ls
unread-arranged rs n c ls = arrange-tail rs (unread_as n c ls) (unread-apart n c ls)

-- ---- the answer of a run

-- what the last state tells
unfoldable pub last_answer : End → Tape → Answer
last_answer (end n steps at (state e c)) t = answer n steps (furthest e t) (end_place n at) (arrange (records e) ++ unread_as n c (rest_lines t))

-- what it is where the globals stop after the script's end; the unread lines are kept as in any other stop
unfoldable pub late_stop : ℕ → Stop → End → Tape → Answer
late_stop place k (end n steps at (state e c)) t = answer (stop_number k) steps (furthest e t) place (arrange (records e) ++ map kept (rest_lines t))

-- the records of a stopped run
stopped-records : (n : ℕ) (c : Carried) (e : Ed) (t : Tape) → arrange (journal e t) ≡ arrange (records e) ++ unread_as (suc n) c (rest_lines t)
unfolding journal
stopped-records n c e t = unfold unread_as in (unread-arranged (records e) (suc n) c (rest_lines t))

-- the end of a done script
abbrev pub IsDone : End → Type 0
IsDone (end n steps at s) = n ≡ 0

-- the answer is the one or the other
pub data Comes (place : ℕ) (x : End) (t : Tape) (a : Answer) : Type 0 where
  as_told : a ≡ last_answer x t → (IsDone x → Each (Passes (standing_at x)) (rest_lines t)) → Comes place x t a
  stops_late : (k : Stop) → (k ≡ n25) ⊎ (k ≡ n26) → IsDone x → a ≡ late_stop place k x t → Comes place x t a

rest-comes : (place steps at : ℕ) (e : Ed) (c : Carried) (t : Tape) (r : Ran (Unit {0})) → Passed e c (rest_lines t) r → Comes place (end 0 steps at (state e c)) t (arranged (rest_passed steps place e t r))
unfolding rest_passed arranged last_answer late_stop standing_at end_place
rest-comes place steps at e c t (gave u e') h = as_told (ap (answer 0 steps (furthest e t) 0) (ap arrange h.0 ∙ unread-arranged (records e) 0 c (rest_lines t))) (λ q. h.1)
rest-comes place steps at e c t (stopped k e') h = stops_late k h refl (ap (answer (stop_number k) steps (furthest e t) place) (unfold unread_as in (stopped-records 0 c e t)))

-- THE LAW
pub answer-comes : (g : Given) (place : ℕ) (x : End) (t : Tape) → Comes place x t (answer_of g place x t)
unfolding answer_of in_run_order
answer-comes g place (end zero steps at (state e c)) t = rest-comes place steps at e c t (read_to g c eof e t).0 (rest-passed g c e t)
answer-comes g place (end (suc n) steps at (state e c)) t = as_told (unfold arranged last_answer text_of end_place in (ap (answer (suc n) steps (furthest e t) at) (stopped-records n c e t))) (λ q. absurd (nonzero n q))
  where
    nonzero : (m : ℕ) → suc m ≡ 0 → ⊥
    nonzero m q = omega (arith, q)
