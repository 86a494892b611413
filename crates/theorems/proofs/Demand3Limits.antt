-- What demand 3 cannot do without: each hypothesis, the furthest line itself, the globals that stand at a done run's end, and document 01's end of "the journal up to a
-- line". Each statement is false where one of them is left out.
use Rattle.std.specs.Prelude.{◌≡◌, List, [], ◌∷◌, map, ℕ, zero, suc, ◌-◌, ◌≤◌, length, drop}
use Rattle.std.proofs.Math.Path.{refl}
use Rattle.std.proofs.Common.{sym, ap, ◌∙◌, arith}
use Rattle.definitions.specs.Bytes.{Line, bytes, lines_of}
use Rattle.definitions.specs.Journal.{Record, kept, changed, deleted, inserted, after_line, journal_length}
use Rattle.definitions.specs.Given.{Carried}
use Rattle.definitions.specs.Run.{Answer, answer, run_answer, answer_number, answer_furthest, answer_place, answer_records}
use Rattle.definitions.specs.Everything.{everything}
use Rattle.theorems.specs.Demand3.{IsAccepted, IsNotFull, Agree, agree_up_to, are_equal, SameUpTo, IsCompared, left_as, unread_as, standing_at, standing_of, standing}

-- the third part of demand 3 with the line up to which the tables agree, `line f`, and the runs of a script that are `allowed`, left to choose
abbrev pub Near : (ℕ → ℕ) → (List ℕ → Answer → Answer → Type 0) → Type 0
Near line allowed =
    (table script : List ℕ) (budget work size : ℕ) (table₂ : List ℕ) (work₂ size₂ : ℕ)
    → let ran = run_answer table script budget work size in
    let ran₂ = run_answer table₂ script budget work₂ size₂ in
    IsAccepted ran
    → IsAccepted ran₂
    → Agree (line (answer_furthest ran)) (lines_of table) (lines_of table₂)
    → allowed script ran ran₂
    → SameUpTo (answer_furthest ran) ran ran₂

-- what a computed answer tells
record Tells (a : Answer) (n f at : ℕ) : Type 0 where
  accepted : IsAccepted a
  number : answer_number a ≡ n
  furthest : answer_furthest a ≡ f
  place : answer_place a ≡ at

tells : (a : Answer) (n steps f at : ℕ) (j : List Record) → a ≡ answer n steps f at j → Tells a n f at
unfolding IsAccepted answer_number answer_furthest answer_place
tells a n steps f at j e = record { accepted = rw e tt; number = rw e; furthest = rw e; place = rw e }

-- a run with another number is not full, and a done one is compared
not-26 : (a : Answer) (n f at : ℕ) → Tells a n f at → suc n ≤ 26 → IsNotFull a
not-26 a n f at t less q = differ (answer_number a) t.number q
  where
    differ : (m : ℕ) → m ≡ n → m ≡ 26 → ⊥
    differ m h k = omega (arith, h, k, less)

done-compared : (script : List ℕ) (a : Answer) (f at : ℕ) → Tells a 0 f at → IsCompared script a
done-compared script a f at t = record { not_full = not-26 a 0 f at t (omega arith); not_after = λ q p. differ (answer_number a) t.number q }
  where
    differ : (m : ℕ) → m ≡ 0 → m ≡ 25 → ⊥
    differ m h k = omega (arith, h, k)

-- one run is done, the other stops: they differ
numbers-differ : (a b : Answer) (n f g at at₂ : ℕ) → Tells a 0 f at → Tells b n g at₂ → 20 ≤ n → answer_number a ≡ answer_number b → ⊥
numbers-differ a b n f g at at₂ t u le e = differ (answer_number a) (answer_number b) t.number u.number e
  where
    differ : (x y : ℕ) → x ≡ 0 → y ≡ n → x ≡ y → ⊥
    differ x y h k q = omega (arith, h, k, q, le)

-- ---- no full journal, in either run

-- one table and one script; in a journal buffer of 4 bytes the run stops on a full journal, in one of 8 it does not
abbrev insert_in : ℕ → Answer
insert_in size = run_answer (bytes "b\n") (bytes "IS/x/\n") 9 76 size

full_is : insert_in 4 ≡ answer 26 1 1 0 (kept (bytes "b") ∷ [])
unfolding everything
full_is = refl

roomy-is : insert_in 8 ≡ answer 0 1 1 0 (inserted (bytes "x") ∷ kept (bytes "b") ∷ [])
unfolding everything
roomy-is = refl

full : Tells (insert_in 4) 26 1 0
full = tells (insert_in 4) 26 1 1 0 (kept (bytes "b") ∷ []) full_is

roomy : Tells (insert_in 8) 0 1 0
roomy = tells (insert_in 8) 0 1 1 0 (inserted (bytes "x") ∷ kept (bytes "b") ∷ []) roomy-is

-- the first run must not stop on a full journal
pub first-not-full : Near (λ f. f) (λ s a b. IsCompared s b) → ⊥
first-not-full near =
    numbers-differ (insert_in 8) (insert_in 4) 26 1 1 0 0 roomy full (omega arith)
    (near (bytes "b\n") (bytes "IS/x/\n") 9 76 4 (bytes "b\n") 76 8 full.accepted roomy.accepted (are_equal refl) (done-compared (bytes "IS/x/\n") (insert_in 8) 1 0 roomy)).number

-- nor the second
pub second-not-full : Near (λ f. f) (λ s a b. IsCompared s a) → ⊥
second-not-full near =
    numbers-differ (insert_in 8) (insert_in 4) 26 1 1 0 0 roomy full (omega arith)
    (sym (near (bytes "b\n") (bytes "IS/x/\n") 9 76 8 (bytes "b\n") 76 4 roomy.accepted full.accepted (are_equal refl) (done-compared (bytes "IS/x/\n") (insert_in 8) 1 0 roomy)).number)

-- ---- no stop among the unread lines after the script's end (document 02, wish 2)

-- four globals, each of which makes four letters of one: the second line would have 256 letters; a table with another second line is done
abbrev fourfold : List ℕ
fourfold = bytes "4 GE/b/bbbb/\n"

abbrev fourfold_in : List ℕ → Answer
fourfold_in table = run_answer table fourfold 9 99 99

long-is : fourfold_in (bytes "a\nb\n") ≡ answer 25 8 1 13 (kept (bytes "a") ∷ kept (bytes "b") ∷ [])
unfolding everything
long-is = refl

short-is : fourfold_in (bytes "a\nc\n") ≡ answer 0 8 1 0 (kept (bytes "a") ∷ kept (bytes "c") ∷ [])
unfolding everything
short-is = refl

long : Tells (fourfold_in (bytes "a\nb\n")) 25 1 13
long = tells (fourfold_in (bytes "a\nb\n")) 25 8 1 13 (kept (bytes "a") ∷ kept (bytes "b") ∷ []) long-is

short : Tells (fourfold_in (bytes "a\nc\n")) 0 1 0
short = tells (fourfold_in (bytes "a\nc\n")) 0 8 1 0 (kept (bytes "a") ∷ kept (bytes "c") ∷ []) short-is

agree-first : (f : ℕ) → f ≡ 1 → Agree f (lines_of (bytes "a\nb\n")) (lines_of (bytes "a\nc\n"))
unfolding everything
agree-first f e = rw e (agree_up_to (omega arith) (omega arith) refl)

agree-back : (f : ℕ) → f ≡ 1 → Agree f (lines_of (bytes "a\nc\n")) (lines_of (bytes "a\nb\n"))
unfolding everything
agree-back f e = rw e (agree_up_to (omega arith) (omega arith) refl)

-- the first run must not stop with 25 there: that it does not stop on a full journal is not enough
pub first-not-long : Near (λ f. f) (λ s a b. IsNotFull a × IsCompared s b) → ⊥
first-not-long near =
    numbers-differ (fourfold_in (bytes "a\nc\n")) (fourfold_in (bytes "a\nb\n")) 25 1 1 0 13 short long (omega arith)
    (near (bytes "a\nb\n") fourfold 9 99 99 (bytes "a\nc\n") 99 99 long.accepted short.accepted (agree-first (answer_furthest (fourfold_in (bytes "a\nb\n"))) long.furthest)
    (not-26 (fourfold_in (bytes "a\nb\n")) 25 1 13 long (omega arith), done-compared fourfold (fourfold_in (bytes "a\nc\n")) 1 0 short)).number

-- nor the second
pub second-not-long : Near (λ f. f) (λ s a b. IsCompared s a × IsNotFull b) → ⊥
second-not-long near =
    numbers-differ (fourfold_in (bytes "a\nc\n")) (fourfold_in (bytes "a\nb\n")) 25 1 1 0 13 short long (omega arith)
    (sym (near (bytes "a\nc\n") fourfold 9 99 99 (bytes "a\nb\n") 99 99 short.accepted long.accepted (agree-back (answer_furthest (fourfold_in (bytes "a\nc\n"))) short.furthest)
    (done-compared fourfold (fourfold_in (bytes "a\nc\n")) 1 0 short, not-26 (fourfold_in (bytes "a\nb\n")) 25 1 13 long (omega arith))).number)

-- 26 is left out altogether. To leave out only the runs that a command stops with 26 is not enough: here the journal is full after the script's end.
abbrev OnlyLate : List ℕ → Answer → Type 0
OnlyLate script a = (answer_number a ≡ 26 → answer_place a ≡ length script) × (answer_number a ≡ 25 → answer_place a ≡ length script → ⊥)

abbrev one_global : List ℕ
one_global = bytes "GE/b/cc/\n"

abbrev global_in : ℕ → Answer
global_in size = run_answer (bytes "a\nb\n") one_global 9 99 size

late_is : global_in 8 ≡ answer 26 1 1 9 (kept (bytes "a") ∷ kept (bytes "b") ∷ [])
unfolding everything
late_is = refl

room-is : global_in 99 ≡ answer 0 1 1 0 (kept (bytes "a") ∷ changed (bytes "b") (bytes "cc") ∷ [])
unfolding everything
room-is = refl

late : Tells (global_in 8) 26 1 9
late = tells (global_in 8) 26 1 1 9 (kept (bytes "a") ∷ kept (bytes "b") ∷ []) late_is

room : Tells (global_in 99) 0 1 0
room = tells (global_in 99) 0 1 1 0 (kept (bytes "a") ∷ changed (bytes "b") (bytes "cc") ∷ []) room-is

only-late : OnlyLate one_global (global_in 8)
only-late = (λ q. late.place ∙ nine, λ q p. differ (answer_number (global_in 8)) late.number q)
  where
    nine : 9 ≡ length one_global
    nine = unfold everything in refl

    differ : (m : ℕ) → m ≡ 26 → m ≡ 25 → ⊥
    differ m h k = omega (arith, h, k)

pub late-not-full : Near (λ f. f) (λ s a b. OnlyLate s a × IsCompared s b) → ⊥
late-not-full near =
    numbers-differ (global_in 99) (global_in 8) 26 1 1 0 9 room late (omega arith)
    (near (bytes "a\nb\n") one_global 9 99 8 (bytes "a\nb\n") 99 99 late.accepted room.accepted (are_equal refl) (only-late, done-compared one_global (global_in 99) 1 0 room)).number

-- ---- the furthest line read is read

-- F finds the second line of the first table, and meets EOF in the second table, which has another second line
abbrev find_in : List ℕ → Answer
find_in table = run_answer table (bytes "F /b/\n") 9 76 99

found-is : find_in (bytes "a\nb\n") ≡ answer 0 3 2 0 (kept (bytes "a") ∷ kept (bytes "b") ∷ [])
unfolding everything
found-is = refl

unfound-is : find_in (bytes "a\nc\n") ≡ answer 21 3 3 0 (kept (bytes "a") ∷ kept (bytes "c") ∷ [])
unfolding everything
unfound-is = refl

found : Tells (find_in (bytes "a\nb\n")) 0 2 0
found = tells (find_in (bytes "a\nb\n")) 0 3 2 0 (kept (bytes "a") ∷ kept (bytes "b") ∷ []) found-is

unfound : Tells (find_in (bytes "a\nc\n")) 21 3 0
unfound = tells (find_in (bytes "a\nc\n")) 21 3 3 0 (kept (bytes "a") ∷ kept (bytes "c") ∷ []) unfound-is

unfound-compared : IsCompared (bytes "F /b/\n") (find_in (bytes "a\nc\n"))
unfound-compared = record { not_full = not-26 (find_in (bytes "a\nc\n")) 21 3 0 unfound (omega arith); not_after = λ q p. differ (answer_number (find_in (bytes "a\nc\n"))) unfound.number q }
  where
    differ : (m : ℕ) → m ≡ 21 → m ≡ 25 → ⊥
    differ m h k = omega (arith, h, k)

-- it is not enough that the tables agree up to the line before the furthest line read
pub furthest-agrees : Near (λ f. f - 1) (λ s a b. IsCompared s a × IsCompared s b) → ⊥
furthest-agrees near =
    numbers-differ (find_in (bytes "a\nb\n")) (find_in (bytes "a\nc\n")) 21 2 3 0 0 found unfound (omega arith)
    (sym (near (bytes "a\nb\n") (bytes "F /b/\n") 9 76 99 (bytes "a\nc\n") 76 99 found.accepted unfound.accepted
    (agree-first (answer_furthest (find_in (bytes "a\nb\n")) - 1) (ap (λ (x : ℕ). x - 1) found.furthest))
    (done-compared (bytes "F /b/\n") (find_in (bytes "a\nb\n")) 2 0 found, unfound-compared)).number)

-- ---- what follows the furthest line

-- the second part of demand 3 with the line, `line f`, and the records of the lines after it, by the run's number and the globals that stand at its end, left to choose
abbrev pub After : (ℕ → ℕ) → (ℕ → Carried → List Line → List Record) → Type 0
After line rest =
    (table script : List ℕ) (budget work size : ℕ) → let ran = run_answer table script budget work size in
    IsAccepted ran → after_line (line (answer_furthest ran)) (answer_records ran) ≡ rest (answer_number ran) (standing table script budget size) (drop (line (answer_furthest ran)) (lines_of table))

-- the furthest line itself may be marked other than kept
abbrev change_first : Answer
change_first = run_answer (bytes "a\nb\n") (bytes "E/a/x/\n") 9 78 99

changed-is : change_first ≡ answer 0 1 1 0 (changed (bytes "a") (bytes "x") ∷ kept (bytes "b") ∷ [])
unfolding everything
changed-is = refl

changed-differs : after_line 0 (changed (bytes "a") (bytes "x") ∷ kept (bytes "b") ∷ []) ≡ unread_as 0 (standing (bytes "a\nb\n") (bytes "E/a/x/\n") 9 99) (drop 0 (lines_of (bytes "a\nb\n"))) → ⊥
unfolding everything standing standing_of standing_at unread_as left_as
changed-differs h =
    let e : ◌≡◌ {A = ℕ} 10 8 = ap journal_length h in
    omega (arith, e)

pub after-furthest : After (λ f. f - 1) unread_as → ⊥
unfolding answer_furthest answer_records answer_number
after-furthest after = changed-differs (rw changed-is at (after (bytes "a\nb\n") (bytes "E/a/x/\n") 9 78 99 (tells change_first 0 1 1 0 _ changed-is).accepted))

-- a done run's unread lines are not always kept
globals-differ : after_line 1 (kept (bytes "a") ∷ changed (bytes "b") (bytes "cc") ∷ []) ≡ map kept (drop 1 (lines_of (bytes "a\nb\n"))) → ⊥
unfolding everything
globals-differ h =
    let e : ◌≡◌ {A = ℕ} 7 4 = ap journal_length h in
    omega (arith, e)

pub done-not-kept : After (λ f. f) (λ n c ls. map kept ls) → ⊥
unfolding answer_furthest answer_records
done-not-kept after = globals-differ (rw room-is at (after (bytes "a\nb\n") one_global 9 99 99 room.accepted))

-- a stopped run's are: here it stops with 22, and the global stands
abbrev stopping : List ℕ
stopping = bytes "GE/b/cc/; P\n"

abbrev stop_with : Answer
stop_with = run_answer (bytes "a\nb\n") stopping 9 99 99

stopped-is : stop_with ≡ answer 22 2 1 10 (kept (bytes "a") ∷ kept (bytes "b") ∷ [])
unfolding everything
stopped-is = refl

stopped-differs : after_line 1 (kept (bytes "a") ∷ kept (bytes "b") ∷ []) ≡ unread_as 0 (standing (bytes "a\nb\n") stopping 9 99) (drop 1 (lines_of (bytes "a\nb\n"))) → ⊥
unfolding everything standing standing_of standing_at unread_as left_as
stopped-differs h =
    let e : ◌≡◌ {A = ℕ} 4 7 = ap journal_length h in
    omega (arith, e)

pub stopped-kept : After (λ f. f) (λ n c ls. unread_as 0 c ls) → ⊥
unfolding answer_furthest answer_records
stopped-kept after = stopped-differs (rw stopped-is at (after (bytes "a\nb\n") stopping 9 99 99 (tells stop_with 22 2 1 10 _ stopped-is).accepted))

-- ---- "the journal up to a line" ends before the next source line's record (document 02, wish 6; W6.5)

-- what stands directly after the record of source line n
unfoldable pub after_record : ℕ → List Record → List Record
after_record n [] = []
after_record zero (r ∷ rs) = r ∷ rs
after_record (suc n) (kept l ∷ rs) = after_record n rs
after_record (suc n) (changed o m ∷ rs) = after_record n rs
after_record (suc n) (deleted l ∷ rs) = after_record n rs
after_record (suc n) (inserted l ∷ rs) = after_record (suc n) rs

-- the second part of demand 3 where the journal up to the furthest line ends with the record of that line itself
abbrev pub DirectlyAfter : Type 0
DirectlyAfter =
    (table script : List ℕ) (budget work size : ℕ) → let ran = run_answer table script budget work size in
    IsAccepted ran → after_record (answer_furthest ran) (answer_records ran) ≡ unread_as (answer_number ran) (standing table script budget size) (drop (answer_furthest ran) (lines_of table))

-- CL joins the inserted line and the furthest line read, which it deletes: the `++` follows that line's `--`
abbrev joining : List ℕ
joining = bytes "IS/x/; P; CL//\n"

abbrev joined : Answer
joined = run_answer (bytes "a\nb\n") joining 9 99 99

joined_is : joined ≡ answer 0 3 1 0 (deleted (bytes "a") ∷ inserted (bytes "xa") ∷ kept (bytes "b") ∷ [])
unfolding everything
joined_is = refl

joined-differs : after_record 1 (deleted (bytes "a") ∷ inserted (bytes "xa") ∷ kept (bytes "b") ∷ []) ≡ unread_as 0 (standing (bytes "a\nb\n") joining 9 99) (drop 1 (lines_of (bytes "a\nb\n"))) → ⊥
unfolding everything after_record standing standing_of standing_at unread_as left_as
joined-differs h =
    let e : ◌≡◌ {A = ℕ} 9 4 = ap journal_length h in
    omega (arith, e)

pub not-directly-after : DirectlyAfter → ⊥
unfolding answer_furthest answer_records answer_number
not-directly-after after = joined-differs (rw joined_is at (after (bytes "a\nb\n") joining 9 99 99 (tells joined 0 3 1 0 _ joined_is).accepted))
