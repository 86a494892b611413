-- The second part of demand 3, source line by source line: what becomes of one beyond the furthest line read.
use Rattle.std.specs.Prelude.{◌≡◌, Bool, true, cond, List, [], ◌∷◌, map, ℕ, zero, suc, ◌+◌, ◌-◌, ◌<◌, drop}
use Rattle.std.proofs.Math.Path.{refl}
use Rattle.std.proofs.Common.{ap, ◌∙◌, arith}
use Rattle.std.proofs.Math.Bool.{false}
use Rattle.std.proofs.Math.Option.{Option, none, some}
use Rattle.definitions.specs.Bytes.{Line, eq_line, lines_of}
use Rattle.definitions.specs.Journal.{Record, kept, changed, deleted, inserted, change, after_line}
use Rattle.definitions.specs.Given.{Carried}
use Rattle.definitions.specs.Globals.{left_by}
use Rattle.definitions.specs.Editor.{Got, got, stop}
use Rattle.definitions.specs.Run.{Answer, run_answer, answer_number, answer_furthest, answer_records}
use Rattle.theorems.specs.Demand3.{IsAccepted, left_as, unread_as, standing}
use Rattle.theorems.proofs.Demand3Proof.{demand3}

-- "The record of source line n is the nth record that gives the old side a line"; none where the records have no such line
unfoldable pub record_of_line : ℕ → List Record → Option Record
record_of_line n [] = none
record_of_line n (inserted l ∷ rs) = record_of_line n rs
record_of_line zero (kept l ∷ rs) = none
record_of_line zero (changed o m ∷ rs) = none
record_of_line zero (deleted l ∷ rs) = none
record_of_line (suc zero) (kept l ∷ rs) = some (kept l)
record_of_line (suc zero) (changed o m ∷ rs) = some (changed o m)
record_of_line (suc zero) (deleted l ∷ rs) = some (deleted l)
record_of_line (suc (suc n)) (kept l ∷ rs) = record_of_line (suc n) rs
record_of_line (suc (suc n)) (changed o m ∷ rs) = record_of_line (suc n) rs
record_of_line (suc (suc n)) (deleted l ∷ rs) = record_of_line (suc n) rs

-- line n of a table; none where it has no such line
unfoldable pub source_line : ℕ → List Line → Option Line
source_line n [] = none
source_line zero (l ∷ ls) = none
source_line (suc zero) (l ∷ ls) = some l
source_line (suc (suc n)) (l ∷ ls) = source_line (suc n) ls

-- the record of a line that is not read: in a done run (number 0) as the globals c leave the line, in a stopped one kept
unfoldable pub left_in : ℕ → Carried → Option Line → Option Record
left_in n c none = none
left_in zero c (some l) = some (left_as l (left_by c l))
left_in (suc n) c (some l) = some (kept l)

-- not marked other than kept
unfoldable pub IsKept : Option Record → Type 0
IsKept none = Unit {0}
IsKept (some (kept l)) = Unit {0}
IsKept (some (changed o n)) = ⊥
IsKept (some (deleted l)) = ⊥
IsKept (some (inserted l)) = ⊥

at-line : (m k : ℕ) (rs : List Record) → m ≡ k → record_of_line m rs ≡ record_of_line k rs
at-line m k rs h = ap (λ (x : ℕ). record_of_line x rs) h

-- source lines are counted on after the journal up to line f
record-after : (f k m : ℕ) (rs : List Record) → m ≡ suc (k + f) → record_of_line m rs ≡ record_of_line (suc k) (after_line f rs)
unfolding record_of_line after_line
record-after f k m [] h = refl
record-after f k m (inserted l ∷ rs) h = record-after f k m rs h
record-after zero k m (kept l ∷ rs) h = at-line m (suc k) (kept l ∷ rs) (omega (arith, h))
record-after zero k m (changed o n ∷ rs) h = at-line m (suc k) (changed o n ∷ rs) (omega (arith, h))
record-after zero k m (deleted l ∷ rs) h = at-line m (suc k) (deleted l ∷ rs) (omega (arith, h))
record-after (suc f) k zero (kept l ∷ rs) h = absurd (omega (arith, h))
record-after (suc f) k zero (changed o n ∷ rs) h = absurd (omega (arith, h))
record-after (suc f) k zero (deleted l ∷ rs) h = absurd (omega (arith, h))
record-after (suc f) k (suc zero) (kept l ∷ rs) h = absurd (omega (arith, h))
record-after (suc f) k (suc zero) (changed o n ∷ rs) h = absurd (omega (arith, h))
record-after (suc f) k (suc zero) (deleted l ∷ rs) h = absurd (omega (arith, h))
record-after (suc f) k (suc (suc m)) (kept l ∷ rs) h = record-after f k (suc m) rs (omega (arith, h))
record-after (suc f) k (suc (suc m)) (changed o n ∷ rs) h = record-after f k (suc m) rs (omega (arith, h))
record-after (suc f) k (suc (suc m)) (deleted l ∷ rs) h = record-after f k (suc m) rs (omega (arith, h))

-- so are lines
line_after : (f k m : ℕ) (ls : List Line) → m ≡ suc (k + f) → source_line (suc k) (drop f ls) ≡ source_line m ls
unfolding source_line
line_after f k m [] h = drop-none f
  where
    drop-none : (n : ℕ) → source_line (suc k) (drop n []) ≡ none
    drop-none zero = unfold source_line in refl
    drop-none (suc n) = unfold source_line in refl
line_after zero k m (l ∷ ls) h =
    let e : suc k ≡ m = omega (arith, h) in
    ap (λ (x : ℕ). source_line x (l ∷ ls)) e
line_after (suc f) k zero (l ∷ ls) h = absurd (omega (arith, h))
line_after (suc f) k (suc zero) (l ∷ ls) h = absurd (omega (arith, h))
line_after (suc f) k (suc (suc m)) (l ∷ ls) h = line_after f k (suc m) ls (omega (arith, h))

-- the first of the records, and the others
left-record : (l : Line) (x : Got Line) (rs : List Record) → (record_of_line 1 (left_as l x ∷ rs) ≡ some (left_as l x)) × ((k : ℕ) → record_of_line (suc (suc k)) (left_as l x ∷ rs) ≡ record_of_line (suc k) rs)
unfolding left_as change record_of_line
left-record l (got new) rs = by (eq_line l new)
  where
    by : (b : Bool) → let r = cond b (kept l) (changed l new) in (record_of_line 1 (r ∷ rs) ≡ some r) × ((k : ℕ) → record_of_line (suc (suc k)) (r ∷ rs) ≡ record_of_line (suc k) rs)
    by true = unfold record_of_line in ((refl, λ k. refl))
    by false = unfold record_of_line in ((refl, λ k. refl))
left-record l (stop n) rs = (refl, λ k. refl)

left-lines : (k : ℕ) (c : Carried) (ls : List Line) → record_of_line (suc k) (map (λ l. left_as l (left_by c l)) ls) ≡ left_in 0 c (source_line (suc k) ls)
unfolding left_in source_line
left-lines k c [] = unfold record_of_line in refl
left-lines zero c (l ∷ ls) = (left-record l (left_by c l) (map (λ x. left_as x (left_by c x)) ls)).0
left-lines (suc k) c (l ∷ ls) = (left-record l (left_by c l) (map (λ x. left_as x (left_by c x)) ls)).1 k ∙ left-lines k c ls

kept-lines : (n k : ℕ) (c : Carried) (ls : List Line) → record_of_line (suc k) (map kept ls) ≡ left_in (suc n) c (source_line (suc k) ls)
unfolding record_of_line left_in source_line
kept-lines n k c [] = refl
kept-lines n zero c (l ∷ ls) = refl
kept-lines n (suc k) c (l ∷ ls) = kept-lines n k c ls

rest-record : (n k : ℕ) (c : Carried) (ls : List Line) → record_of_line (suc k) (unread_as n c ls) ≡ left_in n c (source_line (suc k) ls)
unfolding unread_as
rest-record zero k c ls = left-lines k c ls
rest-record (suc n) k c ls = kept-lines n k c ls

-- THE LAW: a source line beyond the furthest line read is kept, or, where the run is done, as the globals that stand at its end leave it
pub beyond-left : (table script : List ℕ) (budget work size : ℕ) → let ran = run_answer table script budget work size in
    IsAccepted ran → (n : ℕ) → answer_furthest ran < n
    → record_of_line n (answer_records ran) ≡ left_in (answer_number ran) (standing table script budget size) (source_line n (lines_of table))
beyond-left table script budget work size h n less =
    let ran : Answer = run_answer table script budget work size in
    let f : ℕ = answer_furthest ran in
    record-after f (n - suc f) n (answer_records ran) (omega (arith, less))
    ∙ ap (record_of_line (suc (n - suc f))) (demand3 table script budget work size h).after.rest
    ∙ rest-record (answer_number ran) (n - suc f) (standing table script budget size) (drop f (lines_of table))
    ∙ ap (left_in (answer_number ran) (standing table script budget size)) (line_after f (n - suc f) n (lines_of table) (omega (arith, less)))

left-kept : (n : ℕ) (c : Carried) (x : Option Line) → (n ≡ 0 → ⊥) → IsKept (left_in n c x)
unfolding left_in IsKept
left-kept n c none h = tt
left-kept zero c (some l) h = absurd (h refl)
left-kept (suc n) c (some l) h = tt

-- no source line beyond the furthest line read of a stopped run is marked other than kept
pub beyond-kept : (table script : List ℕ) (budget work size : ℕ) → let ran = run_answer table script budget work size in
    IsAccepted ran → (answer_number ran ≡ 0 → ⊥) → (n : ℕ) → answer_furthest ran < n → IsKept (record_of_line n (answer_records ran))
beyond-kept table script budget work size h stopped n less =
    rw (beyond-left table script budget work size h n less) (left-kept (answer_number (run_answer table script budget work size)) (standing table script budget size) (source_line n (lines_of table)) stopped)
