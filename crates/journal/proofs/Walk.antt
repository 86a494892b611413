-- A journal's records by its bytes: what a mark and its lines at the front do to the records. Assumes nothing.
use Rattle.std.proofs.Common.{Option, Some, None}
use mathlib.Core.Path.{◌≡◌, refl, sym, ap, ◌∙◌}
use mathlib.Core.Bool.{Bool, true, false, cond, not, ◌&&◌}
use mathlib.Core.Option.{Option as Maybe, none, some}
use mathlib.Core.Logic.{⊎_elim}
use mathlib.Core.List.{List, [], ◌∷◌, ◌++◌}
use Prim.Native.Nat.{ℕ}
use native.Mathlib.Omega.{arith}
use lib.Dec.{eqb}
use borrow.Author.Tests.{eqb-true}
use Rattle.definitions.specs.Bytes.{Line, eq_line, lines_of, last_byte, is_line}
use Rattle.definitions.specs.Journal.{Record, kept, changed, deleted, inserted, Marked, kept_line, changed_line, deleted_line, inserted_line, unmarked, by_mark, marked, followed, records_in, few_old_lines, records_of}
use Rattle.text.specs.Lines.{up_to_lf, line_end}
use Rattle.text.proofs.Lines.{Plain, and-false, first-line, last-after, last-plain, cut_of, plain-tail}
use Rattle.text.proofs.Ends.{no_line}
use Rattle.journal.specs.Records.{mark_of, mark_in, records_from}
use Rattle.journal.specs.declared.records.Mark.{Mark}
use Rattle.journal.specs.declared.records.Mark.TheVariants.{Kept, Changed, Deleted, Inserted}

pub records-few : (j : List ℕ) → records_of j ≡ few_old_lines (records_from j)
unfolding records_of records_from few_old_lines
records-few j = go (eqb (last_byte 10 j) 10)
  where
    go : (t : Bool) → cond t (few_old_lines (records_in none (lines_of j))) none ≡ few_old_lines (cond t (records_in none (lines_of j)) none)
    go true = refl
    go false = refl

pub records-none : records_from [] ≡ some []
unfolding records_from last_byte lines_of records_in
records-none = refl

-- ---- marks

-- a line after its mark
unfoldable marked_as : Option Mark → Line → Marked
marked_as None l = unmarked
marked_as (Some Kept) l = kept_line l
marked_as (Some Changed) l = changed_line l
marked_as (Some Deleted) l = deleted_line l
marked_as (Some Inserted) l = inserted_line l

by-mark : (a b : ℕ) (l : Line) → marked (a ∷ b ∷ l) ≡ marked_as (mark_of a b) l
unfolding marked by_mark mark_of marked_as
by-mark a b l = go (eqb a 61 && eqb b 61) (eqb a 60 && eqb b 62) (eqb a 45 && eqb b 45) (eqb a 43 && eqb b 43)
  where
    go : (p q r s : Bool) → cond p (kept_line l) (cond q (changed_line l) (cond r (deleted_line l) (cond s (inserted_line l) unmarked)))
        ≡ marked_as (cond p (Some Kept) (cond q (Some Changed) (cond r (Some Deleted) (cond s (Some Inserted) None)))) l
    go true q r s = refl
    go false true r s = refl
    go false false true s = refl
    go false false false true = refl
    go false false false false = refl

no-mark-is : (m : Mark) → None ≡ Some m → ⊥
no-mark-is m h = let z : ◌≡◌ {A = ℕ} 0 1 = cc in omega arith

-- no byte of a mark is LF
mark-plain : (a b : ℕ) (m : Mark) → mark_of a b ≡ Some m → (eqb a 10 ≡ false) × (eqb b 10 ≡ false)
unfolding mark_of
mark-plain a b m h = (go (eqb a 10) refl, gob (eqb b 10) refl)
  where
    go : (t : Bool) → eqb a 10 ≡ t → eqb a 10 ≡ false
    go true e = absurd (no-mark-is m (sym (rw (eqb-true a 10 e)) ∙ h))
    go false e = e

    gob : (t : Bool) → eqb b 10 ≡ t → eqb b 10 ≡ false
    gob true e = absurd (no-mark-is m (sym (rw (eqb-true b 10 e) (simp and-false)) ∙ h))
    gob false e = e

marked-plain : (a b : ℕ) (m : Mark) (l : Line) → mark_of a b ≡ Some m → Plain l → Plain (a ∷ b ∷ l)
unfolding up_to_lf
marked-plain a b m l h p = rw ((mark-plain a b m h).0, (mark-plain a b m h).1, p)

-- ---- the first line of a journal

in_kept : (l k : Line) (ls : List Line) → marked l ≡ kept_line k → records_in none (l ∷ ls) ≡ followed (is_line k) (kept k) (records_in none ls)
unfolding records_in
in_kept l k ls e = rw (e, records_in)

in-changed : (l k : Line) (ls : List Line) → marked l ≡ changed_line k → records_in none (l ∷ ls) ≡ records_in (some k) ls
unfolding records_in
in-changed l k ls e = rw (e, records_in)

in-deleted : (l k : Line) (ls : List Line) → marked l ≡ deleted_line k → records_in none (l ∷ ls) ≡ followed (is_line k) (deleted k) (records_in none ls)
unfolding records_in
in-deleted l k ls e = rw (e, records_in)

in-inserted : (l k : Line) (ls : List Line) → marked l ≡ inserted_line k → records_in none (l ∷ ls) ≡ followed (is_line k) (inserted k) (records_in none ls)
unfolding records_in
in-inserted l k ls e = rw (e, records_in)

in-unmarked : (l : Line) (ls : List Line) → marked l ≡ unmarked → records_in none (l ∷ ls) ≡ none
unfolding records_in
in-unmarked l ls e = rw (e, records_in)

followed-none : (good : Bool) (r : Record) → followed good r none ≡ none
unfolding followed
followed-none true r = refl
followed-none false r = refl

followed-bad : (r : Record) (o : Maybe (List Record)) → followed false r o ≡ none
unfolding followed
followed-bad r o = refl

-- the test of the last byte may come after
followed-if : (t good : Bool) (r : Record) (o : Maybe (List Record)) → cond t (followed good r o) none ≡ followed good r (cond t o none)
followed-if true good r o = refl
followed-if false good r o = sym (followed-none good r)

-- bytes without LF are no records
open_none : (b : ℕ) (bs : List ℕ) → Plain (b ∷ bs) → records_from (b ∷ bs) ≡ none
unfolding records_from last_byte
open_none b bs p = rw (last-plain b bs (plain-tail b bs p).0 (plain-tail b bs p).1)

-- a first line and what its records are
from_first : (l rest : List ℕ) → Plain l → records_from (l ++ (10 ∷ rest)) ≡ cond (eqb (last_byte 10 rest) 10) (records_in none (l ∷ lines_of rest)) none
unfolding records_from
from_first l rest p = rw (last-after 10 l rest, first-line l rest p)

module _ (a b : ℕ) (k rest : List ℕ) (p : Plain k) where
  pub from-kept : mark_of a b ≡ Some Kept → records_from (a ∷ b ∷ (k ++ (10 ∷ rest))) ≡ followed (is_line k) (kept k) (records_from rest)
  unfolding records_from marked_as
  from-kept h =
      from_first (a ∷ b ∷ k) rest (marked-plain a b Kept k h p)
      ∙ rw (in_kept (a ∷ b ∷ k) k (lines_of rest) (by-mark a b k ∙ rw h)) (followed-if (eqb (last_byte 10 rest) 10) (is_line k) (kept k) (records_in none (lines_of rest)))

  pub from-deleted : mark_of a b ≡ Some Deleted → records_from (a ∷ b ∷ (k ++ (10 ∷ rest))) ≡ followed (is_line k) (deleted k) (records_from rest)
  unfolding records_from marked_as
  from-deleted h =
      from_first (a ∷ b ∷ k) rest (marked-plain a b Deleted k h p)
      ∙ rw (in-deleted (a ∷ b ∷ k) k (lines_of rest) (by-mark a b k ∙ rw h)) (followed-if (eqb (last_byte 10 rest) 10) (is_line k) (deleted k) (records_in none (lines_of rest)))

  pub from-inserted : mark_of a b ≡ Some Inserted → records_from (a ∷ b ∷ (k ++ (10 ∷ rest))) ≡ followed (is_line k) (inserted k) (records_from rest)
  unfolding records_from marked_as
  from-inserted h =
      from_first (a ∷ b ∷ k) rest (marked-plain a b Inserted k h p)
      ∙ rw (in-inserted (a ∷ b ∷ k) k (lines_of rest) (by-mark a b k ∙ rw h)) (followed-if (eqb (last_byte 10 rest) 10) (is_line k) (inserted k) (records_in none (lines_of rest)))

  from_old : mark_of a b ≡ Some Changed → records_from (a ∷ b ∷ (k ++ (10 ∷ rest))) ≡ cond (eqb (last_byte 10 rest) 10) (records_in (some k) (lines_of rest)) none
  unfolding marked_as
  from_old h =
      from_first (a ∷ b ∷ k) rest (marked-plain a b Changed k h p)
      ∙ rw (in-changed (a ∷ b ∷ k) k (lines_of rest) (by-mark a b k ∙ rw h))

-- the new line of a changed record
new_line : (k n more : List ℕ) → Plain n
    → cond (eqb (last_byte 10 (n ++ (10 ∷ more))) 10) (records_in (some k) (lines_of (n ++ (10 ∷ more)))) none
    ≡ followed (is_line k && (is_line n && not (eq_line k n))) (changed k n) (records_from more)
unfolding records_from records_in
new_line k n more p =
    rw (last-after 10 n more, first-line n more p)
    (followed-if (eqb (last_byte 10 more) 10) (is_line k && (is_line n && not (eq_line k n))) (changed k n) (records_in none (lines_of more)))

pub from-changed : (a b : ℕ) (k n more : List ℕ) → Plain k → Plain n → mark_of a b ≡ Some Changed
    → records_from (a ∷ b ∷ (k ++ (10 ∷ (n ++ (10 ∷ more))))) ≡ followed (is_line k && (is_line n && not (eq_line k n))) (changed k n) (records_from more)
from-changed a b k n more p q h = from_old a b k (n ++ (10 ∷ more)) p h ∙ new_line k n more q

-- ---- bytes that begin with no record

if_none : (t : Bool) (o : Maybe (List Record)) → o ≡ none → cond t o none ≡ none
if_none true o h = h
if_none false o h = refl

-- a line that begins with no mark
line-unmarked : (l rest : List ℕ) → mark_in (l ++ (10 ∷ rest)) ≡ None → marked l ≡ unmarked
unfolding marked mark_in marked_as
line-unmarked [] rest h = refl
line-unmarked (a ∷ []) rest h = refl
line-unmarked (a ∷ b ∷ l) rest h = by-mark a b l ∙ rw h

pub from-unmarked : (c : ℕ) (bs : List ℕ) → mark_in (c ∷ bs) ≡ None → records_from (c ∷ bs) ≡ none
from-unmarked c bs h =
    ⊎_elim (λ p. open_none c bs p)
    (λ w. ap records_from w.2 ∙ from_first w.0 w.1 w.3
    ∙ if_none (eqb (last_byte 10 w.1) 10) _ (in-unmarked w.0 (lines_of w.1) (line-unmarked w.0 w.1 (rw w.2 at h))))
    (cut_of (c ∷ bs))

-- a mark, and a line that is none
bad-old : (k : Line) (ls : List Line) → is_line k ≡ false → records_in (some k) ls ≡ none
unfolding records_in
bad-old k [] h = refl
bad-old k (n ∷ ls) h = rw h (followed-bad (changed k n) (records_in none ls))

bad-first : (a b : ℕ) (m : Mark) (k rest : List ℕ) → mark_of a b ≡ Some m → Plain k → is_line k ≡ false → records_from (a ∷ b ∷ (k ++ (10 ∷ rest))) ≡ none
bad-first a b Kept k rest h p f = from-kept a b k rest p h ∙ rw f (followed-bad (kept k) (records_from rest))
bad-first a b Changed k rest h p f = from_old a b k rest p h ∙ if_none (eqb (last_byte 10 rest) 10) _ (bad-old k (lines_of rest) f)
bad-first a b Deleted k rest h p f = from-deleted a b k rest p h ∙ rw f (followed-bad (deleted k) (records_from rest))
bad-first a b Inserted k rest h p f = from-inserted a b k rest p h ∙ rw f (followed-bad (inserted k) (records_from rest))

pub from-bad : (a b : ℕ) (m : Mark) (bs : List ℕ) (at : ℕ) → mark_of a b ≡ Some m → line_end at bs ≡ None → records_from (a ∷ b ∷ bs) ≡ none
from-bad a b m bs at h e =
    ⊎_elim (λ p. open_none a (b ∷ bs) (marked-plain a b m bs h p))
    (λ w. ap (λ (r : List ℕ). records_from (a ∷ b ∷ r)) w.2 ∙ bad-first a b m w.0 w.1 h w.3 w.4)
    (no_line at bs e)

-- a changed record's second line that is none
open-new : (k rest : List ℕ) → Plain rest → cond (eqb (last_byte 10 rest) 10) (records_in (some k) (lines_of rest)) none ≡ none
unfolding last_byte lines_of records_in
open-new k [] p = refl
open-new k (c ∷ cs) p = rw (last-plain c cs (plain-tail c cs p).0 (plain-tail c cs p).1)

bad-new : (k rest : List ℕ) (at : ℕ) → line_end at rest ≡ None → cond (eqb (last_byte 10 rest) 10) (records_in (some k) (lines_of rest)) none ≡ none
bad-new k rest at e = ⊎_elim (λ p. open-new k rest p) (λ w. rw w.2 (new_line k w.0 w.1 w.3 ∙ rw (w.4, and-false (is_line k)) (followed-bad (changed k w.0) (records_from w.1)))) (no_line at rest e)

pub from-bad-new : (a b : ℕ) (k rest : List ℕ) (at : ℕ) → mark_of a b ≡ Some Changed → Plain k → line_end at rest ≡ None → records_from (a ∷ b ∷ (k ++ (10 ∷ rest))) ≡ none
from-bad-new a b k rest at h p e = from_old a b k rest p h ∙ bad-new k rest at e
