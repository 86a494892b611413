-- The records that are read from a journal's bytes are good, and written they are those bytes again.
use Rattle.std.specs.Prelude.{◌≡◌, refl, Bool, true, false, cond, not, ◌&&◌, List, [], ◌∷◌, ◌++◌, ℕ, ◌≤◌, length, eqb, leb}
use Rattle.std.proofs.Common.{ap, subst, ◌∙◌, append_assoc, leb-true, eqb-true}
use Rattle.std.proofs.Math.Option.{Option, none, some, some-injective}
use Rattle.std.proofs.lemmas.Bool.{not-true}
use Rattle.definitions.specs.Bytes.{Line, eq_line, lines_of, line_bytes, lines_bytes, last_byte, is_line}
use Rattle.definitions.specs.Journal.{Record, kept, changed, deleted, inserted, old_side, record_bytes, journal_bytes, Marked, kept_line, changed_line, deleted_line, inserted_line, unmarked, by_mark, marked, followed, records_in, few_old_lines, records_of}
use Rattle.theorems.specs.Each.{Each}
use Rattle.theorems.specs.Lines.{and_left, and_right}
use Rattle.theorems.specs.NestingLaws.{none-some}
use Rattle.theorems.specs.JournalBytes.{GoodRecord, lines-back}

-- what is given only if a test holds
pub only_if : {A : Type 0} (c : Bool) (o : Option A) (a : A) → cond c o none ≡ some a → (c ≡ true) × (o ≡ some a)
only_if true o a e = (refl, e)
only_if false o a e = absurd (none-some e)

-- ---- marks

-- the line `l` is one with this mark
abbrev MarkedAs : Marked → Line → Type 0
MarkedAs (kept_line k) l = l ≡ 61 ∷ 61 ∷ k
MarkedAs (changed_line k) l = l ≡ 60 ∷ 62 ∷ k
MarkedAs (deleted_line k) l = l ≡ 45 ∷ 45 ∷ k
MarkedAs (inserted_line k) l = l ≡ 43 ∷ 43 ∷ k
MarkedAs unmarked l = Unit {0}

-- `m` where the mark is x y, else `n`
by_two : (a b x y : ℕ) (l : Line) (m n : Marked) → MarkedAs m (x ∷ y ∷ l) → MarkedAs n (a ∷ b ∷ l) → MarkedAs (cond (eqb a x && eqb b y) m n) (a ∷ b ∷ l)
by_two a b x y l m n h k = go (eqb a x && eqb b y) refl
  where
    go : (c : Bool) → (eqb a x && eqb b y) ≡ c → MarkedAs (cond c m n) (a ∷ b ∷ l)
    go true e = rw (eqb-true a x (and_left (eqb a x) (eqb b y) e), eqb-true b y (and_right (eqb a x) (eqb b y) e)) h
    go false e = k

mark_of : (l : Line) → MarkedAs (marked l) l
unfolding marked by_mark
mark_of [] = tt
mark_of (a ∷ []) = tt
mark_of (a ∷ b ∷ l) =
    let came : Marked = cond (eqb a 43 && eqb b 43) (inserted_line l) unmarked in
    let gone : Marked = cond (eqb a 45 && eqb b 45) (deleted_line l) came in
    by_two a b 61 61 l (kept_line l) (cond (eqb a 60 && eqb b 62) (changed_line l) gone) refl
    (by_two a b 60 62 l (changed_line l) gone refl
    (by_two a b 45 45 l (deleted_line l) came refl
    (by_two a b 43 43 l (inserted_line l) unmarked refl tt)))

-- ---- records

-- good records whose bytes are `bs`
abbrev Records : List ℕ → List Record → Type 0
Records bs rs = Each GoodRecord rs × (journal_bytes rs ≡ bs)

-- one record before others
one_more : (c : Bool) (r : Record) (o : Option (List Record)) (bs : List ℕ) (rs : List Record) → followed c r o ≡ some rs → (c ≡ true → GoodRecord r)
    → ((ss : List Record) → o ≡ some ss → Records bs ss) → Records (record_bytes r ++ bs) rs
unfolding followed journal_bytes
one_more true r (some ss) bs rs e good rest =
    subst (Records (record_bytes r ++ bs)) (some-injective (r ∷ ss) rs e)
    ((good refl, (rest ss refl).0), ap (λ (z : List ℕ). record_bytes r ++ z) (rest ss refl).1)
one_more true r none bs rs e good rest = absurd (none-some e)
one_more false r o bs rs e good rest = absurd (none-some e)

-- the old line of a changed record that has gone by, as it is written
abbrev gone_by : Option Line → List ℕ
gone_by none = []
gone_by (some o) = 60 ∷ 62 ∷ line_bytes o

changed-good : (o n : Line) → (is_line o && (is_line n && not (eq_line o n))) ≡ true → GoodRecord (changed o n)
changed-good o n h =
    let k : (is_line n && not (eq_line o n)) ≡ true = and_right (is_line o) (is_line n && not (eq_line o n)) h in
    (and_left (is_line o) (is_line n && not (eq_line o n)) h, and_left (is_line n) (not (eq_line o n)) k, not-true (eq_line o n) (and_right (is_line n) (not (eq_line o n)) k))

read-bytes : (st : Option Line) (ls : List Line) (rs : List Record) → records_in st ls ≡ some rs → Records (gone_by st ++ lines_bytes ls) rs
unfolding records_in journal_bytes record_bytes lines_bytes line_bytes
read-bytes none [] rs e = subst (Records []) (some-injective [] rs e) (tt, refl)
read-bytes (some o) [] rs e = absurd (none-some e)
read-bytes (some o) (n ∷ ls) rs e =
    subst (λ bs. Records bs rs) (ap {B = List ℕ} (λ bs. 60 ∷ 62 ∷ bs) (append_assoc (line_bytes o) (line_bytes n) (lines_bytes ls)))
    (one_more (is_line o && (is_line n && not (eq_line o n))) (changed o n) (records_in none ls) (lines_bytes ls) rs e (changed-good o n) (read-bytes none ls))
read-bytes none (l ∷ ls) rs e = go (marked l) (mark_of l) e (λ st. read-bytes st ls)
  where
    go : (m : Marked) → MarkedAs m l
        → elim m [
          | kept_line k ↦ followed (is_line k) (kept k) (records_in none ls)
          | changed_line o ↦ records_in (some o) ls
          | deleted_line k ↦ followed (is_line k) (deleted k) (records_in none ls)
          | inserted_line k ↦ followed (is_line k) (inserted k) (records_in none ls)
          | unmarked ↦ none
        ] ≡ some rs
        → ((st : Option Line) (ss : List Record) → records_in st ls ≡ some ss → Records (gone_by st ++ lines_bytes ls) ss)
        → Records (line_bytes l ++ lines_bytes ls) rs
    go (kept_line k) q p f = rw q (one_more (is_line k) (kept k) (records_in none ls) (lines_bytes ls) rs p (λ c. c) (f none))
    go (changed_line k) q p f = rw q (f (some k) rs p)
    go (deleted_line k) q p f = rw q (one_more (is_line k) (deleted k) (records_in none ls) (lines_bytes ls) rs p (λ c. c) (f none))
    go (inserted_line k) q p f = rw q (one_more (is_line k) (inserted k) (records_in none ls) (lines_bytes ls) rs p (λ c. c) (f none))
    go unmarked q p f = absurd (none-some p)

pub few-lines : (o : Option (List Record)) (rs : List Record) → few_old_lines o ≡ some rs → (o ≡ some rs) × (length (old_side rs) ≤ 65535)
unfolding few_old_lines
few-lines none rs e = absurd (none-some e)
few-lines (some ss) rs e =
    let k = only_if (leb (length (old_side ss)) 65535) (some ss) rs e in
    (k.1, subst (λ ts. length (old_side ts) ≤ 65535) (some-injective ss rs k.1) (leb-true (length (old_side ss)) 65535 k.0))

-- the records of a journal
pub records-bytes : (j : List ℕ) (rs : List Record) → records_of j ≡ some rs → Each GoodRecord rs × (length (old_side rs) ≤ 65535) × (journal_bytes rs ≡ j)
unfolding records_of
records-bytes j rs e =
    let k = only_if (eqb (last_byte 10 j) 10) (few_old_lines (records_in none (lines_of j))) rs e in
    let f = few-lines (records_in none (lines_of j)) rs k.1 in
    let r = read-bytes none (lines_of j) rs f.0 in
    (r.0, f.1, r.1 ∙ lines-back j (eqb-true (last_byte 10 j) 10 k.0))
