-- A journal's bytes: their number, and that they give the records back. The same of a table's lines.
use Rattle.std.specs.Prelude.{◌≡◌, Bool, true, ℕ, suc, ◌+◌, ◌≤◌, length, eqb, leb}
use Rattle.std.proofs.Math.Path.{refl, ap}
use Rattle.std.proofs.Common.{◌∙◌, arith, length-append, leb-true, le-leb, eqb-true, eq-eqb}
use Rattle.std.proofs.Math.Bool.{false, and-eq-true_iff}
use Rattle.std.proofs.Math.Option.{none, some}
use mathlib.Core.List.{List, [], ◌∷◌, ◌++◌, append_assoc}
use Rattle.definitions.specs.Bytes.{Line, is_text, eq_line, before, lines_of, line_bytes, lines_bytes, last_byte, all_text, is_line, all_lines, are_lines}
use Rattle.definitions.specs.Table.{is_table}
use Rattle.definitions.specs.Journal.{Record, kept, changed, deleted, inserted, old_side, record_bytes, journal_bytes, record_length, journal_length, by_mark, marked, followed, records_in, few_old_lines, records_of}
use Rattle.theorems.specs.Each.{Each}
use Rattle.theorems.specs.Lines.{text-not-lf, lines-lf, lines_other}

abbrev pub IsLine : Line → Type 0
IsLine l = is_line l ≡ true

-- its lines are lines, and a changed record's two lines differ
abbrev pub GoodRecord : Record → Type 0
GoodRecord (kept l) = IsLine l
GoodRecord (changed o n) = IsLine o × IsLine n × (eq_line o n ≡ false)
GoodRecord (deleted l) = IsLine l
GoodRecord (inserted l) = IsLine l

-- ---- the number of bytes

pub record-length : (r : Record) → length (record_bytes r) ≡ record_length r
unfolding record_bytes record_length line_bytes
record-length (kept l) = ap (λ n. suc (suc n)) (length-append l (10 ∷ [])) ∙ omega arith
record-length (changed o n) =
    ap (λ k. suc (suc k)) (length-append (o ++ (10 ∷ [])) (n ++ (10 ∷ []))) ∙ omega (arith, length-append o (10 ∷ []), length-append n (10 ∷ []))
record-length (deleted l) = ap (λ n. suc (suc n)) (length-append l (10 ∷ [])) ∙ omega arith
record-length (inserted l) = ap (λ n. suc (suc n)) (length-append l (10 ∷ [])) ∙ omega arith

pub journal-length : (rs : List Record) → length (journal_bytes rs) ≡ journal_length rs
unfolding journal_bytes journal_length
journal-length [] = refl
journal-length (r ∷ rs) = length-append (record_bytes r) (journal_bytes rs) ∙ omega (arith, record-length r, journal-length rs)

pub length_both : (rs ss : List Record) → journal_length (rs ++ ss) ≡ journal_length rs + journal_length ss
unfolding journal_length
length_both [] ss = omega arith
length_both (r ∷ rs) ss = omega (arith, length_both rs ss)

-- ---- lines

-- the two parts of a line's test
pub line-text : (l : Line) → IsLine l → all_text l ≡ true
unfolding is_line
line-text l h = ((and-eq-true_iff (all_text l) (leb (length l) 255)).0 h).0

pub line-short : (l : Line) → IsLine l → length l ≤ 255
unfolding is_line
line-short l h = leb-true (length l) 255 ((and-eq-true_iff (all_text l) (leb (length l) 255)).0 h).1

pub line_of : (l : Line) → all_text l ≡ true → length l ≤ 255 → IsLine l
unfolding is_line
line_of l h k = (and-eq-true_iff (all_text l) (leb (length l) 255)).1 (h, le-leb (length l) 255 k)

-- a line that is written first is the first line
pub first-line : (l : Line) (bs : List ℕ) → all_text l ≡ true → lines_of (line_bytes l ++ bs) ≡ l ∷ lines_of bs
unfolding line_bytes all_text before
first-line [] bs h = lines-lf 10 bs refl
first-line (b ∷ l) bs h =
    let k = (and-eq-true_iff (is_text b) (all_text l)).0 h in
    lines_other b (l ++ (10 ∷ []) ++ bs) (text-not-lf b k.0) ∙ ap (before b) (first-line l bs k.1)

-- ---- the last byte

last-append : (d : ℕ) (xs ys : List ℕ) → last_byte d (xs ++ ys) ≡ last_byte (last_byte d xs) ys
unfolding last_byte
last-append d [] ys = refl
last-append d (x ∷ xs) ys = last-append x xs ys

last_line : (d : ℕ) (l : Line) → last_byte d (line_bytes l) ≡ 10
unfolding last_byte line_bytes
last_line d l = last-append d l (10 ∷ [])

last-record : (d : ℕ) (r : Record) → last_byte d (record_bytes r) ≡ 10
unfolding record_bytes last_byte
last-record d (kept l) = last_line 61 l
last-record d (changed o n) = last-append 62 (line_bytes o) (line_bytes n) ∙ last_line (last_byte 62 (line_bytes o)) n
last-record d (deleted l) = last_line 45 l
last-record d (inserted l) = last_line 43 l

-- no byte follows a journal's last LF
pub last-journal : (rs : List Record) → last_byte 10 (journal_bytes rs) ≡ 10
unfolding journal_bytes last_byte
last-journal [] = refl
last-journal (r ∷ rs) = last-append 10 (record_bytes r) (journal_bytes rs) ∙ ap (λ d. last_byte d (journal_bytes rs)) (last-record 10 r) ∙ last-journal rs

-- ---- a journal read back

-- the lines of a journal, with their marks
record_lines : List Record → List Line
record_lines [] = []
record_lines (kept l ∷ rs) = (61 ∷ 61 ∷ l) ∷ record_lines rs
record_lines (changed o n ∷ rs) = (60 ∷ 62 ∷ o) ∷ n ∷ record_lines rs
record_lines (deleted l ∷ rs) = (45 ∷ 45 ∷ l) ∷ record_lines rs
record_lines (inserted l ∷ rs) = (43 ∷ 43 ∷ l) ∷ record_lines rs

-- a mark is two text bytes
journal-lines : (rs : List Record) → Each GoodRecord rs → lines_of (journal_bytes rs) ≡ record_lines rs
unfolding journal_bytes record_bytes record_lines lines_of before line_bytes all_text is_text
journal-lines [] h = refl
journal-lines (kept l ∷ rs) h =
    first-line (61 ∷ 61 ∷ l) (journal_bytes rs) (line-text l h.0) ∙ ap {B = List Line} (λ ls. (61 ∷ 61 ∷ l) ∷ ls) (journal-lines rs h.1)
journal-lines (changed o n ∷ rs) h =
    ap lines_of (append_assoc (line_bytes (60 ∷ 62 ∷ o)) (line_bytes n) (journal_bytes rs))
    ∙ first-line (60 ∷ 62 ∷ o) (line_bytes n ++ journal_bytes rs) (line-text o h.0.0)
    ∙ ap {B = List Line} (λ ls. (60 ∷ 62 ∷ o) ∷ ls) (first-line n (journal_bytes rs) (line-text n h.0.1))
    ∙ ap {B = List Line} (λ ls. (60 ∷ 62 ∷ o) ∷ n ∷ ls) (journal-lines rs h.1)
journal-lines (deleted l ∷ rs) h =
    first-line (45 ∷ 45 ∷ l) (journal_bytes rs) (line-text l h.0) ∙ ap {B = List Line} (λ ls. (45 ∷ 45 ∷ l) ∷ ls) (journal-lines rs h.1)
journal-lines (inserted l ∷ rs) h =
    first-line (43 ∷ 43 ∷ l) (journal_bytes rs) (line-text l h.0) ∙ ap {B = List Line} (λ ls. (43 ∷ 43 ∷ l) ∷ ls) (journal-lines rs h.1)

records-back : (rs : List Record) → Each GoodRecord rs → records_in none (record_lines rs) ≡ some rs
unfolding record_lines records_in marked by_mark followed
records-back [] h = refl
records-back (kept l ∷ rs) h = rw (h.0, records-back rs h.1)
records-back (changed o n ∷ rs) h = rw (h.0.0, h.0.1, h.0.2, records-back rs h.1)
records-back (deleted l ∷ rs) h = rw (h.0, records-back rs h.1)
records-back (inserted l ∷ rs) h = rw (h.0, records-back rs h.1)

-- a journal of good records with at most 65,535 old lines, read back from its bytes
pub reads_back : (rs : List Record) → Each GoodRecord rs → length (old_side rs) ≤ 65535 → records_of (journal_bytes rs) ≡ some rs
unfolding records_of few_old_lines
reads_back rs h k =
    rw (eq-eqb (last_byte 10 (journal_bytes rs)) 10 (last-journal rs), journal-lines rs h, records-back rs h, le-leb (length (old_side rs)) 65535 k)

-- ---- a table read back

-- bytes that are not empty have a first line
lines_cons : (b : ℕ) (bs : List ℕ) → (l : Line) × (ls : List Line) × (lines_of (b ∷ bs) ≡ l ∷ ls)
unfolding before
lines_cons b bs = by (eqb b 10) refl (lines_of bs) refl
  where
    by : (c : Bool) → eqb b 10 ≡ c → (ls : List Line) → lines_of bs ≡ ls → (l : Line) × (ms : List Line) × (lines_of (b ∷ bs) ≡ l ∷ ms)
    by true e ls f = ([], lines_of bs, lines-lf b bs e)
    by false e [] f = (b ∷ [], [], lines_other b bs e ∙ ap (before b) f)
    by false e (l ∷ ls) f = (b ∷ l, ls, lines_other b bs e ∙ ap (before b) f)

-- a byte before lines, as they are written
before-bytes : (b : ℕ) (ls ms : List Line) (l : Line) → ls ≡ l ∷ ms → lines_bytes (before b ls) ≡ b ∷ lines_bytes ls
unfolding before lines_bytes line_bytes
before-bytes b ls ms l e = rw e

-- bytes after whose last LF nothing stands are their lines as they are written
pub lines-back : (bs : List ℕ) → last_byte 10 bs ≡ 10 → lines_bytes (lines_of bs) ≡ bs
unfolding last_byte
lines-back [] h = unfold lines_of lines_bytes in refl
lines-back (b ∷ []) h = rw h (unfold lines_of lines_bytes line_bytes in refl)
lines-back (b ∷ c ∷ bs) h = by (eqb b 10) refl (lines-back (c ∷ bs) h) (lines_cons c bs)
  where
    by : (t : Bool) → eqb b 10 ≡ t → lines_bytes (lines_of (c ∷ bs)) ≡ c ∷ bs → (l : Line) × (ls : List Line) × (lines_of (c ∷ bs) ≡ l ∷ ls)
        → lines_bytes (lines_of (b ∷ c ∷ bs)) ≡ b ∷ c ∷ bs
    by true e k m = ap lines_bytes (lines-lf b (c ∷ bs) e) ∙ unfold lines_bytes line_bytes in (rw (eqb-true b 10 e, k))
    by false e k m = ap lines_bytes (lines_other b (c ∷ bs) e) ∙ before-bytes b (lines_of (c ∷ bs)) m.1 m.0 m.2 ∙ ap {B = List ℕ} (λ r. b ∷ r) k

pub bytes-read-back : (bs : List ℕ) → are_lines bs ≡ true → lines_bytes (lines_of bs) ≡ bs
unfolding are_lines
bytes-read-back bs h = lines-back bs (eqb-true (last_byte 10 bs) 10 ((and-eq-true_iff (eqb (last_byte 10 bs) 10) (all_lines (lines_of bs))).0 h).0)

pub table-reads-back : (t : List ℕ) → is_table t ≡ true → lines_bytes (lines_of t) ≡ t
unfolding is_table
table-reads-back t h = bytes-read-back t ((and-eq-true_iff (are_lines t) (leb (length (lines_of t)) 65535)).0 h).0

-- a table's lines are lines, at most 65,535
pub all_lines_lem : (ls : List Line) → all_lines ls ≡ true → Each IsLine ls
unfolding all_lines
all_lines_lem [] h = tt
all_lines_lem (l ∷ ls) h =
    let k = (and-eq-true_iff (is_line l) (all_lines ls)).0 h in
    (k.0, all_lines_lem ls k.1)

pub table-lines : (t : List ℕ) → is_table t ≡ true → all_lines (lines_of t) ≡ true
unfolding is_table are_lines
table-lines t h =
    let k = ((and-eq-true_iff (are_lines t) (leb (length (lines_of t)) 65535)).0 h).0 in
    ((and-eq-true_iff (eqb (last_byte 10 t) 10) (all_lines (lines_of t))).0 k).1

pub table-short : (t : List ℕ) → is_table t ≡ true → length (lines_of t) ≤ 65535
unfolding is_table
table-short t h = leb-true (length (lines_of t)) 65535 ((and-eq-true_iff (are_lines t) (leb (length (lines_of t)) 65535)).0 h).1
