-- The laws of records as they stand in the buffer. Assumes nothing.
use mathlib.Core.Path.{◌≡◌, refl, sym, ap, ◌∙◌}
use mathlib.Core.Bool.{Bool, true, false, ◌&&◌}
use Prim.Native.Nat.{ℕ, suc, ◌+◌, ◌-◌, ◌≤◌, ◌<◌}
use native.Mathlib.Omega.{arith}
use native.Mathlib.Nat.{not-suc-le-zero}
use native.Mathlib.Numerals.{add-one, sub-one}
use Rattle.text.proofs.LineFeeds.{start-hit}
use mathlib.Core.List.{List, [], ◌∷◌, ◌++◌, map, reverse_aux, append_assoc, append-nil}
use lib.ListN.{length, length-append}
use lib.Seq.{get_or_at}
use lib.Dec.{leb}
use borrow.Author.Tests.{leb-true, eq-eqb, ne_eqb}
use Rattle.definitions.specs.Bytes.{Line, line_bytes, lines_bytes, is_text, all_text, is_line}
use Rattle.definitions.specs.Journal.{Record, kept, changed, deleted, inserted, old_of, old_side, record_length, journal_length}
use Rattle.definitions.specs.Editor.{sources}
use Rattle.theorems.specs.RecordLaws.{old-kept}
use Rattle.text.specs.Feeds.{place_of, line_length, line_start}
use Rattle.text.proofs.Ends.{text-is}
use Rattle.editor.specs.Records.{body, enc, enc_all, enc_before, mark, Good, Goods, old_bytes}
use Rattle.editor.proofs.Lines.{NoLF, no_lf-append, line_of, back-over}

-- ---- good lines have no line feed and no 0

pub both : (a b : Bool) → a && b ≡ true → (a ≡ true) × (b ≡ true)
both true true h = (refl, refl)
both true false h = absurd (let z : ◌≡◌ {A = ℕ} 0 1 = cc in omega arith)
both false b h = absurd (let z : ◌≡◌ {A = ℕ} 0 1 = cc in omega arith)

-- every byte is of text
unfoldable pub Text : List ℕ → Type 0
Text [] = Unit {0}
Text (b ∷ l) = (32 ≤ b) × (b ≤ 126) × Text l

texts : (l : List ℕ) → all_text l ≡ true → Text l
unfolding all_text Text
texts [] h = tt
texts (b ∷ l) h =
    let t : (is_text b ≡ true) × (all_text l ≡ true) = both (is_text b) (all_text l) h in
    let u : (32 ≤ b) × (b ≤ 126) = text-is b t.0 in
    (u.0, u.1, texts l t.1)

pub line-text : (l : Line) → is_line l ≡ true → Text l
unfolding is_line
line-text l h = texts l (both (all_text l) (leb (length l) 255) h).0

pub line-short : (l : Line) → is_line l ≡ true → length l ≤ 255
unfolding is_line
line-short l h = leb-true (length l) 255 (both (all_text l) (leb (length l) 255) h).1

text-no : (l : List ℕ) → Text l → NoLF l
unfolding NoLF Text
text-no [] t = tt
text-no (b ∷ l) t = ((λ e. omega (arith, t.0)), text-no l t.2)

line-no : (l : Line) → is_line l ≡ true → NoLF l
line-no l h = text-no l (line-text l h)

pub body-no : (r : Record) → Good r → NoLF (body r)
unfolding NoLF
body-no (kept l) g = ((λ e. omega arith), ((λ e. omega arith), line-no l g))
body-no (changed o n) g = ((λ e. omega arith), ((λ e. omega arith), no_lf-append o (0 ∷ n) (line-no o g.0) ((λ e. omega arith), line-no n g.1)))
body-no (deleted l) g = ((λ e. omega arith), ((λ e. omega arith), line-no l g))
body-no (inserted l) g = ((λ e. omega arith), ((λ e. omega arith), line-no l g))

pub record-line : (r : Record) (z : List ℕ) → Good r → line_length (enc r ++ z) ≡ length (enc r)
record-line r z g = rw (append_assoc (body r) (10 ∷ []) z, line_of (body r) z (body-no r g), length-append) (omega arith)

-- the place of a byte below those of text, after text
pub text-place : (c : ℕ) → c < 32 → (l z : List ℕ) → Text l → place_of c (l ++ (c ∷ z)) ≡ length l
unfolding Text place_of
text-place c low [] z t = rw (eq-eqb c c refl)
text-place c low (x ∷ l) z t = rw (ne_eqb x c (λ e. omega (arith, t.0)), text-place c low l z t.2)

-- ---- marks

-- what follows the first byte
abbrev pub unmarked : Record → List ℕ
unmarked (kept l) = 61 ∷ (l ++ (10 ∷ []))
unmarked (changed o n) = 62 ∷ ((o ++ (0 ∷ n)) ++ (10 ∷ []))
unmarked (deleted l) = 45 ∷ (l ++ (10 ∷ []))
unmarked (inserted l) = 43 ∷ (l ++ (10 ∷ []))

pub marked : (r : Record) → enc r ≡ mark r ∷ unmarked r
marked (kept l) = refl
marked (changed o n) = refl
marked (deleted l) = refl
marked (inserted l) = refl

pub some_bytes : (r : Record) → 0 < length (enc r)
some_bytes r = rw (marked r) (omega arith)

-- how many source lines a record has
abbrev pub sourced : Record → ℕ
sourced (kept l) = 1
sourced (changed o n) = 1
sourced (deleted l) = 1
sourced (inserted l) = 0

pub new_line : (r : Record) → mark r ≡ 43 → sourced r ≡ 0
new_line (kept l) e = omega arith
new_line (changed o n) e = omega arith
new_line (deleted l) e = omega arith
new_line (inserted l) e = refl

pub old-line : (r : Record) → (mark r ≡ 43 → ⊥) → sourced r ≡ 1
old-line (kept l) e = refl
old-line (changed o n) e = refl
old-line (deleted l) e = refl
old-line (inserted l) e = absurd (e refl)

pub sources-cons : (r : Record) (rs : List Record) → sources (r ∷ rs) ≡ sourced r + sources rs
unfolding sources old_side old_of
sources-cons (kept l) rs = omega arith
sources-cons (changed o n) rs = omega arith
sources-cons (deleted l) rs = omega arith
sources-cons (inserted l) rs = omega arith

pub sources-nil : sources [] ≡ 0
unfolding sources old_side
sources-nil = refl

-- a number that is the sum of what the records have
module _ (total : List Record → ℕ) (one : Record → ℕ) (none : total [] ≡ 0) (first : (r : Record) (rs : List Record) → total (r ∷ rs) ≡ one r + total rs) where
  pub sum-reverse : (a b : List Record) → total (reverse_aux a b) ≡ total a + total b
  sum-reverse [] b = omega arith
  sum-reverse (r ∷ a) b = omega (arith, sum-reverse a (r ∷ b), first r b, first r a)

-- ---- the bytes of source lines

-- how many a record has in the table
abbrev pub old_size : Record → ℕ
old_size (kept l) = suc (length l)
old_size (changed o n) = suc (length o)
old_size (deleted l) = suc (length l)
old_size (inserted l) = 0

pub old-bytes-cons : (r : Record) (rs : List Record) → old_bytes (r ∷ rs) ≡ old_size r + old_bytes rs
unfolding old_bytes old_side old_of lines_bytes line_bytes
old-bytes-cons (kept l) rs = simp length-append (omega arith)
old-bytes-cons (changed o n) rs = simp length-append (omega arith)
old-bytes-cons (deleted l) rs = simp length-append (omega arith)
old-bytes-cons (inserted l) rs = omega arith

pub old-bytes-nil : old_bytes [] ≡ 0
unfolding old_bytes old_side lines_bytes
old-bytes-nil = refl

pub old-bytes-one : (r : Record) → old_bytes (r ∷ []) ≡ old_size r
old-bytes-one r = omega (arith, old-bytes-cons r [], old-bytes-nil)

pub old-bytes-reverse : (a b : List Record) → old_bytes (reverse_aux a b) ≡ old_bytes a + old_bytes b
old-bytes-reverse = sum-reverse old_bytes old_size old-bytes-nil old-bytes-cons

pub old-bytes-kept : (ls : List Line) → old_bytes (map kept ls) ≡ length (lines_bytes ls)
unfolding old_bytes
old-bytes-kept ls = ap (λ (z : List Line). length (lines_bytes z)) (old-kept ls)

-- a record has a source line where it has bytes of the table
pub has-source : (r : Record) → 0 < old_size r → sourced r ≡ 1
has-source (kept l) h = refl
has-source (changed o n) h = refl
has-source (deleted l) h = refl
has-source (inserted l) h = absurd (omega arith)

pub no_source : (r : Record) → old_size r ≤ 0 → sourced r ≡ 0
no_source (kept l) h = absurd (omega arith)
no_source (changed o n) h = absurd (omega arith)
no_source (deleted l) h = absurd (omega arith)
no_source (inserted l) h = refl

-- ---- lengths

pub enc-length : (r : Record) → length (enc r) ≡ record_length r
unfolding record_length
enc-length (kept l) = simp length-append (omega arith)
enc-length (changed o n) = simp length-append (omega arith)
enc-length (deleted l) = simp length-append (omega arith)
enc-length (inserted l) = simp length-append (omega arith)

pub three-bytes : (r : Record) → 3 ≤ length (enc r)
unfolding record_length
three-bytes (kept l) = omega (arith, enc-length (kept l))
three-bytes (changed o n) = omega (arith, enc-length (changed o n))
three-bytes (deleted l) = omega (arith, enc-length (deleted l))
three-bytes (inserted l) = omega (arith, enc-length (inserted l))

pub all-length : (rs : List Record) → length (enc_all rs) ≡ journal_length rs
unfolding enc_all journal_length
all-length [] = refl
all-length (r ∷ rs) = omega (arith, length-append (enc r) (enc_all rs), enc-length r, all-length rs)

pub first_of : (rs : List Record) → 0 < length (enc_all rs) → (r : Record) × (a : List Record) × (rs ≡ r ∷ a)
unfolding enc_all
first_of [] h = absurd (not-suc-le-zero h)
first_of (r ∷ a) h = (r, a, refl)

pub none_of : (rs : List Record) → length (enc_all rs) ≡ 0 → rs ≡ []
unfolding enc_all
none_of [] h = refl
none_of (r ∷ a) h = absurd (omega (arith, length-append (enc r) (enc_all a), some_bytes r))

pub nearest-of : (rs : List Record) → 0 < length (enc_before rs) → (r : Record) × (b : List Record) × (rs ≡ r ∷ b)
unfolding enc_before
nearest-of [] h = absurd (not-suc-le-zero h)
nearest-of (r ∷ b) h = (r, b, refl)

pub no-nearest : (rs : List Record) → length (enc_before rs) ≡ 0 → rs ≡ []
unfolding enc_before
no-nearest [] h = refl
no-nearest (r ∷ b) h = absurd (omega (arith, length-append (enc_before b) (enc r), some_bytes r))

-- the two ways of writing records in a row
pub before-all : (b a : List Record) → enc_before b ++ enc_all a ≡ enc_all (reverse_aux b a)
unfolding enc_before enc_all
before-all [] a = refl
before-all (r ∷ b) a = append_assoc (enc_before b) (enc r) (enc_all a) ∙ before-all b (r ∷ a)

pub all-before : (a b : List Record) → enc_before (reverse_aux a b) ≡ enc_before b ++ enc_all a
unfolding enc_before enc_all
all-before [] b = sym (append-nil (enc_before b))
all-before (r ∷ a) b = all-before a (r ∷ b) ∙ append_assoc (enc_before b) (enc r) (enc_all a)

pub goods-reverse : (a b : List Record) → Goods a → Goods b → Goods (reverse_aux a b)
goods-reverse [] b g h = h
goods-reverse (r ∷ a) b g h = goods-reverse a (r ∷ b) g.1 (g.0, h)

-- ---- the start of the nearest record

-- records end in a line feed, so a line starts after them
starts : (b : List Record) (z : List ℕ) → line_start (enc_before b ++ z) (length (enc_before b)) ≡ length (enc_before b)
unfolding line_start enc_before
starts [] z = refl
starts (r ∷ b) z =
    let q : List ℕ = enc_before b ++ body r in
    let is : enc_before b ++ enc r ≡ q ++ (10 ∷ []) = sym (append_assoc (enc_before b) (body r) (10 ∷ [])) in
    let long : length (q ++ (10 ∷ [])) ≡ suc (length q) = length-append q (10 ∷ []) ∙ add-one (length q) in
    rw (is, long) (start-hit ((q ++ (10 ∷ [])) ++ z) (suc (length q)) (omega arith) (rw (sub-one, append_assoc q (10 ∷ []) z) (get_or_at q 10 z 0 (length q) refl)))

pub start_of : (r : Record) (b : List Record) (z : List ℕ) → Good r → line_start (enc_before (r ∷ b) ++ z) (length (enc_before (r ∷ b)) - 1) ≡ length (enc_before b)
unfolding enc_before
start_of r b z g =
    let B : List ℕ = enc_before b in
    let is : (B ++ enc r) ++ z ≡ B ++ (body r ++ (10 ∷ z)) = simp append_assoc in
    let long : length (B ++ enc r) - 1 ≡ length B + length (body r) = simp length-append (omega arith) in
    rw (is, long, back-over B (body r) (10 ∷ z) (body-no r g) (length (body r)) (omega arith)) (starts b (body r ++ (10 ∷ z)))

-- ---- two lists of records

pub enc-append : (m a : List Record) → enc_all (m ++ a) ≡ enc_all m ++ enc_all a
unfolding enc_all
enc-append [] a = refl
enc-append (r ∷ m) a = ap (λ (z : List ℕ). enc r ++ z) (enc-append m a) ∙ sym (append_assoc (enc r) (enc_all m) (enc_all a))

pub goods-append : (m a : List Record) → Goods m → Goods a → Goods (m ++ a)
goods-append [] a g h = h
goods-append (r ∷ m) a g h = (g.0, goods-append m a g.1 h)
