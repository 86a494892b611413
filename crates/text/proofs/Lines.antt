-- Lines of byte lists: what a first line and its LF do to the lines, the last byte and the forms. `Plain l`: no LF stands in `l`. Assumes nothing.
use Rattle.std.proofs.Common.{◌≡◌, ℕ, ◌+◌, Bool, true, false, ◌&&◌, eqb, leb, ◌⊎◌, List, [], ◌∷◌, ◌++◌, length, sym, refl, ap, ◌∙◌, inl, inr, Option, Some, None, append_assoc, append-nil, arith, length-append, eqb-true}
use Rattle.definitions.specs.Bytes.{Line, is_text, lines_of, before, last_byte, all_text, is_line, all_lines, are_lines, line_bytes, lines_bytes}
use Rattle.theorems.specs.Lines.{text-not-lf, lines_other}
use Rattle.text.specs.Lines.{up_to_lf, cut_at}

abbrev pub Plain : List ℕ → Type 0
Plain l = up_to_lf l ≡ None

pub and-true : (a b : Bool) → (a && b) ≡ true → (a ≡ true) × (b ≡ true)
and-true true b h = (refl, h)
and-true false b h = absurd (let z : ◌≡◌ {A = ℕ} 0 1 = cc in omega arith)

pub and-false : (a : Bool) → (a && false) ≡ false
and-false true = refl
and-false false = refl

pub plain-tail : (b : ℕ) (l : List ℕ) → Plain (b ∷ l) → (eqb b 10 ≡ false) × Plain l
unfolding up_to_lf
plain-tail b l h = go (eqb b 10) (up_to_lf l) refl refl h
  where
    go : (t : Bool) (o : Option Line) → eqb b 10 ≡ t → up_to_lf l ≡ o → cut_at t b o ≡ None → (eqb b 10 ≡ false) × (up_to_lf l ≡ None)
    go true o e f g = absurd (let z : ◌≡◌ {A = ℕ} 0 1 = cc in omega arith)
    go false None e f g = (e, f)
    go false (Some k) e f g = absurd (let z : ◌≡◌ {A = ℕ} 0 1 = cc in omega arith)

-- ---- a first line and the bytes after its LF

pub first-line : (l rest : List ℕ) → Plain l → lines_of (l ++ (10 ∷ rest)) ≡ l ∷ lines_of rest
unfolding lines_of before
first-line [] rest h = refl
first-line (b ∷ l) rest h =
    let t = plain-tail b l h in
    lines_other b (l ++ (10 ∷ rest)) t.0 ∙ ap (before b) (first-line l rest t.1)

pub first-cut : (l rest : List ℕ) → Plain l → up_to_lf (l ++ (10 ∷ rest)) ≡ Some l
unfolding up_to_lf
first-cut [] rest h = refl
first-cut (b ∷ l) rest h =
    let t = plain-tail b l h in
    rw (t.0, first-cut l rest t.1)

pub last-after : (d : ℕ) (l rest : List ℕ) → last_byte d (l ++ (10 ∷ rest)) ≡ last_byte 10 rest
unfolding last_byte
last-after d [] rest = refl
last-after d (b ∷ l) rest = last-after b l rest

-- without an LF the last byte is none
pub last-plain : (d : ℕ) (l : List ℕ) → eqb d 10 ≡ false → Plain l → eqb (last_byte d l) 10 ≡ false
unfolding last_byte
last-plain d [] e h = e
last-plain d (b ∷ l) e h = last-plain b l (plain-tail b l h).0 (plain-tail b l h).1

-- ---- the bytes of a line

pub text-plain : (l : List ℕ) → all_text l ≡ true → Plain l
unfolding up_to_lf all_text
text-plain [] h = refl
text-plain (b ∷ l) h =
    let t = and-true (is_text b) (all_text l) h in
    rw (text-not-lf b t.0, text-plain l t.1)

pub line_plain : (l : Line) → is_line l ≡ true → Plain l
unfolding is_line
line_plain l h = text-plain l (and-true (all_text l) (leb (length l) 255) h).0

-- bytes have no LF, or a first line
pub cut_of : (bs : List ℕ) → Plain bs ⊎ ((l : Line) × (rest : List ℕ) × (bs ≡ l ++ (10 ∷ rest)) × Plain l)
unfolding up_to_lf
cut_of [] = inl refl
cut_of (b ∷ bs) = go (eqb b 10) refl (cut_of bs)
  where
    go : (t : Bool) → eqb b 10 ≡ t → Plain bs ⊎ ((l : Line) × (rest : List ℕ) × (bs ≡ l ++ (10 ∷ rest)) × Plain l)
        → (cut_at (eqb b 10) b (up_to_lf bs) ≡ None) ⊎ ((l : Line) × (rest : List ℕ) × (b ∷ bs ≡ l ++ (10 ∷ rest)) × Plain l)
    go true e o = inr ([], bs, ap (λ (n : ℕ). n ∷ bs) (eqb-true b 10 e), refl)
    go false e (inl h) = inl (rw (e, h))
    go false e (inr (l, rest, f, h)) = inr (b ∷ l, rest, ap (λ (r : List ℕ). b ∷ r) f, rw (e, h))

-- ---- the form of lines

and-swap : (a b c : Bool) → (a && (b && c)) ≡ (b && (a && c))
and-swap true b c = refl
and-swap false true c = refl
and-swap false false c = refl

pub are-lines-none : are_lines [] ≡ true
unfolding are_lines last_byte lines_of all_lines
are-lines-none = refl

pub are-lines-first : (l rest : List ℕ) → Plain l → are_lines (l ++ (10 ∷ rest)) ≡ (is_line l && are_lines rest)
unfolding are_lines all_lines
are-lines-first l rest h =
    rw (last-after 10 l rest, first-line l rest h) (and-swap (eqb (last_byte 10 rest) 10) (is_line l) (all_lines (lines_of rest)))

pub are-lines-open : (b : ℕ) (bs : List ℕ) → Plain (b ∷ bs) → are_lines (b ∷ bs) ≡ false
unfolding are_lines last_byte
are-lines-open b bs h = rw (last-plain b bs (plain-tail b bs h).0 (plain-tail b bs h).1)

-- ---- lines as they are written

pub lines-bytes-append : (a b : List Line) → lines_bytes (a ++ b) ≡ lines_bytes a ++ lines_bytes b
unfolding lines_bytes
lines-bytes-append [] b = refl
lines-bytes-append (l ∷ a) b = ap (λ (r : List ℕ). line_bytes l ++ r) (lines-bytes-append a b) ∙ sym (append_assoc (line_bytes l) (lines_bytes a) (lines_bytes b))

pub lines-bytes-one : (l : Line) → lines_bytes (l ∷ []) ≡ line_bytes l
unfolding lines_bytes
lines-bytes-one l = append-nil (line_bytes l)

pub line-bytes-length : (l : Line) → length (line_bytes l) ≡ length l + 1
unfolding line_bytes
line-bytes-length l = length-append l (10 ∷ [])

-- lines written and read back
pub last_written : (d : ℕ) (l : Line) (ls : List Line) → last_byte d (lines_bytes (l ∷ ls)) ≡ 10
unfolding lines_bytes line_bytes last_byte
last_written d l [] = rw (append-nil (l ++ (10 ∷ []))) (last-after d l [])
last_written d l (m ∷ ls) = rw (append_assoc l (10 ∷ []) (lines_bytes (m ∷ ls))) (last-after d l (lines_bytes (m ∷ ls)) ∙ last_written 10 m ls)

pub lines-written : (ls : List Line) → all_lines ls ≡ true → lines_of (lines_bytes ls) ≡ ls
unfolding lines_bytes line_bytes lines_of all_lines
lines-written [] h = refl
lines-written (l ∷ ls) h =
    let t = and-true (is_line l) (all_lines ls) h in
    rw (append_assoc l (10 ∷ []) (lines_bytes ls)) (first-line l (lines_bytes ls) (line_plain l t.0) ∙ ap (λ (r : List Line). l ∷ r) (lines-written ls t.1))

-- bytes that end in LF are their lines, written
ahead : (b c : ℕ) (bs : List ℕ) (ls : List Line) → lines_bytes ls ≡ c ∷ bs → lines_bytes (before b ls) ≡ b ∷ c ∷ bs
unfolding lines_bytes line_bytes before
ahead b c bs [] h = absurd (let z : ◌≡◌ {A = ℕ} 0 1 = cc in omega arith)
ahead b c bs (l ∷ ls) h = ap (λ (r : List ℕ). b ∷ r) h

pub lines-back : (bs : List ℕ) → eqb (last_byte 10 bs) 10 ≡ true → lines_bytes (lines_of bs) ≡ bs
unfolding last_byte lines_of lines_bytes line_bytes
lines-back [] h = refl
lines-back (b ∷ []) h = let e : b ≡ 10 = eqb-true b 10 h in rw e
lines-back (b ∷ c ∷ bs) h = go (eqb b 10) refl (lines-back (c ∷ bs) h)
  where
    go : (t : Bool) → eqb b 10 ≡ t → lines_bytes (lines_of (c ∷ bs)) ≡ c ∷ bs → lines_bytes (lines_of (b ∷ c ∷ bs)) ≡ b ∷ c ∷ bs
    go true e k = let f : b ≡ 10 = eqb-true b 10 e in rw f (ap (λ (r : List ℕ). 10 ∷ r) k)
    go false e k = ap lines_bytes (lines_other b (c ∷ bs) e) ∙ ahead b c bs (lines_of (c ∷ bs)) k
