-- The lines of bytes, and bytes whose lines are lines in the sense of document 01: a tail of them is such again, and so are the strings and lines
-- read from them.
use Rattle.std.specs.Prelude.{◌≡◌, refl, Bool, true, false, ◌&&◌, ◌||◌, List, [], ◌∷◌, ℕ, zero, suc, ◌+◌, ◌≤◌, ◌<◌, length, drop, eqb, leb}
use Rattle.std.proofs.Common.{sym, ap, ◌∙◌, arith, leb-true, le-leb, eq-eqb, ne_eqb, eqb-true}
use Rattle.std.proofs.lemmas.Bool.{false≢true}
use Rattle.definitions.specs.Bytes.{Line, eq_line, before, lines_of, is_text, all_text, is_line, all_lines, last_byte, are_lines}
use Rattle.definitions.specs.Table.{is_script}
use Rattle.definitions.specs.Reader.{string_up_to}
use Rattle.definitions.specs.Commands.{is_z, UpToZ, up_to_z, no_z, add_line, lines_up_to_z}

-- ---- two tests together

pub and_left : (a b : Bool) → (a && b) ≡ true → a ≡ true
and_left true b e = refl
and_left false b e = e

pub and_right : (a b : Bool) → (a && b) ≡ true → b ≡ true
and_right true b e = e
and_right false b e = absurd (false≢true e)

pub and_both : (a b : Bool) → a ≡ true → b ≡ true → (a && b) ≡ true
and_both true b p q = q
and_both false b p q = p

-- ---- bytes and their lines

pub text-up_to : (b : ℕ) → is_text b ≡ true → b ≤ 126
unfolding is_text
text-up_to b h = leb-true b 126 (and_right (leb 32 b) (leb b 126) h)

pub text_of : (b : ℕ) → 32 ≤ b → b ≤ 126 → is_text b ≡ true
unfolding is_text
text_of b h k = and_both (leb 32 b) (leb b 126) (le-leb 32 b h) (le-leb b 126 k)

-- a text byte is no LF
pub text-not-lf : (b : ℕ) → is_text b ≡ true → eqb b 10 ≡ false
unfolding is_text
text-not-lf b h = ne_eqb b 10 (λ e. absurd (omega (arith, e, leb-true 32 b (and_left (leb 32 b) (leb b 126) h))))

-- the lines of bytes, by the first byte
pub lines-lf : (b : ℕ) (bs : List ℕ) → eqb b 10 ≡ true → lines_of (b ∷ bs) ≡ [] ∷ lines_of bs
unfolding lines_of
lines-lf b bs h = rw (h, lines_of)

pub lines_other : (b : ℕ) (bs : List ℕ) → eqb b 10 ≡ false → lines_of (b ∷ bs) ≡ before b (lines_of bs)
unfolding lines_of
lines_other b bs h = rw (h, lines_of)

-- ---- tails

line-tail : (b : ℕ) (l : Line) → is_line (b ∷ l) ≡ true → is_line l ≡ true
unfolding is_line all_text
line-tail b l e = and_both (all_text l) (leb (length l) 255)
    (and_right (is_text b) (all_text l) (and_left (is_text b && all_text l) (leb (suc (length l)) 255) e))
    (le-leb (length l) 255 (omega (arith, leb-true (suc (length l)) 255 (and_right (is_text b && all_text l) (leb (suc (length l)) 255) e))))

pub before-tail : (b : ℕ) (ls : List Line) → all_lines (before b ls) ≡ true → all_lines ls ≡ true
unfolding before all_lines
before-tail b [] e = refl
before-tail b (l ∷ ls) e =
    and_both (is_line l) (all_lines ls) (line-tail b l (and_left (is_line (b ∷ l)) (all_lines ls) e)) (and_right (is_line (b ∷ l)) (all_lines ls) e)

pub lines-tail : (b : ℕ) (bs : List ℕ) → all_lines (lines_of (b ∷ bs)) ≡ true → all_lines (lines_of bs) ≡ true
unfolding lines_of all_lines is_line all_text
lines-tail b bs e = go (eqb b 10) (lines_of bs) e
  where
    go : (t : Bool) (ls : List Line) → all_lines (elim t [ true ↦ [] ∷ ls | false ↦ before b ls ]) ≡ true → all_lines ls ≡ true
    go true ls h = h
    go false ls h = before-tail b ls h

pub lines-drop : (n : ℕ) (bs : List ℕ) → all_lines (lines_of bs) ≡ true → all_lines (lines_of (drop n bs)) ≡ true
lines-drop zero bs e = e
lines-drop (suc n) [] e = e
lines-drop (suc n) (b ∷ bs) e = lines-drop n bs (lines-tail b bs e)

pub script-lines : (s : List ℕ) → is_script s ≡ true → all_lines (lines_of s) ≡ true
unfolding is_script are_lines
script-lines s e = and_right (eqb (last_byte 10 s) 10) (all_lines (lines_of s)) (and_right (leb (length s) 16384) (are_lines s) e)

-- ---- a string of the script is a line: it stands first in the line it is read from

abbrev first : List Line → Line
first [] = []
first (l ∷ ls) = l

abbrev Begins : Line → Line → Type 0
Begins [] l = Unit {0}
Begins (x ∷ xs) [] = ⊥
Begins (x ∷ xs) (y ∷ ys) = (x ≡ y) × Begins xs ys

first-before : (b : ℕ) (ls : List Line) → first (before b ls) ≡ b ∷ first ls
unfolding before
first-before b [] = refl
first-before b (l ∷ ls) = refl

string-begins : (d : ℕ) (bs : List ℕ) → Begins (string_up_to d bs) (first (lines_of bs))
unfolding string_up_to lines_of
string-begins d [] = tt
string-begins d (b ∷ bs) = go (eqb b d) (eqb b 10) (string-begins d bs)
  where
    go : (u t : Bool) → Begins (string_up_to d bs) (first (lines_of bs))
        → Begins (elim (u || t) [ true ↦ [] | false ↦ b ∷ string_up_to d bs ]) (first (elim t [ true ↦ [] ∷ lines_of bs | false ↦ before b (lines_of bs) ]))
    go true t h = tt
    go false true h = tt
    go false false h = rw (first-before b (lines_of bs)) (refl, h)

begins-text : (xs ys : Line) → Begins xs ys → all_text ys ≡ true → all_text xs ≡ true
unfolding all_text
begins-text [] ys h e = refl
begins-text (x ∷ xs) [] h e = absurd h
begins-text (x ∷ xs) (y ∷ ys) h e =
    and_both (is_text x) (all_text xs) (ap is_text h.0 ∙ and_left (is_text y) (all_text ys) e) (begins-text xs ys h.1 (and_right (is_text y) (all_text ys) e))

begins-short : (xs ys : Line) → Begins xs ys → length xs ≤ length ys
begins-short [] ys h = omega arith
begins-short (x ∷ xs) [] h = absurd h
begins-short (x ∷ xs) (y ∷ ys) h = omega (arith, begins-short xs ys h.1)

first-line : (ls : List Line) → all_lines ls ≡ true → is_line (first ls) ≡ true
unfolding all_lines is_line all_text
first-line [] e = refl
first-line (l ∷ ls) e = and_left (is_line l) (all_lines ls) e

pub string-line : (d : ℕ) (bs : List ℕ) → all_lines (lines_of bs) ≡ true → is_line (string_up_to d bs) ≡ true
unfolding is_line
string-line d bs e = go (string_up_to d bs) (first (lines_of bs)) (string-begins d bs) (first-line (lines_of bs) e)
  where
    go : (xs ys : Line) → Begins xs ys → is_line ys ≡ true → is_line xs ≡ true
    go xs ys h q = and_both (all_text xs) (leb (length xs) 255)
        (begins-text xs ys h (and_left (all_text ys) (leb (length ys) 255) q))
        (le-leb (length xs) 255 (omega (arith, begins-short xs ys h, leb-true (length ys) 255 (and_right (all_text ys) (leb (length ys) 255) q))))

pub string-short : (d : ℕ) (bs : List ℕ) → length (string_up_to d bs) ≤ length bs
unfolding string_up_to
string-short d [] = omega arith
string-short d (b ∷ bs) = go (eqb b d || eqb b 10) (string-short d bs)
  where
    go : (t : Bool) → length (string_up_to d bs) ≤ length bs → length {A = ℕ} (elim t [ true ↦ [] | false ↦ b ∷ string_up_to d bs ]) ≤ suc (length bs)
    go true h = omega arith
    go false h = omega arith

-- ---- the lines up to a line Z

-- how many bytes lines have, each with its LF
abbrev weight : List Line → ℕ
weight [] = 0
weight (l ∷ ls) = suc (length l) + weight ls

weight-before : (b n : ℕ) (ls : List Line) → weight ls ≤ suc n → weight (before b ls) ≤ suc (suc n)
unfolding before
weight-before b n [] h = omega arith
weight-before b n (l ∷ ls) h = omega arith

weight-lines : (bs : List ℕ) → weight (lines_of bs) ≤ suc (length bs)
unfolding lines_of
weight-lines [] = omega arith
weight-lines (b ∷ bs) = go (eqb b 10) (weight-lines bs)
  where
    go : (t : Bool) → weight (lines_of bs) ≤ suc (length bs)
        → weight (elim t [ true ↦ [] ∷ lines_of bs | false ↦ before b (lines_of bs) ]) ≤ suc (suc (length bs))
    go true h = omega arith
    go false h = weight-before b (length bs) (lines_of bs) h

-- what is read up to Z: fewer bytes than the lines have, and lines if all of them are
abbrev Taken : List Line → UpToZ → Type 0
Taken ls (up_to_z ms n) = (n < weight ls) × (all_lines ls ≡ true → all_lines ms ≡ true)
Taken ls no_z = Unit {0}

add-taken : (l : Line) (ls : List Line) (u : UpToZ) → Taken ls u → Taken (l ∷ ls) (add_line l u)
unfolding add_line all_lines
add-taken l ls (up_to_z ms n) h =
    (omega (arith, h.0), λ e. and_both (is_line l) (all_lines ms) (and_left (is_line l) (all_lines ls) e) (h.1 (and_right (is_line l) (all_lines ls) e)))
add-taken l ls no_z h = tt

z-length : (l : Line) → is_z l ≡ true → 1 ≤ length l
unfolding is_z
z-length [] e = absurd (false≢true e)
z-length (b ∷ []) e = omega arith
z-length (b ∷ c ∷ l) e = omega arith

taken : (ls : List Line) → Taken ls (lines_up_to_z ls)
unfolding lines_up_to_z all_lines
taken [] = tt
taken (l ∷ ls) = go (is_z l) refl (taken ls)
  where
    go : (t : Bool) → is_z l ≡ t → Taken ls (lines_up_to_z ls)
        → Taken (l ∷ ls) (elim t [ true ↦ up_to_z [] 1 | false ↦ add_line l (lines_up_to_z ls) ])
    go true e h = (omega (arith, z-length l e), λ q. refl)
    go false e h = add-taken l ls (lines_up_to_z ls) h

-- the same for the lines of bytes
abbrev pub TakenFrom : List ℕ → UpToZ → Type 0
TakenFrom bs (up_to_z ms n) = (n ≤ length bs) × (all_lines (lines_of bs) ≡ true → all_lines ms ≡ true)
TakenFrom bs no_z = Unit {0}

pub taken-from : (bs : List ℕ) → TakenFrom bs (lines_up_to_z (lines_of bs))
taken-from bs = go (lines_up_to_z (lines_of bs)) (taken (lines_of bs))
  where
    go : (u : UpToZ) → Taken (lines_of bs) u → TakenFrom bs u
    go (up_to_z ms n) h = (omega (arith, h.0, weight-lines bs), h.1)
    go no_z h = tt

-- ---- equal lines

pub equal-itself : (l : Line) → eq_line l l ≡ true
unfolding eq_line
equal-itself [] = refl
equal-itself (x ∷ l) = rw (eq-eqb x x refl, equal-itself l)

pub equal_is : (a b : Line) → eq_line a b ≡ true → a ≡ b
unfolding eq_line
equal_is [] [] h = refl
equal_is [] (y ∷ b) h = absurd (let z : ◌≡◌ {A = ℕ} 0 1 = cc in omega arith)
equal_is (x ∷ a) [] h = absurd (let z : ◌≡◌ {A = ℕ} 0 1 = cc in omega arith)
equal_is (x ∷ a) (y ∷ b) h =
    let p : x ≡ y = eqb-true x y (and_left (eqb x y) (eq_line a b) h) in
    let q : a ≡ b = equal_is a b (and_right (eqb x y) (eq_line a b) h) in
    cc

pub equal-not : (k l : Line) → eq_line k l ≡ false → eq_line l k ≡ false
equal-not k l h = go (eq_line l k) refl
  where
    go : (c : Bool) → eq_line l k ≡ c → eq_line l k ≡ false
    go true e = absurd (false≢true (sym h ∙ rw (equal_is l k e) (equal-itself k)))
    go false e = e
