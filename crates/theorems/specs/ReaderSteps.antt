-- The reader's small parts keep to the script: after each the cursor stands at a place of the script, no further back; a refusal has a number
-- of document 01 and a place in the script.
use Rattle.std.specs.Prelude.{◌≡◌, refl, Bool, true, false, cond, ◌&&◌, ◌||◌, List, [], ◌∷◌, ℕ, zero, suc, ◌+◌, ◌-◌, ◌*◌, ◌≤◌, ◌<◌, length, drop, eqb, leb}
use Rattle.std.proofs.Common.{sym, ap, ◌∙◌, arith, length-drop, eqb-true}
use Rattle.std.proofs.lemmas.Bool.{false≢true}
use Rattle.definitions.specs.Bytes.{Line, is_digit, is_capital, is_small, is_letter, upper, lines_of, is_line, all_lines}
use Rattle.definitions.specs.Table.{is_script}
use Rattle.definitions.specs.Reader.{Cursor, cursor, Got, got, refused, and_then, place_at, bytes_left, next_byte, after_byte, is_next, expect, spaces_at, skip_spaces, line_end_at, skip_comment, blank_at, skip_blank, Token, token, digits_at, digits, is_digit_next, in_range, number, letters_at, name, after_token, is_delimiter, string_up_to, string_next, advance, past_delimiter, after_string, quoted}
use Rattle.definitions.specs.Commands.{bytes_from}
use Rattle.theorems.specs.GoodItems.{is_number}
use Rattle.theorems.specs.Lines.{lines-tail, lines-drop, script-lines, string-line, string-short}

-- ---- what is said of a cursor and of a reading

-- it holds if `s` has the form of a script
abbrev pub Sound : List ℕ → Bool → Type 0
Sound s b = is_script s ≡ true → b ≡ true

-- the cursor stands at a place of the script `s`, fewer than `left` bytes before its end; the bytes from there on are in lines if the script is
pub record Reached (s : List ℕ) (left : ℕ) (c : Cursor) : Type 0 where
  pub within : place_at c + bytes_left c ≡ length s
  pub fewer : bytes_left c < left
  pub lines : Sound s (all_lines (lines_of (bytes_from c)))

-- the numbers of the reader's refusals: 2 to 6, and document 02's 33 and 34
abbrev pub is_refusal : ℕ → Bool
is_refusal n = (leb 2 n && leb n 6) || (leb 33 n && leb n 34)

-- what comes of reading a thing: the thing, of which P holds, and a cursor with fewer than `left` bytes left; or a refusal, at a place of the script
pub data ReadsWell {A : Type 0} (P : A → Type 0) (s : List ℕ) (left : ℕ) : Got A → Type 0 where
  gets : {a : A} {c : Cursor} → Reached s left c → P a → ReadsWell P s left (got a c)
  refuses : {n at : ℕ} → is_refusal n ≡ true → at ≤ length s → ReadsWell P s left (refused n at)

abbrev pub anything : {A : Type 0} → A → Type 0
anything a = Unit {0}

-- ---- how readings are put together

pub place_short : {s : List ℕ} {left : ℕ} {c : Cursor} → Reached s left c → place_at c ≤ length s
place_short h = omega (arith, h.within)

-- a refusal at the cursor
pub refuses-at : {A : Type 0} {P : A → Type 0} {s : List ℕ} {left l : ℕ} {c : Cursor} {n : ℕ} → is_refusal n ≡ true → Reached s l c
    → ReadsWell P s left (refused n (place_at c))
refuses-at e h = refuses e (place_short h)

pub weaken : {s : List ℕ} {left left' : ℕ} {c : Cursor} → left ≤ left' → Reached s left c → Reached s left' c
weaken le h = record { within = h.within; fewer = omega (arith, h.fewer); lines = h.lines }

-- a reading that takes a byte keeps the bound it is given
pub as-far : {s : List ℕ} {left : ℕ} {c : Cursor} → Reached s left c → Reached s (suc left) c
as-far h = weaken (omega arith) h

-- an answer goes on, a refusal is passed upward
pub continues : {A B : Type 0} {P : A → Type 0} {Q : B → Type 0} {s : List ℕ} {l left : ℕ} {r : Got A} (f : A → Cursor → Got B) → ReadsWell P s l r
    → ((a : A) (c : Cursor) → Reached s l c → P a → ReadsWell Q s left (f a c)) → ReadsWell Q s left (elim r [ got a c ↦ f a c | refused n at ↦ refused n at ])
continues f (gets {a = a} {c = c} h p) on = on a c h p
continues f (refuses e le) on = refuses e le

pub then : {A B : Type 0} {P : A → Type 0} {Q : B → Type 0} {s : List ℕ} {l left : ℕ} {r : Got A} {f : A → Cursor → Got B} → ReadsWell P s l r
    → ((a : A) (c : Cursor) → Reached s l c → P a → ReadsWell Q s left (f a c)) → ReadsWell Q s left (and_then r f)
unfolding and_then
then (gets {a = a} {c = c} h p) on = on a c h p
then (refuses e le) on = refuses e le

pub widen : {A : Type 0} {P : A → Type 0} {s : List ℕ} {left left' : ℕ} {r : Got A} → left ≤ left' → ReadsWell P s left r → ReadsWell P s left' r
widen le (gets h p) = gets (weaken le h) p
widen le (refuses e at) = refuses e at

-- a test decides which of two
pub decides : {A : Type 0} (P : A → Type 0) (t : Bool) (x y : A) → (t ≡ true → P x) → (t ≡ false → P y) → P (cond t x y)
decides P true x y f g = f refl
decides P false x y f g = g refl

-- ---- one byte

pub next-at : {s : List ℕ} {left at b : ℕ} {bs : List ℕ} → Reached s (suc left) (cursor at (b ∷ bs)) → Reached s left (cursor (suc at) bs)
unfolding place_at bytes_left bytes_from
next-at {b = b} {bs = bs} h =
    record { within = omega (arith, h.within); fewer = omega (arith, h.fewer); lines = λ e. lines-tail b bs (h.lines e) }

pub along-at : {s : List ℕ} {left at b : ℕ} {bs : List ℕ} → Reached s left (cursor at (b ∷ bs)) → Reached s left (cursor (suc at) bs)
along-at h = next-at (as-far h)

-- past a byte that passes a test, which the end of the script does not
pub past-byte : {s : List ℕ} {left : ℕ} (test : ℕ → Bool) (c : Cursor) → test 0 ≡ false → test (next_byte c) ≡ true → Reached s (suc left) c → Reached s left (after_byte c)
unfolding next_byte after_byte
past-byte test (cursor at []) e f h = absurd (false≢true (sym e ∙ f))
past-byte test (cursor at (b ∷ bs)) e f h = next-at h

pub after-byte : {s : List ℕ} {left : ℕ} (c : Cursor) → Reached s left c → Reached s left (after_byte c)
unfolding after_byte
after-byte (cursor at []) h = h
after-byte (cursor at (b ∷ bs)) h = along-at h

pub expect-reads : {s : List ℕ} {left : ℕ} (b : ℕ) (c : Cursor) → eqb b 0 ≡ false → Reached s (suc left) c → ReadsWell anything s left (expect b c)
unfolding expect is_next
expect-reads b c e h = decides (ReadsWell anything _ _) (eqb b (next_byte c)) _ _ (λ t. gets (past-byte (eqb b) c e t h) tt) (λ t. refuses-at refl h)

-- ---- spaces and comments

spaces-at : {s : List ℕ} {left : ℕ} (at : ℕ) (bs : List ℕ) → Reached s left (cursor at bs) → Reached s left (spaces_at at bs)
unfolding spaces_at
spaces-at at [] h = h
spaces-at {s} {left} at (b ∷ bs) h = go (eqb b 32) (spaces-at (suc at) bs (along-at h))
  where
    go : (t : Bool) → Reached s left (spaces_at (suc at) bs) → Reached s left (elim t [ true ↦ spaces_at (suc at) bs | false ↦ cursor at (b ∷ bs) ])
    go true g = g
    go false g = h

pub past-spaces : {s : List ℕ} {left : ℕ} (c : Cursor) → Reached s left c → Reached s left (skip_spaces c)
unfolding skip_spaces
past-spaces (cursor at bs) h = spaces-at at bs h

line-end-at : {s : List ℕ} {left : ℕ} (at : ℕ) (bs : List ℕ) → Reached s left (cursor at bs) → Reached s left (line_end_at at bs)
unfolding line_end_at
line-end-at at [] h = h
line-end-at {s} {left} at (b ∷ bs) h = go (eqb b 10) (line-end-at (suc at) bs (along-at h))
  where
    go : (t : Bool) → Reached s left (line_end_at (suc at) bs) → Reached s left (elim t [ true ↦ cursor at (b ∷ bs) | false ↦ line_end_at (suc at) bs ])
    go true g = h
    go false g = g

pub past-comment : {s : List ℕ} {left : ℕ} (c : Cursor) → Reached s left c → Reached s left (skip_comment c)
unfolding skip_comment
past-comment (cursor at bs) h = line-end-at at bs h

-- a comment has a byte at least, its backslash
pub comment-read : {s : List ℕ} {left : ℕ} (c : Cursor) → eqb (next_byte c) 92 ≡ true → Reached s (suc left) c → Reached s left (skip_comment c)
unfolding next_byte skip_comment line_end_at
comment-read (cursor at []) e h = absurd (false≢true e)
comment-read {s} {left} (cursor at (b ∷ bs)) e h = go (eqb b 10) (ap (λ x. eqb x 10) (eqb-true b 92 e))
  where
    go : (t : Bool) → t ≡ false → Reached s left (elim t [ true ↦ cursor at (b ∷ bs) | false ↦ line_end_at (suc at) bs ])
    go true q = absurd (false≢true (sym q))
    go false q = line-end-at (suc at) bs (next-at h)

blank-at : {s : List ℕ} {left : ℕ} (inComment : Bool) (at : ℕ) (bs : List ℕ) → Reached s left (cursor at bs) → Reached s left (blank_at inComment at bs)
unfolding blank_at
blank-at inComment at [] h = h
blank-at {s} {left} true at (b ∷ bs) h = go (eqb b 10) (blank-at false (suc at) bs (along-at h)) (blank-at true (suc at) bs (along-at h))
  where
    go : (t : Bool) → Reached s left (blank_at false (suc at) bs) → Reached s left (blank_at true (suc at) bs)
        → Reached s left (elim t [ true ↦ blank_at false (suc at) bs | false ↦ blank_at true (suc at) bs ])
    go true f g = f
    go false f g = g
blank-at {s} {left} false at (b ∷ bs) h =
    go (eqb b 92) (eqb b 32 || eqb b 10) (blank-at false (suc at) bs (along-at h)) (blank-at true (suc at) bs (along-at h))
  where
    go : (t u : Bool) → Reached s left (blank_at false (suc at) bs) → Reached s left (blank_at true (suc at) bs)
        → Reached s left (elim t [ true ↦ blank_at true (suc at) bs | false ↦ elim u [ true ↦ blank_at false (suc at) bs | false ↦ cursor at (b ∷ bs) ] ])
    go true u f g = g
    go false true f g = f
    go false false f g = h

pub past-blank : {s : List ℕ} {left : ℕ} (c : Cursor) → Reached s left c → Reached s left (skip_blank c)
unfolding skip_blank
past-blank (cursor at bs) h = blank-at false at bs h

-- ---- numbers and names

digits-at : {s : List ℕ} {left : ℕ} (n at : ℕ) (bs : List ℕ) → Reached s left (cursor at bs) → Reached s left (after_token (digits_at n at bs))
unfolding digits_at after_token
digits-at n at [] h = h
digits-at {s} {left} n at (b ∷ bs) h = go (is_digit b) (digits-at (n * 10 + (b - 48)) (suc at) bs (along-at h))
  where
    go : (t : Bool) → Reached s left (after_token (digits_at (n * 10 + (b - 48)) (suc at) bs))
        → Reached s left (after_token (elim t [ true ↦ digits_at (n * 10 + (b - 48)) (suc at) bs | false ↦ token n (cursor at (b ∷ bs)) ]))
    go true g = g
    go false g = h

pub digits-read : {s : List ℕ} {left : ℕ} (c : Cursor) → is_digit (next_byte c) ≡ true → Reached s (suc left) c → Reached s left (after_token (digits c))
unfolding next_byte is_digit digits digits_at after_token
digits-read (cursor at []) e h = absurd (false≢true e)
digits-read {s} {left} (cursor at (b ∷ bs)) e h = go (is_digit b) e
  where
    go : (t : Bool) → t ≡ true → Reached s left (after_token (elim t [ true ↦ digits_at (0 * 10 + (b - 48)) (suc at) bs | false ↦ token 0 (cursor at (b ∷ bs)) ]))
    go true q = digits-at (0 * 10 + (b - 48)) (suc at) bs (next-at h)
    go false q = absurd (false≢true q)

-- "Numbers are 1 to 65,535"
abbrev pub IsNumber : ℕ → Type 0
IsNumber n = is_number n ≡ true

range-reads : {s : List ℕ} {left at : ℕ} (w : Token) → at ≤ length s → Reached s left (after_token w) → ReadsWell IsNumber s left (in_range at w)
unfolding in_range after_token
range-reads (token n c) le h = decides (ReadsWell IsNumber _ _) (leb 1 n && leb n 65535) _ _ (λ t. gets h t) (λ t. refuses refl le)

pub number-reads : {s : List ℕ} {left : ℕ} (c : Cursor) → Reached s (suc left) c → ReadsWell IsNumber s left (number c)
unfolding number is_digit_next
number-reads c h = decides (ReadsWell IsNumber _ _) (is_digit (next_byte c)) _ _
    (λ t. range-reads (digits c) (place_short h) (digits-read c t h)) (λ t. refuses-at refl h)

letters-at : {s : List ℕ} {left : ℕ} (k n at : ℕ) (bs : List ℕ) → Reached s left (cursor at bs) → Reached s left (after_token (letters_at k n at bs))
unfolding letters_at after_token
letters-at k n at [] h = h
letters-at {s} {left} k n at (b ∷ bs) h = go (is_letter b) k (λ j m. letters-at j m (suc at) bs (along-at h))
  where
    go : (t : Bool) (k : ℕ) → ((j m : ℕ) → Reached s left (after_token (letters_at j m (suc at) bs)))
        → Reached s left (after_token (elim t [
          | true ↦ elim k [ zero ↦ letters_at zero n (suc at) bs | suc j ↦ letters_at j (n * 256 + upper b) (suc at) bs ]
          | false ↦ token n (cursor at (b ∷ bs))
        ]))
    go true zero g = g zero n
    go true (suc j) g = g j (n * 256 + upper b)
    go false k g = h

pub past-name : {s : List ℕ} {left : ℕ} (c : Cursor) → Reached s left c → Reached s left (after_token (name c))
unfolding name
past-name (cursor at bs) h = letters-at 4 0 at bs h

pub name-read : {s : List ℕ} {left : ℕ} (c : Cursor) → is_letter (next_byte c) ≡ true → Reached s (suc left) c → Reached s left (after_token (name c))
unfolding next_byte is_letter is_capital is_small name letters_at after_token
name-read (cursor at []) e h = absurd (false≢true e)
name-read {s} {left} (cursor at (b ∷ bs)) e h = go (is_letter b) e
  where
    go : (t : Bool) → t ≡ true
        → Reached s left (after_token (elim t [ true ↦ letters_at 3 (0 * 256 + upper b) (suc at) bs | false ↦ token 0 (cursor at (b ∷ bs)) ]))
    go true q = letters-at 3 (0 * 256 + upper b) (suc at) bs (next-at h)
    go false q = absurd (false≢true q)

-- ---- strings

pub advanced : {s : List ℕ} {left at : ℕ} {bs : List ℕ} (n : ℕ) → n ≤ length bs → Reached s left (cursor at bs) → Reached s left (cursor (at + n) (drop n bs))
unfolding place_at bytes_left bytes_from
advanced {bs = bs} n le h = record {
  within = rw (length-drop n bs) (omega (arith, h.within));
  fewer = rw (length-drop n bs) (omega (arith, h.fewer));
  lines = λ e. lines-drop n bs (h.lines e);
}

pub past-string : {s : List ℕ} {left : ℕ} (d : ℕ) (c : Cursor) → Reached s left c → Reached s left (after_string d c)
unfolding after_string past_delimiter advance string_next
past-string {s} {left} d (cursor at bs) h = ends (cursor (at + length (string_up_to d bs)) (drop (length (string_up_to d bs)) bs))
    (advanced (length (string_up_to d bs)) (string-short d bs) h)
  where
    ends : (c : Cursor) → Reached s left c → Reached s left (cond (is_next d c) (after_byte c) c)
    ends c g = decides (Reached s left) (is_next d c) (after_byte c) c (λ t. after-byte c g) (λ t. g)

pub string-sound : {s : List ℕ} {left : ℕ} (d : ℕ) (c : Cursor) → Reached s left c → Sound s (is_line (string_next d c))
unfolding string_next bytes_from
string-sound d (cursor at bs) h e = string-line d bs (h.lines e)

pub quoted-reads : {s : List ℕ} {left : ℕ} (c : Cursor) → Reached s left c → ReadsWell (λ l. Sound s (is_line l)) s left (quoted c)
unfolding quoted
quoted-reads {s} {left} c h = decides (ReadsWell (λ l. Sound s (is_line l)) s left) (is_delimiter (next_byte c)) _ _
    (λ t. gets (past-string (next_byte c) (after_byte c) (after-byte c h)) (string-sound (next_byte c) (after_byte c) (after-byte c h)))
    (λ t. refuses-at refl h)

abbrev LineGot : Got Line → Type 0
LineGot (got l c) = is_line l ≡ true
LineGot (refused n at) = Unit {0}

line-got : (at : ℕ) (bs : List ℕ) → all_lines (lines_of bs) ≡ true → LineGot (quoted (cursor at bs))
unfolding quoted next_byte after_byte string_next
line-got at [] h = decides LineGot (is_delimiter 0) _ _ (λ t. string-line 0 [] h) (λ t. tt)
line-got at (b ∷ bs) h = decides LineGot (is_delimiter b) _ _ (λ t. string-line b bs (lines-tail b bs h)) (λ t. tt)

-- the string read at a place of a script is a line: its bytes are from 32 to 126, at most 255 of them
pub quoted-line : (s : List ℕ) → is_script s ≡ true → (at : ℕ) (l : Line) (c : Cursor) → quoted (cursor at (drop at s)) ≡ got l c → is_line l ≡ true
quoted-line s e at l c q = rw q at (line-got at (drop at s) (lines-drop at s (script-lines s e)))
