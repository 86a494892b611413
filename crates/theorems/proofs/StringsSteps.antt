-- The reader of qualified strings keeps to the script, its rounds are enough, and what it reads is within bounds; a string with R that
-- it reads is a pattern (document 02, wish 9).
use Rattle.std.specs.Prelude.{◌≡◌, Bool, true, false, ◌&&◌, ◌||◌, List, [], ◌∷◌, ℕ, zero, suc, ◌+◌, ◌≤◌, eqb, leb}
use Rattle.std.proofs.Math.Path.{refl, ap}
use Rattle.std.proofs.Common.{sym, ◌∙◌, not-suc-le-zero, arith}
use Rattle.std.proofs.Math.Bool.{not}
use Rattle.std.proofs.lemmas.Bool.{false≢true}
use Rattle.std.proofs.Math.ListN.{length}
use Rattle.definitions.specs.Bytes.{Line, is_digit, is_small, upper, is_line}
use Rattle.definitions.specs.Matching.{Anchor, at_start, at_end, precisely, Qualifiers, qualifiers, Qualified, qualified}
use Rattle.definitions.specs.Patterns.{Pattern, read_pattern}
use Rattle.definitions.specs.WordSet.{Names, all_names, misused_at, names_from}
use Rattle.definitions.specs.Reader.{Cursor, cursor, Got, got, refused, and_then, place_at, bytes_left, next_byte, after_byte, skip_spaces, is_delimiter, string_up_to, string_next, after_string, quoted}
use Rattle.definitions.specs.Strings.{no_qualifiers, is_anchored, clashes_with_l, unless, add_anchor, add_count, add_l, add_n, add_w, add_u, add_s, add_r, is_pattern, set_columns, has_columns, wants_bytes, QualifierByte, byte_b, byte_e, byte_p, byte_l, byte_n, byte_w, byte_u, byte_s, byte_r, byte_digit, byte_columns, byte_other, letter_of, qualifier_byte, added, read_count, read_columns, read_qualifier, read_qualifiers, is_empty, pattern_or, read_bytes, read_string, start_qualifiers, qualified_string, Pair, pair, second_string, two_strings, plain_pair, two_plain_strings, names_or33, word_names}
use Rattle.theorems.specs.Lines.{and_left, and_right, and_both, string-short}
use Rattle.theorems.specs.Words.{misused-inside}
use Rattle.theorems.specs.PatternReader.{pattern-refused, moved, places-move}
use Rattle.theorems.specs.GoodItems.{is_number, good_columns, good_qualifiers, is_read, is_formed, good_qualified}
use Rattle.theorems.specs.ReaderSteps.{Sound, Reached, ReadsWell, gets, refuses, refuses-at, anything, place_short, as-far, continues, then, widen, decides, along-at, past-byte, after-byte, past-spaces, expect-reads, number-reads, IsNumber, past-string, string-sound, quoted-reads}

-- ---- one qualifier

abbrev pub GoodQualifiers : Qualifiers → Type 0
GoodQualifiers q = good_qualifiers q ≡ true

added-reads : {s : List ℕ} {left at : ℕ} {c : Cursor} (t : Bool) (q : Qualifiers) → at ≤ length s → Reached s left c → GoodQualifiers q
    → ReadsWell GoodQualifiers s left (added at (unless t q) c)
unfolding added unless
added-reads true q le h g = refuses refl le
added-reads false q le h g = gets h g

-- each of these has q's count and columns
anchor-reads : {s : List ℕ} {left at : ℕ} {c : Cursor} (a : Anchor) (q : Qualifiers) → at ≤ length s → Reached s left c → GoodQualifiers q
    → ReadsWell GoodQualifiers s left (added at (add_anchor a q) c)
unfolding add_anchor good_qualifiers
anchor-reads a (qualifiers b k l n w u v c r) le h g = added-reads (is_anchored b || not (eqb k 0) || (l && clashes_with_l a)) _ le h g

module _ {s : List ℕ} {left at : ℕ} {c : Cursor} (le : at ≤ length s) (h : Reached s left c) where
  l-reads : (q : Qualifiers) → GoodQualifiers q → ReadsWell GoodQualifiers s left (added at (add_l q) c)
  unfolding add_l good_qualifiers
  l-reads (qualifiers a k l n w u v d r) g = added-reads (l || clashes_with_l a) _ le h g

  n-reads : (inSearch : Bool) (q : Qualifiers) → GoodQualifiers q → ReadsWell GoodQualifiers s left (added at (add_n inSearch q) c)
  unfolding add_n good_qualifiers
  n-reads inSearch (qualifiers a k l n w u v d r) g = added-reads (n || not inSearch) _ le h g

  w-reads : (q : Qualifiers) → GoodQualifiers q → ReadsWell GoodQualifiers s left (added at (add_w q) c)
  unfolding add_w good_qualifiers
  w-reads (qualifiers a k l n w u v d r) g = added-reads w _ le h g

  u-reads : (q : Qualifiers) → GoodQualifiers q → ReadsWell GoodQualifiers s left (added at (add_u q) c)
  unfolding add_u good_qualifiers
  u-reads (qualifiers a k l n w u v d r) g = added-reads (u || r) _ le h g

  s_reads : (q : Qualifiers) → GoodQualifiers q → ReadsWell GoodQualifiers s left (added at (add_s q) c)
  unfolding add_s good_qualifiers
  s_reads (qualifiers a k l n w u v d r) g = added-reads v _ le h g

  r-reads : (q : Qualifiers) → GoodQualifiers q → ReadsWell GoodQualifiers s left (added at (add_r q) c)
  unfolding add_r good_qualifiers
  r-reads (qualifiers a k l n w u v d r) g = added-reads (r || u || not (eqb k 0)) _ le h g

  counted-reads : (i : ℕ) (q : Qualifiers) → IsNumber i → GoodQualifiers q → ReadsWell GoodQualifiers s left (added at (add_count i q) c)
  unfolding add_count good_qualifiers
  counted-reads i (qualifiers a k l n w u v d r) e g = added-reads (is_anchored a || not (eqb k 0) || r) _ le h
      (and_both (leb i 65535) (good_columns d) (and_right (leb 1 i) (leb i 65535) e) (and_right (leb k 65535) (good_columns d) g))

columns-good : (n m : ℕ) (q : Qualifiers) → IsNumber n → IsNumber m → leb n m ≡ true → GoodQualifiers q → GoodQualifiers (set_columns n m q)
unfolding set_columns good_qualifiers good_columns
columns-good i j (qualifiers a k l n w u v d r) e f t g = and_both (leb k 65535) (is_number i && is_number j && leb i j)
    (and_left (leb k 65535) (good_columns d) g) (and_both (is_number i && is_number j) (leb i j) (and_both (is_number i) (is_number j) e f) t)

count-reads : {s : List ℕ} {left : ℕ} (q : Qualifiers) (c : Cursor) → GoodQualifiers q → Reached s (suc left) c → ReadsWell GoodQualifiers s left (read_count q c)
unfolding read_count
count-reads q c g h = then (number-reads c h) (λ k c₁ h₁ e. counted-reads (place_short h) h₁ k q e g)

columns-reads : {s : List ℕ} {left : ℕ} (q : Qualifiers) (c : Cursor) → GoodQualifiers q → Reached s left c → ReadsWell GoodQualifiers s left (read_columns q c)
unfolding read_columns
columns-reads {s} {left} q c g h =
    then (number-reads (skip_spaces c) (as-far (past-spaces c h))) (λ n c₁ h₁ e.
    then (expect-reads 44 (skip_spaces c₁) refl (as-far (past-spaces c₁ h₁))) (λ comma c₂ h₂ x.
    then (number-reads (skip_spaces c₂) (as-far (past-spaces c₂ h₂))) (λ m c₃ h₃ f.
    decides (ReadsWell GoodQualifiers s left) (leb n m) _ _
    (λ t. then (expect-reads 95 (skip_spaces c₃) refl (as-far (past-spaces c₃ h₃))) (λ end c₄ h₄ y. gets h₄ (columns-good n m q e f t g)))
    (λ t. refuses-at refl (past-spaces c₂ h₂)))))

-- a byte that begins a qualifier is no end of the script
abbrev begins : QualifierByte → Bool
begins byte_b = true
begins byte_e = true
begins byte_p = true
begins byte_l = true
begins byte_n = true
begins byte_w = true
begins byte_u = true
begins byte_s = true
begins byte_r = true
begins byte_digit = true
begins byte_columns = true
begins byte_other = false

past-qualifier : {s : List ℕ} {left : ℕ} (c : Cursor) (k : QualifierByte) → qualifier_byte (next_byte c) ≡ k → begins k ≡ true → Reached s (suc left) c
    → Reached s left (after_byte c)
unfolding qualifier_byte letter_of is_digit upper is_small
past-qualifier c k e t h = past-byte (λ b. begins (qualifier_byte b)) c refl (ap begins e ∙ t) h

qualifier-reads : {s : List ℕ} {left : ℕ} (inSearch : Bool) (q : Qualifiers) (c : Cursor) (k : QualifierByte) → qualifier_byte (next_byte c) ≡ k
    → GoodQualifiers q → Reached s (suc left) c → ReadsWell GoodQualifiers s left (read_qualifier inSearch q c k)
unfolding read_qualifier
qualifier-reads i q c byte_b e g h = anchor-reads at_start q (place_short h) (past-qualifier c byte_b e refl h) g
qualifier-reads i q c byte_e e g h = anchor-reads at_end q (place_short h) (past-qualifier c byte_e e refl h) g
qualifier-reads i q c byte_p e g h = anchor-reads precisely q (place_short h) (past-qualifier c byte_p e refl h) g
qualifier-reads i q c byte_l e g h = l-reads (place_short h) (past-qualifier c byte_l e refl h) q g
qualifier-reads i q c byte_n e g h = n-reads (place_short h) (past-qualifier c byte_n e refl h) i q g
qualifier-reads i q c byte_w e g h = w-reads (place_short h) (past-qualifier c byte_w e refl h) q g
qualifier-reads i q c byte_u e g h = u-reads (place_short h) (past-qualifier c byte_u e refl h) q g
qualifier-reads i q c byte_s e g h = s_reads (place_short h) (past-qualifier c byte_s e refl h) q g
qualifier-reads i q c byte_r e g h = r-reads (place_short h) (past-qualifier c byte_r e refl h) q g
qualifier-reads i q c byte_digit e g h = count-reads q c g h
qualifier-reads {s} {left} i q c byte_columns e g h = decides (ReadsWell GoodQualifiers s left) (has_columns q) _ _
    (λ t. refuses-at refl h) (λ t. columns-reads q (after_byte c) g (past-qualifier c byte_columns e refl h))
qualifier-reads i q c byte_other e g h = refuses-at refl h

-- ---- qualifiers: more rounds than bytes are left

qualifiers-reads : {s : List ℕ} (rounds : ℕ) (inSearch : Bool) (q : Qualifiers) (c : Cursor) → GoodQualifiers q → Reached s rounds c
    → ReadsWell GoodQualifiers s rounds (read_qualifiers rounds inSearch q c)
unfolding read_qualifiers
qualifiers-reads zero i q c g h = absurd (not-suc-le-zero h.fewer)
qualifiers-reads {s} (suc rounds) i q c g h = go (is_delimiter (next_byte c)) (λ q' c' h' g'. qualifiers-reads rounds i q' (skip_spaces c') g' (past-spaces c' h'))
  where
    go : (t : Bool) → ((q' : Qualifiers) (c' : Cursor) → Reached s rounds c' → GoodQualifiers q'
        → ReadsWell GoodQualifiers s rounds (read_qualifiers rounds i q' (skip_spaces c')))
        → ReadsWell GoodQualifiers s (suc rounds) (elim t [
          | true ↦ got q c
          | false ↦ elim (read_qualifier i q c (qualifier_byte (next_byte c))) [
            | got q' c' ↦ read_qualifiers rounds i q' (skip_spaces c')
            | refused n at ↦ refused n at
          ]
        ])
    go true on = gets h g
    go false on = widen (omega arith)
        (continues (λ q' c'. read_qualifiers rounds i q' (skip_spaces c')) (qualifier-reads i q c (qualifier_byte (next_byte c)) refl g h) on)

none-good : GoodQualifiers no_qualifiers
unfolding no_qualifiers good_qualifiers good_columns
none-good = refl

pub start-reads : {s : List ℕ} {left : ℕ} (inSearch : Bool) (c : Cursor) → Reached s left c → ReadsWell GoodQualifiers s left (start_qualifiers inSearch c)
unfolding start_qualifiers
start-reads i c h = widen h.fewer (qualifiers-reads (suc (bytes_left c)) i no_qualifiers (skip_spaces c) none-good
    (past-spaces c (record { within = h.within; fewer = omega arith; lines = h.lines })))

-- ---- qualified strings

abbrev pub GoodQualified : List ℕ → Qualified → Type 0
GoodQualified s x = Sound s (good_qualified x)

-- a string within the script ends within it
string-inside : {s : List ℕ} {left : ℕ} (d : ℕ) (c : Cursor) → Reached s left c → place_at c + length (string_next d c) ≤ length s
unfolding place_at bytes_left string_next
string-inside d (cursor at bs) h = omega (arith, string-short d bs, h.within)

read-moved : (n : ℕ) (r : Got Pattern) → is_read (moved n r) ≡ is_read r
unfolding is_read moved
read-moved n (got p (cursor at bs)) = refl
read-moved n (refused k at) = refl

-- it is a pattern wherever it stands
pub read-anywhere : (at : ℕ) (l : Line) → is_read (read_pattern at l) ≡ is_read (read_pattern 0 l)
read-anywhere at l = ap is_read (places-move at l) ∙ read-moved at (read_pattern 0 l)

module _ {s : List ℕ} {left : ℕ} (q : Qualifiers) (d : ℕ) (c : Cursor) (g : GoodQualifiers q) (h : Reached s left c) where
  string-gets : is_formed q (string_next d c) ≡ true → ReadsWell (GoodQualified s) s left (got (qualified q (string_next d c)) (after_string d c))
  unfolding good_qualified
  string-gets f = gets (past-string d c h) (λ e.
      and_both (good_qualifiers q && is_line (string_next d c)) (is_formed q (string_next d c))
      (and_both (good_qualifiers q) (is_line (string_next d c)) g (string-sound d c h e)) f)

  pattern-reads : is_pattern q ≡ true → (r : Got Pattern) → read_pattern (place_at c) (string_next d c) ≡ r
      → ReadsWell (GoodQualified s) s left (pattern_or r (got (qualified q (string_next d c)) (after_string d c)))
  unfolding pattern_or is_formed is_read
  pattern-reads t (got p c₁) e = string-gets (rw t (sym (read-anywhere (place_at c) (string_next d c)) ∙ ap is_read e))
  pattern-reads t (refused n at) e =
      let f : (n ≡ 34) × (place_at c ≤ at) × (at ≤ place_at c + length (string_next d c)) = pattern-refused (place_at c) (string_next d c) n at e in
      refuses {n = n} {at = at} (rw f.0 refl) (omega (arith, f.2, string-inside d c h))

  bytes-reads : ReadsWell (GoodQualified s) s left (read_bytes q d c)
  unfolding read_bytes is_formed
  bytes-reads = decides (ReadsWell (GoodQualified s) s left) (is_pattern q) _ _
      (λ t. pattern-reads t (read_pattern (place_at c) (string_next d c)) refl) (λ t. string-gets (rw t refl))

pub string-reads : {s : List ℕ} {left : ℕ} (q : Qualifiers) (c : Cursor) → GoodQualifiers q → Reached s left c
    → ReadsWell (GoodQualified s) s left (read_string q c)
unfolding read_string
string-reads {s} {left} q c g h =
    decides (ReadsWell (GoodQualified s) s left) (is_empty (string_next (next_byte c) (after_byte c)) && wants_bytes q) _ _
    (λ t. refuses-at refl h) (λ t. bytes-reads q (next_byte c) (after_byte c) g (after-byte c h))

pub qualified-reads : {s : List ℕ} {left : ℕ} (inSearch : Bool) (c : Cursor) → Reached s left c
    → ReadsWell (GoodQualified s) s left (qualified_string inSearch c)
unfolding qualified_string
qualified-reads i c h = then (start-reads i c h) (λ q c₁ h₁ g. string-reads q c₁ g h₁)

unfoldable pub good_pair : Pair → Bool
good_pair (pair q l) = good_qualified q && is_line l

pub two-reads : {s : List ℕ} {left : ℕ} (c : Cursor) → Reached s left c → ReadsWell (λ x. Sound s (good_pair x)) s left (two_strings c)
unfolding two_strings second_string good_pair
two-reads c h = then (start-reads false c h) (λ q c₁ h₁ g. then (string-reads q c₁ g h₁) (λ x c₂ h₂ k.
    gets (past-string (next_byte c₁) c₂ h₂) (λ e. and_both (good_qualified x) (is_line (string_next (next_byte c₁) c₂)) (k e) (string-sound (next_byte c₁) c₂ h₂ e))))

-- ---- two unqualified strings (document 02, wish 2)

unfoldable pub good_plain_pair : Line × Line → Bool
good_plain_pair x = is_line x.0 && not (is_empty x.0) && is_line x.1

plain-pair-reads : {s : List ℕ} {left : ℕ} (c : Cursor) (l : Line) (c₁ : Cursor) → Reached s left c → Sound s (is_line l) → Reached s left c₁
    → ReadsWell (λ x. Sound s (good_plain_pair x)) s left (plain_pair (place_at c) c l c₁)
unfolding plain_pair good_plain_pair is_empty
plain-pair-reads c [] c₁ h g h₁ = refuses-at refl h
plain-pair-reads c (b ∷ l) c₁ h g h₁ = gets (past-string (next_byte c) c₁ h₁) (λ e.
    and_both (is_line (b ∷ l) && true) (is_line (string_next (next_byte c) c₁)) (and_both (is_line (b ∷ l)) true (g e) refl) (string-sound (next_byte c) c₁ h₁ e))

pub two-plain-reads : {s : List ℕ} {left : ℕ} (c : Cursor) → Reached s left c → ReadsWell (λ x. Sound s (good_plain_pair x)) s left (two_plain_strings c)
unfolding two_plain_strings
two-plain-reads c h = then (quoted-reads (skip_spaces c) (past-spaces c h)) (λ l c₁ h₁ g. plain-pair-reads (skip_spaces c) l c₁ (past-spaces c h) g h₁)

-- ---- WORD's string (document 02, wish 8)

names-reads : {s : List ℕ} {left : ℕ} (at : ℕ) (l : Line) (c : Cursor) → at + length l ≤ length s → Reached s left c → ReadsWell anything s left (names_or33 (names_from at 0 l) c)
names-reads {s} {left} at l c le h = by (names_from at 0 l) refl
  where
    by : (ns : Names) → names_from at 0 l ≡ ns → ReadsWell anything s left (names_or33 ns c)
    by (all_names xs) e = unfold names_or33 in (gets h tt)
    by (misused_at p) e = unfold names_or33 in (refuses {at = p} refl (omega (arith, (misused-inside at 0 l p e).1)))

-- a string that begins has its place in the script
string-reads-names : {s : List ℕ} {left : ℕ} (c : Cursor) → is_delimiter (next_byte c) ≡ true → Reached s left c
    → ReadsWell anything s left (names_or33 (names_from (suc (place_at c)) 0 (string_next (next_byte c) (after_byte c))) (after_string (next_byte c) (after_byte c)))
unfolding place_at bytes_left next_byte after_byte is_delimiter string_next
string-reads-names (cursor at []) t h = absurd (false≢true t)
string-reads-names (cursor at (b ∷ bs)) t h =
    names-reads (suc at) (string_up_to b bs) (after_string b (cursor (suc at) bs)) (omega (arith, string-short b bs, h.within)) (past-string b (cursor (suc at) bs) (along-at h))

pub words-reads : {s : List ℕ} {left : ℕ} (c : Cursor) → Reached s left c → ReadsWell anything s left (word_names c)
unfolding word_names quoted
words-reads {s} {left} c h =
    decides (λ (r : Got Line). ReadsWell anything s left (and_then r (λ l c₁. names_or33 (names_from (suc (place_at (skip_spaces c))) 0 l) c₁))) (is_delimiter (next_byte (skip_spaces c))) _ _
    (λ t. unfold and_then in (string-reads-names (skip_spaces c) t (past-spaces c h))) (λ t. unfold and_then in (refuses-at refl (past-spaces c h)))
