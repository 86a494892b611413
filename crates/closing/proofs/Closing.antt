-- The end of a run: the buffer becomes the arranged journal's bytes. Assumes nothing.
use mathlib.Core.Path.{◌≡◌, refl, sym, ap, ◌∙◌}
use mathlib.Core.Bool.{true}
use Prim.Native.Nat.{ℕ, suc, ◌+◌, ◌-◌, ◌<◌}
use native.Mathlib.Omega.{arith}
use native.Mathlib.Numerals.{add-one}
use mathlib.Core.List.{List, [], ◌∷◌, ◌++◌, map, map-append, reverse_aux, append_assoc, append-nil}
use lib.ListN.{length, take, drop, get_or, set, length-append}
use lib.Seq.{take-suc, drop-cons, set_at, get_or_at, take_at, drop_at, length-take-le}
use borrow.Author.Tests.{ne_eqb}
use Rattle.gap.specs.Gap.{zeros, moved_down}
use Rattle.gap.proofs.Laws.{down-parts}
use Rattle.definitions.specs.Bytes.{Line, is_line, line_bytes}
use Rattle.definitions.specs.Journal.{Record, kept, changed, deleted, inserted, record_bytes, journal_bytes, journal_length}
use Rattle.definitions.specs.Arranging.{arrange}
use Rattle.theorems.specs.ArrangeLaws.{arranged-by, arrange-length}
use Rattle.editor.specs.Records.{enc, enc_all, enc_before, Good, Goods}
use Rattle.editor.specs.Shows.{Holds}
use Rattle.editor.specs.declared.State.{State}
use Rattle.editor.proofs.Records.{Text, line-text, all-length, before-all, goods-reverse}
use Rattle.editor.proofs.Held.{held-length}
use Rattle.closing.specs.Closing.{line_end, HasRecords, Arranges}

text-ends : (l : List ℕ) → Text l → map line_end l ≡ l
unfolding Text
text-ends [] t = refl
text-ends (x ∷ l) t = rw (ne_eqb x 0 (λ e. omega (arith, t.0)), text-ends l t.2)

line-ends : (l : Line) → is_line l ≡ true → map line_end (l ++ (10 ∷ [])) ≡ l ++ (10 ∷ [])
line-ends l g = map-append line_end l (10 ∷ []) ∙ rw (text-ends l (line-text l g))

record-ends : (r : Record) → Good r → map line_end (enc r) ≡ record_bytes r
unfolding record_bytes line_bytes
record-ends (kept l) g = ap (λ (z : List ℕ). 61 ∷ 61 ∷ z) (line-ends l g)
record-ends (changed o n) g =
    let first : map line_end (o ++ (0 ∷ n)) ≡ o ++ (10 ∷ n) = map-append line_end o (0 ∷ n) ∙ rw (text-ends o (line-text o g.0), text-ends n (line-text n g.1)) in
    ap (λ (z : List ℕ). 60 ∷ 62 ∷ z) (map-append line_end (o ++ (0 ∷ n)) (10 ∷ []) ∙ rw first (simp append_assoc))
record-ends (deleted l) g = ap (λ (z : List ℕ). 45 ∷ 45 ∷ z) (line-ends l g)
record-ends (inserted l) g = ap (λ (z : List ℕ). 43 ∷ 43 ∷ z) (line-ends l g)

pub records-end : (rs : List Record) → Goods rs → map line_end (enc_all rs) ≡ journal_bytes rs
unfolding enc_all journal_bytes
records-end [] g = refl
records-end (r ∷ rs) g = map-append line_end (enc r) (enc_all rs) ∙ rw (record-ends r g.0, records-end rs g.1)

-- ---- the loop: the first i bytes are done

abbrev pub ended_to : ℕ → List ℕ → List ℕ
ended_to i j = map line_end (take i j) ++ drop i j

map-length : (l : List ℕ) → length (map line_end l) ≡ length l
map-length [] = refl
map-length (x ∷ l) = ap suc (map-length l)

-- the byte at i, and what it becomes
pub ended-next : (j : List ℕ) (i : ℕ) → i < length j → ended_to (i + 1) j ≡ map line_end (take i j) ++ (line_end (get_or j i 0) ∷ drop (i + 1) j)
ended-next j i h =
    rw (add-one i, take-suc j i 0 h, map-append line_end (take i j) (get_or j i 0 ∷ []))
    (append_assoc (map line_end (take i j)) (line_end (get_or j i 0) ∷ []) (drop (suc i) j))

pub ended-now : (j : List ℕ) (i : ℕ) → i < length j → ended_to i j ≡ map line_end (take i j) ++ (get_or j i 0 ∷ drop (i + 1) j)
ended-now j i h = rw (drop-cons j i 0 h, add-one i)

module _ (j : List ℕ) (i : ℕ) (h : i < length j) where
  at : length (map line_end (take i j)) ≡ i
  at = map-length (take i j) ∙ length-take-le i j (omega arith)

  byte : get_or (ended_to i j) i 0 ≡ get_or j i 0
  byte = rw (ended-now j i h) (get_or_at (map line_end (take i j)) (get_or j i 0) (drop (i + 1) j) 0 i at)

  pub ended-set : set (ended_to i j) i (line_end (get_or (ended_to i j) i 0)) ≡ ended_to (i + 1) j
  ended-set =
      rw byte
      (rw (ended-now j i h) (set_at (map line_end (take i j)) (get_or j i 0) (drop (i + 1) j) (line_end (get_or j i 0)) i at) ∙ sym (ended-next j i h))

-- ---- the whole

arranged-good : (rs : List Record) → Goods rs → Goods (arrange rs)
arranged-good rs = arranged-by (λ a b. Goods a → Goods b) (λ a g. g) (λ a b c p q g. q (p g)) (λ r a b p g. (g.0, p g.1)) (λ l k a g. (g.1.0, (g.0, g.1.1))) rs

-- the records come to the buffer's start
module _ (j k : List ℕ) (st : State) (used : ℕ) (moves : k ≡ moved_down st.front st.back (length j - st.back) j) (is : used ≡ st.front + (length j - st.back))
    (b a : List Record) (h : Holds j st b a) where
  abbrev g : ℕ
  g = st.back - st.front

  abbrev rs : List Record
  rs = reverse_aux b a

  good : Goods rs
  good = goods-reverse b a h.past_good h.good

  packed : k ≡ enc_all rs ++ zeros g
  packed =
      let long : length j - st.back ≡ length (enc_all a) = omega (arith, held-length h) in
      let whole : j ≡ enc_before b ++ (zeros g ++ (enc_all a ++ [])) = h.bytes ∙ rw (append-nil (enc_all a)) in
      let down : k ≡ enc_before b ++ (enc_all a ++ (zeros g ++ [])) =
      moves ∙ rw (long, whole) (down-parts (enc_before b) (enc_all a) [] g st.front st.back (length (enc_all a)) h.front (omega (arith, h.order)) refl) in
      down ∙ rw (append-nil (zeros g)) (sym (append_assoc (enc_before b) (enc_all a) (zeros g)) ∙ ap (λ (z : List ℕ). z ++ zeros g) (before-all b a))

  used-long : used ≡ length (enc_all rs)
  used-long =
      let all : length (enc_before b ++ enc_all a) ≡ length (enc_all rs) = ap length (before-all b a) in
      omega (arith, is, all, length-append (enc_before b) (enc_all a), h.front, held-length h)

  front : take used k ≡ enc_all rs
  front = ap (take used) packed ∙ take_at (enc_all rs) (zeros g) used (sym used-long)

  back : drop used k ≡ zeros g
  back = ap (drop used) packed ∙ drop_at (enc_all rs) (zeros g) used (sym used-long)

  -- arranged, and their lines ended
  closes : (w l : List ℕ) → Arranges (take used k) w → length w ≡ length (take used k) → l ≡ ended_to used (w ++ drop used k)
      → (used ≡ journal_length (arrange rs)) × (l ≡ journal_bytes (arrange rs) ++ zeros (length j - journal_length (arrange rs)))
  closes w l arranges same ends =
      let as_long : journal_length (arrange rs) ≡ journal_length rs = arrange-length rs in
      let gap : g ≡ length j - journal_length (arrange rs) = omega (arith, h.order, held-length h, h.front, used-long, is, all-length rs, as_long) in
      let w-is : w ≡ enc_all (arrange rs) = arranges rs good front in
      let w-long : length (enc_all (arrange rs)) ≡ used = ap length (sym w-is) ∙ same ∙ ap length front ∙ sym used-long in
      let m-is : w ++ drop used k ≡ enc_all (arrange rs) ++ zeros g = ap (λ (z : List ℕ). z ++ drop used k) w-is ∙ ap (λ (z : List ℕ). enc_all (arrange rs) ++ z) back in (
        used-long ∙ all-length rs ∙ sym as_long,
        ends ∙ rw (m-is, take_at (enc_all (arrange rs)) (zeros g) used w-long, drop_at (enc_all (arrange rs)) (zeros g) used w-long, records-end (arrange rs) (arranged-good rs good), ← gap),
      )

  -- the part that is lent, from 0 up to there
  lent : used - 0 ≡ used
  lent = omega arith

  -- it has records to arrange
  pub has-records : HasRecords (take (used - 0) k)
  has-records = (rs, good, rw lent front)

  pub close-all : (w l : List ℕ) → Arranges (take (used - 0) k) w → length w ≡ length (take (used - 0) k) → l ≡ ended_to used (w ++ drop (used - 0) k)
      → (used ≡ journal_length (arrange rs)) × (l ≡ journal_bytes (arrange rs) ++ zeros (length j - journal_length (arrange rs)))
  close-all w l = rw lent (closes w l)
