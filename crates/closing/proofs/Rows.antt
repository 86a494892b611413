-- Rows of records by their marks: where they end among the bytes, and what arranging makes of them. Assumes nothing.
use mathlib.Core.Path.{◌≡◌, refl, sym, ap, ◌∙◌}
use mathlib.Core.Bool.{Bool, true, false, cond}
use mathlib.Core.List.{List, [], ◌∷◌, ◌++◌, append_assoc, append-nil}
use Prim.Native.Nat.{ℕ, ◌+◌, ◌-◌, ◌≤◌, ◌<◌}
use native.Mathlib.Omega.{arith}
use lib.ListN.{length, drop, get_or, length-append}
use lib.Seq.{take_at, drop_at}
use Rattle.definitions.specs.Journal.{Record, kept, changed, deleted, inserted}
use Rattle.definitions.specs.Arranging.{arrange}
use Rattle.theorems.specs.Each.{Each}
use Rattle.theorems.specs.Arranged.{Stretch, gone_in, came_in}
use Rattle.theorems.specs.ArrangeLaws.{IsCame, NotCame, BeginsApart, arrange-length, arrange-stretch, arrange-apart, arrange-after, arrange-came}
use Rattle.text.specs.Lines.{part}
use Rattle.text.specs.Feeds.{line_length}
use Rattle.text.proofs.Parts.{put, part-lent, part-put}
use Rattle.rows.specs.Rows.{line_where}
use Rattle.rows.proofs.Laws.{where-none, where-here, where-line}
use Rattle.gathering.specs.Pieces.{pieces, is_minus, is_other, row_of, Gathered}
use Rattle.gathering.proofs.Pieces.{no_pieces, first_piece}
use Rattle.editor.specs.Records.{mark, enc, enc_all, Good, Goods}
use Rattle.editor.proofs.Records.{record-line, marked, some_bytes, all-length, none_of, enc-append}
use Rattle.closing.specs.Closing.{records_to, records_from, is_came, is_past_came, is_past_row, through_row, after_row, ArrangesRow}

-- ---- the records before the first whose mark is wanted, and from it on

module _ (wanted : ℕ → Bool) where
  pub both-parts : (rs : List Record) → records_to wanted rs ++ records_from wanted rs ≡ rs
  unfolding records_to records_from
  both-parts [] = refl
  both-parts (r ∷ rs) = by (wanted (mark r)) (both-parts rs)
    where
      by : (w : Bool) → records_to wanted rs ++ records_from wanted rs ≡ rs
          → cond w [] (r ∷ records_to wanted rs) ++ cond w (r ∷ rs) (records_from wanted rs) ≡ r ∷ rs
      by true h = refl
      by false h = ap (λ (z : List Record). r ∷ z) h

  pub from-good : (rs : List Record) → Goods rs → Goods (records_from wanted rs)
  unfolding records_from
  from-good [] g = g
  from-good (r ∷ rs) g = by (wanted (mark r)) (from-good rs g.1)
    where
      by : (w : Bool) → Goods (records_from wanted rs) → Goods (cond w (r ∷ rs) (records_from wanted rs))
      by true h = g
      by false h = h

  pub to-good : (rs : List Record) → Goods rs → Goods (records_to wanted rs)
  unfolding records_to
  to-good [] g = g
  to-good (r ∷ rs) g = by (wanted (mark r)) (to-good rs g.1)
    where
      by : (w : Bool) → Goods (records_to wanted rs) → Goods (cond w [] (r ∷ records_to wanted rs))
      by true h = tt
      by false h = (g.0, h)

  -- what each of the first has, if its mark is not wanted
  pub to-each : (P : Record → Type 0) → ((r : Record) → wanted (mark r) ≡ false → P r) → (rs : List Record) → Each P (records_to wanted rs)
  unfolding records_to
  to-each P f [] = tt
  to-each P f (r ∷ rs) = by (wanted (mark r)) refl (to-each P f rs)
    where
      by : (w : Bool) → wanted (mark r) ≡ w → Each P (records_to wanted rs) → Each P (cond w [] (r ∷ records_to wanted rs))
      by true e h = tt
      by false e h = (f r e, h)

  -- the bytes of the first part
  pub where-records : (rs : List Record) → Goods rs → line_where wanted true (enc_all rs) ≡ length (enc_all (records_to wanted rs))
  unfolding enc_all records_to
  where-records [] g = where-none wanted true
  where-records (r ∷ rs) g = by (wanted (mark r)) refl (where-records rs g.1)
    where
      first : get_or (enc r) 0 0 ≡ mark r
      first = ap (λ (z : List ℕ). get_or z 0 0) (marked r)

      by : (w : Bool) → wanted (mark r) ≡ w → line_where wanted true (enc_all rs) ≡ length (enc_all (records_to wanted rs))
          → line_where wanted true (enc r ++ enc_all rs) ≡ length (enc_all (cond w [] (r ∷ records_to wanted rs)))
      by true e h = ap (λ (z : List ℕ). line_where wanted true (z ++ enc_all rs)) (marked r) ∙ where-here wanted (mark r) _ e
      by false e h =
          where-line wanted (enc r) (enc_all rs) (record-line r (enc_all rs) g.0) (ap wanted first ∙ e) ∙ ap (λ (n : ℕ). length (enc r) + n) h
          ∙ sym (length-append (enc r) (enc_all (records_to wanted rs)))

-- records stand from `at` on
pub record Standing (s : List ℕ) (at : ℕ) (rs : List Record) : Type 0 where
  pub before : List ℕ
  pub is : s ≡ before ++ enc_all rs
  pub place : length before ≡ at
  pub good : Goods rs

pub stands_at : {s : List ℕ} {at : ℕ} {rs : List Record} → Standing s at rs → drop at s ≡ enc_all rs
stands_at {at = at} {rs = rs} h = ap (drop at) h.is ∙ drop_at h.before (enc_all rs) at h.place

-- they are looked through for a mark
module _ (wanted : ℕ → Bool) (s : List ℕ) (at to : ℕ) (rs : List Record) (h : Standing s at rs) (found : to ≡ at + line_where wanted true (drop at s)) where
  pub found_at : to ≡ at + length (enc_all (records_to wanted rs))
  found_at = found ∙ ap (λ (n : ℕ). at + n) (ap (line_where wanted true) (stands_at h) ∙ where-records wanted rs h.good)

  pub found-rest : Standing s to (records_from wanted rs)
  found-rest = record {
    before = h.before ++ enc_all (records_to wanted rs);
    is = h.is ∙ ap (λ (z : List ℕ). h.before ++ z) (ap enc_all (sym (both-parts wanted rs)) ∙ enc-append (records_to wanted rs) (records_from wanted rs))
        ∙ sym (append_assoc h.before (enc_all (records_to wanted rs)) (enc_all (records_from wanted rs)));
    place = length-append h.before (enc_all (records_to wanted rs)) ∙ ap (λ (n : ℕ). n + length (enc_all (records_to wanted rs))) h.place ∙ sym found_at;
    good = from-good wanted rs h.good;
  }

-- ---- marks

not-came : (r : Record) → is_came (mark r) ≡ false → NotCame r
not-came (kept l) e c = absurd c
not-came (changed o n) e c = absurd c
not-came (deleted l) e c = absurd c
not-came (inserted l) e c = absurd (let z : ◌≡◌ {A = ℕ} 0 1 = cc in omega arith)

came : (r : Record) → is_past_came (mark r) ≡ false → IsCame r
came (kept l) e = absurd (let z : ◌≡◌ {A = ℕ} 0 1 = cc in omega arith)
came (changed o n) e = absurd (let z : ◌≡◌ {A = ℕ} 0 1 = cc in omega arith)
came (deleted l) e = absurd (let z : ◌≡◌ {A = ℕ} 0 1 = cc in omega arith)
came (inserted l) e = tt

row-stretch : (rs : List Record) → Stretch (records_to is_past_row rs)
unfolding records_to
row-stretch [] = tt
row-stretch (kept l ∷ rs) = tt
row-stretch (changed o n ∷ rs) = tt
row-stretch (deleted l ∷ rs) = (tt, row-stretch rs)
row-stretch (inserted l ∷ rs) = (tt, row-stretch rs)

row_ends : (rs : List Record) → BeginsApart (records_from is_past_row rs)
unfolding records_from
row_ends [] = tt
row_ends (kept l ∷ rs) = tt
row_ends (changed o n ∷ rs) = tt
row_ends (deleted l ∷ rs) = row_ends rs
row_ends (inserted l ∷ rs) = row_ends rs

-- a row is what came first, and then the rest of it
row-parts : (rs : List Record)
    → (records_to is_past_row rs ≡ records_to is_past_came rs ++ records_to is_past_row (records_from is_past_came rs))
    × (records_from is_past_row rs ≡ records_from is_past_row (records_from is_past_came rs))
unfolding records_to records_from
row-parts [] = (refl, refl)
row-parts (kept l ∷ rs) = (refl, refl)
row-parts (changed o n ∷ rs) = (refl, refl)
row-parts (deleted l ∷ rs) = (refl, refl)
row-parts (inserted l ∷ rs) = (ap (λ (z : List Record). inserted l ∷ z) (row-parts rs).0, (row-parts rs).1)

-- ---- what arranging makes of them

-- the first row with a `++` is arranged by itself
pub arrange-through : (rs : List Record) → arrange (through_row rs) ≡ records_to is_came rs ++ arrange (records_to is_past_row (records_from is_came rs))
unfolding through_row
arrange-through rs = arrange-after (records_to is_came rs) (records_to is_past_row (records_from is_came rs)) (to-each is_came NotCame not-came rs)

-- and what follows it by itself
pub arrange-rows : (rs : List Record) → arrange rs ≡ arrange (through_row rs) ++ arrange (after_row rs)
unfolding through_row after_row
arrange-rows rs =
    let P : List Record = records_to is_came rs in
    let R : List Record = records_from is_came rs in
    ap arrange (sym (both-parts is_came rs) ∙ ap (λ (z : List Record). P ++ z) (sym (both-parts is_past_row R)) ∙ sym (append_assoc P (records_to is_past_row R) (records_from is_past_row R)))
    ∙ arrange-apart (P ++ records_to is_past_row R) (records_from is_past_row R) (row_ends R)

-- records are not all passed over without being arranged
pub some-through : (rs : List Record) → 0 < length (enc_all rs) → 0 < length (enc_all (through_row rs))
unfolding through_row records_to records_from enc_all
some-through [] h = h
some-through (kept l ∷ rs) h = omega arith
some-through (changed o n ∷ rs) h = omega arith
some-through (deleted l ∷ rs) h = omega arith
some-through (inserted l ∷ rs) h = omega arith

-- ---- a row gathered

pieces-records : (r : Record) (rs : List Record) → Good r → pieces (enc r ++ enc_all rs) ≡ enc r ∷ pieces (enc_all rs)
pieces-records r rs g =
    let long : line_length (enc r ++ enc_all rs) ≡ length (enc r) = record-line r (enc_all rs) g in
    first_piece (enc r ++ enc_all rs) (omega (arith, length-append (enc r) (enc_all rs), some_bytes r)) ∙ rw (long, take_at (enc r) (enc_all rs) (length (enc r)) refl, drop_at (enc r) (enc_all rs) (length (enc r)) refl)

gone-row : (rs : List Record) → Goods rs → Stretch rs → row_of is_minus (pieces (enc_all rs)) ≡ enc_all (gone_in rs)
unfolding enc_all gone_in row_of is_minus
gone-row [] g h = rw (no_pieces [] refl)
gone-row (kept l ∷ rs) g h = absurd h.0
gone-row (changed o n ∷ rs) g h = absurd h.0
gone-row (deleted l ∷ rs) g h = rw (pieces-records (deleted l) rs g.0) (ap (λ (z : List ℕ). enc (deleted l) ++ z) (gone-row rs g.1 h.1))
gone-row (inserted l ∷ rs) g h = rw (pieces-records (inserted l) rs g.0) (gone-row rs g.1 h.1)

came-row : (rs : List Record) → Goods rs → Stretch rs → row_of is_other (pieces (enc_all rs)) ≡ enc_all (came_in rs)
unfolding enc_all came_in row_of is_other is_minus
came-row [] g h = rw (no_pieces [] refl)
came-row (kept l ∷ rs) g h = absurd h.0
came-row (changed o n ∷ rs) g h = absurd h.0
came-row (deleted l ∷ rs) g h = rw (pieces-records (deleted l) rs g.0) (came-row rs g.1 h.1)
came-row (inserted l ∷ rs) g h = rw (pieces-records (inserted l) rs g.0) (ap (λ (z : List ℕ). enc (inserted l) ++ z) (came-row rs g.1 h.1))

gathered-row : (rs : List Record) (y : List ℕ) (n : ℕ) → Goods rs → Stretch rs → Gathered (enc_all rs) y n → y ≡ enc_all (arrange rs)
gathered-row rs y n g h k =
    k.is ∙ rw (gone-row rs g h, came-row rs g h) (sym (enc-append (gone_in rs) (came_in rs))) ∙ ap enc_all (sym (arrange-stretch rs h))

-- ---- the row that `arrange_row` finds: `found` begins it, what left begins at `left`, and it ends at `end`

module _ (s : List ℕ) (at found left end : ℕ) (first : found ≡ at + line_where is_came true (drop at s)) (gone : left ≡ found + line_where is_past_came true (drop found s))
    (last : end ≡ left + line_where is_past_row true (drop left s)) (before : List ℕ) (rs : List Record) (good : Goods rs) (is : s ≡ before ++ enc_all rs) (place : length before ≡ at) where
  abbrev P : List Record
  P = records_to is_came rs

  abbrev R : List Record
  R = records_from is_came rs

  abbrev row : List Record
  row = records_to is_past_row R

  -- the `++` records that stand first in it, and the others
  abbrev C : List Record
  C = records_to is_past_came R

  abbrev D : List Record
  D = records_to is_past_row (records_from is_past_came R)

  at_first : Standing s at rs
  at_first = record { before = before; is = is; place = place; good = good }

  at-came : Standing s found R
  at-came = found-rest is_came s at found rs at_first first

  at_left : Standing s left (records_from is_past_came R)
  at_left = found-rest is_past_came s found left R at-came gone

  row-long : end - found ≡ length (enc_all row)
  row-long =
      let all : enc_all row ≡ enc_all C ++ enc_all D = ap enc_all (row-parts R).0 ∙ enc-append C D in
      omega (arith, found_at is_past_came s found left R at-came gone, found_at is_past_row s left end (records_from is_past_came R) at_left last, ap length all, length-append (enc_all C) (enc_all D))

  pub through-long : end ≡ at + length (enc_all (through_row rs))
  through-long = unfold through_row in (
      let all : enc_all (P ++ row) ≡ enc_all P ++ enc_all row = enc-append P row in
      omega (
        arith,
        row-long,
        found_at is_came s at found rs at_first first,
        found_at is_past_came s found left R at-came gone,
        found_at is_past_row s left end (records_from is_past_came R) at_left last,
        ap length all,
        length-append (enc_all P) (enc_all row),
      ))

  -- the records, by what arranging makes of the row
  rows-bytes : (x : List ℕ) → x ≡ enc_all (arrange row)
      → (before ++ enc_all P) ++ (x ++ enc_all (records_from is_past_row R)) ≡ before ++ (enc_all (arrange (through_row rs)) ++ enc_all (after_row rs))
  rows-bytes x q =
      let A : List ℕ = enc_all (records_from is_past_row R) in
      let through : enc_all (arrange (through_row rs)) ≡ enc_all P ++ x = ap enc_all (arrange-through rs) ∙ enc-append P (arrange row) ∙ ap (λ (z : List ℕ). enc_all P ++ z) (sym q) in
      append_assoc before (enc_all P) (x ++ A) ∙ ap (λ (z : List ℕ). before ++ z) (sym (append_assoc (enc_all P) x A) ∙ ap (λ (z : List ℕ). z ++ A) (sym through))
      ∙ unfold after_row in refl

  -- s, cut before the row and after it
  cut : s ≡ (before ++ enc_all P) ++ (enc_all row ++ enc_all (records_from is_past_row R))
  unfolding at-came found-rest at_first
  cut = at-came.is ∙ ap (λ (z : List ℕ). (before ++ enc_all P) ++ z) (ap enc_all (sym (both-parts is_past_row R)) ∙ enc-append row (records_from is_past_row R))

  -- nothing left after what came: it is in order
  pub row-in-order : end ≤ left → s ≡ before ++ (enc_all (arrange (through_row rs)) ++ enc_all (after_row rs))
  row-in-order h =
      let none : D ≡ [] = none_of D (omega (arith, found_at is_past_row s left end (records_from is_past_came R) at_left last)) in
      let same : row ≡ C = (row-parts R).0 ∙ ap (λ (z : List Record). C ++ z) none ∙ append-nil C in
      let still : arrange row ≡ row = ap arrange same ∙ arrange-came C (to-each is_past_came IsCame came R) ∙ sym same in
      cut ∙ rows-bytes (enc_all row) (ap enc_all (sym still))

  -- it is gathered
  pub row-gathered : (y : List ℕ) (n : ℕ) → Gathered (part found end s) y n → put found end s y ≡ before ++ (enc_all (arrange (through_row rs)) ++ enc_all (after_row rs))
  unfolding at-came found-rest at_first
  row-gathered y n k =
      let A : List ℕ = enc_all (records_from is_past_row R) in
      let to : length (before ++ enc_all P) + length (enc_all row) ≡ end = omega (arith, at-came.place, row-long, found_at is_past_came s found left R at-came gone, found_at is_past_row s left end (records_from is_past_came R) at_left last) in
      let lent : part found end s ≡ enc_all row = part-lent (before ++ enc_all P) (enc_all row) A s found end cut at-came.place to in
      let done : y ≡ enc_all (arrange row) = gathered-row row y n (to-good is_past_row R (from-good is_came rs good)) (row-stretch R) (rw lent at k) in
      part-put (before ++ enc_all P) (enc_all row) A s found end cut at-came.place to y ∙ rows-bytes y done

-- ---- all rows

-- arranging leaves the number of bytes
pub arranged-bytes : (rs : List Record) → length (enc_all (arrange rs)) ≡ length (enc_all rs)
arranged-bytes rs = all-length (arrange rs) ∙ arrange-length rs ∙ sym (all-length rs)

-- the records rs, of which those before `at` are arranged
pub record DoneTo (rs : List Record) (s : List ℕ) (at : ℕ) : Type 0 where
  pub done : List ℕ
  pub rest : List Record
  pub good : Goods rest
  pub is : s ≡ done ++ enc_all rest
  pub place : length done ≡ at
  pub whole : done ++ enc_all (arrange rest) ≡ enc_all (arrange rs)

pub done_none : (rs : List Record) (s : List ℕ) → Goods rs → s ≡ enc_all rs → DoneTo rs s 0
done_none rs s g q = record { done = []; rest = rs; good = g; is = q; place = refl; whole = refl }

-- one row more
module _ (rs : List Record) (s : List ℕ) (at : ℕ) (d : DoneTo rs s at) (z : List ℕ) (to : ℕ) (arranges : ArrangesRow s at z to) where
  both : (z ≡ d.done ++ (enc_all (arrange (through_row d.rest)) ++ enc_all (after_row d.rest))) × (to ≡ at + length (enc_all (through_row d.rest)))
  both = arranges d.done d.rest d.good d.is d.place

  pub done_more : DoneTo rs z to
  done_more =
      let X : List ℕ = enc_all (arrange (through_row d.rest)) in
      let A : List Record = after_row d.rest in
      record {
        done = d.done ++ X;
        rest = A;
        good = unfold after_row in (from-good is_past_row (records_from is_came d.rest) (from-good is_came d.rest d.good));
        is = both.0 ∙ sym (append_assoc d.done X (enc_all A));
        place = length-append d.done X ∙ omega (arith, d.place, both.1, arranged-bytes (through_row d.rest));
        whole =
            append_assoc d.done X (enc_all (arrange A))
            ∙ ap (λ (w : List ℕ). d.done ++ w) (sym (ap enc_all (arrange-rows d.rest) ∙ enc-append (arrange (through_row d.rest)) (arrange A)))
            ∙ d.whole;
      }

  -- it is further on
  pub row-further : at < length s → at < to
  row-further h =
      let some : 0 < length (enc_all d.rest) = omega (arith, h, ap length d.is, length-append d.done (enc_all d.rest), d.place) in
      omega (arith, both.1, some-through d.rest some)

pub done_all : (rs : List Record) (s : List ℕ) (at : ℕ) → DoneTo rs s at → length s ≤ at → s ≡ enc_all (arrange rs)
done_all rs s at d h =
    let none : d.rest ≡ [] = none_of d.rest (omega (arith, h, ap length d.is, length-append d.done (enc_all d.rest), d.place)) in
    d.is ∙ ap (λ (z : List ℕ). d.done ++ z) (ap enc_all (none ∙ sym (ap arrange none ∙ arrange-came [] tt))) ∙ d.whole
