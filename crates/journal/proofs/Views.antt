-- What a view writes: record by record, its length, and the steps of the loop that writes it. Assumes nothing.
use Rattle.std.proofs.Common.{Option, Some, None}
use mathlib.Core.Path.{◌≡◌, refl, sym, ap, ◌∙◌}
use mathlib.Core.Bool.{Bool, true, false}
use mathlib.Core.List.{List, [], ◌∷◌, ◌++◌, append_assoc}
use Prim.Native.Nat.{ℕ, suc, ◌+◌, ◌*◌, ◌≤◌}
use native.Mathlib.Numerals.{add-one}
use native.Mathlib.Omega.{arith}
use lib.ListN.{length, length-append}
use Rattle.definitions.specs.Bytes.{Line, bytes, line_bytes, lines_bytes}
use Rattle.definitions.specs.Journal.{Record, kept, changed, deleted, inserted, old_of, old_side, new_of, new_side}
use Rattle.definitions.specs.Listing.{listed_line, listing_from}
use Rattle.text.specs.Lines.{part}
use Rattle.text.proofs.Lines.{lines-bytes-append, lines-bytes-one}
use Rattle.text.proofs.Ends.{Ended}
use Rattle.journal.specs.Records.{record_of, record_in, old_span, new_span, view_span}
use Rattle.journal.specs.Measuring.{measures_of, length_by}
use Rattle.journal.specs.Views.{original_head, head_of, head_by, gone_by, listed, piece, out_from, out_of}
use Rattle.journal.specs.declared.records.Mark.{Mark}
use Rattle.journal.specs.declared.records.Mark.TheVariants.{Kept, Changed, Deleted, Inserted}
use Rattle.journal.specs.declared.records.Extent.{Extent}
use Rattle.journal.specs.declared.records.View.{View}
use Rattle.journal.specs.declared.records.View.TheVariants.{OldSide, NewSide, Listing}
use Rattle.journal.specs.declared.records.Span.{Span}
use Rattle.journal.specs.declared.write.Gone.{Gone}
use Rattle.journal.proofs.Here.{LastLine}
use Rattle.journal.proofs.Measures.{span_bytes, old-bytes, new-bytes}
use Rattle.journal.proofs.Columns.{in-five}

-- ---- record by record

pub out-next : (view : View) (g : Gone) (m : Mark) (a b : Line) (rs : List Record)
    → out_from view g (record_of m a b ∷ rs) ≡ piece view g (record_of m a b) ++ out_from view (gone_by g m) rs
unfolding out_from piece old_side new_side listed record_of gone_by listing_from
out-next OldSide g m a b rs = lines-bytes-append (old_of (record_of m a b)) (old_side rs)
out-next NewSide g m a b rs = lines-bytes-append (new_of (record_of m a b)) (new_side rs)
out-next Listing g Kept a b rs = rw (add-one g.lines)
out-next Listing g Changed a b rs = rw (add-one g.lines)
out-next Listing g Deleted a b rs = rw (add-one g.lines)
out-next Listing g Inserted a b rs = sym (append_assoc (bytes " ****  ") (line_bytes a) (listing_from g.lines g.gap rs))

pub out_none : (view : View) (g : Gone) → out_from view g [] ≡ []
unfolding out_from old_side new_side lines_bytes listing_from
out_none OldSide g = refl
out_none NewSide g = refl
out_none Listing g = refl

-- ---- a piece is its head and its line

pub head-length : (m : Mark) (g : Gone) → length (head_of m g) ≡ 7
unfolding head_of original_head
head-length Kept g = refl
head-length Changed g = refl
head-length Deleted g = refl
head-length Inserted g = refl

listed-head : (n : ℕ) (gap new : Bool) (l : Line) → n ≤ 65535 → listed_line (suc n) gap new l ≡ original_head (n + 1) gap new ++ line_bytes l
unfolding listed_line original_head
listed-head n gap new l h = rw (add-one n, in-five (suc n) (omega arith))

-- what a view writes of a record whose line is the span `s`
unfoldable pub shown_as : List ℕ → View → Mark → Gone → Option Span → List ℕ
unfolding head_by
shown_as j view m g (Some s) = head_by view m g ++ part s.from s.to j
shown_as j view m g None = []

shown-old : (j : List ℕ) (m : Mark) (g : Gone) (s : Option Span) → shown_as j OldSide m g s ≡ span_bytes j s
unfolding shown_as head_by span_bytes
shown-old j m g (Some s) = refl
shown-old j m g None = refl

shown-new : (j : List ℕ) (m : Mark) (g : Gone) (s : Option Span) → shown_as j NewSide m g s ≡ span_bytes j s
unfolding shown_as head_by span_bytes
shown-new j m g (Some s) = refl
shown-new j m g None = refl

module _ (j : List ℕ) (x : Extent) (f : Ended j (x.at + 2) x.mid) (g : Gone) (few : g.lines ≤ 65535) where
  shown-listing : (m : Mark) → LastLine m j x.mid x.end
      → listed g (record_of m (part (x.at + 2) x.mid j) (part (x.mid + 1) x.end j)) ≡ shown_as j Listing m g (new_span m x)
  unfolding listed record_of shown_as head_by head_of new_span new_of span_bytes bytes
  shown-listing Kept l = listed-head g.lines g.gap false _ few ∙ ap (λ (r : List ℕ). head_of Kept g ++ r) (sym (new-bytes j x f Kept l ∙ lines-bytes-one _))
  shown-listing Changed l = listed-head g.lines g.gap true _ few ∙ ap (λ (r : List ℕ). head_of Changed g ++ r) (sym (new-bytes j x f Changed l ∙ lines-bytes-one _))
  shown-listing Deleted l = refl
  shown-listing Inserted l = ap (λ (r : List ℕ). head_of Inserted g ++ r) (sym (new-bytes j x f Inserted l ∙ lines-bytes-one _))

  pub piece-shown : (view : View) → LastLine x.mark j x.mid x.end → piece view g (record_in j x) ≡ shown_as j view x.mark g (view_span view x)
  unfolding piece record_in view_span
  piece-shown OldSide l = sym (shown-old j x.mark g (old_span x.mark x) ∙ old-bytes j x f x.mark)
  piece-shown NewSide l = sym (shown-new j x.mark g (new_span x.mark x) ∙ new-bytes j x f x.mark l)
  piece-shown Listing l = shown-listing x.mark l

-- ---- lengths

listed-length : (n : ℕ) (gap new : Bool) (l : Line) → n ≤ 65535 → length (listed_line (suc n) gap new l) ≡ 7 + length (line_bytes l)
unfolding original_head
listed-length n gap new l h = ap length (listed-head n gap new l h) ∙ length-append (original_head (n + 1) gap new) (line_bytes l)

stars-length : length (bytes " ****  ") ≡ 7
unfolding bytes
stars-length = refl

listing-length : (n : ℕ) (gap : Bool) (rs : List Record) → n + length (old_side rs) ≤ 65535
    → length (listing_from n gap rs) ≡ 7 * length (new_side rs) + length (lines_bytes (new_side rs))
unfolding listing_from old_side old_of new_side new_of lines_bytes
listing-length n gap [] h = refl
listing-length n gap (kept l ∷ rs) h =
    let p = listed-length n gap false l (omega arith) in
    let q = listing-length (suc n) false rs (omega arith) in
    simp length-append (omega (arith, p, q))
listing-length n gap (changed o l ∷ rs) h =
    let p = listed-length n gap true l (omega arith) in
    let q = listing-length (suc n) false rs (omega arith) in
    simp length-append (omega (arith, p, q))
listing-length n gap (deleted l ∷ rs) h = listing-length (suc n) true rs (omega arith)
listing-length n gap (inserted l ∷ rs) h =
    let q = listing-length n gap rs h in
    simp length-append (omega (arith, q, stars-length))

pub out-length : (view : View) (rs : List Record) → length (old_side rs) ≤ 65535 → length (out_of view rs) ≡ length_by view (measures_of rs)
unfolding out_of length_by measures_of
out-length OldSide rs h = refl
out-length NewSide rs h = refl
out-length Listing rs h = listing-length 0 false rs (omega arith)
