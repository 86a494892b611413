-- Some at places of a journal's bytes: a record found, and the places after records. Assumes nothing.
use Rattle.std.proofs.Common.{Option, Some, None}
use mathlib.Core.Path.{◌≡◌, refl, sym, ap, subst, ◌∙◌}
use mathlib.Core.Bool.{Bool, true, false, cond, ◌&&◌, and-eq-true_iff}
use mathlib.Core.List.{List, [], ◌∷◌, ◌++◌}
use Prim.Native.Nat.{ℕ, suc, ◌+◌, ◌-◌, ◌≤◌, ◌<◌}
use native.Mathlib.Nat.{add-zero}
use native.Mathlib.Omega.{arith}
use lib.ListN.{length, drop, get_or}
use lib.Seq.{drop-cons}
use lib.Dec.{eqb, leb}
use borrow.Author.Tests.{eqb-true, leb-true, leb-false}
use Rattle.definitions.specs.Bytes.{Line, line_bytes}
use Rattle.definitions.specs.Journal.{Record, record_bytes, record_length, journal_length}
use Rattle.definitions.specs.Joining.{turn_one}
use Rattle.theorems.specs.Arranged.{IsApart}
use Rattle.text.specs.Lines.{line_end, part}
use Rattle.text.proofs.Ends.{Ended, ended-bytes}
use Rattle.journal.specs.Records.{mark_of, mark_in, after_second, after_first, record_at, record_of, record_in, Left}
use Rattle.journal.specs.declared.records.Mark.{Mark}
use Rattle.journal.specs.declared.records.Mark.TheVariants.{Kept, Changed, Deleted, Inserted}
use Rattle.journal.specs.declared.records.Extent.{Extent}
use Rattle.journal.proofs.Places.{mark-there, no-mark, no-first, first}
use Rattle.journal.proofs.Here.{LastLine, found-is, none_found, here, nowhere, changed-last}
use Rattle.journal.proofs.Left.{none-some, left_end, left-next}
use Rattle.turning.specs.Rows.{first_byte, line_in}

-- ---- the mark of a record found

abbrev MarkBytes : Mark → ℕ → ℕ → Type 0
MarkBytes Kept a b = (a ≡ 61) × (b ≡ 61)
MarkBytes Changed a b = (a ≡ 60) × (b ≡ 62)
MarkBytes Deleted a b = (a ≡ 45) × (b ≡ 45)
MarkBytes Inserted a b = (a ≡ 43) × (b ≡ 43)

both : (a x b y : ℕ) → (eqb a x && eqb b y) ≡ true → (a ≡ x) × (b ≡ y)
both a x b y h = let k = (and-eq-true_iff (eqb a x) (eqb b y)).0 h in (eqb-true a x k.0, eqb-true b y k.1)

is-is : (m n : Mark) → Some m ≡ Some n → m ≡ n
is-is m n h = cc

no-is : (m : Mark) → None ≡ Some m → ⊥
no-is m h = let z : ◌≡◌ {A = ℕ} 0 1 = cc in omega arith

module _ (a b : ℕ) (m : Mark) where
  mark-by : (n : Mark) (t : Bool) (more : Option Mark) → (t ≡ true → MarkBytes n a b) → (more ≡ Some m → MarkBytes m a b) → cond t (Some n) more ≡ Some m → MarkBytes m a b
  mark-by n true more yes-it other h = subst (λ (k : Mark). MarkBytes k a b) (is-is n m h) (yes-it refl)
  mark-by n false more yes-it other h = other h

  mark-bytes : mark_of a b ≡ Some m → MarkBytes m a b
  unfolding mark_of
  mark-bytes h =
      mark-by Kept (eqb a 61 && eqb b 61) _ (both a 61 b 61)
      (mark-by Changed (eqb a 60 && eqb b 62) _ (both a 60 b 62)
      (mark-by Deleted (eqb a 45 && eqb b 45) _ (both a 45 b 45)
      (mark-by Inserted (eqb a 43 && eqb b 43) None (both a 43 b 43) (λ k. absurd (no-is m k))))) h

mark-after : (j : List ℕ) (at mid : ℕ) (m : Mark) (x : Extent) → after_first j at mid m ≡ Some x → x.mark ≡ m
unfolding after_first after_second
mark-after j at mid Kept x h = sym (ap (λ (y : Extent). y.mark) (found-is _ x h))
mark-after j at mid Deleted x h = sym (ap (λ (y : Extent). y.mark) (found-is _ x h))
mark-after j at mid Inserted x h = sym (ap (λ (y : Extent). y.mark) (found-is _ x h))
mark-after j at mid Changed x h = go (line_end (mid + 1) (drop (mid + 1) j)) h
  where
    go : (e : Option ℕ) → after_second at mid e ≡ Some x → x.mark ≡ Changed
    go None k = absurd (none_found x k)
    go (Some end) k = sym (ap (λ (y : Extent). y.mark) (found-is _ x k))

mark-found : (j : List ℕ) (at : ℕ) (x : Extent) → record_at j at ≡ Some x → mark_in (drop at j) ≡ Some x.mark
mark-found j at x h = go_mark (mark_in (drop at j)) refl
  where
    go_first : (m : Mark) → mark_in (drop at j) ≡ Some m → (e : Option ℕ) → line_end (at + 2) (drop (at + 2) j) ≡ e → mark_in (drop at j) ≡ Some x.mark
    go_first m k None e = absurd (none_found x (sym (no-first j at m k e) ∙ h))
    go_first m k (Some mid) e = k ∙ ap Some (sym (mark-after j at mid m x (sym (first j at m k mid e) ∙ h)))

    go_mark : (m : Option Mark) → mark_in (drop at j) ≡ m → mark_in (drop at j) ≡ Some x.mark
    go_mark None e = absurd (none_found x (sym (no-mark j at e) ∙ h))
    go_mark (Some m) e = go_first m e (line_end (at + 2) (drop (at + 2) j)) refl

-- ---- a record found: its first byte, its lines, its length

byte-by : (m : Mark) (a b : ℕ) (k l : Line) → MarkBytes m a b → a ≡ first_byte (record_of m k l)
unfolding first_byte record_of
byte-by Kept a b k l h = h.0
byte-by Changed a b k l h = h.0
byte-by Deleted a b k l h = h.0
byte-by Inserted a b k l h = h.0

line-by : (m : Mark) (k l : Line) → line_in (record_of m k l) ≡ k
unfolding line_in record_of
line-by Kept k l = refl
line-by Changed k l = refl
line-by Deleted k l = refl
line-by Inserted k l = refl

first_of : (a b : ℕ) (bs : List ℕ) (j : List ℕ) (at : ℕ) → at < length j → drop at j ≡ a ∷ b ∷ bs → get_or j at 0 ≡ a
first_of a b bs j at h e = ap (λ (r : List ℕ). get_or r 0 0) (sym (drop-cons j at 0 h) ∙ e)

module _ (j : List ℕ) (at : ℕ) (x : Extent) (found : record_at j at ≡ Some x) where
  front : (a : ℕ) × (b : ℕ) × (at + 2 ≤ length j) × (drop at j ≡ a ∷ b ∷ drop (at + 2) j) × (mark_of a b ≡ Some x.mark)
  front = mark-there j at x.mark (mark-found j at x found)

  pub found-byte : get_or j at 0 ≡ first_byte (record_in j x)
  unfolding record_in
  found-byte =
      let f = front in
      first_of f.0 f.1 (drop (at + 2) j) j at (omega (arith, f.2)) f.3 ∙ byte-by x.mark f.0 f.1 _ _ (mark-bytes f.0 f.1 x.mark f.4)

  pub found-line : part (at + 2) (x.mid + 1) j ≡ line_bytes (line_in (record_in j x))
  unfolding record_in
  found-line =
      let w = here j at x found in
      ended-bytes j (at + 2) x.mid w.first
      ∙ ap line_bytes (ap (λ (n : ℕ). part (n + 2) x.mid j) (sym w.place) ∙ sym (line-by x.mark (part (x.at + 2) x.mid j) (part (x.mid + 1) x.end j)))

  long-by : (m : Mark) → LastLine m j x.mid x.end → Ended j (at + 2) x.mid → x.end + 1 ≡ at + record_length (record_of m (part (at + 2) x.mid j) (part (x.mid + 1) x.end j))
  unfolding record_length record_of
  long-by Kept l f = omega (arith, l, f.long, f.low)
  long-by Changed l f = omega (arith, l.long, l.low, f.long, f.low)
  long-by Deleted l f = omega (arith, l, f.long, f.low)
  long-by Inserted l f = omega (arith, l, f.long, f.low)

  pub found-length : x.end + 1 ≡ at + record_length (record_in j x)
  unfolding record_in
  found-length = let w = here j at x found in rw w.place (long-by x.mark w.last w.first)

  -- ---- a kept or changed record as it is turned round

  marked-part : (a b e : ℕ) → drop at j ≡ a ∷ b ∷ drop (at + 2) j → at + 2 ≤ e → part at e j ≡ a ∷ b ∷ part (at + 2) e j
  marked-part a b e f h =
      let n : e - at ≡ suc (suc (e - (at + 2))) = omega arith in
      rw (n, f)

  -- it is not changed: it stays
  pub one_kept : IsApart (record_in j x) → (x.mark ≡ Changed → ⊥) → part at (x.end + 1) j ≡ record_bytes (turn_one (record_in j x))
  unfolding record_in record_of record_bytes turn_one
  one_kept apart other = go x.mark refl
    where
      go : (m : Mark) → x.mark ≡ m → part at (x.end + 1) j ≡ record_bytes (turn_one (record_in j x))
      go Kept e =
          let w = here j at x found in
          let f = front in
          let b : (f.0 ≡ 61) × (f.1 ≡ 61) = subst (λ (m : Mark). MarkBytes m f.0 f.1) e (mark-bytes f.0 f.1 x.mark f.4) in
          let last : x.end ≡ x.mid = subst (λ (m : Mark). LastLine m j x.mid x.end) e w.last in
          rw (e, w.place, last, marked-part f.0 f.1 (x.mid + 1) f.3 (omega (arith, w.first.low)), b.0, b.1, ended-bytes j (at + 2) x.mid w.first)
      go Changed e = absurd (other e)
      go Deleted e = absurd (rw e at apart)
      go Inserted e = absurd (rw e at apart)

  -- it is changed: its two lines change places
  pub one-changed : x.mark ≡ Changed → (60 ∷ 62 ∷ part (x.mid + 1) (x.end + 1) j) ++ part (at + 2) (x.mid + 1) j ≡ record_bytes (turn_one (record_in j x))
  unfolding record_in record_of record_bytes turn_one
  one-changed e =
      let w = here j at x found in
      let last : Ended j (x.mid + 1) x.end = changed-last j at x w e in
      rw (e, w.place, ended-bytes j (x.mid + 1) x.end last, ended-bytes j (at + 2) x.mid w.first)

-- ---- the records that are left

pub cons-is : (r q : Record) (rs qs : List Record) → r ∷ rs ≡ q ∷ qs → (r ≡ q) × (rs ≡ qs)
cons-is r q rs qs h = (cc, cc)

cons-nil : (r : Record) (rs : List Record) → r ∷ rs ≡ [] → ⊥
cons-nil r rs h = let z : ◌≡◌ {A = ℕ} 0 1 = cc in omega arith

module _ (j : List ℕ) where
  -- before the end a record is found
  pub left-found : (at : ℕ) (rs : List Record) → Left j at rs → at < length j → (x : Extent) × (record_at j at ≡ Some x)
  left-found at rs l h = go (record_at j at) refl
    where
      go : (f : Option Extent) → record_at j at ≡ f → (x : Extent) × (record_at j at ≡ Some x)
      go (Some x) e = (x, e)
      go None e = absurd (none-some rs (sym (nowhere j at h e) ∙ l))

  -- where a record is left, it is found
  pub left-first : (at : ℕ) (r : Record) (rs : List Record) → Left j at (r ∷ rs) → at < length j
  left-first at r rs l = go (leb (length j) at) refl
    where
      go : (t : Bool) → leb (length j) at ≡ t → at < length j
      go true e = absurd (cons-nil r rs (left_end j at (r ∷ rs) (leb-true (length j) at e) l))
      go false e = leb-false (length j) at e

  -- one record further
  pub left-cons : (at : ℕ) (r : Record) (rs : List Record) → Left j at (r ∷ rs) → Left j (at + record_length r) rs × (at + record_length r ≤ length j)
  left-cons at r rs l =
      let f = left-found at (r ∷ rs) l (left-first at r rs l) in
      let n = left-next j at (r ∷ rs) f.0 l f.1 in
      let e = cons-is r (record_in j f.0) rs n.0 n.2 in
      let k : f.0.end + 1 ≡ at + record_length r = found-length j at f.0 f.1 ∙ ap (λ (q : Record). at + record_length q) (sym e.0) in
      (moved (f.0.end + 1) (at + record_length r) k n.0 rs (sym e.1) n.1, omega (arith, k, (here j at f.0 f.1).inside))
    where
      moved : (a b : ℕ) → a ≡ b → (ps qs : List Record) → ps ≡ qs → Left j a ps → Left j b qs
      moved a b e ps qs k l = rw (← e, ← k) l

  -- some records further
  pub left_after : (at : ℕ) (rs qs : List Record) → Left j at (rs ++ qs) → at ≤ length j → Left j (at + journal_length rs) qs × (at + journal_length rs ≤ length j)
  unfolding journal_length
  left_after at [] qs l h = rw (add-zero at) (l, h)
  left_after at (r ∷ rs) qs l h =
      let f = left-cons at r (rs ++ qs) l in
      let n : at + record_length r + journal_length rs ≡ at + (record_length r + journal_length rs) = omega arith in
      rw n at (left_after (at + record_length r) rs qs f.0 f.1)

  -- the records that are left reach to the end
  pub left-long : (at : ℕ) (rs : List Record) → Left j at rs → at ≤ length j → at + journal_length rs ≡ length j
  unfolding journal_length
  left-long at [] l h = go (leb (length j) at) refl
    where
      go : (t : Bool) → leb (length j) at ≡ t → at + 0 ≡ length j
      go true e = omega (arith, leb-true (length j) at e)
      go false e =
          let f = left-found at [] l (leb-false (length j) at e) in
          let n = left-next j at [] f.0 l f.1 in
          absurd (cons-nil (record_in j f.0) n.0 (sym n.2))
  left-long at (r ∷ rs) l h =
      let n = left-cons at r rs l in
      omega (arith, left-long (at + record_length r) rs n.0 n.1)
