-- A record found at a place: its lines, and what it does to the records of the bytes from there on. Assumes nothing.
use Rattle.std.proofs.Common.{Option, Some, None}
use mathlib.Core.Path.{◌≡◌, refl, sym, ap, subst, ◌∙◌}
use mathlib.Core.Bool.{false, not}
use mathlib.Core.Option.{none}
use mathlib.Core.List.{List, ◌∷◌, ◌++◌}
use Prim.Native.Nat.{ℕ, suc, ◌+◌, ◌≤◌, ◌<◌}
use native.Mathlib.Omega.{arith}
use lib.ListN.{length, drop, get_or}
use lib.Seq.{drop-cons}
use Rattle.definitions.specs.Bytes.{Line, eq_line}
use Rattle.definitions.specs.Journal.{followed}
use Rattle.text.specs.Lines.{line_end, part}
use Rattle.text.proofs.Lines.{Plain, line_plain}
use Rattle.text.proofs.Ends.{Ended, ended}
use Rattle.journal.specs.Records.{mark_of, mark_in, record_at, record_of, record_in, equal_lines, unchanged_in, InOrder, records_from}
use Rattle.journal.specs.declared.records.Mark.{Mark}
use Rattle.journal.specs.declared.records.Mark.TheVariants.{Kept, Changed, Deleted, Inserted}
use Rattle.journal.specs.declared.records.Extent.{Extent}
use Rattle.journal.proofs.Places.{mark-there, no-mark, no-first, no_second, found-kept, found-changed, found-deleted, found-inserted}
use Rattle.journal.proofs.Walk.{from-kept, from-changed, from-deleted, from-inserted, from-unmarked, from-bad, from-bad-new}

-- the last line of a record: a changed record's second line, else its only one
abbrev pub LastLine : Mark → List ℕ → ℕ → ℕ → Type 0
LastLine Kept j mid end = end ≡ mid
LastLine Changed j mid end = Ended j (mid + 1) end
LastLine Deleted j mid end = end ≡ mid
LastLine Inserted j mid end = end ≡ mid

pub record Here (j : List ℕ) (at : ℕ) (x : Extent) : Type 0 where
  pub place : x.at ≡ at
  pub first : Ended j (at + 2) x.mid
  pub last : LastLine x.mark j x.mid x.end
  pub order : x.mid ≤ x.end
  pub inside : x.end < length j
  pub records : records_from (drop at j) ≡ followed (not (unchanged_in j x)) (record_in j x) (records_from (drop (x.end + 1) j))

module _ (j : List ℕ) (at a b mid : ℕ) (front : drop at j ≡ a ∷ b ∷ drop (at + 2) j) (f : Ended j (at + 2) mid) where
  front-line : drop at j ≡ a ∷ b ∷ (part (at + 2) mid j ++ (10 ∷ drop (mid + 1) j))
  front-line = front ∙ ap (λ (r : List ℕ). a ∷ b ∷ r) f.split

  plain : Plain (part (at + 2) mid j)
  plain = line_plain (part (at + 2) mid j) f.line

  here-kept : mark_of a b ≡ Some Kept → Here j at (record { at = at; mark = Kept; mid = mid; end = mid })
  unfolding unchanged_in equal_lines record_in record_of
  here-kept h = record {
    place = refl;
    first = f;
    last = refl;
    order = omega arith;
    inside = f.high;
    records = ap records_from front-line ∙ from-kept a b (part (at + 2) mid j) (drop (mid + 1) j) plain h ∙ rw f.line;
  }

  here-deleted : mark_of a b ≡ Some Deleted → Here j at (record { at = at; mark = Deleted; mid = mid; end = mid })
  unfolding unchanged_in equal_lines record_in record_of
  here-deleted h = record {
    place = refl;
    first = f;
    last = refl;
    order = omega arith;
    inside = f.high;
    records = ap records_from front-line ∙ from-deleted a b (part (at + 2) mid j) (drop (mid + 1) j) plain h ∙ rw f.line;
  }

  here-inserted : mark_of a b ≡ Some Inserted → Here j at (record { at = at; mark = Inserted; mid = mid; end = mid })
  unfolding unchanged_in equal_lines record_in record_of
  here-inserted h = record {
    place = refl;
    first = f;
    last = refl;
    order = omega arith;
    inside = f.high;
    records = ap records_from front-line ∙ from-inserted a b (part (at + 2) mid j) (drop (mid + 1) j) plain h ∙ rw f.line;
  }

  here-changed : (end : ℕ) → Ended j (mid + 1) end → mark_of a b ≡ Some Changed → Here j at (record { at = at; mark = Changed; mid = mid; end = end })
  unfolding unchanged_in equal_lines record_in record_of
  here-changed end g h =
      let k : Line = part (at + 2) mid j in
      let n : Line = part (mid + 1) end j in record {
        place = refl;
        first = f;
        last = g;
        order = omega arith;
        inside = g.high;
        records = ap records_from (front-line ∙ ap (λ (r : List ℕ). a ∷ b ∷ (k ++ (10 ∷ r))) g.split)
            ∙ from-changed a b k n (drop (end + 1) j) plain (line_plain n g.line) h ∙ rw (f.line, g.line);
      }

pub found-is : (x y : Extent) → Some x ≡ Some y → x ≡ y
found-is x y h = cc

pub none_found : (x : Extent) → None ≡ Some x → ⊥
none_found x h = let z : ◌≡◌ {A = ℕ} 0 1 = cc in omega arith

-- a record found
pub here : (j : List ℕ) (at : ℕ) (x : Extent) → record_at j at ≡ Some x → Here j at x
here j at x h = go_mark (mark_in (drop at j)) refl
  where
    moved : (y : Extent) → record_at j at ≡ Some y → Here j at y → Here j at x
    moved y e w = subst (λ (z : Extent). Here j at z) (found-is y x (sym e ∙ h)) w

    go_second : (mid : ℕ) → mark_in (drop at j) ≡ Some Changed → line_end (at + 2) (drop (at + 2) j) ≡ Some mid → (e : Option ℕ) → line_end (mid + 1) (drop (mid + 1) j) ≡ e → Here j at x
    go_second mid m k None g = absurd (none_found x (sym (no_second j at Changed m mid k refl g) ∙ h))
    go_second mid m k (Some end) g =
        let w = mark-there j at Changed m in
        moved _ (found-changed j at Changed m mid k refl end g) (here-changed j at w.0 w.1 mid w.3 (ended j (at + 2) mid k) end (ended j (mid + 1) end g) w.4)

    go_kind : (mid : ℕ) (m : Mark) → mark_in (drop at j) ≡ Some m → line_end (at + 2) (drop (at + 2) j) ≡ Some mid → Here j at x
    go_kind mid Kept m k =
        let w = mark-there j at Kept m in
        moved _ (found-kept j at Kept m mid k refl) (here-kept j at w.0 w.1 mid w.3 (ended j (at + 2) mid k) w.4)
    go_kind mid Changed m k = go_second mid m k (line_end (mid + 1) (drop (mid + 1) j)) refl
    go_kind mid Deleted m k =
        let w = mark-there j at Deleted m in
        moved _ (found-deleted j at Deleted m mid k refl) (here-deleted j at w.0 w.1 mid w.3 (ended j (at + 2) mid k) w.4)
    go_kind mid Inserted m k =
        let w = mark-there j at Inserted m in
        moved _ (found-inserted j at Inserted m mid k refl) (here-inserted j at w.0 w.1 mid w.3 (ended j (at + 2) mid k) w.4)

    go_first : (m : Mark) → mark_in (drop at j) ≡ Some m → (e : Option ℕ) → line_end (at + 2) (drop (at + 2) j) ≡ e → Here j at x
    go_first m k None e = absurd (none_found x (sym (no-first j at m k e) ∙ h))
    go_first m k (Some mid) e = go_kind mid m k e

    go_mark : (m : Option Mark) → mark_in (drop at j) ≡ m → Here j at x
    go_mark None e = absurd (none_found x (sym (no-mark j at e) ∙ h))
    go_mark (Some m) e = go_first m e (line_end (at + 2) (drop (at + 2) j)) refl

-- a record ends after its place, within the journal
pub ends-after : (j : List ℕ) (at : ℕ) (x : Extent) → record_at j at ≡ Some x → (at < x.end) × (x.end < length j)
ends-after j at x h =
    let w = here j at x h in
    (omega (arith, w.first.low, w.order), w.inside)

-- its places stand in order, within the journal
pub in-places : (j : List ℕ) (at : ℕ) (x : Extent) → record_at j at ≡ Some x → (at + 2 ≤ x.mid) × (x.mid ≤ x.end) × (x.end < length j)
in-places j at x h = let w = here j at x h in (w.first.low, w.order, w.inside)

-- none found
pub nowhere : (j : List ℕ) (at : ℕ) → at < length j → record_at j at ≡ None → records_from (drop at j) ≡ none
nowhere j at inj h = go_mark (mark_in (drop at j)) refl
  where
    told : (x : Extent) → record_at j at ≡ Some x → ⊥
    told x e = none_found x (sym h ∙ e)

    go_second : (mid : ℕ) → mark_in (drop at j) ≡ Some Changed → line_end (at + 2) (drop (at + 2) j) ≡ Some mid → (e : Option ℕ) → line_end (mid + 1) (drop (mid + 1) j) ≡ e → records_from (drop at j) ≡ none
    go_second mid m k None g =
        let w = mark-there j at Changed m in
        let f = ended j (at + 2) mid k in
        ap records_from (front-line j at w.0 w.1 mid w.3 f)
        ∙ from-bad-new w.0 w.1 (part (at + 2) mid j) (drop (mid + 1) j) (mid + 1) w.4 (plain j at w.0 w.1 mid w.3 f) g
    go_second mid m k (Some end) g = absurd (told _ (found-changed j at Changed m mid k refl end g))

    go_kind : (mid : ℕ) (m : Mark) → mark_in (drop at j) ≡ Some m → line_end (at + 2) (drop (at + 2) j) ≡ Some mid → records_from (drop at j) ≡ none
    go_kind mid Kept m k = absurd (told _ (found-kept j at Kept m mid k refl))
    go_kind mid Changed m k = go_second mid m k (line_end (mid + 1) (drop (mid + 1) j)) refl
    go_kind mid Deleted m k = absurd (told _ (found-deleted j at Deleted m mid k refl))
    go_kind mid Inserted m k = absurd (told _ (found-inserted j at Inserted m mid k refl))

    go_first : (m : Mark) → mark_in (drop at j) ≡ Some m → (e : Option ℕ) → line_end (at + 2) (drop (at + 2) j) ≡ e → records_from (drop at j) ≡ none
    go_first m k None e =
        let w = mark-there j at m k in
        ap records_from w.3 ∙ from-bad w.0 w.1 m (drop (at + 2) j) (at + 2) w.4 e
    go_first m k (Some mid) e = go_kind mid m k e

    go_mark : (m : Option Mark) → mark_in (drop at j) ≡ m → records_from (drop at j) ≡ none
    go_mark None e =
        let f : drop at j ≡ get_or j at 0 ∷ drop (suc at) j = drop-cons j at 0 inj in
        ap records_from f ∙ from-unmarked (get_or j at 0) (drop (suc at) j) (sym (ap mark_in f) ∙ e)
    go_mark (Some m) e = go_first m e (line_end (at + 2) (drop (at + 2) j)) refl

-- ---- a changed record's lines

pub changed-last : (j : List ℕ) (at : ℕ) (x : Extent) → Here j at x → x.mark ≡ Changed → Ended j (x.mid + 1) x.end
changed-last j at x w e = rw e at w.last

module _ (j : List ℕ) (x : Extent) where
  pub equal-changed : x.mark ≡ Changed → eq_line (part (x.at + 2) x.mid j) (part (x.mid + 1) x.end j) ≡ unchanged_in j x
  unfolding unchanged_in equal_lines
  equal-changed e = rw e

  pub equal-other : (x.mark ≡ Changed → ⊥) → false ≡ unchanged_in j x
  unfolding unchanged_in equal_lines
  equal-other e = go x.mark e
    where
      go : (m : Mark) → (m ≡ Changed → ⊥) → false ≡ equal_lines m (part (x.at + 2) x.mid j) (part (x.mid + 1) x.end j)
      go Kept h = refl
      go Changed h = absurd (h refl)
      go Deleted h = refl
      go Inserted h = refl

  -- where a changed record's second line stands
  pub last-bounds : record_at j x.at ≡ Some x → x.mark ≡ Changed → (x.mid + 1 ≤ x.end) × (x.end < length j)
  last-bounds h e = let f = changed-last j x.at x (here j x.at x h) e in (f.low, f.high)

-- the places of a record found stand in order
pub in_order : (j : List ℕ) (at : ℕ) (x : Extent) → Here j at x → length j < 18446744073709551616 → InOrder x
in_order j at x w h =
    let f = w.first.low in
    let o = w.order in
    let i = w.inside in
    let p = w.place in record {
      low = omega arith;
      high = o;
      small = omega arith;
    }

-- the record found is found from its own place
pub found-again : (j : List ℕ) (at : ℕ) (x : Extent) → record_at j at ≡ Some x → record_at j x.at ≡ Some x
found-again j at x h = ap (record_at j) (here j at x h).place ∙ h
