-- What comes next of two journals, in terms of their records: a line's texts are those of its records, what it leaves is what `by_middle` has of it, and the middle
-- tables agree if they do after it. Assumes nothing.
use Rattle.std.proofs.Common.{Option, Some, None, IfSome, Ok, Err}
use mathlib.Core.Path.{◌≡◌, refl, sym, ap, subst, ◌∙◌}
use mathlib.Core.Bool.{Bool, true, false, cond, false≢true}
use mathlib.Core.List.{List, [], ◌∷◌, ◌++◌}
use Prim.Native.Nat.{ℕ, ◌+◌, ◌-◌, ◌≤◌, ◌<◌}
use native.Mathlib.Omega.{arith}
use lib.ListN.{length}
use Rattle.definitions.specs.Bytes.{Line, line_bytes}
use Rattle.definitions.specs.Journal.{Record, deleted, inserted, old_of, old_side, new_of, new_side, change, rewrite, erase}
use Rattle.definitions.specs.Joining.{at_middle, by_middle, eq_lines}
use Rattle.theorems.specs.JournalBytes.{line-short}
use Rattle.text.specs.Lines.{part}
use Rattle.text.proofs.Ends.{Ended, ended-bytes}
use Rattle.journal.specs.Records.{record_at, record_of, record_in, old_span, new_span, Left}
use Rattle.journal.specs.declared.records.Mark.{Mark}
use Rattle.journal.specs.declared.records.Mark.TheVariants.{Kept, Changed, Deleted, Inserted}
use Rattle.journal.specs.declared.records.Extent.{Extent}
use Rattle.journal.specs.declared.records.Span.{Span}
use Rattle.journal.proofs.Here.{LastLine, Here, here}
use Rattle.journal.proofs.Left.{left-next, left-none}
use Rattle.middle.specs.Middle.{left_next, came_next, rest_by, at_end, Coming, texts_of, same_spans, met_by, middle_by, at_middle_line, next_by, next_from, next_at}
use Rattle.middle.specs.Leaving.{text_in, leaves_by, leaves, At, Within, Stand}
use Rattle.middle.specs.declared.Places.{Places}
use Rattle.middle.specs.declared.Texts.{Texts}
use Rattle.journal.specs.declared.Refusal.TheVariants.{Differ}

-- ---- records: what a middle line leaves, by its old and its new line

unfoldable left_by : List Line → List Line → List Record
left_by [] [] = []
left_by [] (n ∷ ns) = inserted n ∷ []
left_by (o ∷ os) [] = deleted o ∷ []
left_by (o ∷ os) (n ∷ ns) = change o n ∷ []

-- a record with a line on the new side, and one with a line on the old side
abbrev IsNew : Mark → Type 0
IsNew Kept = Unit {0}
IsNew Changed = Unit {0}
IsNew Deleted = ⊥
IsNew Inserted = Unit {0}

abbrev IsOld : Mark → Type 0
IsOld Kept = Unit {0}
IsOld Changed = Unit {0}
IsOld Deleted = Unit {0}
IsOld Inserted = ⊥

module _ (a b c d : Line) (rs ss : List Record) where
  by_both : (m n : Mark) → IsNew m → IsOld n
      → by_middle (record_of m a b ∷ rs) (record_of n c d ∷ ss) ≡ left_by (old_of (record_of m a b)) (new_of (record_of n c d)) ++ by_middle rs ss
  unfolding by_middle at_middle record_of left_by old_of new_of rewrite erase
  by_both Kept Kept h k = refl
  by_both Kept Changed h k = refl
  by_both Kept Deleted h k = refl
  by_both Kept Inserted h k = absurd k
  by_both Changed Kept h k = refl
  by_both Changed Changed h k = refl
  by_both Changed Deleted h k = refl
  by_both Changed Inserted h k = absurd k
  by_both Deleted n h k = absurd h
  by_both Inserted Kept h k = refl
  by_both Inserted Changed h k = refl
  by_both Inserted Deleted h k = refl
  by_both Inserted Inserted h k = absurd k

  by-came : (m : Mark) → IsNew m → by_middle (record_of m a b ∷ rs) (inserted c ∷ ss) ≡ inserted c ∷ by_middle (record_of m a b ∷ rs) ss
  unfolding by_middle at_middle record_of
  by-came Kept h = refl
  by-came Changed h = refl
  by-came Deleted h = absurd h
  by-came Inserted h = refl

-- ---- spans

unfoldable span_line : List ℕ → Option Span → List Line
span_line j (Some s) = part s.from (s.to - 1) j ∷ []
span_line j None = []

texts-leave : (j k : List ℕ) (s t : Option Span) → leaves j k (texts_of s t) ≡ left_by (span_line j s) (span_line k t)
unfolding leaves leaves_by left_by span_line text_in
texts-leave j k (Some s) (Some t) = refl
texts-leave j k (Some s) None = refl
texts-leave j k None (Some t) = refl
texts-leave j k None None = refl

-- a span with a line
abbrev IsSpan : Option Span → Type 0
IsSpan (Some s) = Unit {0}
IsSpan None = ⊥

same_lines : (j k : List ℕ) (s t : Option Span) (ls ms : List Line) → same_spans j k s t ≡ true → eq_lines (span_line j s ++ ls) (span_line k t ++ ms) ≡ eq_lines ls ms
unfolding same_spans span_line eq_lines
same_lines j k (Some s) (Some t) ls ms h = rw h
same_lines j k (Some s) None ls ms h = absurd (false≢true h)
same_lines j k None t ls ms h = absurd (false≢true h)

other-lines : (j k : List ℕ) (s t : Option Span) (ls ms : List Line) → IsSpan s → IsSpan t → same_spans j k s t ≡ false → eq_lines (span_line j s ++ ls) (span_line k t ++ ms) ≡ false
unfolding same_spans span_line eq_lines
other-lines j k (Some s) (Some t) ls ms u v h = rw h
other-lines j k (Some s) None ls ms u v h = absurd v
other-lines j k None t ls ms u v h = absurd u

-- a line more on either side
one_more : (j : List ℕ) (s : Option Span) (ls : List Line) → IsSpan s → (eq_lines (span_line j s ++ ls) [] ≡ false) × (eq_lines [] (span_line j s ++ ls) ≡ false)
unfolding span_line eq_lines
one_more j (Some s) ls h = (refl, refl)
one_more j None ls h = absurd h

new-span : (m : Mark) (x : Extent) → IsNew m → IsSpan (new_span m x)
unfolding new_span
new-span Kept x h = tt
new-span Changed x h = tt
new-span Deleted x h = absurd h
new-span Inserted x h = tt

old-span : (m : Mark) (x : Extent) → IsOld m → IsSpan (old_span m x)
unfolding old_span
old-span Kept x h = tt
old-span Changed x h = tt
old-span Deleted x h = tt
old-span Inserted x h = absurd h

-- ---- a record found in a journal

text-is : (j : List ℕ) (a e : ℕ) → text_in j (record { from = a; to = e + 1 }) ≡ part a e j
unfolding text_in
text-is j a e =
    let one_less : e + 1 - 1 ≡ e = omega arith in
    rw one_less

line-in : (j : List ℕ) (a e : ℕ) → Ended j a e → Within j (record { from = a; to = e + 1 })
line-in j a e f =
    let s = line-short (part a e j) f.line in record {
      low = omega (arith, f.low);
      inside = omega (arith, f.high);
      short = omega (arith, s, f.long, f.low);
      line = ended-bytes j a e f ∙ ap line_bytes (sym (text-is j a e));
    }

module _ (j : List ℕ) (at : ℕ) (x : Extent) (w : Here j at x) where
  abbrev first_part : Line
  first_part = part (x.at + 2) x.mid j

  abbrev last_part : Line
  last_part = part (x.mid + 1) x.end j

  ended-first : Ended j (x.at + 2) x.mid
  ended-first = subst (λ (i : ℕ). Ended j (i + 2) x.mid) (sym w.place) w.first

  one_line : (a e : ℕ) → span_line j (Some (record { from = a; to = e + 1 })) ≡ part a e j ∷ []
  unfolding span_line
  one_line a e =
      let z : e + 1 - 1 ≡ e = omega arith in
      rw z

  old-by : (m : Mark) → span_line j (old_span m x) ≡ old_of (record_of m first_part last_part)
  unfolding old_span old_of record_of span_line
  old-by Kept = one_line (x.at + 2) x.mid
  old-by Changed = one_line (x.at + 2) x.mid
  old-by Deleted = one_line (x.at + 2) x.mid
  old-by Inserted = refl

  new_by : (m : Mark) → span_line j (new_span m x) ≡ new_of (record_of m first_part last_part)
  unfolding new_span new_of record_of span_line
  new_by Kept = one_line (x.at + 2) x.mid
  new_by Changed = one_line (x.mid + 1) x.end
  new_by Deleted = refl
  new_by Inserted = one_line (x.at + 2) x.mid

  -- its old line and its new line
  old-line : span_line j (old_span x.mark x) ≡ old_of (record_in j x)
  unfolding record_in
  old-line = old-by x.mark

  new_line : span_line j (new_span x.mark x) ≡ new_of (record_in j x)
  unfolding record_in
  new_line = new_by x.mark

  old-stands : (m : Mark) → IfSome (old_span m x) (Within j)
  unfolding old_span
  old-stands Kept = line-in j (x.at + 2) x.mid ended-first
  old-stands Changed = line-in j (x.at + 2) x.mid ended-first
  old-stands Deleted = line-in j (x.at + 2) x.mid ended-first
  old-stands Inserted = tt

  new-stands : (m : Mark) → LastLine m j x.mid x.end → IfSome (new_span m x) (Within j)
  unfolding new_span
  new-stands Kept l = line-in j (x.at + 2) x.mid ended-first
  new-stands Changed l = line-in j (x.mid + 1) x.end l
  new-stands Deleted l = tt
  new-stands Inserted l = line-in j (x.at + 2) x.mid ended-first

  after : at < x.end + 1
  after = omega (arith, w.first.low, w.order)

-- ---- what is told of what comes next

-- the line `line` comes next of `rs` and `ss`, and `next` are the places after it
pub record Step (j k : List ℕ) (p : Places) (rs ss : List Record) (line : Texts) (next : Places) : Type 0 where
  pub rest : List Record
  pub rest₂ : List Record
  pub at : At j k next rest rest₂
  pub agree : eq_lines (new_side rs) (old_side ss) ≡ eq_lines (new_side rest) (old_side rest₂)
  pub joined : by_middle rs ss ≡ leaves j k line ++ by_middle rest rest₂
  pub stand : Stand j k line
  pub further : p.first + p.second < next.first + next.second

abbrev pub Told : List ℕ → List ℕ → Places → List Record → List Record → Coming → Type 0
Told j k p rs ss (Ok (Some n)) = Step j k p rs ss n.line n.after
Told j k p rs ss (Ok None) = (rs ≡ []) × (ss ≡ [])
Told j k p rs ss (Err e) = (e ≡ Differ) × (eq_lines (new_side rs) (old_side ss) ≡ false)

module _ (j k : List ℕ) (p : Places) (in_first : p.first ≤ length j) (in_second : p.second ≤ length k) where
  -- a record of the first journal
  module _ (x : Extent) (w : Here j p.first x) (qs : List Record) (l : Left j (x.end + 1) qs) where
    new-side : new_side (record_in j x ∷ qs) ≡ span_line j (new_span x.mark x) ++ new_side qs
    unfolding new_side
    new-side = ap (λ (ls : List Line). ls ++ new_side qs) (sym (new_line j p.first x w))

    -- that it deletes
    told-left : (ss : List Record) → Left k p.second ss → x.mark ≡ Deleted → Told j k p (record_in j x ∷ qs) ss (Ok (Some (left_next x p)))
    unfolding left_next
    told-left ss s e = record {
      rest = qs;
      rest₂ = ss;
      at = record { first = l; second = s; in_first = omega (arith, w.inside); in_second = in_second };
      agree = unfold new_side new_of record_in record_of in (rw e);
      joined = unfold by_middle record_in record_of leaves leaves_by text_in in (rw (e, one_less));
      stand = (line-in j (x.at + 2) x.mid (ended-first j p.first x w), tt);
      further = omega (arith, after j p.first x w);
    }
      where
        one_less : x.mid + 1 - 1 ≡ x.mid
        one_less = omega arith

    -- with a line on the new side, and the second journal at its end
    told_more : IsNew x.mark → Told j k p (record_in j x ∷ qs) [] (Err Differ)
    unfolding old_side
    told_more h = (refl, rw new-side (one_more j (new_span x.mark x) (new_side qs) (new-span x.mark x h)).0)

    module _ (y : Extent) (v : Here k p.second y) (ts : List Record) (m : Left k (y.end + 1) ts) where
      old-side : old_side (record_in k y ∷ ts) ≡ span_line k (old_span y.mark y) ++ old_side ts
      unfolding old_side
      old-side = ap (λ (ls : List Line). ls ++ old_side ts) (sym (old-line k p.second y v))

      by-records : IsNew x.mark → IsOld y.mark → by_middle (record_in j x ∷ qs) (record_in k y ∷ ts) ≡ left_by (old_of (record_in j x)) (new_of (record_in k y)) ++ by_middle qs ts
      unfolding record_in
      by-records h i = by_both _ _ _ _ qs ts x.mark y.mark h i

      lines_left : leaves j k (texts_of (old_span x.mark x) (new_span y.mark y)) ≡ left_by (old_of (record_in j x)) (new_of (record_in k y))
      lines_left =
          texts-leave j k (old_span x.mark x) (new_span y.mark y)
          ∙ ap (λ (ls : List Line). left_by ls (span_line k (new_span y.mark y))) (old-line j p.first x w)
          ∙ ap (left_by (old_of (record_in j x))) (new_line k p.second y v)

      -- one middle line, by both
      told-met : IsNew x.mark → IsOld y.mark → Told j k p (record_in j x ∷ qs) (record_in k y ∷ ts) (met_by j k x y)
      unfolding met_by
      told-met h i = go (same_spans j k (new_span x.mark x) (old_span y.mark y)) refl
        where
          go : (t : Bool) → same_spans j k (new_span x.mark x) (old_span y.mark y) ≡ t
              → Told j k p (record_in j x ∷ qs) (record_in k y ∷ ts)
              (cond t (Ok (Some (record { line = texts_of (old_span x.mark x) (new_span y.mark y); after = record { first = x.end + 1; second = y.end + 1 } }))) (Err Differ))
          go true e = record {
            rest = qs;
            rest₂ = ts;
            at = record { first = l; second = m; in_first = omega (arith, w.inside); in_second = omega (arith, v.inside) };
            agree = rw (new-side, old-side) (same_lines j k (new_span x.mark x) (old_span y.mark y) (new_side qs) (old_side ts) e);
            joined = by-records h i ∙ ap (λ (z : List Record). z ++ by_middle qs ts) (sym lines_left);
            stand = (old-stands j p.first x w x.mark, new-stands k p.second y v y.mark v.last);
            further = omega (arith, after j p.first x w, after k p.second y v);
          }
          go false e = (
            refl,
            rw (new-side, old-side)
                (other-lines j k (new_span x.mark x) (old_span y.mark y) (new_side qs) (old_side ts) (new-span x.mark x h) (old-span y.mark y i) e),
          )

  -- a record that the second journal inserts, before a middle line or at the end of the first
  module _ (rs : List Record) (f : Left j p.first rs) (y : Extent) (v : Here k p.second y) (ts : List Record) (m : Left k (y.end + 1) ts) where
    told-came : y.mark ≡ Inserted → ((c : Line) → by_middle rs (inserted c ∷ ts) ≡ inserted c ∷ by_middle rs ts) → Told j k p rs (record_in k y ∷ ts) (Ok (Some (came_next y p)))
    unfolding came_next
    told-came e b = record {
      rest = rs;
      rest₂ = ts;
      at = record { first = f; second = m; in_first = in_first; in_second = omega (arith, v.inside) };
      agree = unfold old_side old_of record_in record_of in (rw e);
      joined = unfold record_in record_of leaves leaves_by text_in in (rw (e, one_less) (b _));
      stand = (tt, line-in k (y.at + 2) y.mid (ended-first k p.second y v));
      further = omega (arith, after k p.second y v);
    }
      where
        one_less : y.mid + 1 - 1 ≡ y.mid
        one_less = omega arith

  -- any other, where the first has ended
  told-rest : (y : Extent) (v : Here k p.second y) (ts : List Record) → IsOld y.mark → Told j k p [] (record_in k y ∷ ts) (Err Differ)
  unfolding new_side old_side
  told-rest y v ts h = (
    refl,
    ap (λ (ls : List Line). eq_lines [] (ls ++ old_side ts)) (sym (old-line k p.second y v)) ∙ (one_more k (old_span y.mark y) (old_side ts) (old-span y.mark y h)).1,
  )

  -- the first journal has ended
  rest-by : (y : Extent) (v : Here k p.second y) (ts : List Record) → Left j p.first [] → Left k (y.end + 1) ts → (n : Mark) → y.mark ≡ n
      → Told j k p [] (record_in k y ∷ ts) (rest_by n y p)
  unfolding rest_by by_middle
  rest-by y v ts f m Kept e = told-rest y v ts (subst IsOld (sym e) tt)
  rest-by y v ts f m Changed e = told-rest y v ts (subst IsOld (sym e) tt)
  rest-by y v ts f m Deleted e = told-rest y v ts (subst IsOld (sym e) tt)
  rest-by y v ts f m Inserted e = told-came [] f y v ts m e (λ c. refl)

  told-end : Left j p.first [] → (ss : List Record) → Left k p.second ss → (o : Option Extent) → record_at k p.second ≡ o → Told j k p [] ss (at_end o p)
  unfolding at_end
  told-end f ss s None e = (refl, left-none k p.second ss s e)
  told-end f ss s (Some y) e =
      let t = left-next k p.second ss y s e in
      subst (λ (z : List Record). Told j k p [] z (rest_by y.mark y p)) (sym t.2) (rest-by y (here k p.second y e) t.0 f t.1 y.mark refl)

  -- the first journal's next record is a middle line
  module _ (x : Extent) (w : Here j p.first x) (qs : List Record) (l : Left j (x.end + 1) qs) (f : Left j p.first (record_in j x ∷ qs)) (h : IsNew x.mark) where
    came-before : (ts : List Record) (c : Line) → by_middle (record_in j x ∷ qs) (inserted c ∷ ts) ≡ inserted c ∷ by_middle (record_in j x ∷ qs) ts
    unfolding record_in
    came-before ts c = by-came _ _ c [] qs ts x.mark h

    middle-by : (y : Extent) (v : Here k p.second y) (ts : List Record) → Left k (y.end + 1) ts → (n : Mark) → y.mark ≡ n
        → Told j k p (record_in j x ∷ qs) (record_in k y ∷ ts) (middle_by j k n x y p)
    unfolding middle_by
    middle-by y v ts m Kept e = told-met x w qs l y v ts m h (subst IsOld (sym e) tt)
    middle-by y v ts m Changed e = told-met x w qs l y v ts m h (subst IsOld (sym e) tt)
    middle-by y v ts m Deleted e = told-met x w qs l y v ts m h (subst IsOld (sym e) tt)
    middle-by y v ts m Inserted e = told-came (record_in j x ∷ qs) f y v ts m e (came-before ts)

    told-middle : (ss : List Record) → Left k p.second ss → (o : Option Extent) → record_at k p.second ≡ o → Told j k p (record_in j x ∷ qs) ss (at_middle_line j k x o p)
    unfolding at_middle_line
    told-middle ss s None e =
        subst (λ (z : List Record). Told j k p (record_in j x ∷ qs) z (Err Differ)) (sym (left-none k p.second ss s e)) (told_more x w qs l h)
    told-middle ss s (Some y) e =
        let t = left-next k p.second ss y s e in
        subst (λ (z : List Record). Told j k p (record_in j x ∷ qs) z (middle_by j k y.mark x y p)) (sym t.2)
        (middle-by y (here k p.second y e) t.0 t.1 y.mark refl)

  next-by : (x : Extent) (w : Here j p.first x) (qs ss : List Record) → Left j (x.end + 1) qs → Left j p.first (record_in j x ∷ qs) → Left k p.second ss
      → (n : Mark) → x.mark ≡ n → Told j k p (record_in j x ∷ qs) ss (next_by j k n x p)
  unfolding next_by
  next-by x w qs ss l f s Kept e = told-middle x w qs l f (subst IsNew (sym e) tt) ss s (record_at k p.second) refl
  next-by x w qs ss l f s Changed e = told-middle x w qs l f (subst IsNew (sym e) tt) ss s (record_at k p.second) refl
  next-by x w qs ss l f s Deleted e = told-left x w qs l ss s e
  next-by x w qs ss l f s Inserted e = told-middle x w qs l f (subst IsNew (sym e) tt) ss s (record_at k p.second) refl

  told-first : (rs ss : List Record) → Left j p.first rs → Left k p.second ss → (o : Option Extent) → record_at j p.first ≡ o → Told j k p rs ss (next_from j k o p)
  unfolding next_from
  told-first rs ss f s None e =
      let z = left-none j p.first rs f e in
      subst (λ (q : List Record). Told j k p q ss (at_end (record_at k p.second) p)) (sym z)
      (told-end (subst (λ (q : List Record). Left j p.first q) z f) ss s (record_at k p.second) refl)
  told-first rs ss f s (Some x) e =
      let t = left-next j p.first rs x f e in
      subst (λ (q : List Record). Told j k p q ss (next_by j k x.mark x p)) (sym t.2)
      (next-by x (here j p.first x e) t.0 ss t.1 (subst (λ (q : List Record). Left j p.first q) t.2 f) s x.mark refl)

-- told of what comes next
pub told : (j k : List ℕ) (p : Places) (rs ss : List Record) → At j k p rs ss → Told j k p rs ss (next_at j k p)
unfolding next_at
told j k p rs ss h = told-first j k p h.in_first h.in_second rs ss h.first h.second (record_at j p.first) refl
