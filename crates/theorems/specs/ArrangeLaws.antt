-- The laws of arranging a journal (document 02, wish 6), and wish 6 itself, proved.
use Rattle.std.specs.Prelude.{◌≡◌, refl, Bool, true, false, ℕ, suc, ◌+◌}
use Rattle.std.proofs.Common.{sym, ap, ◌∙◌, arith}
use Rattle.std.proofs.Math.Path.{subst}
use mathlib.Core.List.{List, [], ◌∷◌, ◌++◌, append_assoc, append-nil}
use Rattle.definitions.specs.Bytes.{Line, bytes, line_bytes}
use Rattle.definitions.specs.Journal.{Record, kept, changed, deleted, inserted, old_of, old_side, new_of, new_side, record_length, journal_length}
use Rattle.definitions.specs.Listing.{listed_line, listing_from, listing}
use Rattle.definitions.specs.Arranging.{arrange_from, arrange}
use Rattle.theorems.specs.Each.{Each, each_append}
use Rattle.theorems.specs.Arranged.{IsApart, Stretch, gone_in, came_in, WishSix}

-- a record before others
abbrev pub then : Record → List Record → List Record
then r rs = r ∷ rs

-- a `++` record
abbrev pub IsCame : Record → Type 0
IsCame (kept l) = ⊥
IsCame (changed o n) = ⊥
IsCame (deleted l) = ⊥
IsCame (inserted l) = Unit {0}

pub came-more : (came : List Record) (l : Line) → Each IsCame came → Each IsCame (came ++ (inserted l ∷ []))
came-more came l h = each_append IsCame came (inserted l ∷ []) h (tt, tt)

-- ---- arranging is nothing but `++` records that pass behind `--` records, one at a time

-- so a relation that is kept by that, and by what stands before, holds between a journal and the arranged one
module _ (R : List Record → List Record → Type 0) (same : (rs : List Record) → R rs rs) (join : (rs ss ts : List Record) → R rs ss → R ss ts → R rs ts)
    (after : (r : Record) (rs ss : List Record) → R rs ss → R (r ∷ rs) (r ∷ ss))
    (passes : (l k : Line) (rs : List Record) → R (inserted l ∷ deleted k ∷ rs) (deleted k ∷ inserted l ∷ rs)) where
  after-all : (before rs ss : List Record) → R rs ss → R (before ++ rs) (before ++ ss)
  after-all [] rs ss h = h
  after-all (r ∷ before) rs ss h = after r (before ++ rs) (before ++ ss) (after-all before rs ss h)

  -- a `--` passes before all `++` that stand before it
  first : (came : List Record) (k : Line) (rs : List Record) → Each IsCame came → R (came ++ (deleted k ∷ rs)) (deleted k ∷ (came ++ rs))
  first [] k rs h = same (deleted k ∷ rs)
  first (kept l ∷ came) k rs h = absurd h.0
  first (changed o n ∷ came) k rs h = absurd h.0
  first (deleted l ∷ came) k rs h = absurd h.0
  first (inserted l ∷ came) k rs h =
      join (inserted l ∷ (came ++ (deleted k ∷ rs))) (inserted l ∷ deleted k ∷ (came ++ rs)) (deleted k ∷ inserted l ∷ (came ++ rs))
      (after (inserted l) (came ++ (deleted k ∷ rs)) (deleted k ∷ (came ++ rs)) (first came k rs h.1)) (passes l k (came ++ rs))

  arranged-from : (came rs : List Record) → Each IsCame came → R (came ++ rs) (arrange_from came rs)
  unfolding arrange_from
  arranged-from came [] h = subst (λ (x : List Record). R x came) (sym (append-nil came)) (same came)
  arranged-from came (kept l ∷ rs) h = after-all came (kept l ∷ rs) (kept l ∷ arrange_from [] rs) (after (kept l) rs (arrange_from [] rs) (arranged-from [] rs tt))
  arranged-from came (changed o n ∷ rs) h =
      after-all came (changed o n ∷ rs) (changed o n ∷ arrange_from [] rs) (after (changed o n) rs (arrange_from [] rs) (arranged-from [] rs tt))
  arranged-from came (deleted k ∷ rs) h =
      join (came ++ (deleted k ∷ rs)) (deleted k ∷ (came ++ rs)) (deleted k ∷ arrange_from came rs)
      (first came k rs h) (after (deleted k) (came ++ rs) (arrange_from came rs) (arranged-from came rs h))
  arranged-from came (inserted l ∷ rs) h =
      subst (λ (x : List Record). R x (arrange_from (came ++ (inserted l ∷ [])) rs)) (append_assoc came (inserted l ∷ []) rs)
      (arranged-from (came ++ (inserted l ∷ [])) rs (came-more came l h))

  pub arranged-by : (rs : List Record) → R rs (arrange rs)
  unfolding arrange
  arranged-by rs = arranged-from [] rs tt

-- what is told of a journal record by record, and does not see a `++` pass behind a `--`, is told of the arranged one
module _ {X : Type 0} (f : List Record → X) (after : (r : Record) (rs ss : List Record) → f ss ≡ f rs → f (r ∷ ss) ≡ f (r ∷ rs))
    (passes : (l k : Line) (rs : List Record) → f (deleted k ∷ inserted l ∷ rs) ≡ f (inserted l ∷ deleted k ∷ rs)) where
  told : (rs : List Record) → f (arrange rs) ≡ f rs
  told rs = arranged-by (λ a b. f b ≡ f a) (λ a. refl) (λ a b c p q. q ∙ p) (λ r a b p. after r a b p) passes rs

-- "must change neither side"
pub arrange-old : (rs : List Record) → old_side (arrange rs) ≡ old_side rs
unfolding old_side old_of
arrange-old rs = told old_side (λ r a b p. ap (λ (z : List Line). old_of r ++ z) p) (λ l k a. refl) rs

pub arrange-new : (rs : List Record) → new_side (arrange rs) ≡ new_side rs
unfolding new_side new_of
arrange-new rs = told new_side (λ r a b p. ap (λ (z : List Line). new_of r ++ z) p) (λ l k a. refl) rs

pub arrange-length : (rs : List Record) → journal_length (arrange rs) ≡ journal_length rs
unfolding journal_length
arrange-length rs = told journal_length (λ r a b p. ap (λ (z : ℕ). record_length r + z) p) (λ l k a. omega arith) rs

-- the listing, whatever was listed before it
abbrev Listed : Type 0
Listed = ℕ → Bool → List ℕ

listed-after : (r : Record) (rs ss : List Record)
    → ◌≡◌ {A = Listed} (λ n gap. listing_from n gap ss) (λ n gap. listing_from n gap rs)
    → ◌≡◌ {A = Listed} (λ n gap. listing_from n gap (r ∷ ss)) (λ n gap. listing_from n gap (r ∷ rs))
unfolding listing_from
listed-after (kept l) rs ss p = ap (λ (z : Listed). λ n gap. listed_line (suc n) gap false l ++ z (suc n) false) p
listed-after (changed o l) rs ss p = ap (λ (z : Listed). λ n gap. listed_line (suc n) gap true l ++ z (suc n) false) p
listed-after (deleted l) rs ss p = ap (λ (z : Listed). λ n gap. z (suc n) true) p
listed-after (inserted l) rs ss p = ap (λ (z : Listed). λ n gap. bytes " ****  " ++ (line_bytes l ++ z n gap)) p

pub arrange-listing : (rs : List Record) → listing (arrange rs) ≡ listing rs
unfolding listing listing_from
arrange-listing rs = ap (λ (z : Listed). z 0 false) (told (λ a. λ n gap. listing_from n gap a) listed-after (λ l k a. refl) rs)

-- what holds of each record
pub arrange-each : (P : Record → Type 0) (rs : List Record) → Each P rs → Each P (arrange rs)
arrange-each P rs = arranged-by (λ a b. Each P a → Each P b) (λ a h. h) (λ a b c p q h. q (p h)) (λ r a b p h. (h.0, p h.1)) (λ l k a h. (h.1.0, (h.0, h.1.1))) rs

-- ---- one record first

-- a `++` goes behind the `--` that stand first
unfoldable pub behind : Line → List Record → List Record
behind l [] = inserted l ∷ []
behind l (kept k ∷ rs) = inserted l ∷ kept k ∷ rs
behind l (changed o n ∷ rs) = inserted l ∷ changed o n ∷ rs
behind l (deleted k ∷ rs) = deleted k ∷ behind l rs
behind l (inserted k ∷ rs) = inserted l ∷ inserted k ∷ rs

-- where no `--` stands first it stays
behind-came : (l : Line) (came rs : List Record) → Each IsCame came → behind l rs ≡ inserted l ∷ rs → behind l (came ++ rs) ≡ inserted l ∷ (came ++ rs)
unfolding behind
behind-came l [] rs h e = e
behind-came l (kept k ∷ came) rs h e = absurd h.0
behind-came l (changed o n ∷ came) rs h e = absurd h.0
behind-came l (deleted k ∷ came) rs h e = absurd h.0
behind-came l (inserted k ∷ came) rs h e = refl

behind-from : (l : Line) (came rs : List Record) → Each IsCame came → arrange_from (inserted l ∷ came) rs ≡ behind l (arrange_from came rs)
unfolding arrange_from behind
behind-from l came [] h = sym (ap (behind l) (sym (append-nil came)) ∙ behind-came l came [] h refl ∙ ap (λ (z : List Record). inserted l ∷ z) (append-nil came))
behind-from l came (kept k ∷ rs) h = sym (behind-came l came (kept k ∷ arrange_from [] rs) h refl)
behind-from l came (changed o n ∷ rs) h = sym (behind-came l came (changed o n ∷ arrange_from [] rs) h refl)
behind-from l came (deleted k ∷ rs) h = ap (then (deleted k)) (behind-from l came rs h)
behind-from l came (inserted k ∷ rs) h = behind-from l (came ++ (inserted k ∷ [])) rs (came-more came k h)

-- arranging, record by record
pub arrange-kept : (l : Line) (rs : List Record) → arrange (kept l ∷ rs) ≡ kept l ∷ arrange rs
unfolding arrange arrange_from
arrange-kept l rs = refl

pub arrange-changed : (o n : Line) (rs : List Record) → arrange (changed o n ∷ rs) ≡ changed o n ∷ arrange rs
unfolding arrange arrange_from
arrange-changed o n rs = refl

pub arrange-deleted : (l : Line) (rs : List Record) → arrange (deleted l ∷ rs) ≡ deleted l ∷ arrange rs
unfolding arrange arrange_from
arrange-deleted l rs = refl

pub arrange-inserted : (l : Line) (rs : List Record) → arrange (inserted l ∷ rs) ≡ behind l (arrange rs)
unfolding arrange arrange_from
arrange-inserted l rs = behind-from l [] rs tt

-- ---- parts

-- `++` records that stand first
came-first : (held came rs : List Record) → Each IsCame came → arrange_from held (came ++ rs) ≡ arrange_from (held ++ came) rs
unfolding arrange_from
came-first held [] rs h = ap (λ (z : List Record). arrange_from z rs) (sym (append-nil held))
came-first held (kept l ∷ came) rs h = absurd h.0
came-first held (changed o n ∷ came) rs h = absurd h.0
came-first held (deleted l ∷ came) rs h = absurd h.0
came-first held (inserted l ∷ came) rs h =
    came-first (held ++ (inserted l ∷ [])) came rs h.1 ∙ ap (λ (z : List Record). arrange_from z rs) (append_assoc held (inserted l ∷ []) came)

again-from : (came rs : List Record) → Each IsCame came → arrange_from [] (arrange_from came rs) ≡ arrange_from came rs
unfolding arrange_from
again-from came [] h = ap (arrange_from []) (sym (append-nil came)) ∙ came-first [] came [] h
again-from came (kept l ∷ rs) h = came-first [] came (kept l ∷ arrange_from [] rs) h ∙ ap (λ (z : List Record). came ++ (kept l ∷ z)) (again-from [] rs tt)
again-from came (changed o n ∷ rs) h = came-first [] came (changed o n ∷ arrange_from [] rs) h ∙ ap (λ (z : List Record). came ++ (changed o n ∷ z)) (again-from [] rs tt)
again-from came (deleted l ∷ rs) h = ap (then (deleted l)) (again-from came rs h)
again-from came (inserted l ∷ rs) h = again-from (came ++ (inserted l ∷ [])) rs (came-more came l h)

-- arranging twice is arranging once
pub arrange-again : (rs : List Record) → arrange (arrange rs) ≡ arrange rs
unfolding arrange
arrange-again rs = again-from [] rs tt

apart-ends : (came : List Record) (r : Record) (after : List Record) → IsApart r → arrange_from came (r ∷ after) ≡ came ++ (r ∷ arrange after)
unfolding arrange_from arrange
apart-ends came (kept l) after h = refl
apart-ends came (changed o n) after h = refl
apart-ends came (deleted l) after h = absurd h
apart-ends came (inserted l) after h = absurd h

apart_from : (came rs : List Record) (r : Record) (after : List Record) → IsApart r → arrange_from came (rs ++ (r ∷ after)) ≡ arrange_from came rs ++ (r ∷ arrange after)
unfolding arrange_from
apart_from came [] r after h = apart-ends came r after h
apart_from came (kept l ∷ rs) r after h =
    ap (λ (z : List Record). came ++ (kept l ∷ z)) (apart_from [] rs r after h) ∙ sym (append_assoc came (kept l ∷ arrange_from [] rs) (r ∷ arrange after))
apart_from came (changed o n ∷ rs) r after h =
    ap (λ (z : List Record). came ++ (changed o n ∷ z)) (apart_from [] rs r after h) ∙ sym (append_assoc came (changed o n ∷ arrange_from [] rs) (r ∷ arrange after))
apart_from came (deleted l ∷ rs) r after h = ap (then (deleted l)) (apart_from came rs r after h)
apart_from came (inserted l ∷ rs) r after h = apart_from (came ++ (inserted l ∷ [])) rs r after h

-- a kept or changed record parts what stands before it from what stands after it
pub arrange-parts : (before : List Record) (r : Record) (after : List Record) → IsApart r → arrange (before ++ (r ∷ after)) ≡ arrange before ++ (r ∷ arrange after)
unfolding arrange
arrange-parts before r after h = apart_from [] before r after h

-- no records, or a kept or changed one first
abbrev pub BeginsApart : List Record → Type 0
BeginsApart [] = Unit {0}
BeginsApart (r ∷ rs) = IsApart r

-- what stands before them is arranged by itself
pub arrange-apart : (rs after : List Record) → BeginsApart after → arrange (rs ++ after) ≡ arrange rs ++ arrange after
unfolding arrange arrange_from
arrange-apart rs [] b = ap arrange (append-nil rs) ∙ sym (append-nil (arrange rs))
arrange-apart rs (r ∷ after) b = arrange-parts rs r after b ∙ ap (λ (z : List Record). arrange rs ++ z) (sym (arrange-parts [] r after b))

-- not a `++` record
abbrev pub NotCame : Record → Type 0
NotCame r = IsCame r → ⊥

-- records without a `++` stay, whatever stands after them
pub arrange-after : (rs xs : List Record) → Each NotCame rs → arrange (rs ++ xs) ≡ rs ++ arrange xs
unfolding arrange arrange_from
arrange-after [] xs h = refl
arrange-after (kept l ∷ rs) xs h = ap (then (kept l)) (arrange-after rs xs h.1)
arrange-after (changed o n ∷ rs) xs h = ap (then (changed o n)) (arrange-after rs xs h.1)
arrange-after (deleted l ∷ rs) xs h = ap (then (deleted l)) (arrange-after rs xs h.1)
arrange-after (inserted l ∷ rs) xs h = absurd (h.0 tt)

-- `++` records alone stay
pub arrange-came : (rs : List Record) → Each IsCame rs → arrange rs ≡ rs
unfolding arrange arrange_from
arrange-came rs h = ap (arrange_from []) (sym (append-nil rs)) ∙ came-first [] rs [] h

-- records of which each is kept or changed stay, whatever stands before them
pub arrange-tail : (rs xs : List Record) → Each IsApart xs → arrange (rs ++ xs) ≡ arrange rs ++ xs
unfolding arrange arrange_from
arrange-tail rs [] h = ap arrange (append-nil rs) ∙ sym (append-nil (arrange rs))
arrange-tail rs (x ∷ xs) h = arrange-parts rs x xs h.0 ∙ ap (λ (z : List Record). arrange rs ++ (x ∷ z)) (arrange-tail [] xs h.1)

stretch-from : (came rs : List Record) → Stretch rs → arrange_from came rs ≡ gone_in rs ++ (came ++ came_in rs)
unfolding arrange_from gone_in came_in
stretch-from came [] h = sym (append-nil came)
stretch-from came (kept l ∷ rs) h = absurd h.0
stretch-from came (changed o n ∷ rs) h = absurd h.0
stretch-from came (deleted l ∷ rs) h = ap (then (deleted l)) (stretch-from came rs h.1)
stretch-from came (inserted l ∷ rs) h =
    stretch-from (came ++ (inserted l ∷ [])) rs h.1 ∙ ap (λ (z : List Record). gone_in rs ++ z) (append_assoc came (inserted l ∷ []) (came_in rs))

-- a stretch has its `--` first, then its `++`
pub arrange-stretch : (rs : List Record) → Stretch rs → arrange rs ≡ gone_in rs ++ came_in rs
unfolding arrange
arrange-stretch rs h = stretch-from [] rs h

-- WISH 6
pub wish-six : WishSix
wish-six rs = record {
  parts = λ before r after h q. ap arrange q ∙ arrange-parts before r after h;
  stretch = arrange-stretch rs;
  old-side = arrange-old rs;
  new-side = arrange-new rs;
  listed = arrange-listing rs;
  long = arrange-length rs;
  again = arrange-again rs;
}
