-- What a qualified string matches lies in the window.
use Rattle.std.specs.Prelude.{◌≡◌, refl, Bool, true, false, ◌&&◌, ℕ, zero, suc, ◌+◌, ◌-◌, ◌≤◌, ◌<◌, length, eqb, leb}
use Rattle.std.proofs.Common.{subst, arith, leb-true, eqb-true}
use Rattle.std.proofs.Math.Option.{Option, none, some}
use Rattle.definitions.specs.Bytes.{Line}
use Rattle.definitions.specs.Matching.{Anchor, anywhere, at_start, at_end, precisely, Columns, all_columns, columns, qualifiers, Qualified, qualified, Text, text, cut, window, after_spaces, stands_at, places, occurrence, place_from, located, only_at, counted, place_in, Match, matched, taken_by, with_width, match_of}
use Rattle.definitions.specs.Patterns.{Pattern, read_pattern}
use Rattle.definitions.specs.Reader.{Got, got, refused}
use Rattle.theorems.specs.Lines.{and_left}
use Rattle.theorems.specs.PatternTaken.{Allows}
use Rattle.theorems.proofs.PatternTaken.{found-matches}
use Rattle.theorems.specs.Places.{TextIn, text_for, MatchIn}

-- ---- the text T lies in the window

window-in : (cols : Columns) (p : ℕ) (l : Line) → p ≤ length l → TextIn p l (window cols p l)
unfolding window cut
window-in all_columns p l h = (omega arith, h, omega arith)
window-in (columns n m) p l h = (omega arith, omega arith, omega arith)

after-in : (skip : Bool) (p : ℕ) (l : Line) (t : Text) → TextIn p l t → TextIn p l (after_spaces skip l t)
unfolding after_spaces
after-in false p l t w = w
after-in true p l (text start end) w = (omega (arith, w.0), omega (arith, w.1), w.2)

pub text_in : (cols : Columns) (skip : Bool) (p : ℕ) (l : Line) → p ≤ length l → TextIn p l (text_for cols skip p l)
text_in cols skip p l h = after-in skip p l (window cols p l) (window-in cols p l h)

-- ---- an occurrence is one of the places

module _ {A : Type 0} (i : ℕ) where
  choose-in : (b : Bool) (x y : Option ℕ) → (x ≡ some i → A) → (y ≡ some i → A) → elim b [ true ↦ x | false ↦ y ] ≡ some i → A
  choose-in true x y f g e = f e
  choose-in false x y f g e = g e

occurs-in : (stands : ℕ → Bool) (w k taken left j i : ℕ) → occurrence stands w k taken left j ≡ some i → (j ≤ i) × (i < j + left)
unfolding occurrence
occurs-in stands w k taken zero j i e = absurd (let z : ◌≡◌ {A = ℕ} 0 1 = cc in omega arith)
occurs-in stands w k (suc taken) (suc left) j i e =
    let r : (suc j ≤ i) × (i < suc j + left) = occurs-in stands w k taken left (suc j) i e in
    (omega (arith, r.0), omega (arith, r.1))
occurs-in stands w zero zero (suc left) j i e =
    choose-in i (stands j) (some j) (occurrence stands w zero zero left (suc j))
    (λ q. let s : j ≡ i = cc in (omega arith, omega arith))
    (λ q. let r : (suc j ≤ i) × (i < suc j + left) = occurs-in stands w zero zero left (suc j) i q in (omega (arith, r.0), omega (arith, r.1))) e
occurs-in stands w (suc k) zero (suc left) j i e =
    choose-in i (stands j) (occurrence stands w k (w - 1) left (suc j)) (occurrence stands w (suc k) zero left (suc j))
    (λ q. let r : (suc j ≤ i) × (i < suc j + left) = occurs-in stands w k (w - 1) left (suc j) i q in (omega (arith, r.0), omega (arith, r.1)))
    (λ q. let r : (suc j ≤ i) × (i < suc j + left) = occurs-in stands w (suc k) zero left (suc j) i q in (omega (arith, r.0), omega (arith, r.1))) e

from_in : (last : Bool) (w start end m i : ℕ) → start ≤ end → m < suc (end - start) - w → place_from last w (text start end) m ≡ i → (start ≤ i) × (i + w ≤ end)
unfolding place_from
from_in false w start end m i h k e = (omega arith, omega arith)
from_in true w start end m i h k e = (omega arith, omega arith)

located-in : (o : Option ℕ) (last : Bool) (w start end i : ℕ) → start ≤ end → ((m : ℕ) → o ≡ some m → m < suc (end - start) - w)
    → located (place_from last w (text start end)) o ≡ some i → (start ≤ i) × (i + w ≤ end)
unfolding located
located-in none last w start end i h f e = absurd (let z : ◌≡◌ {A = ℕ} 0 1 = cc in omega arith)
located-in (some m) last w start end i h f e = from_in last w start end m i h (f m refl) (cc)

only-in : (b : Bool) (k i : ℕ) → only_at b k ≡ some i → (b ≡ true) × (k ≡ i)
unfolding only_at
only-in true k i e = (refl, cc)
only-in false k i e = absurd (let z : ◌≡◌ {A = ℕ} 0 1 = cc in omega arith)

placed-in : (anchor : Anchor) (stands : ℕ → Bool) (w k : ℕ) (last : Bool) (start end i : ℕ) → start ≤ end
    → place_in anchor stands w k last (text start end) ≡ some i → (start ≤ i) × (i + w ≤ end)
unfolding place_in counted places
placed-in anywhere stands w k last start end i h e =
    located-in (occurrence (λ j. stands (place_from last w (text start end) j)) w (k - 1) 0 (suc (end - start) - w) 0) last w start end i h
    (λ m q. omega (arith, (occurs-in (λ j. stands (place_from last w (text start end) j)) w (k - 1) 0 (suc (end - start) - w) 0 m q).1)) e
placed-in at_start stands w k last start end i h e =
    let T : ℕ = place_from false w (text start end) 0 in
    let o : (leb 1 (suc (end - start) - w) && stands T ≡ true) × (T ≡ i) = only-in (leb 1 (suc (end - start) - w) && stands T) T i e in
    let f : 1 ≤ suc (end - start) - w = leb-true 1 (suc (end - start) - w) (and_left (leb 1 (suc (end - start) - w)) (stands T) o.0) in
    from_in false w start end 0 i h (omega arith) o.1
placed-in at_end stands w k last start end i h e =
    let T : ℕ = place_from true w (text start end) 0 in
    let o : (leb 1 (suc (end - start) - w) && stands T ≡ true) × (T ≡ i) = only-in (leb 1 (suc (end - start) - w) && stands T) T i e in
    let f : 1 ≤ suc (end - start) - w = leb-true 1 (suc (end - start) - w) (and_left (leb 1 (suc (end - start) - w)) (stands T) o.0) in
    from_in true w start end 0 i h (omega arith) o.1
placed-in precisely stands w k last start end i h e =
    let T : ℕ = place_from false w (text start end) 0 in
    let o : (eqb (suc (end - start) - w) 1 && stands T ≡ true) × (T ≡ i) = only-in (eqb (suc (end - start) - w) 1 && stands T) T i e in
    let f : suc (end - start) - w ≡ 1 = eqb-true (suc (end - start) - w) 1 (and_left (eqb (suc (end - start) - w) 1) (stands T) o.0) in
    from_in false w start end 0 i h (omega arith) o.1

text-placed : (anchor : Anchor) (stands : ℕ → Bool) (w k : ℕ) (last : Bool) (p : ℕ) (l : Line) (t : Text) (i : ℕ) → TextIn p l t
    → place_in anchor stands w k last t ≡ some i → (p ≤ i) × (i + w ≤ length l)
text-placed anchor stands w k last p l (text start end) i v e =
    let r : (start ≤ i) × (i + w ≤ end) = placed-in anchor stands w k last start end i v.1 e in
    (omega (arith, r.0, v.0), omega (arith, r.1, v.2))

-- ---- the match

width-in : (w p : ℕ) (l : Line) (o : Option ℕ) (m : Match) → ((i : ℕ) → o ≡ some i → (p ≤ i) × (i + w ≤ length l)) → with_width w o ≡ some m → MatchIn p l m
unfolding with_width
width-in w p l none m f e = absurd (let z : ◌≡◌ {A = ℕ} 0 1 = cc in omega arith)
width-in w p l (some i) m f e =
    let is : matched i w ≡ m = cc in
    subst (MatchIn p l) is (f i refl)

-- the part that a pattern takes
allows-in : (anchor : Anchor) (start end i w : ℕ) → Allows anchor start end i w → (start ≤ i) × (i + w ≤ end)
unfolding Allows
allows-in anywhere start end i w a = a
allows-in at_start start end i w a = (omega (arith, a.0), a.1)
allows-in at_end start end i w a = (a.0, omega (arith, a.1))
allows-in precisely start end i w a = (omega (arith, a.0), omega (arith, a.1))

taken_in : (r : Got Pattern) (anchor : Anchor) (last : Bool) (isWord : ℕ → Bool) (w : Bool) (p : ℕ) (l : Line) (t : Text) (m : Match) → TextIn p l t
    → taken_by r anchor last isWord w l t ≡ some m → MatchIn p l m
unfolding taken_by
taken_in (got pat c) anchor last isWord w p l (text start end) m v e =
    let a : (start ≤ m.place) × (m.place + m.width ≤ end) =
    allows-in anchor start end m.place m.width (found-matches isWord w pat l anchor last start end v.1 m e).0 in
    (omega (arith, a.0, v.0), omega (arith, a.1, v.2))
taken_in (refused n at) anchor last isWord w p l t m v e = absurd (let z : ◌≡◌ {A = ℕ} 0 1 = cc in omega arith)

pub match-inside : (isWord : ℕ → Bool) (q : Qualified) (p : ℕ) (l : Line) (m : Match) → p ≤ length l → match_of isWord q p l ≡ some m → MatchIn p l m
unfolding match_of
match-inside isWord (qualified (qualifiers anchor k last n w u skip cols false) s) p l m h =
    width-in (length s) p l (place_in anchor (stands_at isWord w u s l) (length s) k last (text_for cols skip p l)) m
    (λ i. text-placed anchor (stands_at isWord w u s l) (length s) k last p l (text_for cols skip p l) i (text_in cols skip p l h))
match-inside isWord (qualified (qualifiers anchor k last n w u skip cols true) s) p l m h =
    taken_in (read_pattern 0 s) anchor last isWord w p l (text_for cols skip p l) m (text_in cols skip p l h)
