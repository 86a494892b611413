-- The globals of a script: their strings are text, the first is not empty. A line passed through such globals is a line.
use Rattle.std.specs.Prelude.{◌≡◌, refl, Bool, true, false, not, ◌&&◌, List, [], ◌∷◌, ◌++◌, length, ltb}
use Rattle.std.proofs.Common.{sym, arith, ltb-false}
use Rattle.std.proofs.Math.Bool.{and-eq-true_iff}
use Prim.Native.Nat.{ℕ, zero, suc, ◌-◌}
use Rattle.definitions.specs.Bytes.{Line, is_text, all_text, is_line}
use Rattle.definitions.specs.Matching.{stands_first}
use Rattle.definitions.specs.Strings.{is_empty}
use Rattle.definitions.specs.Given.{Global, global, Carried, carried, no_globals}
use Rattle.definitions.specs.Editor.{n25, Got, got, stop}
use Rattle.definitions.specs.Globals.{put_for_each, passed_through, left_by}
use Rattle.definitions.specs.Edit.{Change, after_it, before_it, exchange, add_global, global_by}
use Rattle.theorems.specs.Each.{Each}
use Rattle.theorems.specs.Passing.{CarriedOf}
use Rattle.theorems.specs.Lines.{and_left, and_right}
use Rattle.theorems.specs.JournalBytes.{IsLine, line-text, line_of}
use Rattle.theorems.specs.GoodItems.{good_op}
use Rattle.theorems.specs.GoodLines.{appended-text}

-- "An empty first string is 4" (W2.1)
pub record GoodStrings (s put : Line) : Type 0 where
  pub first : all_text s ≡ true
  pub second : all_text put ≡ true
  pub has_byte : is_empty s ≡ false

abbrev pub GoodGlobal : Global → Type 0
GoodGlobal (global s put) = GoodStrings s put

-- so are all that stand
abbrev pub GoodCarried : Carried → Type 0
GoodCarried c = CarriedOf GoodGlobal c

pub none-good : GoodCarried no_globals
unfolding no_globals
none-good = tt

-- ---- GE, GA, GB of a script

not-true : (b : Bool) → not b ≡ true → b ≡ false
not-true true h = sym h
not-true false h = refl

module _ (s new : Line) (h : is_line s && not (is_empty s) && is_line new ≡ true) where
  first-text : all_text s ≡ true
  first-text = line-text s (and_left (is_line s) (not (is_empty s)) (and_left (is_line s && not (is_empty s)) (is_line new) h))

  new-text : all_text new ≡ true
  new-text = line-text new (and_right (is_line s && not (is_empty s)) (is_line new) h)

  some_byte : is_empty s ≡ false
  some_byte = not-true (is_empty s) (and_right (is_line s) (not (is_empty s)) (and_left (is_line s && not (is_empty s)) (is_line new) h))

pub global-good : (c : Change) (s new : Line) → good_op (add_global c s new) ≡ true → GoodGlobal (global_by c s new)
unfolding good_op global_by
global-good after_it s new h =
    record { first = first-text s new h; second = appended-text s new (first-text s new h) (new-text s new h); has_byte = some_byte s new h }
global-good before_it s new h =
    record { first = first-text s new h; second = appended-text new s (new-text s new h) (first-text s new h); has_byte = some_byte s new h }
global-good exchange s new h = record { first = first-text s new h; second = new-text s new h; has_byte = some_byte s new h }

-- ---- a line passed through them

text-parts : (b : ℕ) (l : Line) → all_text (b ∷ l) ≡ true → (is_text b ≡ true) × (all_text l ≡ true)
unfolding all_text
text-parts b l h = (and-eq-true_iff (is_text b) (all_text l)).0 h

pub put-text : (s put : Line) → all_text put ≡ true → (skip : ℕ) (l : Line) → all_text l ≡ true → all_text (put_for_each s put skip l) ≡ true
unfolding put_for_each
put-text s put k skip [] h = h
put-text s put k (suc skip) (b ∷ l) h = put-text s put k skip l (text-parts b l h).1
put-text s put k zero (b ∷ l) h =
    by (stands_first false s (b ∷ l)) (text-parts b l h) (put-text s put k (length s - 1) l) (put-text s put k zero l)
  where
    by : (x : Bool) → (is_text b ≡ true) × (all_text l ≡ true) → (all_text l ≡ true → all_text (put_for_each s put (length s - 1) l) ≡ true) → (all_text l ≡ true → all_text (put_for_each s put zero l) ≡ true)
        → all_text (elim x [ true ↦ put ++ put_for_each s put (length s - 1) l | false ↦ b ∷ put_for_each s put zero l ]) ≡ true
    by true p f g = appended-text put (put_for_each s put (length s - 1) l) k (f p.1)
    by false p f g = unfold all_text in ((and-eq-true_iff (is_text b) (all_text (put_for_each s put zero l))).1 (p.0, g p.1))

-- the line that is left, if they do not stop
abbrev LeftLine : Got Line → Type 0
LeftLine (got new) = IsLine new
LeftLine (stop n) = Unit {0}

passed-line : (gs : List Global) (l : Line) → Each GoodGlobal gs → IsLine l → LeftLine (passed_through gs l)
unfolding passed_through
passed-line [] l a h = h
passed-line (global s put ∷ gs) l a h =
    by (ltb 255 (length (put_for_each s put 0 l))) refl (put-text s put a.0.second 0 l (line-text l h)) (passed-line gs (put_for_each s put 0 l) a.1)
  where
    by : (x : Bool) → ltb 255 (length (put_for_each s put 0 l)) ≡ x → all_text (put_for_each s put 0 l) ≡ true
        → (IsLine (put_for_each s put 0 l) → LeftLine (passed_through gs (put_for_each s put 0 l)))
        → LeftLine (elim x [ true ↦ stop n25 | false ↦ passed_through gs (put_for_each s put 0 l) ])
    by true q t f = tt
    by false q t f = f (line_of (put_for_each s put 0 l) t (omega (arith, ltb-false 255 (length (put_for_each s put 0 l)) q)))

-- through a list of globals, and through those that stand
pub through-line : (gs : List Global) (l new : Line) → Each GoodGlobal gs → passed_through gs l ≡ got new → IsLine l → IsLine new
through-line gs l new a q h = rw q at (passed-line gs l a h)

pub left-line : (c : Carried) (l new : Line) → GoodCarried c → left_by c l ≡ got new → IsLine l → IsLine new
unfolding left_by
left-line (carried gs xs) l new a q h = through-line gs l new a q h
