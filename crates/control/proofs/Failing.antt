-- Laws of passing items to the ELSE or the close of a test that failed, and to a line end. Assumes nothing.
use mathlib.Core.Path.{◌≡◌, refl, ap}
use mathlib.Core.Bool.{false}
use mathlib.Core.List.{List, [], ◌∷◌}
use mathlib.Core.Logic.{inl, inr}
use Prim.Native.Nat.{ℕ, zero, suc, ◌+◌, ◌-◌, ◌*◌, ◌≤◌, ◌<◌}
use native.Mathlib.Omega.{arith}
use lib.ListN.{set}
use Rattle.definitions.specs.Control.{bare, Item, opens, close, otherwise, line_end, Frame, frame, running, failing, leaving, pull_at, pull_else, pull_line, pull}
use Rattle.theorems.specs.NestingLaws.{may_bracket}
use Rattle.items.specs.Ends.{class_of}
use Rattle.items.specs.Depth.{open_after}
use Rattle.control.specs.declared.Mode.TheVariants.{Running, Failing, Leaving}
use Rattle.control.specs.Shown.{ItemsFrom, OpenedAt, FramesAt, InFrames, entered, ShowsPoint, Onward, stand_at}
use Rattle.control.specs.declared.Point.{Point}
use Rattle.control.proofs.Standing.{within-as, within_word, runs-body}
use Rattle.control.proofs.Classes.{Reading, At, at_item, runs_on, as_line, as-close, as-otherwise, as-opens}
use Rattle.control.proofs.Passing.{onward-as}
use Rattle.items.specs.declared.ends.Class.{Class}
use Rattle.items.specs.declared.ends.Class.TheVariants.{LineEnd, Close, Else, Opens}

-- no opener, no close, no ELSE
unfoldable pub Plain : Item → Type 0
Plain (opens p o) = ⊥
Plain close = ⊥
Plain otherwise = ⊥
Plain other = Unit {0}

plain-open : (d : ℕ) (i : Item) → Plain i → d ≤ open_after d i
unfolding Plain open_after
plain-open d (opens p o) h = absurd h
plain-open d close h = absurd h
plain-open d otherwise h = absurd h
plain-open d other h = omega arith

is_plain : (class : Class) (i : Item) → class ≡ class_of i → (class ≡ Opens → ⊥) → (class ≡ Close → ⊥) → (class ≡ Else → ⊥) → Plain i
unfolding Plain class_of
is_plain class (opens p o) e a b c = a e
is_plain class close e a b c = b e
is_plain class otherwise e a b c = c e
is_plain class other e a b c = tt

pull-else-plain : (i : Item) (items : List Item) (k : ℕ) (frames : List Frame) → Plain i → pull_else items k frames ≡ pull_else (i ∷ items) k frames
unfolding Plain pull_else
pull-else-plain (opens p o) items k frames h = absurd h
pull-else-plain close items k frames h = absurd h
pull-else-plain otherwise items k frames h = absurd h
pull-else-plain other items k frames h = refl

module _ (k : ℕ) (items : List Item) (frames : List Frame) where
  pull-else-last : k ≡ 1 → pull_at items frames ≡ pull_else (close ∷ items) k frames
  unfolding pull_else
  pull-else-last e = rw e

  pull-else-group : k ≡ 1 → pull_at items (frame false 0 bare items ∷ frames) ≡ pull_else (otherwise ∷ items) k frames
  unfolding pull_else
  pull-else-group e = rw e

pull-else-more : (k : ℕ) (items : List Item) (frames : List Frame) → 1 ≤ k → (k ≡ 1 → ⊥) → pull_else items (k - 1) frames ≡ pull_else (close ∷ items) k frames
unfolding pull_else
pull-else-more zero items frames le more = absurd (omega (arith, le))
pull-else-more (suc zero) items frames le more = absurd (more refl)
pull-else-more (suc (suc k)) items frames le more = ap (λ (x : ℕ). pull_else items x frames) (omega arith)

pull-else-inner : (k : ℕ) (items : List Item) (frames : List Frame) → 1 ≤ k → (k ≡ 1 → ⊥) → pull_else items k frames ≡ pull_else (otherwise ∷ items) k frames
unfolding pull_else
pull-else-inner zero items frames le more = absurd (omega (arith, le))
pull-else-inner (suc zero) items frames le more = absurd (more refl)
pull-else-inner (suc (suc k)) items frames le more = refl

-- ---- to the ELSE or the close

module _ (w : List ℕ) (end at next depth count : ℕ) (class : Class) (reads : Reading w at class next) (less : at < end) (r : Point) (le : 1 ≤ count) (s : List ℕ) (items : List Item) (frames : List Frame)
    (h : InFrames s w end at depth (depth + count) items frames) where
  abbrev Goal : List Item → Type 0
  Goal l = Onward s w end at r (failing count l frames)

  here-is : At s w end at next depth (depth + count) class frames items
  here-is = at_item s w end at next depth (depth + count) class frames reads items less h

  pub else-opens : r ≡ stand_at (Failing (count + 1)) next depth → class ≡ Opens → Onward s w end at r (failing count items frames)
  unfolding ShowsPoint open_after pull pull_else
  else-opens e q =
      as-opens s w end at next depth (depth + count) class frames Goal q items here-is
      (λ p o rest x. onward-as s w end at r (stand_at (Failing (count + 1)) next depth) (failing count (opens p o ∷ rest) frames) e (record {
        to = failing (suc count) rest frames;
        shows = (ap Failing (omega arith), omega arith, within-as s w end frames next depth (depth + count + 1) (depth + suc count) rest (omega arith) x.rest);
        same = refl;
        further = x.less;
      }))

  pub else-last : r ≡ stand_at Running next depth → class ≡ Close → count ≡ 1 → Onward s w end at r (failing count items frames)
  unfolding ShowsPoint open_after pull may_bracket
  else-last e q one =
      as-close s w end at next depth (depth + count) class frames Goal q items here-is
      (λ rest x. onward-as s w end at r (stand_at Running next depth) (failing count (close ∷ rest) frames) e (record {
        to = running rest frames;
        shows = (refl, runs_on s w end at next depth (depth + count) class frames close rest x refl (omega (arith, one)));
        same = pull-else-last count rest frames one;
        further = x.less;
      }))

  pub else-close : r ≡ stand_at (Failing (count - 1)) next depth → class ≡ Close → (count ≡ 1 → ⊥) → Onward s w end at r (failing count items frames)
  unfolding ShowsPoint open_after pull
  else-close e q more =
      as-close s w end at next depth (depth + count) class frames Goal q items here-is
      (λ rest x. onward-as s w end at r (stand_at (Failing (count - 1)) next depth) (failing count (close ∷ rest) frames) e (record {
        to = failing (count - 1) rest frames;
        shows = (refl, omega (arith, le, more), within-as s w end frames next depth (depth + count - 1) (depth + (count - 1)) rest (omega (arith, le)) x.rest);
        same = pull-else-more count rest frames le more;
        further = x.less;
      }))

  -- the group after ELSE runs
  pub else-group : (w' : List ℕ) → w' ≡ set w (end + depth) (at + 65536 * 0) → r ≡ stand_at Running next (depth + 1) → class ≡ Else → count ≡ 1
      → Onward s w' end at r (failing count items frames)
  unfolding ShowsPoint open_after pull OpenedAt
  else-group w' pushed e q one =
      as-otherwise s w end at next depth (depth + count) class frames (λ l. Onward s w' end at r (failing count l frames)) q items here-is
      (λ rest x. onward-as s w' end at r (stand_at Running next (depth + 1)) (failing count (otherwise ∷ rest) frames) e (record {
        to = running rest (frame false 0 bare rest ∷ frames);
        shows = (
          refl,
          runs-body s w' end next (depth + 1) rest false 0 bare frames (inl refl)
              (within_word s w end frames w' depth at next 0 0 bare rest pushed less (omega arith) (inr (x.item, refl))
              (within-as s w end frames next depth (depth + count) (depth + 1) rest (omega (arith, one)) x.rest)),
        );
        same = pull-else-group count rest frames one;
        further = x.less;
      }))

  pub else-inner : r ≡ stand_at (Failing count) next depth → class ≡ Else → (count ≡ 1 → ⊥) → Onward s w end at r (failing count items frames)
  unfolding ShowsPoint open_after pull
  else-inner e q more =
      as-otherwise s w end at next depth (depth + count) class frames Goal q items here-is
      (λ rest x. onward-as s w end at r (stand_at (Failing count) next depth) (failing count (otherwise ∷ rest) frames) e (record {
        to = failing count rest frames;
        shows = (refl, le, x.rest);
        same = pull-else-inner count rest frames le more;
        further = x.less;
      }))

  pub else-plain : r ≡ stand_at (Failing count) next depth → (class ≡ Opens → ⊥) → (class ≡ Close → ⊥) → (class ≡ Else → ⊥) → Onward s w end at r (failing count items frames)
  unfolding At ShowsPoint pull
  else-plain e a b c = go items here-is
    where
      go : (l : List Item) → At s w end at next depth (depth + count) class frames l → Onward s w end at r (failing count l frames)
      go [] x = absurd x
      go (i ∷ rest) x =
          let plain = is_plain class i x.is_class a b c in
          onward-as s w end at r (stand_at (Failing count) next depth) (failing count (i ∷ rest) frames) e (record {
            to = failing count rest frames;
            shows = (refl, le, within-as s w end frames next depth (open_after (depth + count) i) (depth + count) rest (plain-open (depth + count) i plain) x.rest);
            same = pull-else-plain i rest count frames plain;
            further = x.less;
          })

-- ---- to the line end

pull-line-plain : (class : Class) (i : Item) (items : List Item) → class ≡ class_of i → (class ≡ LineEnd → ⊥) → pull_line items ≡ pull_line (i ∷ items)
unfolding class_of pull_line
pull-line-plain class line_end items e a = absurd (a e)
pull-line-plain class other items e a = refl

pub outside : (s w : List ℕ) (end k d : ℕ) (items : List Item) → ItemsFrom s w end k d items → InFrames s w end k 0 d items []
unfolding FramesAt
outside s w end k d items h = record { stands = h; framed = tt; deep = refl }

module _ (w : List ℕ) (at next : ℕ) (class : Class) (reads : Reading w at class next) (r : Point) (s : List ℕ) (end d : ℕ) (items : List Item) (h : ItemsFrom s w end at d items) (less : at < end) where
  pub line-end : r ≡ stand_at Running next 0 → class ≡ LineEnd → Onward s w end at r (leaving items)
  unfolding ShowsPoint entered open_after pull pull_line
  line-end e q =
      as_line s w end at next 0 d class [] (λ l. Onward s w end at r (leaving l)) q items
      (at_item s w end at next 0 d class [] reads items less (outside s w end at d items h))
      (λ rest x. onward-as s w end at r (stand_at Running next 0) (leaving (line_end ∷ rest)) e (record {
        to = running rest [];
        shows = (refl, within-as s w end [] next 0 d 0 rest (omega arith) x.rest);
        same = refl;
        further = x.less;
      }))

  pub line_plain : r ≡ stand_at Leaving next 0 → (class ≡ LineEnd → ⊥) → Onward s w end at r (leaving items)
  unfolding At ShowsPoint pull
  line_plain e a = go items (at_item s w end at next 0 d class [] reads items less (outside s w end at d items h))
    where
      go : (l : List Item) → At s w end at next 0 d class [] l → Onward s w end at r (leaving l)
      go [] x = absurd x
      go (i ∷ rest) x =
          onward-as s w end at r (stand_at Leaving next 0) (leaving (i ∷ rest)) e (record {
            to = leaving rest;
            shows = (refl, (open_after d i, x.rest.stands));
            same = pull-line-plain class i rest x.is_class a;
            further = x.less;
          })
