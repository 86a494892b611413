-- Laws of passing items: to a close, to an ELSE, to a line end. Assumes nothing.
use mathlib.Core.Path.{◌≡◌, refl, sym, ap, subst}
use mathlib.Core.List.{List, [], ◌∷◌}
use Prim.Native.Nat.{ℕ, zero, suc, ◌+◌, ◌-◌, ◌≤◌, ◌<◌}
use native.Mathlib.Omega.{arith}
use Rattle.definitions.specs.Control.{Item, opens, close, Frame, Ctl, running, skipping, pull_at, pull_after, pull}
use Rattle.theorems.specs.NestingLaws.{may_bracket}
use Rattle.items.specs.Ends.{class_of}
use Rattle.items.specs.Depth.{open_after}
use Rattle.control.specs.declared.Mode.TheVariants.{Running, Skipping}
use Rattle.control.specs.Shown.{InFrames, ShowsPoint, Onward, stand_at}
use Rattle.control.specs.declared.Point.{Point}
use Rattle.control.proofs.Standing.{within-as}
use Rattle.control.proofs.Classes.{Reading, At, at_item, runs_on, as-close, as-opens}
use Rattle.items.specs.declared.ends.Class.{Class}
use Rattle.items.specs.declared.ends.Class.TheVariants.{Close, Opens}

pub onward-as : (s w : List ℕ) (end at : ℕ) (r c : Point) (from : Ctl) → r ≡ c → Onward s w end at c from → Onward s w end at r from
onward-as s w end at r c from e h = subst (λ x. Onward s w end at x from) (sym e) h

-- a class of which nothing is known but that it is no opener and no close
unfoldable pub Other : Item → Type 0
Other (opens p o) = ⊥
Other close = ⊥
Other other = Unit {0}

other-open : (d : ℕ) (i : Item) → Other i → d ≤ open_after d i
unfolding Other open_after
other-open d (opens p o) h = absurd h
other-open d close h = absurd h
other-open d other h = omega arith

is-other : (class : Class) (i : Item) → class ≡ class_of i → (class ≡ Opens → ⊥) → (class ≡ Close → ⊥) → Other i
unfolding Other class_of
is-other class (opens p o) e a b = a e
is-other class close e a b = b e
is-other class other e a b = tt

pull-after-other : (i : Item) (items : List Item) (k : ℕ) (frames : List Frame) → Other i → pull_after items k frames ≡ pull_after (i ∷ items) k frames
unfolding Other pull_after
pull-after-other (opens p o) items k frames h = absurd h
pull-after-other close items k frames h = absurd h
pull-after-other other items k frames h = refl

pull-after-more : (k : ℕ) (items : List Item) (frames : List Frame) → 1 ≤ k → (k ≡ 1 → ⊥) → pull_after items (k - 1) frames ≡ pull_after (close ∷ items) k frames
unfolding pull_after
pull-after-more zero items frames le no_one = absurd (omega (arith, le))
pull-after-more (suc zero) items frames le no_one = absurd (no_one refl)
pull-after-more (suc (suc k)) items frames le no_one = ap (λ (x : ℕ). pull_after items x frames) (omega arith)

pull-after-last : (k : ℕ) (items : List Item) (frames : List Frame) → k ≡ 1 → pull_at items frames ≡ pull_after (close ∷ items) k frames
unfolding pull_after
pull-after-last k items frames e = rw e

-- ---- to the close

module _ (w : List ℕ) (at next depth count : ℕ) (class : Class) (reads : Reading w at class next) (r : Point) (le : 1 ≤ count) (s : List ℕ) (end : ℕ) (items : List Item) (frames : List Frame) where
  pub skip-opens : r ≡ stand_at (Skipping (count + 1)) next depth → class ≡ Opens → InFrames s w end at depth (depth + count) items frames → at < end → Onward s w end at r (skipping count items frames)
  unfolding ShowsPoint open_after pull pull_after
  skip-opens e q h less =
      as-opens s w end at next depth (depth + count) class frames (λ l. Onward s w end at r (skipping count l frames)) q items
      (at_item s w end at next depth (depth + count) class frames reads items less h)
      (λ p o rest x. onward-as s w end at r (stand_at (Skipping (count + 1)) next depth) (skipping count (opens p o ∷ rest) frames) e (record {
        to = skipping (suc count) rest frames;
        shows = (ap Skipping (omega arith), omega arith, within-as s w end frames next depth (depth + count + 1) (depth + suc count) rest (omega arith) x.rest);
        same = refl;
        further = x.less;
      }))

  pub skip-last : r ≡ stand_at Running next depth → class ≡ Close → count ≡ 1 → InFrames s w end at depth (depth + count) items frames → at < end → Onward s w end at r (skipping count items frames)
  unfolding ShowsPoint open_after pull may_bracket
  skip-last e q one h less =
      as-close s w end at next depth (depth + count) class frames (λ l. Onward s w end at r (skipping count l frames)) q items
      (at_item s w end at next depth (depth + count) class frames reads items less h)
      (λ rest x. onward-as s w end at r (stand_at Running next depth) (skipping count (close ∷ rest) frames) e (record {
        to = running rest frames;
        shows = (refl, runs_on s w end at next depth (depth + count) class frames close rest x refl (omega (arith, one)));
        same = pull-after-last count rest frames one;
        further = x.less;
      }))

  pub skip-close : r ≡ stand_at (Skipping (count - 1)) next depth → class ≡ Close → (count ≡ 1 → ⊥) → InFrames s w end at depth (depth + count) items frames → at < end
      → Onward s w end at r (skipping count items frames)
  unfolding ShowsPoint open_after pull
  skip-close e q more h less =
      as-close s w end at next depth (depth + count) class frames (λ l. Onward s w end at r (skipping count l frames)) q items
      (at_item s w end at next depth (depth + count) class frames reads items less h)
      (λ rest x. onward-as s w end at r (stand_at (Skipping (count - 1)) next depth) (skipping count (close ∷ rest) frames) e (record {
        to = skipping (count - 1) rest frames;
        shows = (refl, omega (arith, le, more), within-as s w end frames next depth (depth + count - 1) (depth + (count - 1)) rest (omega (arith, le)) x.rest);
        same = pull-after-more count rest frames le more;
        further = x.less;
      }))

  pub skip-other : r ≡ stand_at (Skipping count) next depth → (class ≡ Opens → ⊥) → (class ≡ Close → ⊥) → InFrames s w end at depth (depth + count) items frames → at < end
      → Onward s w end at r (skipping count items frames)
  unfolding At ShowsPoint pull
  skip-other e a b h less = go items (at_item s w end at next depth (depth + count) class frames reads items less h)
    where
      go : (l : List Item) → At s w end at next depth (depth + count) class frames l → Onward s w end at r (skipping count l frames)
      go [] x = absurd x
      go (i ∷ rest) x =
          let other = is-other class i x.is_class a b in
          onward-as s w end at r (stand_at (Skipping count) next depth) (skipping count (i ∷ rest) frames) e (record {
            to = skipping count rest frames;
            shows = (refl, le, within-as s w end frames next depth (open_after (depth + count) i) (depth + count) rest (other-open (depth + count) i other) x.rest);
            same = pull-after-other i rest count frames other;
            further = x.less;
          })
