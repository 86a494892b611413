-- The item that was read, and what it is by its class. Assumes nothing.
use mathlib.Core.Path.{◌≡◌, refl}
use mathlib.Core.Bool.{Bool, true, false, false≢true}
use mathlib.Core.List.{List, [], ◌∷◌}
use Prim.Native.Nat.{ℕ, ◌≤◌, ◌<◌}
use native.Mathlib.Omega.{arith}
use lib.ListN.{length}
use Rattle.definitions.specs.Search.{Search}
use Rattle.definitions.specs.Edit.{Op}
use Rattle.definitions.specs.Control.{Seek, Opener, Item, simple, seek, opens, bracket, close, otherwise, leave, line_end, Frame}
use Rattle.theorems.specs.NestingLaws.{may_bracket}
use Rattle.items.specs.Words.{ItemAt}
use Rattle.items.specs.Ends.{class_of, place_of}
use Rattle.items.specs.declared.ends.Class.{Class}
use Rattle.items.specs.declared.ends.Class.TheVariants.{LineEnd, Bracket, Close, Else, Agp, Simple, Seeks, Opens}
use Rattle.control.specs.Items.{count_of, starts_group}
use Rattle.items.specs.Depth.{open_after}
use Rattle.control.specs.Shown.{InFrames, Runs}
use Rattle.control.proofs.Standing.{First, first_of, none-stands, stands-in, within-as, runs_past}

-- a close is what is left
pub close-left : (class : Class) → (class ≡ Opens → ⊥) → (class ≡ Seeks → ⊥) → (class ≡ Simple → ⊥) → (class ≡ Agp → ⊥) → (class ≡ LineEnd → ⊥) → (class ≡ Bracket → ⊥) → (class ≡ Else → ⊥) → class ≡ Close
close-left Opens a b c d e f g = absurd (a refl)
close-left Seeks a b c d e f g = absurd (b refl)
close-left Simple a b c d e f g = absurd (c refl)
close-left Agp a b c d e f g = absurd (d refl)
close-left LineEnd a b c d e f g = absurd (e refl)
close-left Bracket a b c d e f g = absurd (f refl)
close-left Else a b c d e f g = absurd (g refl)
close-left Close a b c d e f g = refl

-- what reading the item at `at` says
abbrev pub Reading : List ℕ → ℕ → Class → ℕ → Type 0
Reading w at class next = (s : List ℕ) (m : ℕ) (i : Item) → ItemAt s w at m i → (class ≡ class_of i) × (next ≡ m)

pub record Here (s w : List ℕ) (end at next depth d : ℕ) (class : Class) (frames : List Frame) (i : Item) (items : List Item) : Type 0 where
  pub is_class : class ≡ class_of i
  pub item : ItemAt s w at next i
  pub small : place_of i < 32768
  pub few : count_of i < 65536
  pub past : starts_group items ≡ true → may_bracket i ≡ true
  pub less : at < next
  pub rest : InFrames s w end next depth (open_after d i) items frames

-- no group starts directly after this item
pub no_group : (i : Item) (items : List Item) → (starts_group items ≡ true → may_bracket i ≡ true) → may_bracket i ≡ false → starts_group items ≡ false
no_group i items past none = settled (starts_group items) past
  where
    settled : (b : Bool) → (b ≡ true → may_bracket i ≡ true) → b ≡ false
    settled true h = absurd (false≢true (rw none at (h refl)))
    settled false h = refl

-- the run goes on at what stands after it
pub runs_on : (s w : List ℕ) (end at next depth d : ℕ) (class : Class) (frames : List Frame) (i : Item) (items : List Item) → Here s w end at next depth d class frames i items → may_bracket i ≡ false
    → depth ≤ open_after d i → Runs s w end next depth items frames
runs_on s w end at next depth d class frames i items x none le =
    runs_past s w end next depth items (no_group i items x.past none) frames (within-as s w end frames next depth (open_after d i) depth items le x.rest)

-- the item can be read
pub readable : (s w : List ℕ) (end at depth d : ℕ) (frames : List Frame) (items : List Item) → at < end → InFrames s w end at depth d items frames
    → ((x : List ℕ) × (m : ℕ) × (i : Item) × ItemAt x w at m i × (m ≤ length w))
readable s w end at depth d frames [] less h = absurd (omega (arith, less, none-stands s w end at d h.stands))
readable s w end at depth d frames (i ∷ items) less h =
    let f = first_of s w end at d i items h.stands in
    let inside = stands-in s w end f.next (open_after d i) items f.rest in
    (s, f.next, i, f.item, omega (arith, inside))

-- the first item, where there is one
unfoldable pub At : (s w : List ℕ) (end at next depth d : ℕ) (class : Class) (frames : List Frame) → List Item → Type 0
At s w end at next depth d class frames [] = ⊥
At s w end at next depth d class frames (i ∷ items) = Here s w end at next depth d class frames i items

module _ (s w : List ℕ) (end at next depth d : ℕ) (class : Class) (frames : List Frame) where
  pub at_item : Reading w at class next → (items : List Item) → at < end → InFrames s w end at depth d items frames → At s w end at next depth d class frames items
  unfolding At
  at_item reads [] less h = omega (arith, less, none-stands s w end at d h.stands)
  at_item reads (i ∷ items) less h = found (first_of s w end at d i items h.stands)
    where
      found : First s w end at d i items → Here s w end at next depth d class frames i items
      found f =
          let e : next ≡ f.next = (reads s f.next i f.item).1 in
          record {
            is_class = (reads s f.next i f.item).0;
            item = rw e f.item;
            small = f.small;
            few = f.few;
            past = f.past;
            less = rw e f.less;
            rest = record { stands = rw e f.rest; framed = h.framed; deep = h.deep };
          }

  pub as_line : (P : List Item → Type 0) → class ≡ LineEnd → (items : List Item) → At s w end at next depth d class frames items
      → ((items : List Item) → Here s w end at next depth d class frames line_end items → P (line_end ∷ items)) → P items
  unfolding At class_of
  as_line P q [] h on = absurd h
  as_line P q (line_end ∷ items) h on = on items h
  as_line P q (other ∷ items) h on = absurd (cc (q, h.is_class))

  pub as-bracket : (P : List Item → Type 0) → class ≡ Bracket → (items : List Item) → At s w end at next depth d class frames items
      → ((items : List Item) → Here s w end at next depth d class frames bracket items → P (bracket ∷ items)) → P items
  unfolding At class_of
  as-bracket P q [] h on = absurd h
  as-bracket P q (bracket ∷ items) h on = on items h
  as-bracket P q (other ∷ items) h on = absurd (cc (q, h.is_class))

  pub as-close : (P : List Item → Type 0) → class ≡ Close → (items : List Item) → At s w end at next depth d class frames items
      → ((items : List Item) → Here s w end at next depth d class frames close items → P (close ∷ items)) → P items
  unfolding At class_of
  as-close P q [] h on = absurd h
  as-close P q (close ∷ items) h on = on items h
  as-close P q (other ∷ items) h on = absurd (cc (q, h.is_class))

  pub as-otherwise : (P : List Item → Type 0) → class ≡ Else → (items : List Item) → At s w end at next depth d class frames items
      → ((items : List Item) → Here s w end at next depth d class frames otherwise items → P (otherwise ∷ items)) → P items
  unfolding At class_of
  as-otherwise P q [] h on = absurd h
  as-otherwise P q (otherwise ∷ items) h on = on items h
  as-otherwise P q (other ∷ items) h on = absurd (cc (q, h.is_class))

  pub as-leave : (P : List Item → Type 0) → class ≡ Agp → (items : List Item) → At s w end at next depth d class frames items
      → ((p : ℕ) (items : List Item) → Here s w end at next depth d class frames (leave p) items → P ((leave p) ∷ items)) → P items
  unfolding At class_of
  as-leave P q [] h on = absurd h
  as-leave P q ((leave p) ∷ items) h on = on p items h
  as-leave P q (other ∷ items) h on = absurd (cc (q, h.is_class))

  pub as-simple : (P : List Item → Type 0) → class ≡ Simple → (items : List Item) → At s w end at next depth d class frames items
      → ((p : ℕ) (op : Op) (items : List Item) → Here s w end at next depth d class frames (simple p op) items → P ((simple p op) ∷ items)) → P items
  unfolding At class_of
  as-simple P q [] h on = absurd h
  as-simple P q ((simple p op) ∷ items) h on = on p op items h
  as-simple P q (other ∷ items) h on = absurd (cc (q, h.is_class))

  pub as-seek : (P : List Item → Type 0) → class ≡ Seeks → (items : List Item) → At s w end at next depth d class frames items
      → ((p : ℕ) (f : Seek) (se : Search) (items : List Item) → Here s w end at next depth d class frames (seek p f se) items → P ((seek p f se) ∷ items)) → P items
  unfolding At class_of
  as-seek P q [] h on = absurd h
  as-seek P q ((seek p f se) ∷ items) h on = on p f se items h
  as-seek P q (other ∷ items) h on = absurd (cc (q, h.is_class))

  pub as-opens : (P : List Item → Type 0) → class ≡ Opens → (items : List Item) → At s w end at next depth d class frames items
      → ((p : ℕ) (o : Opener) (items : List Item) → Here s w end at next depth d class frames (opens p o) items → P ((opens p o) ∷ items)) → P items
  unfolding At class_of
  as-opens P q [] h on = absurd h
  as-opens P q ((opens p o) ∷ items) h on = on p o items h
  as-opens P q (other ∷ items) h on = absurd (cc (q, h.is_class))
