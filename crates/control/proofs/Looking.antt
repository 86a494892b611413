-- Laws of a search: its beginning, and the test of a line. Assumes nothing.
use mathlib.Core.Path.{◌≡◌, refl, ◌∙◌}
use mathlib.Core.List.{List}
use Prim.Native.Nat.{ℕ, ◌+◌, ◌<◌}
use native.Mathlib.Omega.{arith}
use lib.ListN.{length}
use Rattle.definitions.specs.Search.{Search}
use Rattle.definitions.specs.Control.{Seek, forward, backward, deleting, seek, Ctl, running, skipping, failing, leaving, seeking, begin_op, look_op, pull}
use Rattle.items.specs.Words.{head, kind_at, place_at, SearchAt, ItemAt}
use Rattle.items.specs.Kinds.{find_kind, find_back_kind, find_delete_kind, seek_kind}
use Rattle.items.specs.Ends.{place_of}
use Rattle.items.proofs.Reading.{seek-shape, item-reads}
use Rattle.items.proofs.OpenerWords.{kind-word}
use Rattle.control.specs.Shown.{ShowsPoint, ShowsCtl, passed, Asks, begins, begins-back, finds, finds-back, deletes, ShowsNext, begin_by, look_by}
use Rattle.control.specs.declared.Ask.{Ask}
use Rattle.control.specs.declared.Point.{Point}
use Rattle.control.specs.declared.Control.TheVariants.{Items, Seeking}
use Rattle.std.specs.Prelude.{Some}
use Rattle.control.specs.declared.Wanted.{Wanted}
use Rattle.control.proofs.Standing.{stands-in}
use Rattle.control.proofs.Tests.{search-of}

module _ (s w : List ℕ) (k m place : ℕ) (se : Search) where
  pub seek-kind : (f : Seek) → SearchAt s w k m (head (seek_kind f) place) se → kind_at w k ≡ seek_kind f
  unfolding SearchAt
  seek-kind f h = kind-word s w k m place (seek_kind f) (seek-shape f).0 h.0

  pub seek-place : (f : Seek) → place < 32768 → SearchAt s w k m (head (seek_kind f) place) se → (place_at w k ≡ place) × (k < m)
  unfolding ItemAt place_of
  seek-place f small h = ((item-reads s w k m (seek place f se) h).place small, (item-reads s w k m (seek place f se) h).further)

  -- what begins it
  pub asks-begin : {end : ℕ} (f : Seek) (x : Wanted) → x.what ≡ begin_by (kind_at w k) → SearchAt s w k m (head (seek_kind f) place) se → Asks s w end x (begin_op f)
  unfolding begin_by begin_op seek_kind
  asks-begin forward x e h = begins (e ∙ rw (seek-kind forward h))
  asks-begin backward x e h = begins-back (e ∙ rw (seek-kind backward h))
  asks-begin deleting x e h = begins (e ∙ rw (seek-kind deleting h))

  -- what tests a line
  pub asks-look : {end : ℕ} (f : Seek) (x : Wanted) (lines : ℕ) → x.what ≡ look_by (kind_at w k) → x.item ≡ k → x.lines ≡ lines → SearchAt s w k m (head (seek_kind f) place) se
      → Asks s w end x (look_op f se lines)
  unfolding look_op look_by seek_kind
  asks-look forward x lines e item li h = finds se (e ∙ rw (seek-kind forward h)) (rw item (search-of s w k m place (head find_kind place) se h))
  asks-look backward x lines e item li h = finds-back se (e ∙ rw (seek-kind backward h)) (rw item (search-of s w k m place (head find_back_kind place) se h))
  asks-look deleting x lines e item li h = deletes se lines (e ∙ rw (seek-kind deleting h)) li (rw item (search-of s w k m place (head find_delete_kind place) se h))

-- in a search
module _ (s w : List ℕ) (end item lines : ℕ) (to : Point) where
  pub in-search : (from : Ctl) → ShowsCtl s w end (Seeking item lines to) from → item < length w
  unfolding ShowsCtl ShowsPoint
  in-search (running items frames) h = absurd h
  in-search (skipping k items frames) h = absurd h
  in-search (failing k items frames) h = absurd h
  in-search (leaving items) h = absurd h
  in-search (seeking place f se k items frames) h =
      let i = stands-in s w end to.at to.depth items h.3.1.stands in
      omega (arith, i, (seek-place s w item to.at place se f h.1 h.2).1)

  pub look-shows : (what : Ask) → what ≡ look_by (kind_at w item) → (p : ℕ) → p ≡ place_at w item → (from : Ctl) → ShowsCtl s w end (Seeking item lines to) from
      → ShowsNext s w end (lines + 1) (Some (record { what = what; place = p; item = item; lines = lines; yes = Items to; no = Seeking item (lines + 1) to })) (pull from)
  unfolding ShowsCtl ShowsNext passed pull
  look-shows what what-is p p-is (running items frames) h = absurd h
  look-shows what what-is p p-is (skipping k items frames) h = absurd h
  look-shows what what-is p p-is (failing k items frames) h = absurd h
  look-shows what what-is p p-is (leaving items) h = absurd h
  look-shows what what-is p p-is (seeking place f se k items frames) h =
      record {
        at_place = p-is ∙ (seek-place s w item to.at place se f h.1 h.2).0;
        asks = asks-look s w item to.at place se f (record { what = what; place = p; item = item; lines = lines; yes = Items to; no = Seeking item (lines + 1) to }) k what-is refl h.0 h.2;
        yes_shows = h.3;
        no_shows = (omega (arith, h.0), h.1, h.2, h.3);
        few = omega arith;
        yes_few = omega arith;
        no_few = omega arith;
      }
