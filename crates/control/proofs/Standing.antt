-- Laws of standing at items with room for the bodies that they can open, and of the bodies' words. Assumes nothing.
use mathlib.Core.Path.{◌≡◌, refl, sym, ap, ◌∙◌, subst}
use mathlib.Core.Logic.{◌⊎◌, inl, inr}
use mathlib.Core.Bool.{Bool, true, false, ◌||◌}
use mathlib.Core.List.{List, [], ◌∷◌}
use Prim.Native.Nat.{ℕ, ◌+◌, ◌*◌, ◌≤◌, ◌<◌}
use native.Mathlib.Omega.{arith}
use lib.ListN.{length, get_or, set, length-set}
use lib.Seq.{get_or-set_same, get_or-set_other}
use Rattle.definitions.specs.Control.{Opener, times, forever, bare, branch, loop, Item, simple, seek, opens, bracket, close, otherwise, leave, line_end, Frame, frame, Ctl, running, skipping, failing, leaving, seeking, pull_at, pull}
use Rattle.theorems.specs.NestingLaws.{may_bracket}
use Rattle.items.specs.Words.{ItemAt, ItemsAt}
use Rattle.items.specs.Ends.{place_of}
use Rattle.control.specs.Items.{count_of, starts_group, Proper}
use Rattle.items.specs.Depth.{open_after}
use Rattle.items.specs.Reserve.{reserve}
use Rattle.control.specs.Shown.{ItemsKept, ItemsFrom, OpenedAt, FrameAt, FramesAt, InFrames, entered, Runs, ShowsPoint, ShowsCtl}
use Rattle.control.specs.declared.Point.{Point}
use Rattle.control.specs.declared.Control.{Control}
use Rattle.control.specs.declared.Control.TheVariants.{Items, Seeking}
use Rattle.items.proofs.Deepest.{deepest-low, deepest-next, deepest-more}
use Rattle.items.proofs.Reading.{item-reads, items-end}
use Rattle.items.proofs.Keeping.{items_kept, item-kept, opener-kept, times-kept, search-kept}

-- ---- words that stay

-- the words below n stay
pub record WordsKept (w w' : List ℕ) (n : ℕ) : Type 0 where
  pub as_long : length w' ≡ length w
  pub same : (i : ℕ) → i < n → get_or w' i 0 ≡ get_or w i 0

pub words-kept : (w w' : List ℕ) (n : ℕ) → ItemsKept w w' n → WordsKept w w' n
words-kept w w' n h = record { as_long = h.as_long; same = h.same }

pub words-less : (w w' : List ℕ) (n m : ℕ) → m ≤ n → WordsKept w w' n → WordsKept w w' m
words-less w w' n m le h = record { as_long = h.as_long; same = λ i lt. h.same i (omega arith) }

pub kept_less : (w w' : List ℕ) (n m : ℕ) → m ≤ n → ItemsKept w w' n → ItemsKept w w' m
kept_less w w' n m le h = record { as_long = h.as_long; same = λ i lt. h.same i (omega arith); top = h.top }

pub kept-none : (w : List ℕ) (n : ℕ) → ItemsKept w w n
kept-none w n = record { as_long = refl; same = λ i lt. refl; top = λ i far. refl }

pub kept-twice : (w w' w'' : List ℕ) (n : ℕ) → ItemsKept w w' n → ItemsKept w' w'' n → ItemsKept w w'' n
kept-twice w w' w'' n h g = record {
  as_long = g.as_long ∙ h.as_long;
  same = λ i lt. g.same i lt ∙ h.same i lt;
  top = λ i far. g.top i (omega (arith, far, h.as_long)) ∙ h.top i far;
}

pub kept_set : (w : List ℕ) (n j v : ℕ) → n ≤ j → j + reserve < length w → ItemsKept w (set w j v) n
kept_set w n j v le room = record {
  as_long = length-set w j v;
  same = λ i lt. get_or-set_other w j i v 0 (λ e. omega (arith, e, lt, le));
  top = λ i far. get_or-set_other w j i v 0 (λ e. omega (arith, e, far, room));
}

pub kept-written : (w w' : List ℕ) (n j v : ℕ) → w' ≡ set w j v → n ≤ j → j + reserve < length w → ItemsKept w w' n
kept-written w w' n j v e le room = subst (λ l. ItemsKept w l n) (sym e) (kept_set w n j v le room)

-- ---- standing at items

module _ (s w : List ℕ) (end : ℕ) where
  pub stands-in : (k d : ℕ) (items : List Item) → ItemsFrom s w end k d items → (k ≤ end) × (end ≤ 65536) × (end + d + reserve ≤ length w)
  stands-in k d items h = (items-end s w k end items h.lie, h.short, omega (arith, h.room, deepest-low d items))

  pub stands-less : (k d d' : ℕ) (items : List Item) → d' ≤ d → ItemsFrom s w end k d items → ItemsFrom s w end k d' items
  stands-less k d d' items le h =
      record { lie = h.lie; proper = h.proper; short = h.short; room = omega (arith, h.room, deepest-more d' d items le) }

  pub stands-kept : (w' : List ℕ) → WordsKept w w' end → (k d : ℕ) (items : List Item) → ItemsFrom s w end k d items → ItemsFrom s w' end k d items
  stands-kept w' ke k d items h =
      record {
        lie = items_kept s w w' end ke.same (omega (arith, h.room, ke.as_long)) k items h.lie;
        proper = h.proper;
        short = h.short;
        room = omega (arith, h.room, ke.as_long);
      }

  -- the first item, and the rest
  pub record First (k d : ℕ) (i : Item) (items : List Item) : Type 0 where
    pub next : ℕ
    pub item : ItemAt s w k next i
    pub small : place_of i < 32768
    pub few : count_of i < 65536
    pub past : starts_group items ≡ true → may_bracket i ≡ true
    pub less : k < next
    pub rest : ItemsFrom s w end next (open_after d i) items

  pub first_of : (k d : ℕ) (i : Item) (items : List Item) → ItemsFrom s w end k d (i ∷ items) → First k d i items
  unfolding ItemsAt Proper
  first_of k d i items h =
      record {
        next = h.lie.0;
        item = h.lie.1;
        small = h.proper.0;
        few = h.proper.1;
        past = h.proper.2;
        less = (item-reads s w k h.lie.0 i h.lie.1).further;
        rest = record { lie = h.lie.2; proper = h.proper.3; short = h.short; room = omega (arith, h.room, deepest-next d i items) };
      }

  pub none-stands : (k d : ℕ) → ItemsFrom s w end k d [] → k ≡ end
  unfolding ItemsAt
  none-stands k d h = h.lie

  pub no_more : (k d : ℕ) (items : List Item) → ItemsFrom s w end k d items → end ≤ k → items ≡ []
  no_more k d [] h le = refl
  no_more k d (i ∷ items) h le =
      let f = first_of k d i items h in
      absurd (omega (arith, le, f.less, stands-in f.next _ items f.rest))

-- ---- the bodies' words

module _ (s w w' : List ℕ) (end n : ℕ) (ke : WordsKept w w' n) (le : end ≤ n) (long : end ≤ length w) where
  pub opened-kept : (k m place : ℕ) (o : Opener) (left : ℕ) → m ≤ end → OpenedAt s w k m place o left → OpenedAt s w' k m place o left
  unfolding OpenedAt
  opened-kept k m place (times c) left lt h =
      ((h.0.0, times-kept s w w' end (λ i less. ke.same i (omega arith)) (omega (arith, ke.as_long)) k m place h.0.0 lt h.0.1), h.1)
  opened-kept k m place forever left lt h =
      opener-kept s w w' end (λ i less. ke.same i (omega arith)) (omega (arith, ke.as_long)) k m place forever lt h
  opened-kept k m place bare left lt (inl h) =
      inl (opener-kept s w w' end (λ i less. ke.same i (omega arith)) (omega (arith, ke.as_long)) k m place bare lt h)
  opened-kept k m place bare left lt (inr h) =
      inr (item-kept s w w' end (λ i less. ke.same i (omega arith)) (omega (arith, ke.as_long)) k m otherwise lt h.0, h.1)
  opened-kept k m place (branch c) left lt h =
      opener-kept s w w' end (λ i less. ke.same i (omega arith)) (omega (arith, ke.as_long)) k m place (branch c) lt h
  opened-kept k m place (loop c) left lt h =
      opener-kept s w w' end (λ i less. ke.same i (omega arith)) (omega (arith, ke.as_long)) k m place (loop c) lt h

  pub frame-kept : (j d : ℕ) (g : Bool) (place : ℕ) (o : Opener) (body : List Item) → j < n → FrameAt s w end j d g place o body → FrameAt s w' end j d g place o body
  frame-kept j d g place o body room h =
      record {
        item = h.item;
        start = h.start;
        left = h.left;
        opened = opened-kept h.item h.start place o h.left (stands-in s w end h.start d body h.stands).0 h.opened;
        word = ke.same j room ∙ h.word;
        before = h.before;
        small = h.small;
        stands = stands-kept s w end w' (words-less w w' n end le ke) h.start d body h.stands;
        group = h.group;
      }

pub frames-kept : (s w w' : List ℕ) (end n : ℕ) → WordsKept w w' n → end ≤ length w → (frames : List Frame) → end + length frames ≤ n → FramesAt s w end frames → FramesAt s w' end frames
unfolding FramesAt
frames-kept s w w' end n ke long [] le h = h
frames-kept s w w' end n ke long (frame g place o body ∷ frames) le h = (
  frame-kept s w w' end n ke (omega (arith, le)) long (end + length frames) (length frames + 1) g place o body (omega (arith, le)) h.0,
  frames-kept s w w' end n ke long frames (omega (arith, le)) h.1,
)

-- ---- standing in bodies

module _ (s w : List ℕ) (end : ℕ) (frames : List Frame) where
  pub within-as : (k depth d d' : ℕ) (items : List Item) → d' ≤ d → InFrames s w end k depth d items frames → InFrames s w end k depth d' items frames
  within-as k depth d d' items le h = record { stands = stands-less s w end k d d' items le h.stands; framed = h.framed; deep = h.deep }

  -- the word of the innermost body is written: it is opened, or goes round
  pub within_word : (w' : List ℕ) (depth item start left place : ℕ) (o : Opener) (body : List Item) → w' ≡ set w (end + depth) (item + 65536 * left) → item < end → place < 32768
      → OpenedAt s w item start place o left → InFrames s w end start depth (depth + 1) body frames
      → InFrames s w' end start (depth + 1) (depth + 1) body (frame (starts_group body) place o body ∷ frames)
  unfolding FramesAt
  within_word w' depth item start left place o body written before small opened h =
      record {
        stands = stood;
        framed = (
          record {
            item = item;
            start = start;
            left = left;
            opened = opened-kept s w w' end (end + length frames) (words-kept w w' (end + length frames) ke) (omega arith) long item start place o left inside opened;
            word = rw written (ap (λ (x : ℕ). get_or (set w (end + depth) (item + 65536 * left)) (end + x) 0) (sym h.deep) ∙ get_or-set_same w (end + depth) (item + 65536 * left) 0 (omega (arith, room)));
            before = before;
            small = small;
            stands = stands-less s w' end start (depth + 1) (length frames + 1) body (omega (arith, h.deep)) stood;
            group = refl;
          },
          frames-kept s w w' end (end + length frames) (words-kept w w' (end + length frames) ke) long frames (omega arith) h.framed,
        );
        deep = omega (arith, h.deep);
      }
    where
      inside : start ≤ end
      inside = (stands-in s w end start (depth + 1) body h.stands).0

      room : end + (depth + 1) + reserve ≤ length w
      room = (stands-in s w end start (depth + 1) body h.stands).2

      long : end ≤ length w
      long = omega (arith, room)

      ke : ItemsKept w w' (end + length frames)
      ke = kept-written w w' (end + length frames) (end + depth) (item + 65536 * left) written (omega (arith, h.deep)) (omega (arith, room))

      stood : ItemsFrom s w' end start (depth + 1) body
      stood = stands-kept s w end w' (words-kept w w' end (kept_less w w' (end + length frames) end (omega arith) ke)) start (depth + 1) body h.stands

-- ---- at the start of a group

module _ (s w : List ℕ) (end k depth : ℕ) (items : List Item) where
  -- no group starts
  pub runs_past : starts_group items ≡ false → (frames : List Frame) → InFrames s w end k depth depth items frames → Runs s w end k depth items frames
  unfolding entered
  runs_past e [] h = h
  runs_past e (frame g place o body ∷ frames) h = rw e h

  -- at the start of a body
  pub runs-body : (g : Bool) (place : ℕ) (o : Opener) (frames : List Frame) → (g ≡ false) ⊎ (g ≡ starts_group items) → InFrames s w end k depth depth items (frame (starts_group items) place o items ∷ frames)
      → Runs s w end k depth items (frame g place o items ∷ frames)
  unfolding entered
  runs-body g place o frames e h = subst (λ (b : Bool). InFrames s w end k depth depth items (frame b place o items ∷ frames)) (sym (joined g (starts_group items) e)) h
    where
      joined : (g b : Bool) → (g ≡ false) ⊎ (g ≡ b) → (b || g) ≡ b
      joined g false (inl e) = e
      joined g false (inr e) = e
      joined g true e = refl

-- it makes no difference to what comes next
pub pull-entered : (items : List Item) (frames : List Frame) → pull (running items (entered items frames)) ≡ pull (running items frames)
unfolding pull pull_at entered starts_group
pull-entered items [] = refl
pull-entered [] (frame g place o body ∷ frames) = refl
pull-entered (line_end ∷ items) (frame g place o body ∷ frames) = refl
pull-entered (bracket ∷ items) (frame g place o body ∷ frames) = refl
pull-entered (close ∷ items) (frame g place o body ∷ frames) = refl
pull-entered (otherwise ∷ items) (frame g place o body ∷ frames) = refl
pull-entered (leave at ∷ items) (frame g place o body ∷ frames) = refl
pull-entered (simple at op ∷ items) (frame g place o body ∷ frames) = refl
pull-entered (seek at f se ∷ items) (frame g place o body ∷ frames) = refl
pull-entered (opens at p ∷ items) (frame g place o body ∷ frames) = refl

-- ---- words of the reserve are written

module _ (s w w' : List ℕ) (end n : ℕ) (ke : WordsKept w w' n) (below : n + reserve ≡ length w) where
  frames-stay : (k depth d : ℕ) (items : List Item) (frames : List Frame) → depth ≤ d → InFrames s w end k depth d items frames → InFrames s w' end k depth d items frames
  frames-stay k depth d items frames le h =
      let room = stands-in s w end k d items h.stands in
      let less : end + length frames ≤ n = omega (arith, room.2, h.deep, below, le) in
      record {
        stands = stands-kept s w end w' (words-less w w' n end (omega (arith, less)) ke) k d items h.stands;
        framed = frames-kept s w w' end n ke (omega (arith, less, below)) frames less h.framed;
        deep = h.deep;
      }

  -- where the run stands it still stands
  point-stays : (c : Point) (from : Ctl) → ShowsPoint s w end c from → ShowsPoint s w' end c from
  unfolding ShowsPoint
  point-stays c (running items frames) h = (h.0, frames-stay _ _ _ items (entered items frames) (omega arith) h.1)
  point-stays c (skipping k items frames) h = (h.0, h.1, frames-stay _ _ _ items frames (omega arith) h.2)
  point-stays c (failing k items frames) h = (h.0, h.1, frames-stay _ _ _ items frames (omega arith) h.2)
  point-stays c (leaving items) h =
      let room = stands-in s w end c.at h.1.0 items h.1.1 in
      (h.0, (h.1.0, stands-kept s w end w' (words-less w w' n end (omega (arith, room.2, below)) ke) c.at h.1.0 items h.1.1))
  point-stays c (seeking place f se k items frames) h = absurd h

  pub ctl-stays : (c : Control) (from : Ctl) → ShowsCtl s w end c from → ShowsCtl s w' end c from
  unfolding ShowsCtl ShowsPoint
  ctl-stays (Items c) from h = point-stays c from h
  ctl-stays (Seeking item lines to) (running items frames) h = absurd h
  ctl-stays (Seeking item lines to) (skipping k items frames) h = absurd h
  ctl-stays (Seeking item lines to) (failing k items frames) h = absurd h
  ctl-stays (Seeking item lines to) (leaving items) h = absurd h
  ctl-stays (Seeking item lines to) (seeking place f se k items frames) h =
      let room = stands-in s w end to.at to.depth items h.3.1.stands in (
        h.0,
        h.1,
        search-kept s w w' end (λ i lt. ke.same i (omega (arith, lt, room.2, below))) (omega (arith, room.2, ke.as_long)) item to.at _ se room.0 h.2,
        point-stays to (running items frames) h.3,
      )
