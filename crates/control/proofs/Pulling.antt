-- Laws of the run's start, of one item in each way of standing, and of the turn from item to item. Assumes nothing.
use mathlib.Core.Path.{◌≡◌, refl, sym, ◌∙◌, subst}
use mathlib.Core.List.{List, []}
use Prim.Native.Nat.{ℕ, ◌+◌, ◌≤◌, ◌<◌}
use native.Mathlib.Omega.{arith}
use Rattle.definitions.specs.Control.{Item, Frame, Ctl, running, skipping, failing, leaving, seeking, Pull, finished, want, lost, pull_at, pull_after, pull_else, pull_line, pull}
use Rattle.control.specs.declared.Mode.TheVariants.{Running}
use Rattle.std.specs.Prelude.{Option, Some, None}
use Rattle.control.specs.Items.{Startable}
use Rattle.control.specs.Shown.{ItemsFrom, FramesAt, InFrames, entered, Runs, ShowsPoint, ShowsCtl, passed, ShowsNext, Onward, ShowsStep, stand_at}
use Rattle.control.specs.declared.Mode.TheVariants.{Running, Skipping, Failing, Leaving}
use Rattle.control.specs.declared.Point.{Point}
use Rattle.control.specs.declared.Control.{Control}
use Rattle.control.specs.declared.Control.TheVariants.{Items, Seeking}
use Rattle.control.specs.declared.Wanted.{Wanted}
use Rattle.control.specs.declared.Step.{Step}
use Rattle.control.specs.declared.Step.TheVariants.{On, Gives}
use Rattle.control.specs.Moves.{looks}
use Rattle.control.specs.Answers.{LooksFrom, PullsItems, PullsFrom}
use Rattle.control.proofs.Standing.{kept-none, no_more}

pub at-start : (s w : List ℕ) (end : ℕ) (items : List Item) → Startable s w end items → (r : Control) → r ≡ Items (stand_at Running 0 0) → ShowsCtl s w end r (running items [])
unfolding ShowsCtl ShowsPoint FramesAt entered
at-start s w end items h r e =
    subst (λ (x : Control). ShowsCtl s w end x (running items [])) (sym e) (
      refl,
      record { stands = record { lie = h.ready.lie; proper = h.proper; short = h.ready.short; room = h.ready.room }; framed = tt; deep = refl },
    )

-- no search has passed lines at the start
pub none-yet : (r : Control) (n : ℕ) → r ≡ Items (stand_at Running 0 0) → passed r ≤ n
unfolding passed
none-yet r n e = rw e (omega arith)

-- ---- in which way the run stands

module _ (s w : List ℕ) (end : ℕ) (c : Point) (P : Ctl → Type 0) where
  pub as-running : c.mode ≡ Running → (from : Ctl) → ShowsPoint s w end c from → ((items : List Item) (frames : List Frame) → Runs s w end c.at c.depth items frames → P (running items frames)) → P from
  unfolding ShowsPoint
  as-running q (running items frames) h on = on items frames h.1
  as-running q (skipping k items frames) h on = absurd (cc h.0)
  as-running q (failing k items frames) h on = absurd (cc h.0)
  as-running q (leaving items) h on = absurd (cc h.0)
  as-running q (seeking place f se k items frames) h on = absurd h

  module _ (n : ℕ) where
    pub as-skipping : c.mode ≡ Skipping n → (from : Ctl) → ShowsPoint s w end c from
        → ((items : List Item) (frames : List Frame) → 1 ≤ n → InFrames s w end c.at c.depth (c.depth + n) items frames → P (skipping n items frames)) → P from
    unfolding ShowsPoint
    as-skipping q (running items frames) h on = absurd (cc h.0)
    as-skipping q (skipping k items frames) h on =
        let e : n ≡ k = cc h.0 in
        subst (λ (x : ℕ). P (skipping x items frames)) e
        (on items frames (omega (arith, e, h.1)) (subst (λ (x : ℕ). InFrames s w end c.at c.depth (c.depth + x) items frames) (sym e) h.2))
    as-skipping q (failing k items frames) h on = absurd (cc h.0)
    as-skipping q (leaving items) h on = absurd (cc h.0)
    as-skipping q (seeking place f se k items frames) h on = absurd h

    pub as-failing : c.mode ≡ Failing n → (from : Ctl) → ShowsPoint s w end c from
        → ((items : List Item) (frames : List Frame) → 1 ≤ n → InFrames s w end c.at c.depth (c.depth + n) items frames → P (failing n items frames)) → P from
    unfolding ShowsPoint
    as-failing q (running items frames) h on = absurd (cc h.0)
    as-failing q (skipping k items frames) h on = absurd (cc h.0)
    as-failing q (failing k items frames) h on =
        let e : n ≡ k = cc h.0 in
        subst (λ (x : ℕ). P (failing x items frames)) e
        (on items frames (omega (arith, e, h.1)) (subst (λ (x : ℕ). InFrames s w end c.at c.depth (c.depth + x) items frames) (sym e) h.2))
    as-failing q (leaving items) h on = absurd (cc h.0)
    as-failing q (seeking place f se k items frames) h on = absurd h

  pub as-leaving : c.mode ≡ Leaving → (from : Ctl) → ShowsPoint s w end c from → ((items : List Item) (d : ℕ) → ItemsFrom s w end c.at d items → P (leaving items)) → P from
  unfolding ShowsPoint
  as-leaving q (running items frames) h on = absurd (cc h.0)
  as-leaving q (skipping k items frames) h on = absurd (cc h.0)
  as-leaving q (failing k items frames) h on = absurd (cc h.0)
  as-leaving q (leaving items) h on = on items h.1.0 h.1.1
  as-leaving q (seeking place f se k items frames) h on = absurd h

-- ---- what each way of standing is handed

module _ (s w : List ℕ) (end : ℕ) (c : Point) (from : Ctl) (less : c.at < end) (h : ShowsPoint s w end c from) where
  pub running-in : c.mode ≡ Running → ((z : List ℕ) × (items : List Item) × (frames : List Frame) × Runs z w end c.at c.depth items frames) × (c.at < end)
  running-in q = (
    as-running s w end c (λ f. ((z : List ℕ) × (items : List Item) × (frames : List Frame) × Runs z w end c.at c.depth items frames)) q from h
        (λ items frames x. (s, items, frames, x)),
    less,
  )

  module _ (n : ℕ) where
    pub skipping-in : c.mode ≡ Skipping n
        → ((z : List ℕ) × (e : ℕ) × (items : List Item) × (frames : List Frame) × InFrames z w e c.at c.depth (c.depth + n) items frames × (c.at < e)) × (1 ≤ n)
    skipping-in q =
        as-skipping s w end c
        (λ f. ((z : List ℕ) × (e : ℕ) × (items : List Item) × (frames : List Frame) × InFrames z w e c.at c.depth (c.depth + n) items frames × (c.at < e)) × (1 ≤ n)) n q from h
        (λ items frames le x. ((s, end, items, frames, x, less), le))

    pub failing-in : c.mode ≡ Failing n
        → ((z : List ℕ) × (items : List Item) × (frames : List Frame) × InFrames z w end c.at c.depth (c.depth + n) items frames) × (c.at < end) × (1 ≤ n)
    failing-in q =
        as-failing s w end c
        (λ f. ((z : List ℕ) × (items : List Item) × (frames : List Frame) × InFrames z w end c.at c.depth (c.depth + n) items frames) × (c.at < end) × (1 ≤ n)) n q from h
        (λ items frames le x. ((s, items, frames, x), less, le))

  pub leaving-in : c.mode ≡ Leaving → ((z : List ℕ) × (e : ℕ) × (d : ℕ) × (items : List Item) × ItemsFrom z w e c.at d items × (c.at < e))
  leaving-in q =
      as-leaving s w end c (λ f. ((z : List ℕ) × (e : ℕ) × (d : ℕ) × (items : List Item) × ItemsFrom z w e c.at d items × (c.at < e))) q from h
      (λ items n x. (s, end, n, items, x, less))

module _ (w w' : List ℕ) (end : ℕ) (c : Point) (less : c.at < end) (s : List ℕ) (from : Ctl) (h : ShowsPoint s w end c from) where
  pub running-step : (r : Step) → c.mode ≡ Running
      → ((z : List ℕ) (items : List Item) (frames : List Frame) → Runs z w end c.at c.depth items frames → ShowsStep z w' end c.at r (running items frames))
      → ShowsStep s w' end c.at r from
  running-step r q ran = as-running s w end c (λ f. ShowsStep s w' end c.at r f) q from h (λ items frames x. ran s items frames x)

  pub failing-step : (n : ℕ) (k : Point) → c.mode ≡ Failing n
      → ((z : List ℕ) (items : List Item) (frames : List Frame) → InFrames z w end c.at c.depth (c.depth + n) items frames
      → Onward z w' end c.at k (failing n items frames)) → ShowsStep s w' end c.at (On k) from
  unfolding ShowsStep
  failing-step n k q ran = as-failing s w end c (λ f. Onward s w' end c.at k f) n q from h (λ items frames le x. ran s items frames x)

module _ (w : List ℕ) (end : ℕ) (c : Point) (less : c.at < end) (s : List ℕ) (from : Ctl) (h : ShowsPoint s w end c from) where
  pub skipping_step : (n : ℕ) (k : Point) → c.mode ≡ Skipping n
      → ((z : List ℕ) (e : ℕ) (items : List Item) (frames : List Frame) → InFrames z w e c.at c.depth (c.depth + n) items frames → c.at < e
      → Onward z w e c.at k (skipping n items frames)) → ShowsStep s w end c.at (On k) from
  unfolding ShowsStep
  skipping_step n k q ran = as-skipping s w end c (λ f. Onward s w end c.at k f) n q from h (λ items frames le x. ran s end items frames x less)

  pub leaving-step : (k : Point) → c.mode ≡ Leaving
      → ((z : List ℕ) (e : ℕ) (d : ℕ) (items : List Item) → ItemsFrom z w e c.at d items → c.at < e → Onward z w e c.at k (leaving items)) → ShowsStep s w end c.at (On k) from
  unfolding ShowsStep
  leaving-step k q ran = as-leaving s w end c (λ f. Onward s w end c.at k f) q from h (λ items n x. ran s end n items x less)

-- ---- the end of the items

all_done : (s w : List ℕ) (end n : ℕ) (c : Point) (from : Ctl) → end ≤ c.at → ShowsPoint s w end c from → ShowsNext s w end n None (pull from)
unfolding ShowsPoint ShowsNext pull pull_at pull_after pull_else pull_line
all_done s w end n c (running items frames) le h = rw (no_more s w end c.at c.depth items h.1.stands le) tt
all_done s w end n c (skipping k items frames) le h = rw (no_more s w end c.at (c.depth + k) items h.2.stands le) tt
all_done s w end n c (failing k items frames) le h = rw (no_more s w end c.at (c.depth + k) items h.2.stands le) tt
all_done s w end n c (leaving items) le h = rw (no_more s w end c.at h.1.0 items h.1.1 le) tt
all_done s w end n c (seeking place f se k items frames) le h = absurd h

-- ---- from item to item

-- from where the run stood, it has come to where it stands without a step
pub record Came (s w : List ℕ) (end : ℕ) (c : Point) (from : Ctl) : Type 0 where
  pub to : Ctl
  pub shows : ShowsPoint s w end c to
  pub same : pull to ≡ pull from

module _ (s w w' : List ℕ) (end : ℕ) (c k : Point) (r : Step) (is-on : r ≡ On k) (step : (to : Ctl) → ShowsPoint s w end c to → ShowsStep s w' end c.at r to) where
  onward : (to : Ctl) → ShowsPoint s w end c to → Onward s w' end c.at k to
  unfolding ShowsStep
  onward to h = rw is-on at (step to h)

  pub came-further : (to : Ctl) → ShowsPoint s w end c to → c.at < k.at
  came-further to h = (onward to h).further

  pub came-on : (from : Ctl) → Came s w end c from → Came s w' end k from
  came-on from h =
      let o = onward h.to h.shows in
      record { to = o.to; shows = o.shows; same = o.same ∙ h.same }

-- more lines may be passed
shows_more : (s w : List ℕ) (end n m : ℕ) (r : Option Wanted) (p : Pull) → n ≤ m → ShowsNext s w end n r p → ShowsNext s w end m r p
unfolding ShowsNext
shows_more s w end n m None finished le h = h
shows_more s w end n m None (want place op c₁ c₀) le h = h
shows_more s w end n m None lost le h = h
shows_more s w end n m (Some x) finished le h = h
shows_more s w end n m (Some x) lost le h = h
shows_more s w end n m (Some x) (want place op c₁ c₀) le h =
    record {
      at_place = h.at_place;
      asks = h.asks;
      yes_shows = h.yes_shows;
      no_shows = h.no_shows;
      few = omega (arith, h.few, le);
      yes_few = omega (arith, h.yes_few, le);
      no_few = omega (arith, h.no_few, le);
    }

pub came-next : (s w w' : List ℕ) (end n : ℕ) (c : Point) (r : Step) (k : Option Wanted) → r ≡ Gives k → ((to : Ctl) → ShowsPoint s w end c to → ShowsStep s w' end c.at r to)
    → (from : Ctl) → Came s w end c from → ShowsNext s w' end n k (pull from)
unfolding ShowsStep
came-next s w w' end n c r k e step from h =
    shows_more s w' end 0 n k (pull from) (omega arith) (subst (λ (p : Pull). ShowsNext s w' end 0 k p) h.same (rw e at (step h.to h.shows)))

pub came-end : (s w : List ℕ) (end n : ℕ) (c : Point) (from : Ctl) → end ≤ c.at → Came s w end c from → ShowsNext s w end n None (pull from)
came-end s w end n c from le h = subst (λ (p : Pull). ShowsNext s w end n None p) h.same (all_done s w end n c h.to le h.shows)

-- ---- what comes next, by where the run stands

module _ (c : Control) (p : Point) (is : c ≡ Items p) where
  pub among-items : (s w : List ℕ) (end : ℕ) (from : Ctl) → ShowsCtl s w end c from → ShowsPoint s w end p from
  unfolding ShowsCtl
  among-items s w end from h = rw is at h

  pub pulls-items : (w w' : List ℕ) (end : ℕ) (r : Option Wanted) → PullsItems w w' end p r → PullsFrom w w' end c r
  pulls-items w w' end r h = (h.0, (λ s from x. shows_more s w' end 0 (passed c + 1) r (pull from) (omega arith) (h.1 s from (among-items s w end from x))), rw is h.2)

module _ (c : Control) (item lines : ℕ) (to : Point) (is : c ≡ Seeking item lines to) where
  pub in_search : (s w : List ℕ) (end : ℕ) (from : Ctl) → ShowsCtl s w end c from → ShowsCtl s w end (Seeking item lines to) from
  in_search s w end from h = rw is at h

  pub passed-lines : passed c ≡ lines
  unfolding passed
  passed-lines = rw is

  pub pulls-look : (w : List ℕ) (end : ℕ) (r : Wanted) → LooksFrom w item lines to r → PullsFrom w w end c (Some r)
  pulls-look w end r h = (kept-none w end, (λ s from x. rw passed-lines (h.0 s end from (in_search s w end from x))), rw is (looks w item lines to r h.1))
