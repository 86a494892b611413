-- Laws of running an item. Assumes nothing.
use mathlib.Core.Path.{◌≡◌, refl, sym, ap, ◌∙◌, subst}
use mathlib.Core.Bool.{Bool}
use mathlib.Core.List.{List, ◌∷◌}
use Prim.Native.Nat.{ℕ, ◌<◌}
use native.Mathlib.Omega.{arith}
use lib.ListN.{length}
use Rattle.definitions.specs.Edit.{only_step}
use Rattle.definitions.specs.Control.{Opener, Item, simple, seek, opens, close, leave, line_end, Frame, frame, running, seeking, Pull, want_one, leave_to, begin_op, pull_at, pull}
use Rattle.theorems.specs.NestingLaws.{may_bracket}
use Rattle.items.specs.Words.{OpAt, ItemAt, kind_at, place_at}
use Rattle.items.specs.Ends.{place_of}
use Rattle.items.specs.Depth.{open_after}
use Rattle.control.specs.declared.Mode.TheVariants.{Running}
use Rattle.control.specs.declared.Control.TheVariants.{Items}
use Rattle.control.specs.Shown.{FramesAt, InFrames, entered, Runs, Opening, Closing, ShowsPoint, ShowsCtl, passed, a_round, simply, ShowsNext, ShowsStep, stand_at, seek_at, wanted_at, wants_at, begin_by, begin_at}
use Rattle.control.specs.declared.Ask.TheVariants.{Round, Command}
use Rattle.control.specs.declared.Point.{Point}
use Rattle.control.specs.declared.Step.{Step}
use Rattle.control.specs.declared.Step.TheVariants.{On, Gives}
use Rattle.items.proofs.Reading.{item-reads}
use Rattle.control.proofs.Standing.{stands-in, pull-entered}
use Rattle.control.proofs.Classes.{Reading, Here, At, at_item, no_group, runs_on, as_line, as-leave, as-simple, as-seek, as-opens}
use Rattle.control.proofs.Starting.{gives, goes, items-shown, none-passed, shows-as}
use Rattle.control.proofs.Looking.{asks-begin}
use Rattle.items.specs.declared.ends.Class.{Class}
use Rattle.items.specs.declared.ends.Class.TheVariants.{LineEnd, Agp, Simple, Seeks, Opens}

pub opening : (s w : List ℕ) (end at next depth : ℕ) (class : Class) (p : ℕ) (o : Opener) (rest : List Item) (frames : List Frame) → Here s w end at next depth depth class frames (opens p o) rest
    → Opening s w end at next depth p o rest frames
unfolding ItemAt place_of open_after
opening s w end at next depth class p o rest frames x = record { opener = x.item; small = x.small; few = x.few; rest = x.rest }

pub closing : (s w : List ℕ) (end at next depth : ℕ) (class : Class) (rest : List Item) (g : Bool) (place : ℕ) (o : Opener) (body : List Item) (frames : List Frame)
    → Here s w end at next depth depth class (frame g place o body ∷ frames) close rest → Closing s w end at next depth rest g place o body frames
unfolding open_after FramesAt may_bracket
closing s w end at next depth class rest g place o body frames x =
    record {
      less = x.less;
      rest = x.rest.stands;
      past = no_group close rest x.past refl;
      top = x.rest.framed.0;
      framed = x.rest.framed.1;
      deep = omega (arith, x.rest.deep);
    }

-- at the start of a group the same comes next
pub as-entered : (s w : List ℕ) (end at : ℕ) (r : Step) (items : List Item) (frames : List Frame) → ShowsStep s w end at r (running items (entered items frames))
    → ShowsStep s w end at r (running items frames)
unfolding ShowsStep
as-entered s w end at (On c) items frames h =
    record { to = h.to; shows = h.shows; same = h.same ∙ pull-entered items frames; further = h.further }
as-entered s w end at (Gives r) items frames h = subst (λ (p : Pull). ShowsNext s w end 0 r p) (pull-entered items frames) h

module _ (w : List ℕ) (end at next depth : ℕ) (class : Class) (reads : Reading w at class next) (less : at < end) (s : List ℕ) (items : List Item) (frames : List Frame)
    (h : InFrames s w end at depth depth items frames) where
  here-is : At s w end at next depth depth class frames items
  here-is = at_item s w end at next depth depth class frames reads items less h

  -- the item's words can be read
  pub run_in : at < length w
  run_in = omega (arith, stands-in s w end at depth items h.stands, less)

  pub run-opening : class ≡ Opens → ((z : List ℕ) × (place : ℕ) × (o : Opener) × (rest : List Item) × (fs : List Frame) × Opening z w end at next depth place o rest fs)
  run-opening q =
      as-opens s w end at next depth depth class frames (λ l. ((z : List ℕ) × (place : ℕ) × (o : Opener) × (rest : List Item) × (fs : List Frame) × Opening z w end at next depth place o rest fs)) q items here-is
      (λ p o rest x. (s, p, o, rest, frames, opening s w end at next depth class p o rest frames x))

  pub run-leaving : class ≡ Agp → ((z : List ℕ) × (rest : List Item) × (fs : List Frame) × InFrames z w end next depth depth rest fs)
  unfolding open_after
  run-leaving q =
      as-leave s w end at next depth depth class frames (λ l. ((z : List ℕ) × (rest : List Item) × (fs : List Frame) × InFrames z w end next depth depth rest fs)) q items here-is
      (λ p rest x. (s, rest, frames, x.rest))

  module _ (r : Step) where
    -- an opener
    pub run-opens : (w' : List ℕ) → class ≡ Opens
        → ((z : List ℕ) (place : ℕ) (o : Opener) (rest : List Item) (fs : List Frame) → Opening z w end at next depth place o rest fs → ShowsStep z w' end at r (running (opens place o ∷ rest) fs))
        → ShowsStep s w' end at r (running items frames)
    run-opens w' q started =
        as-opens s w end at next depth depth class frames (λ l. ShowsStep s w' end at r (running l frames)) q items here-is
        (λ p o rest x. started s p o rest frames (opening s w end at next depth class p o rest frames x))

    -- a search
    pub run-seek : class ≡ Seeks → r ≡ begin_at w at next depth → ShowsStep s w end at r (running items frames)
    unfolding ItemAt place_of open_after ShowsPoint ShowsCtl passed pull pull_at want_one may_bracket
    run-seek q e =
        as-seek s w end at next depth depth class frames (λ l. ShowsStep s w end at r (running l frames)) q items here-is
        (λ p f se rest x.
        let x₁ = wanted_at (begin_by (kind_at w at)) (place_at w at) at (seek_at at next depth) (seek_at at next depth) in
        let on : Runs s w end next depth rest frames = runs_on s w end at next depth depth class frames (seek p f se) rest x refl (omega arith) in
        gives s w end at (running (seek p f se ∷ rest) frames) r x₁ p (begin_op f) (seeking p f se 0 rest frames) (seeking p f se 0 rest frames) refl e (record {
          at_place = (item-reads s w at next (seek p f se) x.item).place x.small;
          asks = asks-begin s w at next p se f x₁ refl x.item;
          yes_shows = (refl, x.small, x.item, (refl, on));
          no_shows = (refl, x.small, x.item, (refl, on));
          few = omega arith;
          yes_few = omega arith;
          no_few = omega arith;
        }))

    module _ (p : ℕ) (p-is : p ≡ place_at w at) (y : Point) where
      -- a simple command
      pub run-simple : class ≡ Simple → y ≡ stand_at Running next depth → r ≡ wants_at Command p at y y → ShowsStep s w end at r (running items frames)
      unfolding ItemAt place_of open_after ShowsPoint pull pull_at want_one may_bracket
      run-simple q y-is e =
          as-simple s w end at next depth depth class frames (λ l. ShowsStep s w end at r (running l frames)) q items here-is
          (λ place op rest x.
          let is-place : p ≡ place = p-is ∙ (item-reads s w at next (simple place op) x.item).place x.small in
          let sh : ShowsPoint s w end y (running rest frames) = shows-as s w end y (stand_at Running next depth) (running rest frames) y-is
          (refl, runs_on s w end at next depth depth class frames (simple place op) rest x refl (omega arith)) in
          gives s w end at (running (simple place op ∷ rest) frames) r (wanted_at Command p at (Items y) (Items y)) place op (running rest frames) (running rest frames) refl e (record {
            at_place = is-place;
            asks = simply op next refl (subst (λ (z : ℕ). OpAt s w at next z op) (sym is-place) x.item) (omega (arith, stands-in s w end next depth rest x.rest.stands));
            yes_shows = items-shown _ _ _ _ _ sh;
            no_shows = items-shown _ _ _ _ _ sh;
            few = omega arith;
            yes_few = none-passed _ _;
            no_few = none-passed _ _;
          }))

      -- AGP
      pub run-leave : class ≡ Agp → ((z : List ℕ) (rest : List Item) (fs : List Frame) → InFrames z w end next depth depth rest fs → ShowsPoint z w end y (leave_to 0 rest fs))
          → r ≡ wants_at Round p at y y → ShowsStep s w end at r (running items frames)
      unfolding ItemAt place_of open_after pull pull_at want_one
      run-leave q left e =
          as-leave s w end at next depth depth class frames (λ l. ShowsStep s w end at r (running l frames)) q items here-is
          (λ place rest x. gives s w end at (running (leave place ∷ rest) frames) r (wanted_at Round p at (Items y) (Items y)) place only_step (leave_to 0 rest frames) (leave_to 0 rest frames) refl e (record {
            at_place = p-is ∙ (item-reads s w at next (leave place) x.item).place x.small;
            asks = a_round refl;
            yes_shows = items-shown _ _ _ _ _ (left s rest frames x.rest);
            no_shows = items-shown _ _ _ _ _ (left s rest frames x.rest);
            few = omega arith;
            yes_few = none-passed _ _;
            no_few = none-passed _ _;
          }))

    -- a line end
    pub run-line : class ≡ LineEnd → (y : Point) → y ≡ stand_at Running next depth → r ≡ On y → ShowsStep s w end at r (running items frames)
    unfolding open_after ShowsPoint pull pull_at may_bracket
    run-line q y y-is e =
        as_line s w end at next depth depth class frames (λ l. ShowsStep s w end at r (running l frames)) q items here-is
        (λ rest x. goes s w end at (running (line_end ∷ rest) frames) r (running rest frames) (running rest frames) (stand_at Running next depth) (e ∙ ap On y-is) refl
        (refl, runs_on s w end at next depth depth class frames line_end rest x refl (omega arith)) x.less)
