-- What the functions are handed, and what they answer: what it shows, and what it is by the words alone. The words w become w'.
use Rattle.std.specs.Prelude.{◌≡◌, Bool, Option, Some, List, ◌∷◌, ℕ, ◌+◌, ◌<◌}
use Rattle.definitions.specs.Control.{Opener, Item, opens, close, Frame, frame, Ctl, running, skipping, failing, leaving, leave_to, pull}
use Rattle.items.specs.Ends.{seen_at}
use Rattle.control.specs.declared.Point.{Point}
use Rattle.control.specs.declared.Control.{Control}
use Rattle.control.specs.declared.Control.TheVariants.{Items, Seeking}
use Rattle.control.specs.declared.Wanted.{Wanted}
use Rattle.control.specs.declared.Step.{Step}
use Rattle.control.specs.Shown.{ItemsKept, ItemsFrom, FrameAt, InFrames, Runs, ShowsPoint, ShowsCtl, passed, Opening, Closing, ShowsNext, Onward, ShowsStep}
use Rattle.control.specs.Moves.{Is, skip_to, fail_to, line_to, group_at, leave_by, open_by, close_by, run_by, step_by, look_at, Pulled}

-- the run stands at an opener, at a close
abbrev pub AtOpener : List ℕ → ℕ → ℕ → ℕ → ℕ → Type 0
AtOpener w end at next depth = (s : List ℕ) × (place : ℕ) × (o : Opener) × (items : List Item) × (frames : List Frame) × Opening s w end at next depth place o items frames

abbrev pub AtClose : List ℕ → ℕ → ℕ → ℕ → Type 0
AtClose w end next depth =
    (s : List ℕ) × (at : ℕ) × (items : List Item) × (g : Bool) × (place : ℕ) × (o : Opener) × (body : List Item) × (frames : List Frame) × Closing s w end at next depth items g place o body frames

-- whether the body of the word at j is a group
abbrev pub SaysGroup : List ℕ → ℕ → ℕ → Bool → Type 0
SaysGroup w end j r =
    ((s : List ℕ) (d : ℕ) (g : Bool) (place : ℕ) (o : Opener) (body : List Item) → FrameAt s w end j d g place o body → r ≡ g) × (r ≡ group_at w end j)

abbrev pub StartsBody : List ℕ → List ℕ → ℕ → ℕ → ℕ → ℕ → Step → Type 0
StartsBody w w' end at next depth r =
    ItemsKept w w' end × ((s : List ℕ) (place : ℕ) (o : Opener) (items : List Item) (frames : List Frame) → Opening s w end at next depth place o items frames
    → ShowsStep s w' end at r (running (opens place o ∷ items) frames))
    × Is (open_by w end at next depth) r w'

abbrev pub EndsBody : List ℕ → List ℕ → ℕ → ℕ → ℕ → Step → Type 0
EndsBody w w' end next depth r =
    ItemsKept w w' end × ((s : List ℕ) (at : ℕ) (items : List Item) (g : Bool) (place : ℕ) (o : Opener) (body : List Item) (frames : List Frame)
    → Closing s w end at next depth items g place o body frames → ShowsStep s w' end at r (running (close ∷ items) (frame g place o body ∷ frames)))
    × Is (close_by w end next depth) r w'

-- AGP at the item before `next` leads to r
abbrev pub LeadsOut : List ℕ → ℕ → ℕ → ℕ → Point → Type 0
LeadsOut w end next depth r =
    ((s : List ℕ) (items : List Item) (frames : List Frame) → InFrames s w end next depth depth items frames → ShowsPoint s w end r (leave_to 0 items frames))
    × (r ≡ leave_by w end next depth depth)

-- an item is passed: to a close, to an ELSE or a close, to a line end
abbrev pub SkipsItem : List ℕ → ℕ → ℕ → ℕ → Point → Type 0
SkipsItem w at depth count r =
    ((s : List ℕ) (end : ℕ) (items : List Item) (frames : List Frame) → InFrames s w end at depth (depth + count) items frames → at < end → Onward s w end at r (skipping count items frames))
    × (r ≡ skip_to (seen_at w at) depth count)

abbrev pub FailsItem : List ℕ → List ℕ → ℕ → ℕ → ℕ → ℕ → Point → Type 0
FailsItem w w' end at depth count r =
    ItemsKept w w' end × ((s : List ℕ) (items : List Item) (frames : List Frame) → InFrames s w end at depth (depth + count) items frames → Onward s w' end at r (failing count items frames))
    × Is (fail_to (seen_at w at) w end at depth count) r w'

abbrev pub PassesItem : List ℕ → ℕ → Point → Type 0
PassesItem w at r =
    ((s : List ℕ) (end : ℕ) (d : ℕ) (items : List Item) → ItemsFrom s w end at d items → at < end → Onward s w end at r (leaving items)) × (r ≡ line_to (seen_at w at))

-- an item is run
abbrev pub RunsItem : List ℕ → List ℕ → ℕ → ℕ → ℕ → Step → Type 0
RunsItem w w' end at depth r =
    ItemsKept w w' end × ((s : List ℕ) (items : List Item) (frames : List Frame) → Runs s w end at depth items frames → ShowsStep s w' end at r (running items frames))
    × Is (run_by (seen_at w at) w end at depth) r w'

-- one item, from c
abbrev pub StepsFrom : List ℕ → List ℕ → ℕ → Point → Step → Type 0
StepsFrom w w' end c r =
    ItemsKept w w' end × ((s : List ℕ) (from : Ctl) → ShowsPoint s w end c from → ShowsStep s w' end c.at r from) × Is (step_by w end c) r w'

-- the test of a line in a search that has passed `lines` lines
abbrev pub LooksFrom : List ℕ → ℕ → ℕ → Point → Wanted → Type 0
LooksFrom w item lines to r =
    ((s : List ℕ) (end : ℕ) (from : Ctl) → ShowsCtl s w end (Seeking item lines to) from → ShowsNext s w end (lines + 1) (Some r) (pull from)) × (r ≡ look_at w item lines to)

-- what comes next from c, among the items
abbrev pub PullsItems : List ℕ → List ℕ → ℕ → Point → Option Wanted → Type 0
PullsItems w w' end c r =
    ItemsKept w w' end × ((s : List ℕ) (from : Ctl) → ShowsPoint s w end c from → ShowsNext s w' end 0 r (pull from)) × Pulled end w (Items c) r w'

-- what comes next from c
abbrev pub PullsFrom : List ℕ → List ℕ → ℕ → Control → Option Wanted → Type 0
PullsFrom w w' end c r =
    ItemsKept w w' end × ((s : List ℕ) (from : Ctl) → ShowsCtl s w end c from → ShowsNext s w' end (passed c + 1) r (pull from)) × Pulled end w c r w'
