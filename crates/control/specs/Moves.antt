-- Where an item leads, and what comes next, by the words of the work area alone: what the functions answer, and the words then. Assumes nothing.
use Rattle.std.specs.Prelude.{◌≡◌, Bool, false, cond, Option, Some, None, List, ℕ, zero, suc, ◌+◌, ◌-◌, ◌*◌, ◌/◌, ◌%◌, ◌≤◌, ◌<◌, get_or, set, eqb, leb}
use Rattle.items.specs.Kinds.{bracket_kind}
use Rattle.items.specs.Words.{kind_at, place_at}
use Rattle.items.specs.Ends.{end_by, way_by, times_at, seen_at}
use Rattle.items.specs.declared.ends.Class.{Class}
use Rattle.items.specs.declared.ends.Class.TheVariants.{LineEnd, Bracket, Close, Else, Agp, Simple, Seeks, Opens}
use Rattle.items.specs.declared.ends.Seen.{Seen}
use Rattle.items.specs.declared.openers.Way.{Way}
use Rattle.items.specs.declared.openers.Way.TheVariants.{Counting, Repeating, Branching, Looping}
use Rattle.control.specs.declared.Ask.TheVariants.{Round, Command}
use Rattle.control.specs.declared.Mode.{Mode}
use Rattle.control.specs.declared.Mode.TheVariants.{Running, Skipping, Failing, Leaving}
use Rattle.control.specs.declared.Point.{Point}
use Rattle.control.specs.declared.Control.{Control}
use Rattle.control.specs.declared.Control.TheVariants.{Items, Seeking}
use Rattle.control.specs.declared.Wanted.{Wanted}
use Rattle.control.specs.declared.Step.{Step}
use Rattle.control.specs.declared.Step.TheVariants.{On, Gives}
use Rattle.control.specs.Shown.{stand_at, wants_at, test_by, look_by, begin_at}

-- an answer, and the words then
abbrev pub Is : {A : Type 0} → A × List ℕ → A → List ℕ → Type 0
Is x r w' = (r ≡ x.0) × (w' ≡ x.1)

-- ---- an item is passed

-- to go on after the `count`th close
unfoldable pub skip_in : Class → ℕ → ℕ → ℕ → Point
skip_in Opens next depth count = stand_at (Skipping (count + 1)) next depth
skip_in Close next depth count = cond (eqb count 1) (stand_at Running next depth) (stand_at (Skipping (count - 1)) next depth)
skip_in other next depth count = stand_at (Skipping count) next depth

abbrev pub skip_to : Seen → ℕ → ℕ → Point
skip_to i depth count = skip_in i.class i.next depth count

-- to go on at an ELSE, which opens a body at the word for it, or after a close
unfoldable pub fail_in : Class → ℕ → List ℕ → ℕ → ℕ → ℕ → ℕ → Point × List ℕ
fail_in Opens next w end at depth count = (stand_at (Failing (count + 1)) next depth, w)
fail_in Close next w end at depth count = cond (eqb count 1) (stand_at Running next depth, w) (stand_at (Failing (count - 1)) next depth, w)
fail_in Else next w end at depth count = cond (eqb count 1) (stand_at Running next (depth + 1), set w (end + depth) (at + 65536 * 0)) (stand_at (Failing count) next depth, w)
fail_in other next w end at depth count = (stand_at (Failing count) next depth, w)

abbrev pub fail_to : Seen → List ℕ → ℕ → ℕ → ℕ → ℕ → Point × List ℕ
fail_to i w end at depth count = fail_in i.class i.next w end at depth count

-- to go on after a line end
unfoldable pub line_in : Class → ℕ → Point
line_in LineEnd next = stand_at Running next 0
line_in other next = stand_at Leaving next 0

abbrev pub line_to : Seen → Point
line_to i = line_in i.class i.next

-- ---- bodies

-- the body of the word at j is a group
unfoldable pub group_at : List ℕ → ℕ → ℕ → Bool
group_at w end j =
    let item = get_or w j 0 % 65536 in
    let start = end_by w item (kind_at w item) in
    cond (leb end start) false (eqb (kind_at w start) bracket_kind)

-- AGP leaves the innermost group of the lowest d bodies, and those above it
unfoldable pub leave_by : List ℕ → ℕ → ℕ → ℕ → ℕ → Point
leave_by w end next depth zero = stand_at Leaving next 0
leave_by w end next depth (suc d) = cond (group_at w end (end + d)) (stand_at (Skipping (depth - d)) next d) (leave_by w end next depth d)

-- at the opener at `at`, by what its body does: its body's word is written
unfoldable pub open_in : Way → List ℕ → ℕ → ℕ → ℕ → ℕ → Step × List ℕ
open_in Counting w end at next depth =
    let body = stand_at Running next (depth + 1) in
    cond (eqb (times_at w at) 0) (On (stand_at (Skipping 1) next depth), w)
    (wants_at Round (place_at w at) at body body, set w (end + depth) (at + 65536 * (times_at w at - 1)))
open_in Branching w end at next depth =
    (wants_at (test_by (kind_at w at)) (place_at w at) at (stand_at Running next (depth + 1)) (stand_at (Failing 1) next depth), set w (end + depth) (at + 65536 * 0))
open_in Looping w end at next depth =
    (wants_at (test_by (kind_at w at)) (place_at w at) at (stand_at Running next (depth + 1)) (stand_at (Skipping 1) next depth), set w (end + depth) (at + 65536 * 0))
open_in other w end at next depth =
    let body = stand_at Running next (depth + 1) in
    (wants_at Round (place_at w at) at body body, set w (end + depth) (at + 65536 * 0))

abbrev pub open_by : List ℕ → ℕ → ℕ → ℕ → ℕ → Step × List ℕ
open_by w end at next depth = open_in (way_by (kind_at w at)) w end at next depth

-- at the close of the innermost of `depth` bodies, the word at j and the item of its opener: a round less is left of a count
unfoldable pub close_in : Way → List ℕ → ℕ → ℕ → ℕ → ℕ → Step × List ℕ
close_in Counting w j item next depth =
    let again = stand_at Running (end_by w item (kind_at w item)) depth in
    cond (eqb (get_or w j 0 / 65536) 0) (On (stand_at Running next (depth - 1)), w) (wants_at Round (place_at w item) item again again, set w j (get_or w j 0 - 65536))
close_in Repeating w j item next depth =
    let again = stand_at Running (end_by w item (kind_at w item)) depth in
    (wants_at Round (place_at w item) item again again, w)
close_in Looping w j item next depth =
    (wants_at (test_by (kind_at w item)) (place_at w item) item (stand_at Running (end_by w item (kind_at w item)) depth) (stand_at Running next (depth - 1)), w)
close_in other w j item next depth = (On (stand_at Running next (depth - 1)), w)

abbrev pub close_by : List ℕ → ℕ → ℕ → ℕ → Step × List ℕ
close_by w end next depth =
    let j = end + (depth - 1) in
    let item = get_or w j 0 % 65536 in
    close_in (way_by (kind_at w item)) w j item next depth

-- ---- an item is run

unfoldable pub run_in : Class → ℕ → List ℕ → ℕ → ℕ → ℕ → Step × List ℕ
run_in Opens next w end at depth = open_by w end at next depth
run_in Seeks next w end at depth = (begin_at w at next depth, w)
run_in Simple next w end at depth = let on = stand_at Running next depth in (wants_at Command (place_at w at) at on on, w)
run_in Agp next w end at depth = let out = leave_by w end next depth depth in (wants_at Round (place_at w at) at out out, w)
run_in LineEnd next w end at depth = (On (stand_at Running next depth), w)
run_in Bracket next w end at depth = cond (eqb depth 0) (Gives None, w) (On (stand_at Running next depth), w)
run_in Else next w end at depth = cond (eqb depth 0) (Gives None, w) (On (stand_at (Skipping 1) next (depth - 1)), w)
run_in Close next w end at depth = cond (eqb depth 0) (Gives None, w) (close_by w end next depth)

abbrev pub run_by : Seen → List ℕ → ℕ → ℕ → ℕ → Step × List ℕ
run_by i w end at depth = run_in i.class i.next w end at depth

-- ---- what comes next

-- one item, by how the run stands
unfoldable pub step_in : Mode → List ℕ → ℕ → ℕ → ℕ → Step × List ℕ
step_in Running w end at depth = run_by (seen_at w at) w end at depth
step_in (Skipping count) w end at depth = (On (skip_to (seen_at w at) depth count), w)
step_in (Failing count) w end at depth = let x = fail_to (seen_at w at) w end at depth count in (On x.0, x.1)
step_in Leaving w end at depth = (On (line_to (seen_at w at)), w)

abbrev pub step_by : List ℕ → ℕ → Point → Step × List ℕ
step_by w end c = step_in c.mode w end c.at c.depth

-- the test of a line in a search that has passed `lines` lines
unfoldable pub look_at : List ℕ → ℕ → ℕ → Point → Wanted
look_at w item lines to =
    record {
      what = look_by (kind_at w item);
      place = place_at w item;
      item = item;
      lines = lines;
      yes = Items to;
      no = Seeking item (lines + 1) to;
    }

-- the test of a line where c is in a search; else items one after another, up to a step that is wanted or to the end
pub data Pulled (end : ℕ) : List ℕ → Control → Option Wanted → List ℕ → Type 0 where
  looks : (w : List ℕ) (item lines : ℕ) (to : Point) (r : Wanted) → r ≡ look_at w item lines to → Pulled end w (Seeking item lines to) (Some r) w
  ends : (w : List ℕ) (c : Point) → end ≤ c.at → Pulled end w (Items c) None w
  gives : (w : List ℕ) (c : Point) (r : Option Wanted) (w' : List ℕ) → c.at < end → step_by w end c ≡ (Gives r, w') → Pulled end w (Items c) r w'
  goes : (w : List ℕ) (c to : Point) (v : List ℕ) (r : Option Wanted) (w' : List ℕ) → c.at < end → step_by w end c ≡ (On to, v) → Pulled end v (Items to) r w' → Pulled end w (Items c) r w'
