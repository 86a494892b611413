-- How numbers and the words of the work area show where the run stands, and what comes next.
use Rattle.std.specs.Prelude.{◌≡◌, ◌⊎◌, Bool, false, cond, ◌||◌, Option, Some, None, List, [], ◌∷◌, ℕ, ◌+◌, ◌-◌, ◌*◌, ◌≤◌, ◌<◌, length, get_or, eqb}
use Rattle.definitions.specs.Search.{Search}
use Rattle.definitions.specs.Edit.{is, is_not, is_eof, Op, only_step, test, begin, begin_back, find, find_back, find_delete}
use Rattle.definitions.specs.Control.{Opener, times, forever, bare, branch, loop, Item, opens, otherwise, Frame, frame, Ctl, running, skipping, failing, leaving, seeking, Pull, finished, want, lost, pull}
use Rattle.matching.specs.Words.{Encodes}
use Rattle.items.specs.Kinds.{find_kind, find_back_kind, if_kind, unless_kind, while_kind, until_kind, seek_kind}
use Rattle.items.specs.Words.{head, kind_at, place_at, OpAt, SearchAt, TimesAt, OpenerAt, ItemAt, ItemsAt}
use Rattle.control.specs.Items.{count_of, starts_group, Proper}
use Rattle.items.specs.Depth.{deepest}
use Rattle.items.specs.Reserve.{reserve}
use Rattle.control.specs.declared.Ask.{Ask}
use Rattle.control.specs.declared.Ask.TheVariants.{Round, Holds, HoldsNot, AtEof, Begin, BeginBack, Find, FindBack, FindDelete, Command}
use Rattle.control.specs.declared.Mode.{Mode}
use Rattle.control.specs.declared.Mode.TheVariants.{Running, Skipping, Failing, Leaving}
use Rattle.control.specs.declared.Point.{Point}
use Rattle.control.specs.declared.Control.{Control}
use Rattle.control.specs.declared.Control.TheVariants.{Items, Seeking}
use Rattle.control.specs.declared.Wanted.{Wanted}
use Rattle.control.specs.declared.Step.{Step}
use Rattle.control.specs.declared.Step.TheVariants.{On, Gives}

-- the words below n and those of the reserve stay
pub record ItemsKept (w w' : List ℕ) (n : ℕ) : Type 0 where
  pub as_long : length w' ≡ length w
  pub same : (i : ℕ) → i < n → get_or w' i 0 ≡ get_or w i 0
  pub top : (i : ℕ) → length w ≤ i + reserve → get_or w' i 0 ≡ get_or w i 0

-- the items from k on, with room between `end` and the reserve for a word for each body that they can open at once, d of them open
pub record ItemsFrom (s w : List ℕ) (end k d : ℕ) (items : List Item) : Type 0 where
  pub lie : ItemsAt s w k end items
  pub proper : Proper items
  pub short : end ≤ 65536
  pub room : end + deepest d items + reserve ≤ length w

-- ---- the bodies that run

-- the opener, in the words from k up to m, of a body with `left` rounds left; ELSE opens the body after it
unfoldable pub OpenedAt : List ℕ → List ℕ → ℕ → ℕ → ℕ → Opener → ℕ → Type 0
OpenedAt s w k m place (times n) left = ((all : ℕ) × TimesAt s w k m place all) × (left ≡ n)
OpenedAt s w k m place forever left = OpenerAt s w k m place forever
OpenedAt s w k m place bare left = OpenerAt s w k m place bare ⊎ (ItemAt s w k m otherwise × (place ≡ 0))
OpenedAt s w k m place (branch c) left = OpenerAt s w k m place (branch c)
OpenedAt s w k m place (loop c) left = OpenerAt s w k m place (loop c)

-- the body of which the word at j says the opener's index and the rounds left; it is a group where its items start one; d bodies are open in it
pub record FrameAt (s w : List ℕ) (end j d : ℕ) (g : Bool) (place : ℕ) (o : Opener) (body : List Item) : Type 0 where
  pub item : ℕ
  pub start : ℕ
  pub left : ℕ
  pub opened : OpenedAt s w item start place o left
  pub word : get_or w j 0 ≡ item + 65536 * left
  pub before : item < end
  pub small : place < 32768
  pub stands : ItemsFrom s w end start d body
  pub group : g ≡ starts_group body

-- the bodies that run, the innermost last in the words
unfoldable pub FramesAt : List ℕ → List ℕ → ℕ → List Frame → Type 0
FramesAt s w end [] = Unit {0}
FramesAt s w end (frame g place o body ∷ frames) = FrameAt s w end (end + length frames) (length frames + 1) g place o body × FramesAt s w end frames

-- items from k on, in the frames; d bodies are open when those that are passed count too
pub record InFrames (s w : List ℕ) (end k depth d : ℕ) (items : List Item) (frames : List Frame) : Type 0 where
  pub stands : ItemsFrom s w end k d items
  pub framed : FramesAt s w end frames
  pub deep : depth ≡ length frames

-- at the start of a group the innermost body is one, though the run has yet to pass its bracket
unfoldable pub entered : List Item → List Frame → List Frame
entered items [] = []
entered items (frame g place o body ∷ frames) = frame (starts_group items || g) place o body ∷ frames

-- the run is at items from k on, in the frames
abbrev pub Runs : List ℕ → List ℕ → ℕ → ℕ → ℕ → List Item → List Frame → Type 0
Runs s w end k depth items frames = InFrames s w end k depth depth items (entered items frames)

-- ---- where the run stands

-- among the items: at one, to go on after the kth close, at an ELSE or after a close, after a line end
unfoldable pub ShowsPoint : List ℕ → List ℕ → ℕ → Point → Ctl → Type 0
ShowsPoint s w end c (running items frames) = (c.mode ≡ Running) × Runs s w end c.at c.depth items frames
ShowsPoint s w end c (skipping k items frames) = (c.mode ≡ Skipping k) × (1 ≤ k) × InFrames s w end c.at c.depth (c.depth + k) items frames
ShowsPoint s w end c (failing k items frames) = (c.mode ≡ Failing k) × (1 ≤ k) × InFrames s w end c.at c.depth (c.depth + k) items frames
ShowsPoint s w end c (leaving items) = (c.mode ≡ Leaving) × ((d : ℕ) × ItemsFrom s w end c.at d items)
ShowsPoint s w end c (seeking place f se k items frames) = ⊥

-- or in a search that has passed k lines, to go on at what stands after it
unfoldable pub ShowsCtl : List ℕ → List ℕ → ℕ → Control → Ctl → Type 0
ShowsCtl s w end (Items c) from = ShowsPoint s w end c from
ShowsCtl s w end (Seeking item lines to) (running items frames) = ⊥
ShowsCtl s w end (Seeking item lines to) (skipping k items frames) = ⊥
ShowsCtl s w end (Seeking item lines to) (failing k items frames) = ⊥
ShowsCtl s w end (Seeking item lines to) (leaving items) = ⊥
ShowsCtl s w end (Seeking item lines to) (seeking place f se k items frames) =
    (lines ≡ k) × (place < 32768) × SearchAt s w item to.at (head (seek_kind f) place) se × ShowsPoint s w end to (running items frames)

-- the lines that a search has passed
unfoldable pub passed : Control → ℕ
passed (Items c) = 0
passed (Seeking item lines to) = lines

abbrev pub stand_at : Mode → ℕ → ℕ → Point
stand_at mode at depth = record { mode = mode; at = at; depth = depth }

-- in the search of the item at `item`, which starts, to go on at `at`
abbrev pub seek_at : ℕ → ℕ → ℕ → Control
seek_at item at depth = Seeking item 0 (stand_at Running at depth)

-- the run stands at an opener, in the words from `at` up to `next`, and `items` after it
pub record Opening (s w : List ℕ) (end at next depth place : ℕ) (o : Opener) (items : List Item) (frames : List Frame) : Type 0 where
  pub opener : OpenerAt s w at next place o
  pub small : place < 32768
  pub few : count_of (opens place o) < 65536
  pub rest : InFrames s w end next depth (depth + 1) items frames

-- the run stands at the close of a body, `items` after it, from `next` on
pub record Closing (s w : List ℕ) (end at next depth : ℕ) (items : List Item) (g : Bool) (place : ℕ) (o : Opener) (body : List Item) (frames : List Frame) : Type 0 where
  pub less : at < next
  pub rest : ItemsFrom s w end next (depth - 1) items
  pub past : starts_group items ≡ false
  pub top : FrameAt s w end (end + length frames) (length frames + 1) g place o body
  pub framed : FramesAt s w end frames
  pub deep : depth ≡ length frames + 1

-- ---- what comes next

abbrev pub wanted_at : Ask → ℕ → ℕ → Control → Control → Wanted
wanted_at what place item after₁ after₀ = record { what = what; place = place; item = item; lines = 0; yes = after₁; no = after₀ }

-- outside a search
abbrev pub wants_at : Ask → ℕ → ℕ → Point → Point → Step
wants_at what place item after₁ after₀ = Gives (Some (wanted_at what place item (Items after₁) (Items after₀)))

-- what an opener's test asks, what begins a search, and what tests a line in it, by the kind
unfoldable pub test_by : ℕ → Ask
test_by kind = cond (eqb kind if_kind || eqb kind while_kind) Holds (cond (eqb kind unless_kind || eqb kind until_kind) HoldsNot AtEof)

unfoldable pub begin_by : ℕ → Ask
begin_by kind = cond (eqb kind find_back_kind) BeginBack Begin

unfoldable pub look_by : ℕ → Ask
look_by kind = cond (eqb kind find_kind) Find (cond (eqb kind find_back_kind) FindBack FindDelete)

-- the search of the item at k
unfoldable pub SearchOf : List ℕ → List ℕ → ℕ → Search → Type 0
SearchOf s w k se = Encodes s w (k + 2) (get_or w (k + 1) 0) se

-- what is asked of the editor; the words of a simple command lie below `end`
pub data Asks (s w : List ℕ) (end : ℕ) (x : Wanted) : Op → Type 0 where
  a_round : x.what ≡ Round → Asks s w end x only_step
  holds : (se : Search) → x.what ≡ Holds → SearchOf s w x.item se → Asks s w end x (test (is se))
  holds_not : (se : Search) → x.what ≡ HoldsNot → SearchOf s w x.item se → Asks s w end x (test (is_not se))
  at_eof : x.what ≡ AtEof → Asks s w end x (test is_eof)
  begins : x.what ≡ Begin → Asks s w end x begin
  begins-back : x.what ≡ BeginBack → Asks s w end x begin_back
  finds : (se : Search) → x.what ≡ Find → SearchOf s w x.item se → Asks s w end x (find se)
  finds-back : (se : Search) → x.what ≡ FindBack → SearchOf s w x.item se → Asks s w end x (find_back se)
  deletes : (se : Search) (k : ℕ) → x.what ≡ FindDelete → x.lines ≡ k → SearchOf s w x.item se → Asks s w end x (find_delete se k)
  simply : (op : Op) (m : ℕ) → x.what ≡ Command → OpAt s w x.item m x.place op → m ≤ end → Asks s w end x op

-- a step that is wanted: its place, its operation, and how to go on; no search has passed more than n lines then
pub record ShowsWant (s w : List ℕ) (end n : ℕ) (x : Wanted) (place : ℕ) (op : Op) (c₁ c₀ : Ctl) : Type 0 where
  pub at_place : x.place ≡ place
  pub few : x.lines ≤ n
  pub asks : Asks s w end x op
  pub yes_shows : ShowsCtl s w end x.yes c₁
  pub no_shows : ShowsCtl s w end x.no c₀
  pub yes_few : passed x.yes ≤ n
  pub no_few : passed x.no ≤ n

-- where the definitions are lost, which no run of an accepted script is (theorems, Frames), the items are taken to be at their end
unfoldable pub ShowsNext : List ℕ → List ℕ → ℕ → ℕ → Option Wanted → Pull → Type 0
ShowsNext s w end n None finished = Unit {0}
ShowsNext s w end n None (want place op c₁ c₀) = ⊥
ShowsNext s w end n None lost = Unit {0}
ShowsNext s w end n (Some x) finished = ⊥
ShowsNext s w end n (Some x) (want place op c₁ c₀) = ShowsWant s w end n x place op c₁ c₀
ShowsNext s w end n (Some x) lost = ⊥

-- where the run goes on without a step, further on in the items; what comes next from there is what comes next from `from`
pub record Onward (s w : List ℕ) (end at : ℕ) (c : Point) (from : Ctl) : Type 0 where
  pub to : Ctl
  pub shows : ShowsPoint s w end c to
  pub same : pull to ≡ pull from
  pub further : at < c.at

unfoldable pub ShowsStep : List ℕ → List ℕ → ℕ → ℕ → Step → Ctl → Type 0
ShowsStep s w end at (On c) from = Onward s w end at c from
ShowsStep s w end at (Gives r) from = ShowsNext s w end 0 r (pull from)

-- the step that begins the search at `at`
abbrev pub begin_at : List ℕ → ℕ → ℕ → ℕ → Step
begin_at w at next depth = let on = seek_at at next depth in Gives (Some (wanted_at (begin_by (kind_at w at)) (place_at w at) at on on))
