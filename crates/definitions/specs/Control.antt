-- Decoded items, and the order in which they ask for steps (document 01, "Commands": counts, RPT, IF, UL, IFEOF, ELSE, WH, UT, AGP; "Steps").
use Rattle.std.specs.Prelude.{Bool, true, false, List, [], ◌∷◌, ℕ, zero, suc}
use Rattle.definitions.specs.Search.{Search}
use Rattle.definitions.specs.Edit.{Test, Op, only_step, test, begin, begin_back, find, find_back, find_delete}

-- F, BF, DF
pub data Seek : Type 0 where
  forward backward deleting : Seek

-- What opens a body: a count, RPT, a bare group ("the body of nothing"), the test of IF, UL or IFEOF, the test of WH or UT
pub data Opener : Type 0 where
  times : ℕ → Opener
  forever : Opener
  bare : Opener
  branch : Test → Opener
  loop : Test → Opener

-- The items of a script in reading order, with their places. `opens` stands before a body, which the `close` that belongs to it ends; `bracket`
-- comes directly after it where the body is a group. `otherwise` is ELSE, between the two groups of one body. `leave` is AGP, `line_end` a line
-- end outside groups.
pub data Item : Type 0 where
  simple : ℕ → Op → Item
  seek : ℕ → Seek → Search → Item
  opens : ℕ → Opener → Item
  bracket close otherwise : Item
  leave : ℕ → Item
  line_end : Item

-- A body that runs: is it a group; its opener's place, the opener with the rounds left, and the items from the body on
pub data Frame : Type 0 where
  frame : Bool → ℕ → Opener → List Item → Frame

-- Where the run stands: at items; to go on after the kth close; at the ELSE, or after the close, of a test that failed; after the next line
-- end outside groups; in a search that has passed k lines
pub data Ctl : Type 0 where
  running : List Item → List Frame → Ctl
  skipping : ℕ → List Item → List Frame → Ctl
  failing : ℕ → List Item → List Frame → Ctl
  leaving : List Item → Ctl
  seeking : ℕ → Seek → Search → ℕ → List Item → List Frame → Ctl

-- What comes next: the script's end; or a step: its place, what it asks of the editor, and how to go on after the answer true or false. `lost` is
-- a close, bracket or ELSE without its body, or a close that is not there: no run of an accepted script comes to it (theorems, Frames:
-- frames-suffice).
pub data Pull : Type 0 where
  finished : Pull
  want : ℕ → Op → Ctl → Ctl → Pull
  lost : Pull

-- a step after which the run goes on in one way
unfoldable pub want_one : ℕ → Op → Ctl → Pull
want_one at op c = want at op c c

-- "one for each round of a count, RPT or bare group; one for each test" (R26: a count of 0 takes none); `skip` is what comes after the body
unfoldable pub body_start : Opener → ℕ → List Item → List Frame → Pull → Pull
body_start (times zero) at body frames skip = skip
body_start (times (suc n)) at body frames skip = want_one at only_step (running body (frame false at (times n) body ∷ frames))
body_start forever at body frames skip = want_one at only_step (running body (frame false at forever body ∷ frames))
body_start bare at body frames skip = want_one at only_step (running body (frame false at bare body ∷ frames))
body_start (branch c) at body frames skip = want at (test c) (running body (frame false at (branch c) body ∷ frames)) (failing 1 body frames)
body_start (loop c) at body frames skip = want at (test c) (running body (frame false at (loop c) body ∷ frames)) (skipping 1 body frames)

-- a body has run to its close, `items` stand after it; `skip` is what comes after the body
unfoldable pub body_end : Opener → Bool → ℕ → List Item → List Item → List Frame → Pull → Pull
body_end (times zero) g at body items frames skip = skip
body_end (times (suc n)) g at body items frames skip = want_one at only_step (running body (frame g at (times n) body ∷ frames))
body_end forever g at body items frames skip = want_one at only_step (running body (frame g at forever body ∷ frames))
body_end bare g at body items frames skip = skip
body_end (branch c) g at body items frames skip = skip
body_end (loop c) g at body items frames skip = want at (test c) (running body (frame g at (loop c) body ∷ frames)) (running items frames)

-- "AGP leaves the innermost group and what it is the body of, outside a group all to the next line end outside groups"; k bodies that are no
-- groups are left on the way (R24, R25)
unfoldable pub leave_to : ℕ → List Item → List Frame → Ctl
leave_to k items [] = leaving items
leave_to k items (frame true at o body ∷ frames) = skipping (suc k) items frames
leave_to k items (frame false at o body ∷ frames) = leave_to (suc k) items frames

unfoldable pub begin_op : Seek → Op
begin_op forward = begin
begin_op backward = begin_back
begin_op deleting = begin

unfoldable pub look_op : Seek → Search → ℕ → Op
look_op forward se k = find se
look_op backward se k = find_back se
look_op deleting se k = find_delete se k

unfoldable mutual
  unfolding body_start body_end leave_to want_one begin_op

  -- at items
  pub pull_at : List Item → List Frame → Pull
  pull_at [] frames = finished
  pull_at (simple at op ∷ items) frames = want_one at op (running items frames)
  pull_at (seek at s se ∷ items) frames = want_one at (begin_op s) (seeking at s se 0 items frames)
  pull_at (opens at o ∷ items) frames = let skip = pull_after items 1 frames in body_start o at items frames skip
  pull_at (bracket ∷ items) [] = lost
  pull_at (bracket ∷ items) (frame g at o body ∷ frames) = pull_at items (frame true at o body ∷ frames)
  pull_at (close ∷ items) [] = lost
  pull_at (close ∷ items) (frame g at o body ∷ frames) = let skip = pull_at items frames in body_end o g at body items frames skip
  pull_at (otherwise ∷ items) [] = lost
  pull_at (otherwise ∷ items) (f ∷ frames) = pull_after items 1 frames
  pull_at (leave at ∷ items) frames = want_one at only_step (leave_to 0 items frames)
  pull_at (line_end ∷ items) frames = pull_at items frames

  -- after the kth close
  pub pull_after : List Item → ℕ → List Frame → Pull
  pull_after [] k frames = lost
  pull_after (simple at op ∷ items) k frames = pull_after items k frames
  pull_after (seek at s se ∷ items) k frames = pull_after items k frames
  pull_after (opens at o ∷ items) k frames = pull_after items (suc k) frames
  pull_after (bracket ∷ items) k frames = pull_after items k frames
  pull_after (close ∷ items) zero frames = lost
  pull_after (close ∷ items) (suc zero) frames = pull_at items frames
  pull_after (close ∷ items) (suc (suc k)) frames = pull_after items (suc k) frames
  pull_after (otherwise ∷ items) k frames = pull_after items k frames
  pull_after (leave at ∷ items) k frames = pull_after items k frames
  pull_after (line_end ∷ items) k frames = pull_after items k frames

-- at the ELSE, or after the close, of a test that failed, k bodies deep; the group after ELSE is run as a body without rounds
unfoldable pub pull_else : List Item → ℕ → List Frame → Pull
pull_else [] k frames = lost
pull_else (simple at op ∷ items) k frames = pull_else items k frames
pull_else (seek at s se ∷ items) k frames = pull_else items k frames
pull_else (opens at o ∷ items) k frames = pull_else items (suc k) frames
pull_else (bracket ∷ items) k frames = pull_else items k frames
pull_else (close ∷ items) zero frames = lost
pull_else (close ∷ items) (suc zero) frames = pull_at items frames
pull_else (close ∷ items) (suc (suc k)) frames = pull_else items (suc k) frames
pull_else (otherwise ∷ items) zero frames = lost
pull_else (otherwise ∷ items) (suc zero) frames = pull_at items (frame false 0 bare items ∷ frames)
pull_else (otherwise ∷ items) (suc (suc k)) frames = pull_else items (suc (suc k)) frames
pull_else (leave at ∷ items) k frames = pull_else items k frames
pull_else (line_end ∷ items) k frames = pull_else items k frames

-- after the next line end outside groups
unfoldable pub pull_line : List Item → Pull
pull_line [] = finished
pull_line (simple at op ∷ items) = pull_line items
pull_line (seek at s se ∷ items) = pull_line items
pull_line (opens at o ∷ items) = pull_line items
pull_line (bracket ∷ items) = pull_line items
pull_line (close ∷ items) = pull_line items
pull_line (otherwise ∷ items) = pull_line items
pull_line (leave at ∷ items) = pull_line items
pull_line (line_end ∷ items) = pull_at items []

unfoldable pub pull : Ctl → Pull
pull (running items frames) = pull_at items frames
pull (skipping k items frames) = pull_after items k frames
pull (failing k items frames) = pull_else items k frames
pull (leaving items) = pull_line items
pull (seeking at s se k items frames) = want at (look_op s se k) (running items frames) (seeking at s se (suc k) items frames)
