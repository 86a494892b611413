-- Where a run stops: at a command, whose place is that of a byte of the script; or among its unread lines, with the script's length as place (document 02, wish 2).
-- So the number and the place tell which runs demand 3 does not compare.
use Rattle.std.specs.Prelude.{◌≡◌, refl, Bool, ◌⊎◌, length}
use Rattle.std.proofs.Math.Bool.{true, false}
use Rattle.std.proofs.Common.{inl, inr, arith}
use mathlib.Core.List.{List, [], ◌∷◌}
use Prim.Native.Nat.{ℕ, zero, suc, ◌<◌}
use borrow.Author.Tests.{ltb-true}
use Rattle.definitions.specs.Bytes.{Line, lines_of}
use Rattle.definitions.specs.Tape.{Tape, unread, Reads, bind}
use Rattle.definitions.specs.Given.{given, bytes, no_globals}
use Rattle.definitions.specs.Editor.{Stop, n25, n26, stop_number}
use Rattle.definitions.specs.Reading.{opening}
use Rattle.definitions.specs.StepProgram.{RunState, state, Out, on, edited, halt}
use Rattle.definitions.specs.Edit.{Op, step}
use Rattle.definitions.specs.Control.{Opener, times, forever, bare, branch, loop, Item, simple, seek, opens, bracket, close, otherwise, leave, line_end, Frame, frame, Ctl, running, skipping, failing, leaving, seeking, Pull, finished, want, lost, want_one, body_start, body_end, leave_to, pull_at, pull_after, pull_else, pull_line, pull}
use Rattle.definitions.specs.Script.{Script, items as itemsAre, refused_at, read_script}
use Rattle.definitions.specs.Run.{End, end, choose, end_place, spent, stepped, stepping, run, run_items, Answer, answer_of, ran_items, run_answer, answer_number, answer_place}
use Rattle.theorems.specs.Each.{Each}
use Rattle.theorems.specs.Lines.{and_left, and_right}
use Rattle.theorems.specs.GoodItems.{placed_in, all_items}
use Rattle.theorems.proofs.ReadScript.{items-placed}
use Rattle.theorems.specs.Demand3.{IsAccepted}
use Rattle.theorems.specs.Accepted.{ran-accepted, no-refusal}
use Rattle.theorems.proofs.Rest.{Comes, as_told, stops_late, last_answer, late_stop, IsDone, answer-comes}

-- ---- every step that is wanted has the place of an item

module _ (n : ℕ) where
  -- places below n
  abbrev ItemIn : Item → Type 0
  ItemIn (simple at op) = at < n
  ItemIn (seek at s se) = at < n
  ItemIn (opens at o) = at < n
  ItemIn bracket = Unit {0}
  ItemIn close = Unit {0}
  ItemIn otherwise = Unit {0}
  ItemIn (leave at) = at < n
  ItemIn line_end = Unit {0}

  abbrev ItemsIn : List Item → Type 0
  ItemsIn items = Each ItemIn items

  -- a bare group's place is not asked for again
  abbrev RoundIn : Opener → ℕ → Type 0
  RoundIn (times k) at = at < n
  RoundIn forever at = at < n
  RoundIn bare at = Unit {0}
  RoundIn (branch c) at = at < n
  RoundIn (loop c) at = at < n

  abbrev FrameIn : Frame → Type 0
  FrameIn (frame g at o body) = RoundIn o at × ItemsIn body

  abbrev FramesIn : List Frame → Type 0
  FramesIn frames = Each FrameIn frames

  abbrev CtlIn : Ctl → Type 0
  CtlIn (running items frames) = ItemsIn items × FramesIn frames
  CtlIn (skipping k items frames) = ItemsIn items × FramesIn frames
  CtlIn (failing k items frames) = ItemsIn items × FramesIn frames
  CtlIn (leaving items) = ItemsIn items
  CtlIn (seeking at s se k items frames) = (at < n) × ItemsIn items × FramesIn frames

  abbrev PullIn : Pull → Type 0
  PullIn finished = Unit {0}
  PullIn (want at op c₁ c₀) = (at < n) × CtlIn c₁ × CtlIn c₀
  PullIn lost = Unit {0}

  start-in : (o : Opener) (at : ℕ) (body : List Item) (frames : List Frame) (skip : Pull) → at < n → ItemsIn body → FramesIn frames → PullIn skip → PullIn (body_start o at body frames skip)
  unfolding body_start want_one
  start-in (times zero) at body frames skip a i f s = s
  start-in (times (suc k)) at body frames skip a i f s = (a, (i, ((a, i), f)), (i, ((a, i), f)))
  start-in forever at body frames skip a i f s = (a, (i, ((a, i), f)), (i, ((a, i), f)))
  start-in bare at body frames skip a i f s = (a, (i, ((tt, i), f)), (i, ((tt, i), f)))
  start-in (branch c) at body frames skip a i f s = (a, (i, ((a, i), f)), (i, f))
  start-in (loop c) at body frames skip a i f s = (a, (i, ((a, i), f)), (i, f))

  end-in : (o : Opener) (g : Bool) (at : ℕ) (body items : List Item) (frames : List Frame) (next : Pull) → RoundIn o at → ItemsIn body → ItemsIn items → FramesIn frames → PullIn next
      → PullIn (body_end o g at body items frames next)
  unfolding body_end want_one
  end-in (times zero) g at body items frames next a b i f s = s
  end-in (times (suc k)) g at body items frames next a b i f s = (a, (b, ((a, b), f)), (b, ((a, b), f)))
  end-in forever g at body items frames next a b i f s = (a, (b, ((a, b), f)), (b, ((a, b), f)))
  end-in bare g at body items frames next a b i f s = s
  end-in (branch c) g at body items frames next a b i f s = s
  end-in (loop c) g at body items frames next a b i f s = (a, (b, ((a, b), f)), (i, f))

  leave-in : (k : ℕ) (items : List Item) (frames : List Frame) → ItemsIn items → FramesIn frames → CtlIn (leave_to k items frames)
  unfolding leave_to
  leave-in k items [] i f = i
  leave-in k items (frame true at o body ∷ frames) i f = (i, f.1)
  leave-in k items (frame false at o body ∷ frames) i f = leave-in (suc k) items frames i f.1

  mutual
    unfolding pull_at pull_after want_one

    at_in : (items : List Item) (frames : List Frame) → ItemsIn items → FramesIn frames → PullIn (pull_at items frames)
    at_in [] frames i f = tt
    at_in (simple at op ∷ items) frames i f = (i.0, (i.1, f), (i.1, f))
    at_in (seek at s se ∷ items) frames i f = (i.0, (i.0, i.1, f), (i.0, i.1, f))
    at_in (opens at o ∷ items) frames i f = start-in o at items frames (pull_after items 1 frames) i.0 i.1 f (after-in items 1 frames i.1 f)
    at_in (bracket ∷ items) [] i f = tt
    at_in (bracket ∷ items) (frame g at o body ∷ frames) i f = at_in items (frame true at o body ∷ frames) i.1 f
    at_in (close ∷ items) [] i f = tt
    at_in (close ∷ items) (frame g at o body ∷ frames) i f =
        end-in o g at body items frames (pull_at items frames) f.0.0 f.0.1 i.1 f.1 (at_in items frames i.1 f.1)
    at_in (otherwise ∷ items) [] i f = tt
    at_in (otherwise ∷ items) (g ∷ frames) i f = after-in items 1 frames i.1 f.1
    at_in (leave at ∷ items) frames i f = (i.0, leave-in 0 items frames i.1 f, leave-in 0 items frames i.1 f)
    at_in (line_end ∷ items) frames i f = at_in items frames i.1 f

    after-in : (items : List Item) (k : ℕ) (frames : List Frame) → ItemsIn items → FramesIn frames → PullIn (pull_after items k frames)
    after-in [] k frames i f = tt
    after-in (simple at op ∷ items) k frames i f = after-in items k frames i.1 f
    after-in (seek at s se ∷ items) k frames i f = after-in items k frames i.1 f
    after-in (opens at o ∷ items) k frames i f = after-in items (suc k) frames i.1 f
    after-in (bracket ∷ items) k frames i f = after-in items k frames i.1 f
    after-in (close ∷ items) zero frames i f = tt
    after-in (close ∷ items) (suc zero) frames i f = at_in items frames i.1 f
    after-in (close ∷ items) (suc (suc k)) frames i f = after-in items (suc k) frames i.1 f
    after-in (otherwise ∷ items) k frames i f = after-in items k frames i.1 f
    after-in (leave at ∷ items) k frames i f = after-in items k frames i.1 f
    after-in (line_end ∷ items) k frames i f = after-in items k frames i.1 f

  else-in : (items : List Item) (k : ℕ) (frames : List Frame) → ItemsIn items → FramesIn frames → PullIn (pull_else items k frames)
  unfolding pull_else
  else-in [] k frames i f = tt
  else-in (simple at op ∷ items) k frames i f = else-in items k frames i.1 f
  else-in (seek at s se ∷ items) k frames i f = else-in items k frames i.1 f
  else-in (opens at o ∷ items) k frames i f = else-in items (suc k) frames i.1 f
  else-in (bracket ∷ items) k frames i f = else-in items k frames i.1 f
  else-in (close ∷ items) zero frames i f = tt
  else-in (close ∷ items) (suc zero) frames i f = at_in items frames i.1 f
  else-in (close ∷ items) (suc (suc k)) frames i f = else-in items (suc k) frames i.1 f
  else-in (otherwise ∷ items) zero frames i f = tt
  else-in (otherwise ∷ items) (suc zero) frames i f = at_in items (frame false 0 bare items ∷ frames) i.1 ((tt, i.1), f)
  else-in (otherwise ∷ items) (suc (suc k)) frames i f = else-in items (suc (suc k)) frames i.1 f
  else-in (leave at ∷ items) k frames i f = else-in items k frames i.1 f
  else-in (line_end ∷ items) k frames i f = else-in items k frames i.1 f

  line-in : (items : List Item) → ItemsIn items → PullIn (pull_line items)
  unfolding pull_line
  line-in [] i = tt
  line-in (simple at op ∷ items) i = line-in items i.1
  line-in (seek at s se ∷ items) i = line-in items i.1
  line-in (opens at o ∷ items) i = line-in items i.1
  line-in (bracket ∷ items) i = line-in items i.1
  line-in (close ∷ items) i = line-in items i.1
  line-in (otherwise ∷ items) i = line-in items i.1
  line-in (leave at ∷ items) i = line-in items i.1
  line-in (line_end ∷ items) i = at_in items [] i.1 tt

  pull-in : (c : Ctl) → CtlIn c → PullIn (pull c)
  unfolding pull
  pull-in (running items frames) h = at_in items frames h.0 h.1
  pull-in (skipping k items frames) h = after-in items k frames h.0 h.1
  pull-in (failing k items frames) h = else-in items k frames h.0 h.1
  pull-in (leaving items) h = line-in items h
  pull-in (seeking at s se k items frames) h = (h.0, (h.1, h.2), (h.0, h.1, h.2))

  -- ---- so has the end of every run that is not done

  abbrev EndIn : End → Type 0
  EndIn (end zero steps at s) = Unit {0}
  EndIn (end (suc m) steps at s) = at < n

  choose-in : (b : Bool) (c₁ c₀ : Ctl) → CtlIn c₁ → CtlIn c₀ → CtlIn (choose b c₁ c₀)
  unfolding choose
  choose-in true c₁ c₀ h k = h
  choose-in false c₁ c₀ h k = k

  spent-in : (steps : ℕ) (s : RunState) (x : Pull) → PullIn x → EndIn (spent steps s x)
  unfolding spent
  spent-in steps s finished h = tt
  spent-in steps s (want at op c₁ c₀) h = h.0
  spent-in steps s lost h = tt

  module _ (take_step : Op → RunState → Reads Out) (go : Ctl → RunState → Reads End) (ih : (c : Ctl) (s : RunState) (t : Tape) → CtlIn c → EndIn (go c s t).0) where
    stepped-in : (steps at : ℕ) (c₁ c₀ : Ctl) (o : Out) (t : Tape) → at < n → CtlIn c₁ → CtlIn c₀ → EndIn (stepped go steps at c₁ c₀ o t).0
    unfolding stepped end_place
    stepped-in steps at c₁ c₀ (on b s) t a h k = ih (choose b c₁ c₀) s t (choose-in b c₁ c₀ h k)
    stepped-in steps at c₁ c₀ (edited s) t a h k = ih c₁ s t h
    stepped-in steps at c₁ c₀ (halt zero s) t a h k = tt
    stepped-in steps at c₁ c₀ (halt (suc m) s) t a h k = a

    stepping-in : (steps : ℕ) (s : RunState) (x : Pull) (t : Tape) → PullIn x → EndIn (stepping take_step go steps s x t).0
    unfolding stepping bind
    stepping-in steps s finished t h = tt
    stepping-in steps s (want at op c₁ c₀) t h = stepped-in (suc steps) at c₁ c₀ (take_step op s t).0 (take_step op s t).1 h.0 h.1 h.2
    stepping-in steps s lost t h = tt

  run_in : (take_step : Op → RunState → Reads Out) (budget steps : ℕ) (c : Ctl) (s : RunState) (t : Tape) → CtlIn c → EndIn (run take_step budget steps c s t).0
  unfolding run
  run_in take_step zero steps c s t h = spent-in steps s (pull c) (pull-in c h)
  run_in take_step (suc budget) steps c s t h =
      stepping-in take_step (λ c' s'. run take_step budget (suc steps) c' s') (λ c' s' t'. run_in take_step budget (suc steps) c' s' t') steps s (pull c) t (pull-in c h)

  items-in : (take_step : Op → RunState → Reads Out) (budget : ℕ) (is : List Item) (t : Tape) → ItemsIn is → EndIn (run_items take_step budget is t).0
  unfolding run_items bind
  items-in take_step budget is t h = run_in take_step budget 0 (running is []) (state (opening t).0 no_globals) (opening t).1 (h, tt)

  -- ---- the items of a script

  item_in : (i : Item) → placed_in n i ≡ true → ItemIn i
  unfolding placed_in
  item_in (simple at op) h = ltb-true at n h
  item_in (seek at s se) h = ltb-true at n h
  item_in (opens at o) h = ltb-true at n h
  item_in bracket h = tt
  item_in close h = tt
  item_in otherwise h = tt
  item_in (leave at) h = ltb-true at n h
  item_in line_end h = tt

  all_in : (is : List Item) → all_items (placed_in n) is ≡ true → ItemsIn is
  unfolding all_items
  all_in [] h = tt
  all_in (i ∷ is) h = (item_in i (and_left (placed_in n i) (all_items (placed_in n) is) h), all_in is (and_right (placed_in n i) (all_items (placed_in n) is) h))

-- ---- the answer

-- the run comes to the script's end, or to W
unfoldable pub ends_done : List Line → ℕ → ℕ → Script → Type 0
ends_done lines budget size (itemsAre is) = IsDone (run_items (step (given (bytes size))) budget is (unread lines)).0
ends_done lines budget size (refused_at n at) = ⊥

abbrev pub ScriptDone : List ℕ → List ℕ → ℕ → ℕ → Type 0
ScriptDone table script budget size = ends_done (lines_of table) budget size (read_script script)

-- A run that stops does so among its unread lines after the script's end, with 25 or 26 and the script's length as place; or before that end, at a byte of the script.
abbrev pub StopsAt : List ℕ → Type 0 → Answer → Type 0
StopsAt script done a = (done × (answer_place a ≡ length script) × ((answer_number a ≡ 25) ⊎ (answer_number a ≡ 26))) ⊎ ((done → ⊥) × (answer_place a < length script))

late-number : (k : Stop) → (k ≡ n25) ⊎ (k ≡ n26) → (stop_number k ≡ 25) ⊎ (stop_number k ≡ 26)
unfolding stop_number
late-number k (inl q) = inl (rw q)
late-number k (inr q) = inr (rw q)

comes-stop : (script : List ℕ) (x : End) (t : Tape) (a : Answer) → EndIn (length script) x → Comes (length script) x t a → (answer_number a ≡ 0 → ⊥) → StopsAt script (IsDone x) a
unfolding answer_number answer_place last_answer late_stop end_place
comes-stop script (end zero steps at (state e c)) t a i (as_told q p) h = absurd (h (rw q))
comes-stop script (end (suc n) steps at (state e c)) t a i (as_told q p) h = inr (λ z. omega (arith, z), rw q i)
comes-stop script (end n steps at (state e c)) t a i (stops_late k why done q) h = inl (done, rw q, rw q (late-number k why))

-- THE LAW: of every accepted run that is not done
pub stop-places : (table script : List ℕ) (budget work size : ℕ) → let ran = run_answer table script budget work size in
    IsAccepted ran → (answer_number ran ≡ 0 → ⊥) → StopsAt script (ScriptDone table script budget size) ran
stop-places table script budget work size accepted = by (read_script script) refl
  where
    by : (r : Script) → read_script script ≡ r → (answer_number (run_answer table script budget work size) ≡ 0 → ⊥)
        → StopsAt script (ScriptDone table script budget size) (run_answer table script budget work size)
    by (refused_at n at) e = absurd (no-refusal table script budget work size n at e accepted)
    by (itemsAre is) e =
        let x : End × Tape = run_items (step (given (bytes size))) budget is (unread (lines_of table)) in
        rw (ran-accepted table script budget work size is e accepted, e)
        (unfold ends_done ran_items in (comes-stop script x.0 x.1 (answer_of (given (bytes size)) (length script) x.0 x.1)
        (items-in (length script) (step (given (bytes size))) budget is (unread (lines_of table)) (all_in (length script) is (items-placed script is e)))
        (answer-comes (given (bytes size)) (length script) x.0 x.1)))
