-- What every step keeps holds at the end of every run: the induction over the budget, and that a run takes only the steps which its items ask for.
use Rattle.std.specs.Prelude.{Bool}
use Rattle.std.proofs.Math.Bool.{true, false}
use mathlib.Core.List.{List, [], ◌∷◌}
use Prim.Native.Nat.{ℕ, zero, suc}
use Rattle.definitions.specs.Tape.{Tape, Reads, bind}
use Rattle.definitions.specs.Search.{Search}
use Rattle.definitions.specs.Given.{no_globals}
use Rattle.definitions.specs.Reading.{opening}
use Rattle.definitions.specs.StepProgram.{RunState, state, Out, on, edited, halt}
use Rattle.definitions.specs.Edit.{Test, Op, only_step, test, begin, begin_back, find, find_back, find_delete}
use Rattle.definitions.specs.Control.{Seek, forward, backward, deleting, Opener, times, forever, bare, branch, loop, Item, simple, seek, opens, bracket, close, otherwise, leave, line_end, Frame, frame, Ctl, running, skipping, failing, leaving, seeking, Pull, finished, want, lost, want_one, body_start, body_end, leave_to, begin_op, look_op, pull_at, pull_after, pull_else, pull_line, pull}
use Rattle.definitions.specs.Run.{End, end, choose, spent, stepped, stepping, run, run_items}
use Rattle.theorems.specs.Each.{Each, each_all}

-- ---- the steps that items ask for

-- `Q` holds of every step that a control structure or a search asks for by itself
pub record Inner (Q : Op → Type 0) : Type 0 where
  pub rounds : Q only_step
  pub tests : (c : Test) → Q (test c)
  pub begins : Q begin
  pub begins_back : Q begin_back
  pub finds : (se : Search) → Q (find se)
  pub finds_back : (se : Search) → Q (find_back se)
  pub finds_delete : (se : Search) (k : ℕ) → Q (find_delete se k)

module _ (Q : Op → Type 0) where
  abbrev pub ItemOf : Item → Type 0
  ItemOf (simple at op) = Q op
  ItemOf (seek at s se) = Unit {0}
  ItemOf (opens at o) = Unit {0}
  ItemOf bracket = Unit {0}
  ItemOf close = Unit {0}
  ItemOf otherwise = Unit {0}
  ItemOf (leave at) = Unit {0}
  ItemOf line_end = Unit {0}

  abbrev pub ItemsOf : List Item → Type 0
  ItemsOf items = Each ItemOf items

  abbrev pub FrameOf : Frame → Type 0
  FrameOf (frame g at o body) = ItemsOf body

  abbrev pub FramesOf : List Frame → Type 0
  FramesOf frames = Each FrameOf frames

  abbrev pub CtlOf : Ctl → Type 0
  CtlOf (running items frames) = ItemsOf items × FramesOf frames
  CtlOf (skipping k items frames) = ItemsOf items × FramesOf frames
  CtlOf (failing k items frames) = ItemsOf items × FramesOf frames
  CtlOf (leaving items) = ItemsOf items
  CtlOf (seeking at s se k items frames) = ItemsOf items × FramesOf frames

-- `Q` holds of the step of every simple command; then `P` holds of every step that is wanted: its place, what it asks, and how the run goes on
pub record Asking (Q : Op → Type 0) (P : ℕ → Op → Ctl → Ctl → Type 0) : Type 0 where
  pub commands : (at : ℕ) (op : Op) (c : Ctl) → Q op → P at op c c
  pub rounds : (at : ℕ) (c : Ctl) → P at only_step c c
  pub tests : (at : ℕ) (x : Test) (c₁ c₀ : Ctl) → P at (test x) c₁ c₀
  pub begins : (at : ℕ) (s : Seek) (c : Ctl) → P at (begin_op s) c c
  pub looks : (at : ℕ) (s : Seek) (se : Search) (k : ℕ) (items : List Item) (frames : List Frame)
      → P at (look_op s se k) (running items frames) (seeking at s se (suc k) items frames)

module _ (Q : Op → Type 0) (P : ℕ → Op → Ctl → Ctl → Type 0) where
  abbrev pub PullOf : Pull → Type 0
  PullOf finished = Unit {0}
  PullOf (want at op c₁ c₀) = P at op c₁ c₀ × CtlOf Q c₁ × CtlOf Q c₀
  PullOf lost = Unit {0}

module _ (Q R : Op → Type 0) (f : (op : Op) → Q op → R op) where
  item-weaken : (i : Item) → ItemOf Q i → ItemOf R i
  item-weaken (simple at op) h = f op h
  item-weaken (seek at s se) h = tt
  item-weaken (opens at o) h = tt
  item-weaken bracket h = tt
  item-weaken close h = tt
  item-weaken otherwise h = tt
  item-weaken (leave at) h = tt
  item-weaken line_end h = tt

  -- a weaker statement on the steps that items ask for
  pub items-weaken : (items : List Item) → ItemsOf Q items → ItemsOf R items
  items-weaken [] h = tt
  items-weaken (i ∷ items) h = (item-weaken i h.0, items-weaken items h.1)

module _ (Q : Op → Type 0) (f : (op : Op) → Q op) where
  -- what holds of every step
  pub inner-all : Inner Q
  inner-all = record {
    rounds = f only_step;
    tests = λ c. f (test c);
    begins = f begin;
    begins_back = f begin_back;
    finds = λ se. f (find se);
    finds_back = λ se. f (find_back se);
    finds_delete = λ se k. f (find_delete se k);
  }

  item-all : (i : Item) → ItemOf Q i
  item-all (simple at op) = f op
  item-all (seek at s se) = tt
  item-all (opens at o) = tt
  item-all bracket = tt
  item-all close = tt
  item-all otherwise = tt
  item-all (leave at) = tt
  item-all line_end = tt

  pub items-all : (items : List Item) → ItemsOf Q items
  items-all items = each_all (ItemOf Q) item-all items

  frame-all : (x : Frame) → FrameOf Q x
  frame-all (frame g at o body) = items-all body

  frames-all : (frames : List Frame) → FramesOf Q frames
  frames-all frames = each_all (FrameOf Q) frame-all frames

  pub ctl-all : (c : Ctl) → CtlOf Q c
  ctl-all (running items frames) = (items-all items, frames-all frames)
  ctl-all (skipping k items frames) = (items-all items, frames-all frames)
  ctl-all (failing k items frames) = (items-all items, frames-all frames)
  ctl-all (leaving items) = items-all items
  ctl-all (seeking at s se k items frames) = (items-all items, frames-all frames)

module _ (Q : Op → Type 0) (P : ℕ → Op → Ctl → Ctl → Type 0) (asking : Asking Q P) where
  body_start-of : (o : Opener) (at : ℕ) (body : List Item) (frames : List Frame) (skip : Pull)
      → ItemsOf Q body → FramesOf Q frames → PullOf Q P skip → PullOf Q P (body_start o at body frames skip)
  unfolding body_start want_one
  body_start-of (times zero) at body frames skip i f s = s
  body_start-of (times (suc n)) at body frames skip i f s = (asking.rounds at _, (i, (i, f)), (i, (i, f)))
  body_start-of forever at body frames skip i f s = (asking.rounds at _, (i, (i, f)), (i, (i, f)))
  body_start-of bare at body frames skip i f s = (asking.rounds at _, (i, (i, f)), (i, (i, f)))
  body_start-of (branch c) at body frames skip i f s = (asking.tests at c _ _, (i, (i, f)), (i, f))
  body_start-of (loop c) at body frames skip i f s = (asking.tests at c _ _, (i, (i, f)), (i, f))

  body_end-of : (o : Opener) (g : Bool) (at : ℕ) (body items : List Item) (frames : List Frame) (next : Pull)
      → ItemsOf Q body → ItemsOf Q items → FramesOf Q frames → PullOf Q P next → PullOf Q P (body_end o g at body items frames next)
  unfolding body_end want_one
  body_end-of (times zero) g at body items frames next b i f s = s
  body_end-of (times (suc n)) g at body items frames next b i f s = (asking.rounds at _, (b, (b, f)), (b, (b, f)))
  body_end-of forever g at body items frames next b i f s = (asking.rounds at _, (b, (b, f)), (b, (b, f)))
  body_end-of bare g at body items frames next b i f s = s
  body_end-of (branch c) g at body items frames next b i f s = s
  body_end-of (loop c) g at body items frames next b i f s = (asking.tests at c _ _, (b, (b, f)), (i, f))

  leave_to-of : (k : ℕ) (items : List Item) (frames : List Frame) → ItemsOf Q items → FramesOf Q frames → CtlOf Q (leave_to k items frames)
  unfolding leave_to
  leave_to-of k items [] i f = i
  leave_to-of k items (frame true at o body ∷ frames) i f = (i, f.1)
  leave_to-of k items (frame false at o body ∷ frames) i f = leave_to-of (suc k) items frames i f.1

  mutual
    unfolding pull_at pull_after want_one

    pull_at-of : (items : List Item) (frames : List Frame) → ItemsOf Q items → FramesOf Q frames → PullOf Q P (pull_at items frames)
    pull_at-of [] frames i f = tt
    pull_at-of (simple at op ∷ items) frames i f = (asking.commands at op _ i.0, (i.1, f), (i.1, f))
    pull_at-of (seek at s se ∷ items) frames i f = (asking.begins at s _, (i.1, f), (i.1, f))
    pull_at-of (opens at o ∷ items) frames i f = body_start-of o at items frames (pull_after items 1 frames) i.1 f (pull_after-of items 1 frames i.1 f)
    pull_at-of (bracket ∷ items) [] i f = tt
    pull_at-of (bracket ∷ items) (frame g at o body ∷ frames) i f = pull_at-of items (frame true at o body ∷ frames) i.1 f
    pull_at-of (close ∷ items) [] i f = tt
    pull_at-of (close ∷ items) (frame g at o body ∷ frames) i f =
        body_end-of o g at body items frames (pull_at items frames) f.0 i.1 f.1 (pull_at-of items frames i.1 f.1)
    pull_at-of (otherwise ∷ items) [] i f = tt
    pull_at-of (otherwise ∷ items) (g ∷ frames) i f = pull_after-of items 1 frames i.1 f.1
    pull_at-of (leave at ∷ items) frames i f = (asking.rounds at _, leave_to-of 0 items frames i.1 f, leave_to-of 0 items frames i.1 f)
    pull_at-of (line_end ∷ items) frames i f = pull_at-of items frames i.1 f

    pull_after-of : (items : List Item) (k : ℕ) (frames : List Frame) → ItemsOf Q items → FramesOf Q frames → PullOf Q P (pull_after items k frames)
    pull_after-of [] k frames i f = tt
    pull_after-of (simple at op ∷ items) k frames i f = pull_after-of items k frames i.1 f
    pull_after-of (seek at s se ∷ items) k frames i f = pull_after-of items k frames i.1 f
    pull_after-of (opens at o ∷ items) k frames i f = pull_after-of items (suc k) frames i.1 f
    pull_after-of (bracket ∷ items) k frames i f = pull_after-of items k frames i.1 f
    pull_after-of (close ∷ items) zero frames i f = tt
    pull_after-of (close ∷ items) (suc zero) frames i f = pull_at-of items frames i.1 f
    pull_after-of (close ∷ items) (suc (suc k)) frames i f = pull_after-of items (suc k) frames i.1 f
    pull_after-of (otherwise ∷ items) k frames i f = pull_after-of items k frames i.1 f
    pull_after-of (leave at ∷ items) k frames i f = pull_after-of items k frames i.1 f
    pull_after-of (line_end ∷ items) k frames i f = pull_after-of items k frames i.1 f

  pull_else-of : (items : List Item) (k : ℕ) (frames : List Frame) → ItemsOf Q items → FramesOf Q frames → PullOf Q P (pull_else items k frames)
  unfolding pull_else
  pull_else-of [] k frames i f = tt
  pull_else-of (simple at op ∷ items) k frames i f = pull_else-of items k frames i.1 f
  pull_else-of (seek at s se ∷ items) k frames i f = pull_else-of items k frames i.1 f
  pull_else-of (opens at o ∷ items) k frames i f = pull_else-of items (suc k) frames i.1 f
  pull_else-of (bracket ∷ items) k frames i f = pull_else-of items k frames i.1 f
  pull_else-of (close ∷ items) zero frames i f = tt
  pull_else-of (close ∷ items) (suc zero) frames i f = pull_at-of items frames i.1 f
  pull_else-of (close ∷ items) (suc (suc k)) frames i f = pull_else-of items (suc k) frames i.1 f
  pull_else-of (otherwise ∷ items) zero frames i f = tt
  pull_else-of (otherwise ∷ items) (suc zero) frames i f = pull_at-of items (frame false 0 bare items ∷ frames) i.1 (i.1, f)
  pull_else-of (otherwise ∷ items) (suc (suc k)) frames i f = pull_else-of items (suc (suc k)) frames i.1 f
  pull_else-of (leave at ∷ items) k frames i f = pull_else-of items k frames i.1 f
  pull_else-of (line_end ∷ items) k frames i f = pull_else-of items k frames i.1 f

  pull_line-of : (items : List Item) → ItemsOf Q items → PullOf Q P (pull_line items)
  unfolding pull_line
  pull_line-of [] i = tt
  pull_line-of (simple at op ∷ items) i = pull_line-of items i.1
  pull_line-of (seek at s se ∷ items) i = pull_line-of items i.1
  pull_line-of (opens at o ∷ items) i = pull_line-of items i.1
  pull_line-of (bracket ∷ items) i = pull_line-of items i.1
  pull_line-of (close ∷ items) i = pull_line-of items i.1
  pull_line-of (otherwise ∷ items) i = pull_line-of items i.1
  pull_line-of (leave at ∷ items) i = pull_line-of items i.1
  pull_line-of (line_end ∷ items) i = pull_at-of items [] i.1 tt

  -- what holds of every step that a run of such items wants
  pub pull-asks : (c : Ctl) → CtlOf Q c → PullOf Q P (pull c)
  unfolding pull
  pull-asks (running items frames) h = pull_at-of items frames h.0 h.1
  pull-asks (skipping k items frames) h = pull_after-of items k frames h.0 h.1
  pull-asks (failing k items frames) h = pull_else-of items k frames h.0 h.1
  pull-asks (leaving items) h = pull_line-of items h
  pull-asks (seeking at s se k items frames) h = (asking.looks at s se k items frames, h, h)

module _ (Q : Op → Type 0) (inner : Inner Q) where
  begin_op-of : (s : Seek) → Q (begin_op s)
  unfolding begin_op
  begin_op-of forward = inner.begins
  begin_op-of backward = inner.begins_back
  begin_op-of deleting = inner.begins

  look_op-of : (s : Seek) (se : Search) (k : ℕ) → Q (look_op s se k)
  unfolding look_op
  look_op-of forward se k = inner.finds se
  look_op-of backward se k = inner.finds_back se
  look_op-of deleting se k = inner.finds_delete se k

  inner-asking : Asking Q (λ at op c₁ c₀. Q op)
  inner-asking = record {
    commands = λ at op c h. h;
    rounds = λ at c. inner.rounds;
    tests = λ at x c₁ c₀. inner.tests x;
    begins = λ at s c. begin_op-of s;
    looks = λ at s se k items frames. look_op-of s se k;
  }

  -- a run whose items ask only for steps of `Q` takes only steps of `Q`
  pub pull-of : (c : Ctl) → CtlOf Q c → PullOf Q (λ at op c₁ c₀. Q op) (pull c)
  pull-of c h = pull-asks Q (λ at op c₁ c₀. Q op) inner-asking c h

-- ---- the induction over the budget

-- `I` of the state and the tape where the run goes on, `J` of its number, the state and the tape where it stops
module _ (I : RunState → Tape → Type 0) (J : ℕ → RunState → Tape → Type 0) where
  abbrev pub StepOr : Out → Tape → Type 0
  StepOr (on b s) t = I s t
  StepOr (edited s) t = I s t
  StepOr (halt n s) t = J n s t

abbrev pub EndOf : (ℕ → RunState → Tape → Type 0) → End → Tape → Type 0
EndOf J (end n steps at s) t = J n s t

-- a statement that holds whether the run goes on or stops
abbrev pub AfterStep : (RunState → Tape → Type 0) → Out → Tape → Type 0
AfterStep I o t = StepOr I (λ n. I) o t

abbrev pub AtEnd : (RunState → Tape → Type 0) → End → Tape → Type 0
AtEnd I x t = EndOf (λ n. I) x t

-- a run ends with 0 at the script's end, with 29 where the budget is spent, and else with the number of a step
module _ (Q : Op → Type 0) (inner : Inner Q) (I : RunState → Tape → Type 0) (J : ℕ → RunState → Tape → Type 0)
    (done : (s : RunState) (t : Tape) → I s t → J 0 s t) (late : (s : RunState) (t : Tape) → I s t → J 29 s t) (take_step : Op → RunState → Reads Out)
    (keeps : (op : Op) (s : RunState) (t : Tape) → Q op → I s t → StepOr I J (take_step op s t).0 (take_step op s t).1) where
  choose-of : (b : Bool) (c₁ c₀ : Ctl) → CtlOf Q c₁ → CtlOf Q c₀ → CtlOf Q (choose b c₁ c₀)
  unfolding choose
  choose-of true c₁ c₀ h k = h
  choose-of false c₁ c₀ h k = k

  spent_ends : (steps : ℕ) (s : RunState) (x : Pull) (t : Tape) → I s t → EndOf J (spent steps s x) t
  unfolding spent
  spent_ends steps s finished t h = done s t h
  spent_ends steps s (want at op c₁ c₀) t h = late s t h
  spent_ends steps s lost t h = done s t h

  module _ (go : Ctl → RunState → Reads End) (ih : (c : Ctl) (s : RunState) (t : Tape) → CtlOf Q c → I s t → EndOf J (go c s t).0 (go c s t).1) where
    stepped-ends : (steps at : ℕ) (c₁ c₀ : Ctl) (o : Out) (t : Tape) → CtlOf Q c₁ → CtlOf Q c₀ → StepOr I J o t
        → EndOf J (stepped go steps at c₁ c₀ o t).0 (stepped go steps at c₁ c₀ o t).1
    unfolding stepped
    stepped-ends steps at c₁ c₀ (on b s) t h k i = ih (choose b c₁ c₀) s t (choose-of b c₁ c₀ h k) i
    stepped-ends steps at c₁ c₀ (edited s) t h k i = ih c₁ s t h i
    stepped-ends steps at c₁ c₀ (halt n s) t h k i = i

    stepping-ends : (steps : ℕ) (s : RunState) (x : Pull) (t : Tape) → PullOf Q (λ at op c₁ c₀. Q op) x → I s t
        → EndOf J (stepping take_step go steps s x t).0 (stepping take_step go steps s x t).1
    unfolding stepping bind
    stepping-ends steps s finished t h i = done s t i
    stepping-ends steps s (want at op c₁ c₀) t h i =
        stepped-ends (suc steps) at c₁ c₀ (take_step op s t).0 (take_step op s t).1 h.1 h.2 (keeps op s t h.0 i)
    stepping-ends steps s lost t h i = done s t i

  pub run_ends : (budget steps : ℕ) (c : Ctl) (s : RunState) (t : Tape) → CtlOf Q c → I s t
      → EndOf J (run take_step budget steps c s t).0 (run take_step budget steps c s t).1
  unfolding run
  run_ends zero steps c s t h i = spent_ends steps s (pull c) t i
  run_ends (suc budget) steps c s t h i =
      stepping-ends (λ c' s'. run take_step budget (suc steps) c' s') (λ c' s' t'. run_ends budget (suc steps) c' s' t') steps s (pull c) t (pull-of Q inner c h) i

  -- what holds of the opening and is kept by every step holds at the end
  pub run_items-ends : (budget : ℕ) (items : List Item) (t : Tape) → ItemsOf Q items → I (state (opening t).0 no_globals) (opening t).1
      → EndOf J (run_items take_step budget items t).0 (run_items take_step budget items t).1
  unfolding run_items bind
  run_items-ends budget items t h i = run_ends budget 0 (running items []) (state (opening t).0 no_globals) (opening t).1 (h, tt) i

-- the same for a statement that holds whether the run goes on or stops
pub run_items-keeps : (Q : Op → Type 0) (inner : Inner Q) (I : RunState → Tape → Type 0) (take_step : Op → RunState → Reads Out)
    → ((op : Op) (s : RunState) (t : Tape) → Q op → I s t → AfterStep I (take_step op s t).0 (take_step op s t).1)
    → (budget : ℕ) (items : List Item) (t : Tape) → ItemsOf Q items → I (state (opening t).0 no_globals) (opening t).1
    → AtEnd I (run_items take_step budget items t).0 (run_items take_step budget items t).1
run_items-keeps Q inner I take_step keeps = run_items-ends Q inner I (λ n. I) (λ s t h. h) (λ s t h. h) take_step keeps
