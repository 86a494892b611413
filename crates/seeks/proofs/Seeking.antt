-- F, BF and DF over lines: steps one after another. Assumes nothing.
use mathlib.Core.Path.{◌≡◌, refl, sym, ap, ◌∙◌}
use mathlib.Core.Bool.{Bool, true, false, true≢false}
use Prim.Native.Nat.{ℕ, suc, ◌+◌, ◌-◌, ◌≤◌, ◌<◌}
use native.Mathlib.Omega.{arith}
use mathlib.Core.List.{List}
use Rattle.definitions.specs.Tape.{Tape}
use Rattle.definitions.specs.Given.{Given, Carried}
use Rattle.definitions.specs.Editor.{Ed}
use Rattle.definitions.specs.StepProgram.{RunState, state, text_of, Out, on, edited, halt}
use Rattle.definitions.specs.Edit.{Op, step}
use Rattle.editor.specs.Shows.{lent}
use Rattle.editor.specs.Current.{PointOut, Ready, TableOut}
use Rattle.std.specs.Prelude.{Result, Ok, Err}
use Rattle.editor.specs.declared.State.{State}
use Rattle.editor.proofs.Tables.{keeps-table}
use Rattle.editor.proofs.Points.{keeps-point}
use Rattle.editor.specs.declared.Stopped.{Stopped}
use Rattle.seeks.specs.Looks.{Looked, holding, Looks, LooksAs, carried_of, Steps, further, steps_of}
use Rattle.seeks.proofs.Carrying.{LeavesOp, step-leaves}

-- after `made` of at most `left` steps the search goes on in a state that the buffer shows; the same globals stand
pub record Underway (g : Given) (op : ℕ → Op) (i left made : ℕ) (table : List ℕ) (c : Carried) (s₀ : RunState) (t₀ : Tape) (j : List ℕ) (s : State) : Type 0 where
  pub now : Ed
  pub unread : Tape
  pub ready : Ready table j s now unread
  pub comes : (steps_of g op i left s₀ t₀).0 ≡ (steps_of g op (i + made) (left - made) (state now c) unread).0
  pub count : (steps_of g op i left s₀ t₀).1 ≡ made + (steps_of g op (i + made) (left - made) (state now c) unread).1

pub seeking-start : {j : List ℕ} {s : State} {table : List ℕ} (g : Given) (op : ℕ → Op) (i left : ℕ) (e : Ed) (c : Carried) (t : Tape) → Ready table j s e t
    → Underway g op i left 0 table c (state e c) t j s
seeking-start g op i left e c t h =
    let z : left - 0 ≡ left = omega arith in
    let y : i + 0 ≡ i = omega arith in
    record { now = e; unread = t; ready = h; comes = rw (z, y); count = rw (z, y) (omega arith) }

-- the steps are spent
pub seeking-spent : {g : Given} {op : ℕ → Op} {i left made : ℕ} {table : List ℕ} {c : Carried} {s₀ : RunState} {t₀ : Tape} {j : List ℕ} {s : State} → Underway g op i left made table c s₀ t₀ j s
    → left ≤ made → made ≤ left → LooksAs j (holding false s) (steps_of g op i left s₀ t₀).0 × PointOut (steps_of g op i left s₀ t₀).0.0 × (made ≡ (steps_of g op i left s₀ t₀).1)
unfolding Looks steps_of text_of
seeking-spent {g} {op} {i} {left} {made} {c = c} w all few =
    let z : left - made ≡ 0 = omega arith in
    let now : RunState = state w.now c in
    let x : (steps_of g op (i + made) (left - made) now w.unread) ≡ ((on false now, w.unread), 0) = rw z in
    ((rw (w.comes, x) (refl, w.ready.shows)), rw (w.comes, x) w.ready.point, rw (w.count, x) (omega arith))

-- a line is found, or the run stops
abbrev pub Ending : Result Looked Stopped → Type 0
Ending (Ok x) = x.held ≡ true
Ending (Err s) = Unit {0}

pub ends-stopped : (r : Result Looked Stopped) (s : Stopped) → r ≡ Err s → Ending r
ends-stopped r s is = rw is tt

-- the search goes on
pub goes-not : (r : Result Looked Stopped) (x : Looked) → r ≡ Ok x → x.held ≡ false → r ≡ holding false x.st
goes-not r x is held = is ∙ ap (λ (b : Bool). holding b x.st) held

-- what a step's answer says of its outcome
module _ (k : List ℕ) (f : RunState → Tape → Steps) where
  -- where the search goes on
  record WentOn (table : List ℕ) (c : Carried) (s : State) (out : Out) (t : Tape) : Type 0 where
    text : Ed
    ready : Ready table k s text t
    is : further f out t ≡ ((f (state text c) t).0, suc (f (state text c) t).1)

  went_on : (table : List ℕ) (c : Carried) (s : State) (out : Out) (t : Tape) → Looks k (holding false s) out t → PointOut out → TableOut table out t → carried_of out ≡ c → WentOn table c s out t
  unfolding Looks further text_of carried_of
  went_on table c s (on true (state e d)) t w p o q = absurd (true≢false (sym w.0))
  went_on table c s (on false (state e d)) t w p o q = record { text = e; ready = record { shows = w.1; point = p; old = o }; is = rw q refl }
  went_on table c s (edited (state e d)) t w p o q = absurd (true≢false (sym w.0))
  went_on table c s (halt n (state e d)) t w p o q = absurd w

  -- where it ends
  ended_by : (x : Result Looked Stopped) (out : Out) (t : Tape) → Ending x → Looks k x out t → further f out t ≡ ((out, t), 1)
  unfolding Looks further
  ended_by (Ok x) (on true (state e c)) t held w = refl
  ended_by (Ok x) (on false (state e c)) t held w = absurd (true≢false (sym held ∙ w.0))
  ended_by (Ok x) (edited (state e c)) t held w = refl
  ended_by (Ok x) (halt n (state e c)) t held w = absurd w
  ended_by (Err y) (on b (state e c)) t held w = absurd w
  ended_by (Err y) (edited (state e c)) t held w = absurd w
  ended_by (Err y) (halt n (state e c)) t held w = refl

-- one step more
steps-more : (g : Given) (op : ℕ → Op) (i k n m : ℕ) (s : RunState) (t : Tape) → n ≡ suc m → k ≡ suc i
    → steps_of g op i n s t ≡ further (steps_of g op k m) (step g (op i) s t).0 (step g (op i) s t).1
unfolding steps_of
steps-more g op i k n m s t q r = rw (q, r)

module _ (j₀ : List ℕ) {op : ℕ → Op} (leaves : (n : ℕ) → LeavesOp (op n)) {i left made : ℕ} {table : List ℕ} {c : Carried} {s₀ : RunState} {t₀ : Tape} {j : List ℕ} {s : State}
    (w : Underway (lent j₀) op i left made table c s₀ t₀ j s) (more : made < left) where
  -- the state, the step that comes next, and what it comes to
  abbrev at_now : RunState
  at_now = state w.now c

  abbrev made_by : Out × Tape
  made_by = step (lent j₀) (op (i + made)) at_now w.unread

  abbrev rest : RunState → Tape → Steps
  rest = steps_of (lent j₀) op (i + (made + 1)) (left - (made + 1))

  next : steps_of (lent j₀) op (i + made) (left - made) at_now w.unread ≡ further rest made_by.0 made_by.1
  next = steps-more (lent j₀) op (i + made) (i + (made + 1)) (left - made) (left - (made + 1)) at_now w.unread (omega arith) (omega arith)

  points : PointOut made_by.0
  points = keeps-point (lent j₀) (op (i + made)) w.now c w.unread w.ready.shows.grounded w.ready.point

  -- the line is found, or the run stops
  pub seeking-ends : (k : List ℕ) (g : Given) → g ≡ lent j₀ → (x : Result Looked Stopped) → Ending x → LooksAs k x (step g (op (i + made)) at_now w.unread)
      → LooksAs k x (steps_of (lent j₀) op i left s₀ t₀).0 × PointOut (steps_of (lent j₀) op i left s₀ t₀).0.0 × (made + 1 ≡ (steps_of (lent j₀) op i left s₀ t₀).1)
  seeking-ends k g same x ends z =
      let y : LooksAs k x made_by = rw same at z in
      let q = next ∙ ended_by k rest x made_by.0 made_by.1 ends y in
      (rw (w.comes, q) y, rw (w.comes, q) points, rw (w.count, q) refl)

  -- the search goes on
  pub seeking-on : (k : List ℕ) (g : Given) → g ≡ lent j₀ → (u : State) (x : Result Looked Stopped) → x ≡ holding false u → LooksAs k x (step g (op (i + made)) at_now w.unread)
      → Underway (lent j₀) op i left (made + 1) table c s₀ t₀ k u
  unfolding text_of
  seeking-on k g same u x is y =
      on-from (went_on k rest table c u made_by.0 made_by.1 (rw (same, is) at y) points (keeps-table table j₀ (op (i + made)) at_now w.unread w.ready.old)
      (step-leaves (lent j₀) (op (i + made)) w.now c w.unread (leaves (i + made))))
    where
      on-from : WentOn k rest table c u made_by.0 made_by.1 → Underway (lent j₀) op i left (made + 1) table c s₀ t₀ k u
      on-from z = record {
        now = z.text;
        unread = made_by.1;
        ready = z.ready;
        comes = w.comes ∙ ap (λ (y : Steps). y.0) (next ∙ z.is);
        count = omega (arith, w.count, ap (λ (y : Steps). y.1) (next ∙ z.is));
      }
