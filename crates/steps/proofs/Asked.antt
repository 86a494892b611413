-- What the steps of a good script can ask. Assumes nothing.
use mathlib.Core.Path.{◌≡◌, refl}
use mathlib.Core.Bool.{true, false}
use mathlib.Core.List.{List}
use Prim.Native.Nat.{ℕ, suc}
use native.Mathlib.Omega.{arith}
use Rattle.definitions.specs.Search.{Search}
use Rattle.definitions.specs.Edit.{Test, Op, only_step, test}
use Rattle.definitions.specs.Control.{Seek, forward, backward, deleting, Item, Frame, Ctl, running, seeking, want, begin_op, look_op, pull}
use Rattle.theorems.specs.GoodItems.{good_op}
use Rattle.theorems.specs.Runs.{Asking, pull-asks}
use Rattle.items.specs.Words.{OpAt}
use Rattle.steps.specs.Steps.{GoodCtl}

-- a search goes on: found, after it; not found, it has passed a line more
pub record Searching (at : ℕ) (f : Seek) (se : Search) (op : Op) (c₁ c₀ : Ctl) : Type 0 where
  pub passed : ℕ
  pub items : List Item
  pub frames : List Frame
  pub is : op ≡ look_op f se passed
  pub found : c₁ ≡ running items frames
  pub not_found : c₀ ≡ seeking at f se (suc passed) items frames

-- a simple command is good, and the test of a line belongs to a search
pub record Asked (at : ℕ) (op : Op) (c₁ c₀ : Ctl) : Type 0 where
  pub good : (s w : List ℕ) (k m place : ℕ) → OpAt s w k m place op → good_op op ≡ true
  pub look : (f : Seek) (se : Search) (k : ℕ) → op ≡ look_op f se k → Searching at f se op c₁ c₀

-- only a search tests lines
good-not : (op : Op) (f : Seek) (se : Search) (k : ℕ) → good_op op ≡ true → op ≡ look_op f se k → ⊥
unfolding good_op look_op
good-not op forward se k h q = let z : false ≡ true = rw q at h in let y : ◌≡◌ {A = ℕ} 0 1 = cc in omega arith
good-not op backward se k h q = let z : false ≡ true = rw q at h in let y : ◌≡◌ {A = ℕ} 0 1 = cc in omega arith
good-not op deleting se k h q = let z : false ≡ true = rw q at h in let y : ◌≡◌ {A = ℕ} 0 1 = cc in omega arith

-- which search it is shows in what is asked
pub look-same : (s f : Seek) (se sf : Search) (i k : ℕ) → look_op s se i ≡ look_op f sf k → (s ≡ f) × (se ≡ sf)
unfolding look_op
look-same forward forward se sf i k q = (refl, cc)
look-same forward backward se sf i k q = let y : ◌≡◌ {A = ℕ} 0 1 = cc in absurd (omega arith)
look-same forward deleting se sf i k q = let y : ◌≡◌ {A = ℕ} 0 1 = cc in absurd (omega arith)
look-same backward forward se sf i k q = let y : ◌≡◌ {A = ℕ} 0 1 = cc in absurd (omega arith)
look-same backward backward se sf i k q = (refl, cc)
look-same backward deleting se sf i k q = let y : ◌≡◌ {A = ℕ} 0 1 = cc in absurd (omega arith)
look-same deleting forward se sf i k q = let y : ◌≡◌ {A = ℕ} 0 1 = cc in absurd (omega arith)
look-same deleting backward se sf i k q = let y : ◌≡◌ {A = ℕ} 0 1 = cc in absurd (omega arith)
look-same deleting deleting se sf i k q = (refl, cc)

-- what the run asks by itself is no simple command
module _ (at : ℕ) (c₁ c₀ : Ctl) where
  round-asked : Asked at only_step c₁ c₀
  unfolding OpAt look_op
  round-asked = record { good = λ s w k m place h. absurd h; look = never }
    where
      never : (f : Seek) (se : Search) (k : ℕ) → only_step ≡ look_op f se k → Searching at f se only_step c₁ c₀
      never forward se k q = let y : ◌≡◌ {A = ℕ} 0 1 = cc in absurd (omega arith)
      never backward se k q = let y : ◌≡◌ {A = ℕ} 0 1 = cc in absurd (omega arith)
      never deleting se k q = let y : ◌≡◌ {A = ℕ} 0 1 = cc in absurd (omega arith)

  test-asked : (x : Test) → Asked at (test x) c₁ c₀
  unfolding OpAt look_op
  test-asked x = record { good = λ s w k m place h. absurd h; look = never }
    where
      never : (f : Seek) (se : Search) (k : ℕ) → test x ≡ look_op f se k → Searching at f se (test x) c₁ c₀
      never forward se k q = let y : ◌≡◌ {A = ℕ} 0 1 = cc in absurd (omega arith)
      never backward se k q = let y : ◌≡◌ {A = ℕ} 0 1 = cc in absurd (omega arith)
      never deleting se k q = let y : ◌≡◌ {A = ℕ} 0 1 = cc in absurd (omega arith)

  begin-good : (s : Seek) (z w : List ℕ) (k m place : ℕ) → OpAt z w k m place (begin_op s) → good_op (begin_op s) ≡ true
  unfolding OpAt begin_op
  begin-good forward z w k m place h = absurd h
  begin-good backward z w k m place h = absurd h
  begin-good deleting z w k m place h = absurd h

  begin-not : (s f : Seek) (se : Search) (k : ℕ) → begin_op s ≡ look_op f se k → ⊥
  unfolding begin_op look_op
  begin-not forward forward se k q = let y : ◌≡◌ {A = ℕ} 0 1 = cc in omega arith
  begin-not forward backward se k q = let y : ◌≡◌ {A = ℕ} 0 1 = cc in omega arith
  begin-not forward deleting se k q = let y : ◌≡◌ {A = ℕ} 0 1 = cc in omega arith
  begin-not backward forward se k q = let y : ◌≡◌ {A = ℕ} 0 1 = cc in omega arith
  begin-not backward backward se k q = let y : ◌≡◌ {A = ℕ} 0 1 = cc in omega arith
  begin-not backward deleting se k q = let y : ◌≡◌ {A = ℕ} 0 1 = cc in omega arith
  begin-not deleting forward se k q = let y : ◌≡◌ {A = ℕ} 0 1 = cc in omega arith
  begin-not deleting backward se k q = let y : ◌≡◌ {A = ℕ} 0 1 = cc in omega arith
  begin-not deleting deleting se k q = let y : ◌≡◌ {A = ℕ} 0 1 = cc in omega arith

  begin-asked : (s : Seek) → Asked at (begin_op s) c₁ c₀
  begin-asked s = record { good = begin-good s; look = λ f se k q. absurd (begin-not s f se k q) }

look-good : (s : Seek) (se : Search) (i : ℕ) (z w : List ℕ) (k m place : ℕ) → OpAt z w k m place (look_op s se i) → good_op (look_op s se i) ≡ true
unfolding OpAt look_op
look-good forward se i z w k m place h = absurd h
look-good backward se i z w k m place h = absurd h
look-good deleting se i z w k m place h = absurd h

look-asked : (at : ℕ) (s : Seek) (se : Search) (i : ℕ) (items : List Item) (frames : List Frame)
    → Asked at (look_op s se i) (running items frames) (seeking at s se (suc i) items frames)
look-asked at s se i items frames = record {
  good = look-good s se i;
  look = λ f sf k q. let z = look-same s f se sf i k q in
      record { passed = i; items = items; frames = frames; is = rw (z.0, z.1); found = refl; not_found = rw (z.0, z.1) };
}

asking : Asking (λ op. good_op op ≡ true) Asked
asking = record {
  commands = λ at op c h. record { good = λ s w k m place a. h; look = λ f se k q. absurd (good-not op f se k h q) };
  rounds = λ at c. round-asked at c c;
  tests = λ at x c₁ c₀. test-asked at c₁ c₀ x;
  begins = λ at s c. begin-asked at c c s;
  looks = look-asked;
}

-- what a step that is wanted asks, and that the run stays good
pub wanted-asked : (from : Ctl) (place : ℕ) (op : Op) (c₁ c₀ : Ctl) → GoodCtl from → pull from ≡ want place op c₁ c₀ → Asked place op c₁ c₀ × GoodCtl c₁ × GoodCtl c₀
wanted-asked from place op c₁ c₀ h q = rw q at (pull-asks (λ op. good_op op ≡ true) Asked asking from h)
