-- Laws of running a bracket, an ELSE or a close. Assumes nothing.
use mathlib.Core.Path.{◌≡◌, refl, ap, ◌∙◌}
use mathlib.Core.Bool.{Bool, true}
use mathlib.Core.List.{List, [], ◌∷◌}
use Prim.Native.Nat.{ℕ, ◌+◌, ◌-◌, ◌<◌}
use native.Mathlib.Omega.{arith}
use Rattle.definitions.specs.Control.{Opener, Item, simple, seek, opens, bracket, close, otherwise, leave, line_end, Frame, frame, running, skipping, lost, pull_at, pull}
use Rattle.theorems.specs.NestingLaws.{may_bracket}
use Rattle.items.specs.Ends.{class_of}
use Rattle.std.specs.Prelude.{None}
use Rattle.control.specs.declared.Mode.TheVariants.{Running, Skipping}
use Rattle.control.specs.Items.{starts_group}
use Rattle.items.specs.Depth.{open_after}
use Rattle.control.specs.Shown.{FramesAt, InFrames, entered, Runs, Closing, ShowsPoint, ShowsNext, ShowsStep, stand_at}
use Rattle.control.specs.declared.Point.{Point}
use Rattle.control.specs.declared.Step.{Step}
use Rattle.control.specs.declared.Step.TheVariants.{On, Gives}
use Rattle.control.proofs.Standing.{stands-less}
use Rattle.control.proofs.Classes.{Reading, At, at_item, runs_on, as-bracket, as-close, as-otherwise}
use Rattle.control.proofs.Starting.{goes}
use Rattle.control.proofs.Running.{closing}
use Rattle.items.specs.declared.ends.Class.{Class}
use Rattle.items.specs.declared.ends.Class.TheVariants.{LineEnd, Bracket, Close, Else, Agp, Simple, Seeks, Opens}

-- no bracket, ELSE or close runs outside all bodies
nothing-runs : (class : Class) (i : Item) (items : List Item) → class ≡ class_of i → (class ≡ Opens → ⊥) → (class ≡ Seeks → ⊥) → (class ≡ Simple → ⊥) → (class ≡ Agp → ⊥) → (class ≡ LineEnd → ⊥)
    → pull_at (i ∷ items) [] ≡ lost
unfolding class_of pull_at
nothing-runs class (opens p o) items e a b c d f = absurd (a e)
nothing-runs class (seek p k se) items e a b c d f = absurd (b e)
nothing-runs class (simple p op) items e a b c d f = absurd (c e)
nothing-runs class (leave p) items e a b c d f = absurd (d e)
nothing-runs class line_end items e a b c d f = absurd (f e)
nothing-runs class bracket items e a b c d f = refl
nothing-runs class otherwise items e a b c d f = refl
nothing-runs class close items e a b c d f = refl

module _ (w : List ℕ) (end at next depth : ℕ) (class : Class) (reads : Reading w at class next) (less : at < end) (s : List ℕ) (items : List Item) where
  -- a body is open
  framed_is : (P : List Frame → Type 0) → (depth ≡ 0 → ⊥) → (frames : List Frame) → InFrames s w end at depth depth items frames
      → ((g : Bool) (place : ℕ) (o : Opener) (body : List Item) (fs : List Frame) → InFrames s w end at depth depth items (frame g place o body ∷ fs) → P (frame g place o body ∷ fs)) → P frames
  framed_is P some [] h on = absurd (some h.deep)
  framed_is P some (frame g place o body ∷ fs) h on = on g place o body fs h

  module _ (r : Step) where
    pub run_none : depth ≡ 0 → (class ≡ Opens → ⊥) → (class ≡ Seeks → ⊥) → (class ≡ Simple → ⊥) → (class ≡ Agp → ⊥) → (class ≡ LineEnd → ⊥) → r ≡ Gives None
        → (frames : List Frame) → InFrames s w end at depth depth items frames → ShowsStep s w end at r (running items frames)
    unfolding ShowsStep ShowsNext pull At
    run_none none a b c d f e (g ∷ frames) h = absurd (omega (arith, none, h.deep))
    run_none none a b c d f e [] h = go items (at_item s w end at next depth depth class [] reads items less h)
      where
        go : (l : List Item) → At s w end at next depth depth class [] l → ShowsStep s w end at r (running l [])
        go [] x = absurd x
        go (i ∷ rest) x = rw (e, ShowsStep, nothing-runs class i rest x.is_class a b c d f) tt

    pub run-bracket : (depth ≡ 0 → ⊥) → class ≡ Bracket → (y : Point) → y ≡ stand_at Running next depth → r ≡ On y
        → (frames : List Frame) → Runs s w end at depth items frames → ShowsStep s w end at r (running items frames)
    unfolding entered starts_group At open_after may_bracket ShowsPoint pull pull_at
    run-bracket some q y y-is e frames h =
        as-bracket s w end at next depth depth class (entered items frames) (λ l. Runs s w end at depth l frames → ShowsStep s w end at r (running l frames)) q items
        (at_item s w end at next depth depth class (entered items frames) reads items less h) (λ rest x. go rest frames) h
      where
        go : (rest : List Item) (fs : List Frame) → Runs s w end at depth (bracket ∷ rest) fs → ShowsStep s w end at r (running (bracket ∷ rest) fs)
        go rest [] k = absurd (some k.deep)
        go rest (frame g place o body ∷ fs) k =
            let x = at_item s w end at next depth depth class (frame true place o body ∷ fs) reads (bracket ∷ rest) less k in
            goes s w end at (running (bracket ∷ rest) (frame g place o body ∷ fs)) r (running rest fs) (running rest (frame true place o body ∷ fs)) (stand_at Running next depth) (e ∙ ap On y-is) refl
            (refl, runs_on s w end at next depth depth class (frame true place o body ∷ fs) bracket rest x refl (omega arith)) x.less

    pub run-else : (depth ≡ 0 → ⊥) → class ≡ Else → (y : Point) → y ≡ stand_at (Skipping 1) next (depth - 1) → r ≡ On y
        → (frames : List Frame) → InFrames s w end at depth depth items frames → ShowsStep s w end at r (running items frames)
    unfolding open_after ShowsPoint pull pull_at FramesAt
    run-else some q y y-is e frames h =
        framed_is (λ l. ShowsStep s w end at r (running items l)) some frames h
        (λ g place o body fs hf. as-otherwise s w end at next depth depth class (frame g place o body ∷ fs) (λ l. ShowsStep s w end at r (running l (frame g place o body ∷ fs))) q items
        (at_item s w end at next depth depth class (frame g place o body ∷ fs) reads items less hf)
        (λ rest x. goes s w end at (running (otherwise ∷ rest) (frame g place o body ∷ fs)) r (running rest fs) (skipping 1 rest fs) (stand_at (Skipping 1) next (depth - 1)) (e ∙ ap On y-is) refl (
          refl,
          omega arith,
          record {
            stands = stands-less s w end next depth (depth - 1 + 1) rest (omega (arith, x.rest.deep)) x.rest.stands;
            framed = x.rest.framed.1;
            deep = omega (arith, x.rest.deep);
          },
        ) x.less))

  module _ (some : depth ≡ 0 → ⊥) (q : class ≡ Close) (frames : List Frame) (h : InFrames s w end at depth depth items frames) where
    abbrev Closes : Type 0
    Closes =
        (z : List ℕ) × (at' : ℕ) × (rest : List Item) × (g : Bool) × (place : ℕ) × (o : Opener) × (body : List Item) × (fs : List Frame) × Closing z w end at' next depth rest g place o body fs

    pub run-closing : (z : List ℕ) × (at' : ℕ) × (rest : List Item) × (g : Bool) × (place : ℕ) × (o : Opener) × (body : List Item) × (fs : List Frame) × Closing z w end at' next depth rest g place o body fs
    run-closing =
        framed_is (λ l. Closes) some frames h
        (λ g place o body fs hf. as-close s w end at next depth depth class (frame g place o body ∷ fs) (λ l. Closes) q items
        (at_item s w end at next depth depth class (frame g place o body ∷ fs) reads items less hf)
        (λ rest x. (s, at, rest, g, place, o, body, fs, closing s w end at next depth class rest g place o body fs x)))

    pub run-close : (r : Step) (w' : List ℕ)
        → ((z : List ℕ) (at' : ℕ) (rest : List Item) (g : Bool) (place : ℕ) (o : Opener) (body : List Item) (fs : List Frame) → Closing z w end at' next depth rest g place o body fs
        → ShowsStep z w' end at' r (running (close ∷ rest) (frame g place o body ∷ fs))) → ShowsStep s w' end at r (running items frames)
    run-close r w' ended =
        framed_is (λ l. ShowsStep s w' end at r (running items l)) some frames h
        (λ g place o body fs hf. as-close s w end at next depth depth class (frame g place o body ∷ fs) (λ l. ShowsStep s w' end at r (running l (frame g place o body ∷ fs))) q items
        (at_item s w end at next depth depth class (frame g place o body ∷ fs) reads items less hf)
        (λ rest x. ended s at rest g place o body fs (closing s w end at next depth class rest g place o body fs x)))
