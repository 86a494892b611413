-- The run's loop: where it stands after each round, and how it ends. Assumes nothing.
use mathlib.Core.Path.{◌≡◌, refl, sym, ◌∙◌, subst}
use mathlib.Core.Logic.{◌⊎◌, inl, inr}
use mathlib.Core.Bool.{Bool, true, false, cond}
use mathlib.Core.List.{List, []}
use Prim.Native.Nat.{ℕ, zero, suc, ◌+◌, ◌-◌, ◌≤◌}
use native.Mathlib.Omega.{arith}
use lib.ListN.{length}
use Rattle.seeks.specs.Looks.{Looked, Found}
use Rattle.definitions.specs.Table.{is_script}
use Rattle.definitions.specs.Tape.{Tape}
use Rattle.definitions.specs.Given.{Given, Carried, carried, no_globals}
use Rattle.definitions.specs.Editor.{Ed}
use Rattle.definitions.specs.StepProgram.{RunState, state}
use Rattle.definitions.specs.Edit.{Op, step}
use Rattle.definitions.specs.Control.{Item, Ctl, running, Pull, finished, want, lost, pull}
use Rattle.definitions.specs.Run.{End, end, end_place, choose, spent, stepping, run}
use Rattle.items.specs.Reserve.{reserve}
use Rattle.globals.specs.Standing.{StandingBelow, OnlyCarried}
use Rattle.globals.proofs.Standing.{standing-kept}
use Rattle.control.specs.declared.Control.{Control}
use Rattle.control.specs.declared.Wanted.{Wanted}
use Rattle.std.specs.Prelude.{Option, Some, None}
use Rattle.control.specs.Shown.{ItemsKept, ShowsCtl, passed, ShowsWant, ShowsNext}
use Rattle.control.proofs.Standing.{ctl-stays}
use Rattle.editor.specs.declared.State.{State}
use Rattle.editor.specs.Current.{Ready}
use Rattle.std.specs.Prelude.{Ok}
use Rattle.editor.specs.Stops.{numbered, stopping}
use Rattle.editor.specs.declared.Stop.{Stop}
use Rattle.steps.specs.Steps.{GoodCtl, Wants}
use Rattle.steps.proofs.Asked.{wanted-asked}
use Rattle.steps.proofs.OneStep.{GoesOn, Stops, Leads, Comes}
use Rattle.run.specs.Items.{Runnable, NoneStands, Ends, EndsAs}
use Rattle.run.specs.declared.decoded.Ended.{Ended}

-- after `made` steps the run stands where c shows it, with a text that the buffer shows and globals that stand in the words; from there it comes to x
pub record Going (s table : List ℕ) (g : Given) (budget last : ℕ) (w j : List ℕ) (c : Control) (st : State) (made : ℕ) (x : End × Tape) : Type 0 where
  pub from : Ctl
  pub then : Ed
  pub carries : Carried
  pub rest : Tape
  pub stands : ShowsCtl s w last c from
  pub good : GoodCtl from
  pub ready : Ready table j st then rest
  pub stand : StandingBelow s w last carries
  pub same : run (step g) (budget - made) made from (state then carries) rest ≡ x

-- the step x is wanted there; no search has passed more than n lines then
pub record Wanting (s w : List ℕ) (last n : ℕ) (x : Wanted) (from : Ctl) : Type 0 where
  pub op : Op
  pub c₁ : Ctl
  pub c₀ : Ctl
  pub wants : Wants s w last x from op c₁ c₀
  pub shown : ShowsWant s w last n x x.place op c₁ c₀

-- ---- the script's end, and the budget

-- no step is wanted
abbrev NoneWanted : Pull → Type 0
NoneWanted p = (p ≡ finished) ⊎ (p ≡ lost)

run_out : (g : Given) (n steps : ℕ) (c : Ctl) (z : RunState) (t : Tape) → NoneWanted (pull c) → run (step g) n steps c z t ≡ (end 0 steps 0 z, t)
unfolding run spent stepping
run_out g zero steps c z t (inl q) = rw q
run_out g zero steps c z t (inr q) = rw q
run_out g (suc n) steps c z t (inl q) = rw q
run_out g (suc n) steps c z t (inr q) = rw q

run-late : (g : Given) (steps : ℕ) (c : Ctl) (place : ℕ) (op : Op) (c₁ c₀ : Ctl) (z : RunState) (t : Tape) → pull c ≡ want place op c₁ c₀ → run (step g) 0 steps c z t ≡ (end 29 steps place z, t)
unfolding run spent
run-late g steps c place op c₁ c₀ z t q = rw q

none-wanted : (s w : List ℕ) (last n : ℕ) (p : Pull) → ShowsNext s w last n None p → NoneWanted p
unfolding ShowsNext
none-wanted s w last n finished h = inl refl
none-wanted s w last n lost h = inr refl
none-wanted s w last n (want place op c₁ c₀) h = absurd h

-- there is a reserve where globals stand
stands-room : (s v : List ℕ) (last : ℕ) (c : Carried) → StandingBelow s v last c → (k : List ℕ) → length v ≡ length k → reserve ≤ length k
unfolding StandingBelow
stands-room s v last (carried gs xs) h k long = omega (arith, h.0, long)

module _ {s table : List ℕ} {lends : Given} {budget last : ℕ} {w j : List ℕ} {c : Control} {st : State} {made : ℕ} {x : End × Tape} (g : Going s table lends budget last w j c st made x) where
  -- the state that it stands in
  abbrev at_state : RunState
  at_state = state g.then g.carries

  -- the globals stand in the words after a pull
  pub stands-pulled : (k : List ℕ) → ItemsKept w k last → StandingBelow s k last g.carries
  stands-pulled k h = standing-kept s w k last g.carries h.as_long h.same h.top g.stand

  -- nothing is left to do
  pub going_done : (k : List ℕ) → ItemsKept w k last → (n : ℕ) (r : Option Wanted) → r ≡ None → ShowsNext s k last n r (pull g.from)
      → EndsAs s k j (record { number = 0; steps = made; place = 0; st = st }) x
  unfolding Ends
  going_done k kept n r q h =
      rw (← g.same, run_out lends (budget - made) made g.from at_state g.rest (none-wanted s k last n (pull g.from) (rw q at h)))
      (refl, refl, refl, g.ready.shows, record { end = last; below = stands-pulled k kept })

  -- a step is wanted
  pub going-wants : is_script s ≡ true → last ≤ 65536 → (k : List ℕ) (n : ℕ) (r : Option Wanted) (y : Wanted) → r ≡ Some y → ShowsNext s k last n r (pull g.from) → Wanting s k last n y g.from
  unfolding ShowsNext
  going-wants form short k n r y q h = by (pull g.from) refl (rw q at h)
    where
      by : (p : Pull) → pull g.from ≡ p → ShowsNext s k last n (Some y) p → Wanting s k last n y g.from
      by finished is h = absurd h
      by lost is h = absurd h
      by (want place op c₁ c₀) is h = record {
        op = op;
        c₁ = c₁;
        c₀ = c₀;
        wants = record { form = form; good = g.good; short = short; next = rw h.at_place is; asks = h.asks };
        shown = subst (λ (p : ℕ). ShowsWant s k last n y p op c₁ c₀) (sym h.at_place) h;
      }

  -- and the budget is spent
  pub going-late : (k : List ℕ) → ItemsKept w k last → (n : ℕ) (y : Wanted) → Wanting s k last n y g.from → budget ≤ made
      → EndsAs s k j (record { number = 29; steps = made; place = y.place; st = st }) x
  unfolding Ends
  going-late k kept n y h spent =
      let none : budget - made ≡ 0 = omega arith in
      rw (← g.same, none, run-late lends made g.from y.place h.op h.c₁ h.c₀ at_state g.rest h.wants.next)
      (refl, refl, refl, g.ready.shows, record { end = last; below = stands-pulled k kept })

  -- ---- after a step, or the steps of a search; `left` is what was left of the budget, and the words are v then

  module _ (left : ℕ) (rest_of : left ≡ budget - made) (k v m : List ℕ) (n : ℕ) (y : Wanted) (h : Wanting s k last n y g.from) (r : Found) (only : OnlyCarried k v)
      (comes : Comes lends left made g.from at_state g.rest s v last table m y.place h.c₁ h.c₀ r) where
    -- the run stands where it stood in the words before
    still : (d : Control) (to : Ctl) → reserve ≤ length k → ShowsCtl s k last d to → ShowsCtl s v last d to
    still d to enough stands =
        ctl-stays s k v last (length k - reserve) (record { as_long = only.as_long; same = λ i less. only.same i (inl (omega (arith, less, enough))) }) (omega arith) d to stands

    further : (to : Ctl) (d : Control) (u : State) → ShowsCtl s k last d to → GoodCtl to → GoesOn lends left made g.from at_state g.rest s v last table m r.made to u
        → Going s table lends budget last v m d u (made + r.made) x
    further to d u stands good on =
        let less : budget - (made + r.made) ≡ left - r.made = omega arith in
        record {
          from = to;
          then = on.then;
          carries = on.carries;
          rest = on.rest;
          stands = still d to (stands-room s v last on.carries on.stand k only.as_long) stands;
          good = good;
          ready = on.ready;
          stand = on.stand;
          same = rw less (sym on.same ∙ rw rest_of g.same);
        }

    good-both : GoodCtl h.c₁ × GoodCtl h.c₀
    good-both = let z = wanted-asked g.from y.place h.op h.c₁ h.c₀ h.wants.good h.wants.next in (z.1, z.2)

    pub going-on : (u : Looked) (d : Control) → d ≡ cond u.held y.yes y.no → r.looked ≡ Ok u → Going s table lends budget last v m d u.st (made + r.made) x
    unfolding Leads choose
    going-on u d is q = by u.held (rw q at comes.leads) is
      where
        by : (held : Bool) → GoesOn lends left made g.from at_state g.rest s v last table m r.made (choose held h.c₁ h.c₀) u.st → d ≡ cond held y.yes y.no
            → Going s table lends budget last v m d u.st (made + r.made) x
        by true on is = further h.c₁ d u.st (rw is h.shown.yes_shows) good-both.0 on
        by false on is = further h.c₀ d u.st (rw is h.shown.no_shows) good-both.1 on

    pub going-stops : (n : Stop) (u : State) → r.looked ≡ stopping n u → (z : Ended) → z ≡ record { number = numbered n; steps = made + r.made; place = end_place (numbered n) y.place; st = u }
        → EndsAs s v m z x
    unfolding Leads Ends
    going-stops n u q z is = by (rw q at comes.leads)
      where
        by : Stops lends left made g.from at_state g.rest s v last m r.made (numbered n) y.place u → EndsAs s v m z x
        by e = rw (is, ← g.same, ← rest_of, e.same) (refl, refl, refl, e.shows, record { end = last; below = e.stand })

-- ---- the lines that a search has passed

module _ (d : Control) (x : Wanted) (n m : ℕ) where
  pub went-lines : (held : Bool) → d ≡ cond held x.yes x.no → passed x.yes ≤ n → passed x.no ≤ n → n ≤ m → passed d ≤ m
  went-lines true q yes-few no-few few = rw q (omega arith)
  went-lines false q yes-few no-few few = rw q (omega arith)

-- the start
pub going_start : {s table : List ℕ} {budget last : ℕ} {w j : List ℕ} {st : State} (g : Given) (c : Control) (items : List Item) (e : Ed) (t : Tape)
    → ShowsCtl s w last c (running items []) → NoneStands s w last → Runnable s w last items → Ready table j st e t
    → Going s table g budget last w j c st 0 (run (step g) budget 0 (running items []) (state e no_globals) t)
going_start {s} {table} {budget} g c items e t h none d r =
    let all : budget - 0 ≡ budget = omega arith in
    record { from = running items []; then = e; carries = no_globals; rest = t; stands = h; good = (d.good, tt); ready = r; stand = none; same = rw all }

-- ---- the place of the end

module _ (number steps place : ℕ) (st : State) where
  pub done-place : number ≡ 0 → ◌≡◌ {A = Ended} (record { number = number; steps = steps; place = 0; st = st }) (record { number = number; steps = steps; place = end_place number place; st = st })
  unfolding end_place
  done-place q = rw q

  pub stop-place : (number ≡ 0 → ⊥) → ◌≡◌ {A = Ended} (record { number = number; steps = steps; place = place; st = st }) (record { number = number; steps = steps; place = end_place number place; st = st })
  unfolding end_place
  stop-place some = by number some
    where
      by : (n : ℕ) → (n ≡ 0 → ⊥) → ◌≡◌ {A = Ended} (record { number = n; steps = steps; place = place; st = st }) (record { number = n; steps = steps; place = end_place n place; st = st })
      by zero some = absurd (some refl)
      by (suc n) some = refl
