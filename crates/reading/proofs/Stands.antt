-- What is known of globals that stand. Assumes nothing.
use mathlib.Core.Path.{subst, sym}
use mathlib.Core.List.{List, [], ◌∷◌}
use Prim.Native.Nat.{ℕ, zero, suc, ◌-◌, ◌≤◌}
use native.Mathlib.Omega.{arith}
use lib.ListN.{length}
use Rattle.definitions.specs.Given.{Global, Carried, carried}
use Rattle.theorems.specs.Each.{Each}
use Rattle.theorems.specs.GoodGlobals.{GoodGlobal, GoodCarried, global-good}
use Rattle.items.specs.Reserve.{reserve}
use Rattle.globals.specs.Standing.{GlobalAt, StandingAt, StandingBelow, Standing}

global-is-good : (s w : List ℕ) (end k : ℕ) (x : Global) → GlobalAt s w end k x → GoodGlobal x
global-is-good s w end k x h = subst GoodGlobal (sym h.same) (global-good h.change h.first h.new h.good)

all-good : (s w : List ℕ) (end i n : ℕ) (gs : List Global) → StandingAt s w end i n gs → Each GoodGlobal gs
unfolding StandingAt
all-good s w end i zero gs h = subst (Each GoodGlobal) (sym h) tt
all-good s w end i (suc n) [] h = tt
all-good s w end i (suc n) (x ∷ gs) h = (global-is-good s w end h.0 x h.2, all-good s w end (suc i) n gs h.3)

below-good : (s w : List ℕ) (end : ℕ) (c : Carried) → StandingBelow s w end c → GoodCarried c
unfolding StandingBelow
below-good s w end (carried gs xs) h = all-good s w end (length w - reserve) 16 gs h.1

-- their strings are text
pub stand-good : (s w : List ℕ) (c : Carried) → Standing s w c → GoodCarried c
stand-good s w c h = below-good s w h.end c h.below

below-room : (s w : List ℕ) (end : ℕ) (c : Carried) → StandingBelow s w end c → reserve ≤ length w
unfolding StandingBelow
below-room s w end (carried gs xs) h = omega (arith, h.0)

-- the work area has the reserve
pub stand-room : (s w : List ℕ) (c : Carried) → Standing s w c → reserve ≤ length w
stand-room s w c h = below-room s w h.end c h.below
