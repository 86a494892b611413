-- What holds at each turn of a walk over a search's words. Assumes nothing.
use mathlib.Core.Path.{◌≡◌, refl}
use mathlib.Core.Bool.{Bool, true}
use mathlib.Core.List.{List}
use Prim.Native.Nat.{ℕ, ◌%◌, ◌≤◌, ◌<◌}
use native.Mathlib.Nat.{le_refl}
use native.Mathlib.Omega.{arith}
use lib.ListN.{length, get_or}
use Rattle.definitions.specs.Search.{Search}
use Rattle.matching.specs.Words.{Encodes, end_at, onward}
use Rattle.matching.proofs.Running.{Tested, Runs, stops, forward, runs, run_ends, run-reads, run-tests, run-steps, run-joins}

-- at place `at`, with t found so far: the walk ends, and with whatever the walk from k on ends with
pub record Turn (words : List ℕ) (says : ℕ → Bool) (Fits : ℕ → Type 0) (m k at : ℕ) (t : Bool) : Type 0 where
  pub within : m ≤ length words
  pub before : at ≤ m
  pub result : Bool
  pub runs_on : Runs words says Fits m at t result
  pub the_same : (r : Bool) → Runs words says Fits m k true r → Runs words says Fits m at t r

module _ {words : List ℕ} {says : ℕ → Bool} {Fits : ℕ → Type 0} {m k : ℕ} where
  module _ {script : List ℕ} {of : Search → Bool} (is : Tested script words says Fits of) (se : Search) (enc : Encodes script words k m se) where
    to_end : Runs words says Fits m k true (of se)
    to_end = runs words says Fits m script of is se k m true (of se) enc (le_refl m) (stops refl refl)

    pub begins : Turn words says Fits m k k true
    begins =
        let bounds = forward script words k m se enc in
        record { within = bounds.1; before = omega (arith, bounds.0); result = of se; runs_on = to_end; the_same = λ r h. h }

    pub finds : {at : ℕ} {t : Bool} → Turn words says Fits m k at t → m ≤ at → t ≡ of se
    finds {at} {t} turn h = run_ends words says Fits m at t (of se) (turn.the_same (of se) to_end) h

  module _ {at : ℕ} {t : Bool} (turn : Turn words says Fits m k at t) (less : at < m) where
    pub reads : get_or words at 0 % 4 ≡ 0 → Fits at × ((at < end_at words at) × (end_at words at ≤ m))
    reads kind = run-reads words says Fits m at t turn.result less kind turn.runs_on

    pub tested : get_or words at 0 % 4 ≡ 0 → {at' : ℕ} {t' : Bool} → at' ≡ end_at words at → t' ≡ says at → Turn words says Fits m k at' t'
    tested kind e f =
        let bounds = reads kind in
        rw (e, f) (record {
          within = turn.within;
          before = bounds.1.1;
          result = turn.result;
          runs_on = run-tests words says Fits m at t turn.result less kind turn.runs_on;
          the_same = λ r h. run-tests words says Fits m at t r less kind (turn.the_same r h);
        })

    pub steps : (get_or words at 0 % 4 ≡ 0 → ⊥) → (at < onward words at t) × (onward words at t ≤ m)
    steps kind = run-steps words says Fits m at t turn.result less kind turn.runs_on

    pub joined : (get_or words at 0 % 4 ≡ 0 → ⊥) → {at' : ℕ} → at' ≡ onward words at t → Turn words says Fits m k at' t
    joined kind e =
        let bounds = steps kind in
        rw e (record {
          within = turn.within;
          before = bounds.1;
          result = turn.result;
          runs_on = run-joins words says Fits m at t turn.result less kind turn.runs_on;
          the_same = λ r h. run-joins words says Fits m at t r less kind (turn.the_same r h);
        })
