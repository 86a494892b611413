-- F, BF and DF over lines, and how the run goes on after them. Assumes nothing.
use mathlib.Core.Path.{◌≡◌, refl, sym, ◌∙◌}
use mathlib.Core.Bool.{true, false, cond}
use mathlib.Core.List.{List}
use Prim.Native.Nat.{ℕ, zero, suc, ◌+◌, ◌≤◌}
use native.Mathlib.Omega.{arith}
use lib.ListN.{get_or}
use Rattle.definitions.specs.Tape.{Tape}
use Rattle.definitions.specs.Search.{Search}
use Rattle.definitions.specs.Given.{Given, Carried}
use Rattle.definitions.specs.Editor.{Ed}
use Rattle.definitions.specs.StepProgram.{RunState, state, text_of, Out, on, edited, halt}
use Rattle.definitions.specs.Edit.{Op, step}
use Rattle.definitions.specs.Control.{Seek, Item, Frame, Ctl, running, seeking, look_op, pull}
use Rattle.definitions.specs.Run.{end_place, choose, run}
use Rattle.control.specs.declared.Wanted.{Wanted}
use Rattle.control.specs.Shown.{SearchOf}
use Rattle.editor.specs.declared.State.{State}
use Rattle.editor.specs.Shows.{lent}
use Rattle.editor.specs.Current.{PointOut, Ready, TableOut}
use Rattle.seeks.specs.declared.Way.{Way}
use Rattle.seeks.specs.declared.Way.TheVariants.{Forward, Backward, Deleting}
use Rattle.globals.specs.Standing.{StandingBelow}
use Rattle.std.specs.Prelude.{Result, Ok, Err}
use Rattle.editor.specs.Stops.{stopping}
use Rattle.editor.specs.declared.Stop.TheVariants.{BudgetSpent}
use Rattle.editor.specs.declared.Stopped.{Stopped}
use Rattle.seeks.specs.Looks.{Looked, Found, Looks, carried_of, Steps, steps_of, Seeks, SeeksFor, seek_of}
use Rattle.seeks.proofs.Carrying.{look-leaves}
use Rattle.seeks.proofs.Runs.{after_search, run-search, steps-as, steps-carried, steps-most, steps-one, steps-table}
use Rattle.steps.specs.Steps.{ask_look, Carries, Wants, or_spent, steps_or_spent, MadeSearch, Made, AnswersStep}
use Rattle.steps.proofs.Asked.{Searching, wanted-asked}
use Rattle.steps.proofs.Globals.{stands-below}
use Rattle.steps.proofs.OneStep.{Leads, Comes}
use Rattle.steps.proofs.Views.{asks-look, as-asked}

-- ---- what is answered

-- what a search answers: where no line matched, the budget is spent
unfoldable pub answered : Result Looked Stopped → Result Looked Stopped
answered (Ok x) = cond x.held (Ok x) (stopping BudgetSpent x.st)
answered (Err s) = Err s

looks-spent : (k : List ℕ) (r : Result Looked Stopped) (o : Out) (t : Tape) → Looks k r o t → Looks k (answered r) (or_spent o) t
unfolding Looks answered or_spent
looks-spent k (Ok x) (on true (state e c)) t w = rw w.0 (refl, w.1)
looks-spent k (Ok x) (on false (state e c)) t w = rw w.0 (refl, w.1)
looks-spent k (Ok x) (edited (state e c)) t w = rw w.0 (refl, w.1)
looks-spent k (Ok x) (halt n (state e c)) t w = absurd w
looks-spent k (Err s) (on true (state e c)) t w = absurd w
looks-spent k (Err s) (on false (state e c)) t w = absurd w
looks-spent k (Err s) (edited (state e c)) t w = absurd w
looks-spent k (Err s) (halt n (state e c)) t w = w

point-spent : (o : Out) → PointOut o → PointOut (or_spent o)
unfolding or_spent
point-spent (on true z) p = p
point-spent (on false z) p = tt
point-spent (edited z) p = p
point-spent (halt n z) p = tt

seeks-spent : (k : List ℕ) (r : Found) (y : Steps) → Seeks k r y → (z : Found) → z ≡ record { looked = answered r.looked; made = r.made } → Seeks k z (steps_or_spent y)
seeks-spent k r y w z is = rw is (looks-spent k r.looked y.0.0 y.0.1 w.0, point-spent y.0.0 w.1, w.2)

module _ (s w : List ℕ) (x : Wanted) (table j w' k : List ℕ) (st : State) (left : ℕ) where
  -- a search, by what is asked
  made-look : (z : Found) (way : Way) → MadeSearch s w x table j st left w' k z (seek_of way) → Made s w x table j st left w' k z (ask_look way)
  unfolding Made ask_look seek_of
  made-look z Forward f = f
  made-look z Backward f = f
  made-look z Deleting f = f

  -- the answer of its loop, and what is then answered
  pub after-search : w' ≡ w → (r : Found) (way : Way) → x.what ≡ ask_look way → (m : ℕ) → m ≡ get_or w (x.item + 1) 0
      → SeeksFor s w (x.item + 2) m table j st (seek_of way) x.lines left k r → (z : Found) → z ≡ record { looked = answered r.looked; made = r.made }
      → AnswersStep s w x table j st left w' k z
  unfolding SearchOf
  after-search stays r way what m q f z is = as-asked s w x table j w' k st left z (ask_look way) what (made-look z way (
    stays,
    λ se e c t en stand ready.
        seeks-spent k r (steps_of (lent j) (look_op (seek_of way) se) x.lines left (state e c) t) (f se e c t (rw q en) stand ready) z is,
  ))

-- the answer of a search where the run stops
pub is_stopped : (r : Found) (s : Stopped) → r.looked ≡ Err s → r ≡ record { looked = answered r.looked; made = r.made }
unfolding answered
is_stopped r s q = by r.looked r.made s q
  where
    by : (k : Result Looked Stopped) (m : ℕ) (s : Stopped) → k ≡ Err s → ◌≡◌ {A = Found} (record { looked = k; made = m }) (record { looked = answered k; made = m })
    by k m s q = rw q

-- where a line is found
pub is_found : (r : Found) (x : Looked) → r.looked ≡ Ok x → x.held ≡ true → r ≡ record { looked = answered r.looked; made = r.made }
unfolding answered
is_found r x q held = by r.looked r.made q
  where
    by : (k : Result Looked Stopped) (m : ℕ) → k ≡ Ok x → ◌≡◌ {A = Found} (record { looked = k; made = m }) (record { looked = answered k; made = m })
    by k m q = rw (q, held)

-- where no line matches
pub is-unfound : (r : Found) (x : Looked) → r.looked ≡ Ok x → x.held ≡ false → ◌≡◌ {A = Found} (record { looked = stopping BudgetSpent x.st; made = r.made }) (record { looked = answered r.looked; made = r.made })
unfolding answered
is-unfound r x q held = rw (q, held)

-- ---- how the run goes on

-- where the same comes next, the run is the same
run-same : (g : Given) (n steps : ℕ) (c d : Ctl) (z : RunState) (t : Tape) → pull c ≡ pull d → run (step g) n steps c z t ≡ run (step g) n steps d z t
unfolding run
run-same g zero steps c d z t q = rw q
run-same g (suc n) steps c d z t q = rw q

module _ (i : List ℕ) (left steps : ℕ) (from c₀ : Ctl) (place : ℕ) (items : List Item) (frames : List Frame) (z : RunState) (t : Tape) (sc wo : List ℕ) (below : ℕ) (table j : List ℕ) where
  -- what is answered says it of the run from `from`, which comes to what is after the search
  search-leads : (k : Result Looked Stopped) (m : ℕ) (o : Out) (u : Tape) (n : ℕ) → Looks j k (or_spent o) u → PointOut (or_spent o) → m ≡ n → TableOut table o u → Carries sc wo below o
      → run (step (lent i)) left steps from z t ≡ after_search (lent i) left steps place items frames o u n
      → Leads (lent i) left steps from z t sc wo below table j m place (running items frames) c₀ k
  unfolding Looks or_spent after_search Leads choose end_place text_of carried_of
  search-leads (Ok x) m (on true (state e c)) u n w p is h d q =
      rw w.0 (record { then = e; carries = c; rest = u; ready = record { shows = w.1; point = p; old = h }; stand = d; same = rw is q })
  search-leads (Ok x) m (on false (state e c)) u n w p is h d q = absurd w
  search-leads (Ok x) m (edited (state e c)) u n w p is h d q =
      rw w.0 (record { then = e; carries = c; rest = u; ready = record { shows = w.1; point = p; old = h }; stand = d; same = rw is q })
  search-leads (Ok x) m (halt l (state e c)) u n w p is h d q = absurd w
  search-leads (Err s) m (on true (state e c)) u n w p is h d q = absurd w
  search-leads (Err s) m (on false (state e c)) u n w p is h d q = record { last = e; carries = c; rest = u; shows = w.1; stand = d; same = rw (is, w.0) q }
  search-leads (Err s) m (edited (state e c)) u n w p is h d q = absurd w
  search-leads (Err s) m (halt l (state e c)) u n w p is h d q = record { last = e; carries = c; rest = u; shows = w.1; stand = d; same = rw (is, w.0) q }

-- THE LAW of a search: what is answered, and how the run goes on
module _ (s w : List ℕ) (below : ℕ) (x : Wanted) (left steps : ℕ) (from : Ctl) (op : Op) (c₁ c₀ : Ctl) (e : Ed) (c : Carried) (t : Tape) (table j w' k : List ℕ) (st : State) (r : Found)
    (h : Wants s w below x from op c₁ c₀) (stand : StandingBelow s w below c) (ready : Ready table j st e t) (some : 1 ≤ left) where
  abbrev Leading : Type 0
  Leading = Comes (lent j) left steps from (state e c) t s w' below table k x.place c₁ c₀ r

  at-search : (f : Seek) (se : Search) → w' ≡ w → (y : Searching x.place f se op c₁ c₀)
      → Seeks k r (steps_or_spent (steps_of (lent j) (look_op f se) y.passed left (state e c) t)) → Leading
  unfolding pull text_of
  at-search f se stays y seeks =
      let z = steps_of (lent j) (look_op f se) y.passed left (state e c) t in
      let same = run-same (lent j) left steps from (seeking x.place f se y.passed y.items y.frames) (state e c) t (h.next ∙ rw (y.is, y.found, y.not_found)) in
      let on : Carries s w' below z.0.0 = rw (stays, steps-carried (lent j) (look_op f se) (look-leaves f se) y.passed left e c t) stand in
      rw y.found (record {
        began = omega (arith, seeks.2, steps-one (lent j) (look_op f se) y.passed left (state e c) t some);
        few = omega (arith, seeks.2, steps-most (lent j) (look_op f se) y.passed left (state e c) t);
        leads = search-leads j left steps from c₀ x.place y.items y.frames (state e c) t s w' below table k r.looked r.made z.0.0 z.0.1 z.1 seeks.0 seeks.1 seeks.2
            (steps-table j (look_op f se) table y.passed left (state e c) t ready.old) on
            (same ∙ run-search (lent j) x.place y.items y.frames f se left steps y.passed (state e c) t);
      })

  pub search-comes : (way : Way) → x.what ≡ ask_look way → MadeSearch s w x table j st left w' k r (seek_of way) → Leading
  search-comes way what answers = by (asks-look s w below x op h.asks way what)
    where
      by : (se : Search) × SearchOf s w x.item se × (op ≡ look_op (seek_of way) se x.lines) → Leading
      by (se, en, o) =
          let y : Searching x.place (seek_of way) se op c₁ c₀ = (wanted-asked from x.place op c₁ c₀ h.good h.next).0.look (seek_of way) se x.lines o in
          let same = steps-as (lent j) (seek_of way) se x.lines y.passed left (state e c) t (sym o ∙ y.is) in
          at-search (seek_of way) se answers.0 y (rw same at (answers.1 se e c t en (stands-below s w below c stand) ready))
