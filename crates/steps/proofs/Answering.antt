-- What answers a wanted step, and what it says of the run. Assumes nothing.
use mathlib.Core.Path.{◌≡◌, refl}
use mathlib.Core.Bool.{Bool, true, false}
use mathlib.Core.List.{List}
use Prim.Native.Nat.{ℕ, ◌≤◌}
use native.Mathlib.Omega.{arith}
use Rattle.definitions.specs.Tape.{Tape}
use Rattle.definitions.specs.Given.{Carried}
use Rattle.definitions.specs.Editor.{Ed}
use Rattle.definitions.specs.StepProgram.{runs, state, words_in}
use Rattle.definitions.specs.Edit.{Op, only_step, test, is_eof, begin, begin_back, goes_on, program, step}
use Rattle.definitions.specs.Control.{Ctl}
use Rattle.items.specs.Words.{OpAt}
use Rattle.control.specs.declared.Ask.{Ask}
use Rattle.control.specs.declared.Ask.TheVariants.{Round, Holds, HoldsNot, AtEof, Begin, BeginBack, Find, FindBack, FindDelete, Command}
use Rattle.control.specs.declared.Wanted.{Wanted}
use Rattle.control.specs.Shown.{Asks}
use Rattle.editor.specs.declared.State.{State}
use Rattle.editor.specs.Shows.{lent}
use Rattle.editor.specs.Current.{Ready}
use Rattle.seeks.specs.declared.Way.{Way}
use Rattle.seeks.specs.declared.Way.TheVariants.{Forward, Backward, Deleting}
use Rattle.globals.specs.Standing.{StandingBelow, Standing}
use Rattle.std.specs.Prelude.{Result}
use Rattle.editor.specs.declared.Stopped.{Stopped}
use Rattle.seeks.specs.Looks.{Looked, Found, holding, LooksAs, LooksOnce, test_of, seek_of}
use Rattle.seeks.proofs.Looking.{says-yes}
use Rattle.seeks.proofs.Carrying.{LeavesOp, step-leaves, round-leaves, test-leaves, begin-leaves, begin-back-leaves}
use Rattle.steps.specs.Steps.{ask_test, ask_look, LooksAsked, AsksSome, CommandBelow, Commanded, Wants, MadeOnce, MadeSearch, Made, AnswersStep}
use Rattle.steps.proofs.Asked.{wanted-asked}
use Rattle.steps.proofs.OneStep.{Comes, one-comes}
use Rattle.steps.proofs.Searches.{search-comes}
use Rattle.steps.proofs.Globals.{stands-below, room-below}
use Rattle.steps.proofs.Views.{Means, asks-as, asks-test, as-asked}

-- a simple command that is wanted is good, and its words are in the work area
pub command-at : (s w : List ℕ) (end : ℕ) (x : Wanted) (from : Ctl) (op : Op) (c₁ c₀ : Ctl) (c : Carried) → x.what ≡ Command → Wants s w end x from op c₁ c₀ → StandingBelow s w end c
    → CommandBelow s w end x.item op
command-at s w end x from op c₁ c₀ c q h stand = by (asks-as s w end x op h.asks Command q)
  where
    by : (m : ℕ) × OpAt s w x.item m x.place op × (m ≤ end) → CommandBelow s w end x.item op
    by (m, words, inside) = record {
      command = record {
        form = h.form;
        end = m;
        place = x.place;
        words = words;
        inside = omega (arith, inside, room-below s w end c stand);
        good = (wanted-asked from x.place op c₁ c₀ h.good h.next).0.good s w x.item m x.place words;
      };
      below = inside;
      short = h.short;
    }

-- a round changes nothing
round-looks : (j : List ℕ) (st : State) → LooksOnce j st only_step j (holding true st)
unfolding step words_in program goes_on runs
round-looks j st e c t h = says-yes (lent j) c goes_on e t refl h

module _ (s w : List ℕ) (x : Wanted) (table j w' k : List ℕ) (st : State) (left : ℕ) (r : Result Looked Stopped) (z : Found) (once : z ≡ record { looked = r; made = 1 }) where
  asked : (ask : Ask) → x.what ≡ ask → Made s w x table j st left w' k z ask → AnswersStep s w x table j st left w' k z
  asked = as-asked s w x table j w' k st left z

  -- one that leaves the globals, and no word is written
  module _ (stays : w' ≡ w) where
    made-once : ((end : ℕ) (op : Op) → Asks s w end x op → LeavesOp op)
        → ((end : ℕ) (op : Op) (e : Ed) (c : Carried) (t : Tape) → Asks s w end x op → Standing s w c → Ready table j st e t → LooksAs k r (step (lent j) op (state e c) t))
        → MadeOnce s w x table j st left w' k z
    made-once leaves f end from op c₁ c₀ e c t h stand ready =
        rw once (f end op e c t h.asks (stands-below s w end c stand) ready, refl, rw (stays, step-leaves (lent j) op e c t (leaves end op h.asks)) stand)

    -- one that is known
    made-known : (ask : Ask) → x.what ≡ ask → (op : Op) → LeavesOp op → ((end : ℕ) (a : Op) → Means s w end x ask a → a ≡ op) → LooksOnce j st op k r → MadeOnce s w x table j st left w' k z
    made-known ask q op leaves meant f =
        made-once (λ end a i. rw (meant end a (asks-as s w end x a i ask q)) leaves)
        (λ end a e c t i stands ready. rw (meant end a (asks-as s w end x a i ask q)) (f e c t ready.shows))

    test-once : (v : Bool) → x.what ≡ ask_test v → LooksAsked s w (AsksSome s w x) table j st k r → MadeOnce s w x table j st left w' k z
    test-once v q f =
        made-once (λ end op i. let y = asks-test s w end x op i v q in rw y.2 (test-leaves (test_of v y.0))) (λ end op e c t i. f op e c t (end, i))

    pub after_test : (v : Bool) → x.what ≡ ask_test v → LooksAsked s w (AsksSome s w x) table j st k r → AnswersStep s w x table j st left w' k z
    unfolding Made ask_test
    after_test true q f = asked Holds q (test-once true q f)
    after_test false q f = asked HoldsNot q (test-once false q f)

    pub after-eof : x.what ≡ AtEof → LooksOnce j st (test is_eof) k r → AnswersStep s w x table j st left w' k z
    unfolding Made
    after-eof q f = asked AtEof q (made-known AtEof q (test is_eof) (test-leaves is_eof) (λ end a m. m) f)

    pub after-begin : x.what ≡ Begin → LooksOnce j st begin k r → AnswersStep s w x table j st left w' k z
    unfolding Made
    after-begin q f = asked Begin q (made-known Begin q begin begin-leaves (λ end a m. m) f)

    pub after-begin-back : x.what ≡ BeginBack → LooksOnce j st begin_back k r → AnswersStep s w x table j st left w' k z
    unfolding Made
    after-begin-back q f = asked BeginBack q (made-known BeginBack q begin_back begin-back-leaves (λ end a m. m) f)

  pub after-command : x.what ≡ Command → Commanded s w x.item table j st w' k r → AnswersStep s w x table j st left w' k z
  unfolding Made
  after-command q f = asked Command q (λ end from op c₁ c₀ e c t h stand ready.
      let y = f end op e c t (command-at s w end x from op c₁ c₀ c q h stand) stand ready in
      rw once (y.0, refl, y.1))

pub after-round : (s w : List ℕ) (x : Wanted) (table j w' : List ℕ) (st : State) (left : ℕ) (z : Found) (once : z ≡ record { looked = holding true st; made = 1 })
    → w' ≡ w → x.what ≡ Round → AnswersStep s w x table j st left w' j z
unfolding Made
after-round s w x table j w' st left z once stays q =
    as-asked s w x table j w' j st left z Round q (made-known s w x table j w' j st left (holding true st) z once stays Round q only_step round-leaves (λ end a m. m) (round-looks j st))

-- THE LAW: what is answered to a wanted step, and how the run goes on
module _ (s w : List ℕ) (end : ℕ) (x : Wanted) (left steps : ℕ) (from : Ctl) (op : Op) (c₁ c₀ : Ctl) (e : Ed) (c : Carried) (t : Tape) (table j w' k : List ℕ) (st : State) (r : Found)
    (some : 1 ≤ left) (h : Wants s w end x from op c₁ c₀) (stand : StandingBelow s w end c) (ready : Ready table j st e t) where
  abbrev So : Type 0
  So = Comes (lent j) left steps from (state e c) t s w' end table k x.place c₁ c₀ r

  once-comes : MadeOnce s w x table j st left w' k r → So
  once-comes f =
      let y = f end from op c₁ c₀ e c t h stand ready in
      one-comes j left steps from x.place op c₁ c₀ e c t s w' end table k r y.1 some h.next ready y.0 y.2

  look-comes : (way : Way) → x.what ≡ ask_look way → MadeSearch s w x table j st left w' k r (seek_of way) → So
  look-comes way q f = search-comes s w end x left steps from op c₁ c₀ e c t table j w' k st r h stand ready some way q f

  by-ask : (ask : Ask) → x.what ≡ ask → Made s w x table j st left w' k r ask → So
  unfolding Made ask_look seek_of
  by-ask Round q f = once-comes f
  by-ask Holds q f = once-comes f
  by-ask HoldsNot q f = once-comes f
  by-ask AtEof q f = once-comes f
  by-ask Begin q f = once-comes f
  by-ask BeginBack q f = once-comes f
  by-ask Find q f = look-comes Forward q f
  by-ask FindBack q f = look-comes Backward q f
  by-ask FindDelete q f = look-comes Deleting q f
  by-ask Command q f = once-comes f

  pub step-comes : AnswersStep s w x table j st left w' k r → So
  step-comes = by-ask x.what refl
