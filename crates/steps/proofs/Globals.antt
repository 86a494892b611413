-- GE, GA, GB and CG: the globals that stand, before and after the step. Assumes nothing.
use mathlib.Core.Path.{◌≡◌, refl, sym, ap, ◌∙◌}
use mathlib.Core.Bool.{Bool, true, false, ◌||◌, false≢true}
use mathlib.Core.List.{List}
use Prim.Native.Nat.{ℕ, ◌+◌, ◌-◌, ◌≤◌, ◌<◌}
use native.Mathlib.Omega.{arith}
use lib.ListN.{length, set}
use lib.Dec.{eqb}
use borrow.Author.Tests.{eqb-true}
use Rattle.definitions.specs.Bytes.{Line}
use Rattle.definitions.specs.Tape.{Tape, bind}
use Rattle.definitions.specs.WordSet.{Named}
use Rattle.definitions.specs.Given.{Given, Carried, carried, with_words, without_globals}
use Rattle.definitions.specs.Editor.{Ed, stop_number}
use Rattle.definitions.specs.StepProgram.{runs, state, words_in, Out, on, one_more, finish, perform}
use Rattle.definitions.specs.Edit.{Change, Op, add_global, cancel_globals, name_words, global_by, program, step}
use Rattle.strings.proofs.Lines.{script-short}
use Rattle.wordset.specs.Sets.{SetAt}
use Rattle.items.specs.Kinds.{change_shape, shape_of, global_after_kind, global_before_kind, global_exchange_kind, cancel_kind, word_set_kind, is_global}
use Rattle.items.specs.Words.{kind_at, OpAt}
use Rattle.items.specs.Simple.{CommandAt}
use Rattle.items.specs.Reserve.{reserve}
use Rattle.items.proofs.Reading.{op-reads}
use Rattle.items.proofs.OpenerWords.{kind-word}
use Rattle.items.proofs.Meaning.{words, naming, adding, form_of, Means, global-is, global-read, is-global, is-cancel, is-word-set, meant, meant-as}
use Rattle.editor.specs.declared.State.{State}
use Rattle.editor.specs.Shows.{Shows, lent}
use Rattle.globals.specs.Standing.{GlobalAt, StandingBelow, Standing, Keeps, with_set, OnlyCarried}
use Rattle.globals.proofs.Standing.{forgotten, forgets-only, kept-not, kept-last, names-only, named}
use Rattle.reading.specs.Carrying.{SomeStand}
use Rattle.std.specs.Prelude.{Ok}
use Rattle.editor.specs.Stops.{Moved, stopping}
use Rattle.editor.specs.declared.Stop.{Stop}
use Rattle.editor.specs.declared.Stop.TheVariants.{GlobalsFull}
use Rattle.seeks.specs.Looks.{holding, Looks, LooksAs, carried_of}
use Rattle.seeks.proofs.Looking.{performed, performed-stop}
use Rattle.seeks.proofs.Carrying.{LeavesOp, step-leaves}
use Rattle.commands.specs.Performing.{LeavesCarried, PerformsAt}
use Rattle.steps.specs.Steps.{SomeBelow, Carries, CommandBelow, Commanded}

-- ---- the work area

pub stands-below : (s w : List ℕ) (end : ℕ) (c : Carried) → StandingBelow s w end c → Standing s w c
stands-below s w end c h = record { end = end; below = h }

pub below-stands : (s w : List ℕ) (end : ℕ) → SomeBelow s w end → SomeStand s w
below-stands s w end (c, h) = (c, stands-below s w end c h)

pub room-below : (s w : List ℕ) (end : ℕ) (c : Carried) → StandingBelow s w end c → end + reserve ≤ length w
unfolding StandingBelow
room-below s w end (carried gs xs) h = h.0

pub reserve-below : (s w : List ℕ) (end : ℕ) → SomeBelow s w end → reserve ≤ length w
reserve-below s w end (c, h) = omega (arith, room-below s w end c h)

-- what is written: nothing, that none stands, or another word set
pub same-only : (w : List ℕ) → OnlyCarried w w
same-only w = record { as_long = refl; same = λ i out. refl }

pub forgot-only : (w w' : List ℕ) → reserve ≤ length w → w' ≡ set w (length w - reserve) 0 → OnlyCarried w w'
forgot-only w w' room q = rw q (forgets-only w room)

pub named-only : (w : List ℕ) (k : ℕ) (w' : List ℕ) → k + 4 + reserve ≤ length w → w' ≡ with_set w k → OnlyCarried w w'
named-only w k w' room q = rw q (names-only w k room)

-- ---- a simple command's words

module _ (s w : List ℕ) (end k : ℕ) (op : Op) (h : CommandBelow s w end k op) where
  -- where they begin
  pub item-below : k < end
  item-below =
      let x = h.command in
      omega (arith, (op-reads s w k x.end x.place op x.words).further, h.below)

  pub item-few : k < 65536
  item-few = omega (arith, item-below, h.short)

-- GE, GA and GB are changes by their shape
global-shaped : (kind : ℕ) → is_global kind ≡ true → shape_of kind ≡ change_shape
unfolding is_global
global-shaped kind q = by (eqb kind global_after_kind) (eqb kind global_before_kind) (eqb kind global_exchange_kind) refl refl refl q
  where
    by : (a b x : Bool) → eqb kind global_after_kind ≡ a → eqb kind global_before_kind ≡ b → eqb kind global_exchange_kind ≡ x → a || (b || x) ≡ true → shape_of kind ≡ change_shape
    by true b x e f g h = ap shape_of (eqb-true kind global_after_kind e)
    by false true x e f g h = ap shape_of (eqb-true kind global_before_kind f)
    by false false true e f g h = ap shape_of (eqb-true kind global_exchange_kind g)
    by false false false e f g h = absurd (false≢true h)

cancel-kind : (s w : List ℕ) (k m place : ℕ) → OpAt s w k m place cancel_globals → kind_at w k ≡ cancel_kind
unfolding OpAt
cancel-kind s w k m place h = kind-word s w k m place cancel_kind (omega arith) h.1

word-set-kind : (s w : List ℕ) (k m place : ℕ) (xs : List Named) → OpAt s w k m place (name_words xs) → kind_at w k ≡ word_set_kind
unfolding OpAt
word-set-kind s w k m place xs h = kind-word s w k m place word_set_kind (omega arith) h.1

module _ (s w : List ℕ) (k kind : ℕ) (is : kind ≡ kind_at w k) where
  -- the global that GE, GA or GB makes
  pub record AddsGlobal (end : ℕ) (op : Op) : Type 0 where
    pub change : Change
    pub first : Line
    pub new : Line
    pub same : op ≡ add_global change first new
    pub at : GlobalAt s w end k (global_by change first new)

  pub adds-global : is_global kind ≡ true → (end : ℕ) (op : Op) → CommandBelow s w end k op → AddsGlobal end op
  unfolding Means
  adds-global q end op h = by (is-global s w k h.command.end kind op (global-shaped kind q) q (meant s w k kind is op h.command))
    where
      by : Means s w k h.command.end kind adding op → AddsGlobal end op
      by (c, l, new, o, kind-is, reads) = record {
        change = c;
        first = l;
        new = new;
        same = o;
        at = record {
          change = c;
          first = l;
          new = new;
          m = h.command.end;
          place = h.command.place;
          lies = rw o at h.command.words;
          inside = h.below;
          short = script-short s h.command.form;
          good = rw o at h.command.good;
          same = refl;
        };
      }

  pub cancels-all : kind ≡ cancel_kind → (op : Op) → CommandAt s w k op → op ≡ cancel_globals
  unfolding form_of
  cancels-all q op h = is-cancel s w k h.end kind op q (meant-as s w k kind is words (ap form_of q) op h)

  -- the set that WORD names
  pub record NamesWords (op : Op) : Type 0 where
    pub named : List Named
    pub same : op ≡ name_words named
    pub set : SetAt w (k + 1) named

  module _ (q : kind ≡ word_set_kind) (end : ℕ) (op : Op) (h : CommandBelow s w end k op) where
    names-mean : Means s w k h.command.end kind naming op
    names-mean = is-word-set s w k h.command.end kind op q (meant s w k kind is op h.command)

    pub names-words : NamesWords op
    unfolding Means
    names-words = by names-mean
      where
        by : Means s w k h.command.end kind naming op → NamesWords op
        by (xs, o, ends, set) = record { named = xs; same = o; set = set }

    pub names-room : (c : Carried) → StandingBelow s w end c → k + 4 + reserve ≤ length w
    unfolding Means
    names-room c stand = by names-mean
      where
        by : Means s w k h.command.end kind naming op → k + 4 + reserve ≤ length w
        by (xs, o, ends, set) = omega (arith, ends, h.below, room-below s w end c stand)

  -- the other commands
  module _ (other : is_global kind ≡ false) (stays : kind ≡ cancel_kind → ⊥) (unnamed : kind ≡ word_set_kind → ⊥) where
    pub leaves-op : (op : Op) → CommandAt s w k op → LeavesOp op
    leaves-op op h = record {
      not_added = λ c l new q.
          false≢true (sym other ∙ ap is_global (is ∙ (global-read s w k h.end h.place c l new (rw q at h.words) (rw q at h.good)).0) ∙ global-is c);
      not_cancelled = λ q. stays (is ∙ cancel-kind s w k h.end h.place (rw q at h.words));
      not_named = λ xs q. unnamed (is ∙ word-set-kind s w k h.end h.place xs (rw q at h.words));
    }

pub leaves-carried : {s w : List ℕ} {k : ℕ} {op : Op} → CommandAt s w k op → (kind : ℕ) → kind ≡ kind_at w k → is_global kind ≡ false → (kind ≡ cancel_kind → ⊥) → (kind ≡ word_set_kind → ⊥)
    → LeavesCarried w k
leaves-carried h kind is other stays unnamed = (rw (← is) other, λ q. stays (is ∙ q), λ q. unnamed (is ∙ q))

-- ---- the step

-- what the steps come to
add-comes : (g : Given) (c : Change) (l new : Line) (e : Ed) (x : Carried) (t : Tape) → step g (add_global c l new) (state e x) t ≡ (one_more x (global_by c l new) e, t)
unfolding step words_in program perform runs bind finish
add-comes g c l new e x t = refl

cancel-comes : (g : Given) (e : Ed) (x : Carried) (t : Tape) → step g cancel_globals (state e x) t ≡ (on true (state e (without_globals x)), t)
unfolding step words_in program perform runs bind finish
cancel-comes g e x t = refl

name-comes : (g : Given) (xs : List Named) (e : Ed) (x : Carried) (t : Tape) → step g (name_words xs) (state e x) t ≡ (on true (state e (with_words x xs)), t)
unfolding step words_in program perform runs bind finish
name-comes g xs e x t = refl

module _ (s w : List ℕ) (end k : ℕ) (c : Change) (l new : Line) (at : GlobalAt s w end k (global_by c l new)) (w' : List ℕ) (g : Given) {j : List ℕ} {st : State} (e : Ed) (t : Tape) (shows : Shows j st e t) where
  abbrev Stepped : Carried → Out × Tape
  Stepped x = step g (add_global c l new) (state e x) t

  added : (x : Carried) → StandingBelow s w end x → Keeps w k w' true → LooksAs j (holding true st) (Stepped x) × Carries s w' end (Stepped x).0
  unfolding one_more Looks carried_of
  added (carried gs xs) stand kept =
      let y = kept-last w k w' s end gs xs stand (global_by c l new) at kept in
      rw (add-comes g c l new e (carried gs xs) t, y.0) ((refl, shows), y.1)

  not_added : (x : Carried) → StandingBelow s w end x → Keeps w k w' false → LooksAs j (stopping GlobalsFull st) (Stepped x) × Carries s w' end (Stepped x).0
  unfolding one_more Looks carried_of stop_number
  not_added (carried gs xs) stand kept =
      let y = kept-not w k w' s end gs xs stand kept in
      rw (add-comes g c l new e (carried gs xs) t, y.0) ((refl, shows), rw y.1 stand)

-- ---- what is answered

module _ (s w : List ℕ) (k kind : ℕ) (is : kind ≡ kind_at w k) (table j : List ℕ) (st : State) where
  module _ (w' : List ℕ) (q : is_global kind ≡ true) (v : Bool) (kept : Keeps w k w' v) where
    pub global-added : v ≡ true → Commanded s w k table j st w' j (holding true st)
    global-added v-is end op e c t h stand ready =
        let x = adds-global s w k kind is q end op h in
        rw x.same (added s w end k x.change x.first x.new x.at w' (lent j) e t ready.shows c stand (rw v-is at kept))

    pub global-not : v ≡ false → Commanded s w k table j st w' j (stopping GlobalsFull st)
    global-not v-is end op e c t h stand ready =
        let x = adds-global s w k kind is q end op h in
        rw x.same (not_added s w end k x.change x.first x.new x.at w' (lent j) e t ready.shows c stand (rw v-is at kept))

  pub all-cancelled : (w' : List ℕ) → kind ≡ cancel_kind → w' ≡ set w (length w - reserve) 0 → Commanded s w k table j st w' j (holding true st)
  unfolding Looks carried_of without_globals
  all-cancelled w' q w'-is end op e (carried gs xs) t h stand ready =
      rw (cancels-all s w k kind is q op h.command, cancel-comes (lent j) e (carried gs xs) t) ((refl, ready.shows), rw w'-is (forgotten s w end gs xs stand))

  pub words-named : (w' : List ℕ) → kind ≡ word_set_kind → w' ≡ with_set w k → Commanded s w k table j st w' j (holding true st)
  unfolding Looks carried_of with_words
  words-named w' q w'-is end op e (carried gs xs) t h stand ready =
      let x = names-words s w k kind is q end op h in
      rw (x.same, name-comes (lent j) x.named e (carried gs xs) t)
      ((refl, ready.shows), rw w'-is (named w k (names-room s w k kind is q end op h (carried gs xs) stand) s end gs xs x.named stand x.set))

  -- any other
  module _ (other : is_global kind ≡ false) (stays : kind ≡ cancel_kind → ⊥) (unnamed : kind ≡ word_set_kind → ⊥) (i : List ℕ) (r : Moved) (does : PerformsAt s table w k j st i r) where
    carried_on : (end : ℕ) (op : Op) (e : Ed) (c : Carried) (t : Tape) → CommandBelow s w end k op → StandingBelow s w end c → Carries s w end (step (lent j) op (state e c) t).0
    carried_on end op e c t h stand = rw (step-leaves (lent j) op e c t (leaves-op s w k kind is other stays unnamed op h.command)) stand

    pub command-on : (z : State) → r ≡ Ok z → Commanded s w k table j st w i (holding true z)
    command-on z q end op e c t h stand ready =
        (performed i z r (step (lent j) op (state e c) t) (does op e c t h.command (stands-below s w end c stand) ready) q, carried_on end op e c t h stand)

    pub command-stops : (n : Stop) (z : State) → r ≡ stopping n z → Commanded s w k table j st w i (stopping n z)
    command-stops n z q end op e c t h stand ready =
        (performed-stop i z r (step (lent j) op (state e c) t) (does op e c t h.command (stands-below s w end c stand) ready) n q, carried_on end op e c t h stand)
