-- What a wanted step asks, by what stands for it. Assumes nothing.
use mathlib.Core.Path.{◌≡◌, refl, sym, subst}
use mathlib.Core.Bool.{Bool, true, false}
use mathlib.Core.List.{List}
use Prim.Native.Nat.{ℕ, ◌+◌, ◌≤◌, ◌<◌}
use lib.ListN.{length, get_or}
use Rattle.definitions.specs.Search.{Search}
use Rattle.definitions.specs.Edit.{is, is_not, is_eof, Op, only_step, test, begin, begin_back, find, find_back, find_delete}
use Rattle.definitions.specs.Control.{look_op}
use Rattle.matching.specs.Words.{Encodes}
use Rattle.matching.proofs.Running.{forward as forward-on}
use Rattle.items.specs.Words.{OpAt}
use Rattle.control.specs.declared.Ask.{Ask}
use Rattle.control.specs.declared.Ask.TheVariants.{Round, Holds, HoldsNot, AtEof, Begin, BeginBack, Find, FindBack, FindDelete, Command}
use Rattle.control.specs.declared.Wanted.{Wanted}
use Rattle.control.specs.Shown.{SearchOf, Asks, a_round, holds, holds_not, at_eof, begins, begins-back, finds, finds-back, deletes, simply}
use Rattle.editor.specs.declared.State.{State}
use Rattle.seeks.specs.declared.Way.{Way}
use Rattle.seeks.specs.declared.Way.TheVariants.{Forward, Backward, Deleting}
use Rattle.seeks.specs.Looks.{Found, test_of, seek_of}
use Rattle.steps.specs.Steps.{ask_test, ask_look, Made, AnswersStep}

-- what is asked and is nothing else is the test of a line
pub look-asked : (a : Ask) → (a ≡ Round → ⊥) → (a ≡ Holds → ⊥) → (a ≡ HoldsNot → ⊥) → (a ≡ AtEof → ⊥) → (a ≡ Begin → ⊥) → (a ≡ BeginBack → ⊥) → (a ≡ Command → ⊥)
    → (way : Way) × (a ≡ ask_look way)
unfolding ask_look
look-asked Round n _ _ _ _ _ _ = absurd (n refl)
look-asked Holds _ n _ _ _ _ _ = absurd (n refl)
look-asked HoldsNot _ _ n _ _ _ _ = absurd (n refl)
look-asked AtEof _ _ _ n _ _ _ = absurd (n refl)
look-asked Begin _ _ _ _ n _ _ = absurd (n refl)
look-asked BeginBack _ _ _ _ _ n _ = absurd (n refl)
look-asked Find _ _ _ _ _ _ _ = (Forward, refl)
look-asked FindBack _ _ _ _ _ _ _ = (Backward, refl)
look-asked FindDelete _ _ _ _ _ _ _ = (Deleting, refl)
look-asked Command _ _ _ _ _ _ n = absurd (n refl)

-- a search that is neither F nor BF is DF
pub deletes-asked : (way : Way) (a : Ask) → a ≡ ask_look way → (a ≡ Find → ⊥) → (a ≡ FindBack → ⊥) → a ≡ FindDelete
unfolding ask_look
deletes-asked Forward a q n _ = absurd (n q)
deletes-asked Backward a q _ n = absurd (n q)
deletes-asked Deleting a q _ _ = q

-- the words of an item's search
module _ (s w : List ℕ) (item : ℕ) (h : (se : Search) × SearchOf s w item se) where
  pub search-inside : (item + 2 < get_or w (item + 1) 0) × (get_or w (item + 1) 0 ≤ length w)
  unfolding SearchOf
  search-inside = forward-on s w (item + 2) (get_or w (item + 1) 0) h.0 h.1

  pub search-words : (m : ℕ) → m ≡ get_or w (item + 1) 0 → (se : Search) × Encodes s w (item + 2) m se
  unfolding SearchOf
  search-words m q = (h.0, rw q h.1)

module _ (s w : List ℕ) (end : ℕ) (x : Wanted) where
  -- the operation, and what stands in the words
  abbrev pub Means : Ask → Op → Type 0
  Means Round op = op ≡ only_step
  Means Holds op = (se : Search) × SearchOf s w x.item se × (op ≡ test (is se))
  Means HoldsNot op = (se : Search) × SearchOf s w x.item se × (op ≡ test (is_not se))
  Means AtEof op = op ≡ test is_eof
  Means Begin op = op ≡ begin
  Means BeginBack op = op ≡ begin_back
  Means Find op = (se : Search) × SearchOf s w x.item se × (op ≡ find se)
  Means FindBack op = (se : Search) × SearchOf s w x.item se × (op ≡ find_back se)
  Means FindDelete op = (se : Search) × SearchOf s w x.item se × (op ≡ find_delete se x.lines)
  Means Command op = (m : ℕ) × OpAt s w x.item m x.place op × (m ≤ end)

  means : (op : Op) → Asks s w end x op → Means x.what op
  means _ (a_round n) = rw n refl
  means _ (holds se n h) = rw n (se, h, refl)
  means _ (holds_not se n h) = rw n (se, h, refl)
  means _ (at_eof n) = rw n refl
  means _ (begins n) = rw n refl
  means _ (begins-back n) = rw n refl
  means _ (finds se n h) = rw n (se, h, refl)
  means _ (finds-back se n h) = rw n (se, h, refl)
  means _ (deletes se k n q h) = rw (n, q) (se, h, refl)
  means _ (simply op m n h i) = rw n (m, h, i)

  module _ (op : Op) (a : Asks s w end x op) where
    pub asks-as : (k : Ask) → x.what ≡ k → Means k op
    asks-as k q = rw q at (means op a)

    pub asks-test : (v : Bool) → x.what ≡ ask_test v → (se : Search) × SearchOf s w x.item se × (op ≡ test (test_of v se))
    unfolding ask_test test_of
    asks-test true q = asks-as Holds q
    asks-test false q = asks-as HoldsNot q

    pub asks-look : (way : Way) → x.what ≡ ask_look way → (se : Search) × SearchOf s w x.item se × (op ≡ look_op (seek_of way) se x.lines)
    unfolding ask_look seek_of look_op
    asks-look Forward q = asks-as Find q
    asks-look Backward q = asks-as FindBack q
    asks-look Deleting q = asks-as FindDelete q

-- the answer, where it is known what is asked
pub as-asked : (s w : List ℕ) (x : Wanted) (table j w' k : List ℕ) (st : State) (left : ℕ) (r : Found) (ask : Ask) → x.what ≡ ask → Made s w x table j st left w' k r ask
    → AnswersStep s w x table j st left w' k r
as-asked s w x table j w' k st left r ask q f = subst (λ (a : Ask). Made s w x table j st left w' k r a) (sym q) f
