-- Items, groups and states stay where words behind them are written. Assumes nothing.
use mathlib.Core.Path.{◌≡◌, refl, ◌∙◌, subst}
use mathlib.Core.List.{List, [], ◌∷◌, reverse_aux, reverse}
use Prim.Native.Nat.{ℕ, zero, suc, ◌+◌, ◌-◌, ◌≤◌, ◌<◌}
use native.Mathlib.Omega.{arith}
use lib.ListN.{length, get_or, set, length-set}
use lib.Seq.{get_or-set_other}
use Rattle.definitions.specs.Control.{Item}
use Rattle.answers.specs.declared.State.{State}
use Rattle.items.specs.Words.{ItemAt, ItemsAt}
use Rattle.items.proofs.Keeping.{item-kept}
use Rattle.script.specs.Gathered.{Gathered}
use Rattle.script.specs.Reading.{groups_in, bodies_in, Fits, ReadSoFar, Unwritten}

-- ---- items

pub gathered-kept : (s w w' : List ℕ) (n : ℕ) → ((j : ℕ) → j < n → get_or w' j 0 ≡ get_or w j 0) → n ≤ length w' → (m : ℕ) (acc : List Item) → m ≤ n → Gathered s w m acc → Gathered s w' m acc
unfolding Gathered
gathered-kept s w w' n same long m [] le h = h
gathered-kept s w w' n same long m (i ∷ acc) le (p, fwd, it, rest) =
    (p, fwd, item-kept s w w' n same long p m i le it, gathered-kept s w w' n same long p acc (omega arith) rest)

-- one item more
pub gather : (s w : List ℕ) (k m : ℕ) (i : Item) (acc : List Item) → k ≤ m → ItemAt s w k m i → Gathered s w k acc → Gathered s w m (i ∷ acc)
unfolding Gathered
gather s w k m i acc le it rest = (k, le, it, rest)

-- ---- items in reading order

onto : (s w : List ℕ) (m e : ℕ) (acc rest : List Item) → Gathered s w m acc → ItemsAt s w m e rest → ItemsAt s w 0 e (reverse_aux acc rest)
unfolding Gathered ItemsAt
onto s w m e [] rest z h = subst (λ (x : ℕ). ItemsAt s w x e rest) z h
onto s w m e (i ∷ acc) rest (p, fwd, it, g) h = onto s w p e acc (i ∷ rest) g (m, it, h)

pub in_order : (s w : List ℕ) (m : ℕ) (acc : List Item) → Gathered s w m acc → ItemsAt s w 0 m (reverse acc)
unfolding ItemsAt
in_order s w m acc g = onto s w m m acc [] g refl

-- ---- groups and states

module _ (k n : ℕ) (w w' : List ℕ) (h : Unwritten k n w w') where
  word_kept : (d : ℕ) → d < n → get_or w' (length w' - suc d) 0 ≡ get_or w (length w - suc d) 0
  word_kept d le = rw h.same_length (h.top (length w - suc d) (omega arith))

  pub groups-kept : (d : ℕ) → d ≤ n → groups_in w' d ≡ groups_in w d
  unfolding groups_in
  groups-kept zero le = refl
  groups-kept (suc d) le = rw (word_kept d (omega arith), groups-kept d (omega arith))

  pub bodies_kept : (d : ℕ) → d ≤ n → bodies_in w' d ≡ bodies_in w d
  unfolding bodies_in
  bodies_kept zero le = refl
  bodies_kept (suc d) le = rw (word_kept d (omega arith), bodies_kept d (omega arith))

  pub fits_kept : (s : List ℕ) → Fits s w → Fits s w'
  fits_kept s f = record { work = rw h.same_length f.work; small = f.small; form = f.form }

  pub acc_kept : (s : List ℕ) (acc : List Item) → k ≤ length w → Gathered s w k acc → Gathered s w' k acc
  acc_kept s acc le g = gathered-kept s w w' k h.below (omega (arith, h.same_length)) k acc (omega arith) g

-- the next free word is far from the groups' words
pub free : (s w : List ℕ) (st : State) (at : ℕ) (acc : List Item) → ReadSoFar s w st at acc → st.k + st.due + 32 ≤ length w
free s w st at acc h = omega (arith, h.affords.room, h.deep, h.fits.work, h.inside)

pub stands-kept : (s w w' : List ℕ) (st : State) (at : ℕ) (acc : List Item) → Unwritten st.k 16 w w' → ReadSoFar s w st at acc → ReadSoFar s w' st at acc
stands-kept s w w' st at acc k h = record {
  inside = h.inside;
  deep = h.deep;
  no_body = h.no_body;
  gathered = acc_kept st.k 16 w w' k s acc (omega (arith, free s w st at acc h)) h.gathered;
  affords = rw (bodies_kept st.k 16 w w' k st.depth h.deep) h.affords;
  fits = fits_kept st.k 16 w w' k s h.fits;
}

-- ---- words written one by one

pub kept-all : (k d : ℕ) (w : List ℕ) → Unwritten k d w w
kept-all k d w = record { same_length = refl; below = λ j less. refl; top = λ j far. refl }

pub kept_set : (k d i v : ℕ) (w w' : List ℕ) → k ≤ i → i + d < length w → Unwritten k d w w' → Unwritten k d w (set w' i v)
kept_set k d i v w w' le room h = record {
  same_length = length-set w' i v ∙ h.same_length;
  below = λ j less. get_or-set_other w' i j v 0 (λ e. omega (arith, e)) ∙ h.below j less;
  top = λ j far. get_or-set_other w' i j v 0 (λ e. omega (arith, e)) ∙ h.top j far;
}

pub kept_less : (k k' d d' : ℕ) (w w' : List ℕ) → k' ≤ k → d' ≤ d → Unwritten k d w w' → Unwritten k' d' w w'
kept_less k k' d d' w w' le lo h = record { same_length = h.same_length; below = λ j less. h.below j (omega arith); top = λ j far. h.top j (omega arith) }
