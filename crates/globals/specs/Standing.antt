-- What the run carries from step to step, in the reserve of the work area: the globals that stand, a word each, 1 more than the index of the item that made
-- it, and 0 ends them (document 02, wish 2; W2.3); then the set of the bytes that count for W, three words (wish 8).
use Rattle.std.specs.Prelude.{◌≡◌, ◌⊎◌, Bool, true, false, cond, List, [], ◌∷◌, ℕ, zero, suc, ◌+◌, ◌-◌, ◌≤◌, ◌<◌, length, take, drop, get_or, set, eqb, ltb}
use Rattle.std.proofs.lemmas.List.Edits.{sets}
use Rattle.definitions.specs.Bytes.{Line}
use Rattle.definitions.specs.Given.{Global, Carried, carried}
use Rattle.definitions.specs.Edit.{Change, add_global, global_by}
use Rattle.theorems.specs.GoodItems.{good_op}
use Rattle.wordset.specs.Sets.{SetAt}
use Rattle.wordset.specs.Decoding.{first_words}
use Rattle.items.specs.Words.{OpAt}
use Rattle.items.specs.Reserve.{reserve}

-- the words from k on, none of them at `end` or above it, hold GE, GA or GB, which makes the global x
pub record GlobalAt (s w : List ℕ) (end k : ℕ) (x : Global) : Type 0 where
  pub change : Change
  pub first : Line
  pub new : Line
  pub m : ℕ
  pub place : ℕ
  pub lies : OpAt s w k m place (add_global change first new)
  pub inside : m ≤ end
  pub short : length s ≤ 16384
  pub good : good_op (add_global change first new) ≡ true
  pub same : x ≡ global_by change first new

-- the n words from i on say the globals
unfoldable pub StandingAt : List ℕ → List ℕ → ℕ → ℕ → ℕ → List Global → Type 0
StandingAt s w end i zero gs = gs ≡ []
StandingAt s w end i (suc n) [] = get_or w i 0 ≡ 0
StandingAt s w end i (suc n) (x ∷ gs) = (k : ℕ) × (get_or w i 0 ≡ suc k) × GlobalAt s w end k x × StandingAt s w end (suc i) n gs

-- at most this many stand
abbrev pub most : ℕ
most = 16

-- where the word set stands, after the globals; it has three words
abbrev pub set_place : List ℕ → ℕ
set_place w = length w - reserve + most

abbrev pub set_in : List ℕ → List ℕ
set_in w = take 3 (drop (set_place w) w)

-- what is carried: the globals that stand, of items below `end`, and the word set
unfoldable pub StandingBelow : List ℕ → List ℕ → ℕ → Carried → Type 0
StandingBelow s w end (carried gs xs) = (end + reserve ≤ length w) × StandingAt s w end (length w - reserve) most gs × SetAt w (set_place w) xs

pub record Standing (s w : List ℕ) (c : Carried) : Type 0 where
  pub end : ℕ
  pub below : StandingBelow s w end c

-- ---- the words by themselves

-- how many of the n words from i on stand before the first 0
unfoldable pub count_from : List ℕ → ℕ → ℕ → ℕ
count_from w i zero = 0
count_from w i (suc n) = elim (eqb (get_or w i 0) 0) [ true ↦ 0 | false ↦ suc (count_from w (suc i) n) ]

-- how many globals stand
abbrev pub standing : List ℕ → ℕ
standing w = count_from w (length w - reserve) most

-- the item at k stands after n others, and no other after it
unfoldable pub kept_at : List ℕ → ℕ → ℕ → List ℕ
kept_at w n k =
    let i : ℕ = length w - reserve + n in
    cond (ltb (n + 1) most) (set (set w i (k + 1)) (i + 1) 0) (set w i (k + 1))

-- the item at k is to stand too: whether it does, and the words then
pub record Keeps (w : List ℕ) (k : ℕ) (w' : List ℕ) (r : Bool) : Type 0 where
  pub does : r ≡ ltb (standing w) most
  pub words : w' ≡ cond r (kept_at w (standing w) k) w

-- as where a run begins: none stands, and letters and digits count for W
abbrev pub begun : List ℕ → List ℕ
begun w = sets (set w (length w - reserve) 0) (set_place w) first_words

-- the set of the item at k counts, which stands in the three words after its first
abbrev pub with_set : List ℕ → ℕ → List ℕ
with_set w k = sets w (set_place w) (get_or w (k + 1) 0 ∷ get_or w (k + 2) 0 ∷ get_or w (k + 3) 0 ∷ [])

-- all words stay but those of the globals and of the word set
pub record OnlyCarried (w w' : List ℕ) : Type 0 where
  pub as_long : length w' ≡ length w
  pub same : (i : ℕ) → (i + reserve < length w) ⊎ (length w + (most + 3) ≤ i + reserve) → get_or w' i 0 ≡ get_or w i 0
