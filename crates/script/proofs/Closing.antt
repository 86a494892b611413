-- Closes: their words, and the items that they are. Assumes nothing.
use mathlib.Core.Path.{◌≡◌, refl, subst}
use mathlib.Core.Logic.{inl, inr}
use mathlib.Core.List.{List, ◌∷◌}
use Prim.Native.Nat.{ℕ, zero, suc, ◌+◌, ◌≤◌, ◌<◌}
use native.Mathlib.Omega.{arith}
use lib.ListN.{length, get_or}
use Rattle.definitions.specs.Control.{Item, close}
use Rattle.definitions.specs.Script.{closes}
use Rattle.items.specs.Kinds.{close_kind}
use Rattle.items.specs.Words.{ItemAt, Closed}
use Rattle.script.specs.Gathered.{Gathered}
use Rattle.script.specs.Reading.{Unwritten}
use Rattle.script.proofs.Keeping.{gather}

-- closes from m on, at the word k or behind it
pub closed-kept : (k d m n : ℕ) (w w' : List ℕ) → k ≤ m → m + n + d ≤ length w → Closed m n w w' → Unwritten k d w w'
closed-kept k d m n w w' le room h = record {
  same_length = h.same_length;
  below = λ j less. h.outside j (inl (omega arith));
  top = λ j far. h.outside j (inr (omega arith));
}

-- the words of closes are the items
pub gathered-closes : (s w : List ℕ) (m n : ℕ) (acc : List Item) → ((j : ℕ) → m ≤ j → j < m + n → get_or w j 0 ≡ close_kind)
    → Gathered s w m acc → Gathered s w (m + n) (closes n acc)
unfolding closes ItemAt
gathered-closes s w m zero acc are h = subst (λ (x : ℕ). Gathered s w x acc) (omega arith) h
gathered-closes s w m (suc n) acc are h =
    subst (λ (x : ℕ). Gathered s w x (closes n (close ∷ acc))) (omega arith)
    (gathered-closes s w (m + 1) n (close ∷ acc) (λ j lo hi. are j (omega arith) (omega arith))
    (gather s w m (m + 1) close acc (omega arith) (refl, are m (omega arith) (omega arith)) h))
