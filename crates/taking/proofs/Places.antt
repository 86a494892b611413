-- What is done at one place of the walk, by the code's parts. Assumes nothing.
use mathlib.Core.Path.{◌≡◌, sym, subst}
use mathlib.Core.Bool.{Bool, true, false}
use mathlib.Core.List.{List, ◌++◌}
use Prim.Native.Nat.{ℕ}
use lib.ListN.{drop}
use Rattle.definitions.specs.Bytes.{Line}
use Rattle.definitions.specs.Patterns.{Pattern}
use Rattle.marks.specs.Sweeping.{slots, out_of, swept}
use Rattle.taking.specs.Ways.{best_with, enter_at, ends_at}
use Rattle.taking.specs.Walking.{AtPlace}
use Rattle.taking.specs.declared.Way.{Way}
use Rattle.taking.specs.declared.Best.{Best}

-- `may`: may a match end here
module _ (isWord : ℕ → Bool) (way : Way) (l : Line) (start end i b : ℕ) (best : Best) (ms ms' : List ℕ) (enter out : ℕ) (may : Bool)
    (entered : enter ≡ enter_at isWord way l start i) (ends : may ≡ ends_at isWord way l end i) (p : Pattern)
    (swept-is : (out ≡ out_of enter p ms) × (ms' ≡ swept b enter p ms ++ drop (slots p) ms)) where
  moves : ms' ≡ swept b (enter_at isWord way l start i) p ms ++ drop (slots p) ms
  moves = subst (λ (e : ℕ). ms' ≡ swept b e p ms ++ drop (slots p) ms) entered swept-is.1

  pub place-ends : may ≡ true → (r : Best) → r ≡ best_with way.last best out i → AtPlace isWord way l start end i b p best ms ms' r
  place-ends e r is = record {
    moved = moves;
    better = rw (sym ends, e)
        (subst (λ (e : ℕ). r ≡ best_with way.last best (out_of e p ms) i) entered (subst (λ (o : ℕ). r ≡ best_with way.last best o i) swept-is.0 is));
  }

  pub place-passes : may ≡ false → AtPlace isWord way l start end i b p best ms ms' best
  place-passes e = record { moved = moves; better = rw (sym ends, e) }
