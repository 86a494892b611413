-- The scan of a line for a byte: the laws of `lacks_byte`. Assumes nothing.
use Rattle.std.specs.Prelude.{Some, None}
use mathlib.Core.Path.{◌≡◌, refl, sym, ap, ◌∙◌}
use mathlib.Core.Bool.{Bool, true, false, not, ◌&&◌, and-true}
use mathlib.Core.List.{List, [], ◌∷◌}
use Prim.Native.Nat.{ℕ, ◌+◌, ◌≤◌, ◌<◌}
use native.Mathlib.Numerals.{add-one}
use lib.ListN.{length, take, get_or}
use lib.Seq.{take-suc, take_all}
use lib.Dec.{eqb}
use Rattle.needs.specs.Needing.{is_without, lacks}
use Rattle.needs.specs.Lacking.{without-append}

-- no byte is known
pub unknown-lacks : (s : List ℕ) → false ≡ lacks None s
unfolding lacks
unknown-lacks s = refl

module _ (need : ℕ) (s : List ℕ) where
  -- the first k bytes are looked at
  abbrev pub Scanned : ℕ → Bool → Type 0
  Scanned k without = without ≡ is_without need (take k s)

  pub scan_begins : Scanned 0 true
  unfolding is_without
  scan_begins = refl

  pub scan-goes : (k : ℕ) (without : Bool) → k < length s → Scanned k without → Scanned (k + 1) (without && not (eqb (get_or s k 0) need))
  unfolding is_without
  scan-goes k without more e =
      ap (λ (t : Bool). t && not (eqb (get_or s k 0) need)) e
      ∙ ap (λ (t : Bool). is_without need (take k s) && t) (sym (and-true (not (eqb (get_or s k 0) need))))
      ∙ sym (without-append need (take k s) (get_or s k 0 ∷ []))
      ∙ sym (ap (is_without need) (ap (λ (n : ℕ). take n s) (add-one k) ∙ take-suc s k 0 more))

  pub scan-ends : (k : ℕ) (without : Bool) → length s ≤ k → Scanned k without → without ≡ lacks (Some need) s
  unfolding lacks
  scan-ends k without end e = e ∙ ap (is_without need) (take_all k s end)
