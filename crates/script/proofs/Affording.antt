-- What was read affords its words: round by round, up to the script's end. Assumes nothing.
use mathlib.Core.Path.{◌≡◌, refl}
use mathlib.Core.Logic.{◌⊎◌, inl, inr}
use mathlib.Core.Bool.{Bool, true, false}
use mathlib.Core.List.{List, [], ◌∷◌, reverse_aux, reverse}
use Prim.Native.Nat.{ℕ, zero, suc, ◌+◌, ◌-◌, ◌*◌, ◌≤◌, ◌<◌, max}
use native.Mathlib.Nat.{eq-or-lt_of_le, eq-zero-or-pos}
use native.Mathlib.Omega.{arith}
use lib.ListN.{get_or}
use Rattle.definitions.specs.Bytes.{is_digit}
use Rattle.definitions.specs.Control.{Item, opens, bare, bracket, close, otherwise, line_end}
use Rattle.definitions.specs.Script.{closes}
use Rattle.items.specs.Depth.{open_after, deepest}
use Rattle.items.proofs.Deepest.{deepest-low}
use Rattle.script.specs.Gathered.{open_in, most_in}
use Rattle.script.specs.Reading.{Affords, Apart}

-- ---- items last first

-- as many are open as ever were, or fewer
open-low : (acc : List Item) → open_in acc ≤ most_in acc
unfolding open_in most_in
open-low [] = omega arith
open-low (i ∷ acc) = omega arith

-- closes open nothing
closed_in : (n : ℕ) (acc : List Item) → (open_in (closes n acc) ≡ open_in acc - n) × (most_in (closes n acc) ≡ most_in acc)
unfolding closes open_in most_in open_after
closed_in zero acc = (omega arith, refl)
closed_in (suc n) acc =
    let rest = closed_in n (close ∷ acc) in
    (omega (arith, rest.0), omega (arith, rest.1, open-low acc))

-- in reading order
turned : (acc rest : List Item) → deepest 0 (reverse_aux acc rest) ≤ max (most_in acc) (deepest (open_in acc) rest)
unfolding deepest open_in most_in
turned [] rest = omega arith
turned (i ∷ acc) rest = omega (arith, turned acc (i ∷ rest), open-low acc, deepest-low (open_after (open_in acc) i) rest)

pub most-is : (acc : List Item) → deepest 0 (reverse acc) ≤ most_in acc
unfolding deepest
most-is acc = omega (arith, turned acc [], open-low acc)

-- ---- round by round

pub affords-first : (s : List ℕ) → Affords s 0 0 0 0 0 []
unfolding open_in most_in
affords-first s = record {
  opened = refl;
  most = 0;
  so_far = omega arith;
  in_groups = omega arith;
  in_all = omega arith;
  room = omega arith;
  spare = λ pos digit. omega arith;
}

module _ {s : List ℕ} {at k due others depth : ℕ} {acc : List Item} (a : Affords s at k due others depth acc) where
  -- bytes without words
  pub affords-on : (next : ℕ) → at ≤ next → Affords s next k due others depth acc
  affords-on next le = record {
    opened = a.opened;
    most = a.most;
    so_far = a.so_far;
    in_groups = a.in_groups;
    in_all = a.in_all;
    room = omega (arith, a.room);
    spare = λ pos digit. by pos digit (eq-or-lt_of_le le);
  }
    where
      by : 0 < due → is_digit (get_or s next 0) ≡ true → (at ≡ next) ⊎ (at < next) → suc (k + due + others + a.most) ≤ 2 * next + 2 * depth
      by pos digit (inr less) = omega (arith, a.room)
      by pos digit (inl e) = omega (arith, a.spare pos (rw e digit))

  -- a whole command, with its closes
  pub affords-whole : (next m : ℕ) (i : Item) → at < next → m ≤ k + 2 * (next - at) → ((n : ℕ) → open_after n i ≡ n + 0)
      → Affords s next (m + due) 0 others depth (closes due (i ∷ acc))
  unfolding open_in most_in
  affords-whole next m i far few quiet =
      let c = closed_in due (i ∷ acc) in
      let q = quiet (open_in acc) in
      let l = open-low acc in
      record {
        opened = omega (arith, c.0, q, a.opened);
        most = a.most;
        so_far = omega (arith, c.1, q, l, a.so_far);
        in_groups = a.in_groups;
        in_all = omega (arith, a.in_groups);
        room = omega (arith, a.room);
        spare = λ pos digit. omega arith;
      }

  -- a prefix: one body more is due
  module _ (next m : ℕ) (i : Item) (far : at < next) (few : m + 1 ≤ k + 2 * (next - at)) (opens_one : (n : ℕ) → open_after n i ≡ n + 1) (apart : Apart s at k next m) where
    with-most : (n : ℕ) → a.most ≤ n → due + 1 + others ≤ suc n → m + (due + 1) + others + n ≤ 2 * next + 2 * depth
        → (is_digit (get_or s next 0) ≡ true → suc (m + (due + 1) + others + n) ≤ 2 * next + 2 * depth) → Affords s next m (due + 1) others depth (i ∷ acc)
    unfolding open_in most_in
    with-most n le enough fits followed =
        let one_more = opens_one (open_in acc) in
        record {
          opened = omega (arith, one_more, a.opened);
          most = n;
          so_far = omega (arith, one_more, a.opened, a.so_far);
          in_groups = omega (arith, a.in_groups);
          in_all = enough;
          room = fits;
          spare = λ pos digit. followed digit;
        }

    pub affords-prefix : Affords s next m (due + 1) others depth (i ∷ acc)
    affords-prefix = by (is_digit (get_or s at 0)) refl (eq-zero-or-pos due)
      where
        by : (t : Bool) → is_digit (get_or s at 0) ≡ t → (due ≡ zero) ⊎ (zero < due) → Affords s next m (due + 1) others depth (i ∷ acc)
        by t e (inl z) =
            with-most a.most (omega arith) (omega (arith, a.in_groups)) (omega (arith, a.room)) (λ digit. omega (arith, a.room, apart.followed digit))
        by true e (inr pos) =
            with-most (suc a.most) (omega arith) (omega (arith, a.in_all)) (omega (arith, a.spare pos e)) (λ digit. omega (arith, a.room, apart.followed digit))
        by false e (inr pos) =
            with-most (suc a.most) (omega arith) (omega (arith, a.in_all)) (omega (arith, a.room, apart.named e)) (λ digit. omega (arith, a.room, apart.followed digit))

  -- `(` of a bare group
  pub affords-bare : due ≡ 0 → (place : ℕ) → Affords s (at + 1) (k + 2) 0 (1 + others) (depth + 1) (bracket ∷ opens place bare ∷ acc)
  unfolding open_in most_in open_after
  affords-bare z place = record {
    opened = omega (arith, a.opened);
    most = suc a.most;
    so_far = omega (arith, a.so_far, a.opened, a.in_groups);
    in_groups = omega (arith, a.in_groups);
    in_all = omega (arith, a.in_groups);
    room = omega (arith, a.room);
    spare = λ pos digit. omega arith;
  }

  -- `(` of a body
  pub affords-body : Affords s (at + 1) (k + 1) 0 (due + others) (depth + 1) (bracket ∷ acc)
  unfolding open_in most_in open_after
  affords-body = record {
    opened = omega (arith, a.opened);
    most = suc a.most;
    so_far = omega (arith, a.so_far, open-low acc);
    in_groups = omega (arith, a.in_all);
    in_all = omega (arith, a.in_all);
    room = omega (arith, a.room);
    spare = λ pos digit. omega arith;
  }

  module _ (z : due ≡ 0) where
    -- a line end
    pub affords-line : Affords s (at + 1) (k + 1) due others depth (line_end ∷ acc)
    unfolding open_in most_in open_after
    affords-line = record {
      opened = a.opened;
      most = a.most;
      so_far = omega (arith, a.so_far, open-low acc);
      in_groups = a.in_groups;
      in_all = a.in_all;
      room = omega (arith, a.room);
      spare = λ pos digit. omega arith;
    }

    -- `)` of a group of n bodies
    pub affords-end : (n rest : ℕ) → others ≡ n + rest → 0 < depth → Affords s (at + 1) (k + n) 0 rest (depth - 1) (closes n acc)
    affords-end n rest is pos =
        let c = closed_in n acc in
        record {
          opened = omega (arith, c.0, a.opened);
          most = a.most;
          so_far = omega (arith, c.1, a.so_far);
          in_groups = omega (arith, a.in_groups);
          in_all = omega (arith, a.in_groups);
          room = omega (arith, a.room);
          spare = λ pos digit. omega arith;
        }

    -- ELSE, and its `(` at the place
    pub affords-else : Affords s (at + 1) (k + 2) 0 others depth (bracket ∷ otherwise ∷ acc)
    unfolding open_in most_in open_after
    affords-else = record {
      opened = omega (arith, a.opened);
      most = a.most;
      so_far = omega (arith, a.so_far, open-low acc);
      in_groups = a.in_groups;
      in_all = omega (arith, a.in_groups);
      room = omega (arith, a.room);
      spare = λ pos digit. omega arith;
    }

  -- the script's end
  pub affords-all : depth ≡ 0 → (k + deepest 0 (reverse acc) ≤ 2 * at + 1) × (k ≤ 2 * at)
  affords-all z = (omega (arith, a.room, a.so_far, most-is acc), omega (arith, a.room))
