-- How many bodies can be open. Assumes nothing.
use mathlib.Core.List.{List, [], ◌∷◌}
use Prim.Native.Nat.{ℕ, ◌≤◌}
use native.Mathlib.Nat.{le-max_left, le-max_right, max-le, le_trans}
use native.Mathlib.Omega.{arith}
use Rattle.definitions.specs.Control.{Item, simple, seek, opens, bracket, close, otherwise, leave, line_end}
use Rattle.items.specs.Depth.{open_after, deepest}

pub deepest-low : (d : ℕ) (items : List Item) → d ≤ deepest d items
unfolding deepest
deepest-low d [] = omega arith
deepest-low d (i ∷ items) = omega arith

pub deepest-next : (d : ℕ) (i : Item) (items : List Item) → deepest (open_after d i) items ≤ deepest d (i ∷ items)
unfolding deepest
deepest-next d i items = le-max_right d (deepest (open_after d i) items)

open_more : (d d' : ℕ) (i : Item) → d ≤ d' → open_after d i ≤ open_after d' i
unfolding open_after
open_more d d' line_end h = h
open_more d d' bracket h = h
open_more d d' close h = omega arith
open_more d d' otherwise h = h
open_more d d' (leave p) h = h
open_more d d' (simple p op) h = h
open_more d d' (seek p f se) h = h
open_more d d' (opens p o) h = omega arith

pub deepest-more : (d d' : ℕ) (items : List Item) → d ≤ d' → deepest d items ≤ deepest d' items
unfolding deepest
deepest-more d d' [] h = h
deepest-more d d' (i ∷ items) h =
    max-le (le_trans h (le-max_left d' (deepest (open_after d' i) items)))
    (le_trans (deepest-more (open_after d i) (open_after d' i) items (open_more d d' i h)) (le-max_right d' (deepest (open_after d' i) items)))
