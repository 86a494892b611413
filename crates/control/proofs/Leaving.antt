-- Laws of AGP: out of the innermost group. Assumes nothing.
use mathlib.Core.Path.{◌≡◌, refl, sym, ap, ◌∙◌, subst}
use mathlib.Core.Bool.{Bool, true, false, false≢true}
use mathlib.Core.List.{List, [], ◌∷◌}
use Prim.Native.Nat.{ℕ, suc, ◌+◌, ◌-◌, ◌%◌, ◌≤◌, ◌<◌}
use native.Mathlib.Omega.{arith}
use lib.ListN.{length, get_or}
use lib.Dec.{eqb}
use borrow.Author.Tests.{eq-eqb, ne_eqb}
use Rattle.definitions.specs.Control.{Opener, Item, simple, seek, opens, bracket, close, otherwise, leave, line_end, Frame, frame, skipping, leaving, leave_to}
use Rattle.items.specs.Words.{kind_at, ItemAt}
use Rattle.items.specs.Kinds.{bracket_kind}
use Rattle.items.specs.Ends.{class_of, mark_by, class_in, end_by}
use Rattle.items.proofs.Reading.{item-reads}
use Rattle.control.specs.declared.Mode.TheVariants.{Skipping, Leaving}
use Rattle.control.specs.Items.{starts_group}
use Rattle.control.specs.Shown.{ItemsFrom, FrameAt, FramesAt, InFrames, ShowsPoint, stand_at}
use Rattle.control.specs.declared.Point.{Point}
use Rattle.control.proofs.Standing.{stands-in, stands-less, first_of, none-stands, no_more}
use Rattle.control.proofs.Starting.{shows-as}
use Rattle.control.proofs.Ending.{frame-item, frame-says}
use Rattle.items.specs.declared.ends.Class.TheVariants.{Bracket}

-- ---- is a body a group

-- an item of another class is no bracket
no-bracket : (s w : List ℕ) (end k d : ℕ) (i : Item) (items : List Item) → (Bracket ≡ class_of i → ⊥) → ItemsFrom s w end k d (i ∷ items) → eqb (kind_at w k) bracket_kind ≡ false
unfolding class_in mark_by
no-bracket s w end k d i items other h =
    let f = first_of s w end k d i items h in
    ne_eqb (kind_at w k) bracket_kind (λ e. other (rw e at (item-reads s w k f.next i f.item).class))

starts-as : (s w : List ℕ) (end k d : ℕ) (body : List Item) → ItemsFrom s w end k d body → k < end → eqb (kind_at w k) bracket_kind ≡ starts_group body
unfolding starts_group class_of ItemAt
starts-as s w end k d [] h less = absurd (omega (arith, less, none-stands s w end k d h))
starts-as s w end k d (bracket ∷ items) h less = eq-eqb (kind_at w k) bracket_kind (omega (arith, (first_of s w end k d bracket items h).item.1))
starts-as s w end k d (line_end ∷ items) h less = no-bracket s w end k d line_end items (λ q. cc q) h
starts-as s w end k d (close ∷ items) h less = no-bracket s w end k d close items (λ q. cc q) h
starts-as s w end k d (otherwise ∷ items) h less = no-bracket s w end k d otherwise items (λ q. cc q) h
starts-as s w end k d (leave p ∷ items) h less = no-bracket s w end k d (leave p) items (λ q. cc q) h
starts-as s w end k d (simple p op ∷ items) h less = no-bracket s w end k d (simple p op) items (λ q. cc q) h
starts-as s w end k d (seek p f se ∷ items) h less = no-bracket s w end k d (seek p f se) items (λ q. cc q) h
starts-as s w end k d (opens p o ∷ items) h less = no-bracket s w end k d (opens p o) items (λ q. cc q) h

module _ (w : List ℕ) (end j kind start : ℕ) (kind-is : kind ≡ kind_at w (get_or w j 0 % 65536)) (start_is : start ≡ end_by w (get_or w j 0 % 65536) kind)
    (s : List ℕ) (d : ℕ) (g : Bool) (place : ℕ) (o : Opener) (body : List Item) (h : FrameAt s w end j d g place o body) where
  starts-at : start ≡ h.start
  starts-at =
      start_is ∙ ap (end_by w (get_or w j 0 % 65536)) kind-is ∙ ap (λ (x : ℕ). end_by w x (kind_at w x)) (frame-item s w end j d g place o body h)
      ∙ (frame-says s w end j d g place o body h).ends

  pub group-none : end ≤ start → false ≡ g
  unfolding starts_group
  group-none le =
      sym (h.group ∙ ap starts_group (no_more s w end h.start d body h.stands (omega (arith, le, starts-at))))

  pub group-is : start < end → (first : ℕ) → first ≡ kind_at w start → eqb first bracket_kind ≡ g
  group-is less first e =
      ap (λ (x : ℕ). eqb x bracket_kind) (e ∙ ap (kind_at w) starts-at) ∙ starts-as s w end h.start d body h.stands (omega (arith, less, starts-at)) ∙ sym h.group

-- ---- out of the innermost group

-- d bodies are left to look at
pub record Left (s w : List ℕ) (end depth d : ℕ) (items : List Item) (frames : List Frame) : Type 0 where
  pub rest : List Frame
  pub framed : FramesAt s w end rest
  pub deep : d ≡ length rest
  pub same : leave_to (depth - d) items rest ≡ leave_to 0 items frames

shown-group : (s w : List ℕ) (end next depth d : ℕ) (items : List Item) (fs : List Frame) (r : Point) → r ≡ stand_at (Skipping (depth - (d - 1))) next (d - 1) → 0 < d → d ≤ depth → d ≡ suc (length fs)
    → ItemsFrom s w end next depth items → FramesAt s w end fs → ShowsPoint s w end r (skipping (suc (depth - d)) items fs)
unfolding ShowsPoint
shown-group s w end next depth d items fs r e some le deep st f =
    shows-as s w end r (stand_at (Skipping (depth - (d - 1))) next (d - 1)) (skipping (suc (depth - d)) items fs) e (
      ap Skipping (omega (arith, some, le)),
      omega arith,
      record { stands = stands-less s w end next depth (d - 1 + suc (depth - d)) items (omega (arith, some, le)) st; framed = f; deep = omega (arith, deep) },
    )

module _ (s w : List ℕ) (end next depth : ℕ) (items : List Item) (frames : List Frame) (h : InFrames s w end next depth depth items frames) where
  pub left-start : Left s w end depth depth items frames
  left-start = record { rest = frames; framed = h.framed; deep = h.deep; same = ap (λ (k : ℕ). leave_to k items frames) (omega arith) }

  module _ (d : ℕ) (some : 0 < d) (le : d ≤ depth) (l : Left s w end depth d items frames) where
    -- the innermost of the d bodies
    innermost : (P : Type 0) → ((g : Bool) (fs : List Frame) (place : ℕ) (o : Opener) (body : List Item) → FrameAt s w end (end + (d - 1)) (length fs + 1) g place o body → FramesAt s w end fs
        → d ≡ suc (length fs) → leave_to (depth - d) items (frame g place o body ∷ fs) ≡ leave_to 0 items frames → P) → P
    unfolding FramesAt
    innermost P on = go l.rest l.framed l.deep l.same
      where
        go : (fs : List Frame) → FramesAt s w end fs → d ≡ length fs → leave_to (depth - d) items fs ≡ leave_to 0 items frames → P
        go [] f deep same = absurd (omega (arith, some, deep))
        go (frame g place o body ∷ fs) f deep same =
            on g fs place o body (subst (λ (x : ℕ). FrameAt s w end x (length fs + 1) g place o body) (omega (arith, deep)) f.0) f.1 deep same

    pub left-looked : ((z : List ℕ) × (n : ℕ) × (g : Bool) × (place : ℕ) × (o : Opener) × (body : List Item) × FrameAt z w end (end + (d - 1)) n g place o body) × (end + (d - 1) < length w)
    left-looked = (
      innermost ((z : List ℕ) × (n : ℕ) × (g : Bool) × (place : ℕ) × (o : Opener) × (body : List Item) × FrameAt z w end (end + (d - 1)) n g place o body)
          (λ g fs place o body f rest deep same. (s, length fs + 1, g, place, o, body, f)),
      omega (arith, some, le, stands-in s w end next depth items h.stands),
    )

    module _ (is-group : Bool) (found : (z : List ℕ) (n : ℕ) (g : Bool) (place : ℕ) (o : Opener) (body : List Item) → FrameAt z w end (end + (d - 1)) n g place o body → is-group ≡ g) where
      -- a group
      pub left-group : is-group ≡ true → (r : Point) → r ≡ stand_at (Skipping (depth - (d - 1))) next (d - 1) → ShowsPoint s w end r (leave_to 0 items frames)
      unfolding leave_to
      left-group yes-group r e = innermost (ShowsPoint s w end r (leave_to 0 items frames)) go
        where
          go : (g : Bool) (fs : List Frame) (place : ℕ) (o : Opener) (body : List Item) → FrameAt s w end (end + (d - 1)) (length fs + 1) g place o body → FramesAt s w end fs → d ≡ suc (length fs)
              → leave_to (depth - d) items (frame g place o body ∷ fs) ≡ leave_to 0 items frames → ShowsPoint s w end r (leave_to 0 items frames)
          go false fs place o body f rest deep same = absurd (false≢true (sym (found s (length fs + 1) false place o body f) ∙ yes-group))
          go true fs place o body f rest deep same =
              subst (λ c. ShowsPoint s w end r c) same (shown-group s w end next depth d items fs r e some le deep h.stands rest)

      -- a body that is no group is left too
      pub left-more : is-group ≡ false → Left s w end depth (d - 1) items frames
      unfolding leave_to
      left-more no_group = innermost (Left s w end depth (d - 1) items frames) go
        where
          go : (g : Bool) (fs : List Frame) (place : ℕ) (o : Opener) (body : List Item) → FrameAt s w end (end + (d - 1)) (length fs + 1) g place o body → FramesAt s w end fs → d ≡ suc (length fs)
              → leave_to (depth - d) items (frame g place o body ∷ fs) ≡ leave_to 0 items frames → Left s w end depth (d - 1) items frames
          go true fs place o body f rest deep same = absurd (false≢true (sym no_group ∙ found s (length fs + 1) true place o body f))
          go false fs place o body f rest deep same =
              record {
                rest = fs;
                framed = rest;
                deep = omega (arith, deep);
                same = ap (λ (k : ℕ). leave_to k items fs) (omega (arith, some, le)) ∙ same;
              }

  -- there is no group
  pub left-none : (d : ℕ) → d ≡ 0 → (r : Point) → r ≡ stand_at Leaving next 0 → Left s w end depth d items frames → ShowsPoint s w end r (leave_to 0 items frames)
  unfolding ShowsPoint leave_to
  left-none d none r e l = go l.rest l.deep l.same
    where
      go : (fs : List Frame) → d ≡ length fs → leave_to (depth - d) items fs ≡ leave_to 0 items frames → ShowsPoint s w end r (leave_to 0 items frames)
      go [] deep same = subst (λ c. ShowsPoint s w end r c) same (shows-as s w end r (stand_at Leaving next 0) (leaving items) e (refl, (depth, h.stands)))
      go (f ∷ fs) deep same = absurd (omega (arith, none, deep))
