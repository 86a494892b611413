-- A line passed through the standing globals, one after the other. Assumes nothing.
use Rattle.std.specs.Prelude.{Ok}
use mathlib.Core.Path.{◌≡◌, refl, sym, ap, ◌∙◌, subst}
use mathlib.Core.Bool.{Bool, true, false}
use mathlib.Core.List.{List, [], ◌∷◌}
use Prim.Native.Nat.{ℕ, zero, suc, ◌+◌, ◌-◌, ◌≤◌, ◌<◌}
use native.Mathlib.Nat.{add-zero}
use native.Mathlib.Omega.{arith}
use lib.ListN.{length, take, get_or}
use lib.Dec.{ltb}
use Rattle.definitions.specs.Bytes.{Line}
use Rattle.definitions.specs.WordSet.{Named}
use Rattle.definitions.specs.Given.{Global, global, Carried, carried}
use Rattle.definitions.specs.Editor.{n25, Got, got, stop}
use Rattle.definitions.specs.Globals.{put_for_each, passed_through, left_by}
use Rattle.items.specs.Reserve.{reserve}
use Rattle.globals.specs.Standing.{GlobalAt, StandingAt, most, StandingBelow, Standing}
use Rattle.globals.specs.Passing.{Passed, too-long, LeftAs, MakesGlobal, PassesOne, PassesAll}
use Rattle.globals.proofs.Putting.{left-few}

-- ---- the first of several

one_then : (x : Global) (gs : List Global) (l : Line) (m : ℕ) (line : List ℕ) → LeftAs (Ok m) line (passed_through (x ∷ []) l) → passed_through (x ∷ gs) l ≡ passed_through gs (take m line)
unfolding LeftAs passed_through
one_then (global s put) gs l m line h = by (ltb 255 (length (put_for_each s put 0 l))) h
  where
    by : (t : Bool) → LeftAs (Ok m) line (elim t [ true ↦ stop n25 | false ↦ got (put_for_each s put 0 l) ])
        → ◌≡◌ {A = Got Line} (elim t [ true ↦ stop n25 | false ↦ passed_through gs (put_for_each s put 0 l) ]) (passed_through gs (take m line))
    by true h = absurd h
    by false h = ap (passed_through gs) h.1

one-long : (x : Global) (gs : List Global) (l : Line) (line : List ℕ) → LeftAs too-long line (passed_through (x ∷ []) l) → passed_through (x ∷ gs) l ≡ stop n25
unfolding LeftAs passed_through
one-long (global s put) gs l line h = by (ltb 255 (length (put_for_each s put 0 l))) h
  where
    by : (t : Bool) → LeftAs too-long line (elim t [ true ↦ stop n25 | false ↦ got (put_for_each s put 0 l) ])
        → ◌≡◌ {A = Got Line} (elim t [ true ↦ stop n25 | false ↦ passed_through gs (put_for_each s put 0 l) ]) (stop n25)
    by true h = refl
    by false h = absurd h

-- ---- the globals from the ith word on

-- the globals that are left, and what they have to do: what all have to do
pub record Left (s w l line : List ℕ) (len i end : ℕ) (gs : List Global) : Type 0 where
  pub rest : List Global
  pub stand : StandingAt s w end (length w - reserve + i) (most - i) rest
  pub same : passed_through gs l ≡ passed_through rest (take len line)

-- i globals have acted; the text is the first `len` bytes of the line
pub record Acted (s w l line : List ℕ) (len i : ℕ) : Type 0 where
  pub few : len ≤ 255
  pub at_most : i ≤ most
  pub so : (end : ℕ) (gs : List Global) (xs : List Named) → StandingBelow s w end (carried gs xs) → Left s w l line len i end gs

pub none-acted : (s w line : List ℕ) (n : ℕ) → n ≤ 255 → Acted s w (take n line) line n 0
unfolding StandingBelow
none-acted s w line n few = record {
  few = few;
  at_most = omega arith;
  so = λ end gs xs h. record { rest = gs; stand = subst (λ (i : ℕ). StandingAt s w end i most gs) (sym (add-zero (length w - reserve))) h.1; same = refl };
}

module _ (s w l line : List ℕ) (len i : ℕ) (a : Acted s w l line len i) where
  -- no global is left
  ended : ((end : ℕ) (rest : List Global) → StandingAt s w end (length w - reserve + i) (most - i) rest → rest ≡ []) → PassesAll s w l (Ok len) line
  unfolding left_by passed_through LeftAs
  ended none (carried gs xs) h =
      let x = a.so h.end gs xs h.below in
      subst (LeftAs (Ok len) line) (sym (x.same ∙ ap (λ (gs : List Global). passed_through gs (take len line)) (none h.end x.rest x.stand))) (a.few, refl)

  no_word : (end i n : ℕ) (gs : List Global) → get_or w i 0 ≡ 0 → StandingAt s w end i n gs → gs ≡ []
  unfolding StandingAt
  no_word end i zero gs e h = h
  no_word end i (suc n) [] e h = refl
  no_word end i (suc n) (x ∷ gs) e (k, word, g, rest) = absurd (omega (arith, e, word))

  pub ended-word : get_or w (length w - reserve + i) 0 ≡ 0 → PassesAll s w l (Ok len) line
  ended-word e = ended (λ end rest h. no_word end (length w - reserve + i) (most - i) rest e h)

  pub ended-all : most ≤ i → PassesAll s w l (Ok len) line
  unfolding StandingAt
  ended-all h =
      let z : most - i ≡ 0 = omega (arith, h) in
      ended (λ end rest x. subst (λ (n : ℕ). StandingAt s w end (length w - reserve + i) n rest) z x)

  -- another is
  record Another (end : ℕ) (gs : List Global) : Type 0 where
    pub x : Global
    pub rest : List Global
    pub at : GlobalAt s w end (get_or w (length w - reserve + i) 0 - 1) x
    pub stand : StandingAt s w end (suc (length w - reserve + i)) (most - (i + 1)) rest
    pub same : passed_through gs l ≡ passed_through (x ∷ rest) (take len line)

  module _ (more : i < most) (word : get_or w (length w - reserve + i) 0 ≡ 0 → ⊥) where
    another : (end : ℕ) (gs : List Global) → Left s w l line len i end gs → Another end gs
    unfolding StandingAt
    another end gs y = by y.rest (subst (λ (n : ℕ). StandingAt s w end (length w - reserve + i) n y.rest) n y.stand) y.same
      where
        n : most - i ≡ suc (most - (i + 1))
        n = omega (arith, more)

        by : (rest : List Global) → StandingAt s w end (length w - reserve + i) (suc (most - (i + 1))) rest → passed_through gs l ≡ passed_through rest (take len line) → Another end gs
        by [] h same = absurd (word h)
        by (x ∷ rest) (k, is, g, h) same =
            let e : k ≡ get_or w (length w - reserve + i) 0 - 1 = omega (arith, is) in
            record { x = x; rest = rest; at = subst (λ (k : ℕ). GlobalAt s w end k x) e g; stand = h; same = same }

    pub its-global : (c : Carried) → Standing s w c → MakesGlobal s w (get_or w (length w - reserve + i) 0 - 1)
    unfolding StandingBelow
    its-global (carried gs xs) h =
        let y = another h.end gs (a.so h.end gs xs h.below) in
        let room = h.below.0 in
        record { end = h.end; x = y.x; at = y.at; inside = omega (arith, room) }

    module _ (r : Passed) (line' : List ℕ) (act : PassesOne s w (get_or w (length w - reserve + i) 0 - 1) (take len line) r line') where
      left_so : (end : ℕ) (gs : List Global) (xs : List Named) (h : StandingBelow s w end (carried gs xs)) (y : Another end gs) → LeftAs r line' (passed_through (y.x ∷ []) (take len line))
      unfolding StandingBelow
      left_so end gs xs h y =
          let room = h.0 in
          act end y.x y.at (omega (arith, room))

      pub acts : (m : ℕ) → r ≡ Ok m → m ≤ 255 → Acted s w l line' m (i + 1)
      acts m e few = record {
        few = few;
        at_most = omega (arith, more);
        so = λ end gs xs h. on end gs xs h (another end gs (a.so end gs xs h));
      }
        where
          on : (end : ℕ) (gs : List Global) (xs : List Named) → StandingBelow s w end (carried gs xs) → Another end gs → Left s w l line' m (i + 1) end gs
          on end gs xs h y =
              let j : suc (length w - reserve + i) ≡ length w - reserve + (i + 1) = omega arith in
              record {
                rest = y.rest;
                stand = subst (λ (j : ℕ). StandingAt s w end j (most - (i + 1)) y.rest) j y.stand;
                same = y.same ∙ one_then y.x y.rest (take len line) m line' (subst (λ (r : Passed). LeftAs r line' (passed_through (y.x ∷ []) (take len line))) e (left_so end gs xs h y));
              }

      pub act-long : r ≡ too-long → PassesAll s w l too-long line'
      unfolding left_by LeftAs
      act-long e (carried gs xs) h =
          let y = another h.end gs (a.so h.end gs xs h.below) in
          let z = one-long y.x y.rest (take len line) line' (subst (λ (r : Passed). LeftAs r line' (passed_through (y.x ∷ []) (take len line))) e (left_so h.end gs xs h.below y)) in
          subst (LeftAs too-long line') (sym (y.same ∙ z)) refl

      pub act-few : (m : ℕ) → r ≡ Ok m → ((c : Carried) × Standing s w c) → m ≤ 255
      act-few m e (carried gs xs, h) =
          let y = another h.end gs (a.so h.end gs xs h.below) in
          left-few (passed_through (y.x ∷ []) (take len line)) m line' (subst (λ (r : Passed). LeftAs r line' (passed_through (y.x ∷ []) (take len line))) e (left_so h.end gs xs h.below y))

-- the reserve is there
pub has-reserve : (s w : List ℕ) → ((c : Carried) × Standing s w c) → reserve ≤ length w
unfolding StandingBelow
has-reserve s w (carried gs xs, h) =
    let room = h.below.0 in
    omega (arith, room)
