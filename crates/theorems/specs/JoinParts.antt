-- Of what a joined journal, and one turned round, consists (document 02, wish 7): the lines that stay one record, and between them `--` and `++`.
use Rattle.std.specs.Prelude.{◌≡◌, take}
use Rattle.std.proofs.Math.Path.{refl, sym, ap}
use Rattle.std.proofs.Common.{◌∙◌, arith}
use mathlib.Core.List.{List, [], ◌∷◌, ◌++◌, map, map-append, tail, append_assoc}
use Rattle.std.proofs.Math.ListN.{length}
use Rattle.definitions.specs.Bytes.{Line}
use Rattle.definitions.specs.Journal.{Record, kept, changed, deleted, inserted, old_of, old_side, new_of, new_side, change, rewrite, erase}
use Rattle.definitions.specs.Arranging.{arrange}
use Rattle.definitions.specs.Joining.{at_middle, by_middle, join, turn_one, turn}
use Rattle.theorems.specs.Each.{each_append, each_map}
use Rattle.theorems.specs.Arranged.{IsApart, IsReplaced, Stretch, gone_in, came_in}
use Rattle.theorems.specs.RecordLaws.{by-change, LiveRecord, rewrite-again}
use Rattle.theorems.specs.ArrangeLaws.{then, arrange-new, arrange-parts, arrange-stretch}
use Rattle.theorems.specs.MiddleLaws.{live-middle, at-change, middle-old}
use Rattle.theorems.specs.JoinLaws.{join-new, turned_old, turned_new, turn-change}
use Rattle.theorems.specs.OneJournal.{NoneStays}

-- ---- lines that stay one record

change-apart : (old new : Line) → IsApart (change old new)
change-apart old new = by-change IsApart old new (λ e. tt) (λ e. tt)

-- `++` of the second journal before a middle line
at-inserted : (r : Record) (f : List Record → List Record) (ss ts : List Record) → old_side ss ≡ [] → at_middle r f (ss ++ ts) ≡ ss ++ at_middle r f ts
unfolding at_middle old_side old_of
at-inserted r f [] ts e = refl
at-inserted r f (kept l ∷ ss) ts e = absurd (omega (arith, ap length e))
at-inserted r f (changed o n ∷ ss) ts e = absurd (omega (arith, ap length e))
at-inserted r f (deleted l ∷ ss) ts e = absurd (omega (arith, ap length e))
at-inserted r f (inserted l ∷ ss) ts e = ap (then (inserted l)) (at-inserted r f ss ts e)

-- what stands before is gone through by itself; `m`: the middle line of `r`
module _ (r : Record) (m : Line) (rs ts us : List Record) (f g : List Record → List Record) (rest : (ss : List Record) → new_side rs ≡ old_side ss → g (ss ++ ts) ≡ f ss ++ us) where
  at-parts : (ss : List Record) → m ∷ new_side rs ≡ old_side ss → at_middle r g (ss ++ ts) ≡ at_middle r f ss ++ us
  unfolding at_middle old_side old_of
  at-parts [] e = absurd (omega (arith, ap length e))
  at-parts (kept l ∷ ss) e = ap (then (rewrite r l)) (rest ss (ap tail e))
  at-parts (changed o l ∷ ss) e = ap (then (rewrite r l)) (rest ss (ap tail e))
  at-parts (deleted l ∷ ss) e = ap (λ (z : List Record). erase r ++ z) (rest ss (ap tail e)) ∙ sym (append_assoc (erase r) (f ss) us)
  at-parts (inserted l ∷ ss) e = ap (then (inserted l)) (at-parts ss e)

module _ (r : Record) (live : LiveRecord r) (after ts : List Record) where
  middle-parts : (rs ss : List Record) → new_side rs ≡ old_side ss → by_middle (rs ++ (r ∷ after)) (ss ++ ts) ≡ by_middle rs ss ++ by_middle (r ∷ after) ts
  unfolding by_middle new_side new_of
  middle-parts [] ss e =
      live-middle r after (ss ++ ts) live ∙ at-inserted r (by_middle after) ss ts (sym e) ∙ ap (λ (z : List Record). ss ++ z) (sym (live-middle r after ts live))
  middle-parts (kept l ∷ rs) ss e = at-parts (kept l) l rs ts (by_middle (r ∷ after) ts) (by_middle rs) (by_middle (rs ++ (r ∷ after))) (middle-parts rs) ss e
  middle-parts (changed o n ∷ rs) ss e = at-parts (changed o n) n rs ts (by_middle (r ∷ after) ts) (by_middle rs) (by_middle (rs ++ (r ∷ after))) (middle-parts rs) ss e
  middle-parts (deleted l ∷ rs) ss e = ap (then (deleted l)) (middle-parts rs ss e)
  middle-parts (inserted l ∷ rs) ss e = at-parts (inserted l) l rs ts (by_middle (r ∷ after) ts) (by_middle rs) (by_middle (rs ++ (r ∷ after))) (middle-parts rs) ss e

change-live : (old new : Line) → LiveRecord (change old new)
change-live old new = by-change LiveRecord old new (λ e. tt) (λ e. tt)

both-stay : (old middle new : Line) (after after₂ : List Record) → by_middle (change old middle ∷ after) (change middle new ∷ after₂) ≡ change old new ∷ by_middle after after₂
unfolding rewrite
both-stay old middle new after after₂ =
    live-middle (change old middle) after (change middle new ∷ after₂) (change-live old middle) ∙ at-change (change old middle) (by_middle after) middle new after₂
    ∙ ap (λ r. r ∷ by_middle after after₂) (rewrite-again (kept old) middle new)

-- "A middle line kept or changed in both stays one record, kept or changed by its old and new text"
pub join-stays : (rs after ss after₂ : List Record) (old middle new : Line) → new_side rs ≡ old_side ss
    → join (rs ++ (change old middle ∷ after)) (ss ++ (change middle new ∷ after₂)) ≡ join rs ss ++ (change old new ∷ join after after₂)
unfolding join
join-stays rs after ss after₂ old middle new e =
    ap arrange (
    middle-parts (change old middle) (change-live old middle) after (change middle new ∷ after₂) rs ss e
    ∙ ap (λ (z : List Record). by_middle rs ss ++ z) (both-stay old middle new after after₂)
    )
    ∙ arrange-parts (by_middle rs ss) (change old new) (by_middle after after₂) (change-apart old new)

pub turn-stays : (rs after : List Record) (old new : Line) → turn (rs ++ (change old new ∷ after)) ≡ turn rs ++ (change new old ∷ turn after)
unfolding turn
turn-stays rs after old new =
    ap arrange (map-append turn_one rs (change old new ∷ after) ∙ ap (λ r. map turn_one rs ++ (r ∷ map turn_one after)) (turn-change old new))
    ∙ arrange-parts (map turn_one rs) (change new old) (map turn_one after) (change-apart new old)

-- ---- a stretch, by its sides

gone_old : (rs : List Record) → Stretch rs → gone_in rs ≡ map deleted (old_side rs)
unfolding gone_in old_side old_of
gone_old [] h = refl
gone_old (kept l ∷ rs) h = absurd h.0
gone_old (changed o n ∷ rs) h = absurd h.0
gone_old (deleted l ∷ rs) h = ap (then (deleted l)) (gone_old rs h.1)
gone_old (inserted l ∷ rs) h = gone_old rs h.1

came-new : (rs : List Record) → Stretch rs → came_in rs ≡ map inserted (new_side rs)
unfolding came_in new_side new_of
came-new [] h = refl
came-new (kept l ∷ rs) h = absurd h.0
came-new (changed o n ∷ rs) h = absurd h.0
came-new (deleted l ∷ rs) h = came-new rs h.1
came-new (inserted l ∷ rs) h = ap (then (inserted l)) (came-new rs h.1)

-- all its old lines, then all its new ones
by-sides : (rs : List Record) (old new : List Line) → Stretch rs → old_side rs ≡ old → new_side rs ≡ new → arrange rs ≡ map deleted old ++ map inserted new
by-sides rs old new h p q = rw (← p, ← q, ← gone_old rs h, ← came-new rs h) (arrange-stretch rs h)

-- ---- where no middle line stays

-- before both, a middle line's two records; or a record that has none
none_after : (r s : Record) (rs ss : List Record) → new_of r ≡ old_of s → NoneStays (r ∷ rs) (s ∷ ss) → NoneStays rs ss
unfolding new_side old_side
none_after r s rs ss h n = λ b a b₂ a₂ x y p q e.
    n (r ∷ b) a (s ∷ b₂) a₂ x y (ap (then r) p) (ap (then s) q) (ap (λ (z : List Line). z ++ new_side b) h ∙ ap (λ (z : List Line). old_of s ++ z) e)

none_first : (l : Line) (rs ss : List Record) → NoneStays (deleted l ∷ rs) ss → NoneStays rs ss
unfolding new_side new_of
none_first l rs ss n = λ b a b₂ a₂ x y p q e. n (deleted l ∷ b) a b₂ a₂ x y (ap (then (deleted l)) p) q e

none-second : (l : Line) (rs ss : List Record) → NoneStays rs (inserted l ∷ ss) → NoneStays rs ss
unfolding old_side old_of
none-second l rs ss n = λ b a b₂ a₂ x y p q e. n b a (inserted l ∷ b₂) a₂ x y p (ap (then (inserted l)) q) e

rewrite-replaced : (r : Record) (l : Line) → LiveRecord r → (IsApart r → ⊥) → IsReplaced (rewrite r l)
unfolding rewrite
rewrite-replaced (kept k) l live h = absurd (h tt)
rewrite-replaced (changed o n) l live h = absurd (h tt)
rewrite-replaced (deleted k) l live h = absurd live
rewrite-replaced (inserted k) l live h = tt

erase-stretch : (r : Record) → Stretch (erase r)
unfolding erase
erase-stretch (kept l) = (tt, tt)
erase-stretch (changed o n) = (tt, tt)
erase-stretch (deleted l) = (tt, tt)
erase-stretch (inserted l) = tt

-- no old line, so `++` alone
old-none : (ss : List Record) → old_side ss ≡ [] → Stretch ss
unfolding old_side old_of
old-none [] e = tt
old-none (kept l ∷ ss) e = absurd (omega (arith, ap length e))
old-none (changed o n ∷ ss) e = absurd (omega (arith, ap length e))
old-none (deleted l ∷ ss) e = absurd (omega (arith, ap length e))
old-none (inserted l ∷ ss) e = (tt, old-none ss e)

module _ (r : Record) (live : LiveRecord r) (m : Line) (has : new_of r ≡ m ∷ []) (rs : List Record) (f : List Record → List Record)
    (rest : (ss : List Record) → new_side rs ≡ old_side ss → NoneStays rs ss → Stretch (f ss)) where
  at-stretch : (ss : List Record) → m ∷ new_side rs ≡ old_side ss → NoneStays (r ∷ rs) ss → Stretch (at_middle r f ss)
  unfolding at_middle old_side old_of
  at-stretch [] e n = absurd (omega (arith, ap length e))
  at-stretch (kept l ∷ ss) e n =
      (rewrite-replaced r l live (λ p. n [] rs [] ss r (kept l) refl refl (unfold new_side in refl) p tt), rest ss (ap tail e) (none_after r (kept l) rs ss (has ∙ ap (take 1) e) n))
  at-stretch (changed o l ∷ ss) e n =
      (rewrite-replaced r l live (λ p. n [] rs [] ss r (changed o l) refl refl (unfold new_side in refl) p tt), rest ss (ap tail e) (none_after r (changed o l) rs ss (has ∙ ap (take 1) e) n))
  at-stretch (deleted l ∷ ss) e n = each_append IsReplaced (erase r) (f ss) (erase-stretch r) (rest ss (ap tail e) (none_after r (deleted l) rs ss (has ∙ ap (take 1) e) n))
  at-stretch (inserted l ∷ ss) e n = (tt, at-stretch ss e (none-second l (r ∷ rs) ss n))

middle-stretch : (rs ss : List Record) → new_side rs ≡ old_side ss → NoneStays rs ss → Stretch (by_middle rs ss)
unfolding by_middle new_side new_of
middle-stretch [] ss e n = old-none ss (sym e)
middle-stretch (kept l ∷ rs) ss e n = at-stretch (kept l) tt l refl rs (by_middle rs) (middle-stretch rs) ss e n
middle-stretch (changed o m ∷ rs) ss e n = at-stretch (changed o m) tt m refl rs (by_middle rs) (middle-stretch rs) ss e n
middle-stretch (deleted l ∷ rs) ss e n = (tt, middle-stretch rs ss e (none_first l rs ss n))
middle-stretch (inserted l ∷ rs) ss e n = at-stretch (inserted l) tt l refl rs (by_middle rs) (middle-stretch rs) ss e n

-- "every other line is `--` or `++`"
pub join-others : (rs ss : List Record) → new_side rs ≡ old_side ss → NoneStays rs ss → join rs ss ≡ map deleted (old_side rs) ++ map inserted (new_side ss)
unfolding join
join-others rs ss e n =
    by-sides (by_middle rs ss) (old_side rs) (new_side ss) (middle-stretch rs ss e n) (middle-old rs ss e) (sym (arrange-new (by_middle rs ss)) ∙ join-new rs ss e)

one-replaced : (r : Record) → IsReplaced r → IsReplaced (turn_one r)
unfolding turn_one
one-replaced (kept l) h = h
one-replaced (changed o n) h = h
one-replaced (deleted l) h = h
one-replaced (inserted l) h = h

pub turn-others : (rs : List Record) → Stretch rs → turn rs ≡ map deleted (new_side rs) ++ map inserted (old_side rs)
unfolding turn
turn-others rs h = by-sides (map turn_one rs) (new_side rs) (old_side rs) (each_map IsReplaced IsReplaced turn_one one-replaced rs h) (turned_old rs) (turned_new rs)
