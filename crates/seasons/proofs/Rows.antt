-- Stretches: what a line that has not both texts adds to one, and what arranging does. Assumes nothing.
use mathlib.Core.Path.{◌≡◌, refl, sym, ap, ◌∙◌}
use mathlib.Core.Bool.{true, false, false≢true}
use mathlib.Core.List.{List, [], ◌∷◌, ◌++◌}
use Prim.Native.Nat.{ℕ}
use Rattle.std.proofs.Common.{Option, Some, None}
use Rattle.definitions.specs.Bytes.{Line}
use Rattle.definitions.specs.Journal.{Record, kept, changed, deleted, inserted, change}
use Rattle.definitions.specs.Arranging.{arrange_from, arrange}
use Rattle.theorems.specs.RecordLaws.{by-change}
use Rattle.theorems.specs.Arranged.{IsApart, Stretch, gone_in, came_in}
use Rattle.theorems.specs.ArrangeLaws.{BeginsApart, arrange-apart, arrange-stretch, arrange-parts}
use Rattle.middle.specs.Leaving.{leaves_by, leaves}
use Rattle.journal.specs.declared.records.Span.{Span}
use Rattle.middle.specs.declared.Texts.{Texts}
use Rattle.seasons.specs.Joined.{both_there, is_both, stretch, after_stretch, of_kind}
use Rattle.seasons.specs.declared.write.Kind.{Kind}
use Rattle.seasons.specs.declared.write.Kind.TheVariants.{WhatLeft, WhatCame}

-- ---- a stretch and what follows it

pub stretch-whole : (w : List Record) → stretch w ++ after_stretch w ≡ w
unfolding stretch after_stretch
stretch-whole [] = refl
stretch-whole (kept l ∷ w) = refl
stretch-whole (changed o n ∷ w) = refl
stretch-whole (deleted l ∷ w) = ap {B = List Record} (λ z. deleted l ∷ z) (stretch-whole w)
stretch-whole (inserted l ∷ w) = ap {B = List Record} (λ z. inserted l ∷ z) (stretch-whole w)

is-stretch : (w : List Record) → Stretch (stretch w)
unfolding stretch
is-stretch [] = tt
is-stretch (kept l ∷ w) = tt
is-stretch (changed o n ∷ w) = tt
is-stretch (deleted l ∷ w) = (tt, is-stretch w)
is-stretch (inserted l ∷ w) = (tt, is-stretch w)

begins-apart : (w : List Record) → BeginsApart (after_stretch w)
unfolding after_stretch
begins-apart [] = tt
begins-apart (kept l ∷ w) = tt
begins-apart (changed o n ∷ w) = tt
begins-apart (deleted l ∷ w) = begins-apart w
begins-apart (inserted l ∷ w) = begins-apart w

pub stretch-arranged : (w : List Record) → arrange (stretch w) ≡ gone_in (stretch w) ++ came_in (stretch w)
stretch-arranged w = arrange-stretch (stretch w) (is-stretch w)

-- what left, what came, and the rest arranged
pub arrange-row : (w : List Record) → arrange w ≡ (gone_in (stretch w) ++ came_in (stretch w)) ++ arrange (after_stretch w)
arrange-row w =
    ap arrange (sym (stretch-whole w)) ∙ arrange-apart (stretch w) (after_stretch w) (begins-apart w)
    ∙ ap (λ (z : List Record). z ++ arrange (after_stretch w)) (stretch-arranged w)

-- a line with both texts is a kept or changed record
change-apart : (o n : Line) → IsApart (change o n)
change-apart o n = by-change IsApart o n (λ e. tt) (λ e. tt)

pub arrange-both : (o n : Line) (w : List Record) → arrange (change o n ∷ w) ≡ change o n ∷ arrange w
unfolding arrange arrange_from
arrange-both o n w = arrange-parts [] (change o n) w (change-apart o n)

-- ---- lines in a stretch

apart-ends : (r : Record) (w : List Record) → IsApart r → (stretch (r ∷ w) ≡ []) × (after_stretch (r ∷ w) ≡ r ∷ w)
unfolding stretch after_stretch
apart-ends (kept l) w h = (refl, refl)
apart-ends (changed o n) w h = (refl, refl)
apart-ends (deleted l) w h = absurd h
apart-ends (inserted l) w h = absurd h

module _ (j k : List ℕ) (w : List Record) where
  both-ends-by : (o n : Option Span) → both_there o n ≡ true → (stretch (leaves_by j k o n ++ w) ≡ []) × (after_stretch (leaves_by j k o n ++ w) ≡ leaves_by j k o n ++ w)
  unfolding both_there leaves_by
  both-ends-by (Some o) (Some n) h = apart-ends (change _ _) w (change-apart _ _)
  both-ends-by (Some o) None h = absurd (false≢true h)
  both-ends-by None n h = absurd (false≢true h)

  pub both_ends : (line : Texts) → is_both line ≡ true → (stretch (leaves j k line ++ w) ≡ []) × (after_stretch (leaves j k line ++ w) ≡ leaves j k line ++ w)
  unfolding is_both leaves
  both_ends line h = both-ends-by line.old line.new h

  line-more-by : (o n : Option Span) → both_there o n ≡ false
      → (stretch (leaves_by j k o n ++ w) ≡ leaves_by j k o n ++ stretch w) × (after_stretch (leaves_by j k o n ++ w) ≡ after_stretch w)
  unfolding both_there leaves_by stretch after_stretch
  line-more-by (Some o) (Some n) h = absurd (false≢true (sym h))
  line-more-by (Some o) None h = (refl, refl)
  line-more-by None (Some n) h = (refl, refl)
  line-more-by None None h = (refl, refl)

  pub line-more : (line : Texts) → is_both line ≡ false
      → (stretch (leaves j k line ++ w) ≡ leaves j k line ++ stretch w) × (after_stretch (leaves j k line ++ w) ≡ after_stretch w)
  unfolding is_both leaves
  line-more line h = line-more-by line.old line.new h

-- ---- records of one kind

gone-append : (rs ss : List Record) → gone_in (rs ++ ss) ≡ gone_in rs ++ gone_in ss
unfolding gone_in
gone-append [] ss = refl
gone-append (kept l ∷ rs) ss = gone-append rs ss
gone-append (changed o n ∷ rs) ss = gone-append rs ss
gone-append (deleted l ∷ rs) ss = ap {B = List Record} (λ z. deleted l ∷ z) (gone-append rs ss)
gone-append (inserted l ∷ rs) ss = gone-append rs ss

came-append : (rs ss : List Record) → came_in (rs ++ ss) ≡ came_in rs ++ came_in ss
unfolding came_in
came-append [] ss = refl
came-append (kept l ∷ rs) ss = came-append rs ss
came-append (changed o n ∷ rs) ss = came-append rs ss
came-append (deleted l ∷ rs) ss = came-append rs ss
came-append (inserted l ∷ rs) ss = ap {B = List Record} (λ z. inserted l ∷ z) (came-append rs ss)

pub kind-none : (kind : Kind) → of_kind kind [] ≡ []
unfolding of_kind gone_in came_in
kind-none WhatLeft = refl
kind-none WhatCame = refl

pub kind-append : (kind : Kind) (rs ss : List Record) → of_kind kind (rs ++ ss) ≡ of_kind kind rs ++ of_kind kind ss
unfolding of_kind
kind-append WhatLeft rs ss = gone-append rs ss
kind-append WhatCame rs ss = came-append rs ss
