-- The test whether a journal is arranged (document 02, wish 7): it holds of those that arranging leaves as they are, and of no others.
use Rattle.std.specs.Prelude.{◌≡◌, refl, true, false, List, [], ◌∷◌}
use Rattle.std.proofs.Common.{ap, ◌∙◌}
use Rattle.std.proofs.lemmas.Bool.{false≢true}
use Rattle.definitions.specs.Bytes.{Line}
use Rattle.definitions.specs.Journal.{Record, kept, changed, deleted, inserted}
use Rattle.definitions.specs.Arranging.{arrange_from, arrange}
use Rattle.definitions.specs.Joining.{is_arranged_from, is_arranged}
use Rattle.theorems.specs.ArrangeLaws.{then, behind, arrange-inserted}

-- what passes after a `++` passes at a stretch's beginning too
passes-first : (rs : List Record) → is_arranged_from true rs ≡ true → is_arranged_from false rs ≡ true
unfolding is_arranged_from
passes-first [] h = refl
passes-first (kept l ∷ rs) h = h
passes-first (changed o n ∷ rs) h = h
passes-first (deleted l ∷ rs) h = absurd (false≢true h)
passes-first (inserted l ∷ rs) h = h

-- and a `++` stays before it
behind-stays : (l : Line) (rs : List Record) → is_arranged_from true rs ≡ true → behind l rs ≡ inserted l ∷ rs
unfolding is_arranged_from behind
behind-stays l [] h = refl
behind-stays l (kept k ∷ rs) h = refl
behind-stays l (changed o n ∷ rs) h = refl
behind-stays l (deleted k ∷ rs) h = absurd (false≢true h)
behind-stays l (inserted k ∷ rs) h = refl

pub arranged-same : (rs : List Record) → is_arranged rs ≡ true → arrange rs ≡ rs
unfolding is_arranged is_arranged_from arrange arrange_from
arranged-same [] h = refl
arranged-same (kept l ∷ rs) h = ap (then (kept l)) (arranged-same rs h)
arranged-same (changed o n ∷ rs) h = ap (then (changed o n)) (arranged-same rs h)
arranged-same (deleted l ∷ rs) h = ap (then (deleted l)) (arranged-same rs h)
arranged-same (inserted l ∷ rs) h = arrange-inserted l rs ∙ ap (behind l) (arranged-same rs (passes-first rs h)) ∙ behind-stays l rs h

behind-passes : (l : Line) (rs : List Record) → is_arranged rs ≡ true → is_arranged (behind l rs) ≡ true
unfolding is_arranged is_arranged_from behind
behind-passes l [] h = refl
behind-passes l (kept k ∷ rs) h = h
behind-passes l (changed o n ∷ rs) h = h
behind-passes l (deleted k ∷ rs) h = behind-passes l rs h
behind-passes l (inserted k ∷ rs) h = h

-- what arranging gives is arranged
pub arrange-arranged : (rs : List Record) → is_arranged (arrange rs) ≡ true
unfolding is_arranged is_arranged_from arrange arrange_from
arrange-arranged [] = refl
arrange-arranged (kept l ∷ rs) = arrange-arranged rs
arrange-arranged (changed o n ∷ rs) = arrange-arranged rs
arrange-arranged (deleted l ∷ rs) = arrange-arranged rs
arrange-arranged (inserted l ∷ rs) = ap is_arranged (arrange-inserted l rs) ∙ behind-passes l (arrange rs) (arrange-arranged rs)

pub same-arranged : (rs : List Record) → arrange rs ≡ rs → is_arranged rs ≡ true
same-arranged rs e = rw e at (arrange-arranged rs)
