-- The stretch that stands first in an arranged journal, turned round. Assumes nothing.
use mathlib.Core.Path.{◌≡◌, refl, sym, ap, ◌∙◌}
use mathlib.Core.Bool.{true, true≢false}
use mathlib.Core.List.{List, [], ◌∷◌, ◌++◌, map, append_assoc, append-nil}
use Prim.Native.Nat.{ℕ}
use Rattle.definitions.specs.Journal.{Record, kept, changed, deleted, inserted, record_bytes, journal_bytes}
use Rattle.definitions.specs.Arranging.{arrange_from, arrange}
use Rattle.definitions.specs.Joining.{turn_one, turn, is_arranged_from, is_arranged}
use Rattle.theorems.specs.Arranged.{IsApart}
use Rattle.theorems.specs.ArrangeLaws.{BeginsApart}
use Rattle.theorems.proofs.Fits.{journal-append}
use Rattle.turning.specs.Rows.{first_byte, row_of, after_row, gone_first, came_next, after_stretch, stretch_turned}
use Rattle.turning.proofs.Rows.{gone-turned, came-turned}

-- ---- what follows a stretch

-- after its `++` only
came-rest : (rs : List Record) → is_arranged_from true rs ≡ true → BeginsApart (after_row 43 rs) × (is_arranged (after_row 43 rs) ≡ true)
unfolding after_row first_byte is_arranged_from is_arranged
came-rest [] h = (tt, refl)
came-rest (kept l ∷ rs) h = (tt, h)
came-rest (changed o n ∷ rs) h = (tt, h)
came-rest (deleted l ∷ rs) h = absurd (true≢false (sym h))
came-rest (inserted l ∷ rs) h = came-rest rs h

-- a kept or changed record, or none; and that is arranged
pub stretch-rest : (rs : List Record) → is_arranged rs ≡ true → BeginsApart (after_stretch rs) × (is_arranged (after_stretch rs) ≡ true)
unfolding after_row first_byte is_arranged_from is_arranged
stretch-rest [] h = (tt, refl)
stretch-rest (kept l ∷ rs) h = (tt, h)
stretch-rest (changed o n ∷ rs) h = (tt, h)
stretch-rest (deleted l ∷ rs) h = stretch-rest rs h
stretch-rest (inserted l ∷ rs) h = came-rest rs h

-- ---- turned round

gone_held : (held rs : List Record) → arrange_from held (map turn_one rs) ≡ arrange_from (held ++ map turn_one (row_of 45 rs)) (map turn_one (after_row 45 rs))
unfolding arrange_from turn_one row_of after_row first_byte
gone_held held [] = ap (λ (z : List Record). arrange_from z []) (sym (append-nil held))
gone_held held (kept l ∷ rs) = ap (λ (z : List Record). arrange_from z (map turn_one (kept l ∷ rs))) (sym (append-nil held))
gone_held held (changed o n ∷ rs) = ap (λ (z : List Record). arrange_from z (map turn_one (changed o n ∷ rs))) (sym (append-nil held))
gone_held held (deleted l ∷ rs) =
    gone_held (held ++ (inserted l ∷ [])) rs
    ∙ ap (λ (z : List Record). arrange_from z (map turn_one (after_row 45 rs))) (append_assoc held (inserted l ∷ []) (map turn_one (row_of 45 rs)))
gone_held held (inserted l ∷ rs) = ap (λ (z : List Record). arrange_from z (map turn_one (inserted l ∷ rs))) (sym (append-nil held))

came-leaves : (held rs : List Record) → BeginsApart (after_row 43 rs) → arrange_from held (map turn_one rs) ≡ map turn_one (row_of 43 rs) ++ (held ++ turn (after_row 43 rs))
unfolding arrange_from arrange turn turn_one row_of after_row first_byte
came-leaves held [] b = sym (append-nil held)
came-leaves held (kept l ∷ rs) b = refl
came-leaves held (changed o n ∷ rs) b = refl
came-leaves held (deleted l ∷ rs) b = absurd b
came-leaves held (inserted l ∷ rs) b = ap (λ (z : List Record). deleted l ∷ z) (came-leaves held rs b)

-- what came leaves, and stands first; then what left comes
turn-stretch : (rs : List Record) → is_arranged rs ≡ true → turn rs ≡ map turn_one (came_next rs) ++ (map turn_one (gone_first rs) ++ turn (after_stretch rs))
unfolding turn arrange
turn-stretch rs h = gone_held [] rs ∙ came-leaves (map turn_one (gone_first rs)) (after_row 45 rs) (stretch-rest rs h).0

pub stretch-bytes : (rs : List Record) → is_arranged rs ≡ true → journal_bytes (turn rs) ≡ stretch_turned rs ++ journal_bytes (turn (after_stretch rs))
stretch-bytes rs h =
    let gs : List Record = map turn_one (gone_first rs) in
    let cs : List Record = map turn_one (came_next rs) in
    let rest : List Record = turn (after_stretch rs) in
    let is : journal_bytes cs ++ journal_bytes gs ≡ stretch_turned rs = rw (came-turned (after_row 45 rs), gone-turned rs) in
    ap journal_bytes (turn-stretch rs h) ∙ journal-append cs (gs ++ rest) ∙ ap (λ (z : List ℕ). journal_bytes cs ++ z) (journal-append gs rest)
    ∙ sym (append_assoc (journal_bytes cs) (journal_bytes gs) (journal_bytes rest)) ∙ ap (λ (z : List ℕ). z ++ journal_bytes rest) is

-- a kept or changed record stands by itself
pub one-bytes : (r : Record) (rs : List Record) → IsApart r → journal_bytes (turn (r ∷ rs)) ≡ record_bytes (turn_one r) ++ journal_bytes (turn rs)
unfolding turn arrange arrange_from turn_one journal_bytes
one-bytes (kept l) rs h = refl
one-bytes (changed o n) rs h = refl
one-bytes (deleted l) rs h = absurd h
one-bytes (inserted l) rs h = absurd h

pub one-rest : (r : Record) (rs : List Record) → IsApart r → is_arranged (r ∷ rs) ≡ true → is_arranged rs ≡ true
unfolding is_arranged is_arranged_from
one-rest (kept l) rs h k = k
one-rest (changed o n) rs h k = k
one-rest (deleted l) rs h k = absurd h
one-rest (inserted l) rs h k = absurd h
