-- What reading one line comes to, whatever globals stand: it is kept, it is changed, or 25 or 26 stops it, and then it is kept (document 02, wish 2).
use Rattle.std.specs.Prelude.{◌≡◌, refl, Bool, true, false, ◌⊎◌, List, [], ◌∷◌, length, ltb}
use Rattle.std.proofs.Common.{sym, inl, inr}
use Rattle.std.proofs.Math.Path.{subst}
use Rattle.definitions.specs.Bytes.{Line, eq_line}
use Rattle.definitions.specs.Journal.{kept, changed}
use Rattle.definitions.specs.Tape.{Tape, unread}
use Rattle.definitions.specs.Given.{Given, Global, global, Carried, carried}
use Rattle.definitions.specs.Editor.{Ed, journal, Stop, n25, n26, Got, got, stop}
use Rattle.definitions.specs.Globals.{put_for_each, passed_through, left_by}
use Rattle.definitions.specs.Reading.{Ran, gave, stopped, seen, has_room, read_line}
use Rattle.theorems.specs.Each.{Each}
use Rattle.theorems.specs.Reading.{At}
use Rattle.theorems.specs.ReadTo.{as-comes}

-- what holds of each global that stands
abbrev pub CarriedOf : (Global → Type 0) → Carried → Type 0
CarriedOf G (carried gs xs) = Each G gs

-- the globals stop with 25 only
abbrev StopIs25 : Got Line → Type 0
StopIs25 (got new) = Unit {0}
StopIs25 (stop n) = n ≡ n25

passed-25 : (gs : List Global) (l : Line) → StopIs25 (passed_through gs l)
unfolding passed_through
passed-25 [] l = tt
passed-25 (global s put ∷ gs) l = by (ltb 255 (length (put_for_each s put 0 l))) (passed-25 gs (put_for_each s put 0 l))
  where
    by : (b : Bool) → StopIs25 (passed_through gs (put_for_each s put 0 l)) → StopIs25 (elim b [ true ↦ stop n25 | false ↦ passed_through gs (put_for_each s put 0 l) ])
    by true h = refl
    by false h = h

pub left-25 : (c : Carried) (l : Line) (n : Stop) → left_by c l ≡ stop n → n ≡ n25
unfolding left_by
left-25 (carried gs xs) l n q = rw q at (passed-25 gs l)

module _ (P : Ran (Unit {0}) → Tape → Type 0) (g : Given) (c : Carried) (e : Ed) (l : Line) (ls : List Line) where
  -- what is asked where the line is changed to `new`
  abbrev pub OnChanged : Type 0
  OnChanged = (new : Line) → left_by c l ≡ got new → eq_line l new ≡ false → has_room g (journal (seen (changed l new) e) (unread ls)) ≡ true
      → P (gave tt (seen (changed l new) e)) (unread ls)

  -- THE LAW OF ONE LINE
  pub line-comes-to : P (gave tt (seen (kept l) e)) (unread ls) → OnChanged → P (stopped n25 (seen (kept l) e)) (unread ls) → P (stopped n26 (seen (kept l) e)) (unread ls)
      → At P (read_line g c e (unread (l ∷ ls)))
  unfolding read_line
  line-comes-to same other long full = as-comes P g l e (left_by c l) (unread ls) (λ new q d. same) other why
    where
      why : (n : Stop) → (left_by c l ≡ stop n) ⊎ (n ≡ n26) → P (stopped n (seen (kept l) e)) (unread ls)
      why n (inl q) = subst (λ (m : Stop). P (stopped m (seen (kept l) e)) (unread ls)) (sym (left-25 c l n q)) long
      why n (inr q) = subst (λ (m : Stop). P (stopped m (seen (kept l) e)) (unread ls)) (sym q) full
