-- What two journals leave from places on: a line further, and at the end. Assumes nothing.
use mathlib.Core.Path.{◌≡◌, refl, sym, ap, subst, ◌∙◌}
use mathlib.Core.Bool.{true, false≢true}
use mathlib.Core.List.{List, [], ◌++◌}
use Prim.Native.Nat.{ℕ}
use Rattle.std.proofs.Common.{Some, None, Ok, Err}
use Rattle.definitions.specs.Journal.{Record, old_side, new_side}
use Rattle.definitions.specs.Joining.{by_middle, eq_lines}
use Rattle.theorems.specs.JoinAnswers.{lines-equal, lines_are}
use Rattle.journal.proofs.Left.{some_is}
use Rattle.middle.specs.Middle.{Coming, next_at}
use Rattle.middle.specs.Leaving.{leaves, At, Stand}
use Rattle.middle.specs.declared.Places.{Places}
use Rattle.middle.specs.declared.Next.{Next}
use Rattle.middle.proofs.Steps.{Told, told}
use Rattle.seasons.specs.Joined.{Due, Further}

-- what comes next, told of `n` where it is `next_at`
pub told_is : (j k : List ℕ) (p : Places) (rs ss : List Record) → At j k p rs ss → (n : Coming) → n ≡ next_at j k p → Told j k p rs ss n
told_is j k p rs ss h n e = subst (Told j k p rs ss) (sym e) (told j k p rs ss h)

-- the records from places on are those that they are
pub at_same : (j k : List ℕ) (p : Places) (rs ss rs' ss' : List Record) → At j k p rs ss → At j k p rs' ss' → (rs ≡ rs') × (ss ≡ ss')
at_same j k p rs ss rs' ss' h i = (some_is rs rs' (sym h.first ∙ i.first), some_is ss ss' (sym h.second ∙ i.second))

-- no line comes next
abbrev pub Ends : Coming → Type 0
Ends (Ok (Some n)) = ⊥
Ends (Ok None) = Unit {0}
Ends (Err e) = Unit {0}

module _ (j k : List ℕ) (p : Places) where
  -- one list alone is due
  pub due-same : (w v : List Record) → Due j k p w → Due j k p v → w ≡ v
  due-same w v h i =
      let e = at_same j k p h.rs h.ss i.rs i.ss h.at i.at in
      h.joined ∙ ap (λ (z : List Record). by_middle z h.ss) e.0 ∙ ap (by_middle i.rs) e.1 ∙ sym i.joined

  agree-true : (w : List Record) (h : Due j k p w) → eq_lines (new_side h.rs) (old_side h.ss) ≡ true
  agree-true w h = ap (eq_lines (new_side h.rs)) (sym h.agree) ∙ lines-equal (new_side h.rs)

  -- a line comes next
  pub due-line : (w : List Record) → Due j k p w → (n : Next) → next_at j k p ≡ Ok (Some n)
      → (rest : List Record) × Due j k n.after rest × (w ≡ leaves j k n.line ++ rest) × Stand j k n.line × Further p n.after
  due-line w h n e =
      let s = told_is j k p h.rs h.ss h.at (Ok (Some n)) (sym e) in (
        by_middle s.rest s.rest₂,
        record {
          rs = s.rest;
          ss = s.rest₂;
          at = s.at;
          agree = lines_are (new_side s.rest) (old_side s.rest₂) (sym s.agree ∙ agree-true w h);
          joined = refl;
        },
        h.joined ∙ s.joined,
        s.stand,
        s.further,
      )

  -- none comes next
  pub due-none : (w : List Record) → Due j k p w → (o : Coming) → o ≡ next_at j k p → Ends o → w ≡ []
  unfolding by_middle
  due-none w h (Ok (Some n)) e ends = absurd ends
  due-none w h (Err x) e ends = absurd (false≢true (sym (told_is j k p h.rs h.ss h.at (Err x) e).1 ∙ agree-true w h))
  due-none w h (Ok None) e ends =
      let s = told_is j k p h.rs h.ss h.at (Ok None) e in
      h.joined ∙ ap (λ (z : List Record). by_middle z h.ss) s.0 ∙ s.1
