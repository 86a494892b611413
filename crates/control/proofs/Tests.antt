-- What the test of an opener asks. Assumes nothing.
use mathlib.Core.Path.{◌≡◌, ◌∙◌}
use mathlib.Core.List.{List}
use Prim.Native.Nat.{ℕ}
use native.Mathlib.Omega.{arith}
use Rattle.definitions.specs.Search.{Search}
use Rattle.definitions.specs.Edit.{Test, is, is_not, is_eof, test}
use Rattle.definitions.specs.Control.{branch, loop}
use Rattle.items.specs.Kinds.{if_kind, unless_kind, while_kind, until_kind, if_eof_kind}
use Rattle.items.specs.Words.{head, kind_at, SearchAt, OpenerAt}
use Rattle.items.proofs.OpenerWords.{kind-word}
use Rattle.control.specs.Shown.{SearchOf, Asks, holds, holds_not, at_eof, test_by}
use Rattle.control.specs.declared.Wanted.{Wanted}

module _ (s w : List ℕ) (k m place : ℕ) where
  pub search-of : (first : ℕ) (se : Search) → SearchAt s w k m first se → SearchOf s w k se
  unfolding SearchAt SearchOf
  search-of first se h = rw h.1 h.2

  -- what the test asks
  module _ (x : Wanted) (item : x.item ≡ k) where
    searched : (first : ℕ) (se : Search) → SearchAt s w k m first se → SearchOf s w x.item se
    searched first se h = rw item (search-of first se h)

    pub asks-branch : {end : ℕ} (c : Test) → x.what ≡ test_by (kind_at w k) → OpenerAt s w k m place (branch c) → Asks s w end x (test c)
    unfolding OpenerAt SearchAt test_by
    asks-branch (is se) e h = holds se (e ∙ rw (kind-word s w k m place if_kind (omega arith) h.0)) (searched (head if_kind place) se h)
    asks-branch (is_not se) e h = holds_not se (e ∙ rw (kind-word s w k m place unless_kind (omega arith) h.0)) (searched (head unless_kind place) se h)
    asks-branch is_eof e h = at_eof (e ∙ rw (kind-word s w k m place if_eof_kind (omega arith) h.1))

    pub asks-loop : {end : ℕ} (c : Test) → x.what ≡ test_by (kind_at w k) → OpenerAt s w k m place (loop c) → Asks s w end x (test c)
    unfolding OpenerAt SearchAt test_by
    asks-loop (is se) e h = holds se (e ∙ rw (kind-word s w k m place while_kind (omega arith) h.0)) (searched (head while_kind place) se h)
    asks-loop (is_not se) e h = holds_not se (e ∙ rw (kind-word s w k m place until_kind (omega arith) h.0)) (searched (head until_kind place) se h)
    asks-loop is_eof e h = absurd h
