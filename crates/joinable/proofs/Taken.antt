-- What is taken, and the ways out of `joinable`. Assumes nothing.
use Rattle.std.proofs.Common.{Some, None}
use mathlib.Core.Path.{◌≡◌, refl, sym, ap}
use mathlib.Core.Bool.{Bool, true, false, cond, and-true, and-false, true≢false}
use mathlib.Core.Option.{Option as Maybe, none, some}
use mathlib.Core.List.{List}
use Prim.Native.Nat.{ℕ, ◌≤◌, ◌<◌}
use lib.ListN.{length}
use borrow.Author.Tests.{le-leb, lt-leb}
use Rattle.definitions.specs.Journal.{Record, new_side, records_of}
use Rattle.definitions.specs.Joining.{is_arranged, only_arranged, arranged_of}
use Rattle.journal.specs.Measuring.{measures_of, checked}
use Rattle.journal.specs.declared.measure.Measures.{Measures}
use Rattle.journal.proofs.Answers.{checked-none, checked-some}
use Rattle.joinable.specs.Joinable.{is_taken}

-- ---- what is taken

pub is-taken : (o : Maybe (List Record)) → is_taken o ≡ true → (rs : List Record) × (o ≡ some rs)
unfolding is_taken
is-taken none h = absurd (true≢false (sym h))
is-taken (some rs) h = (rs, refl)

pub not_taken : (o : Maybe (List Record)) → is_taken o ≡ false → o ≡ none
unfolding is_taken
not_taken none h = refl
not_taken (some rs) h = absurd (true≢false h)

-- ---- the ways out

taken-if : (t : Bool) (rs : List Record) → t ≡ is_taken (cond t (some rs) none)
unfolding is_taken
taken-if true rs = refl
taken-if false rs = refl

module _ (j : List ℕ) where
  pub taken_none : checked (records_of j) ≡ None → false ≡ is_taken (arranged_of j)
  unfolding arranged_of only_arranged is_taken
  taken_none h = rw (checked-none (records_of j) h)

  module _ (m : Measures) (h : checked (records_of j) ≡ Some m) where
    pub taken-records : (rs : List Record) × (records_of j ≡ some rs)
    taken-records = let f = checked-some (records_of j) m h in (f.0, f.1)

    shown : (rs : List Record) → records_of j ≡ some rs → m ≡ measures_of rs → m.shown ≡ length (new_side rs)
    unfolding measures_of
    shown rs e k = ap (λ (n : Measures). n.shown) k

    pub taken-many : 65535 < m.shown → false ≡ is_taken (arranged_of j)
    unfolding arranged_of only_arranged is_taken
    taken-many k =
        let f = checked-some (records_of j) m h in
        rw (f.1, lt-leb (length (new_side f.0)) 65535 (rw (shown f.0 f.1 f.2) at k), and-false (is_arranged f.0))

    pub taken-by : m.shown ≤ 65535 → (t : Bool) → ((rs : List Record) → records_of j ≡ some rs → t ≡ is_arranged rs) → t ≡ is_taken (arranged_of j)
    unfolding arranged_of only_arranged
    taken-by k t e =
        let f = checked-some (records_of j) m h in
        rw (f.1, le-leb (length (new_side f.0)) 65535 (rw (shown f.0 f.1 f.2) at k), ← e f.0 f.1, and-true t) (taken-if t f.0)
