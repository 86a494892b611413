-- Whether a journal is arranged, record by record. Assumes nothing.
use Rattle.std.proofs.Common.{Some, None}
use denote.Enum.Bare.{sameb}
use Rattle.journal.specs.contracts.records.Mark.{the_type}
use mathlib.Core.Path.{◌≡◌, refl, sym, ap, ◌∙◌}
use mathlib.Core.Bool.{Bool, true, false, ◌&&◌, true≢false}
use mathlib.Core.Option.{some}
use mathlib.Core.List.{List, ◌∷◌}
use Prim.Native.Nat.{ℕ, ◌+◌}
use Rattle.definitions.specs.Bytes.{Line}
use Rattle.definitions.specs.Journal.{Record, records_of}
use Rattle.definitions.specs.Joining.{is_arranged_from, is_arranged}
use Rattle.journal.specs.Records.{record_at, record_of, record_in, Left}
use Rattle.journal.specs.declared.records.Mark.{Mark}
use Rattle.journal.specs.declared.records.Mark.TheVariants.{Kept, Changed, Deleted, Inserted}
use Rattle.journal.specs.declared.records.Extent.{Extent}
use Rattle.journal.proofs.Left.{some_is, left-start, left-none, left-next}
use Rattle.joinable.specs.Joinable.{is_left, came_after}

-- ---- one record

pub left-is : (m : Mark) → sameb the_type m Deleted ≡ is_left m
unfolding is_left
left-is Kept = refl
left-is Changed = refl
left-is Deleted = refl
left-is Inserted = refl

-- a `--` after a `++` of its stretch
order-breaks : (came : Bool) (m : Mark) (a b : Line) (rs : List Record) → (came && is_left m) ≡ true → is_arranged_from came (record_of m a b ∷ rs) ≡ false
unfolding is_arranged_from is_left record_of
order-breaks true Deleted a b rs h = refl
order-breaks true Kept a b rs h = absurd (true≢false (sym h))
order-breaks true Changed a b rs h = absurd (true≢false (sym h))
order-breaks true Inserted a b rs h = absurd (true≢false (sym h))
order-breaks false m a b rs h = absurd (true≢false (sym h))

-- any other record
order-keeps : (came : Bool) (m : Mark) (a b : Line) (rs : List Record) → (came && is_left m) ≡ false → is_arranged_from came (record_of m a b ∷ rs) ≡ is_arranged_from (came_after came m) rs
unfolding is_arranged_from is_left came_after record_of
order-keeps came Kept a b rs h = refl
order-keeps came Changed a b rs h = refl
order-keeps came Inserted a b rs h = refl
order-keeps true Deleted a b rs h = absurd (true≢false h)
order-keeps false Deleted a b rs h = refl

-- ---- all records

-- from `at` on records are left, and the journal is arranged if these are, where `came` says what has gone by
pub record Ordered (j : List ℕ) (at : ℕ) (came : Bool) : Type 0 where
  pub rs : List Record
  pub left : Left j at rs
  pub whole : (all : List Record) → records_of j ≡ some all → is_arranged all ≡ is_arranged_from came rs

module _ (j : List ℕ) where
  pub ordered-start : (rs : List Record) → records_of j ≡ some rs → Ordered j 0 false
  unfolding is_arranged
  ordered-start rs e = record {
    rs = rs;
    left = (left-start j rs e).0;
    whole = λ all k. ap is_arranged (some_is all rs (sym k ∙ e));
  }

  module _ (at : ℕ) (came : Bool) (s : Ordered j at came) where
    pub ordered_end : record_at j at ≡ None → (all : List Record) → records_of j ≡ some all → true ≡ is_arranged all
    unfolding is_arranged_from
    ordered_end h all k = sym (s.whole all k ∙ ap (is_arranged_from came) (left-none j at s.rs s.left h))

    module _ (x : Extent) (found : record_at j at ≡ Some x) where
      pub ordered-wrong : (came && is_left x.mark) ≡ true → (all : List Record) → records_of j ≡ some all → false ≡ is_arranged all
      unfolding record_in
      ordered-wrong h all k =
          let n = left-next j at s.rs x s.left found in
          sym (s.whole all k ∙ ap (is_arranged_from came) n.2 ∙ order-breaks came x.mark _ _ n.0 h)

      pub ordered-next : (came && is_left x.mark) ≡ false → (at' : ℕ) (came' : Bool) → at' ≡ x.end + 1 → came' ≡ came_after came x.mark → Ordered j at' came'
      unfolding record_in
      ordered-next h at' came' i e =
          let n = left-next j at s.rs x s.left found in
          rw (i, e) (record {
            rs = n.0;
            left = n.1;
            whole = λ all k. s.whole all k ∙ ap (is_arranged_from came) n.2 ∙ order-keeps came x.mark _ _ n.0 h;
          })
