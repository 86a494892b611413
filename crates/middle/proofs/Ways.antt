-- The ways out of finding what comes next of two journals. Assumes nothing.
use Rattle.std.proofs.Common.{Option, Some, None, Ok, Err}
use mathlib.Core.Path.{◌≡◌}
use mathlib.Core.Bool.{true, false}
use mathlib.Core.List.{List}
use Prim.Native.Nat.{ℕ, ◌+◌, ◌-◌, ◌≤◌, ◌<◌}
use lib.ListN.{length}
use Rattle.definitions.specs.Bytes.{eq_line}
use Rattle.text.specs.Lines.{part}
use Rattle.journal.specs.Records.{record_at, InOrder, old_span, new_span}
use Rattle.journal.specs.declared.records.Extent.{Extent}
use Rattle.journal.specs.declared.records.Span.{Span}
use Rattle.journal.specs.declared.Refusal.TheVariants.{Differ}
use Rattle.journal.proofs.Here.{here, in_order}
use Rattle.journal.proofs.Writing.{old-within, new-within}
use Rattle.middle.specs.Middle.{texts_of, same_spans, met_by}

-- ---- a record found

pub ordered : (j : List ℕ) (at : ℕ) (x : Extent) → record_at j at ≡ Some x → length j < 18446744073709551616 → InOrder x
ordered j at x h s = in_order j at x (here j at x h) s

-- its line on a side, where it has one, is not empty with its LF and lies within the journal
module _ (j : List ℕ) (x : Extent) (h : record_at j x.at ≡ Some x) (s : Span) where
  pub old-some : old_span x.mark x ≡ Some s → (s.from < s.to) × (s.to ≤ length j)
  old-some e = old-within j x (here j x.at x h) x.mark s e

  pub new-some : new_span x.mark x ≡ Some s → (s.from < s.to) × (s.to ≤ length j)
  new-some e = let w = here j x.at x h in new-within j x w x.mark w.last s e

-- ---- whether two spans have the same line

module _ (j k : List ℕ) (s t : Option Span) where
  pub none_first : s ≡ None → false ≡ same_spans j k s t
  unfolding same_spans
  none_first e = rw e

  pub none-second : (a : Span) → s ≡ Some a → t ≡ None → false ≡ same_spans j k s t
  unfolding same_spans
  none-second a e f = rw (e, f)

  pub both-there : (a b : Span) → s ≡ Some a → t ≡ Some b → eq_line (part a.from (a.to - 1) j) (part b.from (b.to - 1) k) ≡ same_spans j k s t
  unfolding same_spans
  both-there a b e f = rw (e, f)

-- ---- a middle line, by its record in each journal

module _ (j k : List ℕ) (x y : Extent) where
  pub met-not : same_spans j k (new_span x.mark x) (old_span y.mark y) ≡ false → Err Differ ≡ met_by j k x y
  unfolding met_by
  met-not e = rw e

  pub met-line : (o n : Option Span) → o ≡ old_span x.mark x → n ≡ new_span y.mark y → same_spans j k (new_span x.mark x) (old_span y.mark y) ≡ true
      → Ok (Some (record { line = texts_of o n; after = record { first = x.end + 1; second = y.end + 1 } })) ≡ met_by j k x y
  unfolding met_by
  met-line o n a b e = rw (e, a, b)
