-- The measures of a journal: lines and bytes of its sides, and whether what a view writes fits.
use Rattle.std.specs.Prelude.{cond, List, ℕ, ◌+◌, ◌*◌, ◌-◌, ◌≤◌, length, leb, Option, Some, None}
use Rattle.std.proofs.Math.Option.{Option as Maybe, none, some}
use Rattle.definitions.specs.Bytes.{lines_bytes}
use Rattle.definitions.specs.Journal.{Record, old_side, new_side}
use Rattle.journal.specs.Records.{old_span, new_span}
use Rattle.journal.specs.declared.records.Extent.{Extent}
use Rattle.journal.specs.declared.records.View.{View}
use Rattle.journal.specs.declared.records.View.TheVariants.{OldSide, NewSide, Listing}
use Rattle.journal.specs.declared.records.Span.{Span}
use Rattle.journal.specs.declared.measure.Measures.{Measures}

unfoldable pub span_lines : Option Span → ℕ
span_lines (Some s) = 1
span_lines None = 0

unfoldable pub span_length : Option Span → ℕ
span_length (Some s) = s.to - s.from
span_length None = 0

-- no measure is over `n`
pub record AtMost (m : Measures) (n : ℕ) : Type 0 where
  pub lines : m.lines ≤ n
  pub old : m.old ≤ n
  pub shown : m.shown ≤ n
  pub new : m.new ≤ n

-- the measures `m` with the record of an extent
unfoldable pub with_record : Measures → Extent → Measures
with_record m x =
    record {
      lines = m.lines + span_lines (old_span x.mark x);
      old = m.old + span_length (old_span x.mark x);
      shown = m.shown + span_lines (new_span x.mark x);
      new = m.new + span_length (new_span x.mark x);
    }

-- lines and bytes of the two sides
unfoldable pub measures_of : List Record → Measures
measures_of rs =
    record {
      lines = length (old_side rs);
      old = length (lines_bytes (old_side rs));
      shown = length (new_side rs);
      new = length (lines_bytes (new_side rs));
    }

unfoldable pub checked : Maybe (List Record) → Option Measures
checked none = None
checked (some rs) = Some (measures_of rs)

-- the length of what a view writes: in a listing seven bytes stand before each line
unfoldable pub length_by : View → Measures → ℕ
length_by OldSide m = m.old
length_by NewSide m = m.new
length_by Listing m = 7 * m.shown + m.new

unfoldable pub room_for : ℕ → ℕ → Option ℕ
room_for n size = cond (leb n size) (Some n) None
