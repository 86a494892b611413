-- A journal's bytes gone through record by record.
use Rattle.std.specs.Prelude.{◌≡◌, ◌+◌, Option, Some, None}
use Rattle.journal.specs.Records.{record_at}
use Rattle.journal.specs.declared.records.Extent.{Extent}
use Rattle.journal.specs.declared.records.Records.{Records}

-- the next record is the one at the place, and the place goes on to its end; where there is none, it stays
abbrev pub Walks : Records → Option Extent → Records → Type 0
Walks s None t = (record_at s.j.now s.at ≡ None) × (t ≡ s)
Walks s (Some x) t = (record_at s.j.now s.at ≡ Some x) × (t.j ≡ s.j) × (t.at ≡ x.end + 1)
