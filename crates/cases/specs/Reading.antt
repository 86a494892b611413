-- Bytes read into a buffer.
use Rattle.std.specs.Prelude.{ℕ, List, take, Result, MatchResult, Option}
use Rattle.std.specs.Io.KnownBytes.{Consumes}

-- the bytes that were read, where it is known what the reader has, lie at the buffer's front: as many as the answer says, and on an error some
abbrev pub ReadInto : {E : Type 0} → Result ℕ E → Option (List ℕ) → Option (List ℕ) → List ℕ → Type 0
ReadInto r old new buf = MatchResult r (λ n. Consumes old new (take n buf)) (λ e. (n : ℕ) × Consumes old new (take n buf))
