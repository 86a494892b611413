-- Lines of the script that are inserted, and where. Assumes nothing.
use Rattle.std.specs.Prelude.{◌≡◌, true, cond, List, [], ◌∷◌, map, ℕ, suc, ◌-◌, ◌≤◌, length, eqb}
use Rattle.std.proofs.Math.Option.{Option, none, some}
use Rattle.definitions.specs.Bytes.{lines_of, all_lines}
use Rattle.definitions.specs.Journal.{inserted, journal_length}
use Rattle.definitions.specs.Editor.{Target}
use Rattle.items.specs.Words.{part_of}
use Rattle.editor.specs.Shows.{target_numbered}

-- the place of the first LF; the length where there is none
unfoldable pub feed_place : List ℕ → ℕ
feed_place [] = 0
feed_place (b ∷ bs) = cond (eqb b 10) 0 (suc (feed_place bs))

-- the bytes of the script from `start` up to `end` are lines that a journal can have
pub record Insertable (s : List ℕ) (start end : ℕ) : Type 0 where
  pub inside : end ≤ length s
  pub small : length s ≤ 16384
  pub good : all_lines (lines_of (part_of s start end)) ≡ true

-- the journal bytes that these lines take as inserted records
abbrev pub room_of : List ℕ → ℕ → ℕ → ℕ
room_of s start end = journal_length (map inserted (lines_of (part_of s start end)))

-- I's line as a number: 0 is none, any other number is that of M's line, plus 1
unfoldable pub spot_of : ℕ → Option Target
spot_of n = cond (eqb n 0) none (some (target_numbered (n - 1)))
