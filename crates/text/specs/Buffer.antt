-- Bytes written into a buffer.
use Rattle.std.specs.Prelude.{ℕ, ◌+◌, List, ◌++◌, length, take, drop}

-- `d` with `out` in it from `at` on; every other byte stays
unfoldable pub laid : List ℕ → ℕ → List ℕ → List ℕ
laid d at out = take at d ++ (out ++ drop (at + length out) d)
