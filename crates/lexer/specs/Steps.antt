-- One byte more: what the reader's loops do with it.
use Rattle.std.specs.Prelude.{ℕ, zero, suc, ◌+◌, ◌*◌}
use Rattle.definitions.specs.Bytes.{upper}

-- the packed letters `n` with one more, where so many more count
unfoldable pub with_letter : ℕ → ℕ → ℕ → ℕ
with_letter zero n b = n
with_letter (suc left) n b = n * 256 + upper b

-- the packed letters are below this, where so many of four are left
unfoldable pub limit : ℕ → ℕ
limit zero = 4294967296
limit (suc zero) = 16777216
limit (suc (suc zero)) = 65536
limit (suc (suc (suc zero))) = 256
limit (suc (suc (suc (suc zero)))) = 1
limit (suc (suc (suc (suc (suc left))))) = 0
