-- The law of parts that change places. Assumes nothing.
use Rattle.std.proofs.Common.{◌≡◌, ℕ, List, ◌++◌, length, take_at, drop_at}
use Rattle.rotation.specs.Rotation.{rotated}

pub rotate-parts : (X Y : List ℕ) (k : ℕ) → length X ≡ k → rotated k (X ++ Y) ≡ Y ++ X
unfolding rotated
rotate-parts X Y k l = rw (take_at X Y k l, drop_at X Y k l)
