-- A buffer with a gap of zeros, and what is left when bytes are moved over the gap. Assumes nothing.
use Rattle.std.specs.Prelude.{ℕ, ◌-◌, ◌≡◌, List, ◌++◌, take, drop, replicate}
use Rattle.std.proofs.Math.Seq.{paste}

-- g zeros
abbrev pub zeros : ℕ → List ℕ
zeros g = replicate g 0

-- the bytes of x from f up to b are all 0
unfoldable pub ZeroGap : ℕ → ℕ → List ℕ → Type 0
ZeroGap f b x = x ≡ take f x ++ (zeros (b - f) ++ drop b x)

-- x with the n bytes from b on moved down to f, over the gap from f to b
unfoldable pub moved_down : ℕ → ℕ → ℕ → List ℕ → List ℕ
moved_down f b n x = take f x ++ (take n (drop b x) ++ (zeros (b - f) ++ drop n (drop b x)))

-- x with the bytes from m up to f moved up to end at b, over the gap from f to b
unfoldable pub moved_up : ℕ → ℕ → ℕ → List ℕ → List ℕ
moved_up m f b x = take m (take f x) ++ (zeros (b - f) ++ (drop m (take f x) ++ drop b x))

-- x with zeros for the n bytes from `from` on
unfoldable pub cleared : ℕ → ℕ → List ℕ → List ℕ
cleared from n x = paste x from (zeros n) n
