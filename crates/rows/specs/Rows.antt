-- Where lines begin with a wanted byte.
use Rattle.std.specs.Prelude.{Bool, cond, ◌&&◌, List, [], ◌∷◌, ℕ, suc, eqb}

-- how many bytes stand before the first line whose first byte is wanted; all of them where there is none. `start`: a line begins here
unfoldable pub line_where : (ℕ → Bool) → Bool → List ℕ → ℕ
line_where wanted start [] = 0
line_where wanted start (b ∷ bs) = cond (start && wanted b) 0 (suc (line_where wanted (eqb b 10) bs))
