-- Bytes as one number, and how many bytes from the first on are text.
use Rattle.std.specs.Prelude.{ℕ, suc, ◌+◌, ◌*◌, cond, List, [], ◌∷◌}
use Rattle.definitions.specs.Bytes.{is_text}

-- bytes as one number, the first the lowest
unfoldable pub word_of : List ℕ → ℕ
word_of [] = 0
word_of (b ∷ bs) = b + 256 * word_of bs

-- how many bytes stand before the first that is not text
unfoldable pub text_run : List ℕ → ℕ
text_run [] = 0
text_run (b ∷ bs) = cond (is_text b) (suc (text_run bs)) 0
