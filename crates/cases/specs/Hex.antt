-- Hexadecimal digits: two to a byte, the higher one first, 0 to 9 and a to f.
use Rattle.std.specs.Prelude.{cond, ◌&&◌, List, [], ◌∷◌, ℕ, ◌+◌, ◌-◌, ◌*◌, ◌/◌, ◌%◌, take, leb, ltb}

-- the value of a digit; 0 of any other byte
unfoldable pub digit_of : ℕ → ℕ
digit_of b = cond (leb 48 b && leb b 57) (b - 48) (cond (leb 97 b && leb b 102) (b - 87) 0)

-- the digit of a value below 16
unfoldable pub hex_digit : ℕ → ℕ
hex_digit d = cond (ltb d 10) (48 + d) (87 + d)

-- the bytes that digits stand for; a digit without its second is none
unfoldable pub from_hex : List ℕ → List ℕ
from_hex [] = []
from_hex (a ∷ []) = []
from_hex (a ∷ b ∷ s) = (16 * digit_of a + digit_of b) ∷ from_hex s

-- the digits of bytes
unfoldable pub to_hex : List ℕ → List ℕ
to_hex [] = []
to_hex (b ∷ s) = hex_digit (b / 16) ∷ hex_digit (b % 16) ∷ to_hex s

-- as many bytes as there is room for
unfoldable pub bytes_for : ℕ → List ℕ → List ℕ
bytes_for room s = take room (from_hex s)

-- the digits of as many bytes as there is room for
unfoldable pub digits_for : ℕ → List ℕ → List ℕ
digits_for room s = to_hex (take (room / 2) s)
