-- A line passed through the standing globals (document 02, wish 2; W2.6, W2.7).
use Rattle.std.specs.Prelude.{List, [], ◌∷◌, ◌++◌, true, false, ℕ, zero, suc, ◌-◌, length, ltb}
use Rattle.definitions.specs.Bytes.{Line}
use Rattle.definitions.specs.Matching.{stands_first}
use Rattle.definitions.specs.Given.{Global, global, Carried, carried}
use Rattle.definitions.specs.Editor.{n25, Got, got, stop}

-- "on all occurrences in the text .., left to right": `put` for each `s` in the line, byte for byte, not overlapping; what is put in is not looked at
-- again (W2.6). The next `skip` bytes still belong to the last occurrence.
unfoldable pub put_for_each : Line → Line → ℕ → Line → Line
put_for_each s put skip [] = []
put_for_each s put (suc skip) (b ∷ l) = put_for_each s put skip l
put_for_each s put zero (b ∷ l) =
    elim (stands_first false s (b ∷ l)) [ true ↦ put ++ put_for_each s put (length s - 1) l | false ↦ b ∷ put_for_each s put zero l ]

-- "They act in the order given", each on "the text as it then stands"; "25 is tested after each" (W2.7)
unfoldable pub passed_through : List Global → Line → Got Line
passed_through [] l = got l
passed_through (global s put ∷ gs) l =
    elim (ltb 255 (length (put_for_each s put 0 l))) [ true ↦ stop n25 | false ↦ passed_through gs (put_for_each s put 0 l) ]

-- a line as what is carried leaves it
unfoldable pub left_by : Carried → Line → Got Line
left_by (carried gs xs) l = passed_through gs l
