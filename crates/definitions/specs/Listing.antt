-- The sides and the listing read out of a journal (document 01, "Listing and loader"; numbers 10 and 11), and the test program's last line.
use Rattle.std.specs.Prelude.{Bool, true, false, cond, List, [], ◌∷◌, ◌++◌, ℕ, zero, suc, ◌+◌, ◌/◌, ◌%◌, length, drop, leb}
use Rattle.std.proofs.Math.Option.{Option, none, some}
use Rattle.definitions.specs.Bytes.{Line, bytes, line_bytes, lines_bytes}
use Rattle.definitions.specs.Journal.{Record, kept, changed, deleted, inserted, old_side, new_side, records_of}

-- ---- numbers

-- the decimal digits of `n`, at most `k` of them, before `rest`
unfoldable pub digits_before : ℕ → ℕ → List ℕ → List ℕ
digits_before zero n rest = rest
digits_before (suc k) n rest = elim (leb n 9) [ true ↦ (48 + n) ∷ rest | false ↦ digits_before k (n / 10) ((48 + n % 10) ∷ rest) ]

-- the numbers written here have at most ten digits
unfoldable pub decimal : ℕ → List ℕ
decimal n = digits_before 10 n []

-- "right-aligned in five"
unfoldable pub in_five : ℕ → List ℕ
in_five n =
    cond (leb n 9) (bytes "    ") (cond (leb n 99) (bytes "   ") (cond (leb n 999) (bytes "  ") (cond (leb n 9999) (bytes " ") []))) ++ decimal n

-- ---- the listing

-- the mark `b`, or a space
unfoldable pub mark_if : Bool → ℕ → ℕ
mark_if true b = b
mark_if false b = 32

-- an original line: number, `-` (45) if its source predecessor is deleted, `+` (43) if it is changed
unfoldable pub listed_line : ℕ → Bool → Bool → Line → List ℕ
listed_line n gap new l = in_five n ++ (mark_if gap 45 ∷ mark_if new 43 ∷ line_bytes l)

-- the listing of records after `n` source lines; `gap`: the last of them is deleted, whatever is inserted after it (R43)
unfoldable pub listing_from : ℕ → Bool → List Record → List ℕ
listing_from n gap [] = []
listing_from n gap (kept l ∷ rs) = listed_line (suc n) gap false l ++ listing_from (suc n) false rs
listing_from n gap (changed o l ∷ rs) = listed_line (suc n) gap true l ++ listing_from (suc n) false rs
listing_from n gap (deleted l ∷ rs) = listing_from (suc n) true rs
listing_from n gap (inserted l ∷ rs) = bytes " ****  " ++ (line_bytes l ++ listing_from n gap rs)

unfoldable pub listing : List Record → List ℕ
listing rs = listing_from 0 false rs

-- ---- what a reader of a journal answers

-- number, written length, and the destination's bytes afterwards
pub data Written : Type 0 where
  written : ℕ → ℕ → List ℕ → Written

unfoldable pub number_of : Written → ℕ
number_of (written n len dest) = n

unfoldable pub length_of : Written → ℕ
length_of (written n len dest) = len

unfoldable pub bytes_of : Written → List ℕ
bytes_of (written n len dest) = dest

-- `out` written into `dest`: "bytes past the written length are untouched"; 10 where it is too long (R42: just the length is enough)
unfoldable pub written_to : List ℕ → List ℕ → Written
written_to dest out = cond (leb (length out) (length dest)) (written 0 (length out) (out ++ drop (length out) dest)) (written 10 0 dest)

-- "Sides and listings check 11, then 10": `f` says what is written of the records
unfoldable pub read_out : (List Record → List ℕ) → Option (List Record) → List ℕ → Written
read_out f none dest = written 11 0 dest
read_out f (some rs) dest = written_to dest (f rs)

-- the old side, the new side and the listing of the journal `j`, written into `dest`
unfoldable pub old_side_to : List ℕ → List ℕ → Written
old_side_to j dest = read_out (λ rs. lines_bytes (old_side rs)) (records_of j) dest

unfoldable pub new_side_to : List ℕ → List ℕ → Written
new_side_to j dest = read_out (λ rs. lines_bytes (new_side rs)) (records_of j) dest

unfoldable pub listing_to : List ℕ → List ℕ → Written
listing_to j dest = read_out listing (records_of j) dest

-- "then a line as in K1 of end number, steps, furthest and place"
unfoldable pub end_line : ℕ → ℕ → ℕ → ℕ → List ℕ
end_line number steps furthest place =
    bytes "end " ++ (decimal number ++ (bytes " steps " ++ (decimal steps ++ (bytes " read " ++ (decimal furthest ++ (bytes " at " ++ (decimal place ++ (10 ∷ []))))))))
