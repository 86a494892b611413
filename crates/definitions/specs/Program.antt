-- What the test program prints (document 01, "Listing and loader").
use Rattle.std.specs.Prelude.{cond, List, [], ◌++◌, ℕ, length, leb}
use Rattle.definitions.specs.Listing.{listing, end_line}
use Rattle.definitions.specs.Run.{Answer, answer, refusal, work_length, run_answer}

-- "prints the listing (none if refused or over 65,536 bytes), then a line as in K1 of end number, steps, furthest and place" (R44)
unfoldable pub printed : Answer → List ℕ
printed (answer n steps f at j) = cond (leb (length (listing j)) 65536) (listing j) [] ++ end_line n steps f at
printed (refusal n at) = end_line n 0 0 at

-- "runs with the largest budget and a 65,536-byte journal buffer"
unfoldable pub program_prints : List ℕ → List ℕ → List ℕ
program_prints old edits = printed (run_answer old edits 4294967295 (work_length edits) 65536)
