-- Search expressions (document 01, "Script text" and "Matching"; document 02, wish 4; manual 3.3.7, 3.3.10).
use Rattle.std.specs.Prelude.{Bool, ◌&&◌, ◌||◌, ℕ}
use Rattle.definitions.specs.Bytes.{Line}
use Rattle.definitions.specs.Matching.{Qualified, is_negated, matches}

-- one qualified string, or two parts joined by & or by |
pub data Search : Type 0 where
  one : Qualified → Search
  both either : Search → Search → Search

-- the search on a line, with the window from p, where the bytes of `isWord` count for W
unfoldable pub holds : (ℕ → Bool) → Search → ℕ → Line → Bool
holds isWord (one q) p l = matches isWord q p l
holds isWord (both a b) p l = holds isWord a p l && holds isWord b p l
holds isWord (either a b) p l = holds isWord a p l || holds isWord b p l

-- the search at EOF: a qualified string is true there if it has N, whatever else it says, and false if not (document 02, wish 4; W4.1; manual 3.3.10)
unfoldable pub holds_at_eof : Search → Bool
holds_at_eof (one q) = is_negated q
holds_at_eof (both a b) = holds_at_eof a && holds_at_eof b
holds_at_eof (either a b) = holds_at_eof a || holds_at_eof b
