-- What a search can ask of EOF (document 02, wish 4). The empty string is on every line: so `//` is true on each line and false at EOF, and `N//` is true at EOF alone.
-- Assumes nothing.
use Rattle.std.specs.Prelude.{◌≡◌, refl, Bool, true, false, not, [], ◌∷◌, ℕ, suc, ◌-◌, length}
use Rattle.std.proofs.Common.{ap}
use Rattle.std.proofs.Math.Nat.{sub-zero}
use Rattle.definitions.specs.Bytes.{Line}
use Rattle.definitions.specs.Matching.{anywhere, all_columns, qualifiers, Qualified, qualified, match_of, is_found, turned, is_negated, matches}
use Rattle.definitions.specs.Search.{one, holds, holds_at_eof}
use Rattle.definitions.specs.Editor.{Ed, ed, current}
use Rattle.definitions.specs.Edit.{is, is_not, is_eof, passes, search_holds, is_at_eof}
use Rattle.definitions.specs.Everything.{everything}

-- the empty string, with N or without it
unfoldable pub empty : Bool → Qualified
empty negated = qualified (qualifiers anywhere 0 false negated false false false all_columns false) []

empty-found : (isWord : ℕ → Bool) (negated : Bool) (p : ℕ) (l : Line) → is_found (match_of isWord (empty negated) p l) ≡ true
unfolding everything empty
empty-found isWord negated p l = rw (sub-zero (suc (length l - p)))

-- IF and WH with `N//` test what IFEOF tests
pub none-is-eof : (isWord : ℕ → Bool) (e : Ed) → passes isWord (is (one (empty true))) e ≡ passes isWord is_eof e
unfolding passes search_holds is_at_eof holds holds_at_eof matches turned is_negated empty
none-is-eof isWord (ed before [] p) = refl
none-is-eof isWord (ed before (r ∷ after) p) = ap not (empty-found isWord true p (current r))

-- and so do UL and UT with `//`
pub not-any-is-eof : (isWord : ℕ → Bool) (e : Ed) → passes isWord (is_not (one (empty false))) e ≡ passes isWord is_eof e
unfolding passes search_holds is_at_eof holds holds_at_eof matches turned is_negated empty
not-any-is-eof isWord (ed before [] p) = refl
not-any-is-eof isWord (ed before (r ∷ after) p) = ap not (empty-found isWord false p (current r))
