-- Laws of one qualified string as a search. Assumes nothing.
use mathlib.Core.Path.{◌≡◌, ap, ◌∙◌}
use mathlib.Core.Bool.{true}
use mathlib.Core.List.{List, ◌++◌, append_assoc}
use Prim.Native.Nat.{ℕ, ◌+◌, ◌-◌, ◌*◌, ◌≤◌}
use native.Mathlib.Omega.{arith}
use lib.ListN.{length, take, drop}
use lib.Seq.{sets, sets-eq, take_at, length-take-le}
use Rattle.definitions.specs.Matching.{qualified}
use Rattle.definitions.specs.Reader.{got, refused, and_then}
use Rattle.definitions.specs.Search.{one}
use Rattle.definitions.specs.Strings.{start_qualifiers, qualified_string}
use Rattle.matching.specs.declared.Quals.{Quals}
use Rattle.matching.specs.Quals.{qualifiers_of}
use Rattle.matching.specs.Words.{string_words, led_in, Writable}
use Rattle.matching.proofs.Keeping.{string-encodes}
use Rattle.answers.specs.Answers.{read_as}
use Rattle.lexer.specs.Places.{cursor_at}
use Rattle.strings.specs.Answers.{StringAt, QuotedAt}
use Rattle.strings.proofs.Callers.{string-few, string-spare, string-writable}
use Rattle.strings.proofs.Lines.{strings-short}
use Rattle.searches.specs.Parsing.{string_part, SearchRoom, SearchRefused, Parsed}

-- the words before the string stay
before-stays : (w ws : List ℕ) (k : ℕ) → k + length ws ≤ length w → take k (sets w k ws) ≡ take k w
before-stays w ws k h =
    ap (take k) (sets-eq ws w k h ∙ append_assoc (take k w) ws (drop (k + length ws) w))
    ∙ take_at (take k w) (ws ++ drop (k + length ws) w) k (length-take-le k w (omega arith))

module _ (s w : List ℕ) (at k : ℕ) (room : SearchRoom s w at k) where
  module _ (q : Quals) (start end next : ℕ) (read : QuotedAt s at (start_qualifiers true (cursor_at s at)) (qualified_string true (cursor_at s at)) q start end next) where
    stands : StringAt s at q start end next
    stands = read.1

    pub ordered : start ≤ end
    ordered = stands.ordered

    abbrev written : List ℕ
    written = string_words (qualifiers_of q) start (end - start) (led_in q)

    few : length written + 2 * (length s - next) ≤ 2 * (length s - at)
    few = string-few s at q start end next stands

    pub can_write : Writable q start (end - start) × (k + length written ≤ length w)
    can_write = (string-writable s at q start end next stands room.form, omega (arith, few, room.enough))

    part-is-string : string_part (cursor_at s at) ≡ got (one (qualified (qualifiers_of q) (take (end - start) (drop start s)))) (cursor_at s next)
    unfolding string_part and_then
    part-is-string = rw read.0

    pub string-parsed : (w' : List ℕ) (m : ℕ) → w' ≡ sets w k written → m ≡ k + length written
        → Parsed s w w' at k 0 (λ n. string_part (cursor_at s at)) (read_as m next)
    string-parsed w' m w-is m-is = rw (w-is, m-is) (record {
      search = one (qualified (qualifiers_of q) (take (end - start) (drop start s)));
      is = λ n h. part-is-string;
      encodes = string-encodes s w k q start (end - start) can_write.0 (stands.formed (strings-short s room.form)) (omega (arith, stands.ordered, stands.ends, stands.within)) can_write.1;
      kept = before-stays w written k can_write.1;
      after = omega (arith, stands.after, stands.ordered, stands.ends);
      within = stands.within;
      room = omega (arith, few);
      spare = λ digit. omega (arith, string-spare s at q start end next stands (stands.closed digit));
    })

pub string-refused : (s : List ℕ) (at e p : ℕ) → qualified_string true (cursor_at s at) ≡ refused e p → SearchRefused 0 (λ n. string_part (cursor_at s at)) e p
unfolding string_part and_then
string-refused s at e p is n h = rw is
