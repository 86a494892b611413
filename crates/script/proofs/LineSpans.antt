-- The lines of D and R in words. Assumes nothing.
use mathlib.Core.Path.{◌≡◌, refl, ◌∙◌}
use mathlib.Core.Bool.{Bool, true, false, cond}
use mathlib.Core.List.{List}
use Prim.Native.Nat.{ℕ, ◌+◌, ◌*◌, ◌<◌}
use native.Mathlib.Omega.{arith}
use lib.ListN.{length, get_or, set}
use lib.Dec.{eqb}
use borrow.Author.Tests.{eqb-true}
use Rattle.definitions.specs.Editor.{alone, up_to, to_eof}
use Rattle.definitions.specs.Edit.{delete}
use Rattle.definitions.specs.Control.{simple}
use Rattle.definitions.specs.Reader.{refused}
use Rattle.definitions.specs.Commands.{deletes, line_span, delete_op, decode}
use Rattle.std.specs.Prelude.{Ok}
use Rattle.answers.specs.Answers.{whole_read}
use Rattle.lexer.specs.Places.{cursor_at}
use Rattle.lexer.specs.Answers.{ValueAt}
use Rattle.lexer.specs.Targets.{target_of, through_of, span_of, SpanRead}
use Rattle.lexer.proofs.Given.{goes_on, passed-up}
use Rattle.items.specs.Kinds.{delete_kind}
use Rattle.items.specs.Words.{head_with, target_code, end_bit, last_code, SpanAt, OpAt, ItemAt}
use Rattle.items.specs.Depth.{open_after}
use Rattle.script.specs.Reading.{CommandRoom, CommandRead}
use Rattle.items.specs.Arguments.{span_number, span_word}
use Rattle.script.proofs.Items.{whole-two, first-is, second_is, target_code_lem}

-- ---- the two words

pub span-item : (s w : List ℕ) (k kind place a b : ℕ) → get_or w k 0 ≡ head_with kind place (span_number b) → get_or w (k + 1) 0 ≡ span_word a b → a < 65536 → place < 32768
    → SpanAt s w k kind place (target_of a) (through_of b)
unfolding end_bit last_code through_of span_number span_word
span-item s w k kind place a b h g less near = go (eqb b 0) (eqb b 65536) refl refl h g
  where
    code : target_code (target_of a) ≡ a
    code = target_code_lem a (omega arith)

    small : target_code (target_of a) < 65536
    small = omega (arith, code)

    go : (t u : Bool) → eqb b 0 ≡ t → eqb b 65536 ≡ u → get_or w k 0 ≡ head_with kind place (cond u 1 0) → get_or w (k + 1) 0 ≡ cond u a (a + 65536 * b)
        → SpanAt s w k kind place (target_of a) (cond t alone (cond u to_eof (up_to b)))
    go true true e f p q = absurd (omega (arith, eqb-true b 0 e, eqb-true b 65536 f))
    go true false e f p q = record { low = near; first = p; second = omega (arith, q, code, eqb-true b 0 e); before = small }
    go false true e f p q = record { low = near; first = p; second = omega (arith, q, code); before = small }
    go false false e f p q = record { low = near; first = p; second = omega (arith, q, code); before = small }

-- ---- D

module _ (s w : List ℕ) (place at k : ℕ) (r : CommandRoom s w place at k) where
  pub deletes-refused : (n p : ℕ) → line_span (cursor_at s at) ≡ refused n p → decode false place deletes (cursor_at s at) ≡ refused n p
  unfolding decode
  deletes-refused n p e = passed-up (line_span (cursor_at s at)) _ n p e

  pub deletes-written : (a b next v u : ℕ) → v ≡ head_with delete_kind place (span_number b) → u ≡ span_word a b → ValueAt s span_of (SpanRead at) (line_span (cursor_at s at)) (record { first = a; last = b }) next
      → CommandRead s w (set (set w k v) (k + 1) u) place k (decode false place deletes (cursor_at s at)) (Ok (whole_read (k + 2) next))
  unfolding decode span_of delete_op ItemAt OpAt open_after
  deletes-written a b next v u hd wd (read, (le, small, from), to) =
      whole-two s w place at k r (decode false place deletes (cursor_at s at)) (simple place (delete (target_of a) (through_of b))) next from to (λ n. omega arith) v u
      (goes_on (line_span (cursor_at s at)) _ (span_of (record { first = a; last = b })) (cursor_at s next) read)
      (refl, span-item s (set (set w k v) (k + 1) u) k delete_kind place a b (first-is w k v u room ∙ hd) (second_is w k v u room ∙ wd) (omega arith) (omega (arith, r.named, r.inside, r.fits.small)))
    where
      room : k + 17 < length w
      room = omega (arith, r.room, r.named, r.inside, r.fits.work)
