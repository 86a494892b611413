-- Laws of a part: a bracketed search or one qualified string, one law for each way out. Assumes nothing.
use mathlib.Core.Path.{◌≡◌, ◌∙◌}
use mathlib.Core.Bool.{true}
use mathlib.Core.List.{List}
use Prim.Native.Nat.{ℕ, ◌+◌, ◌-◌, ◌*◌, ◌≤◌, ◌<◌}
use native.Mathlib.Omega.{arith}
use lib.ListN.{length, drop, length-drop}
use Rattle.definitions.specs.Reader.{place_at, bytes_left, next_byte, after_byte, is_next, skip_spaces}
use Rattle.definitions.specs.Strings.{closing, part, alternatives, search_expression}
use Rattle.std.specs.Prelude.{Result}
use Rattle.answers.specs.declared.Read.{Read}
use Rattle.answers.specs.declared.Refusal.{Refusal}
use Rattle.answers.specs.Answers.{read_as}
use Rattle.lexer.specs.Places.{cursor_at}
use Rattle.lexer.proofs.AtPlace.{is-next, not-next, after-in, next-inside}
use Rattle.searches.specs.Parsing.{ClosesAt, NotClosed, string_part, SearchRoom, SearchWritten, SearchRefused, Parsed}
use Rattle.searches.proofs.Steps.{part-string, part-too-deep, part-inside, part-refused}
use Rattle.searches.proofs.Answering.{same-parsed, with-fuel}

module _ (s : List ℕ) (at deep : ℕ) {i : ℕ} (spaces : skip_spaces (cursor_at s at) ≡ cursor_at s i) (from : at ≤ i) where
  pub one-string : (u w : List ℕ) (k : ℕ) (r : Result (Read ℕ) Refusal) → (next_byte (cursor_at s i) ≡ 40 → ⊥) → Parsed s u w at k 0 (λ n. string_part (cursor_at s at)) r
      → Parsed s u w at k (3 * (length s - at) + 1) (λ n. part n deep (cursor_at s at)) r
  one-string u w k r e parsed =
      same-parsed s u w at k _ _ _ _ r parsed (omega arith) (λ n h. part-string n deep (cursor_at s at) (omega arith) (rw spaces (not-next 40 (cursor_at s i) e)))

  module _ (bracket : next_byte (cursor_at s i) ≡ 40) where
    opens : is_next 40 (skip_spaces (cursor_at s at)) ≡ true
    opens = rw spaces (is-next 40 (cursor_at s i) bracket)

    pub bracket-within : i < length s
    bracket-within = next-inside s i (omega (arith, bracket))

    inner : after_byte (skip_spaces (cursor_at s at)) ≡ cursor_at s (i + 1)
    inner = rw spaces (after-in s i bracket-within)

    pub too_deep : deep ≡ 0 → SearchRefused (3 * (length s - at) + 1) (λ n. part n deep (cursor_at s at)) 5 i
    unfolding place_at
    too_deep d = λ n h. part-too-deep (cursor_at s at) opens n deep (omega arith) d ∙ rw spaces

    pub inner_room : {u : List ℕ} {k : ℕ} → SearchRoom s u at k → SearchRoom s u (i + 1) k
    inner_room room = record {
      form = room.form;
      inside = omega (arith, bracket-within);
      enough = omega (arith, room.enough, bracket-within);
      fits = omega (arith, room.fits, bracket-within);
    }

    module _ (some_left : deep ≡ 0 → ⊥) where
      pub inner-refused : (e p : ℕ) → SearchRefused (3 * (length s - (i + 1)) + 3) (λ n. alternatives n (deep - 1) (cursor_at s (i + 1))) e p
          → SearchRefused (3 * (length s - at) + 1) (λ n. part n deep (cursor_at s at)) e p
      inner-refused e p refusal n h =
          part-refused (cursor_at s at) opens n deep (omega arith) some_left e p (rw inner (refusal (n - 1) (omega (arith, bracket-within))))

      module _ {u w : List ℕ} {k past m : ℕ}
          (read : SearchWritten s u w (i + 1) k (3 * (length s - (i + 1)) + 3) (λ n. alternatives n (deep - 1) (cursor_at s (i + 1))) past m) where
        inside : (n : ℕ) → 3 * (length s - at) + 1 ≤ n → part n deep (cursor_at s at) ≡ closing read.search (skip_spaces (cursor_at s past))
        inside n h = part-inside (cursor_at s at) opens n deep (omega arith) some_left read.search (cursor_at s past)
            (rw inner (read.is (n - 1) (omega (arith, bracket-within))))

        pub inner-open : (e p : ℕ) → NotClosed s past e p → SearchRefused (3 * (length s - at) + 1) (λ n. part n deep (cursor_at s at)) e p
        inner-open e p refusal n h = inside n h ∙ refusal read.search

        pub inner-closed : (next : ℕ) → ClosesAt s past next → Parsed s u w at k (3 * (length s - at) + 1) (λ n. part n deep (cursor_at s at)) (read_as m next)
        inner-closed next (closes, taken, within) = record {
          search = read.search;
          is = λ n h. inside n h ∙ closes read.search;
          encodes = read.encodes;
          kept = read.kept;
          after = omega (arith, read.after);
          within = within;
          room = omega (arith, read.room, read.within);
          spare = λ digit. omega (arith, read.room, read.within, bracket-within);
        }

-- the whole expression
pub whole-search : (s : List ℕ) (at : ℕ) (u w : List ℕ) (k : ℕ) (r : Result (Read ℕ) Refusal) → Parsed s u w at k (3 * (length s - at) + 1) (λ n. part n 8 (cursor_at s at)) r
    → Parsed s u w at k 0 (λ n. search_expression (cursor_at s at)) r
unfolding search_expression bytes_left
whole-search s at u w k r parsed =
    with-fuel s u w at k _ _ r parsed (4 * length (drop at s) + 4) (omega (arith, length-drop at s))
