-- What stands where a command may begin, by its first byte. Assumes nothing.
use mathlib.Core.Path.{◌≡◌, ◌∙◌}
use mathlib.Core.Bool.{true, false}
use mathlib.Core.List.{List}
use Prim.Native.Nat.{ℕ, ◌+◌, ◌≤◌, ◌<◌}
use native.Mathlib.Omega.{arith}
use lib.ListN.{length, get_or, drop_of_length-le}
use lib.Seq.{drop-cons}
use borrow.Author.Tests.{eq-eqb, ne_eqb}
use Rattle.definitions.specs.Bytes.{is_digit, is_letter}
use Rattle.definitions.specs.Control.{Item}
use Rattle.definitions.specs.Reader.{place_at, skip_spaces, skip_comment, token, digits, name}
use Rattle.definitions.specs.Script.{Due, Group, AfterRound, done, open_group, close_group, separator, line_items, script_end, count_read, named, class_of, by_class, read_at, read_one}
use Rattle.std.specs.Prelude.{Result, Ok, Err}
use Rattle.answers.specs.declared.Read.{Read}
use Rattle.answers.specs.declared.Refusal.{Refusal}
use Rattle.answers.specs.declared.State.{State}
use Rattle.lexer.specs.Places.{cursor_at}
use Rattle.lexer.proofs.AtPlace.{next-in, after-in}
use Rattle.lexer.proofs.Blanks.{comment-more}
use Rattle.script.specs.Reading.{due_of, groups_in, reading_of, ReadSoFar, OnwardRead}
use Rattle.script.proofs.Affording.{affords-on}

module _ (due : Due) (groups : List Group) (acc : List Item) (s : List ℕ) (at : ℕ) where
  pub at-end : length s ≤ at → read_at due groups acc (cursor_at s at) ≡ done (script_end due groups acc at)
  unfolding read_at
  at-end h = rw (drop_of_length-le s {i = at} h)

  module _ (less : at < length s) where
    by_byte : read_at due groups acc (cursor_at s at) ≡ by_class due groups acc (cursor_at s at) (class_of (get_or s at 0))
    unfolding read_at
    by_byte = rw (drop-cons s at 0 less)

    pub at-semicolon : get_or s at 0 ≡ 59 → read_at due groups acc (cursor_at s at) ≡ separator due groups acc at (cursor_at s (at + 1))
    unfolding class_of by_class place_at
    at-semicolon e = by_byte ∙ rw (e, after-in s at less)

    pub at_line_end : get_or s at 0 ≡ 10 → read_at due groups acc (cursor_at s at) ≡ separator due groups (line_items groups acc) at (cursor_at s (at + 1))
    unfolding class_of by_class place_at
    at_line_end e = by_byte ∙ rw (e, after-in s at less)

    pub at_open : get_or s at 0 ≡ 40 → read_at due groups acc (cursor_at s at) ≡ open_group due groups acc (cursor_at s at)
    unfolding class_of by_class
    at_open e = by_byte ∙ rw e

    pub at_close : get_or s at 0 ≡ 41 → read_at due groups acc (cursor_at s at) ≡ close_group due groups acc (cursor_at s at)
    unfolding class_of by_class
    at_close e = by_byte ∙ rw e

    module _ (a : get_or s at 0 ≡ 59 → ⊥) (b : get_or s at 0 ≡ 10 → ⊥) (c : get_or s at 0 ≡ 40 → ⊥) (d : get_or s at 0 ≡ 41 → ⊥) where
      pub at-digit : is_digit (get_or s at 0) ≡ true → read_at due groups acc (cursor_at s at) ≡ count_read due groups acc at (digits (cursor_at s at))
      unfolding class_of by_class place_at
      at-digit e = by_byte ∙ rw (ne_eqb (get_or s at 0) 59 a, ne_eqb (get_or s at 0) 10 b, ne_eqb (get_or s at 0) 40 c, ne_eqb (get_or s at 0) 41 d, e)

      module _ (e : is_digit (get_or s at 0) ≡ false) where
        pub at-letter : (n r : ℕ) → is_letter (get_or s at 0) ≡ true → name (cursor_at s at) ≡ token n (cursor_at s r)
            → read_at due groups acc (cursor_at s at) ≡ named due groups acc at (token n (cursor_at s r))
        unfolding class_of by_class place_at
        at-letter n r f is = by_byte ∙ rw (ne_eqb (get_or s at 0) 59 a, ne_eqb (get_or s at 0) 10 b, ne_eqb (get_or s at 0) 40 c, ne_eqb (get_or s at 0) 41 d, e, f, is)

        module _ (f : is_letter (get_or s at 0) ≡ false) where
          pub at-comment : (r : ℕ) → get_or s at 0 ≡ 92 → skip_comment (cursor_at s (at + 1)) ≡ cursor_at s r
              → read_at due groups acc (cursor_at s at) ≡ separator due groups acc at (cursor_at s r)
          unfolding class_of by_class place_at
          at-comment r is to = by_byte
              ∙ rw (ne_eqb (get_or s at 0) 59 a, ne_eqb (get_or s at 0) 10 b, ne_eqb (get_or s at 0) 40 c, ne_eqb (get_or s at 0) 41 d, e, f, eq-eqb (get_or s at 0) 92 is, comment-more s at less b, to)

          pub at_sign : (get_or s at 0 ≡ 92 → ⊥) → read_at due groups acc (cursor_at s at) ≡ named due groups acc at (token (get_or s at 0) (cursor_at s (at + 1)))
          unfolding class_of by_class place_at
          at_sign is = by_byte
              ∙ rw (ne_eqb (get_or s at 0) 59 a, ne_eqb (get_or s at 0) 10 b, ne_eqb (get_or s at 0) 40 c, ne_eqb (get_or s at 0) 41 d, e, f, ne_eqb (get_or s at 0) 92 is, after-in s at less, next-in s at less)

-- ---- after the spaces

module _ (s w : List ℕ) (st : State) (at : ℕ) (acc : List Item) (i : ℕ) where
  pub past-spaces : skip_spaces (cursor_at s at) ≡ cursor_at s i → read_one (reading_of s w st at acc) ≡ read_at (due_of st.due st.elses) (groups_in w st.depth) acc (cursor_at s i)
  unfolding read_one reading_of
  past-spaces e = rw e

  pub stands_on : ReadSoFar s w st at acc → at ≤ i → i ≤ length s → ReadSoFar s w st i acc
  stands_on h from to = record { inside = to; deep = h.deep; no_body = h.no_body; gathered = h.gathered; affords = affords-on h.affords i from; fits = h.fits }

pub comes-from : (s w : List ℕ) (at i : ℕ) (x : AfterRound) (r : Result (Read State) Refusal) → at ≤ i → OnwardRead s w i x r → OnwardRead s w at x r
comes-from s w at i x (Ok r) le (acc, e, h, far) = (acc, e, h, omega arith)
comes-from s w at i x (Err r) le e = e
