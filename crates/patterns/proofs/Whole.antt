-- Laws of the whole string, one for each way out. Assumes nothing.
use Rattle.std.specs.Prelude.{Ok, Err}
use mathlib.Core.Path.{◌≡◌, ap, ◌∙◌}
use mathlib.Core.Bool.{true, false}
use mathlib.Core.List.{List, []}
use Prim.Native.Nat.{ℕ, ◌+◌, ◌*◌, ◌≤◌, ◌<◌}
use native.Mathlib.Omega.{arith}
use lib.ListN.{length, drop_of_length-le}
use Rattle.definitions.specs.Reader.{cursor, Got, got, refused, and_then, place_at}
use Rattle.definitions.specs.Patterns.{Pattern, is_blank, cannot_stand, close_pattern, read_alternatives, read_pattern}
use Rattle.text.specs.Cursors.{cursor_at}
use Rattle.patterns.specs.declared.Past.{Past}
use Rattle.patterns.specs.declared.Fault.{Fault}
use Rattle.patterns.specs.Reading.{fault-at, ReadTo, AlternativesRead, Forms}
use Rattle.patterns.proofs.Answering.{is-past, is-fault}
use Rattle.patterns.proofs.Places.{at-end, not_end}

-- ---- the end

module _ (s : List ℕ) (next : ℕ) (p : Pattern) where
  not-at-end : next < length s → close_pattern p (cursor_at s next) ≡ refused 34 next
  unfolding close_pattern cannot_stand place_at
  not-at-end h = rw (not_end s next h)

  blank-at-end : length s ≤ next → is_blank p ≡ true → close_pattern p (cursor_at s next) ≡ refused 34 next
  unfolding close_pattern cannot_stand place_at
  blank-at-end h e = rw (at-end s next h, e)

  good-at-end : next ≡ length s → is_blank p ≡ false → close_pattern p (cursor_at s next) ≡ got p (cursor (length s) [])
  unfolding close_pattern
  good-at-end h e = rw (at-end s next (omega arith), e, drop_of_length-le s {i = next} (omega arith), h)

-- ---- the ways out

module _ (s : List ℕ) where
  abbrev whole : Got Pattern
  whole = read_alternatives (4 * length s + 4) 8 (cursor_at s 0)

  pub whole-fault : {f : Fault} → AlternativesRead s 0 8 (Err f) → Forms s (Err f)
  unfolding Forms read_pattern and_then
  whole-fault all = ap (λ (x : Got Pattern). and_then x close_pattern) (is-fault (all (4 * length s + 4) (omega arith)))

  module _ {p : Past} (all : AlternativesRead s 0 8 (Ok p)) where
    read : ReadTo s 0 whole p.next p.blank
    read = is-past (all (4 * length s + 4) (omega arith))

    closes : read_pattern 0 s ≡ close_pattern read.pattern (cursor_at s p.next)
    unfolding read_pattern and_then
    closes = ap (λ (x : Got Pattern). and_then x close_pattern) read.is

    pub something-left : p.next < length s → Forms s (Err (fault-at p.next))
    unfolding Forms
    something-left h = closes ∙ not-at-end s p.next read.pattern h

    module _ (h : length s ≤ p.next) where
      pub all-blank : p.blank ≡ true → Forms s (Err (fault-at p.next))
      unfolding Forms
      all-blank b = closes ∙ blank-at-end s p.next read.pattern h (read.same ∙ b)

      pub is-pattern : p.blank ≡ false → Forms s (Ok tt)
      unfolding Forms
      is-pattern b = (read.pattern, closes ∙ good-at-end s p.next read.pattern (omega (arith, read.within)) (read.same ∙ b))
