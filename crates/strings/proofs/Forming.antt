-- Laws of a string's bytes, which with R are a pattern: one for each way out. Assumes nothing.
use Rattle.std.specs.Prelude.{Ok, Err}
use mathlib.Core.Path.{◌≡◌, refl, sym, ap, ◌∙◌}
use mathlib.Core.Bool.{true, false, false≢true}
use mathlib.Core.List.{List}
use Prim.Native.Nat.{ℕ, ◌+◌, ◌*◌, ◌≤◌, ◌<◌}
use native.Mathlib.Omega.{arith}
use lib.ListN.{length}
use Rattle.definitions.specs.Bytes.{Line}
use Rattle.definitions.specs.Patterns.{Pattern, read_pattern}
use Rattle.definitions.specs.Reader.{refused}
use Rattle.definitions.specs.Strings.{is_pattern, pattern_or, no_qualifiers}
use Rattle.theorems.specs.PatternReader.{moved, places-move, pattern-refused}
use Rattle.text.specs.Lines.{part}
use Rattle.text.proofs.Parts.{part_length}
use Rattle.patterns.specs.declared.Fault.{Fault}
use Rattle.patterns.specs.Reading.{Forms}
use Rattle.marks.specs.Sweeping.{Reads}
use Rattle.leads.specs.declared.Leads.{Leads}
use Rattle.leads.specs.Leading.{leads_of}
use Rattle.matching.specs.declared.Quals.{Quals}
use Rattle.matching.specs.Quals.{qualifiers_of, lead_number, Formed}
use Rattle.answers.specs.declared.Fault.TheVariants.{Pattern as Ill-formed}
use Rattle.answers.specs.Answers.{read_as, refusal}
use Rattle.strings.specs.Answers.{Small, bytes_then, Finished, BytesRead}

-- ---- the qualifiers

-- a string without R is formed
pub not-pattern : (q : Quals) (l : Line) → q.pattern ≡ false → Formed q l
not-pattern q l e p = absurd (false≢true (sym e ∙ p))

pub plain-formed : (q : Quals) (l : Line) → qualifiers_of q ≡ no_qualifiers → Formed q l
unfolding is_pattern qualifiers_of no_qualifiers
plain-formed q l e = not-pattern q l (ap is_pattern e)

-- the qualifiers with a number in the place of the count
abbrev numbered : Quals → ℕ → Quals
numbered q n = record { anchor = q.anchor; count = n; last = q.last; negated = q.negated; word = q.word; fold = q.fold; skip = q.skip; from = q.from; to = q.to; pattern = q.pattern }

module _ (q : Quals) (l : Line) (small : Small q) where
  as-given : (length l ≤ 255 → Formed q l) → Finished q l q
  as-given formed = record { same = refl; from = refl; fits = small.fits; formed = formed }

  pub too_long : 255 < length l → Finished q l q
  too_long long = as-given (λ short. absurd (omega arith))

  pub numbered-finished : (pat : Pattern) (r : Leads) → q.pattern ≡ true → Reads l pat → r ≡ leads_of pat → r.low ≤ 128 → r.high ≤ 127
      → Finished q l (numbered q (r.low + 256 * r.high))
  unfolding qualifiers_of lead_number
  numbered-finished pat r p reads is low high = record {
    same = rw p;
    from = refl;
    fits = record { anchor = small.fits.anchor; count = omega arith; from = small.fits.from; to = small.fits.to };
    formed = λ short e. (pat, reads, ap lead_number is);
  }

-- ---- what the reader of patterns says

module _ (l : Line) where
  pub is-fault : {f : Fault} → Forms l (Err f) → read_pattern 0 l ≡ refused 34 f.at
  unfolding Forms
  is-fault forms = forms

  pub is-pattern : Forms l (Ok tt) → (pat : Pattern) × Reads l pat
  unfolding Forms
  is-pattern forms = forms

-- ---- the bytes

module _ (s : List ℕ) (q : Quals) (start end next : ℕ) where
  pub plain-bytes : Small q → q.pattern ≡ false → BytesRead s q start end next (read_as (record { quals = q; part = record { start = start; end = end } }) next)
  unfolding bytes_then is_pattern qualifiers_of
  plain-bytes small e =
      (rw e, as-given q (part start end s) small (λ short. not-pattern q (part start end s) e), refl, refl, refl)

  module _ (given : q.pattern ≡ true) where
    -- its place is as far on as the string's
    pub fault-bytes : (k : ℕ) → read_pattern 0 (part start end s) ≡ refused 34 k → BytesRead s q start end next (refusal Ill-formed (start + k))
    unfolding bytes_then is_pattern qualifiers_of pattern_or moved
    fault-bytes k e = (rw (given, places-move start (part start end s), e))

    pub pattern-bytes : (pat : Pattern) (r : Quals) → Reads (part start end s) pat → Finished q (part start end s) r
        → BytesRead s q start end next (read_as (record { quals = r; part = record { start = start; end = end } }) next)
    unfolding bytes_then is_pattern qualifiers_of pattern_or moved
    pattern-bytes pat r e h = (rw (given, places-move start (part start end s), e), h, refl, refl, refl)

-- where it goes wrong is in the string or at its end
pub fault-within : (s : List ℕ) (start end k : ℕ) → start ≤ end → end ≤ length s → read_pattern 0 (part start end s) ≡ refused 34 k → start + k ≤ end
fault-within s start end k h g e = omega (arith, part_length s start end g, (pattern-refused 0 (part start end s) 34 k e).2)
