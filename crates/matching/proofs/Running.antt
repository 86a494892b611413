-- The walk over a search's words, turn by turn, comes to what the search says, on a line and at EOF. Assumes nothing.
use mathlib.Core.Path.{◌≡◌, refl, sym, ap, ◌∙◌, subst}
use mathlib.Core.Bool.{Bool, true, false, ◌&&◌, ◌||◌}
use mathlib.Core.List.{List}
use Prim.Native.Nat.{ℕ, ◌+◌, ◌*◌, ◌%◌, ◌≤◌, ◌<◌}
use native.Mathlib.Omega.{arith}
use lib.ListN.{length, get_or}
use Rattle.definitions.specs.Matching.{Qualified, is_negated, matches}
use Rattle.definitions.specs.Search.{Search, one, both, either, holds, holds_at_eof}
use Rattle.matching.specs.Words.{Encodes, HasQuals, quals_at, string_at, end_at, onward, Readable}
use Rattle.matching.specs.Quals.{qualifiers_of}
use Rattle.matching.proofs.Words.{and-on, and-past, or-past, or-on}
use Rattle.matching.proofs.Reading.{ReadsAs, one-reads}

pub forward : (script words : List ℕ) (k m : ℕ) (se : Search) → Encodes script words k m se → (k < m) × (m ≤ length words)
unfolding Encodes
forward script words k m (one q) h =
    let r = one-reads script words k m q h in
    (r.forward, r.room)
forward script words k m (both a b) h =
    let x = forward script words k h.0 a h.1 in
    let y = forward script words (h.0 + 1) m b h.3 in
    (omega (arith, x.0, y.0), y.1)
forward script words k m (either a b) h =
    let x = forward script words k h.0 a h.1 in
    let y = forward script words (h.0 + 1) m b h.3 in
    (omega (arith, x.0, y.0), y.1)

-- ---- what a search is tested on

-- A line or EOF: `of` is the result of a search, and goes through & and |; `says` is that of one string, by the place of its words, and `Fits` what must hold there to
-- read them
pub record Tested (script words : List ℕ) (says : ℕ → Bool) (Fits : ℕ → Type 0) (of : Search → Bool) : Type 0 where
  pub string : (k m : ℕ) (q : Qualified) → ReadsAs script words k m q → Fits k × (says k ≡ of (one q))
  pub and : (a b : Search) → of (both a b) ≡ of a && of b
  pub or : (a b : Search) → of (either a b) ≡ of a || of b

module _ (script words : List ℕ) where
  -- on a line l, with the window from p
  abbrev pub line_says : (ℕ → Bool) → List ℕ → ℕ → ℕ → Bool
  line_says isWord l p k = matches isWord (string_at script words k) p l

  pub line-tested : (isWord : ℕ → Bool) (l : List ℕ) (p : ℕ) → Tested script words (line_says isWord l p) (Readable script words) (λ se. holds isWord se p l)
  unfolding holds
  line-tested isWord l p = record {
    string = λ k m q r. (r.fits, ap (λ (x : Qualified). matches isWord x p l) r.string);
    and = λ a b. refl;
    or = λ a b. refl;
  }

-- at EOF
abbrev pub eof_says : List ℕ → ℕ → Bool
eof_says words k = (quals_at words k).negated

pub eof-tested : (script words : List ℕ) → Tested script words (eof_says words) (HasQuals words) holds_at_eof
unfolding holds_at_eof string_at qualifiers_of is_negated
eof-tested script words = record {
  string = λ k m q r. (r.fits.quals, ap is_negated r.string);
  and = λ a b. refl;
  or = λ a b. refl;
}

-- ---- the walk

-- from place `at`, with what was found so far, the walk ends at m with the result r
pub data Runs (words : List ℕ) (says : ℕ → Bool) (Fits : ℕ → Type 0) (m : ℕ) : ℕ → Bool → Bool → Type 0 where
  stops : {at : ℕ} {t r : Bool} → at ≡ m → t ≡ r → Runs words says Fits m at t r
  tests : {at : ℕ} {t r : Bool} → get_or words at 0 % 4 ≡ 0 → Fits at → (at < end_at words at) × (end_at words at ≤ m)
      → Runs words says Fits m (end_at words at) (says at) r → Runs words says Fits m at t r
  joins : {at : ℕ} {t r : Bool} → (get_or words at 0 % 4 ≡ 0 → ⊥) → (at < onward words at t) × (onward words at t ≤ m)
      → Runs words says Fits m (onward words at t) t r → Runs words says Fits m at t r

module _ (words : List ℕ) (says : ℕ → Bool) (Fits : ℕ → Type 0) (m : ℕ) where
  joins-to : (at to : ℕ) (t r : Bool) → (get_or words at 0 % 4 ≡ 0 → ⊥) → onward words at t ≡ to → at < to → to ≤ m → Runs words says Fits m to t r → Runs words says Fits m at t r
  joins-to at to t r ne e lo hi h =
      joins {at = at} {t = t} {r = r} ne (omega (arith, e), omega (arith, e)) (subst (λ (i : ℕ). Runs words says Fits m i t r) (sym e) h)

  -- between the parts of `both`: true goes on to the second part, which gives y, false to its end
  and-runs : (j e : ℕ) (x y r : Bool) → get_or words j 0 ≡ 4 * e + 1 → j + 1 < e → e ≤ m
      → (Runs words says Fits m e y r → Runs words says Fits m (j + 1) true r) → Runs words says Fits m e (x && y) r → Runs words says Fits m j x r
  and-runs j e true y r is lo hi second h =
      joins-to j (j + 1) true r (λ z. omega (arith, is, z)) (and-on words j true (omega (arith, is)) refl) (omega arith) (omega arith) (second h)
  and-runs j e false y r is lo hi second h =
      joins-to j e false r (λ z. omega (arith, is, z)) (and-past words j false (omega (arith, is)) refl ∙ omega (arith, is)) (omega arith) hi h

  or-runs : (j e : ℕ) (x y r : Bool) → get_or words j 0 ≡ 4 * e + 2 → j + 1 < e → e ≤ m
      → (Runs words says Fits m e y r → Runs words says Fits m (j + 1) false r) → Runs words says Fits m e (x || y) r → Runs words says Fits m j x r
  or-runs j e true y r is lo hi second h =
      joins-to j e true r (λ z. omega (arith, is, z)) (or-past words j true (λ z. omega (arith, is, z)) refl ∙ omega (arith, is)) (omega arith) hi h
  or-runs j e false y r is lo hi second h =
      joins-to j (j + 1) false r (λ z. omega (arith, is, z)) (or-on words j false (λ z. omega (arith, is, z)) refl) (omega arith) (omega arith) (second h)

  module _ (script : List ℕ) (of : Search → Bool) (is : Tested script words says Fits of) where
    string-runs : (k e : ℕ) (q : Qualified) (t r : Bool) → ReadsAs script words k e q → e ≤ m → Runs words says Fits m e (of (one q)) r → Runs words says Fits m k t r
    string-runs k e q t r reads hi h =
        let x = is.string k e q reads in
        tests {at = k} {t = t} {r = r} reads.kind x.0 (omega (arith, reads.ends, reads.forward), omega (arith, reads.ends)) (rw (reads.ends, x.1) h)

    pub runs : (se : Search) (k e : ℕ) (t r : Bool) → Encodes script words k e se → e ≤ m → Runs words says Fits m e (of se) r → Runs words says Fits m k t r
    unfolding Encodes
    runs (one q) k e t r enc hi h = string-runs k e q t r (one-reads script words k e q enc) hi h
    runs (both a b) k e t r enc hi h =
        let y = (forward script words (enc.0 + 1) e b enc.3).0 in
        runs a k enc.0 t r enc.1 (omega (arith, y))
        (and-runs enc.0 e (of a) (of b) r enc.2 y hi (runs b (enc.0 + 1) e true r enc.3 hi) (rw (is.and a b) at h))
    runs (either a b) k e t r enc hi h =
        let y = (forward script words (enc.0 + 1) e b enc.3).0 in
        runs a k enc.0 t r enc.1 (omega (arith, y))
        (or-runs enc.0 e (of a) (of b) r enc.2 y hi (runs b (enc.0 + 1) e false r enc.3 hi) (rw (is.or a b) at h))

  -- ---- the turns of the loop

  pub run_ends : (at : ℕ) (t r : Bool) → Runs words says Fits m at t r → m ≤ at → t ≡ r
  run_ends at t r (stops e f) h = f
  run_ends at t r (tests kind fits step more) h = absurd (omega (arith, step))
  run_ends at t r (joins kind step more) h = absurd (omega (arith, step))

  module _ (at : ℕ) (t r : Bool) (less : at < m) where
    pub run-reads : get_or words at 0 % 4 ≡ 0 → Runs words says Fits m at t r → Fits at × ((at < end_at words at) × (end_at words at ≤ m))
    run-reads kind (stops e f) = absurd (omega arith)
    run-reads kind (tests kind' fits step more) = (fits, step)
    run-reads kind (joins ne step more) = absurd (ne kind)

    pub run-tests : get_or words at 0 % 4 ≡ 0 → Runs words says Fits m at t r → Runs words says Fits m (end_at words at) (says at) r
    run-tests kind (stops e f) = absurd (omega arith)
    run-tests kind (tests kind' fits step more) = more
    run-tests kind (joins ne step more) = absurd (ne kind)

    pub run-steps : (get_or words at 0 % 4 ≡ 0 → ⊥) → Runs words says Fits m at t r → (at < onward words at t) × (onward words at t ≤ m)
    run-steps kind (stops e f) = absurd (omega arith)
    run-steps kind (tests kind' fits step more) = absurd (kind kind')
    run-steps kind (joins ne step more) = step

    pub run-joins : (get_or words at 0 % 4 ≡ 0 → ⊥) → Runs words says Fits m at t r → Runs words says Fits m (onward words at t) t r
    run-joins kind (stops e f) = absurd (omega arith)
    run-joins kind (tests kind' fits step more) = absurd (kind kind')
    run-joins kind (joins ne step more) = more
