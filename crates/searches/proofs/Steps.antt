-- One step of each definition of a search expression, where fuel is left. Assumes nothing.
use mathlib.Core.Path.{◌≡◌, refl}
use mathlib.Core.Bool.{true, false}
use mathlib.Core.List.{List}
use mathlib.Core.Option.{none, some}
use Prim.Native.Nat.{ℕ, zero, suc, ◌+◌, ◌-◌, ◌*◌, ◌<◌}
use native.Mathlib.Nat.{not-suc-le-zero}
use native.Mathlib.Omega.{arith}
use native.Mathlib.Numerals.{sub-one}
use lib.ListN.{set}
use Rattle.definitions.specs.Matching.{Qualified}
use Rattle.definitions.specs.Reader.{Cursor, Got, got, refused, and_then, place_at, after_byte, is_next, skip_spaces}
use Rattle.definitions.specs.Search.{Search, one, both, either}
use Rattle.definitions.specs.Strings.{qualified_string, operator, closing, part, conjunction, more_conjunction, alternatives, more_alternatives}
use Rattle.matching.specs.Words.{Encodes}
use Rattle.matching.proofs.Keeping.{both-encodes, either-encodes}
use Rattle.searches.specs.Parsing.{string_part}

-- ---- a part

one-string : (x : Got Qualified) → elim x [ got q c₁ ↦ got (one q) c₁ | refused n at ↦ refused n at ] ≡ and_then x (λ q c₁. got (one q) c₁)
unfolding and_then
one-string (got q c) = refl
one-string (refused n at) = refl

pub part-string : (n deep : ℕ) (c : Cursor) → 0 < n → is_next 40 (skip_spaces c) ≡ false → part n deep c ≡ string_part c
unfolding part string_part
part-string zero deep c h e = absurd (not-suc-le-zero h)
part-string (suc n) deep c h e = rw (e, part) (one-string (qualified_string true c))

module _ (c : Cursor) (bracket : is_next 40 (skip_spaces c) ≡ true) where
  pub part-too-deep : (n deep : ℕ) → 0 < n → deep ≡ 0 → part n deep c ≡ refused 5 (place_at (skip_spaces c))
  unfolding part
  part-too-deep zero deep h d = absurd (not-suc-le-zero h)
  part-too-deep (suc n) zero h d = rw (bracket, part)
  part-too-deep (suc n) (suc deep) h d = let z : ⊥ = omega arith in absurd z

  pub part-inside : (n deep : ℕ) → 0 < n → (deep ≡ 0 → ⊥) → (se : Search) (c₁ : Cursor) → alternatives (n - 1) (deep - 1) (after_byte (skip_spaces c)) ≡ got se c₁
      → part n deep c ≡ closing se (skip_spaces c₁)
  unfolding part
  part-inside zero deep h d se c₁ e = absurd (not-suc-le-zero h)
  part-inside (suc n) zero h d se c₁ e = absurd (d refl)
  part-inside (suc n) (suc deep) h d se c₁ e = rw (bracket, rw (sub-one, sub-one) at e, part)

  pub part-refused : (n deep : ℕ) → 0 < n → (deep ≡ 0 → ⊥) → (k p : ℕ) → alternatives (n - 1) (deep - 1) (after_byte (skip_spaces c)) ≡ refused k p
      → part n deep c ≡ refused k p
  unfolding part
  part-refused zero deep h d k p e = absurd (not-suc-le-zero h)
  part-refused (suc n) zero h d k p e = absurd (d refl)
  part-refused (suc n) (suc deep) h d k p e = rw (bracket, rw (sub-one, sub-one) at e, part)

-- ---- parts that an operator joins

-- What conjunctions and alternatives have in common: `whole` reads a first part by `right` and goes on by `more`, which reads another part by
-- `right` after each operator `op`, and joins it by `join`; the word between the parts has the kind `kind`.
pub record Joint (script : List ℕ) (op kind : ℕ) (right whole : ℕ → Cursor → Got Search) (join : Search → Search → Search)
    (more : ℕ → Search → Cursor → Got Search) : Type 0 where
  pub opens : (n : ℕ) (c : Cursor) (se : Search) (c₁ : Cursor) → 0 < n → right (n - 1) c ≡ got se c₁ → whole n c ≡ more (n - 1) se c₁
  pub opens_not : (n : ℕ) (c : Cursor) (k p : ℕ) → 0 < n → right (n - 1) c ≡ refused k p → whole n c ≡ refused k p
  pub ends : (n : ℕ) (se : Search) (c : Cursor) → 0 < n → operator op c ≡ none → more n se c ≡ got se c
  pub goes_on : (n : ℕ) (se : Search) (c c₁ : Cursor) (tf : Search) (c₂ : Cursor) → 0 < n → operator op c ≡ some c₁ → right (n - 1) c₁ ≡ got tf c₂
      → more n se c ≡ more (n - 1) (join se tf) c₂
  pub goes_not : (n : ℕ) (se : Search) (c c₁ : Cursor) (k p : ℕ) → 0 < n → operator op c ≡ some c₁ → right (n - 1) c₁ ≡ refused k p
      → more n se c ≡ refused k p
  pub encodes : (words : List ℕ) (k j m : ℕ) (a b : Search) → Encodes script words k j a → Encodes script words (j + 1) m b
      → Encodes script (set words j (4 * m + kind)) k m (join a b)

module _ (deep : ℕ) where
  and-opens : (n : ℕ) (c : Cursor) (se : Search) (c₁ : Cursor) → 0 < n → part (n - 1) deep c ≡ got se c₁ → conjunction n deep c ≡ more_conjunction (n - 1) deep se c₁
  unfolding conjunction
  and-opens zero c se c₁ h e = absurd (not-suc-le-zero h)
  and-opens (suc n) c se c₁ h e = rw (rw sub-one at e, conjunction, sub-one)

  and-opens-not : (n : ℕ) (c : Cursor) (k p : ℕ) → 0 < n → part (n - 1) deep c ≡ refused k p → conjunction n deep c ≡ refused k p
  unfolding conjunction
  and-opens-not zero c k p h e = absurd (not-suc-le-zero h)
  and-opens-not (suc n) c k p h e = rw (rw sub-one at e, conjunction)

  and-ends : (n : ℕ) (se : Search) (c : Cursor) → 0 < n → operator 38 c ≡ none → more_conjunction n deep se c ≡ got se c
  unfolding more_conjunction
  and-ends zero se c h e = absurd (not-suc-le-zero h)
  and-ends (suc n) se c h e = rw (e, more_conjunction)

  and-goes-on : (n : ℕ) (se : Search) (c c₁ : Cursor) (tf : Search) (c₂ : Cursor) → 0 < n → operator 38 c ≡ some c₁ → part (n - 1) deep c₁ ≡ got tf c₂
      → more_conjunction n deep se c ≡ more_conjunction (n - 1) deep (both se tf) c₂
  unfolding more_conjunction
  and-goes-on zero se c c₁ tf c₂ h e f = absurd (not-suc-le-zero h)
  and-goes-on (suc n) se c c₁ tf c₂ h e f = rw (e, rw sub-one at f, more_conjunction, sub-one)

  and-goes-not : (n : ℕ) (se : Search) (c c₁ : Cursor) (k p : ℕ) → 0 < n → operator 38 c ≡ some c₁ → part (n - 1) deep c₁ ≡ refused k p
      → more_conjunction n deep se c ≡ refused k p
  unfolding more_conjunction
  and-goes-not zero se c c₁ k p h e f = absurd (not-suc-le-zero h)
  and-goes-not (suc n) se c c₁ k p h e f = rw (e, rw sub-one at f, more_conjunction)

  or-opens : (n : ℕ) (c : Cursor) (se : Search) (c₁ : Cursor) → 0 < n → conjunction (n - 1) deep c ≡ got se c₁ → alternatives n deep c ≡ more_alternatives (n - 1) deep se c₁
  unfolding alternatives
  or-opens zero c se c₁ h e = absurd (not-suc-le-zero h)
  or-opens (suc n) c se c₁ h e = rw (rw sub-one at e, alternatives, sub-one)

  or-opens-not : (n : ℕ) (c : Cursor) (k p : ℕ) → 0 < n → conjunction (n - 1) deep c ≡ refused k p → alternatives n deep c ≡ refused k p
  unfolding alternatives
  or-opens-not zero c k p h e = absurd (not-suc-le-zero h)
  or-opens-not (suc n) c k p h e = rw (rw sub-one at e, alternatives)

  or-ends : (n : ℕ) (se : Search) (c : Cursor) → 0 < n → operator 124 c ≡ none → more_alternatives n deep se c ≡ got se c
  unfolding more_alternatives
  or-ends zero se c h e = absurd (not-suc-le-zero h)
  or-ends (suc n) se c h e = rw (e, more_alternatives)

  or-goes-on : (n : ℕ) (se : Search) (c c₁ : Cursor) (tf : Search) (c₂ : Cursor) → 0 < n → operator 124 c ≡ some c₁ → conjunction (n - 1) deep c₁ ≡ got tf c₂
      → more_alternatives n deep se c ≡ more_alternatives (n - 1) deep (either se tf) c₂
  unfolding more_alternatives
  or-goes-on zero se c c₁ tf c₂ h e f = absurd (not-suc-le-zero h)
  or-goes-on (suc n) se c c₁ tf c₂ h e f = rw (e, rw sub-one at f, more_alternatives, sub-one)

  or-goes-not : (n : ℕ) (se : Search) (c c₁ : Cursor) (k p : ℕ) → 0 < n → operator 124 c ≡ some c₁ → conjunction (n - 1) deep c₁ ≡ refused k p
      → more_alternatives n deep se c ≡ refused k p
  unfolding more_alternatives
  or-goes-not zero se c c₁ k p h e f = absurd (not-suc-le-zero h)
  or-goes-not (suc n) se c c₁ k p h e f = rw (e, rw sub-one at f, more_alternatives)

  pub conjoins : (script : List ℕ) → Joint script 38 1 (λ n c. part n deep c) (λ n c. conjunction n deep c) both (λ n se c. more_conjunction n deep se c)
  conjoins script = record {
    opens = and-opens;
    opens_not = and-opens-not;
    ends = and-ends;
    goes_on = and-goes-on;
    goes_not = and-goes-not;
    encodes = both-encodes script;
  }

  pub alternates : (script : List ℕ) → Joint script 124 2 (λ n c. conjunction n deep c) (λ n c. alternatives n deep c) either (λ n se c. more_alternatives n deep se c)
  alternates script = record {
    opens = or-opens;
    opens_not = or-opens-not;
    ends = or-ends;
    goes_on = or-goes-on;
    goes_not = or-goes-not;
    encodes = either-encodes script;
  }
