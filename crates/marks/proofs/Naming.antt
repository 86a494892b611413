-- A character or range, by its least and its greatest byte: one law for each way out of `named`. Assumes nothing.
use mathlib.Core.Path.{◌≡◌, refl, sym, ap, ◌∙◌}
use mathlib.Core.Bool.{Bool, true, false, true≢false}
use Prim.Native.Nat.{ℕ, suc, ◌+◌, ◌<◌}
use native.Mathlib.Numerals.{add-one}
use native.Mathlib.Omega.{arith}
use lib.ListN.{length, get_or}
use borrow.Author.Tests.{eq-eqb, ne_eqb}
use Rattle.definitions.specs.Bytes.{Line}
use Rattle.definitions.specs.WordSet.{Named, is_named}
use Rattle.definitions.specs.Reader.{is_next}
use Rattle.text.specs.Cursors.{cursor_at}
use Rattle.wordset.proofs.Naming.{one_byte_lem}
use Rattle.patterns.proofs.Places.{is-next}
use Rattle.marks.specs.Written.{Names, Covers}

pub named-inside : {s : Line} {at end : ℕ} {x : Named} → Names s at x end → at < length s
named-inside {s} {at} (Names.quoted e within) = omega arith
named-inside {s} {at} (Names.ranged other e within) = omega arith
named-inside (Names.alone other none within) = within

quoted-inside : {s : Line} {at end : ℕ} {x : Named} → Names s at x end → is_next 34 (cursor_at s at) ≡ true → suc at < length s
quoted-inside (Names.quoted e within) h = within
quoted-inside (Names.ranged other e within) h = absurd (true≢false (sym h ∙ other))
quoted-inside (Names.alone other none within) h = absurd (true≢false (sym h ∙ other))

quoted-covers : {s : Line} {at end : ℕ} {x : Named} → Names s at x end → is_next 34 (cursor_at s at) ≡ true
    → Covers x end (record { low = get_or s (at + 1) 0; high = get_or s (at + 1) 0; end = at + 2 })
unfolding is_named
quoted-covers {s} {at} (Names.quoted e within) h = rw (add-one at) (record { ends = omega arith; same = λ b. one_byte_lem (get_or s (suc at) 0) b })
quoted-covers (Names.ranged other e within) h = absurd (true≢false (sym h ∙ other))
quoted-covers (Names.alone other none within) h = absurd (true≢false (sym h ∙ other))

ranged-inside : {s : Line} {at end : ℕ} {x : Named} → Names s at x end → is_next 34 (cursor_at s at) ≡ false → is_next 45 (cursor_at s (suc at)) ≡ true
    → suc (suc at) < length s
ranged-inside (Names.quoted e within) h k = absurd (true≢false (sym e ∙ h))
ranged-inside (Names.ranged other e within) h k = within
ranged-inside (Names.alone other none within) h k = absurd (true≢false (sym k ∙ none))

ranged-covers : {s : Line} {at end : ℕ} {x : Named} → Names s at x end → is_next 34 (cursor_at s at) ≡ false → is_next 45 (cursor_at s (suc at)) ≡ true
    → Covers x end (record { low = get_or s at 0; high = get_or s (at + 2) 0; end = at + 3 })
unfolding is_named
ranged-covers (Names.quoted e within) h k = absurd (true≢false (sym e ∙ h))
ranged-covers {s} {at} (Names.ranged other e within) h k =
    let place : at + 2 ≡ suc (suc at) = omega arith in
    rw place (record { ends = omega arith; same = λ b. refl })
ranged-covers (Names.alone other none within) h k = absurd (true≢false (sym k ∙ none))

alone-covers : {s : Line} {at end : ℕ} {x : Named} → Names s at x end → is_next 34 (cursor_at s at) ≡ false → is_next 45 (cursor_at s (suc at)) ≡ false
    → Covers x end (record { low = get_or s at 0; high = get_or s at 0; end = at + 1 })
unfolding is_named
alone-covers (Names.quoted e within) h k = absurd (true≢false (sym e ∙ h))
alone-covers (Names.ranged other e within) h k = absurd (true≢false (sym e ∙ k))
alone-covers {s} {at} (Names.alone other none within) h k = record { ends = omega arith; same = λ b. one_byte_lem (get_or s at 0) b }

-- ---- by the bytes that the code looks at

module _ {s : Line} {at end : ℕ} {x : Named} (names : Names s at x end) where
  module _ (e : get_or s at 0 ≡ 34) where
    quote : is_next 34 (cursor_at s at) ≡ true
    quote = is-next s at (named-inside names) 34 ∙ eq-eqb 34 (get_or s at 0) (sym e)

    pub quote-inside : at + 1 < length s
    quote-inside = omega (arith, quoted-inside names quote)

    pub quote-covers : Covers x end (record { low = get_or s (at + 1) 0; high = get_or s (at + 1) 0; end = at + 2 })
    quote-covers = quoted-covers names quote

  module _ (other : get_or s at 0 ≡ 34 → ⊥) where
    no-quote : is_next 34 (cursor_at s at) ≡ false
    no-quote = is-next s at (named-inside names) 34 ∙ ne_eqb 34 (get_or s at 0) (λ e. other (sym e))

    after : (t : Bool) → is_next 45 (cursor_at s (at + 1)) ≡ t → is_next 45 (cursor_at s (suc at)) ≡ t
    after t h = ap (λ (n : ℕ). is_next 45 (cursor_at s n)) (sym (add-one at)) ∙ h

    module _ (minus : is_next 45 (cursor_at s (at + 1)) ≡ true) where
      pub range_inside : at + 2 < length s
      range_inside = omega (arith, ranged-inside names no-quote (after true minus))

      pub range-covers : Covers x end (record { low = get_or s at 0; high = get_or s (at + 2) 0; end = at + 3 })
      range-covers = ranged-covers names no-quote (after true minus)

    pub byte-covers : is_next 45 (cursor_at s (at + 1)) ≡ false → Covers x end (record { low = get_or s at 0; high = get_or s at 0; end = at + 1 })
    byte-covers none = alone-covers names no-quote (after false none)
