-- Laws of parts and items, one for each way out. Assumes nothing.
use Rattle.std.specs.Prelude.{Ok, Err}
use mathlib.Core.Path.{◌≡◌, refl, ap, ◌∙◌}
use mathlib.Core.Bool.{true, false}
use mathlib.Core.List.{List}
use Prim.Native.Nat.{ℕ, suc, ◌+◌, ◌-◌, ◌*◌, ◌≤◌, ◌<◌}
use native.Mathlib.Omega.{arith}
use lib.ListN.{length}
use Rattle.definitions.specs.Reader.{Got, and_then, place_at, is_next}
use Rattle.definitions.specs.Patterns.{Pattern, any_number, is_blank, cannot_stand, read_single, close_bracket, read_alternatives, read_item, read_part}
use Rattle.text.specs.Cursors.{cursor_at}
use Rattle.text.proofs.Cursors.{after-in}
use Rattle.patterns.specs.declared.Past.{Past}
use Rattle.patterns.specs.declared.Fault.{Fault}
use Rattle.patterns.specs.Reading.{Found, past-to, fault-at, Reads, PartReads, ItemReads, AlternativesRead, ClosedBy}
use Rattle.patterns.proofs.Answering.{is-past, is-fault, same_reads, rest_of, rest-reads}
use Rattle.patterns.proofs.Places.{next-within}
use Rattle.patterns.proofs.Steps.{fuelled, part-inner, part-single, part-too-deep, item-part, item-number}

module _ (s : List ℕ) (at deep : ℕ) where
  -- ---- a part

  pub no-bracket : {r : Found} → is_next 40 (cursor_at s at) ≡ false → Reads s (suc at) (read_single (cursor_at s at)) r → PartReads s at deep r
  no-bracket {r} e found = fuelled (λ n. Reads s (suc at) (read_part n deep (cursor_at s at)) r) (omega arith)
      (λ n h. same_reads found (omega arith) (part-single n deep (cursor_at s at) e))

  module _ (bracket : is_next 40 (cursor_at s at) ≡ true) where
    pub ninth-bracket : deep ≡ 0 → PartReads s at deep (Err (fault-at at))
    unfolding cannot_stand place_at
    ninth-bracket e = fuelled (λ n. Reads s (suc at) (read_part n deep (cursor_at s at)) (Err (fault-at at))) (omega arith)
        (λ n h. Reads.fault at (part-too-deep n deep (cursor_at s at) bracket e))

    module _ (some_left : deep ≡ 0 → ⊥) where
      within : at < length s
      within = next-within s at 40 (omega arith) bracket

      inside : (n : ℕ) → read_part (suc n) deep (cursor_at s at) ≡ and_then (read_alternatives n (deep - 1) (cursor_at s (at + 1))) close_bracket
      inside n = part-inner n deep (cursor_at s at) bracket some_left ∙ rw (after-in s at within)

      -- what the part comes to, where its alternatives come to x
      closes : (n : ℕ) {x : Got Pattern} → read_alternatives n (deep - 1) (cursor_at s (at + 1)) ≡ x → read_part (suc n) deep (cursor_at s at) ≡ and_then x close_bracket
      closes n e = inside n ∙ ap (λ (y : Got Pattern). and_then y close_bracket) e

      pub inner-fault : {f : Fault} → AlternativesRead s (at + 1) (deep - 1) (Err f) → PartReads s at deep (Err f)
      unfolding and_then
      inner-fault {f} inner = fuelled (λ n. Reads s (suc at) (read_part n deep (cursor_at s at)) (Err f)) (omega arith)
          (λ n h. Reads.fault f.at (closes n (is-fault (inner n (omega (arith, within))))))

      module _ {p : Past} (inner : AlternativesRead s (at + 1) (deep - 1) (Ok p)) where
        pub inner-within : (at + 1 ≤ p.next) × (p.next ≤ length s)
        inner-within = let read = is-past (inner (4 * (length s - (at + 1)) + 4) (omega arith)) in (read.after, read.within)

        pub inner-closed : {r : Found} → ClosedBy p.blank s p.next r → PartReads s at deep r
        unfolding and_then
        inner-closed {r} closing = fuelled (λ n. Reads s (suc at) (read_part n deep (cursor_at s at)) r) (omega arith)
            (λ n h.
            let read = is-past (inner n (omega (arith, within))) in
            same_reads (closing read.pattern read.same) (omega (arith, read.after)) (closes n read.is))

  -- ---- an item

  pub no_number : {r : Found} → is_next 35 (cursor_at s at) ≡ false → PartReads s at deep r → ItemReads s at deep r
  no_number {r} e found = fuelled (λ n. Reads s (suc at) (read_item n deep (cursor_at s at)) r) (omega arith)
      (λ n h. same_reads (found n (omega arith)) (omega arith) (item-part n deep (cursor_at s at) e))

  any-number : {r : Found} → is_next 35 (cursor_at s at) ≡ true → PartReads s (at + 1) deep r → ItemReads s at deep (rest_of false r)
  unfolding is_blank
  any-number {r} e found =
      let within : at < length s = next-within s at 35 (omega arith) e in
      fuelled (λ n. Reads s (suc at) (read_item n deep (cursor_at s at)) (rest_of false r)) (omega arith)
      (λ n h. rest-reads any_number false (λ q. refl) (found n (omega arith)) (omega arith)
      (item-number n deep (cursor_at s at) e ∙ rw (after-in s at within)))

  module _ (number : is_next 35 (cursor_at s at) ≡ true) where
    pub number-fault : {f : Fault} → PartReads s (at + 1) deep (Err f) → ItemReads s at deep (Err f)
    unfolding rest_of
    number-fault found = any-number number found

    pub number-solid : {p : Past} → PartReads s (at + 1) deep (Ok p) → ItemReads s at deep (Ok (past-to p.next false))
    unfolding rest_of
    number-solid found = any-number number found
