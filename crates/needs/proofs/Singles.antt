-- A character, a range or a mismatch of one: the laws of `only_byte` and `single`. Assumes nothing.
use Rattle.std.specs.Prelude.{Option, Some, None}
use mathlib.Core.Path.{◌≡◌, refl, sym, ap, ◌∙◌, subst}
use mathlib.Core.Bool.{Bool, true, false, ◌&&◌, and-eq-true_iff}
use Prim.Native.Nat.{ℕ, ◌≤◌, ◌<◌}
use native.Mathlib.Omega.{arith}
use lib.ListN.{length, get_or}
use lib.Dec.{eqb, leb}
use borrow.Author.Tests.{eqb-true, eqb-false, le-leb, leb-true}
use Rattle.definitions.specs.Bytes.{Line}
use Rattle.definitions.specs.WordSet.{Named, byte, quoted_byte, range, is_named}
use Rattle.definitions.specs.Reader.{is_next}
use Rattle.definitions.specs.Patterns.{Pattern, one_byte}
use Rattle.text.specs.Cursors.{cursor_at}
use Rattle.wordset.proofs.Naming.{one_byte_lem}
use Rattle.marks.specs.Written.{after_mismatch, Names, Kind, Stands, Covers}
use Rattle.marks.specs.declared.Bytes.{Bytes}
use Rattle.marks.proofs.Singles.{single-inside, single-told}
use Rattle.needs.specs.Needing.{equal_byte, only_byte, need_of, There, Needs}
use Rattle.needs.proofs.Joining.{equal-is, equal_none}

-- ---- the byte that is named

is_within : (a b v : ℕ) → a ≤ v → v ≤ b → (leb a v && leb v b) ≡ true
is_within a b v low high = rw (le-leb a v low, le-leb v b high)

within : (a b v : ℕ) → (leb a v && leb v b) ≡ true → (a ≤ v) × (v ≤ b)
within a b v h = let both = (and-eq-true_iff (leb a v) (leb v b)).0 h in (leb-true a v both.0, leb-true v b both.1)

-- two ranges have the same bytes
abbrev SameRange : ℕ → ℕ → ℕ → ℕ → Type 0
SameRange a b l h = (v : ℕ) → (leb a v && leb v b) ≡ (leb l v && leb v h)

-- if one of them has one byte only, it is the other's
one-range : (a b l h : ℕ) → SameRange a b l h → l ≡ h → (a ≡ l) × (b ≡ l)
one-range a b l h same e =
    let there = within a b l (same l ∙ is_within l h l (omega arith) (omega arith)) in
    let low : a ≤ l = there.0 in
    let high : l ≤ b = there.1 in
    let first : l ≤ a = (within l h a (sym (same a) ∙ is_within a b a (omega arith) (omega (arith, low, high)))).0 in
    let last : b ≤ h = (within l h b (sym (same b) ∙ is_within a b b (omega (arith, low, high)) (omega arith))).1 in
    (omega (arith, low, first), omega (arith, e, high, last))

same-range : (a b l h : ℕ) → SameRange a b l h → equal_byte l h ≡ equal_byte a b
same-range a b l h same = go (eqb l h) refl (eqb a b) refl
  where
    go : (t : Bool) → eqb l h ≡ t → (u : Bool) → eqb a b ≡ u → equal_byte l h ≡ equal_byte a b
    go true e u f =
        let is = eqb-true l h e in
        let one = one-range a b l h same is in
        sym (equal-is l h is) ∙ ap Some (sym one.0) ∙ equal-is a b (one.0 ∙ sym one.1)
    go false e true f = absurd (eqb-false l h e (let one = one-range l h a b (λ v. sym (same v)) (eqb-true a b f) in one.0 ∙ sym one.1))
    go false e false f = sym (equal_none l h (eqb-false l h e)) ∙ equal_none a b (eqb-false a b f)

pub only-is : (c : Bytes) (x : Named) (end : ℕ) → Covers x end c → equal_byte c.low c.high ≡ only_byte x
unfolding only_byte is_named
only-is c (byte a) end covers = same-range a a c.low c.high (λ v. sym (one_byte_lem a v) ∙ covers.same v) ∙ sym (equal-is a a refl)
only-is c (quoted_byte a) end covers = same-range a a c.low c.high (λ v. sym (one_byte_lem a v) ∙ covers.same v) ∙ sym (equal-is a a refl)
only-is c (range a b) end covers = same-range a b c.low c.high covers.same

-- ---- the place

module _ {s : Line} {at : ℕ} (no-bracket : is_next 40 (cursor_at s at) ≡ false) where
  pub place_inside : There s Kind.part at → at < length s
  place_inside there = single-inside there.stands no-bracket

  module _ {start : ℕ} (e : start ≡ after_mismatch (eqb 126 (get_or s at 0)) at) where
    names : {end : ℕ} {p : Pattern} (stands : Stands s Kind.part at p end) → Names s start (single-told stands no-bracket).named end
    names {end} stands = subst (λ (n : ℕ). Names s n (single-told stands no-bracket).named end) (sym e) (single-told stands no-bracket).names

    pub names-there : There s Kind.part at → (x : Named) × (end : ℕ) × Names s start x end
    names-there there = ((single-told there.stands no-bracket).named, there.end, names there.stands)

    module _ (c : Bytes) (covers : (x : Named) (end : ℕ) → Names s start x end → Covers x end c) where
      single-needs : (b : Option ℕ) → ((x : Named) (end : ℕ) → Covers x end c → b ≡ need_of (one_byte (eqb 126 (get_or s at 0)) x))
          → Needs s Kind.part at (record { at = c.end; byte = b })
      single-needs b is p end stands =
          let cover = covers (single-told stands no-bracket).named end (names stands) in
          record { at = cover.ends; byte = is (single-told stands no-bracket).named end cover ∙ ap need_of (sym (single-told stands no-bracket).is) }

      pub mismatch-needs : eqb 126 (get_or s at 0) ≡ true → Needs s Kind.part at (record { at = c.end; byte = None })
      unfolding need_of
      mismatch-needs m = single-needs None (λ x end cover. rw m)

      pub plain-needs : eqb 126 (get_or s at 0) ≡ false → (b : Option ℕ) → ((x : Named) (end : ℕ) → Covers x end c → b ≡ only_byte x)
          → Needs s Kind.part at (record { at = c.end; byte = b })
      unfolding need_of
      plain-needs m b is = single-needs b (λ x end cover. rw m (is x end cover))
