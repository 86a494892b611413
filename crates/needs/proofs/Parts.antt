-- Parts and items: the laws of `part` and `item`. Assumes nothing.
use Rattle.std.specs.Prelude.{None}
use mathlib.Core.Path.{◌≡◌, sym, ap}
use mathlib.Core.Bool.{true, false}
use Prim.Native.Nat.{ℕ, ◌+◌, ◌<◌}
use native.Mathlib.Omega.{arith}
use lib.ListN.{length}
use Rattle.definitions.specs.Bytes.{Line}
use Rattle.definitions.specs.Reader.{is_next}
use Rattle.text.specs.Cursors.{cursor_at}
use Rattle.marks.specs.Written.{Kind}
use Rattle.marks.proofs.Standing.{part-bracket, item-many, item-once}
use Rattle.marks.proofs.Parts.{after}
use Rattle.needs.specs.Needing.{need_of, There, Needs}
use Rattle.needs.specs.declared.Need.{Need}

-- ---- a part in brackets

module _ {s : Line} {at : ℕ} (opens : is_next 40 (cursor_at s at) ≡ true) where
  pub inner-there : There s Kind.part at → There s Kind.alternatives (at + 1)
  inner-there there =
      let inner = part-bracket there.stands opens in
      record { pattern = there.pattern; end = inner.close; stands = after inner.inner }

  module _ {r : Need} (inner : Needs s Kind.alternatives (at + 1) r) where
    -- the `)` is there
    pub close-inside : There s Kind.part at → r.at < length s
    close-inside there =
        let bracket = part-bracket there.stands opens in
        omega (arith, bracket.within, (inner there.pattern bracket.close (after bracket.inner)).at)

    pub bracket-needs : Needs s Kind.part at (record { at = r.at + 1; byte = r.byte })
    bracket-needs p end stands =
        let bracket = part-bracket stands opens in
        let need = inner p bracket.close (after bracket.inner) in
        record { at = omega (arith, bracket.is, need.at); byte = need.byte }

-- ---- an item without `#`

module _ {s : Line} {at : ℕ} (none : is_next 35 (cursor_at s at) ≡ false) where
  pub once-there : There s Kind.item at → There s Kind.part at
  once-there there = record { pattern = there.pattern; end = there.end; stands = item-once there.stands none }

  pub once-needs : {r : Need} → Needs s Kind.part at r → Needs s Kind.item at r
  once-needs part p end stands = part p end (item-once stands none)

-- ---- an item with `#`

module _ {s : Line} {at : ℕ} (sign : is_next 35 (cursor_at s at) ≡ true) where
  pub body-there : There s Kind.item at → There s Kind.part (at + 1)
  body-there there =
      let body = item-many there.stands sign in
      record { pattern = body.0; end = there.end; stands = after body.2 }

  pub many-needs : {r : Need} → Needs s Kind.part (at + 1) r → Needs s Kind.item at (record { at = r.at; byte = None })
  unfolding need_of
  many-needs part p end stands =
      let body = item-many stands sign in
      record { at = (part body.0 end (after body.2)).at; byte = sym (ap need_of body.1) }
