-- Parts and items: the laws of `part` and `item`. Assumes nothing.
use mathlib.Core.Path.{◌≡◌, refl, sym, ap, subst}
use mathlib.Core.Bool.{true, false}
use mathlib.Core.List.{List}
use Prim.Native.Nat.{ℕ, suc, ◌+◌, ◌<◌, min}
use native.Mathlib.Numerals.{add-one}
use native.Mathlib.Omega.{arith}
use lib.ListN.{length, get_or, set}
use Rattle.definitions.specs.Bytes.{Line}
use Rattle.definitions.specs.Reader.{is_next}
use Rattle.definitions.specs.Patterns.{Pattern, any_number}
use Rattle.text.specs.Cursors.{cursor_at}
use Rattle.marks.specs.Sweeping.{never, slots}
use Rattle.marks.specs.Written.{Kind, Stands, Flows, Room, Swept}
use Rattle.marks.specs.declared.Flow.{Flow}
use Rattle.marks.proofs.Standing.{part-bracket, item-many, item-once}
use Rattle.marks.proofs.Flowing.{past, flows-many, flows-bracket}

-- a place further, as the code counts it
pub after : {s : Line} {k : Kind} {at end : ℕ} {p : Pattern} → Stands s k (suc at) p end → Stands s k (at + 1) p end
after {s} {k} {at} {end} {p} stands = subst (λ (n : ℕ). Stands s k n p end) (sym (add-one at)) stands

-- ---- a part in brackets

module _ {s : Line} {f : Flow} (opens : is_next 40 (cursor_at s f.at) ≡ true) where
  pub inner_room : {ms : List ℕ} → Room s Kind.part f ms → Room s Kind.alternatives (past f) ms
  inner_room room =
      let inner = part-bracket room.stands opens in
      record { pattern = room.pattern; end = inner.close; stands = after inner.inner; enough = room.enough }

  module _ {b : ℕ} {ms ms' : List ℕ} {g : Flow} (inner : Swept s Kind.alternatives b (past f) ms ms' g) where
    -- the `)` is there
    pub close-inside : Room s Kind.part f ms → g.at < length s
    close-inside room =
        let there = part-bracket room.stands opens in
        subst (λ (n : ℕ). n < length s) (sym (inner room.pattern there.close (after there.inner)).at) there.within

    pub bracket-flows : Swept s Kind.part b f ms ms' (past g)
    bracket-flows p end stands =
        let there = part-bracket stands opens in
        subst (λ (n : ℕ). Flows b p n ms f ms' (past g)) (sym there.is) (flows-bracket b (inner p there.close (after there.inner)))

-- ---- an item without `#`

module _ {s : Line} {f : Flow} (none : is_next 35 (cursor_at s f.at) ≡ false) where
  pub once-room : {ms : List ℕ} → Room s Kind.item f ms → Room s Kind.part f ms
  once-room room = record { pattern = room.pattern; end = room.end; stands = item-once room.stands none; enough = room.enough }

  pub once-flows : {b : ℕ} {ms ms' : List ℕ} {g : Flow} → Swept s Kind.part b f ms ms' g → Swept s Kind.item b f ms ms' g
  once-flows part p end stands = part p end (item-once stands none)

-- ---- an item with `#`

module _ {s : Line} {f : Flow} (there : is_next 35 (cursor_at s f.at) ≡ true) where
  module _ {ms : List ℕ} (room : Room s Kind.item f ms) where
    many-long : slots room.pattern ≡ suc (slots (item-many room.stands there).0)
    unfolding slots
    many-long = ap slots (item-many room.stands there).1

    pub mark-inside : f.slot < length ms
    mark-inside = omega (arith, many-long, room.enough)

    pub body-room : (v w : ℕ) → Room s Kind.part (record { at = f.at + 1; slot = f.slot + 1; old = v; new = w }) ms
    body-room v w =
        let body = item-many room.stands there in
        record { pattern = body.0; end = room.end; stands = after body.2; enough = omega (arith, many-long, room.enough) }

  pub many-flows : {b v : ℕ} {ms ms' : List ℕ} {g : Flow} → f.slot < length ms → v ≡ min f.old (get_or ms f.slot 0)
      → Swept s Kind.part b (record { at = f.at + 1; slot = f.slot + 1; old = v; new = never }) ms ms' g
      → (w : ℕ) → w ≡ min f.new g.new
      → Swept s Kind.item b f ms (set ms' f.slot g.new) (record { at = g.at; slot = g.slot; old = v; new = w })
  many-flows {b} {v} {ms} {ms'} {g} inside again part w least p end stands =
      let body = item-many stands there in
      let flows = flows-many b ms f inside (add-one f.slot) again refl (part body.0 end (after body.2)) in
      subst (λ (q : Pattern). Flows b q end ms f (set ms' f.slot g.new) (record { at = g.at; slot = g.slot; old = v; new = w })) (sym body.1)
      (subst (λ (n : ℕ). Flows b (any_number body.0) end ms f (set ms' f.slot g.new) (record { at = g.at; slot = g.slot; old = v; new = n })) (sym least) flows)
