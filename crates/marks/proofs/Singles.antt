-- A character, a range or a mismatch of one: the laws of `single` and of what it calls. Assumes nothing.
use mathlib.Core.Path.{◌≡◌, refl, sym, ap, ◌∙◌, subst}
use mathlib.Core.Bool.{Bool, true, false, true≢false, beq, cond, not, ◌&&◌}
use mathlib.Core.List.{List}
use Prim.Native.Nat.{ℕ, ◌+◌, ◌≤◌, ◌<◌}
use native.Mathlib.Omega.{arith}
use lib.ListN.{length, get_or, set}
use lib.Dec.{eqb, leb}
use Rattle.definitions.specs.Bytes.{Line}
use Rattle.definitions.specs.WordSet.{Named}
use Rattle.definitions.specs.Reader.{is_next}
use Rattle.definitions.specs.Patterns.{Pattern, fits}
use Rattle.text.specs.Cursors.{cursor_at}
use Rattle.patterns.proofs.Places.{is-next}
use Rattle.marks.specs.Sweeping.{never, slots}
use Rattle.marks.specs.Written.{after_mismatch, Names, Kind, Stands, Covers, Flows, Room, Swept}
use Rattle.marks.specs.declared.Flow.{Flow}
use Rattle.marks.specs.declared.Bytes.{Bytes}
use Rattle.marks.proofs.Standing.{Single, part-single}
use Rattle.marks.proofs.Naming.{named-inside}
use Rattle.marks.proofs.Flowing.{flows-one}

-- ---- the mark

module _ {x : Named} {end : ℕ} {c : Bytes} (covers : Covers x end c) (b old : ℕ) where
  fits_by : (m t : Bool) → (leb c.low b && leb b c.high) ≡ t → fits m x b ≡ cond m (not t) t
  unfolding fits
  fits_by true t e = ap not (covers.same b ∙ e)
  fits_by false t e = covers.same b ∙ e

  abbrev named : Bool
  named = leb c.low b && leb b c.high

  -- the byte is named where it must not be, or not named where it must be
  pub mark-none : (m : Bool) → beq named m ≡ true → never ≡ cond (fits m x b) old never
  mark-none m h = go m named refl h
    where
      go : (m t : Bool) → named ≡ t → beq t m ≡ true → never ≡ cond (fits m x b) old never
      go true true e h = rw (fits_by true true e)
      go true false e h = absurd (true≢false (sym h))
      go false true e h = absurd (true≢false (sym h))
      go false false e h = rw (fits_by false false e)

  pub mark-some : (m : Bool) → beq named m ≡ false → old ≡ cond (fits m x b) old never
  mark-some m h = go m named refl h
    where
      go : (m t : Bool) → named ≡ t → beq t m ≡ false → old ≡ cond (fits m x b) old never
      go true true e h = absurd (true≢false h)
      go true false e h = rw (fits_by true false e)
      go false true e h = rw (fits_by false true e)
      go false false e h = absurd (true≢false h)

pub start-mismatch : (m : Bool) (at : ℕ) → m ≡ true → at + 1 ≡ after_mismatch m at
unfolding after_mismatch
start-mismatch m at e = rw e (omega arith)

pub start_plain : (m : Bool) (at : ℕ) → m ≡ false → at ≡ after_mismatch m at
unfolding after_mismatch
start_plain m at e = rw e

-- ---- the place

before-start : (m : Bool) (at : ℕ) → at ≤ after_mismatch m at
unfolding after_mismatch
before-start true at = omega arith
before-start false at = omega arith

module _ {s : Line} {at end : ℕ} {p : Pattern} (stands : Stands s Kind.part at p end) (no-bracket : is_next 40 (cursor_at s at) ≡ false) where
  single : Single s at end p (is_next 126 (cursor_at s at))
  single = part-single stands no-bracket

  pub single-inside : at < length s
  single-inside = omega (arith, before-start (is_next 126 (cursor_at s at)) at, named-inside single.names)

  -- by the byte that the code looks at
  pub single-told : Single s at end p (eqb 126 (get_or s at 0))
  single-told = subst (Single s at end p) (is-next s at single-inside 126) single

module _ {s : Line} {ms : List ℕ} {f : Flow} (room : Room s Kind.part f ms) (no-bracket : is_next 40 (cursor_at s f.at) ≡ false) where
  pub place_inside : f.at < length s
  place_inside = single-inside room.stands no-bracket

  pub names-there : {start : ℕ} → start ≡ after_mismatch (eqb 126 (get_or s f.at 0)) f.at → (x : Named) × (end : ℕ) × Names s start x end
  names-there e =
      let one = single-told room.stands no-bracket in
      (one.named, room.end, subst (λ (n : ℕ). Names s n one.named room.end) (sym e) one.names)

  pub slot-inside : f.slot < length ms
  unfolding slots
  slot-inside =
      let long : slots room.pattern ≡ 1 = ap slots (single-told room.stands no-bracket).is in
      omega (arith, long, room.enough)

  pub single-flows : (b : ℕ) (start : ℕ) (c : Bytes) (mark : ℕ) → start ≡ after_mismatch (eqb 126 (get_or s f.at 0)) f.at
      → ((x : Named) (end : ℕ) → Names s start x end → Covers x end c)
      → ((x : Named) (end : ℕ) → Covers x end c → mark ≡ cond (fits (eqb 126 (get_or s f.at 0)) x b) f.old never)
      → Swept s Kind.part b f ms (set ms f.slot mark) (record { at = c.end; slot = f.slot + 1; old = get_or ms f.slot 0; new = mark })
  single-flows b start c mark e covers marks p end stands =
      let one = single-told stands no-bracket in
      let cover = covers one.named end (subst (λ (n : ℕ). Names s n one.named end) (sym e) one.names) in
      let flows = flows-one b ms f slot-inside (eqb 126 (get_or s f.at 0)) one.named c.end mark (marks one.named end cover) in
      let there : Flows b p c.end ms f (set ms f.slot mark) (record { at = c.end; slot = f.slot + 1; old = get_or ms f.slot 0; new = mark }) =
      subst (λ (q : Pattern). Flows b q c.end ms f (set ms f.slot mark) (record { at = c.end; slot = f.slot + 1; old = get_or ms f.slot 0; new = mark })) (sym one.is) flows in
      record { at = cover.ends; slot = there.slot; old = there.old; new = there.new; marks = there.marks }
