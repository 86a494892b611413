-- What stands in a pattern's string from one place to another. It says in the order of the string what the definitions' reader reads, so that code can go
-- over the bytes with no more than one byte looked at ahead. Assumes nothing.
use Rattle.std.specs.Prelude.{◌≡◌, Bool, true, false, ◌&&◌, List, ℕ, suc, ◌+◌, ◌≤◌, ◌<◌, min, length, drop, get_or, leb}
use Rattle.std.proofs.lemmas.List.Edits.{sets}
use Rattle.definitions.specs.Bytes.{Line}
use Rattle.definitions.specs.WordSet.{Named, byte, quoted_byte, range, is_named}
use Rattle.definitions.specs.Reader.{is_next}
use Rattle.definitions.specs.Patterns.{Pattern, one_byte, empty_row, in_row, either_of, any_number, ends_row}
use Rattle.text.specs.Cursors.{cursor_at}
use Rattle.marks.specs.Sweeping.{slots, out_of, swept}
use Rattle.marks.specs.declared.Flow.{Flow}
use Rattle.marks.specs.declared.Bytes.{Bytes}

-- A character or range that stands from a place up to another. The `-` after a byte that is not quoted always is a range's.
pub data Names (s : Line) : ℕ → Named → ℕ → Type 0 where
  quoted : {at : ℕ} → is_next 34 (cursor_at s at) ≡ true → suc at < length s → Names s at (quoted_byte (get_or s (suc at) 0)) (suc (suc at))
  ranged : {at : ℕ} → is_next 34 (cursor_at s at) ≡ false → is_next 45 (cursor_at s (suc at)) ≡ true → suc (suc at) < length s
      → Names s at (range (get_or s at 0) (get_or s (suc (suc at)) 0)) (suc (suc (suc at)))
  alone : {at : ℕ} → is_next 34 (cursor_at s at) ≡ false → is_next 45 (cursor_at s (suc at)) ≡ false → at < length s → Names s at (byte (get_or s at 0)) (suc at)

-- where a character or range begins, with or without a `~` before it
unfoldable pub after_mismatch : Bool → ℕ → ℕ
after_mismatch true at = suc at
after_mismatch false at = at

-- alternatives, a row, an item, an item after its `#` if it has one
pub data Kind : Type 0 where
  alternatives row item part : Kind

-- what stands from a place up to another, and the pattern that it is
pub data Stands (s : Line) : Kind → ℕ → Pattern → ℕ → Type 0 where
  last : {at end : ℕ} {p : Pattern} → Stands s row at p end → is_next 124 (cursor_at s end) ≡ false → Stands s alternatives at p end
  either : {at mid end : ℕ} {p q : Pattern} → Stands s row at p mid → is_next 124 (cursor_at s mid) ≡ true → Stands s alternatives (suc mid) q end
      → Stands s alternatives at (either_of p q) end
  ended : {at : ℕ} → ends_row (cursor_at s at) ≡ true → Stands s row at empty_row at
  more : {at mid end : ℕ} {p q : Pattern} → ends_row (cursor_at s at) ≡ false → Stands s item at p mid → Stands s row mid q end → Stands s row at (in_row p q) end
  once : {at end : ℕ} {p : Pattern} → is_next 35 (cursor_at s at) ≡ false → Stands s part at p end → Stands s item at p end
  many : {at end : ℕ} {p : Pattern} → is_next 35 (cursor_at s at) ≡ true → Stands s part (suc at) p end → Stands s item at (any_number p) end
  bracket : {at end : ℕ} {p : Pattern} → is_next 40 (cursor_at s at) ≡ true → Stands s alternatives (suc at) p end → is_next 41 (cursor_at s end) ≡ true
      → Stands s part at p (suc end)
  plain : {at end : ℕ} {x : Named} → is_next 40 (cursor_at s at) ≡ false → is_next 126 (cursor_at s at) ≡ false → Names s at x end
      → Stands s part at (one_byte false x) end
  mismatch : {at end : ℕ} {x : Named} → is_next 40 (cursor_at s at) ≡ false → is_next 126 (cursor_at s at) ≡ true → Names s (suc at) x end
      → Stands s part at (one_byte true x) end

-- the bytes from the least to the greatest are those that x names, which ends at a place
pub record Covers (x : Named) (end : ℕ) (c : Bytes) : Type 0 where
  pub ends : c.end ≡ end
  pub same : (b : ℕ) → is_named x b ≡ (leb c.low b && leb b c.high)

-- What the sweep of p over the byte b does, where p stands up to `end`: f before p, g after it.
pub record Flows (b : ℕ) (p : Pattern) (end : ℕ) (ms : List ℕ) (f : Flow) (ms' : List ℕ) (g : Flow) : Type 0 where
  pub at : g.at ≡ end
  pub slot : g.slot ≡ f.slot + slots p
  pub old : g.old ≡ out_of f.old p (drop f.slot ms)
  pub new : g.new ≡ out_of f.new p (swept b f.old p (drop f.slot ms))
  pub marks : ms' ≡ sets ms f.slot (swept b f.old p (drop f.slot ms))

-- such a thing stands where f is, and there are marks for it
pub record Room (s : Line) (k : Kind) (f : Flow) (ms : List ℕ) : Type 0 where
  pub pattern : Pattern
  pub end : ℕ
  pub stands : Stands s k f.at pattern end
  pub enough : f.slot + slots pattern ≤ length ms

-- the sweep of what stands where f is, whichever pattern that is
abbrev pub Swept : Line → Kind → ℕ → Flow → List ℕ → List ℕ → Flow → Type 0
Swept s k b f ms ms' g = (p : Pattern) (end : ℕ) → Stands s k f.at p end → Flows b p end ms f ms' g

-- what flows out of two alternatives, of which h is the second
unfoldable pub both : Flow → Flow → Flow
both g h = record { at = h.at; slot = h.slot; old = min g.old h.old; new = min g.new h.new }
