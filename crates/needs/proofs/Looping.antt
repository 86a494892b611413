-- The loops: a row read up to an item, alternatives read up to a row. Assumes nothing.
use Rattle.std.specs.Prelude.{Option, None}
use mathlib.Core.Path.{◌≡◌, sym, ap, ◌∙◌, subst}
use mathlib.Core.Bool.{Bool, true, false}
use Prim.Native.Nat.{ℕ, suc, ◌+◌, ◌≤◌, ◌<◌}
use native.Mathlib.Omega.{arith}
use Rattle.definitions.specs.Bytes.{Line}
use Rattle.definitions.specs.Reader.{is_next}
use Rattle.definitions.specs.Patterns.{Pattern, ends_row}
use Rattle.text.specs.Cursors.{cursor_at}
use Rattle.marks.specs.Written.{Kind, Stands}
use Rattle.marks.proofs.Standing.{row-forward, item-forward, Alternatives, last, either, alternatives-parts, MoreRow, row_more, row-ended}
use Rattle.needs.specs.Needing.{later_byte, same_byte, need_of, Needed, There, Needs}
use Rattle.needs.specs.declared.Need.{Need}
use Rattle.needs.proofs.Joining.{later_first, later-later, same-same}

-- ---- a row

-- The rest of the row p; its byte, with the one before it, gives that of p.
pub record RestOfRow (s : Line) (p : Pattern) (end : ℕ) (g : Need) : Type 0 where
  pub rest : Pattern
  pub stands : Stands s Kind.row g.at rest end
  pub byte : later_byte g.byte (need_of rest) ≡ need_of p

pub record RowLoop (s : Line) (at : ℕ) (g : Need) : Type 0 where
  pub far : at ≤ g.at
  pub rests : (p : Pattern) (end : ℕ) → Stands s Kind.row at p end → RestOfRow s p end g

pub row-begins : (s : Line) (at : ℕ) → RowLoop s at (record { at = at; byte = None })
row-begins s at = record { far = omega arith; rests = λ p end st. record { rest = p; stands = st; byte = later_first (need_of p) } }

module _ {s : Line} {at : ℕ} {g : Need} (loop : RowLoop s at g) where
  pub row_ends : ends_row (cursor_at s g.at) ≡ true → Needs s Kind.row at g
  unfolding need_of later_byte
  row_ends e p end st =
      let r = loop.rests p end st in
      let none = row-ended r.stands e in
      record { at = sym none.1; byte = sym (ap (λ (q : Pattern). later_byte g.byte (need_of q)) none.0) ∙ r.byte }

  module _ (e : ends_row (cursor_at s g.at) ≡ false) where
    module _ {p : Pattern} {end : ℕ} (st : Stands s Kind.row at p end) where
      abbrev rest : RestOfRow s p end g
      rest = loop.rests p end st

      abbrev parts : MoreRow s g.at end rest.rest
      parts = row_more rest.stands e

    pub item-there : There s Kind.row at → There s Kind.item g.at
    item-there there = record { pattern = (parts there.stands).first; end = (parts there.stands).mid; stands = (parts there.stands).item }

    module _ {h : Need} (item : Needs s Kind.item g.at h) where
      -- the item takes a byte
      pub item-past : There s Kind.row at → g.at < h.at
      item-past there =
          let first = parts there.stands in
          omega (arith, (item first.first first.mid first.item).at, item-forward first.item)

      pub row_on : There s Kind.row at → (b : Option ℕ) → b ≡ later_byte g.byte h.byte → RowLoop s at (record { at = h.at; byte = b })
      unfolding need_of
      row_on there b is = record { far = omega (arith, loop.far, item-past there); rests = λ p end st. on st }
        where
          on : {p : Pattern} {end : ℕ} → Stands s Kind.row at p end → RestOfRow s p end (record { at = h.at; byte = b })
          on {p} {end} st =
              let need = item (parts st).first (parts st).mid (parts st).item in
              record {
                rest = (parts st).second;
                stands = subst (λ (n : ℕ). Stands s Kind.row n (parts st).second end) (sym need.at) (parts st).row;
                byte =
                    ap (λ (n : Option ℕ). later_byte n (need_of (parts st).second)) (is ∙ ap (later_byte g.byte) need.byte)
                    ∙ later-later g.byte (need_of (parts st).first) (need_of (parts st).second)
                    ∙ ap (later_byte g.byte) (sym (ap need_of (parts st).is))
                    ∙ (rest st).byte;
              }

-- ---- alternatives

-- Another row follows g, and then the rest of the alternatives p.
pub record RestOfAlternatives (s : Line) (p : Pattern) (end : ℕ) (g : Need) : Type 0 where
  pub rest : Pattern
  pub stands : Stands s Kind.alternatives (g.at + 1) rest end
  pub byte : same_byte g.byte (need_of rest) ≡ need_of p

-- another follows, or that was all
unfoldable pub Following : Bool → Line → Pattern → ℕ → Need → Type 0
Following true s p end g = RestOfAlternatives s p end g
Following false s p end g = Needed p end g

pub record AlternativesLoop (s : Line) (at : ℕ) (g : Need) : Type 0 where
  pub far : at ≤ g.at
  pub follows : (p : Pattern) (end : ℕ) → Stands s Kind.alternatives at p end → Following (is_next 124 (cursor_at s g.at)) s p end g

-- the first row of alternatives
pub row-there : {s : Line} {at : ℕ} → There s Kind.alternatives at → There s Kind.row at
row-there {s} {at} there = go (alternatives-parts there.stands)
  where
    go : Alternatives s at there.end there.pattern → There s Kind.row at
    go (last row other) = record { pattern = there.pattern; end = there.end; stands = row }
    go (either q r mid is row bar rest) = record { pattern = q; end = mid; stands = row }

module _ {s : Line} {at : ℕ} {g : Need} (row : Needs s Kind.row at g) where
  row-past : There s Kind.row at → at ≤ g.at
  row-past there = omega (arith, (row there.pattern there.end there.stands).at, row-forward there.stands)

  first-row : {p : Pattern} {end : ℕ} → Alternatives s at end p → Following (is_next 124 (cursor_at s g.at)) s p end g
  unfolding Following need_of
  first-row {p} {end} (last stands other) =
      let need = row p end stands in
      subst (λ (t : Bool). Following t s p end g) (sym (ap (λ (n : ℕ). is_next 124 (cursor_at s n)) need.at ∙ other)) need
  first-row {p} {end} (either q r mid is stands bar rest) =
      let need = row q mid stands in
      let next : suc mid ≡ g.at + 1 = omega (arith, need.at) in
      subst (λ (t : Bool). Following t s p end g) (sym (ap (λ (n : ℕ). is_next 124 (cursor_at s n)) need.at ∙ bar)) (record {
        rest = r;
        stands = subst (λ (n : ℕ). Stands s Kind.alternatives n r end) next rest;
        byte = ap (λ (n : Option ℕ). same_byte n (need_of r)) need.byte ∙ sym (ap need_of is);
      })

  pub alternatives-begin : There s Kind.alternatives at → AlternativesLoop s at g
  alternatives-begin there = record { far = row-past (row-there there); follows = λ p end st. first-row (alternatives-parts st) }

module _ {s : Line} {at : ℕ} {g : Need} (loop : AlternativesLoop s at g) where
  pub alternatives-end : is_next 124 (cursor_at s g.at) ≡ false → Needs s Kind.alternatives at g
  unfolding Following
  alternatives-end e p end st = subst (λ (t : Bool). Following t s p end g) e (loop.follows p end st)

  module _ (bar : is_next 124 (cursor_at s g.at) ≡ true) where
    rests : (p : Pattern) (end : ℕ) → Stands s Kind.alternatives at p end → RestOfAlternatives s p end g
    unfolding Following
    rests p end st = subst (λ (t : Bool). Following t s p end g) bar (loop.follows p end st)

    pub another-there : There s Kind.alternatives at → There s Kind.row (g.at + 1)
    another-there there =
        let rest = rests there.pattern there.end there.stands in
        row-there (record { pattern = rest.rest; end = there.end; stands = rest.stands })

    module _ {h : Need} (row : Needs s Kind.row (g.at + 1) h) where
      pub another-past : There s Kind.alternatives at → g.at < h.at
      another-past there = omega (arith, row-past row (another-there there))

      module _ (b : Option ℕ) (is : b ≡ same_byte g.byte h.byte) where
        joins : {p : Pattern} {end : ℕ} (rest : RestOfAlternatives s p end g) (t : Bool) → Following t s rest.rest end h
            → Following t s p end (record { at = h.at; byte = b })
        unfolding Following
        joins rest false need = record { at = need.at; byte = is ∙ ap (same_byte g.byte) need.byte ∙ rest.byte }
        joins rest true more = record {
          rest = more.rest;
          stands = more.stands;
          byte =
              ap (λ (n : Option ℕ). same_byte n (need_of more.rest)) is
              ∙ same-same g.byte h.byte (need_of more.rest)
              ∙ ap (same_byte g.byte) more.byte
              ∙ rest.byte;
        }

        pub alternatives-on : There s Kind.alternatives at → AlternativesLoop s at (record { at = h.at; byte = b })
        alternatives-on there = record {
          far = omega (arith, loop.far, another-past there);
          follows = λ p end st. joins (rests p end st) (is_next 124 (cursor_at s h.at)) (first-row row (alternatives-parts (rests p end st).stands));
        }
