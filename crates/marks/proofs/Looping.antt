-- The loops: a row swept up to an item, alternatives swept up to a row. Assumes nothing.
use mathlib.Core.Path.{◌≡◌, refl, sym, ap, ap₂, ◌∙◌, subst}
use mathlib.Core.Bool.{Bool, true, false, true≢false}
use mathlib.Core.List.{List}
use Prim.Native.Nat.{ℕ, suc, ◌+◌, ◌≤◌, ◌<◌, min}
use native.Mathlib.Omega.{arith}
use lib.ListN.{length}
use Rattle.definitions.specs.Bytes.{Line}
use Rattle.definitions.specs.Reader.{is_next}
use Rattle.definitions.specs.Patterns.{Pattern, ends_row}
use Rattle.text.specs.Cursors.{cursor_at}
use Rattle.marks.specs.Sweeping.{never, slots}
use Rattle.marks.specs.Written.{Kind, Stands, Flows, Room, Swept, both}
use Rattle.marks.specs.declared.Flow.{Flow}
use Rattle.marks.proofs.Standing.{row-forward, item-forward, Alternatives, last, either, alternatives-parts, MoreRow, row_more, row-ended}
use Rattle.marks.proofs.Flowing.{past, another, flows-none, flows-row, flows-either}

-- ---- a row

-- The rest of the row p; what flows through it gives what flows through p.
pub record RestOfRow (s : Line) (b : ℕ) (p : Pattern) (end : ℕ) (ms₀ : List ℕ) (f : Flow) (ms : List ℕ) (g : Flow) : Type 0 where
  pub rest : Pattern
  pub stands : Stands s Kind.row g.at rest end
  pub long : g.slot + slots rest ≡ f.slot + slots p
  pub on : (ms' : List ℕ) (h : Flow) → Flows b rest end ms g ms' h → Flows b p end ms₀ f ms' h

pub record RowLoop (s : Line) (b : ℕ) (ms₀ : List ℕ) (f : Flow) (ms : List ℕ) (g : Flow) : Type 0 where
  pub far : f.at ≤ g.at
  pub same : length ms ≡ length ms₀
  pub rests : (p : Pattern) (end : ℕ) → Stands s Kind.row f.at p end → RestOfRow s b p end ms₀ f ms g

pub row-begins : (s : Line) (b : ℕ) (ms : List ℕ) (f : Flow) → RowLoop s b ms f ms f
row-begins s b ms f = record {
  far = omega arith;
  same = refl;
  rests = λ p end st. record { rest = p; stands = st; long = refl; on = λ ms' h flows. flows };
}

module _ {s : Line} {b : ℕ} {ms₀ : List ℕ} {f : Flow} {ms : List ℕ} {g : Flow} (loop : RowLoop s b ms₀ f ms g) where
  pub row_ends : ends_row (cursor_at s g.at) ≡ true → Swept s Kind.row b f ms₀ ms g
  row_ends e p end st =
      let r = loop.rests p end st in
      let none = row-ended r.stands e in
      r.on ms g (rw (none.0, none.1) (flows-none b ms g))

  module _ (e : ends_row (cursor_at s g.at) ≡ false) where
    module _ {p : Pattern} {end : ℕ} (st : Stands s Kind.row f.at p end) where
      abbrev rest : RestOfRow s b p end ms₀ f ms g
      rest = loop.rests p end st

      abbrev parts : MoreRow s g.at end rest.rest
      parts = row_more rest.stands e

      both_long : slots rest.rest ≡ slots parts.first + slots parts.second
      unfolding slots
      both_long = ap slots parts.is

    pub item_room : Room s Kind.row f ms₀ → Room s Kind.item g ms
    item_room room = record {
      pattern = (parts room.stands).first;
      end = (parts room.stands).mid;
      stands = (parts room.stands).item;
      enough = omega (arith, both_long room.stands, (rest room.stands).long, loop.same, room.enough);
    }

    module _ {ms' : List ℕ} {h : Flow} (item : Swept s Kind.item b g ms ms' h) where
      -- the item takes a byte
      pub item-past : Room s Kind.row f ms₀ → g.at < h.at
      item-past room =
          let first = parts room.stands in
          subst (λ (n : ℕ). g.at < n) (sym (item first.first first.mid first.item).at) (item-forward first.item)

      pub row_on : Room s Kind.row f ms₀ → length ms' ≡ length ms → RowLoop s b ms₀ f ms' h
      row_on room same = record {
        far = omega (arith, loop.far, item-past room);
        same = same ∙ loop.same;
        rests = λ p end st.
            let flows = item (parts st).first (parts st).mid (parts st).item in
            record {
              rest = (parts st).second;
              stands = subst (λ (n : ℕ). Stands s Kind.row n (parts st).second end) (sym flows.at) (parts st).row;
              long = omega (arith, flows.slot, both_long st, (rest st).long);
              on = λ ms'' k second. (rest st).on ms'' k (subst (λ (q : Pattern). Flows b q end ms g ms'' k) (sym (parts st).is) (flows-row b flows second));
            };
      }

-- ---- alternatives

-- what flows is the least of some places, or none
pub record Bounded (h : Flow) : Type 0 where
  pub old : h.old ≤ never
  pub new : h.new ≤ never

-- The rest of the alternatives p, from where g is; what flows through it gives, with what flowed through those before, what flows through p.
pub record RestOfAlternatives (s : Line) (b : ℕ) (p : Pattern) (end : ℕ) (ms₀ : List ℕ) (f : Flow) (ms : List ℕ) (g : Flow) : Type 0 where
  pub rest : Pattern
  pub stands : Stands s Kind.alternatives g.at rest end
  pub long : g.slot + slots rest ≡ f.slot + slots p
  pub on : (ms' : List ℕ) (h : Flow) → Bounded h → Flows b rest end ms (another f g) ms' h → Flows b p end ms₀ f ms' (both g h)

pub record AlternativesLoop (s : Line) (b : ℕ) (ms₀ : List ℕ) (f : Flow) (ms : List ℕ) (g : Flow) : Type 0 where
  pub far : f.at ≤ g.at
  pub same : length ms ≡ length ms₀
  pub rests : (p : Pattern) (end : ℕ) → Stands s Kind.alternatives f.at p end → RestOfAlternatives s b p end ms₀ f ms g

-- nothing has flowed through any alternative yet
abbrev pub none_yet : Flow → Flow
none_yet f = record { at = f.at; slot = f.slot; old = 65535; new = 65535 }

none_first : (f h : Flow) → Bounded h → h ≡ both (none_yet f) h
unfolding both never
none_first f h bounded = ap₂ (λ v w. record { at = h.at; slot = h.slot; old = v; new = w }) (least-of h.old bounded.old) (least-of h.new bounded.new)
  where
    least-of : (x : ℕ) → x ≤ 65535 → x ≡ min 65535 x
    least-of x h = omega arith

both-both : (f g h : Flow) → both f (both g h) ≡ both (both f g) h
unfolding both
both-both f g h =
    ap₂ (λ v w. record { at = h.at; slot = h.slot; old = v; new = w }) (least-of f.old g.old h.old) (least-of f.new g.new h.new)
  where
    least-of : (x y z : ℕ) → min x (min y z) ≡ min (min x y) z
    least-of x y z = omega arith

pub alternatives-begin : (s : Line) (b : ℕ) (ms : List ℕ) (f : Flow) → AlternativesLoop s b ms f ms (none_yet f)
alternatives-begin s b ms f = record {
  far = omega arith;
  same = refl;
  rests = λ p end st. record {
    rest = p;
    stands = st;
    long = refl;
    on = λ ms' h bounded flows. subst (Flows b p end ms f ms') (none_first f h bounded) flows;
  };
}

-- the first row of alternatives
row_room : {s : Line} {f : Flow} {ms : List ℕ} → Room s Kind.alternatives f ms → Room s Kind.row f ms
unfolding slots
row_room {s} {f} {ms} room = go (alternatives-parts room.stands)
  where
    go : Alternatives s f.at room.end room.pattern → Room s Kind.row f ms
    go (last row other) = record { pattern = room.pattern; end = room.end; stands = row; enough = room.enough }
    go (either q r mid is row bar rest) = record {
      pattern = q;
      end = mid;
      stands = row;
      enough = let long : slots room.pattern ≡ slots q + slots r = ap slots is in omega (arith, long, room.enough);
    }

module _ {s : Line} {b : ℕ} {ms₀ : List ℕ} {f : Flow} {ms : List ℕ} {g : Flow} (loop : AlternativesLoop s b ms₀ f ms g) where
  pub another-room : Room s Kind.alternatives f ms₀ → Room s Kind.row (another f g) ms
  another-room room =
      let rest = loop.rests room.pattern room.end room.stands in
      row_room (record { pattern = rest.rest; end = room.end; stands = rest.stands; enough = omega (arith, rest.long, loop.same, room.enough) })

  module _ {ms' : List ℕ} {h : Flow} (row : Swept s Kind.row b (another f g) ms ms' h) where
    pub another-past : Room s Kind.alternatives f ms₀ → g.at ≤ h.at
    another-past room =
        let next = another-room room in
        subst (λ (n : ℕ). g.at ≤ n) (sym (row next.pattern next.end next.stands).at) (row-forward next.stands)

    -- where the row ends
    bar-at : {q : Pattern} {mid : ℕ} {t : Bool} → Stands s Kind.row g.at q mid → is_next 124 (cursor_at s mid) ≡ t → is_next 124 (cursor_at s h.at) ≡ t
    bar-at {q} {mid} stands e = ap (λ (n : ℕ). is_next 124 (cursor_at s n)) (row q mid stands).at ∙ e

    pub alternatives-end : Bounded h → is_next 124 (cursor_at s h.at) ≡ false → Swept s Kind.alternatives b f ms₀ ms' (both g h)
    alternatives-end bounded e p end st = go (alternatives-parts rest.stands)
      where
        rest : RestOfAlternatives s b p end ms₀ f ms g
        rest = loop.rests p end st

        go : Alternatives s g.at end rest.rest → Flows b p end ms₀ f ms' (both g h)
        go (last stands other) = rest.on ms' h bounded (row rest.rest end stands)
        go (either q r mid is stands bar others) = absurd (true≢false (sym (bar-at stands bar) ∙ e))

    pub alternatives-on : Room s Kind.alternatives f ms₀ → length ms' ≡ length ms → is_next 124 (cursor_at s h.at) ≡ true
        → AlternativesLoop s b ms₀ f ms' (past (both g h))
    unfolding both slots
    alternatives-on room same e = record {
      far = omega (arith, loop.far, another-past room);
      same = same ∙ loop.same;
      rests = λ p end st. go p end (loop.rests p end st);
    }
      where
        go : (p : Pattern) (end : ℕ) → RestOfAlternatives s b p end ms₀ f ms g → RestOfAlternatives s b p end ms₀ f ms' (past (both g h))
        go p end rest = by (alternatives-parts rest.stands)
          where
            by : Alternatives s g.at end rest.rest → RestOfAlternatives s b p end ms₀ f ms' (past (both g h))
            by (last stands other) = absurd (true≢false (sym e ∙ bar-at stands other))
            by (either q r mid is stands bar others) =
                let flows = row q mid stands in
                let next : suc mid ≡ h.at + 1 = omega (arith, flows.at) in
                let size : slots rest.rest ≡ slots q + slots r = ap slots is in
                record {
                  rest = r;
                  stands = subst (λ (n : ℕ). Stands s Kind.alternatives n r end) next others;
                  long = omega (arith, flows.slot, size, rest.long);
                  on = λ ms'' k bounded second.
                      subst (Flows b p end ms₀ f ms'') (both-both g h k)
                      (rest.on ms'' (both h k) (record { old = omega (arith, bounded.old); new = omega (arith, bounded.new) })
                      (subst (λ (p : Pattern). Flows b p end ms (another f g) ms'' (both h k)) (sym is) (flows-either b flows second)));
                }
