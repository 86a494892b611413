-- The walk's loop: what holds at its head, and what each way on and each way out comes to, by the steps of `Walk`. Assumes nothing.
use mathlib.Core.Path.{◌≡◌, refl, sym, ap, ap₂, ◌∙◌, subst}
use mathlib.Core.Bool.{Bool, true, false, cond, false≢true, and-eq-true_iff}
use mathlib.Core.List.{List, [], ◌∷◌, ◌++◌}
use Prim.Native.Nat.{ℕ, zero, suc, ◌+◌, ◌-◌, ◌≤◌, ◌<◌}
use native.Mathlib.Nat.{not-suc-le-zero}
use native.Mathlib.Omega.{arith}
use lib.ListN.{length, take, get_or}
use lib.Dec.{eqb, ltb}
use borrow.Author.Tests.{eqb-true, ltb-true}
use Rattle.definitions.specs.Bytes.{Line}
use Rattle.definitions.specs.Matching.{text, stands_in, taken}
use Rattle.definitions.specs.Patterns.{Pattern}
use Rattle.text.specs.Lines.{part}
use Rattle.marks.specs.Sweeping.{never, Reads, slots, no_marks, marks_after}
use Rattle.marks.specs.Slots.{slots-short}
use Rattle.marks.specs.Idle.{none-length, none-append}
use Rattle.marks.specs.Idling.{are_idle}
use Rattle.marks.specs.After.{after-length}
use Rattle.marks.proofs.Reading.{reads_same}
use Rattle.leads.specs.Leading.{leads_of, is_lead, NextLead}
use Rattle.leads.specs.declared.Leads.{Leads}
use Rattle.taking.specs.Ways.{anchor_of, best_of, enter_at}
use Rattle.taking.specs.Walking.{AtPlace, Walked}
use Rattle.taking.specs.declared.Way.{Way}
use Rattle.taking.specs.declared.Best.{Best}
use Rattle.taking.proofs.Walk.{walk_begins, walk-goes, walk-passes, walk-settles, walk_ends, ends-ordered, walk-idles}

-- ---- where no mark of the first n is set, none is: the others never are

all-idle : (ms : List ℕ) (k n : ℕ) → length ms ≤ n → are_idle (take n (ms ++ no_marks k)) ≡ true → ms ≡ no_marks (length ms)
unfolding are_idle no_marks
all-idle [] k n h e = refl
all-idle (m ∷ ms) k zero h e = absurd (not-suc-le-zero h)
all-idle (m ∷ ms) k (suc n) h e =
    let both = (and-eq-true_iff (eqb m never) (are_idle (take n (ms ++ no_marks k)))).0 e in
    ap₂ ◌∷◌ (eqb-true m never both.0) (all-idle ms k n (omega arith) both.1)

pub none-size : {ms : List ℕ} → ms ≡ no_marks 256 → length ms ≡ 256
none-size none = ap length none ∙ none-length 256

-- what the walk is asked for: a part of the line, a pattern with the bytes s, and the bytes that its matches begin with
pub record Asked (l : Line) (start end : ℕ) (s : List ℕ) (leads : Leads) : Type 0 where
  pub from : start ≤ end
  pub inside : end ≤ length l
  pub short : length l ≤ 255
  pub few : length s ≤ 255
  pub pattern : (p : Pattern) × Reads s p × leads ≡ leads_of p

-- the walk has come to place i
pub record Come (isWord : ℕ → Bool) (way : Way) (l : Line) (start end : ℕ) (s : List ℕ) (leads : Leads) (ms : List ℕ) (best : Best) (i : ℕ) : Type 0 where
  pub asked : Asked l start end s leads
  pub from : start ≤ i
  pub inside : i ≤ end
  pub size : length ms ≡ 256
  pub walked : (p : Pattern) → Reads s p → Walked isWord way l start end p i ms best

-- what holds at the loop's head
pub record AtHead (isWord : ℕ → Bool) (way : Way) (l : Line) (start end : ℕ) (s : List ℕ) (leads : Leads) (ms : List ℕ) (best : Best) (idle : Bool) (i : ℕ) : Type 0 where
  pub come : Come isWord way l start end s leads ms best i
  pub none : idle ≡ true → ms ≡ no_marks 256

-- the best match is what the pattern takes
abbrev pub Takes : (ℕ → Bool) → Way → Line → ℕ → ℕ → Line → Best → Type 0
Takes isWord way l start end s best =
    (p : Pattern) → Reads s p → best_of best ≡ taken (anchor_of way) way.last (stands_in isWord way.word p l) (text start end)

module _ {l : Line} {start end : ℕ} {s : List ℕ} {leads : Leads} (a : Asked l start end s leads) where
  few-slots : (p : Pattern) → Reads s p → slots p ≤ 255
  few-slots p h = omega (arith, slots-short s p h, a.few)

  leads-of : (p : Pattern) → Reads s p → leads ≡ leads_of p
  leads-of p h = subst (λ (q : Pattern). leads ≡ leads_of q) (reads_same s p a.pattern.0 h a.pattern.1) a.pattern.2

  pub begins : (isWord : ℕ → Bool) (way : Way) (ms : List ℕ) → ms ≡ no_marks 256 → Come isWord way l start end s leads ms (record { start = 65535; end = 0 }) start
  begins isWord way ms none = record {
    asked = a;
    from = omega arith;
    inside = a.from;
    size = none-size none;
    walked = λ p h. subst (λ (m : List ℕ). Walked isWord way l start end p start m (record { start = 65535; end = 0 })) (sym none)
        (walk_begins isWord way p l start end a.from a.inside a.short (few-slots p h));
  }

module _ {isWord : ℕ → Bool} {way : Way} {l : Line} {start end : ℕ} {s : List ℕ} {leads : Leads} {ms : List ℕ} {best : Best} {i : ℕ} (k : Come isWord way l start end s leads ms best i) where
  abbrev a : Asked l start end s leads
  a = k.asked

  -- the pattern has room in the marks
  pub marks-fit : (p : Pattern) × Reads s p × (slots p ≤ length ms)
  marks-fit = (a.pattern.0, a.pattern.1, omega (arith, few-slots a a.pattern.0 a.pattern.1, k.size))

  pub orders : best.start < never → best.start ≤ best.end
  orders h = ((k.walked a.pattern.0 a.pattern.1).ordered h).0

  -- a place more
  pub goes : i < end → (ms' : List ℕ) (r : Best) → length ms' ≡ length ms
      → ((p : Pattern) → Reads s p → AtPlace isWord way l start end i (get_or l i 0) p best ms ms' r) → Come isWord way l start end s leads ms' r (i + 1)
  goes here ms' r size place = record {
    asked = a;
    from = omega (arith, k.from);
    inside = omega arith;
    size = size ∙ k.size;
    walked = λ p h. walk-goes isWord way p l start end a.from a.inside a.short (few-slots a p h) i k.from k.inside ms best (k.walked p h)
        (get_or l i 0) ms' r (place p h) here refl;
  }

  -- a match is begun
  pub goes_on : (idle : Bool) → idle ≡ false → AtHead isWord way l start end s leads ms best idle i
  goes_on idle e = record { come = k; none = λ e'. absurd (false≢true (sym e ∙ e')) }

  -- none is begun
  pub none-begun : true ≡ are_idle (take (length s) ms) → ms ≡ no_marks 256
  none-begun is = go a.pattern.0 a.pattern.1
    where
      enters : ℕ → ℕ
      enters j = enter_at isWord way l start (start + j)

      go : (p : Pattern) → Reads s p → ms ≡ no_marks 256
      go p h =
          let w = k.walked p h in
          let room : slots p ≤ length s = slots-short s p h in
          let size : length (marks_after enters p (part start i l)) ≡ slots p = after-length enters p (part start i l) in
          let all : length (marks_after enters p (part start i l)) + (256 - slots p) ≡ 256 = omega (arith, few-slots a p h) in
          w.marks
          ∙ ap (λ (m : List ℕ). m ++ no_marks (256 - slots p))
          (all-idle (marks_after enters p (part start i l)) (256 - slots p) (length s) (omega arith) (ap (λ (m : List ℕ). are_idle (take (length s) m)) (sym w.marks) ∙ sym is))
          ∙ sym (none-append (length (marks_after enters p (part start i l))) (256 - slots p)) ∙ ap no_marks all

  module _ (none : ms ≡ no_marks 256) where
    pub passes : (idle : Bool) (r : ℕ) → NextLead leads l i end r → AtHead isWord way l start end s leads ms best idle r
    passes idle r next = record {
      come = record {
        asked = a;
        from = omega (arith, k.from, next.from);
        inside = next.inside;
        size = k.size;
        walked = λ p h. walk-passes isWord way p l start end a.from a.inside a.short (few-slots a p h) i k.from ms best (k.walked p h) none leads
            (leads-of a p h) r next;
      };
      none = λ e. none;
    }

    -- a match is found, and no later one can be better
    pub settles : true ≡ cond way.last false (ltb best.start never) → Takes isWord way l start end s best
    settles t p h = go way.last refl t
      where
        go : (last : Bool) → way.last ≡ last → true ≡ cond last false (ltb best.start never)
            → best_of best ≡ taken (anchor_of way) way.last (stands_in isWord way.word p l) (text start end)
        go true f u = absurd (false≢true (sym u))
        go false f u =
            walk-settles isWord way p l start end a.from a.inside a.short (few-slots a p h) i k.from k.inside ms best (k.walked p h) none
            (ltb-true best.start never (sym u)) f

  -- T's end
  module _ (there : end ≤ i) where
    at-end : (p : Pattern) → Reads s p → Walked isWord way l start end p end ms best
    at-end p h =
        let is : i ≡ end = omega (arith, k.inside) in
        subst (λ (n : ℕ). Walked isWord way l start end p n ms best) is (k.walked p h)

    pub idles : ms ≡ no_marks 256 → is_lead leads 127 ≡ false → Takes isWord way l start end s best
    idles none no_lead p h = walk-idles isWord way p l start end a.from a.inside a.short (few-slots a p h) ms best (at-end p h) none leads (leads-of a p h) no_lead

    module _ (b : ℕ) (ms' : List ℕ) (r : Best) (place : (p : Pattern) → Reads s p → AtPlace isWord way l start end end b p best ms ms' r) where
      pub end-takes : Takes isWord way l start end s r
      end-takes p h =
          walk_ends isWord way p l start end a.from a.inside a.short (few-slots a p h) end a.from (omega arith) ms best (at-end p h) b ms' r (place p h) refl

      pub end-orders : r.start < never → r.start ≤ r.end
      end-orders = go a.pattern.0 a.pattern.1
        where
          go : (p : Pattern) → Reads s p → r.start < never → r.start ≤ r.end
          go p h = ends-ordered isWord way p l start end a.from a.inside a.short (few-slots a p h) end a.from (omega arith) ms best (at-end p h) b ms' r (place p h)
