-- The walk over T, from place to place. Assumes nothing.
use mathlib.Core.Path.{◌≡◌, refl, sym, ap, ap₂, ◌∙◌, subst}
use mathlib.Core.Bool.{Bool, true, false, cond}
use mathlib.Core.Option.{Option, none, some}
use mathlib.Core.List.{List, [], ◌∷◌, ◌++◌}
use Prim.Native.Nat.{ℕ, zero, suc, ◌+◌, ◌-◌, ◌≤◌, ◌<◌}
use native.Mathlib.Nat.{add-zero}
use native.Mathlib.Decide.{dec_lt}
use native.Mathlib.Omega.{arith}
use lib.ListN.{length, take, drop, get_or}
use lib.Seq.{take_at, drop_at}
use lib.Dec.{ltb}
use borrow.Author.Tests.{ltb-true, ltb-false, lt-ltb, le-leb, lt-leb}
use Rattle.definitions.specs.Bytes.{Line}
use Rattle.definitions.specs.Matching.{anywhere, text, Match, matched, stands_in, to_place, taken}
use Rattle.definitions.specs.Patterns.{Pattern}
use Rattle.theorems.specs.TakenByPlaces.{better_of, later_of}
use Rattle.theorems.proofs.TakenByPlaces.{anchored-is, leftmost-empty, leftmost-further, rightmost-empty, rightmost-further}
use Rattle.text.specs.Lines.{part}
use Rattle.text.proofs.Parts.{part_none, part-more, part_join, part_length}
use Rattle.marks.specs.Sweeping.{never, slots, out_of, swept, no_marks, marks_from, marks_after, takes_none, begins}
use Rattle.marks.specs.Fronts.{out-front, swept-front}
use Rattle.marks.specs.Idle.{none-length, none-append, idle-out, idle-stays}
use Rattle.marks.specs.After.{marks-append, after-length}
use Rattle.marks.specs.Ends.{Ends, out-sound}
use Rattle.leads.specs.Leading.{leads_of, is_lead, NextLead}
use Rattle.leads.specs.Passing.{lead-false}
use Rattle.leads.specs.declared.Leads.{Leads}
use Rattle.taking.specs.Ways.{anchor_of, best_of, best_with, better_by, ending_at, enter_at, ends_at}
use Rattle.taking.specs.Walking.{AtPlace, so_far, stands_by, Walked}
use Rattle.taking.specs.declared.Way.{Way}
use Rattle.taking.specs.declared.Best.{Best}
use Rattle.taking.proofs.Ending.{enter-only, out_at, to_out, out-order, below-never}

-- ---- the better one

module _ (best : Best) (start i : ℕ) where
  plain-better : (s t : Bool) → ltb start never ≡ s → ltb best.start start ≡ t
      → best_of (cond s (cond t best (record { start = start; end = i })) best) ≡ better_of (best_of best) (cond s (some (matched start (i - start))) none)
  unfolding best_of ending_at better_of
  plain-better true true e f = go (ltb best.start never) refl
    where
      go : (u : Bool) → ltb best.start never ≡ u
          → cond u (some (matched best.start (best.end - best.start))) none ≡ better_of (cond u (some (matched best.start (best.end - best.start))) none) (some (matched start (i - start)))
      go true k = rw (lt-leb start best.start (ltb-true best.start start f)) refl
      go false k =
          let no : ⊥ = omega (arith, ltb-false best.start never k, ltb-true start never e, ltb-true best.start start f) in
          absurd no
  plain-better true false e f = rw e (go (ltb best.start never))
    where
      go : (u : Bool) → some (matched start (i - start)) ≡ better_of (cond u (some (matched best.start (best.end - best.start))) none) (some (matched start (i - start)))
      go true = rw (le-leb start best.start (ltb-false best.start start f)) refl
      go false = refl
  plain-better false t e f = go (ltb best.start never)
    where
      go : (u : Bool) → cond u (some (matched best.start (best.end - best.start))) none ≡ better_of (cond u (some (matched best.start (best.end - best.start))) none) none
      go true = refl
      go false = refl

  later-better : (s : Bool) → ltb start never ≡ s → best_of (cond s (record { start = start; end = i }) best) ≡ later_of (best_of best) (cond s (some (matched start (i - start))) none)
  unfolding best_of ending_at later_of
  later-better true e = rw e refl
  later-better false e = refl

  pub with-better : (last : Bool) → best_of (best_with last best start i) ≡ better_by last (best_of best) (ending_at start i)
  unfolding best_with better_by ending_at
  with-better true = later-better (ltb start never) refl
  with-better false = plain-better (ltb start never) (ltb best.start start) refl refl

  -- the best match begins no later than it ends, which is before a place
  pub with-ordered : (last : Bool) (k : ℕ) → (best.start < never → (best.start ≤ best.end) × (best.end < k)) → (start < never → (start ≤ i) × (i < k))
      → (best_with last best start i).start < never → ((best_with last best start i).start ≤ (best_with last best start i).end) × ((best_with last best start i).end < k)
  unfolding best_with
  with-ordered last k f g = go (ltb start never) last (ltb best.start start)
    where
      new : Best
      new = record { start = start; end = i }

      Orders : Best → Type 0
      Orders r = r.start < never → (r.start ≤ r.end) × (r.end < k)

      go : (s u t : Bool) → Orders (cond s (cond u new (cond t best new)) best)
      go true true t = g
      go true false true = f
      go true false false = g
      go false u t = f

stays : (last : Bool) (o : Option Match) → better_by last o none ≡ o
unfolding better_by later_of better_of
stays true o = refl
stays false none = refl
stays false (some m) = refl

from-none : (last : Bool) (o : Option Match) → better_by last none o ≡ o
unfolding better_by later_of better_of
from-none true none = refl
from-none true (some m) = refl
from-none false o = refl

-- ---- all places

pub all-places : (last : Bool) (stands : ℕ → ℕ → Bool) (start k : ℕ) → so_far last stands start (suc k) ≡ taken anywhere last stands (text start (start + k))
unfolding so_far better_by
all-places last stands start zero =
    from-none last (to_place stands start (start + 0)) ∙ ap (to_place stands start) (add-zero start) ∙ sym (empty last) ∙ ap (λ (e : ℕ). taken anywhere last stands (text start e)) (sym (add-zero start))
  where
    empty : (last : Bool) → taken anywhere last stands (text start start) ≡ to_place stands start start
    empty true = rightmost-empty stands start
    empty false = leftmost-empty stands start
all-places last stands start (suc k) =
    let next : start + suc k ≡ suc (start + k) = omega arith in
    ap (λ (o : Option Match). better_by last o (to_place stands start (start + suc k))) (all-places last stands start k)
    ∙ ap (λ (e : ℕ). better_by last (taken anywhere last stands (text start (start + k))) (to_place stands start e)) next
    ∙ sym (further last) ∙ ap (λ (e : ℕ). taken anywhere last stands (text start e)) (sym next)
  where
    further : (last : Bool) → taken anywhere last stands (text start (suc (start + k))) ≡ better_by last (taken anywhere last stands (text start (start + k))) (to_place stands start (suc (start + k)))
    further true = rightmost-further stands start (start + k) (omega arith)
    further false = leftmost-further stands start (start + k) (omega arith)

module _ (isWord : ℕ → Bool) (way : Way) (p : Pattern) (l : Line) (start end : ℕ) (from : start ≤ end) (inside : end ≤ length l) (short : length l ≤ 255) (few : slots p ≤ 255) where
  abbrev enters : ℕ → ℕ
  enters j = enter_at isWord way l start (start + j)

  abbrev marks_to : ℕ → List ℕ
  marks_to i = marks_after enters p (part start i l)

  abbrev spare : List ℕ
  spare = no_marks (256 - slots p)

  -- what the walk over T comes to
  whole : so_far way.last (stands_by isWord way p l start end) start (suc (end - start)) ≡ taken (anchor_of way) way.last (stands_in isWord way.word p l) (text start end)
  whole =
      let to : start + (end - start) ≡ end = omega arith in
      all-places way.last (stands_by isWord way p l start end) start (end - start)
      ∙ ap (λ (e : ℕ). taken anywhere way.last (stands_by isWord way p l start end) (text start e)) to
      ∙ sym (anchored-is (stands_in isWord way.word p l) start end (anchor_of way) way.last from)

  -- ---- the marks

  none-all : no_marks (slots p) ++ spare ≡ no_marks 256
  none-all = let n : slots p + (256 - slots p) ≡ 256 = omega arith in sym (none-append (slots p) (256 - slots p)) ∙ ap no_marks n

  pub walk_begins : Walked isWord way l start end p start (no_marks 256) (record { start = 65535; end = 0 })
  unfolding best_of ending_at never so_far marks_after marks_from
  walk_begins = record {
    marks = sym (ap (λ (s : List ℕ). marks_after enters p s ++ spare) (part_none l start) ∙ none-all);
    found = let z : start - start ≡ 0 = omega arith in rw z refl;
    ordered = λ h. omega arith;
  }

  module _ (i : ℕ) (low : start ≤ i) (high : i ≤ end) (ms : List ℕ) (best : Best) (w : Walked isWord way l start end p i ms best) where
    out-at : out_of (enter_at isWord way l start i) p ms ≡ out_at isWord way p l start end i low (omega arith) short
    out-at = ap (out_of (enter_at isWord way l start i) p) w.marks ∙ out-front (enter_at isWord way l start i) p (marks_to i) spare (after-length enters p (part start i l))

    -- the marks after the byte at i
    one_more : i < end → marks_to (i + 1) ≡ swept (get_or l i 0) (enter_at isWord way l start i) p (marks_to i)
    unfolding marks_after marks_from
    one_more h =
        let to : start + (length (part start i l) + 0) ≡ i = ap (λ (n : ℕ). start + (n + 0)) (part_length l start i (omega arith)) ∙ (omega arith) in
        ap (marks_after enters p) (part-more l start i low (omega arith)) ∙ marks-append enters p (no_marks (slots p)) (part start i l) (get_or l i 0 ∷ [])
        ∙ ap (λ (n : ℕ). swept (get_or l i 0) (enter_at isWord way l start n) p (marks_to i)) to

    moved_marks : i < end → swept (get_or l i 0) (enter_at isWord way l start i) p ms ++ drop (slots p) ms ≡ marks_to (i + 1) ++ spare
    moved_marks h =
        let size : length (marks_to i) ≡ slots p = after-length enters p (part start i l) in
        ap₂ ◌++◌
        (ap (swept (get_or l i 0) (enter_at isWord way l start i) p) w.marks ∙ swept-front (get_or l i 0) (enter_at isWord way l start i) p (marks_to i) spare size ∙ sym (one_more h))
        (ap (drop (slots p)) w.marks ∙ drop_at (marks_to i) spare (slots p) size)

    -- ---- the best match, place i counted too

    next-found : so_far way.last (stands_by isWord way p l start end) start (suc (i - start))
        ≡ better_by way.last (best_of best) (cond (ends_at isWord way l end i) (ending_at (out_of (enter_at isWord way l start i) p ms) i) none)
    unfolding so_far
    next-found =
        let to : start + (i - start) ≡ i = omega arith in
        ap₂ (better_by way.last) (sym w.found)
        (ap (to_place (stands_by isWord way p l start end) start) to ∙ to_out isWord way p l start end i low (omega arith) short
        ∙ ap (λ (o : ℕ). cond (ends_at isWord way l end i) (ending_at o i) none) (sym out-at))

    module _ (b : ℕ) (ms' : List ℕ) (r : Best) (at : AtPlace isWord way l start end i b p best ms ms' r) where
      best-found : best_of r ≡ so_far way.last (stands_by isWord way p l start end) start (suc (i - start))
      best-found = ap best_of at.better ∙ go (ends_at isWord way l end i) ∙ sym next-found
        where
          go : (t : Bool) → best_of (cond t (best_with way.last best (out_of (enter_at isWord way l start i) p ms) i) best)
              ≡ better_by way.last (best_of best) (cond t (ending_at (out_of (enter_at isWord way l start i) p ms) i) none)
          go true = with-better best (out_of (enter_at isWord way l start i) p ms) i way.last
          go false = sym (stays way.last (best_of best))

      best-ordered : r.start < never → (r.start ≤ r.end) × (r.end < i + 1)
      best-ordered = subst (λ (x : Best). x.start < never → (x.start ≤ x.end) × (x.end < i + 1)) (sym at.better) (go (ends_at isWord way l end i) refl)
        where
          old : best.start < never → (best.start ≤ best.end) × (best.end < i + 1)
          old h = let q : (best.start ≤ best.end) × (best.end < i) = w.ordered h in (q.0, omega (arith, q.1))

          new : ends_at isWord way l end i ≡ true → out_of (enter_at isWord way l start i) p ms < never → (out_of (enter_at isWord way l start i) p ms ≤ i) × (i < i + 1)
          new e h = (rw out-at (out-order isWord way p l start end i low (omega arith) short (rw out-at at h) (rw e tt)), omega arith)

          go : (t : Bool) → ends_at isWord way l end i ≡ t
              → (cond t (best_with way.last best (out_of (enter_at isWord way l start i) p ms) i) best).start < never
              → ((cond t (best_with way.last best (out_of (enter_at isWord way l start i) p ms) i) best).start ≤ (cond t (best_with way.last best (out_of (enter_at isWord way l start i) p ms) i) best).end)
              × ((cond t (best_with way.last best (out_of (enter_at isWord way l start i) p ms) i) best).end < i + 1)
          go true e = with-ordered best (out_of (enter_at isWord way l start i) p ms) i way.last (i + 1) old (new e)
          go false e = old

      -- a place further
      pub walk-goes : i < end → b ≡ get_or l i 0 → Walked isWord way l start end p (i + 1) ms' r
      walk-goes h e = record {
        marks = at.moved ∙ ap (λ (x : ℕ). swept x (enter_at isWord way l start i) p ms ++ drop (slots p) ms) e ∙ moved_marks h;
        found = best-found ∙ ap (so_far way.last (stands_by isWord way p l start end) start) (let n : suc (i - start) ≡ (i + 1) - start = omega arith in n);
        ordered = best-ordered;
      }

      -- T's end
      pub walk_ends : i ≡ end → best_of r ≡ taken (anchor_of way) way.last (stands_in isWord way.word p l) (text start end)
      walk_ends e = best-found ∙ ap (λ (j : ℕ). so_far way.last (stands_by isWord way p l start end) start (suc (j - start))) e ∙ whole

      pub ends-ordered : r.start < never → r.start ≤ r.end
      ends-ordered h = (best-ordered h).0

    -- ---- where no match is begun

    module _ (idle : ms ≡ no_marks 256) where
      idle-marks : marks_to i ≡ no_marks (slots p)
      idle-marks =
          let size : length (marks_to i) ≡ slots p = after-length enters p (part start i l) in
          sym (take_at (marks_to i) spare (slots p) size) ∙ ap (take (slots p)) (sym w.marks ∙ idle ∙ sym none-all)
          ∙ take_at (no_marks (slots p)) spare (slots p) (none-length (slots p))

      module _ (none-taken : takes_none p ≡ false) where
        nothing-out : out_of (enter_at isWord way l start i) p ms ≡ never
        nothing-out =
            ap (out_of (enter_at isWord way l start i) p) w.marks ∙ out-front (enter_at isWord way l start i) p (marks_to i) spare (after-length enters p (part start i l))
            ∙ ap (out_of (enter_at isWord way l start i) p) idle-marks ∙ idle-out (enter_at isWord way l start i) p none-taken

        same-found : best_of best ≡ so_far way.last (stands_by isWord way p l start end) start (suc (i - start))
        unfolding ending_at never
        same-found =
            sym (next-found ∙ ap (λ (o : ℕ). better_by way.last (best_of best) (cond (ends_at isWord way l end i) (ending_at o i) none)) nothing-out
            ∙ ap (better_by way.last (best_of best)) (go (ends_at isWord way l end i)) ∙ stays way.last (best_of best))
          where
            go : (t : Bool) → cond {A = Option Match} t none none ≡ none
            go true = refl
            go false = refl

        idle-goes : i < end → begins p (get_or l i 0) ≡ false → Walked isWord way l start end p (i + 1) ms best
        idle-goes h e = record {
          marks = w.marks ∙ ap (λ (m : List ℕ). m ++ spare)
              (idle-marks ∙ sym (one_more h ∙ ap (swept (get_or l i 0) (enter_at isWord way l start i) p) idle-marks ∙ idle-stays (get_or l i 0) (enter_at isWord way l start i) p e));
          found = same-found ∙ ap (so_far way.last (stands_by isWord way p l start end) start) (let n : suc (i - start) ≡ (i + 1) - start = omega arith in n);
          ordered = λ h. let q : (best.start ≤ best.end) × (best.end < i) = w.ordered h in (q.0, omega (arith, q.1));
        }

  -- places are passed where no match begins
  passed : (i : ℕ) → start ≤ i → (best : Best) → (leads : Leads) → leads ≡ leads_of p → (r : ℕ) → NextLead leads l i end r
      → Walked isWord way l start end p i (no_marks 256) best → (k : ℕ) → i + k ≤ r → Walked isWord way l start end p (i + k) (no_marks 256) best
  passed i low best leads lead r next w zero h = subst (λ (n : ℕ). Walked isWord way l start end p n (no_marks 256) best) (sym (add-zero i)) w
  passed i low best leads lead r next w (suc k) h =
      let here : Walked isWord way l start end p (i + k) (no_marks 256) best = passed i low best leads lead r next w k (omega arith) in
      let none : (takes_none p ≡ false) × (begins p (get_or l (i + k) 0) ≡ false) = lead-false p (get_or l (i + k) 0) (subst (λ (r : Leads). is_lead r (get_or l (i + k) 0) ≡ false) lead (next.passed (i + k) (omega arith) (omega arith))) in
      subst (λ (n : ℕ). Walked isWord way l start end p n (no_marks 256) best) (let n : i + k + 1 ≡ i + suc k = omega arith in n)
      (idle-goes (i + k) (omega arith) (omega (arith, next.inside)) (no_marks 256) best here refl none.0 (omega (arith, next.inside)) none.1)

  pub walk-passes : (i : ℕ) → start ≤ i → (ms : List ℕ) (best : Best) → Walked isWord way l start end p i ms best → ms ≡ no_marks 256
      → (leads : Leads) → leads ≡ leads_of p → (r : ℕ) → NextLead leads l i end r → Walked isWord way l start end p r ms best
  walk-passes i low ms best w idle leads lead r next =
      let n : i + (r - i) ≡ r = omega (arith, next.from) in
      subst (λ (m : List ℕ). Walked isWord way l start end p r m best) (sym idle)
      (subst (λ (k : ℕ). Walked isWord way l start end p k (no_marks 256) best) n
      (passed i low best leads lead r next (subst (λ (m : List ℕ). Walked isWord way l start end p i m best) idle w) (r - i) (omega (arith, next.from))))

  -- T's end, where no match is begun and none is empty
  pub walk-idles : (ms : List ℕ) (best : Best) → Walked isWord way l start end p end ms best → ms ≡ no_marks 256 → (leads : Leads) → leads ≡ leads_of p → is_lead leads 127 ≡ false
      → best_of best ≡ taken (anchor_of way) way.last (stands_in isWord way.word p l) (text start end)
  walk-idles ms best w idle leads lead e =
      same-found end from (omega arith) ms best w idle (lead-false p 127 (subst (λ (r : Leads). is_lead r 127 ≡ false) lead e)).0 ∙ whole

  -- ---- where the best is settled

  module _ (i : ℕ) (low : start ≤ i) (high : i ≤ end) (best : Best) (w : Walked isWord way l start end p i (no_marks 256) best) where
    -- what is entered from place i on
    abbrev enters_on : ℕ → ℕ
    enters_on j = enters (length (part start i l) + j)

    before-i : start + length (part start i l) ≡ i
    before-i = ap (λ (n : ℕ). start + n) (part_length l start i (omega arith)) ∙ (omega arith)

    module _ (e : ℕ) (k : i ≤ e) (h : e ≤ end) where
      marks-on : marks_to e ≡ marks_after enters_on p (part i e l)
      unfolding marks_after
      marks-on =
          ap (marks_after enters p) (sym (part_join l start i e low k)) ∙ marks-append enters p (no_marks (slots p)) (part start i l) (part i e l)
          ∙ ap (λ (m : List ℕ). marks_from enters_on p m (part i e l)) (idle-marks i low high (no_marks 256) best w refl)

      abbrev out_now : ℕ
      out_now = out_at isWord way p l start end e (omega arith) (omega arith) short

      out-on : out_of (enters_on (length (part i e l))) p (marks_after enters_on p (part i e l)) ≡ out_now
      out-on =
          let to : start + (length (part start i l) + length (part i e l)) ≡ e = omega (arith, before-i, part_length l i e (omega arith)) in
          ap₂ (λ (n : ℕ) (m : List ℕ). out_of (enter_at isWord way l start n) p m) to (sym marks-on)

      -- what ends from place i on begins there or later
      later : i ≤ out_now
      unfolding Ends
      later = go (dec_lt out_now i)
        where
          early : out_now < i → ⊥
          early c =
              let t : out_now < never = omega (arith, below-never i (omega arith)) in
              let ends : Ends enters_on p (part i e l) out_now = out-sound enters_on p (part i e l) out_now t (rw out-on (omega arith)) in
              omega (arith, (enter-only isWord way l start (start + (length (part start i l) + length ends.0)) out_now t ends.3).0, ends.3, before-i)

          go : Dec (out_now < i) → i ≤ out_now
          go (yes c) = absurd (early c)
          go (no c) = omega arith

    module _ (found : best.start < never) (plain : way.last ≡ false) where
      keeps : (e : ℕ) → i ≤ e → e ≤ end → better_by way.last (best_of best) (to_place (stands_by isWord way p l start end) start e) ≡ best_of best
      unfolding best_of ending_at better_by better_of
      keeps e k h =
          ap₂ (λ (t : Bool) (o : Option Match). better_by t (best_of best) o) plain (to_out isWord way p l start end e (omega arith) (omega arith) short)
          ∙ rw (lt-ltb best.start never found) (go (ends_at isWord way l end e) (ltb (out_now e k h) never))
        where
          go : (s t : Bool) → better_of (some (matched best.start (best.end - best.start))) (cond s (cond t (some (matched (out_now e k h) (e - out_now e k h))) none) none)
              ≡ some (matched best.start (best.end - best.start))
          go true true = rw (lt-leb (out_now e k h) best.start (omega (arith, later e k h, (w.ordered found).0, (w.ordered found).1))) refl
          go true false = refl
          go false true = refl
          go false false = refl

      kept_on : (k : ℕ) → i + k ≤ suc end → so_far way.last (stands_by isWord way p l start end) start (i - start + k) ≡ best_of best
      unfolding so_far
      kept_on zero h = ap (so_far way.last (stands_by isWord way p l start end) start) (add-zero (i - start)) ∙ sym w.found
      kept_on (suc k) h =
          let n : i - start + suc k ≡ suc (i - start + k) = omega arith in
          let e : start + (i - start + k) ≡ i + k = omega arith in
          ap (so_far way.last (stands_by isWord way p l start end) start) n
          ∙ ap₂ (λ (o : Option Match) (x : ℕ). better_by way.last o (to_place (stands_by isWord way p l start end) start x)) (kept_on k (omega arith)) e
          ∙ keeps (i + k) (omega arith) (omega arith)

      settled : best_of best ≡ taken (anchor_of way) way.last (stands_in isWord way.word p l) (text start end)
      settled =
          let n : i - start + (suc end - i) ≡ suc (end - start) = omega arith in
          sym (kept_on (suc end - i) (omega arith)) ∙ ap (so_far way.last (stands_by isWord way p l start end) start) n ∙ whole

  -- the best match is taken, where no match is begun and later ones are not asked for
  pub walk-settles : (i : ℕ) → start ≤ i → i ≤ end → (ms : List ℕ) (best : Best) → Walked isWord way l start end p i ms best → ms ≡ no_marks 256
      → best.start < never → way.last ≡ false → best_of best ≡ taken (anchor_of way) way.last (stands_in isWord way.word p l) (text start end)
  walk-settles i low high ms best w idle found plain =
      settled i low high best (subst (λ (m : List ℕ). Walked isWord way l start end p i m best) idle w) found plain
