-- The current record with another text: its bytes, and what the buffer then shows. Assumes nothing.
use mathlib.Core.Path.{◌≡◌, refl, sym, ap, ◌∙◌}
use mathlib.Core.Bool.{Bool, true, false, cond, true≢false}
use Prim.Native.Nat.{ℕ, ◌+◌, ◌-◌, ◌≤◌, ◌<◌}
use native.Mathlib.Omega.{arith}
use mathlib.Core.List.{List, [], ◌∷◌, ◌++◌, map}
use lib.ListN.{length, take, drop, get_or, length-append, length-drop}
use lib.Seq.{length-take-le}
use Rattle.definitions.specs.Bytes.{Line, eq_line, is_line}
use Rattle.definitions.specs.Journal.{Record, kept, changed, deleted, inserted, change, rewrite, old_of}
use Rattle.definitions.specs.Tape.{Tape, rest_lines}
use Rattle.definitions.specs.Given.{Carried}
use Rattle.definitions.specs.Editor.{Ed, ed, before_of, after_of, is_live, retext, edit, edits}
use Rattle.definitions.specs.StepProgram.{gives, changes}
use Rattle.text.specs.Lines.{part}
use Rattle.editor.specs.Records.{enc, mark, Good}
use Rattle.editor.specs.Shows.{Holds, Shows, ShowsText, Completes}
use Rattle.editor.specs.declared.State.{State}
use Rattle.std.specs.Prelude.{Ok}
use Rattle.editor.specs.Stops.{stopping}
use Rattle.editor.specs.declared.Stop.TheVariants.{JournalFull}
use Rattle.editor.proofs.Records.{line-short}
use Rattle.editor.proofs.Held.{held-mark}
use Rattle.editor.proofs.Reading.{journal-is}
use Rattle.editor.proofs.Parts.{shown-record}
use Rattle.editor.proofs.Changing.{changes-on, changes-full, retext-shows}
use Rattle.changes.specs.Current.{written, first_line, EndsAt, EndsOf, HasEnds, Builds, MakesAnew, Replacing, SetTo, Replaces}
use Rattle.changes.specs.declared.rewrite.Ends.{Ends}
use Rattle.changes.specs.declared.rewrite.Anew.{Anew}
use Rattle.theorems.specs.Lines.{equal_is}
use Rattle.changes.proofs.Written.{first-written}
use Rattle.changes.proofs.Putting.{put-total}

-- ---- what becomes of a live record

-- what holds of both that a change can come to
change-by : (P : Record → Type 0) (o l : Line) → P (kept o) → P (changed o l) → P (change o l)
unfolding change
change-by P o l f g = by (eq_line o l)
  where
    by : (x : Bool) → P (cond x (kept o) (changed o l))
    by true = f
    by false = g

module _ (l : Line) where
  to-inserted : (r : Record) → mark r ≡ 43 → rewrite r l ≡ inserted l
  unfolding rewrite
  to-inserted (kept m) e = absurd (omega arith)
  to-inserted (changed o n) e = absurd (omega arith)
  to-inserted (deleted m) e = absurd (omega arith)
  to-inserted (inserted m) e = refl

  to-kept : (r : Record) → is_live r ≡ true → (mark r ≡ 43 → ⊥) → eq_line (first_line r) l ≡ true → rewrite r l ≡ kept l
  unfolding rewrite change is_live
  to-kept (kept m) v e q = rw (q, equal_is m l q)
  to-kept (changed o n) v e q = rw (q, equal_is o l q)
  to-kept (deleted m) v e q = absurd (true≢false (sym v))
  to-kept (inserted m) v e q = absurd (e refl)

  to-changed : (r : Record) → is_live r ≡ true → (mark r ≡ 43 → ⊥) → eq_line (first_line r) l ≡ false → rewrite r l ≡ changed (first_line r) l
  unfolding rewrite change is_live
  to-changed (kept m) v e q = rw q
  to-changed (changed o n) v e q = rw q
  to-changed (deleted m) v e q = absurd (true≢false (sym v))
  to-changed (inserted m) v e q = absurd (e refl)

  -- its lines are lines, and its source line is the same
  rewrite-good : (r : Record) → is_line l ≡ true → Good r → Good (rewrite r l)
  unfolding rewrite
  rewrite-good (kept m) f g = change-by Good m l g (g, f)
  rewrite-good (changed o n) f g = change-by Good o l g.0 (g.0, f)
  rewrite-good (deleted m) f g = g
  rewrite-good (inserted m) f g = f

  rewrite-source : (r : Record) → old_of (rewrite r l) ≡ old_of r
  unfolding rewrite old_of
  rewrite-source (kept m) = change-by (λ x. old_of x ≡ m ∷ []) m l refl refl
  rewrite-source (changed o n) = change-by (λ x. old_of x ≡ o ∷ []) o l refl refl
  rewrite-source (deleted m) = refl
  rewrite-source (inserted m) = refl

-- ---- its bytes

-- by what the record is
built : (d k : List ℕ) (n : ℕ) (x y : Record) → y ≡ x → k ≡ written d (enc x) → n ≡ length (enc x) → (k ≡ written d (enc y)) × (n ≡ length (enc y))
built d k n x y q is long = rw q (is, long)

first-line : (r : Record) → Good r → is_line (first_line r) ≡ true
first-line (kept l) g = g
first-line (changed o n) g = g.0
first-line (deleted l) g = g
first-line (inserted l) g = g

-- the first line's length
pub first-long : {j : List ℕ} {at : ℕ} {c : Ends} {r : Record} → EndsAt j at c r → length (first_line r) ≡ c.old - (at + 2)
first-long {j} {at} {c} w =
    ap length (sym w.first) ∙ length-take-le (c.old - (at + 2)) (drop (at + 2) j) (omega (arith, length-drop (at + 2) j, w.after, w.inside, w.within))

module _ (j : List ℕ) (st : State) (c : Ends) (line : List ℕ) (len : ℕ) (fits : len ≤ length line) (d k : List ℕ) (n : ℕ) where
  text-long : length (take len line) ≡ len
  text-long = length-take-le len line fits

  pub builds-inserted : get_or j st.back 0 ≡ 43 → k ≡ written d (43 ∷ 43 ∷ (take len line ++ (10 ∷ []))) → n ≡ len + 3 → Builds j st c (take len line) d k n
  builds-inserted at is long b r a w =
      built d k n (inserted (take len line)) (rewrite r (take len line)) (to-inserted (take len line) r (sym (held-mark w.holds) ∙ at)) is (simp length-append (omega (arith, text-long)))

  module _ (at : get_or j st.back 0 ≡ 43 → ⊥) where
    pub builds-kept : (same : Bool) → same ≡ eq_line (part (st.back + 2) c.old j) (take len line) → same ≡ true
        → k ≡ written d (61 ∷ 61 ∷ (take len line ++ (10 ∷ []))) → n ≡ len + 3 → Builds j st c (take len line) d k n
    builds-kept same eq true' is long b r a w =
        built d k n (kept (take len line)) (rewrite r (take len line)) (to-kept (take len line) r w.live (λ e. at (held-mark w.holds ∙ e)) (rw w.ends.first at (sym eq ∙ true'))) is (simp length-append (omega (arith, text-long)))

    pub builds-changed : (same : Bool) → same ≡ eq_line (part (st.back + 2) c.old j) (take len line) → same ≡ false → (o : ℕ) → o ≡ c.old - (st.back + 2)
        → k ≡ written d (60 ∷ 62 ∷ ((take o (drop (st.back + 2) j) ++ (0 ∷ take len line)) ++ (10 ∷ []))) → n ≡ o + len + 4 → Builds j st c (take len line) d k n
    builds-changed same eq false' o oo is long b r a w =
        let old : take o (drop (st.back + 2) j) ≡ first_line r = rw oo w.ends.first in
        built d k n (changed (first_line r) (take len line)) (rewrite r (take len line)) (to-changed (take len line) r w.live (λ e. at (held-mark w.holds ∙ e)) (rw w.ends.first at (sym eq ∙ false'))) (rw old at is)
        (simp length-append (omega (arith, text-long, first-long w.ends)))

-- ---- the places are in range

pub record EndsInRange (j : List ℕ) (st : State) (c : Ends) : Type 0 where
  pub after : st.back + 2 ≤ c.old
  pub inside : c.old < c.end
  pub within : c.end ≤ length j
  pub short : c.old - (st.back + 2) ≤ 255

pub in-range : {j : List ℕ} {st : State} {c : Ends} → HasEnds j st c → EndsInRange j st c
in-range (b, r, a, w) = record {
  after = w.ends.after;
  inside = w.ends.inside;
  within = w.ends.within;
  short = omega (arith, first-long w.ends, line-short (first_line r) (first-line r w.holds.good.0));
}

pub len_short : (line : List ℕ) (len : ℕ) → len ≤ length line → is_line (take len line) ≡ true → len ≤ 255
len_short line len fits fine = omega (arith, line-short (take len line) fine, length-take-le len line fits)

-- ---- the record made anew

-- the current record of a text that is shown, with its ends
ends_of : {j : List ℕ} {st : State} {c : Ends} (b : List Record) (r : Record) (a : List Record) (p : ℕ) (t : Tape) → Shows j st (ed b (r ∷ a) p) t → EndsAt j st.back c r
    → EndsOf j st c b r (a ++ map kept (rest_lines t))
unfolding before_of after_of
ends_of b r a p t h w = record { holds = h.holds; live = h.grounded; ends = w }

module _ {j : List ℕ} {st : State} {c : Ends} (ends : (b : List Record) (r : Record) (a : List Record) → Holds j st b (r ∷ a) → EndsAt j st.back c r) where
  pub has-ends : st.back < length j → ShowsText j st → HasEnds j st c
  unfolding before_of after_of
  has-ends more (ed b [] p, t, h) = absurd (shown-record b p t h more)
  has-ends more (ed b (r ∷ a) p, t, h) = (b, r, a ++ map kept (rest_lines t), ends_of b r a p t h (ends b r (a ++ map kept (rest_lines t)) h.holds))

  -- what `record_anew` does
  pub makes-anew : (l : Line) (d k : List ℕ) (n : ℕ) → Builds j st c l d k n → MakesAnew j st l d k (record { n = n; end = c.end })
  makes-anew l d k n builds b r a h v =
      let w : EndsOf j st c b r a = record { holds = h; live = v; ends = ends b r a h } in
      ((builds b r a w).0, (builds b r a w).1, w.ends.ends)

-- ---- the record in the place of the current one

module _ {j : List ℕ} {st : State} (l : Line) (fine : is_line l ≡ true) (d rec : List ℕ) (c : Anew) (made : MakesAnew j st l d rec c) where
  pub replacing : (b : List Record) (r : Record) (a : List Record) → Holds j st b (r ∷ a) → is_live r ≡ true → Replacing j st c.end rec c.n b r a (rewrite r l)
  unfolding written
  replacing b r a h v =
      let x : (rec ≡ written d (enc (rewrite r l))) × (c.n ≡ length (enc (rewrite r l))) × (c.end ≡ st.back + length (enc r)) = made b r a h v in
      record {
        holds = h;
        ends = x.2;
        fits = omega (arith, x.1, ap length x.0, length-append (enc (rewrite r l)) (drop (length (enc (rewrite r l))) d));
        is = ap (take c.n) x.0 ∙ first-written d (enc (rewrite r l)) c.n (sym x.1);
        good = rewrite-good l r fine h.good.0;
        source = rewrite-source l r;
      }

  module _ (more : st.back < length j) where
    pub has-record : ShowsText j st → (b : List Record) × (r : Record) × (a : List Record) × (x : Record) × Replacing j st c.end rec c.n b r a x
    unfolding before_of after_of
    has-record (ed b [] p, t, h) = absurd (shown-record b p t h more)
    has-record (ed b (r ∷ a) p, t, h) =
        (b, r, a ++ map kept (rest_lines t), rewrite r l, replacing b r (a ++ map kept (rest_lines t)) h.holds h.grounded)

    -- where the current record ends, and how long the new one is
    pub anew-ends : ShowsText j st → (st.front ≤ c.end) × (c.n ≤ length rec)
    anew-ends h =
        let w = has-record h in
        (omega (arith, w.4.ends, w.4.holds.order), w.4.fits)

    -- what `rewrite_current` does: there is no room
    pub rewrites-full : (q : ℕ) → c.end < st.front + c.n → (x : Carried) → Completes x j st (gives (changes (retext l q ∷ []))) j (stopping JournalFull st)
    unfolding before_of after_of edits edit
    rewrites-full q few x (ed b [] p) t h = absurd (shown-record b p t h more)
    rewrites-full q few x (ed b (r ∷ a) p) t h =
        let A : List Record = a ++ map kept (rest_lines t) in
        let w : Replacing j st c.end rec c.n b r A (rewrite r l) = replacing b r A h.holds h.grounded in
        changes-full x (retext l q ∷ []) (ed b (r ∷ a) p) t j j st
        (rw (← journal-is b (rewrite r l ∷ a) q t) (omega (arith, put-total w.holds c.end c.n rec (rewrite r l) w.ends w.fits w.is, few))) h

    -- the text is written: what the buffer then shows
    pub rewritten-shows : (k : List ℕ) (q : ℕ) (s : State) → Replaces j st c.end rec c.n q k s → (e : Ed) (t : Tape) → Shows j st e t → Shows k s (edit (retext l q) e) t
    unfolding before_of after_of
    rewritten-shows k q s puts (ed b [] p) t h = absurd (shown-record b p t h more)
    rewritten-shows k q s puts (ed b (r ∷ a) p) t h =
        let A : List Record = a ++ map kept (rest_lines t) in
        let w : SetTo st c.end c.n k s b (rewrite r l ∷ A) q = puts b r A (rewrite r l) (replacing b r A h.holds h.grounded) in
        retext-shows l q b r a p t h w.holds w.furthest w.lines w.p

    pub rewrites-on : (k : List ℕ) (q : ℕ) (s : State) → length k ≡ length j → Replaces j st c.end rec c.n q k s → (x : Carried) → Completes x j st (gives (changes (retext l q ∷ []))) k (Ok s)
    unfolding edits
    rewrites-on k q s same puts x e t h = changes-on x (retext l q ∷ []) e t j k s same (rewritten-shows k q s puts e t h)
