-- The laws of records that are passed, and their lines deleted. Assumes nothing.
use mathlib.Core.Path.{◌≡◌, refl, sym, ap, ◌∙◌}
use Prim.Native.Nat.{ℕ, zero, suc, ◌+◌, ◌-◌, ◌<◌}
use native.Mathlib.Omega.{arith}
use mathlib.Core.List.{List, [], ◌∷◌, ◌++◌, map, reverse_aux, append_assoc}
use lib.ListN.{length, take, drop, get_or, length-append, take-append-drop}
use lib.Seq.{length-take-le, drop-append-le}
use Rattle.definitions.specs.Journal.{Record, kept, changed, deleted, inserted, erase}
use Rattle.definitions.specs.Tape.{Tape, rest_lines}
use Rattle.definitions.specs.Given.{Given, no_globals}
use Rattle.definitions.specs.Editor.{Ed, ed, before_of, after_of, sources, land, struck_back, strike, edit}
use Rattle.definitions.specs.StepProgram.{runs}
use Rattle.definitions.specs.Edit.{read_past}
use Rattle.theorems.specs.ReadLines.{seen_all, read_past_lem}
use Rattle.editor.specs.Records.{enc, enc_all, mark}
use Rattle.editor.specs.Shows.{Holds, Stays, Shows, Lands, strike_over, raised, line_at}
use Rattle.editor.specs.declared.State.{State}
use Rattle.editor.proofs.Records.{some_bytes}
use Rattle.editor.proofs.Held.{stays-still, stays_on, holds-lists, held-length, held-nearest, held_start, held-mark, held_more}
use Rattle.editor.proofs.Reading.{reach_of, shown-reach}
use Rattle.editor.proofs.Reaching.{land_read}
use Rattle.editor.proofs.Changing.{strike-shows}
use Rattle.spans.specs.Spans.{EndsAt, Spanned, Until, PassesTo, back_live, StruckBy, Counts}

pub all_append : (a b : List Record) → length (enc_all (a ++ b)) ≡ length (enc_all a) + length (enc_all b)
unfolding enc_all
all_append [] b = omega arith
all_append (r ∷ a) b = omega (arith, length-append (enc r) (enc_all (a ++ b)), length-append (enc r) (enc_all a), all_append a b)

-- one record is passed and its line deleted
pub strike-one : (r : Record) (rs c : List Record) → strike_over rs (erase r ++ c) ≡ strike_over (r ∷ rs) c
unfolding strike_over
strike-one r rs c = refl

pub strike-none : (c : List Record) → strike_over [] c ≡ c
unfolding strike_over
strike-none c = refl

-- ---- a walk over the records `m`

-- Where it has come to: `left` of them are left. `over` says what stands before the gap once records are passed.
pub record Going (over : List Record → List Record → List Record) (j : List ℕ) (s : State) (c m d : List Record) : Type 0 where
  pub front : List Record
  pub left : List Record
  pub holds : Holds j s front (left ++ d)
  pub same : over left front ≡ over m c

going_start : {over : List Record → List Record → List Record} {j : List ℕ} {s : State} (c m d : List Record) → Holds j s c (m ++ d) → Going over j s c m d
going_start c m d h = record { front = c; left = m; holds = h; same = refl }

module _ {over : List Record → List Record → List Record} {j : List ℕ} {s : State} {c m d : List Record} (w : Going over j s c m d) (end : ℕ) (at : end + length (enc_all d) ≡ length j) where
  going-left : s.back < end → (r : Record) × (rs : List Record) × (w.left ≡ r ∷ rs)
  unfolding enc_all
  going-left less = go w.left refl
    where
      go : (l : List Record) → w.left ≡ l → (r : Record) × (rs : List Record) × (w.left ≡ r ∷ rs)
      go [] q = absurd (omega (arith, held-length w.holds, all_append w.left d, ap (λ (z : List Record). length (enc_all z)) q))
      go (r ∷ rs) q = (r, rs, q)

  going-first : s.back < end → (b : List Record) × (r : Record) × (a : List Record) × Holds j s b (r ∷ a)
  going-first less =
      let f : (r : Record) × (rs : List Record) × (w.left ≡ r ∷ rs) = going-left less in
      (w.front, f.0, f.1 ++ d, holds-lists refl (ap (λ (z : List Record). z ++ d) f.2) w.holds)

  going_done : ((x : List Record) → over [] x ≡ x) → (s.back < end → ⊥) → Holds j s (over m c) d
  unfolding enc_all
  going_done none stop = go w.left refl
    where
      go : (l : List Record) → w.left ≡ l → Holds j s (over m c) d
      go [] q = holds-lists (sym (none w.front) ∙ ap (λ (z : List Record). over z w.front) (sym q) ∙ w.same) (ap (λ (z : List Record). z ++ d) q) w.holds
      go (r ∷ rs) q = absurd (stop (omega (arith, held-length w.holds, all_append w.left d, ap (λ (z : List Record). length (enc_all z)) q, length-append (enc r) (enc_all rs), some_bytes r)))

  -- one record is passed: it becomes `one` of it
  going_on : (one : Record → List Record → List Record) → ((r : Record) (rs x : List Record) → over rs (one r x) ≡ over (r ∷ rs) x) → s.back < end → {g : List ℕ} {v : State}
      → ((b : List Record) (r : Record) (a : List Record) → Holds j s b (r ∷ a) → Holds g v (one r b) a) → Going over g v c m d
  going_on one law less moves =
      let f : (r : Record) × (rs : List Record) × (w.left ≡ r ∷ rs) = going-left less in
      record {
        front = one f.0 w.front;
        left = f.1;
        holds = moves w.front f.0 (f.1 ++ d) (holds-lists refl (ap (λ (z : List Record). z ++ d) f.2) w.holds);
        same = law f.0 f.1 w.front ∙ ap (λ (z : List Record). over z w.front) (sym f.2) ∙ w.same;
      }

-- ---- the loops that pass the records up to the place `end`

-- between the buffer j₀ with the numbers s₀, where one began, and where it stands
pub record Passing (over : List Record → List Record → List Record) (end : ℕ) (j₀ : List ℕ) (s₀ : State) (j : List ℕ) (s : State) : Type 0 where
  pub goes : (c m d : List Record) → Holds j₀ s₀ c (m ++ d) → end + length (enc_all d) ≡ length j₀ → Going over j s c m d
  pub stays : Stays s₀ s
  pub long : length j ≡ length j₀

pub passing-start : {over : List Record → List Record → List Record} {end : ℕ} {j : List ℕ} {s : State} → Passing over end j s j s
passing-start = record { goes = λ c m d h q. going_start c m d h; stays = stays-still; long = refl }

module _ {over : List Record → List Record → List Record} {end : ℕ} {j₀ : List ℕ} {s₀ : State} {j : List ℕ} {s : State} (w : Passing over end j₀ s₀ j s) where
  -- the record that is current
  pub passing-first : Until j₀ s₀ end → s.back < end → (b : List Record) × (r : Record) × (a : List Record) × Holds j s b (r ∷ a)
  passing-first (c, m, d, h, q) less = going-first (w.goes c m d h q) end (q ∙ sym w.long) less

  -- it is passed, and becomes `one` of it
  pub passing-on : (one : Record → List Record → List Record) → ((r : Record) (rs x : List Record) → over rs (one r x) ≡ over (r ∷ rs) x) → s.back < end → {k : List ℕ} {u : State}
      → ((b : List Record) (r : Record) (a : List Record) → Holds j s b (r ∷ a) → Holds k u (one r b) a) → Stays s u → length k ≡ length j → Passing over end j₀ s₀ k u
  passing-on one law less moves still same =
      record {
        goes = λ c m d h q. going_on (w.goes c m d h q) end (q ∙ sym w.long) one law less moves;
        stays = stays_on w.stays still;
        long = same ∙ w.long;
      }

  -- all are passed
  pub passing-done : ((x : List Record) → over [] x ≡ x) → (s.back < end → ⊥) → PassesTo over end j₀ s₀ j s
  passing-done none stop = ((λ c m d h q. going_done (w.goes c m d h q) end (q ∙ sym w.long) none stop), w.stays)

-- the gap's end stays where the line before it is deleted
pub strike-still : {k g : List ℕ} {u v : State} {r : Record} {b a : List Record} → Holds k u (r ∷ b) a → Holds g v (erase r ++ b) a → length g ≡ length k → v.back ≡ u.back
strike-still h i q = omega (arith, held-length h, held-length i)

-- ---- back over live records

-- what is left of records whose lines are deleted, in order
unfoldable pub erased : List Record → List Record
erased [] = []
erased (r ∷ rs) = erase r ++ erased rs

erased-over : (m c : List Record) → reverse_aux (erased m) c ≡ strike_over m c
unfolding erased strike_over erase
erased-over [] c = refl
erased-over (kept l ∷ m) c = erased-over m (deleted l ∷ c)
erased-over (changed o n ∷ m) c = erased-over m (deleted o ∷ c)
erased-over (deleted l ∷ m) c = erased-over m (deleted l ∷ c)
erased-over (inserted l ∷ m) c = erased-over m c

-- where those are gone back over that are struck
struck-live : (k : ℕ) (b p : List Record) → struck_back k b (erased p) ≡ strike_over (back_live k b p).1 (back_live k b p).0
unfolding struck_back back_live erased erase
struck-live zero b p = erased-over p b
struck-live (suc k) [] p = erased-over p []
struck-live (suc k) (kept l ∷ b) p = struck-live k b (kept l ∷ p)
struck-live (suc k) (changed o n ∷ b) p = struck-live k b (changed o n ∷ p)
struck-live (suc k) (deleted l ∷ b) p = struck-live (suc k) b (deleted l ∷ p)
struck-live (suc k) (inserted l ∷ b) p = struck-live k b (inserted l ∷ p)

pub struck-back : (k : ℕ) (b : List Record) → struck_back k b [] ≡ strike_over (back_live k b []).1 (back_live k b []).0
unfolding erased
struck-back k b = struck-live k b []

back-live : (k : ℕ) (r : Record) (c p : List Record) → (mark r ≡ 45 → ⊥) → back_live (suc k) (r ∷ c) p ≡ back_live k c (r ∷ p)
unfolding back_live
back-live k (kept l) c p m = refl
back-live k (changed o n) c p m = refl
back-live k (deleted l) c p m = absurd (m refl)
back-live k (inserted l) c p m = refl

back-dead : (k : ℕ) (r : Record) (c p : List Record) → mark r ≡ 45 → back_live (suc k) (r ∷ c) p ≡ back_live (suc k) c (r ∷ p)
unfolding back_live
back-dead k (kept l) c p m = absurd (omega arith)
back-dead k (changed o n) c p m = absurd (omega arith)
back-dead k (deleted l) c p m = refl
back-dead k (inserted l) c p m = absurd (omega arith)

back_start : (k : ℕ) (p : List Record) → back_live k [] p ≡ ([], p)
unfolding back_live
back_start zero p = refl
back_start (suc k) p = refl

back_none : (c p : List Record) → back_live 0 c p ≡ (c, p)
unfolding back_live
back_none c p = refl

-- where the walk back has come to, `left` live records being left of k
pub record Withdrawing (j : List ℕ) (s : State) (left k : ℕ) (b a : List Record) : Type 0 where
  pub front : List Record
  pub passed : List Record
  pub holds : Holds j s front (passed ++ a)
  pub way : back_live left front passed ≡ back_live k b []

pub withdrawing-start : {j : List ℕ} {s : State} (k : ℕ) (b a : List Record) → Holds j s b a → Withdrawing j s k k b a
withdrawing-start k b a h = record { front = b; passed = []; holds = h; way = refl }

module _ {j : List ℕ} {s : State} {left k : ℕ} {b a : List Record} (w : Withdrawing j s left k b a) where
  -- the walk ends where it has come to
  withdrawn : back_live left w.front w.passed ≡ (w.front, w.passed) → Holds j s (back_live k b []).0 ((back_live k b []).1 ++ a)
  withdrawn here = rw (sym w.way ∙ here) w.holds

  pub withdrawn-start : s.front ≡ 0 → Holds j s (back_live k b []).0 ((back_live k b []).1 ++ a)
  withdrawn-start z =
      let first : w.front ≡ [] = held_start w.holds z in
      withdrawn (rw first (back_start left w.passed))

  pub withdrawn-all : left ≡ 0 → Holds j s (back_live k b []).0 ((back_live k b []).1 ++ a)
  withdrawn-all z = withdrawn (rw z (back_none w.front w.passed))

  module _ (some : 0 < left) (more : 0 < s.front) {i : List ℕ} {u : State}
      (moves : (r : Record) (c : List Record) (d : List Record) → Holds j s (r ∷ c) d → Holds i u c (r ∷ d)) where
    nearest : (r : Record) × (c : List Record) × (w.front ≡ r ∷ c)
    nearest = held-nearest w.holds more

    gone-back : Holds i u nearest.1 (nearest.0 ∷ (w.passed ++ a))
    gone-back = moves nearest.0 nearest.1 (w.passed ++ a) (holds-lists nearest.2 refl w.holds)

    was : back_live (suc (left - 1)) (nearest.0 ∷ nearest.1) w.passed ≡ back_live k b []
    was =
        let n : suc (left - 1) ≡ left = omega arith in
        ap (λ (m : ℕ). back_live m (nearest.0 ∷ nearest.1) w.passed) n ∙ ap (λ (c : List Record). back_live left c w.passed) (sym nearest.2) ∙ w.way

    pub withdrawing-in : u.back < length i
    withdrawing-in = omega (arith, held_more gone-back, some_bytes nearest.0)

    pub withdrawing-live : (get_or i u.back 0 ≡ 45 → ⊥) → Withdrawing i u (left - 1) k b a
    withdrawing-live m = record {
      front = nearest.1;
      passed = nearest.0 ∷ w.passed;
      holds = gone-back;
      way = sym (back-live (left - 1) nearest.0 nearest.1 w.passed (λ q. m (held-mark gone-back ∙ q))) ∙ was;
    }

    pub withdrawing-dead : get_or i u.back 0 ≡ 45 → Withdrawing i u left k b a
    withdrawing-dead m =
        let n : left ≡ suc (left - 1) = omega arith in
        record {
          front = nearest.1;
          passed = nearest.0 ∷ w.passed;
          holds = gone-back;
          way = ap (λ (i : ℕ). back_live i nearest.1 (nearest.0 ∷ w.passed)) n ∙ sym (back-dead (left - 1) nearest.0 nearest.1 w.passed (sym (held-mark gone-back) ∙ m)) ∙ was;
        }

-- ---- the records up to a place, and the line that is current then

module _ {j : List ℕ} {st : State} {end n : ℕ} (b a : List Record) (p : ℕ) (t : Tape) (h : Shows j st (ed b a p) t) (w : EndsAt j end n (ed b a p) t) where
  abbrev U : List Record
  U = map kept (rest_lines t)

  -- the records that are taken, and those after them
  parts : take n a ++ (drop n a ++ U) ≡ a ++ U
  parts = sym (append_assoc (take n a) (drop n a) U) ∙ ap (λ (z : List Record). z ++ U) (take-append-drop n a)

  pub span-held : Holds j st b (take n a ++ (drop n a ++ U))
  unfolding before_of after_of
  span-held = holds-lists refl (sym parts) h.holds

  pub span-place : end + length (enc_all (drop n a ++ U)) ≡ length j
  unfolding after_of
  span-place = rw (← drop-append-le n a U w.within) w.place

  pub span-many : length (take n a) ≡ n
  unfolding after_of
  span-many = length-take-le n a w.within

pub spanned-until : {j : List ℕ} {st : State} {end : ℕ} → Spanned j st end → Until j st end
spanned-until (ed b a p, t, n, h, w) = (b, take n a, drop n a ++ map kept (rest_lines t), span-held b a p t h w, span-place b a p t h w)

-- the source lines before that place, counted in the buffer
pub counted_is : {j : List ℕ} {st : State} {end r : ℕ} (e : Ed) (t : Tape) (n : ℕ) → Shows j st e t → EndsAt j end n e t → Counts end j st r → r ≡ sources (before_of e) + sources (take n (after_of e))
unfolding before_of after_of
counted_is (ed b a p) t n h w counts = counts b (take n a) (drop n a ++ map kept (rest_lines t)) (span-held b a p t h w) (span-place b a p t h w)

-- the records are struck, deleted ones after them passed, and the line that is current then is read
pub struck-span : {j k i : List ℕ} {st gone l s : State} {end : ℕ} (g : Given) (e : Ed) (t : Tape) (n : ℕ) → Shows j st e t → EndsAt j end n e t
    → PassesTo strike_over end j st k gone → Lands k gone i l → ((b : List Record) (a : List Record) → Holds i l b a → s ≡ raised l (line_at b a))
    → let x = runs g no_globals (read_past n) e t in
    StruckBy i s n x.0 x.1
unfolding StruckBy after_of before_of
struck-span {j} {k} {i} {st} {gone} {l} {s} g (ed b a p) t n h w passes landed reads =
    let m : List Record = take n a in
    let d : List Record = drop n a in
    let U : List Record = map kept (rest_lines t) in
    let held : Holds k gone (strike_over m b) (d ++ U) = passes.0 b m (d ++ U) (span-held b a p t h w) (span-place b a p t h w) in
    let x : Holds i l (before_of (land (strike_over m b) (d ++ U))) (after_of (land (strike_over m b) (d ++ U))) = landed.0 (strike_over m b) (d ++ U) held in
    let lines : l.lines ≡ st.lines = landed.2 ∙ passes.1.lines in
    let whole : m ++ d ≡ a = take-append-drop n a in
    let total : l.lines ≡ sources b + sources ((m ++ d) ++ U) = lines ∙ h.holds.lines ∙ ap (λ (z : List Record). sources b + sources (z ++ U)) (sym whole) in
    let far : l.furthest ≡ reach_of l.lines t = landed.1 ∙ passes.1.furthest ∙ shown-reach (ed b a p) t h ∙ ap (λ (z : ℕ). reach_of z t) (sym lines) in
    let shows : Shows i s (edit (strike (length m)) (seen_all (land_read d t).0 (ed b (m ++ d) p))) (land_read d t).1 =
    strike-shows b m d p t total far x landed.3 (reads (before_of (land (strike_over m b) (d ++ U))) (after_of (land (strike_over m b) (d ++ U))) x) in
    rw (read_past_lem g n (ed b a p) t) (rw (span-many b a p t h w, whole) at shows)
