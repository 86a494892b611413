-- Reading moves no byte: what is read was in the buffer before. Assumes nothing.
use mathlib.Core.Path.{◌≡◌, refl, sym, ap, ◌∙◌}
use mathlib.Core.Logic.{◌⊎◌, inl, inr}
use Prim.Native.Nat.{ℕ, zero, suc, ◌+◌, ◌-◌, ◌≤◌, ◌<◌, min, max}
use native.Mathlib.Omega.{arith}
use mathlib.Core.List.{List, [], ◌∷◌, ◌++◌, map, map-append, reverse_aux, append_assoc}
use lib.ListN.{length}
use Rattle.definitions.specs.Journal.{Record, kept}
use Rattle.definitions.specs.Tape.{Tape, unread, ended, rest_lines}
use Rattle.definitions.specs.Given.{Given, no_globals}
use Rattle.definitions.specs.Editor.{Ed, ed, before_of, after_of, records, sources, furthest, journal, Target}
use Rattle.definitions.specs.StepProgram.{runs}
use Rattle.definitions.specs.Edit.{read_up_to}
use Rattle.theorems.specs.RecordLaws.{reverse-append, sources-append, sources-reverse, sources-kept}
use Rattle.theorems.specs.ReadLines.{read_next, seen_all, next-all, next-ended, next-keeps, read-line, read-eof}
use Rattle.editor.specs.Shows.{Holds, Placed, Shows, point_of, rest_of, GroundedAt, CameTo, Came, raised}
use Rattle.editor.specs.declared.State.{State}
use Rattle.std.specs.Prelude.{Ok}
use Rattle.editor.proofs.Records.{sources-nil}
use Rattle.editor.proofs.Held.{holds_as, holds-lists, placed_by}

-- ---- the furthest line read

-- by the number of source lines, and the lines that are unread
unfoldable pub reach_of : ℕ → Tape → ℕ
reach_of lines (unread ls) = lines - length ls
reach_of lines ended = suc lines

pub reach_of_lem : (b a : List Record) (p : ℕ) (t : Tape) → furthest (ed b a p) t ≡ reach_of (sources b + sources (a ++ map kept (rest_lines t))) t
unfolding furthest records rest_lines reach_of
reach_of_lem b a p (unread ls) = omega (arith, sources-reverse b a, sources-append a (map kept ls), sources-kept ls)
reach_of_lem b a p ended = omega (arith, sources-reverse b a, sources-append a [], sources-nil)

pub rest-few : (b a : List Record) (t : Tape) → length (rest_lines t) ≤ sources b + sources (a ++ map kept (rest_lines t))
rest-few b a t = omega (arith, sources-append a (map kept (rest_lines t)), sources-kept (rest_lines t))

pub shown-reach : {j : List ℕ} {st : State} (e : Ed) (t : Tape) → Shows j st e t → st.furthest ≡ reach_of st.lines t
unfolding before_of after_of
shown-reach (ed b a p) t h = h.furthest ∙ reach_of_lem b a p t ∙ ap (λ (k : ℕ). reach_of k t) (sym h.holds.lines)

pub unread-few : {j : List ℕ} {st : State} (e : Ed) (t : Tape) → Shows j st e t → length (rest_lines t) ≤ st.lines
unfolding before_of after_of
unread-few (ed b a p) t h = omega (arith, h.holds.lines, rest-few b a t)

-- A buffer that holds the records of a text shows it.
pub shows-at : {k : List ℕ} {s : State} (e : Ed) (t : Tape) → Holds k s (before_of e) (rest_of e t)
    → s.furthest ≡ reach_of s.lines t → s.p ≡ point_of e → GroundedAt (after_of e) t → Shows k s e t
unfolding before_of after_of
shows-at (ed b a p) t h f q g = record {
  holds = h;
  furthest = f ∙ ap (λ (n : ℕ). reach_of n t) h.lines ∙ sym (reach_of_lem b a p t);
  p = q;
  grounded = g;
}

pub shows-of : {k : List ℕ} {s : State} (b a : List Record) (p : ℕ) (t : Tape) → Holds k s b (a ++ map kept (rest_lines t))
    → s.furthest ≡ reach_of s.lines t → s.p ≡ p → GroundedAt a t → Shows k s (ed b a p) t
unfolding before_of after_of
shows-of b a p t h f q g = shows-at (ed b a p) t h f q g

-- Another text with the same lines unread, the furthest line read and the number of lines being as they were.
pub shows-anew : {j k : List ℕ} {st s : State} (e x : Ed) (t : Tape) → Shows j st e t → Holds k s (before_of x) (rest_of x t)
    → s.furthest ≡ st.furthest → s.lines ≡ st.lines → s.p ≡ point_of x → GroundedAt (after_of x) t → Shows k s x t
shows-anew e x t h held f l q g = shows-at x t held (f ∙ shown-reach e t h ∙ ap (λ (n : ℕ). reach_of n t) (sym l)) q g

-- the buffer's records are the journal
pub journal-is : (b a : List Record) (p : ℕ) (t : Tape) → reverse_aux b (a ++ map kept (rest_lines t)) ≡ journal (ed b a p) t
unfolding journal records
journal-is b a p t = reverse-append b a (map kept (rest_lines t))

-- ---- what is read

next-reach : (lines n : ℕ) (t : Tape) → length (rest_lines t) ≤ lines → reach_of lines (read_next n t).1 ≡ min (reach_of lines t + n) (lines + 1)
unfolding read_next reach_of rest_lines
next-reach lines zero (unread ls) h = omega arith
next-reach lines zero ended h = omega arith
next-reach lines (suc n) ended h = omega arith
next-reach lines (suc n) (unread []) h = omega arith
next-reach lines (suc n) (unread (l ∷ ls)) h = omega (arith, next-reach lines n (unread ls) (omega arith))

-- the records from the current one on are the same before and after
pub next-rest : (n : ℕ) (a : List Record) (t : Tape) → (a ++ map kept (read_next n t).0) ++ map kept (rest_lines (read_next n t).1) ≡ a ++ map kept (rest_lines t)
next-rest n a t =
    append_assoc a (map kept (read_next n t).0) (map kept (rest_lines (read_next n t).1))
    ∙ ap (λ (z : List Record). a ++ z) (sym (map-append kept (read_next n t).0 (rest_lines (read_next n t).1)) ∙ ap (map kept) (next-keeps n t))

next-grounded : (n : ℕ) (a : List Record) (t : Tape) → GroundedAt a t → GroundedAt (a ++ map kept (read_next n t).0) (read_next n t).1
unfolding read_next rest_lines
next-grounded n [] (unread ls) g = absurd g
next-grounded zero [] ended g = tt
next-grounded (suc n) [] ended g = tt
next-grounded n (r ∷ a) t g = g

-- THE LAW OF READING: the buffer shows the text with what is read, once `furthest` is raised
pub reading : {j : List ℕ} {st s : State} (n : ℕ) (e : Ed) (t : Tape) → Shows j st e t
    → Placed st s → s.p ≡ st.p → s.furthest ≡ min (st.furthest + n) (st.lines + 1)
    → Shows j s (seen_all (read_next n t).0 e) (read_next n t).1
unfolding seen_all before_of after_of
reading {j} {st} {s} n (ed b a p) t h q sp sf =
    shows-of b (a ++ map kept (read_next n t).0) p (read_next n t).1
    (holds-lists refl (sym (next-rest n a t)) (holds_as q h.holds))
    (sf ∙ ap (λ (k : ℕ). min (k + n) (st.lines + 1)) (shown-reach (ed b a p) t h) ∙ sym (next-reach st.lines n t (unread-few (ed b a p) t h)) ∙ ap (λ (k : ℕ). reach_of k (read_next n t).1) (sym q.lines))
    (sp ∙ h.p)
    (next-grounded n a t h.grounded)

-- ---- up to a source line, and up to EOF

-- so many source lines are read, at most so many as there are; all of them where EOF is read
pub reach-sources : {j : List ℕ} {st : State} (e : Ed) (t : Tape) → Shows j st e t → (sources (records e) ≡ st.furthest) ⊎ ((sources (records e) ≡ st.lines) × (st.furthest ≡ st.lines + 1) × (t ≡ ended))
unfolding before_of after_of furthest records rest_lines
reach-sources (ed b a p) (unread ls) h = inl (sym h.furthest)
reach-sources (ed b a p) ended h =
    let all : sources (reverse_aux b a) ≡ sources b + sources (a ++ []) = omega (arith, sources-reverse b a, sources-append a [], sources-nil) in
    inr (all ∙ sym h.holds.lines, omega (arith, h.furthest, h.holds.lines), refl)

pub read-few : {j : List ℕ} {st : State} (e : Ed) (t : Tape) → Shows j st e t → sources (records e) ≤ st.lines
unfolding before_of after_of records
read-few (ed b a p) t h = omega (arith, h.holds.lines, sources-reverse b a, sources-append a (map kept (rest_lines t)))

-- the numbers once line a is read
raise-line : {j : List ℕ} {st : State} (a : ℕ) (e : Ed) (t : Tape) → Shows j st e t
    → max st.furthest (min a (st.lines + 1)) ≡ min (st.furthest + (a - sources (records e))) (st.lines + 1)
raise-line {j} {st} a e t h = by (reach-sources e t h)
  where
    by : (sources (records e) ≡ st.furthest) ⊎ ((sources (records e) ≡ st.lines) × (st.furthest ≡ st.lines + 1) × (t ≡ ended))
        → max st.furthest (min a (st.lines + 1)) ≡ min (st.furthest + (a - sources (records e))) (st.lines + 1)
    by (inl q) = omega (arith, read-few e t h)
    by (inr q) = omega (arith, q.0, q.1)

all_read : {j : List ℕ} {st : State} (e : Ed) (t : Tape) → Shows j st e t → Shows j (raised st (st.lines + 1)) (seen_all (rest_lines t) e) ended
unfolding rest_lines reach_of
all_read {st = st} e (unread ls) h =
    rw (next-all ls) at
    (reading {s = raised st (st.lines + 1)} (suc (length ls)) e (unread ls) h (placed_by st _ _) refl (omega (arith, shown-reach e (unread ls) h, unread-few e (unread ls) h)))
all_read {st = st} e ended h = rw (next-ended 1) at (reading {s = raised st (st.lines + 1)} 1 e ended h (placed_by st _ _) refl (omega (arith, shown-reach e ended h)))

module _ {j : List ℕ} {st : State} (g : Given) (e : Ed) (t : Tape) (h : Shows j st e t) where
  pub reads-line : (a : ℕ) → Came j (Ok (raised st a)) (runs g no_globals (read_up_to (Target.line a)) e t)
  unfolding CameTo
  reads-line a = rw (read-line g a e t) (reading (a - sources (records e)) e t h (placed_by st _ _) refl (raise-line a e t h))

  pub reads-eof : Came j (Ok (raised st (st.lines + 1))) (runs g no_globals (read_up_to Target.eof) e t)
  unfolding CameTo
  reads-eof = rw (read-eof g e t) (all_read e t h)

-- the furthest line is then EOF
pub eof-far : {j : List ℕ} {st : State} (e : Ed) (t : Tape) → Shows j st e t → max st.furthest (min (st.lines + 1) (st.lines + 1)) ≡ st.lines + 1
eof-far e t h = omega (arith, raise-line 0 e t h)

-- where it is, EOF is read
pub eof-read : {j : List ℕ} {st : State} (e : Ed) (t : Tape) → Shows j st e t → st.furthest ≡ st.lines + 1 → t ≡ ended
eof-read {st = st} e t h all = by (reach-sources e t h)
  where
    by : (sources (records e) ≡ st.furthest) ⊎ ((sources (records e) ≡ st.lines) × (st.furthest ≡ st.lines + 1) × (t ≡ ended)) → t ≡ ended
    by (inl q) = absurd (omega (arith, read-few e t h))
    by (inr q) = q.2

-- the line is read, or all lines are
pub line_read : {j : List ℕ} {st : State} (a : ℕ) (e : Ed) (t : Tape) → Shows j st e t → 0 < a → min a (st.lines + 1) ≤ st.furthest
    → (a - 1 < sources (records e)) ⊎ (map kept (rest_lines t) ≡ [])
unfolding rest_lines
line_read {j} {st} a e t h pos far = by (reach-sources e t h) (read-few e t h)
  where
    by : (sources (records e) ≡ st.furthest) ⊎ ((sources (records e) ≡ st.lines) × (st.furthest ≡ st.lines + 1) × (t ≡ ended))
        → sources (records e) ≤ st.lines → (a - 1 < sources (records e)) ⊎ (map kept (rest_lines t) ≡ [])
    by (inl q) l = inl (omega arith)
    by (inr q) l = inr (rw q.2)
