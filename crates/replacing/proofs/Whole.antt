-- R put together from its parts, and its 26. Assumes nothing.
use mathlib.Core.Path.{◌≡◌, refl, sym, ap, ◌∙◌}
use Prim.Native.Nat.{ℕ, ◌+◌, ◌-◌, ◌≤◌, ◌<◌}
use native.Mathlib.Omega.{arith}
use mathlib.Core.List.{List, ◌++◌, map, reverse_aux}
use lib.ListN.{length, take, drop, length-append, take-append-drop}
use lib.Seq.{length-take-le, take-append-le}
use Rattle.definitions.specs.Bytes.{Line}
use Rattle.definitions.specs.Journal.{Record, kept, inserted, journal_length}
use Rattle.definitions.specs.Tape.{Tape, rest_lines}
use Rattle.definitions.specs.Given.{Given, Carried, no_globals}
use Rattle.definitions.specs.Editor.{Ed, ed, before_of, after_of, records, journal, has_live, land, struck, Target, Through, put_before, strike, put, edit, edits}
use Rattle.definitions.specs.Reading.{Ran, gave}
use Rattle.definitions.specs.StepProgram.{gives, ◌>>=◌, ◌>>◌, runs, state, changes, perform}
use Rattle.definitions.specs.Edit.{read_past, span, Op, program, step}
use Rattle.theorems.specs.Programs.{runs_on}
use Rattle.theorems.specs.ReadLines.{read_next, lacking, seen_all, read_past_lem}
use Rattle.editor.specs.Shows.{Holds, Shows, lent, Answered, Puts, strike_over}
use Rattle.editor.specs.declared.State.{State}
use Rattle.std.specs.Prelude.{Ok}
use Rattle.editor.specs.Stops.{Moved, stopping}
use Rattle.editor.specs.declared.Stop.TheVariants.{JournalFull}
use Rattle.editor.proofs.Reading.{next-rest, journal-is}
use Rattle.editor.proofs.Parts.{perform-as}
use Rattle.editor.proofs.Inserting.{held-journal, put-length}
use Rattle.editor.proofs.Changing.{changes-on, changes-full, put-shows, strike-lands}
use Rattle.spans.specs.Spans.{reach_here, change_here, EndsAt, StrikesSpan, Counts, ReadsFrom, FindsAfter}
use Rattle.spans.specs.declared.Next.{Next}
use Rattle.spans.proofs.Struck.{span-held, span-place, counted_is}
use Rattle.spans.proofs.Nexts.{land-same, NextRead, next-read}
use Rattle.spans.proofs.Wholes.{Reached, here-by, struck-text}
use Rattle.replacing.specs.Freed.{freed, Frees, replacing, replace_many, Replaces}
use Rattle.theorems.specs.JournalBytes.{length_both}
use Rattle.replacing.proofs.Freed.{strike-length}

-- ---- the journal's length

records-of : (x : Ed) → records x ≡ reverse_aux (before_of x) (after_of x)
unfolding records before_of after_of
records-of (ed b a p) = refl

journal-of : (x : Ed) (t : Tape) → journal_length (journal x t) ≡ journal_length (reverse_aux (before_of x) (after_of x)) + journal_length (map kept (rest_lines t))
unfolding journal
journal-of x t = length_both (records x) (map kept (rest_lines t)) ∙ ap (λ (z : List Record). journal_length z + journal_length (map kept (rest_lines t))) (records-of x)

-- with lines put
put-more : (ls : List Line) (x : Ed) (t : Tape) → journal_length (journal (edit (put ls) x) t) ≡ journal_length (map inserted ls) + journal_length (journal x t)
unfolding edit before_of after_of
put-more ls (ed b a p) t = omega (arith, journal-of (ed (put_before ls b) a p) t, journal-of (ed b a p) t, put-length ls b a)

-- with records struck
strike-less : (n : ℕ) (b a : List Record) (p : ℕ) (t : Tape) → n ≤ length a → journal_length (journal (edit (strike n) (ed b a p)) t) + freed (take n a) ≡ journal_length (journal (ed b a p) t)
unfolding edit before_of after_of
strike-less n b a p t few =
    let m : List Record = take n a in
    let d : List Record = drop n a in
    let whole : m ++ d ≡ a = take-append-drop n a in
    let is : struck n b a ≡ land (strike_over m b) d = rw (whole, length-take-le n a few) at (strike-lands m b d) in
    omega (
      arith,
      ap (λ (x : Ed). journal_length (journal x t)) is,
      journal-of (land (strike_over m b) d) t,
      ap journal_length (land-same (strike_over m b) d),
      strike-length m b d,
      ap (λ (z : List Record). journal_length (reverse_aux b z)) whole,
      journal-of (ed b a p) t,
    )

-- what is read is in the journal before
read_same : (n : ℕ) (b a : List Record) (p : ℕ) (t : Tape) → journal (ed b (a ++ map kept (read_next n t).0) p) (read_next n t).1 ≡ journal (ed b a p) t
read_same n b a p t = sym (journal-is b (a ++ map kept (read_next n t).0) p (read_next n t).1) ∙ ap (reverse_aux b) (next-rest n a t) ∙ journal-is b a p t

shows-length : {j : List ℕ} {st : State} (e : Ed) (t : Tape) → Shows j st e t → journal_length (journal e t) + (st.back - st.front) ≡ length j
unfolding before_of after_of
shows-length (ed b a p) t h = omega (arith, ap journal_length (journal-is b a p t), held-journal h.holds)

same_text : {y z : Ed} {v u : Tape} → ◌≡◌ {A = Ran (Unit {0}) × Tape} (gave tt y, v) (gave tt z, u) → (y ≡ z) × (v ≡ u)
same_text {y} {z} q =
    let first : ◌≡◌ {A = Ran (Unit {0})} (gave tt y) (gave tt z) = ap (λ (x : Ran (Unit {0}) × Tape). x.0) q in
    let a : y ≡ z = cc in
    (a, ap (λ (x : Ran (Unit {0}) × Tape). x.1) q)

-- the journal once the next live line is read and the records are struck
struck-length : (g : Given) (n : ℕ) (e : Ed) (t : Tape) (y : Ed) (v : Tape) → n ≤ length (after_of e) → runs g no_globals (read_past n) e t ≡ (gave tt y, v)
    → journal_length (journal (edit (strike n) y) v) + freed (take n (after_of e)) ≡ journal_length (journal e t)
unfolding after_of seen_all
struck-length g n (ed b a p) t y v few is =
    let N : ℕ = lacking (has_live (drop n a)) in
    let z : List Record = map kept (read_next N t).0 in
    let q : (y ≡ ed b (a ++ z) p) × (v ≡ (read_next N t).1) = same_text (sym is ∙ read_past_lem g n (ed b a p) t) in
    let longer : n ≤ length (a ++ z) = omega (arith, length-append a z, few) in
    rw (q.0, q.1)
    (omega (arith, strike-less n b (a ++ z) p (read_next N t).1 longer, ap freed (take-append-le n a z few), ap journal_length (read_same N b a p t)))

-- what is freed, counted in the buffer
pub freed-is : {j : List ℕ} {st : State} {end r : ℕ} (e : Ed) (t : Tape) (n : ℕ) → Shows j st e t → EndsAt j end n e t → Frees end j st r → r ≡ freed (take n (after_of e))
unfolding after_of
freed-is (ed b a p) t n h w counts = counts b (take n a) (drop n a ++ map kept (rest_lines t)) (span-held b a p t h w) (span-place b a p t h w)

-- ---- R of n records

module _ {j : List ℕ} {st : State} {end : ℕ} (ls : List Line) (e : Ed) (t : Tape) (n : ℕ) (h : Shows j st e t) (w : EndsAt j end n e t) where
  -- the next live line is read, and the changes are what is left
  many_is : (y : Ed) (v : Tape) → runs (lent j) no_globals (read_past n) e t ≡ (gave tt y, v)
      → perform (lent j) (replace_many ls n) (state e no_globals) t ≡ perform (lent j) (gives (changes (replacing ls n))) (state y no_globals) v
  unfolding replace_many ◌>>◌
  many_is y v q =
      perform-as (lent j) no_globals (◌>>=◌ (read_past n) (λ u. gives (changes (replacing ls n)))) (gives (changes (replacing ls n))) e y t v
      (runs_on (lent j) no_globals (λ u. gives (changes (replacing ls n))) (read_past n) e t q)

  -- there is no room
  pub replace-full : (x : Next) (r room : ℕ) → Frees end j st r → room ≡ journal_length (map inserted ls) → (st.back - st.front) + r < room
      → FindsAfter end j st x → Answered j (stopping JournalFull x.st) (perform (lent j) (replace_many ls n) (state e no_globals) t)
  unfolding edits
  replace-full x r room counts is full reads =
      let z : NextRead j n x (runs (lent j) no_globals (read_past n) e t) = next-read (runs (lent j) no_globals (read_past n) e t) (reads e t n h w) in
      rw (many_is z.text z.tape z.is)
      (changes-full no_globals (replacing ls n) z.text z.tape j j x.st
      (omega (
        arith,
        put-more ls (edit (strike n) z.text) z.tape,
        struck-length (lent j) n e t z.text z.tape w.within z.is,
        shows-length e t h,
        freed-is e t n h w counts,
      ))
      z.shows)

  module _ (k : List ℕ) (l : State) (strikes : StrikesSpan end j st k l) (long : length k ≡ length j) where
    abbrev S : Type 0
    S = (y : Ed) × (v : Tape) × (runs (lent j) no_globals (read_past n) e t ≡ (gave tt y, v)) × Shows k l (edit (strike n) y) v

    struck-at : S
    struck-at = struck-text n (runs (lent j) no_globals (read_past n) e t) (strikes e t n h w)

    -- the records are struck: the gap is wider by what is freed, so that there is room
    pub struck-ready : (room : ℕ) → room ≤ (st.back - st.front) + freed (take n (after_of e)) → ((b : List Record) × (a : List Record) × Holds k l b a) × (l.front + room ≤ l.back)
    struck-ready room fits =
        let z : S = struck-at in
        let wide : l.back - l.front ≡ (st.back - st.front) + freed (take n (after_of e)) =
        omega (arith, shows-length (edit (strike n) z.0) z.1 z.3, struck-length (lent j) n e t z.0 z.1 w.within z.2, shows-length e t h) in
        ((_, _, z.3.holds), omega (arith, wide, z.3.holds.order))

    pub replace-on : (i : List ℕ) (r : State) → length i ≡ length k → Puts ls k l i r → Answered i (Ok r) (perform (lent j) (replace_many ls n) (state e no_globals) t)
    unfolding edits
    replace-on i r same puts =
        let z : S = struck-at in
        rw (many_is z.0 z.1 z.2)
        (changes-on no_globals (replacing ls n) z.0 z.1 j i r (same ∙ long) (put-shows ls (edit (strike n) z.0) z.1 z.3 puts))

-- ---- from the current line on, and from what M names

pub replace-here : {j : List ℕ} {end : ℕ} {s : State} (k : List ℕ) (r : Moved) (ls : List Line) (b : Through) (e : Ed) (t : Tape)
    → Reached j end s (runs (lent j) no_globals (reach_here b) e t) → Replaces end ls j s k r → Answered k r (perform (lent j) (change_here (replacing ls) b) (state e no_globals) t)
replace-here {j} {end} {s} k r ls b e t w does =
    let n : ℕ = w.many in
    let x = read_next (lacking (has_live (drop n (after_of w.text)))) w.tape in
    let y : Ed = seen_all x.0 w.text in
    let q : runs (lent j) no_globals (read_past n) w.text w.tape ≡ (gave tt y, x.1) = read_past_lem (lent j) n w.text w.tape in
    here-by no_globals (replacing ls) b e t j k r n w.text y w.tape x.1 w.is q
    (rw (many_is ls w.text w.tape n w.shows w.ends y x.1 q) at (does w.text w.tape n w.shows w.ends))

pub replace-is : (g : Given) (ls : List Line) (a : Target) (b : Through) (e : Ed) (c : Carried) (t : Tape)
    → step g (Op.replace a b ls) (state e c) t ≡ perform g (◌>>=◌ (span a b) (λ n. gives (changes (replacing ls n)))) (state e c) t
unfolding step program
replace-is g ls a b e c t = refl
