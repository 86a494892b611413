-- The next live line deleted, and the joined text in the place of the current one. Assumes nothing.
use mathlib.Core.Path.{◌≡◌, sym, ap, ◌∙◌}
use mathlib.Core.Bool.{true}
use mathlib.Core.List.{List, [], ◌∷◌, ◌++◌, map, append_assoc}
use Prim.Native.Nat.{ℕ, ◌+◌, ◌≤◌, ◌<◌}
use native.Mathlib.Omega.{arith}
use lib.ListN.{length, drop, length-append}
use Rattle.text.specs.Feeds.{line_length}
use Rattle.definitions.specs.Bytes.{Line, is_line}
use Rattle.definitions.specs.Journal.{Record, kept, rewrite, erase}
use Rattle.definitions.specs.Tape.{Tape, rest_lines}
use Rattle.definitions.specs.Editor.{ed, before_of, after_of, first_live, struck_next, strike_next, retext, edit, edits}
use Rattle.theorems.specs.NestingLaws.{none-some}
use Rattle.editor.specs.Records.{enc, enc_all, Good}
use Rattle.editor.specs.Shows.{Shows, ShowsText}
use Rattle.editor.specs.declared.State.{State}
use Rattle.std.specs.Prelude.{Ok}
use Rattle.editor.specs.Stops.{stopping}
use Rattle.editor.specs.declared.Stop.TheVariants.{JournalFull}
use Rattle.editor.proofs.Records.{all-length, three-bytes}
use Rattle.editor.proofs.Held.{held-length}
use Rattle.editor.proofs.Reading.{journal-is}
use Rattle.editor.proofs.Changing.{changes-on, changes-full, retext-shows}
use Rattle.changes.specs.Current.{MakesAnew, Replacing, Replaces}
use Rattle.changes.specs.declared.rewrite.Anew.{Anew}
use Rattle.changes.proofs.Putting.{journal-length}
use Rattle.changes.proofs.Rewriting.{replacing}
use Rattle.spans.specs.Spans.{freed_by, Stands, StandsAt, StrikesAt, NextAt}
use Rattle.spans.proofs.Struck.{all_append}
use Rattle.spans.proofs.Standing.{stands-record, stands-more}
use Rattle.spans.proofs.Erasing.{erased-length, at_place, at-stands}
use Rattle.spans.proofs.Nexts.{NextRecord, next-some, next-held, next-stands, next-struck, next-text, struck-is}
use Rattle.joins.specs.Joining.{HasNext, JoinsLines}

all_cons : (r : Record) (rs : List Record) → length (enc_all (r ∷ rs)) ≡ length (enc r) + length (enc_all rs)
unfolding enc_all
all_cons r rs = length-append (enc r) (enc_all rs)

-- a record frees no more bytes than it has
freed-most : (r : Record) → freed_by r ≤ length (enc r)
unfolding enc_all
freed-most r = omega (arith, erased-length r [], all-length (r ∷ []), all_cons r [])

-- ---- the next live record in the buffer

module _ {j : List ℕ} {st : State} {at : ℕ} (b : List Record) (r : Record) (a : List Record) (p : ℕ) (t : Tape) (h : Shows j st (ed b (r ∷ a) p) t) (w : NextRecord j at 1 (ed b (r ∷ a) p) t) where
  -- the records after it
  abbrev A : List Record
  A = w.rest ++ map kept (rest_lines t)

  there : Stands j at (w.next ∷ A)
  there = at-stands b (r ∷ w.passed) (w.next ∷ A) (next-held b r a p t h w) at w.place

  pub next-good : Good w.next
  next-good = there.good.0

  pub next-bytes : drop at j ≡ enc w.next ++ enc_all A
  unfolding enc_all
  next-bytes = there.bytes

  -- what `freed_at` asks, and what it gives
  pub freed-asks : (after : ℕ) → after ≡ at + line_length (drop at j) → (x : Record) × (rs : List Record) × Stands j at (x ∷ rs) × (after ≡ at + length (enc x))
  freed-asks after is = (w.next, A, there, is ∙ ap (λ (i : ℕ). at + i) (stands-record there))

  pub freed-is : (after n : ℕ) → after ≡ at + line_length (drop at j) → ((x : Record) (rs : List Record) → Stands j at (x ∷ rs) → after ≡ at + length (enc x) → n ≡ freed_by x) → n ≡ freed_by w.next
  freed-is after n is frees = frees w.next A there (is ∙ ap (λ (i : ℕ). at + i) (stands-record there))

  pub freed-inside : at + freed_by w.next ≤ length j
  freed-inside = omega (arith, freed-most w.next, stands-more there)

  -- the current record ends before it
  record-before : st.back + length (enc r) ≤ at
  record-before =
      omega (arith, at_place b (r ∷ w.passed) (w.next ∷ A) (next-held b r a p t h w) at w.place, all_cons r w.passed)

  -- how many bytes fewer the records take once its line is deleted
  struck-less : length (enc_all (struck_next a ++ map kept (rest_lines t))) + freed_by w.next ≡ length (enc_all (a ++ map kept (rest_lines t)))
  unfolding after_of
  struck-less =
      let U : List Record = map kept (rest_lines t) in
      let struck : struck_next a ++ U ≡ w.passed ++ (erase w.next ++ A) = rw (struck-is (ed b (r ∷ a) p) t w) (simp append_assoc) in
      let before : a ++ U ≡ w.passed ++ (w.next ∷ A) = ap (λ (z : List Record). z ++ U) (sym w.same) ∙ append_assoc w.passed (w.next ∷ w.rest) U in
      omega (
        arith,
        ap (λ (z : List Record). length (enc_all z)) struck,
        ap (λ (z : List Record). length (enc_all z)) before,
        all_append w.passed (erase w.next ++ A),
        all_append w.passed (w.next ∷ A),
        all-length (erase w.next ++ A),
        all-length (w.next ∷ A),
        erased-length w.next A,
      )

  module _ (k : List ℕ) (s : State) (strikes : StrikesAt at j st k s) (l : Line) (fine : is_line l ≡ true) (d rec : List ℕ) (c : Anew) (made : MakesAnew j st l d rec c) where
    -- its line is deleted
    struck : Shows k s (ed b (r ∷ struck_next a) p) t × (s.back ≡ st.back + freed_by w.next)
    unfolding edit
    struck = next-struck (ed b (r ∷ a) p) t h w strikes

    -- the record that was made before stands for the current one afterwards
    pub replacing-after : Replacing k s (c.end + freed_by w.next) rec c.n b r (struck_next a ++ map kept (rest_lines t)) (rewrite r l)
    unfolding before_of after_of
    replacing-after =
        let x = replacing l fine d rec c made b r (a ++ map kept (rest_lines t)) h.holds h.grounded in
        record { holds = struck.0.holds; ends = omega (arith, x.ends, struck.1); fits = x.fits; is = x.is; good = x.good; source = x.source }

    pub joined-shows : (q : ℕ) (k' : List ℕ) (s' : State) → Replaces k s (c.end + freed_by w.next) rec c.n q k' s'
        → Shows k' s' (edits (retext l q ∷ strike_next ∷ []) (ed b (r ∷ a) p)) t
    unfolding edits edit
    joined-shows q k' s' puts =
        let x = puts b r (struck_next a ++ map kept (rest_lines t)) (rewrite r l) replacing-after in
        retext-shows l q b r (struck_next a) p t struck.0 x.holds x.furthest x.lines x.p

-- where there is one, a line is current
pub no_line : {j : List ℕ} {at : ℕ} (b : List Record) (p : ℕ) (t : Tape) → NextAt j at 1 (ed b [] p) t → at < length j → ⊥
unfolding after_of first_live
no_line b p t w less = none-some (next-text (ed b [] p) t (next-some (ed b [] p) t w less))

-- ---- what `join_at` does

module _ {j : List ℕ} {st : State} {at : ℕ} (l : Line) (fine : is_line l ≡ true) (d rec : List ℕ) (c : Anew) (made : MakesAnew j st l d rec c) (less : at < length j)
    (next freed : ℕ) (is : next ≡ at + line_length (drop at j)) (frees : (x : Record) (rs : List Record) → Stands j at (x ∷ rs) → next ≡ at + length (enc x) → freed ≡ freed_by x) where
  -- there is no room
  pub join-full : (q : ℕ) → c.end + freed < st.front + c.n → JoinsLines j st at l q j (stopping JournalFull st)
  unfolding edits edit before_of after_of
  join-full q few (ed b [] p) x t h w = absurd (no_line b p t w less)
  join-full q few (ed b (r ∷ a) p) x t h w =
      let U : List Record = map kept (rest_lines t) in
      let n : NextRecord j at 1 (ed b (r ∷ a) p) t = next-some (ed b (r ∷ a) p) t w less in
      let m = made b r (a ++ U) h.holds h.grounded in
      let total : length j ≡ st.back + length (enc_all (r ∷ (a ++ U))) = held-length h.holds in
      changes-full x (retext l q ∷ strike_next ∷ []) (ed b (r ∷ a) p) t j j st
      (rw (← journal-is b (rewrite r l ∷ struck_next a) q t)
      (omega (
        arith,
        journal-length b (rewrite r l) (struck_next a ++ U),
        struck-less b r a p t h n,
        freed-is b r a p t h n next freed is frees,
        total,
        all_cons r (a ++ U),
        m.1,
        m.2,
        h.holds.front,
        few,
      )))
      h

  pub join-on : (q : ℕ) (k : List ℕ) (s : State) → StrikesAt at j st k s → (k' : List ℕ) (s' : State) → length k' ≡ length j → Replaces k s (c.end + freed) rec c.n q k' s'
      → JoinsLines j st at l q k' (Ok s')
  join-on q k s strikes k' s' same puts (ed b [] p) x t h w = absurd (no_line b p t w less)
  join-on q k s strikes k' s' same puts (ed b (r ∷ a) p) x t h w =
      let n : NextRecord j at 1 (ed b (r ∷ a) p) t = next-some (ed b (r ∷ a) p) t w less in
      changes-on x (retext l q ∷ strike_next ∷ []) (ed b (r ∷ a) p) t j k' s' same
      (joined-shows b r a p t h n k s strikes l fine d rec c made q k' s' (rw (freed-is b r a p t h n next freed is frees) at puts))

  -- what `put_record` asks
  pub join-record : HasNext j st at → (k : List ℕ) (s : State) → StrikesAt at j st k s
      → ((b : List Record) × (r : Record) × (a : List Record) × (x : Record) × Replacing k s (c.end + freed) rec c.n b r a x) × (s.front ≡ st.front)
  unfolding before_of
  join-record ((ed b [] p, t, h, w), m) k s strikes = absurd (no_line b p t w less)
  join-record ((ed b (r ∷ a) p, t, h, w), m) k s strikes =
      let n : NextRecord j at 1 (ed b (r ∷ a) p) t = next-some (ed b (r ∷ a) p) t w less in
      let x = replacing-after b r a p t h n k s strikes l fine d rec c made in
      ((b, r, struck_next a ++ map kept (rest_lines t), rewrite r l, rw (freed-is b r a p t h n next freed is frees) x), omega (arith, x.holds.front, h.holds.front))

  -- the places are in range
  pub join-range : HasNext j st at → (st.front ≤ c.end) × (c.end + freed ≤ length j)
  unfolding before_of after_of
  join-range ((ed b [] p, t, h, w), m) = absurd (no_line b p t w less)
  join-range ((ed b (r ∷ a) p, t, h, w), m) =
      let n : NextRecord j at 1 (ed b (r ∷ a) p) t = next-some (ed b (r ∷ a) p) t w less in
      let ends = (made b r (a ++ map kept (rest_lines t)) h.holds h.grounded).2 in
      (omega (arith, ends, h.holds.order), omega (arith, ends, record-before b r a p t h n, freed-is b r a p t h n next freed is frees, freed-inside b r a p t h n))

-- what the functions ask that it calls
module _ {j : List ℕ} {st : State} (at : ℕ) where
  pub asks-line : HasNext j st at → ShowsText j st × (st.back < length j)
  unfolding before_of after_of
  asks-line ((ed b [] p, t, h, w), less) = absurd (no_line b p t w less)
  asks-line ((ed b (r ∷ a) p, t, h, w), less) = ((ed b (r ∷ a) p, t, h), omega (arith, held-length h.holds, all_cons r (a ++ map kept (rest_lines t)), three-bytes r))

  pub asks-next : HasNext j st at → StandsAt j st at
  asks-next ((e, t, h, w), less) = next-stands e t h (next-some e t w less)

  pub asks-freed : HasNext j st at → (next : ℕ) → next ≡ at + line_length (drop at j) → (x : Record) × (rs : List Record) × Stands j at (x ∷ rs) × (next ≡ at + length (enc x))
  asks-freed ((ed b [] p, t, h, w), less) = absurd (no_line b p t w less)
  asks-freed ((ed b (r ∷ a) p, t, h, w), less) = freed-asks b r a p t h (next-some (ed b (r ∷ a) p) t w less)
