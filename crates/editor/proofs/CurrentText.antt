-- The current line's text: of the table until its first change, and of the journal afterwards. Assumes nothing.
use mathlib.Core.Path.{◌≡◌, refl, sym, ap, ◌∙◌}
use mathlib.Core.Bool.{true}
use mathlib.Core.Option.{none}
use Prim.Native.Nat.{ℕ, ◌+◌, ◌-◌, ◌≤◌, ◌<◌}
use native.Mathlib.Omega.{arith}
use mathlib.Core.List.{List, [], ◌∷◌, ◌++◌, map, reverse_aux, append_assoc}
use lib.ListN.{length, take, drop, get_or, length-append, length-drop}
use lib.Seq.{paste, take_at, take_all, drop_at}
use Rattle.definitions.specs.Bytes.{Line, lines_of, line_bytes, lines_bytes, all_text, is_line}
use Rattle.definitions.specs.Table.{is_table}
use Rattle.definitions.specs.Journal.{Record, kept, changed, deleted, inserted, old_of, old_side}
use Rattle.definitions.specs.Tape.{Tape, rest_lines}
use Rattle.definitions.specs.Given.{Carried}
use Rattle.definitions.specs.Editor.{Ed, ed, before_of, after_of, current, n20, stop_number, put}
use Rattle.definitions.specs.StepProgram.{gives, changes}
use Rattle.definitions.specs.Edit.{Op, program, step}
use Rattle.theorems.specs.RecordLaws.{reverse-append, old-append}
use Rattle.theorems.specs.JournalBytes.{table-reads-back}
use Rattle.text.specs.Feeds.{place_of}
use Rattle.editor.specs.Records.{enc, Good, old_bytes, LineIn}
use Rattle.editor.specs.Shows.{Shows, TextAt, lent, Performs}
use Rattle.editor.specs.Current.{current_line, PointIn, TableOf, ShowsOf, ShownOf, CopiesLine, PerformsOf}
use Rattle.editor.specs.declared.State.{State}
use Rattle.editor.specs.Stops.{Moved, stopping}
use Rattle.editor.specs.declared.Stop.TheVariants.{AtEof}
use Rattle.editor.proofs.Records.{text-place, line-text, line-short, old-bytes-nil, old-bytes-reverse}
use Rattle.editor.proofs.Held.{held-mark}
use Rattle.editor.proofs.Reading.{journal-is}
use Rattle.editor.proofs.Parts.{shown-record, perform-line, perform-no-line}
use Rattle.editor.proofs.Texts.{text-here, current-good}
use Rattle.text.proofs.Lines.{lines-bytes-append}

-- ---- a kept line in the table

-- the table from the source line of a kept record on
table-from : (table : List ℕ) (b : List Record) (l : Line) (a : List Record) → is_table table ≡ true → old_side (reverse_aux b (kept l ∷ a)) ≡ lines_of table
    → drop (old_bytes b) table ≡ l ++ (10 ∷ lines_bytes (old_side a))
unfolding old_side old_of lines_bytes line_bytes old_bytes
table-from table b l a good q =
    let B : List ℕ = lines_bytes (old_side (reverse_aux b [])) in
    let A : List ℕ = (l ++ (10 ∷ [])) ++ lines_bytes (old_side a) in
    let whole : table ≡ B ++ A =
    sym (table-reads-back table good) ∙ ap lines_bytes (sym q ∙ ap old_side (reverse-append b [] (kept l ∷ a)) ∙ old-append (reverse_aux b []) (kept l ∷ a))
    ∙ lines-bytes-append (old_side (reverse_aux b [])) (l ∷ old_side a) in
    let long : length B ≡ old_bytes b = omega (arith, old-bytes-reverse b [], old-bytes-nil) in
    rw whole (drop_at B A (old_bytes b) long ∙ append_assoc l (10 ∷ []) (lines_bytes (old_side a)))

-- a kept record's line is n bytes of the table from `from` on
record KeptAt (table : List ℕ) (from n : ℕ) (r : Record) : Type 0 where
  text : take n (drop from table) ≡ current r
  room : from + n ≤ length table

-- up to the next line feed
kept_here : {j : List ℕ} {st : State} (table : List ℕ) (b : List Record) (l : Line) (a : List Record) (p : ℕ) (t : Tape)
    → Shows j st (ed b (kept l ∷ a) p) t → TableOf table (ed b (kept l ∷ a) p) t → KeptAt table st.source (place_of 10 (drop st.source table)) (kept l)
unfolding current before_of after_of
kept_here {st = st} table b l a p t h w =
    let A : List Record = a ++ map kept (rest_lines t) in
    let z : List ℕ = lines_bytes (old_side A) in
    let n : ℕ = place_of 10 (drop st.source table) in
    let is : drop st.source table ≡ l ++ (10 ∷ z) =
    rw h.holds.source (table-from table b l A w.is (ap old_side (journal-is b (kept l ∷ a) p t) ∙ w.old)) in
    let long : length l ≡ n = sym (ap (place_of 10) is ∙ text-place 10 (omega arith) l z (line-text l h.holds.good.0)) in
    let size : length table - st.source ≡ length l + length (10 ∷ z) = sym (length-drop st.source table) ∙ ap length is ∙ length-append l (10 ∷ z) in
    record { text = ap (take n) is ∙ take_at l (10 ∷ z) n long; room = omega arith }

module _ {j : List ℕ} {st : State} (more : st.back < length j) (table : List ℕ) (m : get_or j st.back 0 ≡ 61) where
  kept_at : (b : List Record) (r : Record) (a : List Record) (p : ℕ) (t : Tape) → Shows j st (ed b (r ∷ a) p) t → TableOf table (ed b (r ∷ a) p) t
      → KeptAt table st.source (place_of 10 (drop st.source table)) r
  unfolding before_of after_of
  kept_at b (kept l) a p t h w = kept_here table b l a p t h w
  kept_at b (changed o l) a p t h w = absurd (omega (arith, held-mark h.holds))
  kept_at b (deleted l) a p t h w = absurd (omega (arith, held-mark h.holds))
  kept_at b (inserted l) a p t h w = absurd (omega (arith, held-mark h.holds))

  pub kept-room : (e : Ed) (t : Tape) → Shows j st e t → TableOf table e t → st.source + place_of 10 (drop st.source table) ≤ length table
  kept-room (ed b [] p) t h w = absurd (shown-record b p t h more)
  kept-room (ed b (r ∷ a) p) t h w = (kept_at b r a p t h w).room

  pub kept_line : (to : ℕ) → to ≡ st.source + place_of 10 (drop st.source table)
      → (e : Ed) (t : Tape) → Shows j st e t → TableOf table e t → take (to - st.source) (drop st.source table) ≡ current_line e
  kept_line to is (ed b [] p) t h w = absurd (shown-record b p t h more)
  kept_line to is (ed b (r ∷ a) p) t h w =
      let q : to - st.source ≡ place_of 10 (drop st.source table) = omega arith in
      rw q (kept_at b r a p t h w).text

-- ---- a line in the journal

module _ {j : List ℕ} {st : State} (from n : ℕ) (more : st.back < length j)
    (texts : (r : Record) (z : List ℕ) → Good r → drop st.back j ≡ enc r ++ z → TextAt j st.back from n r) where
  pub other-room : (e : Ed) (t : Tape) → Shows j st e t → from + n ≤ length j
  other-room e t h = omega (arith, (text-here e t h more texts).within)

  pub other-line : (e : Ed) (t : Tape) → Shows j st e t → take ((from + n) - from) (drop from j) ≡ current_line e
  other-line e t h =
      let q : (from + n) - from ≡ n = omega arith in
      rw q (text-here e t h more texts).text

-- ---- the current line

-- it is a line, where EOF is current the empty one
pub shown-good : {j : List ℕ} {st : State} (e : Ed) (t : Tape) → Shows j st e t → is_line (current_line e) ≡ true
unfolding after_of is_line all_text
shown-good (ed b [] p) t h = refl
shown-good (ed b (r ∷ a) p) t h = current-good r h.holds.good.0

-- so that it is no longer than a line can be
pub shown-short : {j : List ℕ} {st : State} (e : Ed) (t : Tape) → Shows j st e t → length (current_line e) ≤ 255
shown-short e t h = line-short (current_line e) (shown-good e t h)

-- p is within it
pub line-window : {j : List ℕ} {st : State} → st.back < length j → (e : Ed) (t : Tape) → Shows j st e t → PointIn e → (l : List ℕ) → l ≡ current_line e → st.p ≤ length l
line-window more (ed b [] p) t h i l q = absurd (shown-record b p t h more)
line-window more (ed b (r ∷ a) p) t h i l q = rw (q, h.p) i

-- ---- its copy

-- a text that is read is the current line, and no longer than a line can be
pub read_short : {table j : List ℕ} {st : State} (text : List ℕ) → ((e : Ed) (t : Tape) → Shows j st e t → TableOf table e t → text ≡ current_line e)
    → ShownOf table j st → length text ≤ 255
read_short text is (e, t, h) = omega (arith, ap length (is e t h.shows h.old), shown-short e t h.shows)

-- what `copy_current` writes
pub copies-line : {table j : List ℕ} {st : State} (text d k : List ℕ) → ((e : Ed) (t : Tape) → Shows j st e t → TableOf table e t → text ≡ current_line e)
    → k ≡ paste d 0 (drop 0 text) (length text) → CopiesLine table j st d k (length text)
copies-line text d k is built e t h =
    let q : text ≡ current_line e = is e t h.shows h.old in
    let none : 0 + length text ≡ length text = omega arith in
    (ap length q, built ∙ rw (none, take_all (length text) text (omega arith)) (ap (λ (l : List ℕ). l ++ drop (length text) d) q))

-- IC at EOF
pub copy-eof : {table j : List ℕ} {st : State} → length j ≤ st.back → PerformsOf table j st Op.copy j (stopping AtEof st)
unfolding step program stop_number
copy-eof {j = j} end e c t h = perform-no-line (lent j) c n20 (λ x. gives (changes (put (x.0 ∷ []) ∷ []))) e t h.shows AtEof refl end

-- IC elsewhere: the insertion of the current line's text, which is copied to the start of `line`
module _ {table j : List ℕ} {st : State} (d line : List ℕ) (n : ℕ) (copied : CopiesLine table j st d line n) where
  pub copied-text : (e : Ed) (t : Tape) → ShowsOf table j st e t → take n (drop 0 line) ≡ current_line e
  copied-text e t h = let w = copied e t h in ap (take n) w.1 ∙ take_at (current_line e) (drop n d) n (sym w.0)

  pub copied-good : ShownOf table j st → LineIn line 0 n
  copied-good (e, t, h) =
      let w = copied e t h in
      (omega (arith, ap length w.1, length-append (current_line e) (drop n d), w.0), rw (copied-text e t h) (shown-good e t h.shows))

  pub copy-on : (more : st.back < length j) (k : List ℕ) (r : Moved) → ((c : Carried) → Performs c j st (Op.insert none (take n (drop 0 line) ∷ [])) k r) → PerformsOf table j st Op.copy k r
  unfolding step program
  copy-on more k r puts e c t h =
      rw (perform-line (lent j) c n20 (λ x. gives (changes (put (x.0 ∷ []) ∷ []))) e t h.shows more, ← copied-text e t h) (puts c e t h.shows)
