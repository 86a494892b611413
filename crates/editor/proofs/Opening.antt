-- The opening journal of a table, written from its end. Assumes nothing.
use mathlib.Core.Path.{◌≡◌, refl, sym, ap, ◌∙◌}
use mathlib.Core.Bool.{Bool, true, false, cond}
use Prim.Native.Nat.{ℕ, zero, suc, ◌+◌, ◌-◌, ◌≤◌, ◌<◌}
use native.Mathlib.Omega.{arith}
use native.Mathlib.Numerals.{add-one, sub-one}
use mathlib.Core.List.{List, [], ◌∷◌, ◌++◌, map, append_assoc, append-nil}
use lib.ListN.{length, take, drop, get_or, set, length-append, length-drop, drop_of_length-le}
use lib.Seq.{sets-eq, paste, take-append-le, take-take, take-suc, drop_at, drop-cons, get_or-drop, length-take-le, take_all}
use lib.Dec.{eqb, leb}
use borrow.Author.Tests.{eq-eqb, eqb-true}
use Rattle.gap.specs.Gap.{zeros, cleared}
use Rattle.text.specs.Feeds.{line_start}
use Rattle.gap.proofs.Laws.{clear-parts}
use Rattle.definitions.specs.Bytes.{Line, before, lines_of, last_byte, is_line, all_lines, are_lines}
use Rattle.definitions.specs.Table.{is_table}
use Rattle.definitions.specs.Journal.{kept}
use Rattle.definitions.specs.Tape.{unread, ended, rest_lines}
use Rattle.definitions.specs.Editor.{is_live}
use Rattle.definitions.specs.Reading.{opening}
use Rattle.definitions.specs.Run.{opening_length}
use Rattle.theorems.specs.Lines.{lines-lf, lines_other}
use Rattle.theorems.specs.JournalBytes.{table-reads-back, table-lines, table-short}
use Rattle.theorems.specs.RecordLaws.{sources-kept}
use Rattle.editor.specs.Records.{enc_all, enc_before, Goods, OpeningAt}
use Rattle.editor.specs.Shows.{Holds, Opens, raised}
use Rattle.editor.specs.declared.State.{State}
use Rattle.editor.proofs.Records.{both, all-length, sources-nil, old-bytes-nil, old-bytes-kept}
use Rattle.editor.proofs.Reading.{reach_of, shows-of}

-- ---- one line of the table

-- a mark before what stands from `at` on
mark-before : (j k z : List ℕ) (a at : ℕ) → a + 2 ≡ at → at ≤ length j → k ≡ take at j ++ z → set (set k a 61) (a + 1) 61 ≡ take a j ++ (61 ∷ 61 ∷ z)
mark-before j k z a at two fits is =
    let long : length (take at j) ≡ at = length-take-le at j fits in
    let in-k : a + 2 ≤ length k = rw (is, length-append, long) (omega arith) in
    let front : take a k ≡ take a j = rw (is, take-append-le a (take at j) z (omega arith)) (take-take a at j (omega arith)) in
    let behind : drop (a + 2) k ≡ z = rw (two, is) (drop_at (take at j) z at long) in
    rw (add-one a) (sets-eq (61 ∷ 61 ∷ []) k a in-k ∙ rw (front, behind) (append_assoc (take a j) (61 ∷ 61 ∷ []) z))

-- its bytes and a mark before them, written so that they end at o
pub put-line : (j t : List ℕ) (o from n : ℕ) → n + 2 ≤ o → o ≤ length j
    → set (set (paste j (o - n) (drop from t) n) (o - n - 2) 61) (o - n - 2 + 1) 61 ≡ take (o - n - 2) j ++ (61 ∷ 61 ∷ (take n (drop from t) ++ drop o j))
put-line j t o from n room fits =
    let end : o - n + n ≡ o = omega arith in
    let is : paste j (o - n) (drop from t) n ≡ take (o - n) j ++ (take n (drop from t) ++ drop o j) = rw end (append_assoc (take (o - n) j) (take n (drop from t)) (drop o j)) in
    mark-before j (paste j (o - n) (drop from t) n) (take n (drop from t) ++ drop o j) (o - n - 2) (o - n) (omega arith) (omega arith) is

-- ---- the lines of a table, from its end

-- a line starts after a line feed, or is the first
start-low : (t : List ℕ) (k : ℕ) → line_start t k ≤ k
unfolding line_start
start-low t zero = omega arith
start-low t (suc k) = go (eqb (get_or t k 0) 10) (start-low t k)
  where
    go : (b : Bool) → line_start t k ≤ k → cond b (suc k) (line_start t k) ≤ suc k
    go true h = omega arith
    go false h = omega arith

start-feed : (t : List ℕ) (k : ℕ) → 0 < line_start t k → get_or t (line_start t k - 1) 0 ≡ 10
unfolding line_start
start-feed t zero h = absurd (omega arith)
start-feed t (suc k) h = go (eqb (get_or t k 0) 10) refl (start-feed t k) h
  where
    go : (b : Bool) → eqb (get_or t k 0) 10 ≡ b → (0 < line_start t k → get_or t (line_start t k - 1) 0 ≡ 10)
        → 0 < cond b (suc k) (line_start t k) → get_or t (cond b (suc k) (line_start t k) - 1) 0 ≡ 10
    go true e f h = rw sub-one (eqb-true (get_or t k 0) 10 e)
    go false e f h = f h

-- the last byte of a table is a line feed
last-feed : (x : ℕ) (t : List ℕ) → last_byte x t ≡ 10 → get_or (x ∷ t) (length t) 0 ≡ 10
unfolding last_byte
last-feed x [] e = e
last-feed x (y ∷ t) e = last-feed y t e

table-feed : (t : List ℕ) → last_byte 10 t ≡ 10 → 0 < length t → get_or t (length t - 1) 0 ≡ 10
unfolding last_byte
table-feed [] e h = absurd (omega arith)
table-feed (x ∷ t) e h =
    let m : suc (length t) - 1 ≡ length t = omega arith in
    rw m (last-feed x t e)

-- one byte more of the part from s on
part-more : (t u : List ℕ) (s k : ℕ) → s ≤ k → k < length t → take (k - s) (drop s t) ++ (get_or t k 0 ∷ u) ≡ take (suc k - s) (drop s t) ++ u
part-more t u s k h lt =
    let n : ℕ = k - s in
    let up : suc k - s ≡ suc n = omega arith in
    let at : s + n ≡ k = omega arith in
    let in-d : n < length (drop s t) = simp length-drop (omega arith) in
    let byte : get_or (drop s t) n 0 ≡ get_or t k 0 = get_or-drop s t n 0 ∙ rw at in
    rw (up, take-suc (drop s t) n 0 in-d, byte) (sym (append_assoc (take n (drop s t)) (get_or t k 0 ∷ []) u))

before-first : (x : ℕ) (u : Line) (ls us : List Line) → us ≡ u ∷ ls → before x us ≡ (x ∷ u) ∷ ls
unfolding before
before-first x u ls us e = ap (before x) e

-- the bytes before u in its line are the line's first
line-back : (t u : List ℕ) (ls : List Line) (k : ℕ) → k ≤ length t → lines_of (drop k t) ≡ u ∷ ls
    → lines_of (drop (line_start t k) t) ≡ (take (k - line_start t k) (drop (line_start t k) t) ++ u) ∷ ls
unfolding line_start
line-back t u ls zero h e = e
line-back t u ls (suc k) h e = go (eqb (get_or t k 0) 10) refl (line-back t (get_or t k 0 ∷ u) ls k (omega arith))
  where
    longer : eqb (get_or t k 0) 10 ≡ false → lines_of (drop k t) ≡ (get_or t k 0 ∷ u) ∷ ls
    longer q = ap lines_of (drop-cons t k 0 (omega arith)) ∙ lines_other (get_or t k 0) (drop (suc k) t) q ∙ before-first (get_or t k 0) u ls (lines_of (drop (suc k) t)) e

    go : (b : Bool) → eqb (get_or t k 0) 10 ≡ b
        → (lines_of (drop k t) ≡ (get_or t k 0 ∷ u) ∷ ls → lines_of (drop (line_start t k) t) ≡ (take (k - line_start t k) (drop (line_start t k) t) ++ (get_or t k 0 ∷ u)) ∷ ls)
        → lines_of (drop (cond b (suc k) (line_start t k)) t) ≡ (take (suc k - cond b (suc k) (line_start t k)) (drop (cond b (suc k) (line_start t k)) t) ++ u) ∷ ls
    go true q more =
        let none : suc k - suc k ≡ 0 = omega arith in
        rw none e
    go false q more = more (longer q) ∙ ap (λ (l : List ℕ). l ∷ ls) (part-more t u (line_start t k) k (start-low t k) (omega arith))

-- the lines of a table as they are written in the opening journal
abbrev pub kept_lines : List ℕ → List ℕ
kept_lines t = enc_all (map kept (lines_of t))

module _ (t : List ℕ) (i : ℕ) (some : 0 < i) (within : i ≤ length t) (feed : get_or t (i - 1) 0 ≡ 10) where
  the-line : lines_of (drop (line_start t (i - 1)) t) ≡ take (i - 1 - line_start t (i - 1)) (drop (line_start t (i - 1)) t) ∷ lines_of (drop i t)
  the-line =
      let up : suc (i - 1) ≡ i = omega arith in
      let empty : lines_of (drop (i - 1) t) ≡ [] ∷ lines_of (drop i t) = rw up at (ap lines_of (drop-cons t (i - 1) 0 (omega arith)) ∙ lines-lf (get_or t (i - 1) 0) (drop (suc (i - 1)) t) (eq-eqb (get_or t (i - 1) 0) 10 feed)) in
      line-back t [] (lines_of (drop i t)) (i - 1) (omega arith) empty ∙ rw append-nil

  line-counted : length (lines_of (drop (line_start t (i - 1)) t)) ≡ suc (length (lines_of (drop i t)))
  line-counted = ap length the-line

  line_kept : kept_lines (drop (line_start t (i - 1)) t) ≡ 61 ∷ 61 ∷ (take (i - line_start t (i - 1)) (drop (line_start t (i - 1)) t) ++ kept_lines (drop i t))
  unfolding enc_all
  line_kept =
      let s : ℕ = line_start t (i - 1) in
      let up : suc (i - 1) ≡ i = omega arith in
      let ends : take (i - 1 - s) (drop s t) ++ (10 ∷ []) ≡ take (i - s) (drop s t) ++ [] = rw (feed, up) at (part-more t [] s (i - 1) (omega (arith, start-low t (i - 1))) (omega arith)) in
      ap (λ (ls : List Line). enc_all (map kept ls)) the-line ∙ ap (λ (l : List ℕ). 61 ∷ 61 ∷ (l ++ kept_lines (drop i t))) (ends ∙ append-nil (take (i - s) (drop s t)))

-- what is written of the end of a table is no longer than what is written of it
before_more : (x : ℕ) (ls : List Line) → length (enc_all (map kept ls)) ≤ length (enc_all (map kept (before x ls)))
unfolding enc_all before
before_more x [] = omega arith
before_more x (l ∷ ls) = simp length-append (omega arith)

empty-more : (ls : List Line) → length (enc_all (map kept ls)) ≤ length (enc_all (map kept ([] ∷ ls)))
unfolding enc_all
empty-more ls = omega arith

kept_more : (x : ℕ) (t : List ℕ) → length (kept_lines t) ≤ length (kept_lines (x ∷ t))
kept_more x t = go (eqb x 10) refl
  where
    go : (b : Bool) → eqb x 10 ≡ b → length (kept_lines t) ≤ length (kept_lines (x ∷ t))
    go true e = rw (lines-lf x t e) (empty-more (lines_of t))
    go false e = rw (lines_other x t e) (before_more x (lines_of t))

kept_less : (t : List ℕ) (i : ℕ) → length (kept_lines (drop i t)) ≤ length (kept_lines t)
kept_less t zero = omega arith
kept_less [] (suc i) = omega arith
kept_less (x ∷ t) (suc i) = omega (arith, kept_less t i, kept_more x t)

-- a table without lines
nothing-kept : kept_lines [] ≡ []
unfolding enc_all lines_of
nothing-kept = refl

no_lines : length (lines_of []) ≡ 0
unfolding lines_of
no_lines = refl

-- the room that is asked for
opening-room : (t : List ℕ) → opening_length (lines_of t) ≡ length (kept_lines t)
unfolding opening_length
opening-room t = sym (all-length (map kept (lines_of t)))

pub table-last : (t : List ℕ) → is_table t ≡ true → last_byte 10 t ≡ 10
unfolding is_table are_lines
table-last t h = eqb-true (last_byte 10 t) 10 (both (eqb (last_byte 10 t) 10) (all_lines (lines_of t)) (both (are_lines t) (leb (length (lines_of t)) 65535) h).0).0

-- ---- the loop: what is written of the table from i on

pub record Writing (t j₀ j : List ℕ) (o i lines : ℕ) : Type 0 where
  pub within : i ≤ length t
  pub feed : 0 < i → get_or t (i - 1) 0 ≡ 10
  pub bytes : j ≡ take o j₀ ++ kept_lines (drop i t)
  pub at : o + length (kept_lines (drop i t)) ≡ length j₀
  pub counted : lines ≡ length (lines_of (drop i t))
  pub few : lines + i ≤ length t

pub writing_start : (t j : List ℕ) → is_table t ≡ true → Writing t j j (length j) (length t) 0
writing_start t j good =
    let none : drop (length t) t ≡ [] = drop_of_length-le t {i = length t} (omega arith) in
    record {
      within = omega arith;
      feed = table-feed t (table-last t good);
      bytes = rw (none, nothing-kept, take_all (length j) j (omega arith)) (sym (append-nil j));
      at = rw (none, nothing-kept) (omega arith);
      counted = rw none (sym no_lines);
      few = omega arith;
    }

module _ {t j₀ j : List ℕ} {o i lines : ℕ} (w : Writing t j₀ j o i lines) (more : 0 < i) (s : ℕ) (is : s ≡ line_start t (i - 1)) where
  pub writing-low : s < i
  writing-low = rw is (omega (arith, start-low t (i - 1)))

  now-kept : kept_lines (drop s t) ≡ 61 ∷ 61 ∷ (take (i - s) (drop s t) ++ kept_lines (drop i t))
  now-kept = rw is (line_kept t i more w.within (w.feed more))

  now-counted : length (lines_of (drop s t)) ≡ suc (length (lines_of (drop i t)))
  now-counted = rw is (line-counted t i more w.within (w.feed more))

  now-long : length (kept_lines (drop s t)) ≡ (i - s) + 2 + length (kept_lines (drop i t))
  now-long = rw (now-kept, length-append, length-take-le (i - s) (drop s t) (simp length-drop (omega (arith, w.within)))) (omega arith)

  pub writing-fits : opening_length (lines_of t) ≤ length j₀ → ((i - s) + 2 ≤ o) × (o ≤ length j) × (s + (i - s) ≤ length t)
  writing-fits room = (omega (arith, writing-low, now-long, w.at, kept_less t s, opening-room t), whole-fits, omega (arith, writing-low, w.within))
    where
      whole-fits : o ≤ length j
      whole-fits = rw (w.bytes, length-append, length-take-le o j₀ (omega (arith, w.at))) (omega arith)

  pub writing-next : (k : List ℕ) (r : ℕ) → k ≡ take r j ++ (61 ∷ 61 ∷ (take (i - s) (drop s t) ++ drop o j)) → r + ((i - s) + 2) ≡ o
      → Writing t j₀ k r s (lines + 1)
  writing-next k r q at =
      let long : length (take o j₀) ≡ o = length-take-le o j₀ (omega (arith, w.at)) in
      let front : take r j ≡ take r j₀ = rw (w.bytes, take-append-le r (take o j₀) (kept_lines (drop i t)) (omega arith)) (take-take r o j₀ (omega arith)) in
      let end : drop o j ≡ kept_lines (drop i t) = rw w.bytes (drop_at (take o j₀) (kept_lines (drop i t)) o long) in
      record {
        within = omega (arith, writing-low, w.within);
        feed = rw is (start-feed t (i - 1));
        bytes = q ∙ rw (front, end, now-kept);
        at = omega (arith, now-long, w.at);
        counted = omega (arith, now-counted, w.counted);
        few = omega (arith, writing-low, w.few);
      }

-- all is written
pub writing-done : {t j₀ j : List ℕ} {o i lines : ℕ} → Writing t j₀ j o i lines → i ≡ 0
    → OpeningAt (lines_of t) j₀ j o × (lines ≡ length (lines_of t))
writing-done {t} {j₀} {j} {o} {i} {lines} w z = ((rw z at w.bytes, rw (opening-room t) (rw z at w.at)), rw z at w.counted)

-- ---- a table is good

goods-kept : (ls : List Line) → all_lines ls ≡ true → Goods (map kept ls)
unfolding all_lines
goods-kept [] h = tt
goods-kept (l ∷ ls) h =
    let q : (is_line l ≡ true) × (all_lines ls ≡ true) = both (is_line l) (all_lines ls) h in
    (q.0, goods-kept ls q.1)

-- ---- the state shown

opened-shows : {j : List ℕ} {st : State} (ls : List Line) → Holds j st [] (map kept ls) → st.furthest ≡ 1 → st.p ≡ 0 → Opens j st (opening (unread ls))
unfolding opening rest_lines reach_of is_live
opened-shows [] h f p = shows-of [] [] 0 ended h (omega (arith, h.lines, sources-nil)) p tt
opened-shows (l ∷ ls) h f p =
    shows-of [] (kept l ∷ []) 0 (unread ls) h (omega (arith, h.lines, sources-nil, sources-kept (l ∷ ls))) p refl

opening-holds : {j : List ℕ} {st : State} (t : List ℕ) → is_table t ≡ true → j ≡ zeros st.back ++ enc_all (map kept (lines_of t))
    → st.front ≡ 0 → st.past ≡ 0 → st.lines ≡ length (lines_of t) → st.source ≡ 0 → st.size ≡ length t → st.furthest ≡ 1 → st.p ≡ 0
    → Opens j st (opening (unread (lines_of t)))
unfolding enc_before
opening-holds {j} {st} t good q f n l o z far p =
    let wide : st.back - st.front ≡ st.back = omega arith in
    opened-shows (lines_of t)
    (record {
      bytes = rw wide q;
      front = sym f;
      order = omega arith;
      past_good = tt;
      good = goods-kept (lines_of t) (table-lines t good);
      past = n ∙ sym sources-nil;
      lines = omega (arith, sources-nil, sources-kept (lines_of t));
      source = o ∙ sym old-bytes-nil;
      size = omega (arith, old-bytes-nil, old-bytes-kept (lines_of t), ap length (table-reads-back t good));
      few = omega (arith, table-short t good);
    }) far p

-- the same with nothing read, and then the first line
pub opening-read : {j : List ℕ} {st s : State} (t : List ℕ) → is_table t ≡ true → j ≡ zeros st.back ++ enc_all (map kept (lines_of t))
    → st.front ≡ 0 → st.past ≡ 0 → st.lines ≡ length (lines_of t) → st.source ≡ 0 → st.size ≡ length t → st.furthest ≡ 0 → st.p ≡ 0 → s ≡ raised st 1
    → Opens j s (opening (unread (lines_of t)))
opening-read {st = st} t good q f n l o z far p is = rw is (opening-holds {st = raised st 1} t good q f n l o z (omega arith) p)

-- zeros before what is written
pub opened-bytes : (t j k : List ℕ) (at : ℕ) → k ≡ take at j ++ kept_lines t → at ≤ length j → cleared 0 at k ≡ zeros at ++ kept_lines t
opened-bytes t j k at is fits = rw is (clear-parts [] (take at j) (kept_lines t) 0 at refl (length-take-le at j fits))
