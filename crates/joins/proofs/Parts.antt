-- The text of the joined line. Assumes nothing.
use mathlib.Core.Path.{◌≡◌, refl, sym, ap, ◌∙◌}
use mathlib.Core.Bool.{true}
use mathlib.Core.List.{List, [], ◌++◌, append_assoc}
use Prim.Native.Nat.{ℕ, ◌+◌, ◌≤◌, ◌<◌}
use native.Mathlib.Omega.{arith}
use lib.ListN.{length, take, drop, length-append, length-drop}
use lib.Seq.{take_all, paste}
use borrow.Author.Tests.{le-leb, lt-leb}
use Rattle.definitions.specs.Bytes.{Line, is_line}
use Rattle.definitions.specs.Journal.{Record}
use Rattle.definitions.specs.Tape.{Tape}
use Rattle.definitions.specs.Editor.{Ed, current}
use Rattle.theorems.specs.GoodLines.{appended-text}
use Rattle.theorems.specs.JournalBytes.{line-text, line_of}
use Rattle.editor.specs.Records.{enc, Good, LineIn}
use Rattle.editor.specs.Shows.{Shows, TextAt}
use Rattle.editor.specs.Current.{current_line, TableOf, ShowsOf}
use Rattle.editor.specs.declared.State.{State}
use Rattle.editor.proofs.CurrentText.{shown-good}
use Rattle.editor.proofs.Inserting.{text-length}
use Rattle.editor.proofs.Texts.{current-good, text-size}
use Rattle.editor.proofs.Records.{line-short}
use Rattle.changes.specs.Current.{written}
use Rattle.changes.proofs.Written.{then-part, first-written}
use Rattle.joins.specs.Joining.{HasRecord, JoinsText}

-- ---- one part after another

pub parts-put : (d a s j : List ℕ) (from n at m : ℕ) {r1 r2 r3 : List ℕ} → length a + n + m ≤ length d → from + n ≤ length s → at + m ≤ length j
    → r1 ≡ paste d 0 (drop 0 a) (length a) → r2 ≡ paste r1 (length a) (drop from s) n → r3 ≡ paste r2 (length a + n) (drop at j) m
    → r3 ≡ written d (a ++ (take n (drop from s) ++ take m (drop at j)))
unfolding written
parts-put d a s j from n at m room sr jr e1 e2 e3 =
    let S : List ℕ = take n (drop from s) in
    let J : List ℕ = take m (drop at j) in
    let all : take (length a) a ≡ a = take_all (length a) a (omega arith) in
    let one : _ = then-part d [] 0 refl refl a (length a) e1 (omega arith) (omega arith) in
    let two : _ = then-part d a (length a) (one ∙ ap (written d) all) refl (drop from s) n e2 (omega (arith, length-drop from s)) (omega arith) in
    let long : length (a ++ S) ≡ length a + n = length-append a S ∙ ap (λ (i : ℕ). length a + i) (text-length s from n sr) in
    let three : _ = then-part d (a ++ S) (length a + n) two long (drop at j) m e3 (omega (arith, length-drop at j)) (omega arith) in
    three ∙ ap (written d) (append_assoc a S J)

-- ---- what `join_text` does

-- the next line's length is in range
pub next-bound : {j : List ℕ} {at from n : ℕ} → HasRecord j at → ((r : Record) (z : List ℕ) → Good r → drop at j ≡ enc r ++ z → TextAt j at from n r) → (n ≤ 255) × (from + n < length j)
next-bound (r, z, g, q) texts =
    let x = texts r z g q in
    (omega (arith, text-size x, line-short (current r) (current-good r g)), x.within)

module _ (table j : List ℕ) (st : State) (at : ℕ) (s : List ℕ) (from n : ℕ) (string : LineIn s from n) (d text : List ℕ)
    (is : (e : Ed) (t : Tape) → Shows j st e t → TableOf table e t → text ≡ current_line e) (place size : ℕ)
    (texts : (r : Record) (z : List ℕ) → Good r → drop at j ≡ enc r ++ z → TextAt j at place size r) (len : ℕ) (sum : len ≡ length text + n + size) where
  abbrev pub S : Line
  S = take n (drop from s)

  joined-long : (e : Ed) (t : Tape) (x : Record) (z : List ℕ) → ShowsOf table j st e t → Good x → drop at j ≡ enc x ++ z → len ≡ length (current_line e ++ (S ++ current x))
  joined-long e t x z h g q =
      omega (arith, sum, ap length (is e t h.shows h.old), length-append (current_line e) (S ++ current x), length-append S (current x), text-length s from n string.0, text-size (texts x z g q))

  -- it is too long: nothing is written
  pub joins-none : 255 < len → JoinsText table j st at S d d len
  joins-none long e t x z h g q =
      let l : Line = current_line e ++ (S ++ current x) in
      let w : len ≡ length l = joined-long e t x z h g q in
      (w, rw (lt-leb (length l) 255 (omega (arith, w, long))))

  pub joins-on : len ≤ 255 → (k : List ℕ) → k ≡ written d (text ++ (S ++ take size (drop place j))) → JoinsText table j st at S d k len
  joins-on short k built e t x z h g q =
      let l : Line = current_line e ++ (S ++ current x) in
      let w : len ≡ length l = joined-long e t x z h g q in
      let same : text ++ (S ++ take size (drop place j)) ≡ l = rw (is e t h.shows h.old, (texts x z g q).text) in
      (w, rw (le-leb (length l) 255 (omega (arith, w, short))) (built ∙ ap (written d) same))

-- ---- the text that is written is a line

module _ {table j : List ℕ} {st : State} (at : ℕ) (s : Line) (d line : List ℕ) (len : ℕ) (did : JoinsText table j st at s d line len) (short : len ≤ 255)
    (e : Ed) (t : Tape) (x : Record) (z : List ℕ) (h : ShowsOf table j st e t) (g : Good x) (q : drop at j ≡ enc x ++ z) where
  pub joined-text : take len line ≡ current_line e ++ (s ++ current x)
  joined-text =
      let l : Line = current_line e ++ (s ++ current x) in
      let w : len ≡ length l = (did e t x z h g q).0 in
      let built : line ≡ written d l = rw (le-leb (length l) 255 (omega (arith, w, short))) at (did e t x z h g q).1 in
      ap (take len) built ∙ first-written d l len (sym w)

  pub joined_line : is_line s ≡ true → is_line (take len line) ≡ true
  joined_line fine =
      rw joined-text (line_of (current_line e ++ (s ++ current x))
      (appended-text (current_line e) (s ++ current x) (line-text (current_line e) (shown-good e t h.shows)) (appended-text s (current x) (line-text s fine) (line-text (current x) (current-good x g))))
      (omega (arith, (did e t x z h g q).0, short)))
