-- The current line spliced: 25, or the text that is written. Assumes nothing.
use mathlib.Core.Path.{◌≡◌, refl, sym, ap, ◌∙◌}
use mathlib.Core.Bool.{true}
use Prim.Native.Nat.{ℕ, ◌+◌, ◌-◌, ◌≤◌, ◌<◌}
use native.Mathlib.Omega.{arith}
use mathlib.Core.List.{List, [], ◌∷◌}
use lib.ListN.{length, take}
use lib.Seq.{length-take-le}
use lib.Dec.{ltb}
use borrow.Author.Tests.{le-leb, lt-leb, lt-ltb, le-ltb}
use Rattle.definitions.specs.Bytes.{Line, all_text, is_line}
use Rattle.definitions.specs.Tape.{Tape}
use Rattle.definitions.specs.Given.{Given, Carried}
use Rattle.definitions.specs.Editor.{Ed, n25, stop_number, retext}
use Rattle.definitions.specs.StepProgram.{gives, state, changes, perform}
use Rattle.definitions.specs.Edit.{write, splice}
use Rattle.theorems.specs.Programs.{runs-halt, runs-pass}
use Rattle.theorems.specs.JournalBytes.{line-text, line_of}
use Rattle.theorems.specs.GoodLines.{splice-text, splice-length}
use Rattle.editor.specs.Shows.{Shows, lent, Answered, Completes}
use Rattle.editor.specs.Current.{current_line, TableOf}
use Rattle.editor.specs.declared.State.{State}
use Rattle.editor.specs.Stops.{Moved, stopping}
use Rattle.editor.specs.declared.Stop.TheVariants.{LineLong}
use Rattle.editor.proofs.Parts.{perform-as, perform-stop, came-stop}
use Rattle.editor.proofs.CurrentText.{shown-good, shown-short}
use Rattle.changes.specs.Current.{written, AtLine, HasLine, Splices, Writes}
use Rattle.changes.proofs.Written.{first-written}

-- ---- the end of a step that writes a line

module _ (g : Given) (c : Carried) (l : Line) (q : ℕ) (e : Ed) (t : Tape) where
  -- 25
  pub write-long : (j : List ℕ) (st : State) → 255 < length l → Shows j st e t → Answered j (stopping LineLong st) (perform g (write l q) (state e c) t)
  unfolding write stop_number
  write-long j st long h =
      perform-stop g c (write l q) e t j LineLong st (came-stop LineLong (runs-halt g c n25 (ltb 255 (length l)) (gives (changes (retext l q ∷ []))) e t (lt-ltb 255 (length l) long)) refl h)

  pub write-on : length l ≤ 255 → perform g (write l q) (state e c) t ≡ perform g (gives (changes (retext l q ∷ []))) (state e c) t
  unfolding write
  write-on short =
      perform-as g c (write l q) (gives (changes (retext l q ∷ []))) e e t t (runs-pass g c n25 (ltb 255 (length l)) (gives (changes (retext l q ∷ []))) e t (le-ltb 255 (length l) short))

-- ---- what `splice_text` does

-- a line that is shown is of text
pub shown-text : {j : List ℕ} {st : State} (e : Ed) (t : Tape) → Shows j st e t → all_text (current_line e) ≡ true
shown-text e t h = line-text (current_line e) (shown-good e t h)

-- the text that is read is long enough, and no longer than a line can be
pub text-room : {table j : List ℕ} {st : State} {w : ℕ} (text : List ℕ) → ((e : Ed) (t : Tape) → Shows j st e t → TableOf table e t → text ≡ current_line e) → HasLine table j st w
    → (w ≤ length text) × (length text ≤ 255)
text-room text is (e, t, h) =
    let l : length text ≡ length (current_line e) = ap length (is e t h.text.shows h.text.old) in
    (omega (arith, l, h.long), omega (arith, l, shown-short e t h.text.shows))

module _ (table j : List ℕ) (st : State) (i n : ℕ) (new d : List ℕ) (text : List ℕ) (is : (e : Ed) (t : Tape) → Shows j st e t → TableOf table e t → text ≡ current_line e)
    (m : ℕ) (have : m ≤ length new) (len : ℕ) (size : len ≡ length text - n + m) where
  spliced_long : (e : Ed) (t : Tape) → AtLine table j st (i + n) e t → len ≡ length (splice (current_line e) i n (take m new))
  spliced_long e t w =
      omega (arith, splice-length (current_line e) i n (take m new) w.long, length-take-le m new have, size, ap length (is e t w.text.shows w.text.old))

  -- it is too long: nothing is written
  pub splices-none : 255 < len → Splices table j st i n (take m new) d d len
  splices-none long e t w =
      let s : len ≡ length (splice (current_line e) i n (take m new)) = spliced_long e t w in
      (s, rw (lt-leb (length (splice (current_line e) i n (take m new))) 255 (omega (arith, s, long))))

  pub splices-on : len ≤ 255 → (k : List ℕ) → k ≡ written d (splice text i n (take m new)) → Splices table j st i n (take m new) d k len
  splices-on short k built e t w =
      let s : len ≡ length (splice (current_line e) i n (take m new)) = spliced_long e t w in
      (s, rw (le-leb (length (splice (current_line e) i n (take m new))) 255 (omega (arith, s, short)), ← is e t w.text.shows w.text.old) built)

-- ---- what `splice_current` does

module _ (table j : List ℕ) (st : State) (i n : ℕ) (new d line : List ℕ) (len : ℕ) (did : Splices table j st i n new d line len) where
  pub writes-none : (q : ℕ) → 255 < len → Writes table j st (i + n) (λ l. splice l i n new) q j (stopping LineLong st)
  writes-none q long e c t w =
      write-long (lent j) c (splice (current_line e) i n new) q e t j st (omega (arith, (did e t w).0, long)) w.text.shows

  module _ (short : len ≤ 255) where
    new-text : (e : Ed) (t : Tape) → AtLine table j st (i + n) e t → take len line ≡ splice (current_line e) i n new
    new-text e t w =
        let l : Line = splice (current_line e) i n new in
        let s : len ≡ length l = (did e t w).0 in
        let fits : length l ≤ 255 = omega (arith, s, short) in
        let is : line ≡ written d l = rw (le-leb (length l) 255 fits) at (did e t w).1 in
        ap (take len) is ∙ first-written d l len (sym s)

    pub new_line : all_text new ≡ true → HasLine table j st (i + n) → is_line (take len line) ≡ true
    new_line fine (e, t, w) =
        rw (new-text e t w)
        (line_of (splice (current_line e) i n new) (splice-text (current_line e) i n new (shown-text e t w.text.shows) fine) (omega (arith, (did e t w).0, short)))

    pub writes-on : (k : List ℕ) (q : ℕ) (m : Moved) → ((c : Carried) → Completes c j st (gives (changes (retext (take len line) q ∷ []))) k m) → Writes table j st (i + n) (λ l. splice l i n new) q k m
    writes-on k q m puts e c t w =
        rw (write-on (lent j) c (splice (current_line e) i n new) q e t (omega (arith, (did e t w).0, short)), ← new-text e t w) (puts c e t w.text.shows)
