-- One global over a line: the text as it is put together. Assumes nothing.
use Rattle.std.specs.Prelude.{Ok}
use mathlib.Core.Path.{◌≡◌, refl, sym, ap, ◌∙◌, subst}
use mathlib.Core.List.{List, [], ◌∷◌, ◌++◌, append_assoc}
use Prim.Native.Nat.{ℕ, ◌+◌, ◌-◌, ◌≤◌, ◌<◌}
use native.Mathlib.Nat.{zero-add}
use native.Mathlib.Omega.{arith}
use lib.ListN.{length, take, drop, length-append, length-drop}
use lib.Seq.{paste, take-paste, length-paste, take-length, take_all, length-take-le}
use borrow.Author.Tests.{lt-ltb, le-ltb}
use Rattle.definitions.specs.Bytes.{Line}
use Rattle.definitions.specs.Given.{global}
use Rattle.definitions.specs.Editor.{Got, got, stop}
use Rattle.definitions.specs.Globals.{put_for_each, passed_through}
use Rattle.text.specs.Lines.{part}
use Rattle.text.proofs.Parts.{part_length}
use Rattle.globals.specs.Passing.{Passed, too-long, LeftAs, next_place, through_one}
use Rattle.globals.proofs.Occurrences.{Next, occurs, nowhere}

-- ---- 25 is tested on the whole text

module _ (s put l : List ℕ) where
  pub text-left : (m : ℕ) (out : List ℕ) → m ≤ 255 → m ≤ length out → put_for_each s put 0 l ≡ take m out → LeftAs (Ok m) out (passed_through (global s put ∷ []) l)
  unfolding LeftAs passed_through
  text-left m out few fits e =
      let n : length (put_for_each s put 0 l) ≡ m = ap length e ∙ length-take-le m out fits in
      rw (le-ltb 255 (length (put_for_each s put 0 l)) (omega (arith, n)), passed_through) (few, e)

  pub long-left : (out : List ℕ) → 255 < length (put_for_each s put 0 l) → LeftAs too-long out (passed_through (global s put ∷ []) l)
  unfolding LeftAs passed_through
  long-left out h = rw (lt-ltb 255 (length (put_for_each s put 0 l)) h, passed_through) refl

-- the string does not occur: the line stays
pub stays : (s put line : List ℕ) (n : ℕ) → 0 < length s → n ≤ 255 → n ≤ length line → next_place s (take n line) 0 ≡ n
    → LeftAs (Ok n) line (passed_through (global s put ∷ []) (take n line))
stays s put line n pos few fits e =
    let l : length (take n line) ≡ n = length-take-le n line fits in
    text-left s put (take n line) n line few fits (nowhere s put (take n line) pos 0 (omega arith) (λ h. omega (arith, h, e, l)))

-- ---- copies

copied : (d x d' : List ℕ) (at n k : ℕ) → at + n ≤ length d → n ≤ length x → d' ≡ paste d at x n → k ≡ at + n → take k d' ≡ take at d ++ take n x
copied d x d' at n k fits inside e f = ap (take k) e ∙ ap (λ (k : ℕ). take k (paste d at x n)) f ∙ take-paste d at x n (omega arith) inside

pub copied-long : (d x d' : List ℕ) (at n : ℕ) → at + n ≤ length d → n ≤ length x → d' ≡ paste d at x n → length d' ≡ length d
copied-long d x d' at n fits inside e = ap length e ∙ length-paste d at x n fits inside

-- the text is copied to another buffer; where there is none, no buffer matters
copied-back : (x : Got Line) (out line line' : List ℕ) (m : ℕ) → LeftAs (Ok m) out x → m ≤ length out → m ≤ length line → line' ≡ paste line 0 (drop 0 out) m → LeftAs (Ok m) line' x
unfolding LeftAs
copied-back (got l) out line line' m h fits room e =
    (h.0, h.1 ∙ sym (copied line out line' 0 m m (rw zero-add room) fits e (sym (zero-add m))))
copied-back (stop n) out line line' m h fits room e = h

long-anyhow : (x : Got Line) (out line : List ℕ) → LeftAs too-long out x → LeftAs too-long line x
unfolding LeftAs
long-anyhow (got l) out line h = h
long-anyhow (stop n) out line h = h

pub left-few : (x : Got Line) (m : ℕ) (out : List ℕ) → LeftAs (Ok m) out x → m ≤ 255
unfolding LeftAs
left-few (got l) m out h = h.0
left-few (stop n) m out h = absurd h

-- by what is answered
pub back_by : (r : Passed) (x : Got Line) (out line line' : List ℕ) (m : ℕ) → LeftAs r out x → r ≡ Ok m → m ≤ length out → m ≤ length line → line' ≡ paste line 0 (drop 0 out) m → LeftAs (Ok m) line' x
back_by r x out line line' m h e fits room w = copied-back x out line line' m (subst (λ (r : Passed). LeftAs r out x) e h) fits room w

pub long-by : (r : Passed) (x : Got Line) (out line : List ℕ) → LeftAs r out x → r ≡ too-long → LeftAs too-long line x
long-by r x out line h e = long-anyhow x out line (subst (λ (r : Passed). LeftAs r out x) e h)

pub few-by : (r : Passed) (x : Got Line) (out : List ℕ) (m : ℕ) → LeftAs r out x → r ≡ Ok m → m ≤ 255
few-by r x out m h e = left-few x m out (subst (λ (r : Passed). LeftAs r out x) e h)

-- ---- occurrence by occurrence

-- `len` bytes of `out` are what the first `at` bytes of the line become; the string next occurs at i
pub record Going (s a b l out : List ℕ) (len at i : ℕ) : Type 0 where
  pub inside : at ≤ length l
  pub few : len ≤ 255
  pub next : i ≡ next_place s l at
  pub text : put_for_each s (a ++ b) 0 l ≡ take len out ++ put_for_each s (a ++ b) 0 (drop at l)

pub starts : (s a b l out : List ℕ) (first : ℕ) → first ≡ next_place s l 0 → Going s a b l out 0 0 first
starts s a b l out first e = record { inside = omega arith; few = omega arith; next = e; text = refl }

module _ (s a b l out : List ℕ) (len at i : ℕ) (pos : 0 < length s) (room : 255 ≤ length out) (g : Going s a b l out len at i) where
  taken : length (take len out) ≡ len
  taken = length-take-le len out (omega (arith, g.few))

  module _ (more : i < length l) where
    pub next-is : Next s (a ++ b) l at i
    next-is = subst (λ (x : ℕ). Next s (a ++ b) l at x) (sym g.next) (occurs s (a ++ b) l pos at g.inside (subst (λ (x : ℕ). x < length l) g.next more))

    whole : put_for_each s (a ++ b) 0 l ≡ take len out ++ (part at i l ++ ((a ++ b) ++ put_for_each s (a ++ b) 0 (drop (i + length s) l)))
    whole = g.text ∙ ap (λ (x : List ℕ). take len out ++ x) next-is.text

    pub too_long : (n m e : ℕ) → n ≡ len + (i - at) → m ≡ n + length a → e ≡ m + length b → 255 < e → (line : List ℕ) → LeftAs too-long line (through_one s a b l)
    too_long n m e en em ee long line =
        let R : List ℕ = put_for_each s (a ++ b) 0 (drop (i + length s) l) in
        let x = next-is in
        long-left s (a ++ b) l line
        (rw (whole, length-append (take len out) (part at i l ++ ((a ++ b) ++ R)), length-append (part at i l) ((a ++ b) ++ R), length-append (a ++ b) R, length-append a b, taken, part_length l at i (omega arith))
        (omega (arith, en, em, ee, long)))

    -- what stands before it, then what is put for it
    module _ (n m e : ℕ) (en : n ≡ len + (i - at)) (em : m ≡ n + length a) (ee : e ≡ m + length b) (fits : e ≤ 255) (o₁ o₂ o₃ : List ℕ)
        (e₁ : o₁ ≡ paste out len (drop at l) (i - at)) (e₂ : o₂ ≡ paste o₁ n (drop 0 a) (length a)) (e₃ : o₃ ≡ paste o₂ m (drop 0 b) (length b)) where
      inner : i - at ≤ length (drop at l)
      inner =
          let x = next-is in
          rw length-drop (omega arith)

      long₁ : length o₁ ≡ length out
      long₁ = copied-long out (drop at l) o₁ len (i - at) (omega arith) inner e₁

      long₂ : length o₂ ≡ length out
      long₂ = copied-long o₁ a o₂ n (length a) (omega (arith, long₁)) (omega arith) e₂ ∙ long₁

      pub long₃ : length o₃ ≡ length out
      long₃ = copied-long o₂ b o₃ m (length b) (omega (arith, long₂)) (omega arith) e₃ ∙ long₂

      built : take e o₃ ≡ ((take len out ++ part at i l) ++ a) ++ b
      built =
          copied o₂ b o₃ m (length b) e (omega (arith, long₂)) (omega arith) e₃ ee
          ∙ rw (take-length b, copied o₁ a o₂ n (length a) m (omega (arith, long₁)) (omega arith) e₂ em, take-length a, copied out (drop at l) o₁ len (i - at) n (omega arith) inner e₁ en)

      pub goes_on : (r : ℕ) → r ≡ next_place s l (i + length s) → Going s a b l o₃ e (i + length s) r
      goes_on r er =
          let x = next-is in
          record {
            inside = x.fits;
            few = fits;
            next = er;
            text = whole ∙ sym (rw built (simp append_assoc));
          }

  module _ (no_more : i < length l → ⊥) where
    ended : put_for_each s (a ++ b) 0 l ≡ take len out ++ drop at l
    ended = g.text ∙ ap (λ (x : List ℕ). take len out ++ x) (nowhere s (a ++ b) l pos at g.inside (λ h. no_more (subst (λ (x : ℕ). x < length l) (sym g.next) h)))

    pub rest-long : (rest : ℕ) → rest ≡ length l - at → 255 < len + rest → (line : List ℕ) → LeftAs too-long line (through_one s a b l)
    rest-long rest er long line = long-left s (a ++ b) l line (rw (ended, length-append (take len out) (drop at l), taken, length-drop) (omega (arith, er, long)))

    pub rest-done : (rest : ℕ) (o : List ℕ) → rest ≡ length l - at → len + rest ≤ 255 → o ≡ paste out len (drop at l) rest → LeftAs (Ok (len + rest)) o (through_one s a b l)
    rest-done rest o er fits e =
        let inner : rest ≤ length (drop at l) = rw length-drop (omega (arith, er)) in
        let all : take rest (drop at l) ≡ drop at l = take_all rest (drop at l) (rw length-drop (omega (arith, er))) in
        let long : length o ≡ length out = copied-long out (drop at l) o len rest (omega arith) inner e in
        text-left s (a ++ b) l (len + rest) o fits (omega (arith, long))
        (ended ∙ sym (copied out (drop at l) o len rest (len + rest) (omega arith) inner e refl ∙ ap (λ (x : List ℕ). take len out ++ x) all))
