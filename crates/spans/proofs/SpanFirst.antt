-- D's and R's lines, read first: once they and the next live line are read, `span_here` comes to the same and reads nothing. Assumes nothing.
use mathlib.Core.Path.{◌≡◌, refl, sym, ap, ◌∙◌}
use mathlib.Core.Logic.{◌⊎◌, inl, inr}
use mathlib.Core.Bool.{Bool, true, false}
use mathlib.Core.List.{List, [], ◌∷◌, ◌++◌}
use Prim.Native.Nat.{ℕ, zero, suc, ◌-◌, ◌≤◌, ◌<◌}
use native.Mathlib.Omega.{arith}
use lib.ListN.{length, length-append}
use lib.Dec.{leb}
use borrow.Author.Tests.{leb-true, leb-false}
use Rattle.definitions.specs.Journal.{Record, kept, changed, deleted, inserted}
use Rattle.definitions.specs.Tape.{Tape, ended, rest_lines}
use Rattle.definitions.specs.Given.{Given, Carried}
use Rattle.definitions.specs.Editor.{Ed, ed, before_of, after_of, sources, n20, n21, n23, n28, eof, line, Through, alone, up_to, to_eof}
use Rattle.definitions.specs.Editor.{Stop as StopNumber}
use Rattle.definitions.specs.Reading.{gave, stopped}
use Rattle.definitions.specs.StepProgram.{Program, gives, stops, ◌>>=◌, ◌>>◌, runs}
use Rattle.definitions.specs.Edit.{see, read_up_to, read_past, count_through, reach}
use Rattle.theorems.specs.ReadLines.{runs-read}
use Rattle.theorems.specs.Programs.{runs_on, runs-pass, runs-halt, runs-no-line}
use Rattle.spans.specs.Spans.{span_here}
use Rattle.spans.proofs.Counting.{count_none, count-append, count-within}
use Rattle.spans.proofs.Ends.{through_line, reach-is}
use Rattle.spans.proofs.ReadFirst.{same-gave, not_stopped, Added, added_none, IsRead, stays-read, read-nothing, to-added, Parts, parts, up_to-read, before-with, after-with, past-added, past-read, past-nothing, HasLine, line-runs, line_stays}

-- ---- parts that read nothing

module _ {A : Type 0} (g : Given) (c : Carried) (e : Ed) (t : Tape) where
  runs-gives : (a : A) → runs g c (gives a) e t ≡ (gave a e, t)
  unfolding runs
  runs-gives a = refl

  runs-stops : (n : StopNumber) → runs {A = A} g c (stops n) e t ≡ (stopped n e, t)
  unfolding runs
  runs-stops n = refl

  runs-see : (f : Ed → A) → runs g c (see f) e t ≡ (gave (f e) e, t)
  unfolding see runs
  runs-see f = refl

  see-then : {B : Type 0} (f : Ed → A) (k : A → Program B) → runs g c (◌>>=◌ (see f) k) e t ≡ runs g c (k (f e)) e t
  unfolding see ◌>>=◌ runs
  see-then f k = refl

-- ---- how far

-- a count gives a number or stops
count-ends : (n k : ℕ) (a : List Record) → ((v : ℕ) × (count_through n k a ≡ gives v)) ⊎ ((s : StopNumber) × (count_through n k a ≡ stops s))
unfolding count_through
count-ends n k [] = inr (n21, refl)
count-ends n k (inserted l ∷ a) = count-ends (suc n) k a
count-ends n zero (kept l ∷ a) = inl (suc n, refl)
count-ends n zero (changed o m ∷ a) = inl (suc n, refl)
count-ends n zero (deleted l ∷ a) = inr (n23, refl)
count-ends n (suc k) (kept l ∷ a) = count-ends (suc n) k a
count-ends n (suc k) (changed o m ∷ a) = count-ends (suc n) k a
count-ends n (suc k) (deleted l ∷ a) = count-ends (suc n) k a

not-stops : {n : StopNumber} {v : ℕ} → ◌≡◌ {A = Program ℕ} (stops n) (gives v) → ⊥
not-stops q = let z : ◌≡◌ {A = ℕ} 0 1 = cc in omega arith

-- the line stands among the records where it is counted to
count-there : (n k : ℕ) (a : List Record) (v : ℕ) → count_through n k a ≡ gives v → k < sources a
count-there n k a v q = by (leb (sources a) k) refl
  where
    by : (b : Bool) → leb (sources a) k ≡ b → k < sources a
    by true z = absurd (not-stops (sym (count_none n k a (leb-true (sources a) k z)) ∙ q))
    by false z = omega (arith, leb-false (sources a) k z)

-- what `reach b` has read: k records from the current one on, and from a text that more is added to it gives k and reads nothing
pub record Reach (b : Through) (k : ℕ) (e : Ed) (t : Tape) (x : Ed) (u : Tape) : Type 0 where
  pub added : Added e t x u
  pub few : HasLine e → k ≤ length (after_of x)
  pub again : (y : Ed) (v : Tape) → Added x u y v → (g : Given) (c : Carried) → runs g c (reach b) y v ≡ (gave k y, v)

-- through the line m, the current one standing after n source lines
module _ (m : ℕ) (e : Ed) (t : Tape) where
  abbrev K : ℕ
  K = m - suc (sources (before_of e))

  line-again : (x : Ed) (u : Tape) (k : ℕ) → leb m (sources (before_of e)) ≡ false → Added e t x u → IsRead (line m) x u → count_through 0 K (after_of x) ≡ gives k
      → (y : Ed) (v : Tape) → Added x u y v → (g : Given) (c : Carried) → runs g c (reach (up_to m)) y v ≡ (gave k y, v)
  line-again x u k low w read count y v more g c =
      let before : before_of y ≡ before_of e =
      ap before_of more.text ∙ before-with more.new x ∙ ap before_of w.text ∙ before-with w.new e in
      let n : sources (before_of y) ≡ sources (before_of e) = ap sources before in
      let after : after_of y ≡ after_of x ++ more.new = ap after_of more.text ∙ after-with more.new x in
      let same : count_through 0 K (after_of y) ≡ gives k = ap (count_through 0 K) after ∙ count-append 0 K (after_of x) more.new (count-there 0 K (after_of x) k count) ∙ count in
      reach-is g c m y v
      ∙ runs-pass g c n28 (leb m (sources (before_of y))) (through_line m (sources (before_of y))) y v (ap (leb m) n ∙ low)
      ∙ ap (λ (i : ℕ). runs g c (through_line m i) y v) n
      ∙ line_on y v g c (stays-read (line m) more read)
      ∙ ap (λ (z : Program ℕ). runs g c z y v) same ∙ runs-gives g c y v k
    where
      line_on : (y : Ed) (v : Tape) (g : Given) (c : Carried) → IsRead (line m) y v → runs g c (through_line m (sources (before_of e))) y v ≡ runs g c (count_through 0 K (after_of y)) y v
      line_on y v g c h =
          unfold through_line ◌>>◌ in
          (runs_on g c (λ z. ◌>>=◌ (see after_of) (λ after. count_through 0 K after)) (read_up_to (line m)) y v (runs-read g c (line m) y v ∙ read-nothing g c (line m) y v h) ∙ see-then g c y v after_of (λ after. count_through 0 K after))

  line-reach : (g : Given) (c : Carried) (k : ℕ) (x : Ed) (u : Tape) → runs g c (reach (up_to m)) e t ≡ (gave k x, u) → Reach (up_to m) k e t x u
  line-reach g c k x u q = low (leb m (sources (before_of e))) refl
    where
      counted : (e₁ : Ed) (t₁ : Tape) → leb m (sources (before_of e)) ≡ false → runs g c (read_up_to (line m)) e t ≡ (gave tt e₁, t₁) → runs g c (count_through 0 K (after_of e₁)) e₁ t₁ ≡ (gave k x, u)
          → ((v : ℕ) × (count_through 0 K (after_of e₁) ≡ gives v)) ⊎ ((s : StopNumber) × (count_through 0 K (after_of e₁) ≡ stops s)) → Reach (up_to m) k e t x u
      counted e₁ t₁ z first second (inr (s, r)) =
          absurd (not_stopped (sym (ap (λ (p : Program ℕ). runs g c p e₁ t₁) r ∙ runs-stops {A = ℕ} g c e₁ t₁ s) ∙ second))
      counted e₁ t₁ z first second (inl (v, r)) =
          let s : (v ≡ k) × (e₁ ≡ x) × (t₁ ≡ u) = same-gave (sym (ap (λ (p : Program ℕ). runs g c p e₁ t₁) r ∙ runs-gives g c e₁ t₁ v) ∙ second) in
          let first' : runs g c (read_up_to (line m)) e t ≡ (gave tt x, u) = rw (← s.1, ← s.2) first in
          let count : count_through 0 K (after_of x) ≡ gives k = rw (← s.1, ← s.0) r in
          let w : Added e t x u = to-added g c (line m) e t x u (sym (runs-read g c (line m) e t) ∙ first') in
          record {
            added = w;
            few = λ h. omega (arith, count-within 0 K (after_of x) k count);
            again = line-again x u k z w (up_to-read g c (line m) e t first') count;
          }

      read : leb m (sources (before_of e)) ≡ false → Parts g c (read_up_to (line m)) (λ z. ◌>>=◌ (see after_of) (λ after. count_through 0 K after)) e t (gave k x, u) → Reach (up_to m) k e t x u
      read z w = counted w.text w.tape z w.first (sym (see-then g c w.text w.tape after_of (λ after. count_through 0 K after)) ∙ w.second) (count-ends 0 K (after_of w.text))

      low : (b : Bool) → leb m (sources (before_of e)) ≡ b → Reach (up_to m) k e t x u
      low true z =
          absurd (not_stopped (sym (reach-is g c m e t ∙ runs-halt g c n28 (leb m (sources (before_of e))) (through_line m (sources (before_of e))) e t z) ∙ q))
      low false z =
          read z (parts g c (read_up_to (line m)) (λ v. ◌>>=◌ (see after_of) (λ after. count_through 0 K after)) e t
          (unfold through_line ◌>>◌ in (sym (reach-is g c m e t ∙ runs-pass g c n28 (leb m (sources (before_of e))) (through_line m (sources (before_of e))) e t z) ∙ q)))

-- one line
alone-reach : (g : Given) (c : Carried) (k : ℕ) (e : Ed) (t : Tape) (x : Ed) (u : Tape) → runs g c (reach alone) e t ≡ (gave k x, u) → Reach alone k e t x u
unfolding reach runs
alone-reach g c k e t x u q =
    let s : (1 ≡ k) × (e ≡ x) × (t ≡ u) = same-gave q in
    rw (← s.0, ← s.1, ← s.2) (record { added = added_none e t; few = λ h. omega (arith, h); again = λ y v w g c. refl })

-- all lines
ended-none : length (rest_lines ended) ≡ 0
unfolding rest_lines
ended-none = refl

eof-reach : (g : Given) (c : Carried) (k : ℕ) (e : Ed) (t : Tape) (x : Ed) (u : Tape) → runs g c (reach to_eof) e t ≡ (gave k x, u) → Reach to_eof k e t x u
unfolding reach ◌>>◌
eof-reach g c k e t x u q = by (parts g c (read_up_to eof) (λ v. see (λ z. length (after_of z))) e t q)
  where
    again : (x : Ed) (u : Tape) → u ≡ ended → length (after_of x) ≡ k → (y : Ed) (v : Tape) → Added x u y v → (g : Given) (c : Carried)
        → runs g c (◌>>=◌ (read_up_to eof) (λ v. see (λ z. length (after_of z)))) y v ≡ (gave k y, v)
    again x u all is y v more g c =
        let none : length more.new ≡ 0 = omega (arith, more.left, ap (λ (z : Tape). length (rest_lines z)) all, ended-none) in
        let as_long : length (after_of y) ≡ k = rw (more.text, after-with more.new x) (omega (arith, length-append (after_of x) more.new, none, is)) in
        runs_on g c (λ v. see (λ z. length (after_of z))) (read_up_to eof) y v (runs-read g c eof y v ∙ read-nothing g c eof y v (more.ends all))
        ∙ runs-see g c y v (λ z. length (after_of z)) ∙ ap (λ (i : ℕ). (gave i y, v)) as_long

    by : Parts g c (read_up_to eof) (λ v. see (λ z. length (after_of z))) e t (gave k x, u) → Reach to_eof k e t x u
    by w =
        let s : (length (after_of w.text) ≡ k) × (w.text ≡ x) × (w.tape ≡ u) = same-gave (sym (runs-see g c w.text w.tape (λ z. length (after_of z))) ∙ w.second) in
        let first : runs g c (read_up_to eof) e t ≡ (gave tt x, u) = rw (← s.1, ← s.2) w.first in
        let is : length (after_of x) ≡ k = rw (← s.1) s.0 in
        record {
          added = to-added g c eof e t x u (sym (runs-read g c eof e t) ∙ first);
          few = λ h. omega (arith, is);
          again = again x u (up_to-read g c eof e t first) is;
        }

pub reach-again : (g : Given) (c : Carried) (b : Through) (k : ℕ) (e : Ed) (t : Tape) (x : Ed) (u : Tape) → runs g c (reach b) e t ≡ (gave k x, u) → Reach b k e t x u
reach-again g c alone k e t x u q = alone-reach g c k e t x u q
reach-again g c (up_to m) k e t x u q = line-reach m e t g c k x u q
reach-again g c to_eof k e t x u q = eof-reach g c k e t x u q

-- ---- D's and R's lines

-- how many there are, and the next live line, once a line is current
abbrev span_rest : Through → Program ℕ
span_rest b = ◌>>=◌ (reach b) (λ k. ◌>>=◌ (read_past k) (λ v. gives k))

span-line : (g : Given) (c : Carried) (b : Through) (e : Ed) (t : Tape) → HasLine e → runs g c (span_here b) e t ≡ runs g c (span_rest b) e t
unfolding span_here ◌>>◌
span-line g c b e t h = line-runs g c n20 (λ y. span_rest b) e t h

has-line : (g : Given) (c : Carried) (b : Through) (k : ℕ) (e : Ed) (t : Tape) (x : Ed) (u : Tape) → runs g c (span_here b) e t ≡ (gave k x, u) → HasLine e
unfolding span_here ◌>>◌ after_of
has-line g c b k (ed before [] p) t x u q = absurd (not_stopped (sym (runs-no-line g c n20 (λ y. span_rest b) before p t) ∙ q))
has-line g c b k (ed before (r ∷ a) p) t x u q = omega arith

-- THE LAW: they are not read again, and are as many
pub span-again : (g : Given) (c : Carried) (b : Through) (k : ℕ) (e : Ed) (t : Tape) (x : Ed) (u : Tape) → runs g c (span_here b) e t ≡ (gave k x, u)
    → (c' : Carried) → runs g c' (span_here b) x u ≡ (gave k x, u)
span-again g c b k e t x u q c' =
    let h : HasLine e = has-line g c b k e t x u q in
    by h (parts g c (reach b) (λ k. ◌>>=◌ (read_past k) (λ v. gives k)) e t (sym (span-line g c b e t h) ∙ q))
  where
    rest : HasLine e → (i : ℕ) (e₁ : Ed) (t₁ : Tape) (e₂ : Ed) (t₂ : Tape) → Reach b i e t e₁ t₁ → runs g c (read_past i) e₁ t₁ ≡ (gave tt e₂, t₂) → runs g c' (span_here b) e₂ t₂ ≡ (gave i e₂, t₂)
    rest h i e₁ t₁ e₂ t₂ w z =
        let more : Added e₁ t₁ e₂ t₂ = past-added g c i e₁ t₁ z in
        span-line g c' b e₂ t₂ (line_stays more (line_stays w.added h))
        ∙ runs_on g c' (λ k. ◌>>=◌ (read_past k) (λ v. gives k)) (reach b) e₂ t₂ (w.again e₂ t₂ more g c')
        ∙ runs_on g c' (λ v. gives i) (read_past i) e₂ t₂ (past-nothing g c' i e₂ t₂ (past-read g c i e₁ t₁ z (w.few h)))
        ∙ runs-gives g c' e₂ t₂ i

    both : HasLine e → (i : ℕ) (e₁ : Ed) (t₁ : Tape) → Reach b i e t e₁ t₁ → Parts g c (read_past i) (λ v. gives i) e₁ t₁ (gave k x, u) → runs g c' (span_here b) x u ≡ (gave k x, u)
    both h i e₁ t₁ w z =
        let s : (i ≡ k) × (z.text ≡ x) × (z.tape ≡ u) = same-gave (sym (runs-gives g c z.text z.tape i) ∙ z.second) in
        rw (← s.0, ← s.1, ← s.2) (rest h i e₁ t₁ z.text z.tape w z.first)

    by : HasLine e → Parts g c (reach b) (λ k. ◌>>=◌ (read_past k) (λ v. gives k)) e t (gave k x, u) → runs g c' (span_here b) x u ≡ (gave k x, u)
    by h w = both h w.value w.text w.tape (reach-again g c b w.value e t w.text w.tape w.first) (parts g c (read_past w.value) (λ v. gives w.value) w.text w.tape w.second)
