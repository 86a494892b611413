-- Tests, and the beginning of a search. Assumes nothing.
use mathlib.Core.Path.{◌≡◌, refl, sym, ap, ◌∙◌}
use mathlib.Core.Bool.{Bool, true, false, not, beq}
use lib.Dec.{leb}
use borrow.Author.Tests.{leb-true, leb-false}
use Prim.Native.Nat.{ℕ, ◌≤◌, ◌<◌}
use mathlib.Core.List.{List, [], ◌∷◌}
use lib.ListN.{length}
use Rattle.definitions.specs.Journal.{Record}
use Rattle.definitions.specs.Tape.{Tape}
use Rattle.definitions.specs.Given.{Given, Carried, words_of}
use Rattle.definitions.specs.Editor.{Ed, ed, n21, stop_number, Move}
use Rattle.definitions.specs.Reading.{gave}
use Rattle.definitions.specs.StepProgram.{◌>>=◌, ◌>>◌, runs, state, words_in, answers}
use Rattle.definitions.specs.Search.{Search}
use Rattle.definitions.specs.Edit.{Op, Test, program, step, see, either, go, goes_on, passes, is_at_eof, search_holds}
use Rattle.editor.specs.Shows.{Shows, Came}
use Rattle.editor.specs.declared.State.{State}
use Rattle.std.specs.Prelude.{Ok}
use Rattle.editor.specs.Stops.{Moved, stopping}
use Rattle.editor.specs.declared.Stop.{Stop}
use Rattle.editor.specs.declared.Stop.TheVariants.{MetEof}
use Rattle.editor.proofs.Parts.{shown-record, shown-eof, line_on, line-stop, perform-as}
use Rattle.seeks.specs.Looks.{holding, LooksAs, test_of}
use Rattle.seeks.proofs.Looking.{says-yes, says-no, says-stop, then-looks, then-stops}

-- ---- BF begins

line-begins : (isWord : ℕ → Bool) (g : Given) (c : Carried) (b : List Record) (r : Record) (a : List Record) (p : ℕ) (t : Tape)
    → runs g c (program isWord Op.begin_back) (ed b (r ∷ a) p) t ≡ (gave (answers true) (ed b (r ∷ a) p), t)
unfolding program see either goes_on is_at_eof ◌>>◌ ◌>>=◌ runs
line-begins isWord g c b r a p t = refl

eof-begins : (isWord : ℕ → Bool) (g : Given) (c : Carried) (b : List Record) (p : ℕ) (t : Tape)
    → runs g c (program isWord Op.begin_back) (ed b [] p) t ≡ runs g c (◌>>=◌ (go Move.back) (λ a. goes_on)) (ed b [] p) t
unfolding program see either is_at_eof ◌>>◌ ◌>>=◌ runs
eof-begins isWord g c b p t = refl

-- ---- tests

test-runs : (isWord : ℕ → Bool) (g : Given) (c : Carried) (x : Test) (e : Ed) (t : Tape) → runs g c (program isWord (Op.test x)) e t ≡ (gave (answers (passes isWord x e)) e, t)
unfolding program see ◌>>=◌ runs
test-runs isWord g c x e t = refl

module _ {j : List ℕ} {st : State} (g : Given) (c : Carried) (x : Test) (e : Ed) (t : Tape) (h : Shows j st e t) where
  test-yes : passes (words_of c) x e ≡ true → LooksAs j (holding true st) (step g (Op.test x) (state e c) t)
  unfolding step words_in
  test-yes q = says-yes g c (program (words_of c) (Op.test x)) e t (test-runs (words_of c) g c x e t ∙ rw q) h

  test-no : passes (words_of c) x e ≡ false → LooksAs j (holding false st) (step g (Op.test x) (state e c) t)
  unfolding step words_in
  test-no q = says-no g c (program (words_of c) (Op.test x)) e t (test-runs (words_of c) g c x e t ∙ rw q) h

as-true : (v : Bool) → v ≡ beq v true
as-true true = refl
as-true false = refl

as-false : (v : Bool) → not v ≡ beq v false
as-false true = refl
as-false false = refl

-- v says whether the search holds, and w whether it is to
module _ {j : List ℕ} {st : State} (g : Given) (c : Carried) (v w : Bool) (se : Search) (e : Ed) (t : Tape) (h : Shows j st e t) (is : v ≡ search_holds (words_of c) se e) where
  passes-as : passes (words_of c) (test_of w se) e ≡ beq v w
  passes-as = by w
    where
      by : (w : Bool) → passes (words_of c) (test_of w se) e ≡ beq v w
      by true = unfold passes test_of in (sym is ∙ as-true v)
      by false = unfold passes test_of in (ap not (sym is) ∙ as-false v)

  pub holds-so : LooksAs j (holding (beq v w) st) (step g (Op.test (test_of w se)) (state e c) t)
  holds-so = by (beq v w) refl
    where
      by : (b : Bool) → beq v w ≡ b → LooksAs j (holding b st) (step g (Op.test (test_of w se)) (state e c) t)
      by true q = test-yes g c (test_of w se) e t h (passes-as ∙ q)
      by false q = test-no g c (test_of w se) e t h (passes-as ∙ q)

module _ {j : List ℕ} {st : State} (g : Given) where
  eof-yes : length j ≤ st.back → (e : Ed) (c : Carried) (t : Tape) → Shows j st e t → LooksAs j (holding true st) (step g (Op.test Test.is_eof) (state e c) t)
  unfolding passes is_at_eof
  eof-yes end (ed b [] p) c t h = test-yes g c Test.is_eof (ed b [] p) t h refl
  eof-yes end (ed b (r ∷ a) p) c t h = absurd (shown-eof b r a p t h end)

  eof-no : st.back < length j → (e : Ed) (c : Carried) (t : Tape) → Shows j st e t → LooksAs j (holding false st) (step g (Op.test Test.is_eof) (state e c) t)
  unfolding passes is_at_eof
  eof-no more (ed b [] p) c t h = absurd (shown-record b p t h more)
  eof-no more (ed b (r ∷ a) p) c t h = test-no g c Test.is_eof (ed b (r ∷ a) p) t h refl

  pub eof-so : (e : Ed) (c : Carried) (t : Tape) → Shows j st e t → LooksAs j (holding (leb (length j) st.back) st) (step g (Op.test Test.is_eof) (state e c) t)
  eof-so e c t h = by (leb (length j) st.back) refl
    where
      by : (b : Bool) → leb (length j) st.back ≡ b → LooksAs j (holding b st) (step g (Op.test Test.is_eof) (state e c) t)
      by true q = eof-yes (leb-true (length j) st.back q) e c t h
      by false q = eof-no (leb-false (length j) st.back q) e c t h

  -- ---- F and DF begin

  pub begin-stop : length j ≤ st.back → (e : Ed) (c : Carried) (t : Tape) → Shows j st e t → LooksAs j (stopping MetEof st) (step g Op.begin (state e c) t)
  unfolding step words_in program ◌>>◌ stop_number
  begin-stop end e c t h = says-stop g c (program (words_of c) Op.begin) e t MetEof (line-stop g c n21 (λ x. goes_on) e t h end) refl h

  pub begin-yes : st.back < length j → (e : Ed) (c : Carried) (t : Tape) → Shows j st e t → LooksAs j (holding true st) (step g Op.begin (state e c) t)
  unfolding step words_in program ◌>>◌ goes_on runs
  begin-yes more e c t h = says-yes g c (program (words_of c) Op.begin) e t (line_on g c n21 (λ x. goes_on) e t h more) h

  -- ---- BF begins

  pub begin-back-line : st.back < length j → (e : Ed) (c : Carried) (t : Tape) → Shows j st e t → LooksAs j (holding true st) (step g Op.begin_back (state e c) t)
  unfolding step words_in
  begin-back-line more (ed b [] p) c t h = absurd (shown-record b p t h more)
  begin-back-line more (ed b (r ∷ a) p) c t h = says-yes g c (program (words_of c) Op.begin_back) (ed b (r ∷ a) p) t (line-begins (words_of c) g c b r a p t) h

  module _ (k : List ℕ) (s : State) (end : length j ≤ st.back) (r : Moved) where
    pub begin-back-on : r ≡ Ok s → (e : Ed) (c : Carried) (t : Tape) → Shows j st e t → Came k r (runs g c (go Move.back) e t)
        → LooksAs k (holding true s) (step g Op.begin_back (state e c) t)
    unfolding step words_in goes_on runs
    begin-back-on q (ed b [] p) c t h w =
        rw (perform-as g c (program (words_of c) Op.begin_back) (◌>>=◌ (go Move.back) (λ a. goes_on)) (ed b [] p) (ed b [] p) t t (eof-begins (words_of c) g c b p t))
        (then-looks g c (go Move.back) (λ a. goes_on) (ed b [] p) t k (holding true s) (rw q at w) (λ a x u z. says-yes g c goes_on x u refl z))
    begin-back-on q (ed b (r' ∷ a) p) c t h w = absurd (shown-eof b r' a p t h end)

    pub begin-back-stop : (n : Stop) → r ≡ stopping n s → (e : Ed) (c : Carried) (t : Tape) → Shows j st e t → Came k r (runs g c (go Move.back) e t)
        → LooksAs k (stopping n s) (step g Op.begin_back (state e c) t)
    unfolding step words_in
    begin-back-stop n q (ed b [] p) c t h w =
        rw (perform-as g c (program (words_of c) Op.begin_back) (◌>>=◌ (go Move.back) (λ a. goes_on)) (ed b [] p) (ed b [] p) t t (eof-begins (words_of c) g c b p t))
        (then-stops g c (go Move.back) (λ a. goes_on) (ed b [] p) t k n s (rw q at w))
    begin-back-stop n q (ed b (r' ∷ a) p) c t h w = absurd (shown-eof b r' a p t h end)
