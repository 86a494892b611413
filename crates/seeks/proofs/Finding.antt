-- A search on one line. Assumes nothing.
use mathlib.Core.Path.{◌≡◌, refl, sym, ap, ◌∙◌}
use mathlib.Core.Bool.{Bool, true, false}
use Prim.Native.Nat.{ℕ, ◌≤◌, ◌<◌}
use mathlib.Core.List.{List, [], ◌∷◌}
use native.Mathlib.Omega.{arith}
use lib.ListN.{length}
use lib.Dec.{eqb}
use Rattle.definitions.specs.Bytes.{Line}
use Rattle.definitions.specs.Journal.{Record}
use Rattle.definitions.specs.Tape.{Tape}
use Rattle.definitions.specs.Given.{Given, Carried, carried, no_globals, words_of}
use Rattle.definitions.specs.Editor.{Ed, n21, stop_number, Move, struck_back, strike_back, edits}
use Rattle.definitions.specs.StepProgram.{Program, gives, ◌>>=◌, ◌>>◌, runs, state, words_in, Did, answers, changes, perform}
use Rattle.definitions.specs.Search.{Search, holds}
use Rattle.definitions.specs.Edit.{program, step, either, go, go_ahead, goes_on, line_or, look_on, look_back, search_holds}
use Rattle.definitions.specs.Control.{Seek, forward, backward, deleting, look_op}
use Rattle.theorems.specs.Words.{none_runs}
use Rattle.editor.specs.Shows.{Holds, Stays, Shows, lent, Came, DoesPart}
use Rattle.editor.specs.declared.State.{State}
use Rattle.std.specs.Prelude.{Result, Ok}
use Rattle.editor.specs.Stops.{Moved, numbered, stopping}
use Rattle.editor.specs.declared.Stop.{Stop}
use Rattle.editor.specs.declared.Stop.TheVariants.{MetEof}
use Rattle.editor.proofs.Parts.{line_on, line-stop, perform-as}
use Rattle.editor.proofs.Changing.{changes-on, strike-back-shows}
use Rattle.items.specs.Reserve.{reserve}
use Rattle.globals.specs.Standing.{StandingBelow, standing}
use Rattle.globals.proofs.Standing.{none-stand}
use Rattle.reading.specs.Carrying.{DoesPartBy, SomeStand}
use Rattle.seeks.specs.declared.Way.{Way}
use Rattle.seeks.specs.declared.Way.TheVariants.{Forward, Backward, Deleting}
use Rattle.editor.specs.declared.Stopped.{Stopped}
use Rattle.seeks.specs.Looks.{Looked, holding, LooksAs, LooksBy, LooksCarrying, seek_of, eof_stop, where_found, where_not}
use Rattle.seeks.proofs.Texts.{line-holds}
use Rattle.seeks.proofs.Looking.{says-yes, says-no, says-stop, then-looks, then-stops, performed}

-- ---- on to the next live line

module _ (g : Given) (c : Carried) (e : Ed) (t : Tape) (k : List ℕ) (s : State) where
  -- a line is then current
  pub look-on-line : (r : Moved) → r ≡ Ok s → s.back < length k → Came k r (runs g c go_ahead e t) → LooksAs k (holding false s) (perform g look_on (state e c) t)
  unfolding look_on ◌>>◌ runs
  look-on-line r q more w =
      then-looks g c go_ahead (λ a. ◌>>=◌ (line_or n21) (λ b. gives (answers false))) e t k (holding false s) (rw q at w)
      (λ a x u h. says-no g c (◌>>=◌ (line_or n21) (λ b. gives (answers false))) x u (line_on g c n21 (λ b. gives (answers false)) x u h more) h)

  -- EOF is
  pub look-on-eof : (r : Moved) → r ≡ Ok s → length k ≤ s.back → Came k r (runs g c go_ahead e t) → LooksAs k (stopping MetEof s) (perform g look_on (state e c) t)
  unfolding look_on ◌>>◌ stop_number
  look-on-eof r q end w =
      then-looks g c go_ahead (λ a. ◌>>=◌ (line_or n21) (λ b. gives (answers false))) e t k (stopping MetEof s) (rw q at w)
      (λ a x u h. says-stop g c (◌>>=◌ (line_or n21) (λ b. gives (answers false))) x u MetEof (line-stop g c n21 (λ b. gives (answers false)) x u h end) refl h)

  pub look-on-stop : (r : Moved) (n : Stop) → r ≡ stopping n s → Came k r (runs g c go_ahead e t) → LooksAs k (stopping n s) (perform g look_on (state e c) t)
  unfolding look_on ◌>>◌
  look-on-stop r n q w = then-stops g c go_ahead (λ a. ◌>>=◌ (line_or n21) (λ b. gives (answers false))) e t k n s (rw q at w)

-- ---- the same with globals

-- the reserve is there
pub reserve-in : (s w : List ℕ) → SomeStand s w → reserve ≤ length w
unfolding StandingBelow
reserve-in s w (carried gs xs, h) = omega (arith, h.below.0)

module _ (s w j : List ℕ) (st : State) (i : List ℕ) (q : Moved) {k : List ℕ} {r : Moved} (same : k ≡ i) (moved : r ≡ q) where
  -- none stands
  pub none-goes : (v : Bool) → v ≡ eqb (standing w) 0 → v ≡ true → DoesPart no_globals j st go_ahead i q → DoesPartBy s w j st go_ahead k r
  none-goes v is yes-none f e c t stands h = rw (same, moved, none_runs (lent j) c (none-stand s w c (sym is ∙ yes-none) stands) go_ahead e) (f e t h)

  -- some do
  pub some-goes : DoesPartBy s w j st go_ahead i q → DoesPartBy s w j st go_ahead k r
  some-goes f e c t stands h = rw (same, moved) (f e c t stands h)

module _ (s w j : List ℕ) (st : State) (k : List ℕ) (r : Moved) (goes : DoesPartBy s w j st go_ahead k r) (z : State) where
  pub on-eof : r ≡ Ok z → length k ≤ z.back → LooksCarrying s w j st look_on k (stopping MetEof z)
  on-eof q end e c t stands h = look-on-eof (lent j) c e t k z r q end (goes e c t stands h)

  pub on_line : r ≡ Ok z → z.back < length k → LooksCarrying s w j st look_on k (holding false z)
  on_line q more e c t stands h = look-on-line (lent j) c e t k z r q more (goes e c t stands h)

  pub on-stop : (n : Stop) → r ≡ stopping n z → LooksCarrying s w j st look_on k (stopping n z)
  on-stop n q e c t stands h = look-on-stop (lent j) c e t k z r n q (goes e c t stands h)

-- ---- back to the previous one

module _ (g : Given) (k : List ℕ) (s : State) (r : Moved) (e : Ed) (c : Carried) (t : Tape) (w : Came k r (runs g c (go Move.back) e t)) where
  pub look-back-line : r ≡ Ok s → LooksAs k (holding false s) (perform g look_back (state e c) t)
  unfolding look_back ◌>>◌ runs
  look-back-line q =
      then-looks g c (go Move.back) (λ a. gives (answers false)) e t k (holding false s) (rw q at w) (λ a x u h. says-no g c (gives (answers false)) x u refl h)

  pub look-back-stop : (n : Stop) → r ≡ stopping n s → LooksAs k (stopping n s) (perform g look_back (state e c) t)
  unfolding look_back ◌>>◌
  look-back-stop n q = then-stops g c (go Move.back) (λ a. gives (answers false)) e t k n s (rw q at w)

-- ---- by the search

module _ (s w : List ℕ) {j : List ℕ} {st : State} (k : List ℕ) (r : Result Looked Stopped) (f : Seek) {m : Program Did} (is : where_not f ≡ m) where
  pub not-by : LooksCarrying s w j st m k r → LooksCarrying s w j st (where_not f) k r
  not-by h = rw is h

  -- where nothing is read
  pub not_back : LooksBy j st m k r → LooksCarrying s w j st (where_not f) k r
  not_back h e c t stands shows = rw is (h e c t shows)

pub goes-forward : (w : Way) → w ≡ Forward → where_not (seek_of w) ≡ look_on
unfolding seek_of where_not
goes-forward w q = rw q

pub goes-backward : (w : Way) → w ≡ Backward → where_not (seek_of w) ≡ look_back
unfolding seek_of where_not
goes-backward w q = rw q

pub goes-deleting : (w : Way) → w ≡ Deleting → where_not (seek_of w) ≡ look_on
unfolding seek_of where_not
goes-deleting w q = rw q

-- ---- the line matches

yes-runs : (j : List ℕ) (st : State) → LooksBy j st goes_on j (holding true st)
unfolding goes_on runs
yes-runs j st e c t h = says-yes (lent j) c goes_on e t refl h

-- the lines passed are struck
struck-yes : (n : ℕ) (j : List ℕ) (st : State) (k : List ℕ) (s : State) → length k ≡ length j
    → ((b : List Record) (a : List Record) → Holds j st b a → Holds k s (struck_back n b []) a) → Stays st s
    → LooksBy j st (gives (changes (strike_back n ∷ []))) k (holding true s)
unfolding edits
struck-yes n j st k s q strikes stays e c t h =
    performed k s (Ok s) (perform (lent j) (gives (changes (strike_back n ∷ []))) (state e c) t) (changes-on c (strike_back n ∷ []) e t j k s q (strike-back-shows n e t h strikes stays)) refl

module _ (j : List ℕ) (st : State) (w : Way) (n : ℕ) where
  pub found-forward : w ≡ Forward → LooksBy j st (where_found (seek_of w) n) j (holding true st)
  unfolding seek_of where_found
  found-forward q = rw q (yes-runs j st)

  pub found-backward : w ≡ Backward → LooksBy j st (where_found (seek_of w) n) j (holding true st)
  unfolding seek_of where_found
  found-backward q = rw q (yes-runs j st)

  pub found-deleting : w ≡ Deleting → (k : List ℕ) (s : State) → length k ≡ length j
      → ((b : List Record) (a : List Record) → Holds j st b a → Holds k s (struck_back n b []) a) → Stays st s → LooksBy j st (where_found (seek_of w) n) k (holding true s)
  unfolding seek_of where_found
  found-deleting q k s same strikes stays = rw q (struck-yes n j st k s same strikes stays)

-- ---- one line

look-program : (isWord : ℕ → Bool) (f : Seek) (se : Search) (n : ℕ)
    → program isWord (look_op f se n) ≡ ◌>>=◌ (line_or (eof_stop f)) (λ x. either (holds isWord se x.1 x.0) (where_found f n) (where_not f))
unfolding program look_op eof_stop where_found where_not
look-program isWord forward se n = refl
look-program isWord backward se n = refl
look-program isWord deleting se n = refl

module _ {j : List ℕ} {st : State} (g : Given) (f : Seek) (se : Search) (n : ℕ) (e : Ed) (c : Carried) (t : Tape) (h : Shows j st e t) where
  abbrev after_line : Line × ℕ → Program Did
  after_line x = either (holds (words_of c) se x.1 x.0) (where_found f n) (where_not f)

  pub look-eof : length j ≤ st.back → (i : Stop) → numbered i ≡ stop_number (eof_stop f) → LooksAs j (stopping i st) (step g (look_op f se n) (state e c) t)
  unfolding step words_in
  look-eof end i q =
      says-stop g c (program (words_of c) (look_op f se n)) e t i (rw (look-program (words_of c) f se n) (line-stop g c (eof_stop f) after_line e t h end)) q h

  module _ (more : st.back < length j) (v : Bool) (is : v ≡ search_holds (words_of c) se e) where
    look-step : step g (look_op f se n) (state e c) t ≡ perform g (either v (where_found f n) (where_not f)) (state e c) t
    unfolding step words_in
    look-step =
        perform-as g c (program (words_of c) (look_op f se n)) (either v (where_found f n) (where_not f)) e e t t
        (rw (look-program (words_of c) f se n)
        (line_on g c (eof_stop f) after_line e t h more
        ∙ ap (λ (b : Bool). runs g c (either b (where_found f n) (where_not f)) e t) (line-holds (words_of c) more se e t h ∙ sym is)))

    pub look-found : v ≡ true → (k : List ℕ) (r : Result Looked Stopped) → LooksAs k r (perform g (where_found f n) (state e c) t) → LooksAs k r (step g (look_op f se n) (state e c) t)
    unfolding either
    look-found q k r w = rw (look-step, q) w

    pub look-not : v ≡ false → (k : List ℕ) (r : Result Looked Stopped) → LooksAs k r (perform g (where_not f) (state e c) t) → LooksAs k r (step g (look_op f se n) (state e c) t)
    unfolding either
    look-not q k r w = rw (look-step, q) w
