-- CL: what is read, tested and done. Assumes nothing.
use mathlib.Core.Path.{◌≡◌, refl, ◌∙◌}
use mathlib.Core.Bool.{true}
use mathlib.Core.Option.{some}
use mathlib.Core.List.{List, [], ◌∷◌, ◌++◌, map}
use Prim.Native.Nat.{ℕ, ◌≤◌, ◌<◌}
use native.Mathlib.Omega.{arith}
use lib.ListN.{length, take, drop}
use lib.Dec.{ltb}
use borrow.Author.Tests.{lt-ltb, le-ltb}
use Rattle.definitions.specs.Bytes.{Line, is_line}
use Rattle.definitions.specs.Journal.{Record, kept}
use Rattle.definitions.specs.Tape.{Tape, rest_lines}
use Rattle.definitions.specs.Given.{Given, Carried, no_globals}
use Rattle.definitions.specs.Editor.{Ed, ed, after_of, current, first_live, n20, n25, n30, stop_number, strike_next, retext}
use Rattle.definitions.specs.Reading.{gave}
use Rattle.definitions.specs.StepProgram.{Program, gives, ◌>>=◌, ◌>>◌, runs, state, Did, changes, perform}
use Rattle.definitions.specs.Edit.{Op, or_stop, see, read_past, next_or30, write_joined, program, step}
use Rattle.theorems.specs.Programs.{runs-assoc, runs_on, runs-pass, runs-halt, runs-some, runs_none}
use Rattle.editor.specs.Records.{enc, enc_all, Good}
use Rattle.editor.specs.Shows.{Shows, point_of, lent, Answered}
use Rattle.editor.specs.Current.{current_line, ShowsOf, ShownOf}
use Rattle.editor.specs.declared.State.{State}
use Rattle.editor.specs.Stops.{Moved, stopping}
use Rattle.editor.specs.declared.Stop.TheVariants.{AtEof, LineLong, NoNext}
use Rattle.editor.proofs.Parts.{perform-as, perform-stop, perform-line, perform-no-line, came-stop}
use Rattle.spans.specs.Spans.{NextAt, ReadsNext}
use Rattle.spans.specs.declared.Next.{Next}
use Rattle.spans.proofs.Nexts.{NextRead, next-read, NextRecord, next-none, next-some, next-text}
use Rattle.joins.specs.Joining.{HasRecord, HasNext, JoinsText, JoinsLines, Joins}
use Rattle.joins.proofs.Parts.{joined-text, joined_line}
use Rattle.joins.proofs.Both.{no_line, next-good, next-bytes}

-- ---- the program

-- what is left of the command once the current line is known
joining : Line → Line × ℕ → Program Did
joining s x = ◌>>=◌ next_or30 (λ m. write_joined (x.0 ++ (s ++ m)) x.1)

module _ (g : Given) (c : Carried) (e : Ed) (t : Tape) (e' : Ed) (t' : Tape) (q : runs g c (read_past 1) e t ≡ (gave tt e', t')) (k : Line → Program Did) where
  -- once the next live line is read
  once-read : runs g c (◌>>=◌ next_or30 k) e t ≡ runs g c (◌>>=◌ (or_stop n30 (first_live (drop 1 (after_of e')))) k) e' t'
  unfolding next_or30 ◌>>◌
  once-read =
      let f : Unit {0} → Program Line = λ u. ◌>>=◌ (see after_of) (λ after. or_stop n30 (first_live (drop 1 after))) in
      runs-assoc g c f k (read_past 1) e t ∙ runs_on g c (λ u. ◌>>=◌ (f u) k) (read_past 1) e t q ∙ unfold see ◌>>=◌ runs in refl

-- ---- what was read

-- the record at its place, which is the next live line's
record There (j : List ℕ) (at : ℕ) (e : Ed) : Type 0 where
  this : Record
  z : List ℕ
  good : Good this
  bytes : drop at j ≡ enc this ++ z
  text : first_live (drop 1 (after_of e)) ≡ some (current this)

there : {j : List ℕ} {st : State} {at : ℕ} (e : Ed) (t : Tape) → Shows j st e t → NextAt j at 1 e t → at < length j → There j at e
there (ed b [] p) t h w less = absurd (no_line b p t w less)
there {j} {st} {at} (ed b (x ∷ a) p) t h w less =
    let n : NextRecord j at 1 (ed b (x ∷ a) p) t = next-some (ed b (x ∷ a) p) t w less in
    record { this = n.next; z = enc_all (n.rest ++ map kept (rest_lines t)); good = next-good b x a p t h n; bytes = next-bytes b x a p t h n; text = next-text (ed b (x ∷ a) p) t n }

-- ---- the end of the step

module _ (g : Given) (c : Carried) (l : Line) (q : ℕ) (e : Ed) (t : Tape) where
  joined-long : (j : List ℕ) (st : State) → 255 < length l → Shows j st e t → Answered j (stopping LineLong st) (perform g (write_joined l q) (state e c) t)
  unfolding write_joined stop_number
  joined-long j st long h =
      perform-stop g c (write_joined l q) e t j LineLong st
      (came-stop LineLong (runs-halt g c n25 (ltb 255 (length l)) (gives (changes (retext l q ∷ strike_next ∷ []))) e t (lt-ltb 255 (length l) long)) refl h)

  joined-on : length l ≤ 255 → perform g (write_joined l q) (state e c) t ≡ perform g (gives (changes (retext l q ∷ strike_next ∷ []))) (state e c) t
  unfolding write_joined
  joined-on short =
      perform-as g c (write_joined l q) (gives (changes (retext l q ∷ strike_next ∷ []))) e e t t
      (runs-pass g c n25 (ltb 255 (length l)) (gives (changes (retext l q ∷ strike_next ∷ []))) e t (le-ltb 255 (length l) short))

-- ---- what `join` does

module _ {table j : List ℕ} {st : State} (s : Line) where
  -- EOF is current
  pub join-eof : length j ≤ st.back → Joins table j st s j (stopping AtEof st)
  unfolding step program joining stop_number
  join-eof end e t h = perform-no-line (lent j) no_globals n20 (joining s) e t h.shows AtEof refl end

  module _ (more : st.back < length j) (r : Next) (reads : ReadsNext j st r) where
    read : (e : Ed) (t : Tape) → ShowsOf table j st e t → NextRead j 1 r (runs (lent j) no_globals (read_past 1) e t)
    read e t h = next-read (runs (lent j) no_globals (read_past 1) e t) (reads e t h.shows)

    -- once the next live line is read
    joins-next : (e : Ed) (t : Tape) (h : ShowsOf table j st e t)
        → step (lent j) (Op.join s) (state e no_globals) t
        ≡ perform (lent j) (◌>>=◌ (or_stop n30 (first_live (drop 1 (after_of (read e t h).text)))) (λ m. write_joined (current_line e ++ (s ++ m)) (point_of e))) (state (read e t h).text no_globals) (read e t h).tape
    unfolding step program joining
    joins-next e t h =
        let w : NextRead j 1 r (runs (lent j) no_globals (read_past 1) e t) = read e t h in
        let k : Line → Program Did = λ m. write_joined (current_line e ++ (s ++ m)) (point_of e) in
        perform-line (lent j) no_globals n20 (joining s) e t h.shows more
        ∙ perform-as (lent j) no_globals (◌>>=◌ next_or30 k) (◌>>=◌ (or_stop n30 (first_live (drop 1 (after_of w.text)))) k) e w.text t w.tape (once-read (lent j) no_globals e t w.text w.tape w.is k)

    -- there is none
    pub join-none : length j ≤ r.at → Joins table j st s j (stopping NoNext r.st)
    unfolding stop_number
    join-none end e t h =
        let w : NextRead j 1 r (runs (lent j) no_globals (read_past 1) e t) = read e t h in
        let k : Line → Program Did = λ m. write_joined (current_line e ++ (s ++ m)) (point_of e) in
        rw (joins-next e t h)
        (perform-stop (lent j) no_globals (◌>>=◌ (or_stop n30 (first_live (drop 1 (after_of w.text)))) k) w.text w.tape j NoNext r.st
        (came-stop NoNext (runs_none (lent j) no_globals n30 (first_live (drop 1 (after_of w.text))) k w.text w.tape (next-none w.text w.tape w.next end)) refl w.shows))

    module _ (less : r.at < length j) where
      pub has-next : ShownOf table j st → HasNext j r.st r.at
      has-next (e, t, h) =
          let w : NextRead j 1 r (runs (lent j) no_globals (read_past 1) e t) = read e t h in
          ((w.text, w.tape, w.shows, w.next), less)

      here : (e : Ed) (t : Tape) (h : ShowsOf table j st e t) → There j r.at (read e t h).text
      here e t h =
          let w : NextRead j 1 r (runs (lent j) no_globals (read_past 1) e t) = read e t h in
          there w.text w.tape w.shows w.next less

      pub has_there : ShownOf table j st → HasRecord j r.at
      has_there (e, t, h) =
          let x : There j r.at (read e t h).text = here e t h in
          (x.this, x.z, x.good, x.bytes)

      -- it stands there
      joins-found : (e : Ed) (t : Tape) (h : ShowsOf table j st e t)
          → step (lent j) (Op.join s) (state e no_globals) t
          ≡ perform (lent j) (write_joined (current_line e ++ (s ++ current (here e t h).this)) (point_of e)) (state (read e t h).text no_globals) (read e t h).tape
      joins-found e t h =
          let w : NextRead j 1 r (runs (lent j) no_globals (read_past 1) e t) = read e t h in
          let x : There j r.at w.text = here e t h in
          let k : Line → Program Did = λ m. write_joined (current_line e ++ (s ++ m)) (point_of e) in
          joins-next e t h
          ∙ perform-as (lent j) no_globals (◌>>=◌ (or_stop n30 (first_live (drop 1 (after_of w.text)))) k) (k (current x.this)) w.text w.text w.tape w.tape
          (runs-some (lent j) no_globals n30 (first_live (drop 1 (after_of w.text))) (current x.this) k w.text w.tape x.text)

      module _ (d line : List ℕ) (len : ℕ) (did : JoinsText table j st r.at s d line len) where
        -- the joined line is too long
        pub join-long : 255 < len → Joins table j st s j (stopping LineLong r.st)
        join-long long e t h =
            let w : NextRead j 1 r (runs (lent j) no_globals (read_past 1) e t) = read e t h in
            let x : There j r.at w.text = here e t h in
            rw (joins-found e t h)
            (joined-long (lent j) no_globals (current_line e ++ (s ++ current x.this)) (point_of e) w.text w.tape j r.st (omega (arith, (did e t x.this x.z h x.good x.bytes).0, long)) w.shows)

        module _ (short : len ≤ 255) where
          pub has-text : is_line s ≡ true → ShownOf table j st → is_line (take len line) ≡ true
          has-text fine (e, t, h) =
              let x : There j r.at (read e t h).text = here e t h in
              joined_line r.at s d line len did short e t x.this x.z h x.good x.bytes fine

          pub join-done : (k : List ℕ) (m : Moved) → JoinsLines j r.st r.at (take len line) st.p k m → Joins table j st s k m
          join-done k m joins e t h =
              let w : NextRead j 1 r (runs (lent j) no_globals (read_past 1) e t) = read e t h in
              let x : There j r.at w.text = here e t h in
              let l : Line = current_line e ++ (s ++ current x.this) in
              rw (
                joins-found e t h,
                joined-on (lent j) no_globals l (point_of e) w.text w.tape (omega (arith, (did e t x.this x.z h x.good x.bytes).0, short)),
                ← (joined-text r.at s d line len did short e t x.this x.z h x.good x.bytes),
                ← h.shows.p,
              )
              (joins w.text no_globals w.tape w.shows w.next)
