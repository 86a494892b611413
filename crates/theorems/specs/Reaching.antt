-- A live line, or EOF, is read where it is needed: what this says of records, of reading and of where a program stops.
use Rattle.std.specs.Prelude.{◌≡◌, Bool, true, not, ◌||◌, length, drop, T, eqb}
use Rattle.std.proofs.Math.Path.{refl}
use Rattle.std.proofs.Common.{sym, ap, subst, ◌∙◌, arith, not-suc-le-zero, le_of_suc-le-suc, T_not}
use Rattle.std.proofs.lemmas.Bool.{false≢true}
use Rattle.std.proofs.Math.Option.{none}
use mathlib.Core.List.{List, [], ◌∷◌, ◌++◌, reverse_aux, append-nil, append_assoc}
use Prim.Native.Nat.{ℕ, zero, suc, ◌+◌, ◌-◌, ◌≤◌, ◌<◌}
use Rattle.definitions.specs.Bytes.{Line}
use Rattle.definitions.specs.Journal.{Record, kept, changed, deleted, inserted, old_of, old_side, erase}
use Rattle.definitions.specs.Tape.{Tape, unread, ended, rest_lines, bind}
use Rattle.definitions.specs.Given.{Given, Carried}
use Rattle.definitions.specs.Editor.{Ed, ed, records, sources, is_live, has_live, first_live, Stop, stop_number, Target, here, line, eof, land, struck}
use Rattle.definitions.specs.Reading.{Ran, gave, stopped, once_read, seen, read_lines, read_to}
use Rattle.definitions.specs.StepProgram.{Program, ◌>>=◌, ◌>>◌, runs, RunState, state, Out}
use Rattle.definitions.specs.Edit.{read_up_to}
use Rattle.theorems.specs.NestingLaws.{none-some}
use Rattle.theorems.specs.Each.{Each, each_append}
use Rattle.theorems.specs.Reading.{At}
use Rattle.theorems.specs.ReadLines.{lines-ended, lines-met}
use Rattle.theorems.specs.RecordLaws.{LiveRecord, reverse-append, sources-append}
use Rattle.theorems.specs.OldSide.{seen-records}
use Rattle.theorems.specs.ComesTo.{Gives, Stops, Ended, ComesTo}
use Rattle.theorems.specs.Passing.{line-comes-to}
use Rattle.theorems.specs.Runs.{StepOr}
use Rattle.theorems.specs.ReadFar.{AtLeast, at_least-of, at_least-more}

-- ---- what is shown

-- where EOF is current, it has been read; a current record is live
abbrev pub Grounded : Ed → Tape → Type 0
Grounded (ed before [] p) t = t ≡ ended
Grounded (ed before (r ∷ after) p) t = LiveRecord r

-- the numbers that say that EOF was met: 21, "meets EOF unfound"; CL's 30, "having read EOF"
abbrev pub meets_eof : ℕ → Bool
meets_eof n = eqb n 21 || eqb n 30

-- the same where the run stops; with such a number EOF has been read
abbrev pub Stopped : ℕ → Ed → Tape → Type 0
Stopped n e t = Grounded e t × (T (meets_eof n) → t ≡ ended)

-- the same of a run's state
abbrev pub GroundedState : RunState → Tape → Type 0
GroundedState (state e c) t = Grounded e t

abbrev pub StoppedState : ℕ → RunState → Tape → Type 0
StoppedState n (state e c) t = Stopped n e t

abbrev pub GroundedOut : Out → Tape → Type 0
GroundedOut o t = StepOr GroundedState StoppedState o t

-- any other number
pub other-number : (n : ℕ) (e : Ed) (t : Tape) → T (not (meets_eof n)) → Grounded e t → Stopped n e t
other-number n e t k h = (h, λ x. absurd (T_not (meets_eof n) k x))

-- where a program stops
abbrev pub Halts : Stop → Ed → Tape → Type 0
Halts n e t = Stopped (stop_number n) e t

-- it comes to `Q`, or stops so
abbrev pub ComesGrounded : Given → Carried → {A : Type 0} → Gives A → Program A → Ed → Tape → Type 0
ComesGrounded g c Q m e t = ComesTo g c Q Halts m e t

-- ---- the next live line

-- a live record is among the records, or EOF is read
abbrev pub Reaches : List Record → Tape → Type 0
Reaches [] t = t ≡ ended
Reaches (kept l ∷ rs) t = Unit {0}
Reaches (changed o n ∷ rs) t = Unit {0}
Reaches (deleted l ∷ rs) t = Reaches rs t
Reaches (inserted l ∷ rs) t = Unit {0}

pub land-grounded : (before rs : List Record) (t : Tape) → Reaches rs t → Grounded (land before rs) t
unfolding land
land-grounded before [] t h = h
land-grounded before (kept l ∷ rs) t h = tt
land-grounded before (changed o n ∷ rs) t h = tt
land-grounded before (deleted l ∷ rs) t h = land-grounded (deleted l ∷ before) rs t h
land-grounded before (inserted l ∷ rs) t h = tt

pub struck-grounded : (k : ℕ) (before rs : List Record) (t : Tape) → Reaches (drop k rs) t → Grounded (struck k before rs) t
unfolding struck
struck-grounded zero before rs t h = land-grounded before rs t h
struck-grounded (suc k) before [] t h = h
struck-grounded (suc k) before (r ∷ rs) t h = struck-grounded k (erase r ++ before) rs t h

pub reaches-ended : (rs : List Record) → Reaches rs ended
reaches-ended [] = refl
reaches-ended (kept l ∷ rs) = tt
reaches-ended (changed o n ∷ rs) = tt
reaches-ended (deleted l ∷ rs) = reaches-ended rs
reaches-ended (inserted l ∷ rs) = tt

pub reaches-live : (rs : List Record) (t : Tape) → has_live rs ≡ true → Reaches rs t
unfolding has_live is_live
reaches-live [] t h = absurd (false≢true h)
reaches-live (kept l ∷ rs) t h = tt
reaches-live (changed o n ∷ rs) t h = tt
reaches-live (deleted l ∷ rs) t h = reaches-live rs t h
reaches-live (inserted l ∷ rs) t h = tt

-- where no live line is among them, EOF is read
pub reaches-none : (rs : List Record) (t : Tape) → first_live rs ≡ none → Reaches rs t → t ≡ ended
unfolding first_live
reaches-none [] t q h = h
reaches-none (kept l ∷ rs) t q h = absurd (none-some (sym q))
reaches-none (changed o n ∷ rs) t q h = absurd (none-some (sym q))
reaches-none (deleted l ∷ rs) t q h = reaches-none rs t q h
reaches-none (inserted l ∷ rs) t q h = absurd (none-some (sym q))

-- what is read after the records, seen from after k of them
pub drop-over : (k : ℕ) (rs xs : List Record) → k ≤ length rs → drop k (rs ++ xs) ≡ drop k rs ++ xs
drop-over zero rs xs h = refl
drop-over (suc k) [] xs h = absurd (not-suc-le-zero h)
drop-over (suc k) (r ∷ rs) xs h = drop-over k rs xs (le_of_suc-le-suc h)

-- ---- lines that are read

-- the record of a line that is read: it is kept, or changed by the globals
abbrev pub AsRead : Record → Type 0
AsRead (kept l) = Unit {0}
AsRead (changed o n) = Unit {0}
AsRead (deleted l) = ⊥
AsRead (inserted l) = ⊥

sources-as_read : (rs : List Record) → Each AsRead rs → sources rs ≡ length rs
unfolding sources old_side old_of
sources-as_read [] h = refl
sources-as_read (kept l ∷ rs) h = ap suc (sources-as_read rs h.1)
sources-as_read (changed o n ∷ rs) h = ap suc (sources-as_read rs h.1)
sources-as_read (deleted l ∷ rs) h = absurd h.0
sources-as_read (inserted l ∷ rs) h = absurd h.0

-- such a record is live
pub reaches-read : (rs : List Record) (r : Record) (xs : List Record) (t : Tape) → AsRead r → Reaches (rs ++ (r ∷ xs)) t
reaches-read [] (kept l) xs t h = tt
reaches-read [] (changed o n) xs t h = tt
reaches-read [] (deleted l) xs t h = absurd h
reaches-read [] (inserted l) xs t h = absurd h
reaches-read (kept m ∷ rs) r xs t h = tt
reaches-read (changed o n ∷ rs) r xs t h = tt
reaches-read (deleted m ∷ rs) r xs t h = reaches-read rs r xs t h
reaches-read (inserted m ∷ rs) r xs t h = tt

pub sources-read : (before after rs : List Record) → Each AsRead rs → sources (reverse_aux before (after ++ rs)) ≡ sources (reverse_aux before after) + length rs
sources-read before after rs h = rw (reverse-append before after rs, sources-append, sources-as_read rs h)

sources-seen : (r : Record) (e : Ed) → AsRead r → sources (records (seen r e)) ≡ suc (sources (records e))
sources-seen r e h = rw (seen-records r e, sources-append, sources-as_read (r ∷ []) (h, tt)) (omega arith)

abbrev IsUnread : Tape → Type 0
IsUnread (unread ls) = Unit {0}
IsUnread ended = ⊥

unread-ended : (ls : List Line) → unread ls ≡ ended → ⊥
unread-ended ls h = subst IsUnread h tt

-- after EOF nothing is read
abbrev EofStays : Tape → List Record → Tape → Type 0
EofStays t rs t' = t ≡ ended → (rs ≡ []) × (t' ≡ ended)

-- the text is one with the records `before` and `after`, and then those of lines that are read from the tape `t` on
record Added (before after : List Record) (p : ℕ) (t : Tape) (e' : Ed) (t' : Tape) : Type 0 where
  rs : List Record
  same : e' ≡ ed before (after ++ rs) p
  as_read : Each AsRead rs
  stays : EofStays t rs t'

-- n lines are read from `e` and `t` on, or EOF; EOF where there are fewer
record Far (n : ℕ) (e : Ed) (t : Tape) (e' : Ed) (t' : Tape) : Type 0 where
  far : AtLeast t' (n + sources (records e)) (sources (records e'))
  all : length (rest_lines t) < n → t' ≡ ended

far-one : (n : ℕ) (r : Record) (e : Ed) (l : Line) (ls : List Line) (e' : Ed) (t' : Tape) → AsRead r → Far n (seen r e) (unread ls) e' t' → Far (suc n) e (unread (l ∷ ls)) e' t'
unfolding rest_lines
far-one n r e l ls e' t' k x = record {
  far = at_least-more t' (n + sources (records (seen r e))) (sources (records e')) (suc n + sources (records e)) (sources (records e')) (λ h. omega (arith, h, sources-seen r e k)) x.far;
  all = λ h. x.all (omega (arith, h));
}

far-eof : (n : ℕ) (e : Ed) (t : Tape) (e' : Ed) → Far n e t e' ended
far-eof n e t e' = record { far = tt; all = λ h. refl }

module _ (g : Given) (c : Carried) (before after : List Record) (p : ℕ) (t : Tape) where
  abbrev Add : Ed → Tape → Type 0
  Add e' t' = Added before after p t e' t'

  add-one : (r : Record) → AsRead r → (e : Ed) (l : Line) (ls : List Line) → Add e (unread (l ∷ ls)) → Add (seen r e) (unread ls)
  add-one r k e l ls x = record {
    rs = x.rs ++ (r ∷ []);
    same = ap (seen r) x.same ∙ (unfold seen in (ap (λ (z : List Record). ed before z p) (append_assoc after x.rs (r ∷ []))));
    as_read = each_append AsRead x.rs (r ∷ []) x.as_read (k, tt);
    stays = λ q. absurd (unread-ended (l ∷ ls) (x.stays q).1);
  }

  add-eof : (e : Ed) → Add e (unread []) → Add e ended
  add-eof e x = record { rs = x.rs; same = x.same; as_read = x.as_read; stays = λ q. absurd (unread-ended [] (x.stays q).1) }

  -- where reading stops, it is not for EOF
  abbrev Late : Stops
  Late n e' t' = Add e' t' × T (not (meets_eof (stop_number n)))

  abbrev LinesRead : ℕ → Ed → Tape → Ran (Unit {0}) → Tape → Type 0
  LinesRead n e u r t' = Ended (λ v e' t''. Add e' t'' × Far n e u e' t'') Late r t'

  lines-one : (n : ℕ) (r : Record) (e : Ed) (l : Line) (ls : List Line) → AsRead r → (x : Ran (Unit {0})) (t' : Tape) → LinesRead n (seen r e) (unread ls) x t'
      → LinesRead (suc n) e (unread (l ∷ ls)) x t'
  lines-one n r e l ls k (gave v e') t' h = (h.0, far-one n r e l ls e' t' k h.1)
  lines-one n r e l ls k (stopped m e') t' h = h

  -- after one line, which is read as the record r
  after_one : (n : ℕ) (r : Record) (e : Ed) (l : Line) (ls : List Line) → AsRead r → At (LinesRead n (seen r e) (unread ls)) (read_lines g c n (seen r e) (unread ls))
      → At (LinesRead (suc n) e (unread (l ∷ ls))) (once_read (λ e'. read_lines g c n e') (gave tt (seen r e)) (unread ls))
  unfolding once_read
  after_one n r e l ls k h = lines-one n r e l ls k (read_lines g c n (seen r e) (unread ls)).0 (read_lines g c n (seen r e) (unread ls)).1 h

  lines_more : (n : ℕ) (e : Ed) (l : Line) (ls : List Line) → ((e' : Ed) → Add e' (unread ls) → At (LinesRead n e' (unread ls)) (read_lines g c n e' (unread ls)))
      → Add e (unread (l ∷ ls)) → At (LinesRead (suc n) e (unread (l ∷ ls))) (read_lines g c (suc n) e (unread (l ∷ ls)))
  unfolding read_lines bind
  lines_more n e l ls f x =
      line-comes-to (λ r t'. At (LinesRead (suc n) e (unread (l ∷ ls))) (once_read (λ e'. read_lines g c n e') r t')) g c e l ls
      (after_one n (kept l) e l ls tt (f (seen (kept l) e) (add-one (kept l) tt e l ls x)))
      (λ new q d room. after_one n (changed l new) e l ls tt (f (seen (changed l new) e) (add-one (changed l new) tt e l ls x)))
      (unfold once_read stop_number in (add-one (kept l) tt e l ls x, tt)) (unfold once_read stop_number in (add-one (kept l) tt e l ls x, tt))

  lines-come : (n : ℕ) (e : Ed) (u : Tape) → Add e u → At (LinesRead n e u) (read_lines g c n e u)
  lines-come zero e u x =
      unfold read_lines in (x, record { far = at_least-of u (0 + sources (records e)) (sources (records e)) (omega arith); all = λ h. absurd (omega (arith, h)) })
  lines-come (suc n) e (unread (l ∷ ls)) x = lines_more n e l ls (λ e'. lines-come n e' (unread ls)) x
  lines-come (suc n) e (unread []) x = rw (lines-met g c n e) (add-eof e x, far-eof (suc n) e (unread []) e)
  lines-come (suc n) e ended x = rw (lines-ended g c (suc n) e) (x, far-eof (suc n) e ended e)

-- ---- reading up to a target

-- so far has reading come
abbrev Reached : Target → List Record → Tape → Type 0
Reached here rs t = Unit {0}
Reached (line n) rs t = AtLeast t n (sources rs)
Reached eof rs t = t ≡ ended

-- lines are read, from a text with the records `before` and `after`; `rs` are their records
pub record ReadUpTo (a : Target) (before after : List Record) (p : ℕ) (t : Tape) (rs : List Record) (t' : Tape) : Type 0 where
  pub as_read : Each AsRead rs
  pub reached : Reached a (reverse_aux before (after ++ rs)) t'
  pub grounded : Grounded (ed before (after ++ rs) p) t'
  -- what was read is read
  pub still : (n : ℕ) → AtLeast t n (sources (reverse_aux before after)) → AtLeast t' n (sources (reverse_aux before (after ++ rs)))

read-grounded : (before after : List Record) (p : ℕ) (t : Tape) (rs : List Record) (t' : Tape) → EofStays t rs t' → Grounded (ed before after p) t → Grounded (ed before (after ++ rs) p) t'
read-grounded before [] p t rs t' f h = rw (f h).0 (f h).1
read-grounded before (r ∷ after) p t rs t' f h = h

read-still : (before after : List Record) (t : Tape) (rs : List Record) (t' : Tape) → Each AsRead rs → EofStays t rs t' → (n : ℕ) → AtLeast t n (sources (reverse_aux before after))
    → AtLeast t' n (sources (reverse_aux before (after ++ rs)))
read-still before after ended rs t' a f n h = rw (f refl).1 tt
read-still before after (unread us) rs t' a f n h = at_least-of t' n _ (omega (arith, h, sources-read before after rs a))

module _ (g : Given) (c : Carried) {A : Type 0} (Q : Gives A) (m : Program A) (before after : List Record) (p : ℕ) (t : Tape) (h : Grounded (ed before after p) t) where
  abbrev Add₀ : Ed → Tape → Type 0
  Add₀ e' t' = Added before after p t e' t'

  -- nothing is read
  none-added : Add₀ (ed before after p) t
  none-added = record { rs = []; same = ap (λ (z : List Record). ed before z p) (sym (append-nil after)); as_read = tt; stays = λ q. (refl, q) }

  -- what reading has come to
  abbrev Come : Target → Ed → Tape → Type 0
  Come a e' t' = (x : Add₀ e' t') × Reached a (records e') t'

  line-come : (n k : ℕ) → k ≡ n - sources (records (ed before after p)) → (x : Ran (Unit {0}) × Tape) → At (LinesRead g c before after p t k (ed before after p) t) x
      → At (Ended (λ v. Come (line n)) (Late g c before after p t)) x
  line-come n k q (gave v e', t') x = (x.0, at_least-more t' (k + sources (records (ed before after p))) (sources (records e')) n (sources (records e')) (λ y. omega (arith, y, q)) x.1.far)
  line-come n k q (stopped m e', t') x = x

  eof-come : (x : Ran (Unit {0}) × Tape) → At (LinesRead g c before after p t (suc (length (rest_lines t))) (ed before after p) t) x → At (Ended (λ v. Come eof) (Late g c before after p t)) x
  eof-come (gave v e', t') x = (x.0, x.1.all (omega arith))
  eof-come (stopped m e', t') x = x

  to-come : (a : Target) → At (Ended (λ v. Come a) (Late g c before after p t)) (read_to g c a (ed before after p) t)
  unfolding read_to
  to-come here = (none-added, tt)
  to-come (line n) =
      let k : ℕ = n - sources (records (ed before after p)) in
      line-come n k refl (read_lines g c k (ed before after p) t) (lines-come g c before after p t k (ed before after p) t none-added)
  to-come eof =
      let k : ℕ = suc (length (rest_lines t)) in
      eof-come (read_lines g c k (ed before after p) t) (lines-come g c before after p t k (ed before after p) t none-added)

  -- reading, then a program: what it comes to, whatever is read
  pub read-comes : (a : Target) → ((rs : List Record) (t' : Tape) → ReadUpTo a before after p t rs t' → ComesGrounded g c Q m (ed before (after ++ rs) p) t')
      → ComesGrounded g c Q (◌>>◌ (read_up_to a) m) (ed before after p) t
  unfolding read_up_to ◌>>◌ ◌>>=◌ runs bind
  read-comes a f = by (read_to g c a (ed before after p) t).0 (read_to g c a (ed before after p) t).1 (to-come a)
    where
      on : (e' : Ed) (t' : Tape) (rs : List Record) → e' ≡ ed before (after ++ rs) p → Each AsRead rs → EofStays t rs t' → Reached a (records e') t' → ComesGrounded g c Q m e' t'
      on e' t' rs q k s x =
          rw q (f rs t' (record {
            as_read = k;
            reached = unfold records in (rw q at x);
            grounded = read-grounded before after p t rs t' s h;
            still = read-still before after t rs t' k s;
          }))

      by : (r : Ran (Unit {0})) (t' : Tape) → Ended (λ v. Come a) (Late g c before after p t) r t' → At (Ended Q Halts) (once_read (λ e'. runs g c m e') r t')
      by (gave v e') t' x = unfold once_read in (on e' t' x.0.rs x.0.same x.0.as_read x.0.stays x.1)
      by (stopped n e') t' x =
          unfold once_read in (rw x.0.same (other-number (stop_number n) (ed before (after ++ x.0.rs) p) t' x.1 (read-grounded before after p t x.0.rs t' x.0.stays h)))
