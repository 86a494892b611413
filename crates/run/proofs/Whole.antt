-- The whole run: refusals in their order, the opening journal, the unread lines, the end. Assumes nothing.
use mathlib.Core.Path.{◌≡◌, refl, sym, ◌∙◌}
use mathlib.Core.Logic.{inl}
use mathlib.Core.Bool.{Bool, true, false, not}
use mathlib.Core.List.{List, [], ◌∷◌, ◌++◌, map, reverse_aux}
use Prim.Native.Nat.{ℕ, zero, suc, ◌+◌, ◌-◌, ◌*◌, ◌≤◌, ◌<◌}
use native.Mathlib.Omega.{arith}
use lib.ListN.{length, replicate, length-append}
use lib.Dec.{leb}
use borrow.Author.Tests.{le-leb, lt-leb, leb-true}
use Rattle.definitions.specs.Bytes.{Line, lines_of, line_bytes, lines_bytes}
use Rattle.definitions.specs.Table.{is_table, is_script}
use Rattle.definitions.specs.Journal.{Record, kept, record_length, journal_length, journal_bytes}
use Rattle.definitions.specs.Arranging.{arrange}
use Rattle.definitions.specs.Tape.{Tape, unread, bind}
use Rattle.definitions.specs.Given.{no_globals}
use Rattle.definitions.specs.Editor.{Ed, ed, before_of, after_of, journal, furthest, Stop as StopNumber, n20, n21, n22, n23, n24, n25, n26, n27, n28, n30, n31, stop_number}
use Rattle.definitions.specs.Reading.{Ran as Read-so, gave, stopped, opening}
use Rattle.definitions.specs.StepProgram.{state, text_of}
use Rattle.definitions.specs.Edit.{step}
use Rattle.definitions.specs.Control.{Item, running}
use Rattle.definitions.specs.Script.{Script, items, refused_at, read_script}
use Rattle.definitions.specs.Run.{End, end, run, run_items, Answer, answer, refusal, rest_passed, in_run_order, arranged, answer_of, ran_items, opening_length, work_length, ran_table, ran_script, run_answer, answer_number, answer_steps, answer_furthest, answer_place, answer_length, buffer_after, outcome_from, outcome_of}
use Rattle.theorems.proofs.GoodScripts.{good-commands}
use Rattle.theorems.specs.JournalBytes.{lines-back}
use Rattle.std.specs.Prelude.{Ok}
use Rattle.answers.specs.declared.Refusal.{Refusal}
use Rattle.answers.specs.Answers.{number_of}
use Rattle.script.specs.Reading.{ScriptRead}
use Rattle.items.specs.Reserve.{reserve}
use Rattle.items.proofs.Keeping.{items_kept}
use Rattle.globals.specs.Standing.{begun, OnlyCarried}
use Rattle.globals.proofs.Standing.{begins-only}
use Rattle.globals.proofs.Standing.{begins as begins-carrying}
use Rattle.control.proofs.Scripts.{startable}
use Rattle.editor.specs.declared.State.{State}
use Rattle.std.specs.Prelude.{Ok}
use Rattle.editor.specs.Stops.{Moved, numbered, stopping}
use Rattle.editor.specs.declared.Stop.{Stop}
use Rattle.editor.specs.Shows.{Holds, ShowsText, Opens, lent, rest_of}
use Rattle.closing.specs.Closing.{ClosesJournal}
use Rattle.editor.proofs.Reading.{journal-is}
use Rattle.editor.proofs.Parts.{lent_same}
use Rattle.editor.specs.Current.{PointIn, Ready}
use Rattle.editor.proofs.Opening.{table-last}
use Rattle.editor.proofs.Tables.{opens-table}
use Rattle.reading.specs.Carrying.{SomeStand}
use Rattle.tail.specs.Rest.{HoldsAll, RestLeft, PassesRest}
use Rattle.run.specs.Answers.{values_of, outcome_with, case_of, refused_by, Gives, Ran}
use Rattle.run.specs.declared.Answer.{Answer as Answer-of}
use Rattle.run.specs.Items.{Runnable, NoneStands, Ends, EndsAs, EndsIn, PassesUnread, GivesClosed, Opening}
use Rattle.run.specs.declared.decoded.Ended.{Ended}
use Rattle.run.specs.declared.Answer.TheVariants.{Done, Stopped, Refused}

-- ---- the opening journal

-- a mark of two bytes a line
kept-length : (ls : List Line) → journal_length (map kept ls) ≡ length (lines_bytes ls) + 2 * length ls
unfolding journal_length record_length lines_bytes line_bytes
kept-length [] = refl
kept-length (l ∷ ls) = omega (arith, kept-length ls, length-append (l ++ (10 ∷ [])) (lines_bytes ls), length-append l (10 ∷ []))

pub opening-length : (t : List ℕ) → is_table t ≡ true → opening_length (lines_of t) ≡ length t + 2 * length (lines_of t)
unfolding opening_length
opening-length t h = kept-length (lines_of t) ∙ rw (lines-back t (table-last t h))

-- whether it has room
module _ (bytes lines room : ℕ) where
  pub too_short : room < bytes → false ≡ leb (bytes + 2 * lines) room
  too_short h = sym (lt-leb (bytes + 2 * lines) room (omega arith))

  pub no-marks : bytes ≤ room → room - bytes < 2 * lines → false ≡ leb (bytes + 2 * lines) room
  no-marks h less = sym (lt-leb (bytes + 2 * lines) room (omega arith))

  pub room-enough : bytes ≤ room → 2 * lines ≤ room - bytes → true ≡ leb (bytes + 2 * lines) room
  room-enough h enough = sym (le-leb (bytes + 2 * lines) room (omega arith))

opening-point : (ls : List Line) → PointIn (opening (unread ls)).0
unfolding opening
opening-point [] = tt
opening-point (l ∷ ls) = omega arith

-- the run begins in a state that the buffer shows
pub opened-ready : {j : List ℕ} {st : State} (table : List ℕ) → is_table table ≡ true → Opens j st (opening (unread (lines_of table)))
    → Ready table j st (opening (unread (lines_of table))).0 (opening (unread (lines_of table))).1
opened-ready table good h = record { shows = h; point = opening-point (lines_of table); old = opens-table table good }

-- the words of items stay where only what is carried is written
still-runnable : (s w v : List ℕ) (n : ℕ) (is : List Item) → OnlyCarried w v → Runnable s w n is → Runnable s v n is
still-runnable s w v n is only h =
    let room : n + reserve ≤ length w = omega (arith, h.start.ready.room) in
    record {
      form = h.form;
      start = record {
        ready = record {
          lie = items_kept s w v n (λ i less. only.same i (inl (omega (arith, less, room)))) (omega (arith, room, only.as_long)) 0 is h.start.ready.lie;
          room = rw only.as_long h.start.ready.room;
          short = h.start.ready.short;
        };
        proper = h.start.proper;
      };
      good = h.good;
    }

pub runnable-room : (s w : List ℕ) (n : ℕ) (is : List Item) → Runnable s w n is → n + reserve ≤ length w
runnable-room s w n is h = omega (arith, h.start.ready.room)

-- no global stands as the run begins, and letters and digits count for W
pub begins : (s w v : List ℕ) (n : ℕ) (is : List Item) → v ≡ begun w → Runnable s w n is → Runnable s v n is × NoneStands s v n
begins s w v n is q h =
    let room = runnable-room s w n is h in
    let enough : reserve ≤ length w = omega (arith, room) in
    rw q (still-runnable s w (begun w) n is (begins-only w enough) h, begins-carrying w enough s n room)

pub opened-ends : (s v k : List ℕ) (r : Ended) (buffer j table : List ℕ) (budget : ℕ) (is : List Item) → length j ≡ length buffer
    → EndsAs s v k r (run (step (lent j)) budget 0 (running is []) (state (opening (unread (lines_of table))).0 no_globals) (opening (unread (lines_of table))).1)
    → EndsAs s v k r (run_items (step (lent buffer)) budget is (unread (lines_of table)))
unfolding run_items bind
opened-ends s v k r buffer j table budget is long h = rw (lent_same buffer j long) at h

-- ---- the end

-- the buffer holds the records of a text that it shows
shown-journal : (e : Ed) (t : Tape) → reverse_aux (before_of e) (rest_of e t) ≡ journal e t
unfolding before_of after_of
shown-journal (ed b a p) t = journal-is b a p t

-- globals stand in the words, and the buffer shows a text
pub ends-stand : (s w j : List ℕ) (r : Ended) (x : End) (t : Tape) → Ends s w j r x t → SomeStand s w × ShowsText j r.st
unfolding Ends
ends-stand s w j r (end number steps place (state e c)) t (a, b, d, shows, stand) = ((c, stand), (e, t, shows))

-- a stop has a number
stop-some : (i : StopNumber) → stop_number i ≡ 0 → ⊥
unfolding stop_number
stop-some n20 q = omega (arith, q)
stop-some n21 q = omega (arith, q)
stop-some n22 q = omega (arith, q)
stop-some n23 q = omega (arith, q)
stop-some n24 q = omega (arith, q)
stop-some n25 q = omega (arith, q)
stop-some n26 q = omega (arith, q)
stop-some n27 q = omega (arith, q)
stop-some n28 q = omega (arith, q)
stop-some n30 q = omega (arith, q)
stop-some n31 q = omega (arith, q)

-- the unread lines: the run has stopped, or they pass
module _ (s w j : List ℕ) (r : Ended) where
  pub unread-kept : 0 < r.number → PassesUnread s w j r j r
  unfolding Ends in_run_order EndsIn text_of
  unread-kept some (end zero steps place (state e c)) t (a, b, d, shows, stand) = absurd (omega (arith, a))
  unread-kept some (end (suc n) steps place (state e c)) t (a, b, d, shows, stand) =
      (a, b, shows.furthest, d, (before_of e, rest_of e t, shows.holds, shown-journal e t), λ q. absurd (omega (arith, q)))

  module _ (k : List ℕ) (none : r.number ≡ 0) (m : Moved) (passes : PassesRest s w j r.st k m) where
    module _ (last : State) (steps : ℕ) (e : Ed) (t : Tape) (same : r.steps ≡ steps) (far : r.st.furthest ≡ furthest e t) where
      all_pass : (o : Read-so (Unit {0})) → RestLeft k (Ok last) (journal e t) o
          → EndsIn k r.st.furthest (record { number = 0; steps = r.steps; place = 0; st = last }) (rest_passed steps (length s) e t o)
      unfolding RestLeft rest_passed EndsIn
      all_pass (gave u all) h = (refl, same, far, refl, h, λ q. refl)
      all_pass (stopped i all) h = absurd h

      none_passes : (n : Stop) (o : Read-so (Unit {0})) → RestLeft k (stopping n last) (journal e t) o
          → EndsIn k r.st.furthest (record { number = numbered n; steps = r.steps; place = length s; st = last }) (rest_passed steps (length s) e t o)
      unfolding RestLeft rest_passed EndsIn
      none_passes n (gave u all) h = absurd h
      none_passes n (stopped i all) h = (h.0, same, far, refl, h.1, λ q. absurd (stop-some i q))

    pub unread-passed : (last : State) → m ≡ Ok last → PassesUnread s w j r k (record { number = 0; steps = r.steps; place = 0; st = last })
    unfolding Ends in_run_order
    unread-passed last q (end (suc n) steps place (state e c)) t (a, b, d, shows, stand) = absurd (omega (arith, a))
    unread-passed last q (end zero steps place (state e c)) t (a, b, d, shows, stand) =
        all_pass last steps e t b shows.furthest _ (rw q at (passes e c t stand shows))

    pub unread-stops : (n : Stop) (last : State) → m ≡ stopping n last → PassesUnread s w j r k (record { number = numbered n; steps = r.steps; place = length s; st = last })
    unfolding Ends in_run_order
    unread-stops n last q (end (suc i) steps place (state e c)) t (a, b, d, shows, stand) = absurd (omega (arith, a))
    unread-stops n last q (end zero steps place (state e c)) t (a, b, d, shows, stand) =
        none_passes last steps e t b shows.furthest n _ (rw q at (passes e c t stand shows))

-- some records are held
pub end-holds : (j : List ℕ) (f : ℕ) (r : Ended) (a : Answer) → EndsIn j f r a → (b : List Record) × (c : List Record) × Holds j r.st b c
unfolding EndsIn
end-holds j f r (answer number steps far place rs) h = (h.4.0, h.4.1, h.4.2)
end-holds j f r (refusal number place) h = absurd h

-- the journal is closed
module _ (j k : List ℕ) (f : ℕ) (r : Ended) (n : ℕ) (closes : ClosesJournal j r.st k n) where
  -- its length, and the buffer's bytes
  closed : (buffer : List ℕ) (rs : List Record) → length buffer ≡ length j → HoldsAll j r.st rs
      → (n ≡ journal_length (arrange rs)) × (k ≡ journal_bytes (arrange rs) ++ replicate (length buffer - journal_length (arrange rs)) 0)
  closed buffer rs long h = rw (h.3, ← long) at (closes h.0 h.1 h.2)

  pub closes-done : r.number ≡ 0 → GivesClosed j f r (Done r.steps f n) k
  unfolding EndsIn arranged outcome_with values_of outcome_from answer_number answer_steps answer_furthest answer_place answer_length buffer_after case_of
  closes-done none buffer (answer zero steps far place rs) long (a, b, d, e, h, at) =
      let z = closed buffer rs long h in
      let p : place ≡ 0 = at refl in
      record { values = rw (b, d, p, z.0, z.1); case = rw (b, d, z.0) }
  closes-done none buffer (answer (suc i) steps far place rs) long (a, b, d, e, h, at) = absurd (omega (arith, a, none))
  closes-done none buffer (refusal number place) long h = absurd h

  pub closes-stopped : (r.number ≡ 0 → ⊥) → GivesClosed j f r (Stopped r.number r.steps f n r.place) k
  unfolding EndsIn arranged outcome_with values_of outcome_from answer_number answer_steps answer_furthest answer_place answer_length buffer_after case_of
  closes-stopped some buffer (answer zero steps far place rs) long (a, b, d, e, h, at) = absurd (some a)
  closes-stopped some buffer (answer (suc i) steps far place rs) long (a, b, d, e, h, at) =
      let z = closed buffer rs long h in
      record { values = rw (a, b, d, e, z.0, z.1); case = rw (a, b, d, e, z.0) }
  closes-stopped some buffer (refusal number place) long h = absurd h

-- neither 7 nor 9
opened-runs : (buffer table : List ℕ) → Opening table buffer → (place budget : ℕ) (is : List Item)
    → ran_script table place budget (length buffer) (items is) ≡ ran_items (lent buffer) place budget is (lines_of table)
unfolding ran_script ran_table lent
opened-runs buffer table h place budget is = rw (h.0, le-leb (opening_length (lines_of table)) (length buffer) h.1)

-- the run from the opening journal to the closed one
pub table-gives : (script table buffer v j k : List ℕ) (budget : ℕ) (is : List Item) (r z : Ended) (a : Answer-of) (bytes : List ℕ)
    → Opening table buffer → length j ≡ length buffer → length k ≡ length j → EndsAs script v j r (run_items (step (lent buffer)) budget is (unread (lines_of table)))
    → PassesUnread script v j r k z → GivesClosed k r.st.furthest z a bytes → Gives buffer (ran_script table (length script) budget (length buffer) (items is)) a bytes
unfolding ran_items answer_of
table-gives script table buffer v j k budget is r z a bytes opens long as_long ends passes closes =
    rw (opened-runs buffer table opens (length script) budget is)
    (closes buffer _ (sym (as_long ∙ long)) (rw (lent_same buffer j long) at (passes _ _ ends)))

-- ---- refusals

-- refused, the buffer is untouched
refused : (buffer : List ℕ) (n place : ℕ) (a : Answer) → a ≡ refusal n place → Gives buffer a (Refused n place) buffer
unfolding outcome_with values_of outcome_from answer_number answer_steps answer_furthest answer_place answer_length buffer_after case_of
refused buffer n place a q = record { values = rw q; case = rw q }

module _ (buffer table : List ℕ) (good : is_table table ≡ true) (n : ℕ) (lines : length (lines_of table) ≡ n) (v : Bool) (fits : v ≡ leb (length table + 2 * n) (length buffer)) where
  room_as : leb (opening_length (lines_of table)) (length buffer) ≡ v
  room_as = rw (opening-length table good, lines) (sym fits)

  pub has_room : v ≡ true → opening_length (lines_of table) ≤ length buffer
  has_room is = leb-true (opening_length (lines_of table)) (length buffer) (room_as ∙ is)

  pub no_room : (place budget : ℕ) (is : List Item) → v ≡ false → Gives buffer (ran_script table place budget (length buffer) (items is)) (Refused 9 0) buffer
  unfolding ran_script ran_table
  no_room place budget is q = refused buffer 9 0 _ (rw (good, room_as, q))

pub not_table : (buffer table : List ℕ) (place budget : ℕ) (is : List Item) → is_table table ≡ false → Gives buffer (ran_script table place budget (length buffer) (items is)) (Refused 7 0) buffer
unfolding ran_script
not_table buffer table place budget is q = refused buffer 7 0 _ (rw q)

module _ (table script : List ℕ) (budget work : ℕ) (buffer : List ℕ) where
  ran-as : (r : Answer-of) (k : List ℕ) → Gives buffer (run_answer table script budget work (length buffer)) r k → Ran table script budget work buffer r k
  unfolding outcome_of
  ran-as r k g = record { values = g.values; case = g.case }

  pub not-script : (v : Bool) → v ≡ is_script script → v ≡ false → Ran table script budget work buffer (Refused 1 0) buffer
  unfolding run_answer
  not-script v q is = ran-as _ _ (refused buffer 1 0 _ (rw (← q, is)))

  module _ (form : is_script script ≡ true) where
    pub small-work : work < 2 * length script + 64 → Ran table script budget work buffer (Refused 8 0) buffer
    unfolding run_answer work_length
    small-work less = ran-as _ _ (refused buffer 8 0 _ (rw (form, lt-leb (2 * length script + 64) work less)))

    module _ (enough : 2 * length script + 64 ≤ work) where
      read_as : (x : Script) → read_script script ≡ x → run_answer table script budget work (length buffer) ≡ ran_script table (length script) budget (length buffer) x
      unfolding run_answer work_length
      read_as x q = rw (form, le-leb (2 * length script + 64) work enough, q)

      -- the script does not decode
      pub refused-script : (d : Refusal) → read_script script ≡ refused_at (number_of d.fault) d.place → (r : Answer-of) → r ≡ refused_by d → Ran table script budget work buffer r buffer
      unfolding ran_script refused_by
      refused-script d said r is =
          rw is (ran-as _ _ (refused buffer (number_of d.fault) d.place _ (read_as (refused_at (number_of d.fault) d.place) said)))

      pub read-items : (is : List Item) → read_script script ≡ items is → (r : Answer-of) (k : List ℕ) → Gives buffer (ran_script table (length script) budget (length buffer) (items is)) r k → Ran table script budget work buffer r k
      read-items is q r k g = ran-as r k (rw (read_as (items is) q) g)

-- the two ways of a test that is turned round
pub not-true : (v : Bool) → not v ≡ true → v ≡ false
not-true true h = sym h
not-true false h = refl

pub not-false : (v : Bool) → not v ≡ false → v ≡ true
not-false true h = refl
not-false false h = sym h

-- the script's items are as the run asks
pub runnable : (s w : List ℕ) (n : ℕ) → is_script s ≡ true → ScriptRead s w (read_script s) (Ok n) → (is : List Item) × (read_script s ≡ items is) × Runnable s w n is
runnable s w n form r =
    (r.0, r.1, record { form = form; start = startable s w n r.0 form r.1 r.2; good = good-commands s form r.0 r.1 })
