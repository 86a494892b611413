-- Demand 3 of decoded items: one induction over the budget, then from the run's last state to the answer.
use Rattle.std.specs.Prelude.{◌≡◌, Bool, true, cond, ◌⊎◌, drop}
use Rattle.std.proofs.Math.Path.{refl, sym, ap, subst}
use Rattle.std.proofs.Common.{◌∙◌, inl, inr, arith, take-append-drop}
use Rattle.std.proofs.Math.Bool.{false}
use mathlib.Core.List.{List, [], ◌∷◌, ◌++◌, map, append-nil, append_cancel_right}
use Prim.Native.Nat.{ℕ, zero, suc, ◌≤◌}
use Rattle.std.proofs.Math.ListN.{length, take}
use Rattle.std.proofs.Math.Seq.{take-append_seam, drop-append_seam}
use Rattle.definitions.specs.Bytes.{Line, eq_line}
use Rattle.definitions.specs.Journal.{Record, kept, changed, deleted, inserted, change, old_of, old_side, up_to_line, after_line}
use Rattle.definitions.specs.Arranging.{arrange_from, arrange}
use Rattle.definitions.specs.Tape.{Tape, unread, ended, rest_lines, Reads}
use Rattle.definitions.specs.Given.{given, bytes, Given, Carried, no_globals}
use Rattle.definitions.specs.Globals.{left_by}
use Rattle.definitions.specs.Editor.{Ed, furthest, sources, records, Stop, n25, n26, stop_number, Got, got, stop}
use Rattle.definitions.specs.Reading.{opening}
use Rattle.definitions.specs.StepProgram.{RunState, state, text_of, Out, on, edited, halt}
use Rattle.definitions.specs.Edit.{step}
use Rattle.definitions.specs.Control.{Item, Ctl, running, Pull, finished, want, lost, pull}
use Rattle.definitions.specs.Run.{End, end, choose, end_place, spent, stepped, stepping, run, run_items, Answer, answer, refusal, in_run_order, arranged, answer_of, ran_items}
use Rattle.definitions.specs.Run.{answer_number, answer_steps, answer_furthest, answer_place, answer_records}
use Rattle.theorems.specs.Each.{Each}
use Rattle.theorems.specs.Reading.{Local, met_eof, read_only, Faithful, never, ret-faithful, bind-faithful}
use Rattle.theorems.specs.RecordLaws.{old-append, old-kept}
use Rattle.theorems.specs.ArrangeLaws.{arrange-old, arrange-again}
use Rattle.theorems.specs.Step.{old_ed, old_state, old_out, full_out, step_free, step-faithful, opening-faithful}
use Rattle.theorems.specs.Demand3.{IsNotFull, IsCompared, Agree, agree_up_to, are_equal, SameUpTo, Passes, left_as, unread_as, LeftAfter, standing_at}
use Rattle.theorems.proofs.Rest.{Comes, as_told, stops_late, last_answer, late_stop, answer-comes}

-- ---- the induction over the budget: control and the script's reader are not opened

unfoldable old_end : End → List Line
old_end (end n steps at s) = old_state s

unfoldable full_end : End → Type 0
full_end (end n steps at s) = n ≡ 26

unfoldable pub furthest_at : End → Tape → ℕ
furthest_at (end n steps at s) t = furthest (text_of s) t

spent-old : (steps : ℕ) (s : RunState) (x : Pull) → old_end (spent steps s x) ≡ old_state s
unfolding old_end spent
spent-old steps s finished = refl
spent-old steps s (want at op c₁ c₀) = refl
spent-old steps s lost = refl

module _ (size : ℕ) (go free : Ctl → RunState → Reads End) (h : (c : Ctl) (s : RunState) → Faithful (go c s) (free c s) old_end full_end (old_state s)) where
  stepped-faithful : (steps at : ℕ) (c₁ c₀ : Ctl) (o : Out) → Faithful (stepped go steps at c₁ c₀ o) (stepped free steps at c₁ c₀ o) old_end full_end (old_out o)
  unfolding stepped old_out old_end
  stepped-faithful steps at c₁ c₀ (on b s) = h (choose b c₁ c₀) s
  stepped-faithful steps at c₁ c₀ (edited s) = h c₁ s
  stepped-faithful steps at c₁ c₀ (halt n s) = ret-faithful (end n steps (end_place n at) s) old_end full_end (old_state s) refl

  stepped-full : (steps at : ℕ) (c₁ c₀ : Ctl) (o : Out) (t : Tape) → full_out o → full_end (stepped go steps at c₁ c₀ o t).0
  unfolding stepped full_out full_end
  stepped-full steps at c₁ c₀ (on b s) t x = absurd x
  stepped-full steps at c₁ c₀ (edited s) t x = absurd x
  stepped-full steps at c₁ c₀ (halt n s) t x = x

  stepping-faithful : (steps : ℕ) (s : RunState) (x : Pull) → Faithful (stepping (step (given (bytes size))) go steps s x) (stepping step_free free steps s x) old_end full_end (old_state s)
  unfolding stepping old_end
  stepping-faithful steps s finished = ret-faithful (end 0 steps 0 s) old_end full_end (old_state s) refl
  stepping-faithful steps s (want at op c₁ c₀) =
      bind-faithful (step (given (bytes size)) op s) (step_free op s) (stepped go (suc steps) at c₁ c₀) (stepped free (suc steps) at c₁ c₀) old_out full_out old_end full_end (old_state s)
      (stepped-full (suc steps) at c₁ c₀) (step-faithful size op s) (stepped-faithful (suc steps) at c₁ c₀)
  stepping-faithful steps s lost = ret-faithful (end 0 steps 0 s) old_end full_end (old_state s) refl

run-faithful : (size budget steps : ℕ) (c : Ctl) (s : RunState) → Faithful (run (step (given (bytes size))) budget steps c s) (run step_free budget steps c s) old_end full_end (old_state s)
unfolding run
run-faithful size zero steps c s = ret-faithful (spent steps s (pull c)) old_end full_end (old_state s) (spent-old steps s (pull c))
run-faithful size (suc budget) steps c s =
    stepping-faithful size (λ c' s'. run (step (given (bytes size))) budget (suc steps) c' s') (λ c' s'. run step_free budget (suc steps) c' s')
    (λ c' s'. run-faithful size budget (suc steps) c' s') steps s (pull c)

run_items-faithful : (size budget : ℕ) (is : List Item) → Faithful (run_items (step (given (bytes size))) budget is) (run_items step_free budget is) old_end full_end []
unfolding run_items old_state
run_items-faithful size budget is =
    bind-faithful opening opening (λ e. run (step (given (bytes size))) budget 0 (running is []) (state e no_globals)) (λ e. run step_free budget 0 (running is []) (state e no_globals)) old_ed never old_end full_end []
    (λ s t x. absurd x) opening-faithful (λ e. run-faithful size budget 0 (running is []) (state e no_globals))

-- ---- the journal up to the furthest line and after it

-- records that begin with a source line's, or none
abbrev Starts : List Record → Type 0
Starts [] = Unit {0}
Starts (kept l ∷ rs) = Unit {0}
Starts (changed o n ∷ rs) = Unit {0}
Starts (deleted l ∷ rs) = Unit {0}
Starts (inserted l ∷ rs) = ⊥

up_to-records : (rs xs : List Record) → Starts xs → up_to_line (length (old_side rs)) (rs ++ xs) ≡ rs
unfolding up_to_line old_side old_of
up_to-records [] [] h = refl
up_to-records [] (kept l ∷ xs) h = refl
up_to-records [] (changed o n ∷ xs) h = refl
up_to-records [] (deleted l ∷ xs) h = refl
up_to-records [] (inserted l ∷ xs) h = absurd h
up_to-records (kept l ∷ rs) xs h = ap {B = List Record} (λ r. kept l ∷ r) (up_to-records rs xs h)
up_to-records (changed o n ∷ rs) xs h = ap {B = List Record} (λ r. changed o n ∷ r) (up_to-records rs xs h)
up_to-records (deleted l ∷ rs) xs h = ap {B = List Record} (λ r. deleted l ∷ r) (up_to-records rs xs h)
up_to-records (inserted l ∷ rs) xs h = ap {B = List Record} (λ r. inserted l ∷ r) (up_to-records rs xs h)

after-records : (rs xs : List Record) → Starts xs → after_line (length (old_side rs)) (rs ++ xs) ≡ xs
unfolding after_line old_side old_of
after-records [] [] h = refl
after-records [] (kept l ∷ xs) h = refl
after-records [] (changed o n ∷ xs) h = refl
after-records [] (deleted l ∷ xs) h = refl
after-records [] (inserted l ∷ xs) h = absurd h
after-records (kept l ∷ rs) xs h = after-records rs xs h
after-records (changed o n ∷ rs) xs h = after-records rs xs h
after-records (deleted l ∷ rs) xs h = after-records rs xs h
after-records (inserted l ∷ rs) xs h = after-records rs xs h

-- nothing follows a line that the records do not have
after-all : (rs : List Record) → after_line (suc (length (old_side rs))) rs ≡ []
unfolding after_line old_side old_of
after-all [] = refl
after-all (kept l ∷ rs) = after-all rs
after-all (changed o n ∷ rs) = after-all rs
after-all (deleted l ∷ rs) = after-all rs
after-all (inserted l ∷ rs) = after-all rs

drop-over : (ls : List Line) → drop (suc (length ls)) ls ≡ []
drop-over [] = refl
drop-over (l ∷ ls) = drop-over ls

-- ---- the records of lines that are not read

left_as-one : (l : Line) (x : Got Line) (rs : List Record) → (old_side (left_as l x ∷ rs) ≡ l ∷ old_side rs) × Starts (left_as l x ∷ rs)
unfolding left_as old_side old_of change
left_as-one l (got new) rs = by (eq_line l new)
  where
    by : (b : Bool) → (old_of (cond b (kept l) (changed l new)) ++ old_side rs ≡ l ∷ old_side rs) × Starts (cond b (kept l) (changed l new) ∷ rs)
    by true = (unfold old_of in refl, tt)
    by false = (unfold old_of in refl, tt)
left_as-one l (stop n) rs = (refl, tt)

-- their old side is the lines
pub rest-old : (n : ℕ) (c : Carried) (ls : List Line) → old_side (unread_as n c ls) ≡ ls
unfolding unread_as
rest-old zero c [] = unfold old_side in refl
rest-old zero c (l ∷ ls) = (left_as-one l (left_by c l) (map (λ x. left_as x (left_by c x)) ls)).0 ∙ ap {B = List Line} (λ x. l ∷ x) (unfold unread_as in (rest-old zero c ls))
rest-old (suc n) c ls = old-kept ls

rest-starts : (n : ℕ) (c : Carried) (ls : List Line) → Starts (unread_as n c ls)
unfolding unread_as
rest-starts zero c [] = tt
rest-starts zero c (l ∷ ls) = (left_as-one l (left_by c l) (map (λ x. left_as x (left_by c x)) ls)).1
rest-starts (suc n) c [] = tt
rest-starts (suc n) c (l ∷ ls) = tt

rest-none : (n : ℕ) (c : Carried) → unread_as n c [] ≡ []
unfolding unread_as
rest-none zero c = refl
rest-none (suc n) c = refl

-- ---- from the run's last state to the answer: `e`, what stands, and what is unread

-- the lines after the furthest one are the unread ones
drop-read : (e : Ed) (t : Tape) → drop (furthest e t) (old_ed e ++ rest_lines t) ≡ rest_lines t
unfolding furthest sources rest_lines old_ed
drop-read e (unread v) = drop-append_seam (old_side (records e)) v
drop-read e ended = rw (append-nil (old_side (records e))) (drop-over (old_side (records e)))

-- arranging leaves the old side, and so the number of source lines
arranged-lines : (rs : List Record) → length (old_side rs) ≡ length (old_side (arrange rs))
arranged-lines rs = ap length (sym (arrange-old rs))

after_read : (n : ℕ) (c : Carried) (e : Ed) (t : Tape) → after_line (furthest e t) (arrange (records e) ++ unread_as n c (rest_lines t)) ≡ unread_as n c (rest_lines t)
unfolding furthest sources rest_lines
after_read n c e (unread v) = rw (arranged-lines (records e)) (after-records (arrange (records e)) (unread_as n c v) (rest-starts n c v))
after_read n c e ended = rw (rest-none n c, append-nil (arrange (records e)), arranged-lines (records e)) (after-all (arrange (records e)))

-- what follows the furthest line
told-after : (n steps at : ℕ) (e : Ed) (c : Carried) (t : Tape) → (n ≡ 0 → Each (Passes c) (rest_lines t))
    → LeftAfter (furthest e t) c (old_ed e ++ rest_lines t) (answer n steps (furthest e t) at (arrange (records e) ++ unread_as n c (rest_lines t)))
told-after n steps at e c t p = unfold answer_number answer_records in (record {
  rest = after_read n c e t ∙ ap (unread_as n c) (sym (drop-read e t));
  passed = λ q. rw (drop-read e t) (p q);
})

-- a stop's number is not 0
stop-above : (k : Stop) → (k ≡ n25) ⊎ (k ≡ n26) → (m : ℕ) × (stop_number k ≡ suc m)
unfolding stop_number
stop-above k (inl q) = (24, rw q)
stop-above k (inr q) = (25, rw q)

late-after : (k : Stop) → (k ≡ n25) ⊎ (k ≡ n26) → (place steps : ℕ) (e : Ed) (c : Carried) (t : Tape)
    → LeftAfter (furthest e t) c (old_ed e ++ rest_lines t) (answer (stop_number k) steps (furthest e t) place (arrange (records e) ++ map kept (rest_lines t)))
late-after k why place steps e c t = by (stop_number k) (stop-above k why).0 (stop-above k why).1
  where
    by : (n m : ℕ) → n ≡ suc m → LeftAfter (furthest e t) c (old_ed e ++ rest_lines t) (answer n steps (furthest e t) place (arrange (records e) ++ map kept (rest_lines t)))
    by n m q = rw q (unfold unread_as in (told-after (suc m) steps place e c t (λ z. absurd (omega (arith, z)))))

-- the old side of what is read, arranged, and of the lines after it
read-old : (rs xs : List Record) (ls : List Line) → old_side xs ≡ ls → old_side (arrange rs ++ xs) ≡ old_side rs ++ ls
read-old rs xs ls q = old-append (arrange rs) xs ∙ ap (λ (z : List Line). z ++ old_side xs) (arrange-old rs) ∙ ap (λ (z : List Line). old_side rs ++ z) q

answer-old : (g : Given) (place : ℕ) (x : End) (t : Tape) → old_side (answer_records (answer_of g place x t)) ≡ old_end x ++ rest_lines t
answer-old g place x t = by x (answer_of g place x t) (answer-comes g place x t)
  where
    by : (y : End) (a : Answer) → Comes place y t a → old_side (answer_records a) ≡ old_end y ++ rest_lines t
    by (end n steps at (state e c)) a (as_told q p) =
        rw q (unfold last_answer answer_records old_end old_state old_ed in (read-old (records e) (unread_as n c (rest_lines t)) (rest_lines t) (rest-old n c (rest_lines t))))
    by (end n steps at (state e c)) a (stops_late k why done q) =
        rw q (unfold late_stop answer_records old_end old_state old_ed in (read-old (records e) (map kept (rest_lines t)) (rest_lines t) (old-kept (rest_lines t))))

answer-arranged : (a : Answer) → arrange (answer_records (arranged a)) ≡ answer_records (arranged a)
unfolding arranged answer_records arrange arrange_from
answer-arranged (answer n steps f at rs) = unfold arrange in (arrange-again rs)
answer-arranged (refusal n at) = refl

answer-after : (g : Given) (place : ℕ) (x : End) (t : Tape) → LeftAfter (answer_furthest (answer_of g place x t)) (standing_at x) (old_end x ++ rest_lines t) (answer_of g place x t)
answer-after g place x t = by x (answer_of g place x t) (answer-comes g place x t)
  where
    by : (y : End) (a : Answer) → Comes place y t a → LeftAfter (answer_furthest a) (standing_at y) (old_end y ++ rest_lines t) a
    by (end n steps at (state e c)) a (as_told q p) =
        rw q (unfold last_answer answer_furthest standing_at old_end old_state in (told-after n steps (end_place n at) e c t (unfold standing_at in p)))
    by (end n steps at (state e c)) a (stops_late k why done q) =
        rw q (unfold late_stop answer_furthest standing_at old_end old_state in (late-after k why place steps e c t))

answer-full : (g : Given) (place : ℕ) (x : End) (t : Tape) → full_end x → answer_number (answer_of g place x t) ≡ 26
unfolding answer_of in_run_order arranged answer_number full_end
answer-full g place (end zero steps at (state e c)) t x = absurd (omega (arith, x))
answer-full g place (end (suc n) steps at s) t x = x

pub answer-furthest : (g : Given) (place : ℕ) (x : End) (t : Tape) → answer_furthest (answer_of g place x t) ≡ furthest_at x t
answer-furthest g place x t = by x (answer_of g place x t) (answer-comes g place x t)
  where
    by : (y : End) (a : Answer) → Comes place y t a → answer_furthest a ≡ furthest_at y t
    by (end n steps at (state e c)) a (as_told q p) = rw q (unfold last_answer answer_furthest furthest_at text_of in refl)
    by (end n steps at (state e c)) a (stops_late k why done q) = rw q (unfold late_stop answer_furthest furthest_at text_of in refl)

furthest-unread : (x : End) (v : List Line) → furthest_at x (unread v) ≡ length (old_end x)
unfolding furthest_at text_of furthest sources old_end old_state old_ed
furthest-unread (end n steps at (state e c)) v = refl

furthest-ended : (x : End) → furthest_at x ended ≡ suc (length (old_end x))
unfolding furthest_at text_of furthest sources old_end old_state old_ed
furthest-ended (end n steps at (state e c)) = refl

-- ---- a run that is compared

-- it does not stop after the script's end: its answer is what the last state tells, whatever the buffer
compared-told : (g : Given) (script : List ℕ) (x : End) (t : Tape) → IsCompared script (answer_of g (length script) x t) → answer_of g (length script) x t ≡ last_answer x t
compared-told g script x t = by x (answer_of g (length script) x t) (answer-comes g (length script) x t)
  where
    by : (y : End) (a : Answer) → Comes (length script) y t a → IsCompared script a → a ≡ last_answer y t
    by y a (as_told q p) h = q
    by (end n steps at (state e c)) a (stops_late k (inl z) done q) h = absurd (h.not_after (rw (q, z) (unfold late_stop answer_number stop_number in refl)) (rw q (unfold late_stop answer_place in refl)))
    by (end n steps at (state e c)) a (stops_late k (inr z) done q) h = absurd (h.not_full (rw (q, z) (unfold late_stop answer_number stop_number in refl)))

-- the journal up to the furthest line is what was read, arranged by itself
up_to-read : (rs xs : List Record) → Starts xs → up_to_line (length (old_side rs)) (arrange rs ++ xs) ≡ arrange rs
up_to-read rs xs h = rw (arranged-lines rs) (up_to-records (arrange rs) xs h)

-- the same last state, with other lines unread
told_same : (x : End) (v w : List Line) → SameUpTo (length (old_end x)) (last_answer x (unread v)) (last_answer x (unread w))
unfolding last_answer answer_number answer_steps answer_furthest answer_place answer_records furthest sources rest_lines old_end old_ed old_state
told_same (end n steps at (state e c)) v w = record {
  number = refl;
  place = refl;
  steps = refl;
  furthest = refl;
  journal = up_to-read (records e) (unread_as n c w) (rest-starts n c w) ∙ sym (up_to-read (records e) (unread_as n c v) (rest-starts n c v));
}

pub same_refl : (f : ℕ) (a b : Answer) → b ≡ a → SameUpTo f a b
same_refl f a b e = record {
  number = ap answer_number e;
  place = ap answer_place e;
  steps = ap answer_steps e;
  furthest = ap answer_furthest e;
  journal = ap (λ x. up_to_line f (answer_records x)) e;
}

-- two answers of one last state
pairs-same : (f : ℕ) (a b : Answer) (s : End) (v w : List Line) → f ≡ length (old_end s) → a ≡ last_answer s (unread v) → b ≡ last_answer s (unread w) → SameUpTo f a b
pairs-same f a b s v w q e₁ e₂ = rw (q, e₁, e₂) (told_same s v w)

pair-old : (x : End × Tape) (ls : List Line) (s : End) (t : Tape) → old_end x.0 ++ rest_lines x.1 ≡ ls → x ≡ (s, t) → old_end s ++ rest_lines t ≡ ls
pair-old x ls s t k e = rw e at k

-- a table that agrees in the lines used begins with them
agreed : (used v ms : List Line) → take (length used) (used ++ v) ≡ take (length used) ms → ms ≡ used ++ drop (length used) ms
agreed used v ms h =
    sym (take-append-drop (length used) ms) ∙ ap (λ (x : List Line). x ++ drop (length used) ms) (sym h ∙ take-append_seam used v)

-- ---- demand 3 of decoded items

module _ (script : List ℕ) (budget : ℕ) (is : List Item) where
  -- the run's last state, in a buffer of `size` bytes and in one without bounds
  abbrev lim : ℕ → List Line → End × Tape
  lim size ls = run_items (step (given (bytes size))) budget is (unread ls)

  abbrev free : List Line → End × Tape
  free ls = run_items step_free budget is (unread ls)

  abbrev ran : ℕ → List Line → Answer
  ran size ls = ran_items (given (bytes size)) (length script) budget is ls

  -- the globals that stand at its end
  abbrev stand : ℕ → List Line → Carried
  stand size ls = standing_at (lim size ls).0

  -- a run that does not stop on a full buffer is the run without bounds
  not_full : (size : ℕ) (ls : List Line) → IsNotFull (ran size ls) → lim size ls ≡ free ls
  unfolding ran_items
  not_full size ls h = by ((run_items-faithful size budget is).bounded (unread ls))
    where
      by : full_end (lim size ls).0 ⊎ (lim size ls ≡ free ls) → lim size ls ≡ free ls
      by (inl x) = absurd (h (answer-full (given (bytes size)) (length script) (lim size ls).0 (lim size ls).1 x))
      by (inr e) = e

  keeps-lim : (size : ℕ) (ls : List Line) → old_end (lim size ls).0 ++ rest_lines (lim size ls).1 ≡ ls
  unfolding rest_lines
  keeps-lim size ls = (run_items-faithful size budget is).keeps (unread ls)

  pub items-old : (size : ℕ) (ls : List Line) → old_side (answer_records (ran size ls)) ≡ ls
  unfolding ran_items
  items-old size ls = answer-old (given (bytes size)) (length script) (lim size ls).0 (lim size ls).1 ∙ keeps-lim size ls

  pub items-arranged : (size : ℕ) (ls : List Line) → arrange (answer_records (ran size ls)) ≡ answer_records (ran size ls)
  unfolding ran_items answer_of
  items-arranged size ls = answer-arranged (in_run_order (given (bytes size)) (length script) (lim size ls).0 (lim size ls).1)

  pub items-after : (size : ℕ) (ls : List Line) → LeftAfter (answer_furthest (ran size ls)) (stand size ls) ls (ran size ls)
  unfolding ran_items
  items-after size ls =
      subst (λ (x : List Line). LeftAfter (answer_furthest (ran size ls)) (stand size ls) x (ran size ls)) (keeps-lim size ls)
      (answer-after (given (bytes size)) (length script) (lim size ls).0 (lim size ls).1)

  -- the answer of a run that is compared
  told : (size : ℕ) (ls : List Line) → IsCompared script (ran size ls) → ran size ls ≡ last_answer (free ls).0 (free ls).1
  unfolding ran_items
  told size ls h =
      compared-told (given (bytes size)) script (lim size ls).0 (lim size ls).1 h
      ∙ ap (λ (x : End × Tape). last_answer x.0 x.1) (not_full size ls h.not_full)

  furthest-of : (size : ℕ) (ls : List Line) (s : End) (t : Tape) → lim size ls ≡ (s, t) → answer_furthest (ran size ls) ≡ furthest_at s t
  unfolding ran_items
  furthest-of size ls s t e =
      answer-furthest (given (bytes size)) (length script) (lim size ls).0 (lim size ls).1 ∙ ap (λ (x : End × Tape). furthest_at x.0 x.1) e

  -- the same outcome up to the furthest line, and the same globals at the end
  abbrev Same : ℕ → ℕ → List Line → List Line → Type 0
  Same size size₂ ls ms = SameUpTo (answer_furthest (ran size ls)) (ran size ls) (ran size₂ ms) × (stand size₂ ms ≡ stand size ls)

  -- tables that agree up to the furthest line read
  same-up_to : (size size₂ : ℕ) (ls ms : List Line) → answer_furthest (ran size ls) ≤ length ls → take (answer_furthest (ran size ls)) ls ≡ take (answer_furthest (ran size ls)) ms
      → IsCompared script (ran size ls) → IsCompared script (ran size₂ ms) → Same size size₂ ls ms
  unfolding rest_lines
  same-up_to size size₂ ls ms has a c₁ c₂ = by ((run_items-faithful size budget is).near ls) (not_full size ls c₁.not_full) (not_full size₂ ms c₂.not_full)
    where
      by : Local (run_items step_free budget is) ls → lim size ls ≡ free ls → lim size₂ ms ≡ free ms → Same size size₂ ls ms
      by (met_eof s q) e₁ e₂ =
          let k : old_end s ≡ ls = sym (append-nil (old_end s)) ∙ pair-old (lim size ls) ls s ended (keeps-lim size ls) (e₁ ∙ q) in
          let f : answer_furthest (ran size ls) ≡ suc (length ls) = furthest-of size ls s ended (e₁ ∙ q) ∙ furthest-ended s ∙ ap (λ (l : List Line). suc (length l)) k in
          absurd (omega (arith, f, has))
      by (read_only used v s p h) e₁ e₂ =
          let x : free ls ≡ (s, unread v) = rw p (h v) in
          let k : old_end s ≡ used = append_cancel_right (old_end s) used v (pair-old (lim size ls) ls s (unread v) (keeps-lim size ls) (e₁ ∙ x) ∙ p) in
          let f : answer_furthest (ran size ls) ≡ length used = furthest-of size ls s (unread v) (e₁ ∙ x) ∙ furthest-unread s v ∙ ap length k in
          let b : take (length used) (used ++ v) ≡ take (length used) ms = rw (f, p) at a in
          let y : free ms ≡ (s, unread (drop (length used) ms)) = ap free (agreed used v ms b) ∙ h (drop (length used) ms) in (
            pairs-same (answer_furthest (ran size ls)) (ran size ls) (ran size₂ ms) s v (drop (length used) ms) (f ∙ ap length (sym k))
                (told size ls c₁ ∙ ap (λ (z : End × Tape). last_answer z.0 z.1) x) (told size₂ ms c₂ ∙ ap (λ (z : End × Tape). last_answer z.0 z.1) y),
            ap (λ (z : End × Tape). standing_at z.0) (e₂ ∙ y) ∙ sym (ap (λ (z : End × Tape). standing_at z.0) (e₁ ∙ x)),
          )

  -- equal tables, in two buffers
  same-equal : (size size₂ : ℕ) (ls ms : List Line) → ms ≡ ls → IsCompared script (ran size ls) → IsCompared script (ran size₂ ms) → Same size size₂ ls ms
  same-equal size size₂ ls ms e c₁ c₂ =
      let q : free ms ≡ free ls = ap free e in (
        same_refl (answer_furthest (ran size ls)) (ran size ls) (ran size₂ ms)
            (told size₂ ms c₂ ∙ ap (λ (x : End × Tape). last_answer x.0 x.1) q ∙ sym (told size ls c₁)),
        ap (λ (x : End × Tape). standing_at x.0) (not_full size₂ ms c₂.not_full ∙ q ∙ sym (not_full size ls c₁.not_full)),
      )

  pub items-same : (size size₂ : ℕ) (ls ms : List Line) → Agree (answer_furthest (ran size ls)) ls ms → IsCompared script (ran size ls) → IsCompared script (ran size₂ ms) → Same size size₂ ls ms
  items-same size size₂ ls ms (agree_up_to has has₂ a) c₁ c₂ = same-up_to size size₂ ls ms has a c₁ c₂
  items-same size size₂ ls ms (are_equal e) c₁ c₂ = same-equal size size₂ ls ms e c₁ c₂
