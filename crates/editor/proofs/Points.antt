-- p stays within the current line, whatever the step: what `find` asks holds along a run. Assumes nothing.
use mathlib.Core.Path.{◌≡◌, refl, sym}
use mathlib.Core.Bool.{Bool, true, false, cond, true≢false}
use mathlib.Core.Option.{Option, none, some}
use Prim.Native.Nat.{ℕ, zero, suc, ◌+◌, ◌-◌, ◌≤◌, ◌<◌}
use native.Mathlib.Omega.{arith}
use mathlib.Core.List.{List, [], ◌∷◌, ◌++◌, reverse_aux}
use lib.ListN.{length, drop, get_or, length-append}
use lib.Dec.{leb, eqb}
use borrow.Author.Tests.{leb-false}
use Rattle.definitions.specs.Bytes.{Line, eq_line}
use Rattle.definitions.specs.Journal.{Record, kept, changed, deleted, inserted, change, rewrite, erase}
use Rattle.definitions.specs.Tape.{Tape, unread, ended, ret, bind}
use Rattle.definitions.specs.Given.{Given, Global, Carried, carried, words_of}
use Rattle.definitions.specs.Editor.{Ed, ed, before_of, after_of, records, journal, sources, current, is_live, has_live, first_live, Stop, n20, n21, n22, n23, n24, n25, n26, n27, n28, n30, n31, stop_number, Got, got, stop, land, go_back, locate}
use Rattle.definitions.specs.Editor.{Target, here, line, eof, Through, alone, up_to, to_eof, Move, ahead, back, to, point_to, moved, strike, strike_back, strike_next, put, retext, struck, struck_back, put_before, edit, edits}
use Rattle.definitions.specs.Reading.{Ran, gave, stopped, seen, has_room, read_changed, read_as, read_line}
use Rattle.definitions.specs.Globals.{left_by}
use Rattle.definitions.specs.StepProgram.{Program, gives, stops, ◌>>=◌, ◌>>◌, runs, state, text_of, words_in, Did, answers, changes, quits, adds, cancels, names, Out, on, halt, one_more, finish, perform}
use Rattle.definitions.specs.Matching.{Qualified, Match, match_of}
use Rattle.definitions.specs.Search.{Search, holds}
use Rattle.definitions.specs.Edit.{Op, Change, after_it, before_it, exchange, stop_if, or_stop, either, see, go, goes_on, read_up_to, read_past, go_ahead, go_to, line_in, line_or, is_at_eof, look_on, look_back, splice, altered, altered_point, point_by, cased, recased, match_or24, write, cut_after, next_or30, write_joined, count_through, reach, span, program, step}
use Rattle.theorems.specs.Reading.{At}
use Rattle.theorems.specs.ComesTo.{Ended, Keeping, OnGot, ComesTo, then-comes, and-comes, either-comes, test-comes, line-comes, byte-comes, go-comes, reads-keep, within-comes}
use Rattle.theorems.specs.GoodLines.{splice-length}
use Rattle.theorems.specs.Places.{MatchIn}
use Rattle.theorems.proofs.Places.{match-inside}
use Rattle.editor.specs.Shows.{GroundedAt}
use Rattle.editor.specs.Current.{PointIn, PointOut}
use Rattle.theorems.specs.Lines.{equal_is}

-- ---- what every part of a step keeps

-- the current record is live, and p is within its line; where EOF is current and there may be lines to read, p = 0
abbrev PointAt : Ed → Tape → Type 0
PointAt (ed b [] p) (unread ls) = p ≡ 0
PointAt (ed b [] p) ended = Unit {0}
PointAt (ed b (r ∷ a) p) t = (is_live r ≡ true) × (p ≤ length (current r))

point_at : (e : Ed) (t : Tape) → GroundedAt (after_of e) t → PointIn e → PointAt e t
unfolding after_of
point_at (ed b [] p) (unread ls) g h = absurd g
point_at (ed b [] p) ended g h = tt
point_at (ed b (r ∷ a) p) t g h = (g, h)

point-in : (e : Ed) (t : Tape) → PointAt e t → PointIn e
point-in (ed b [] p) t h = tt
point-in (ed b (r ∷ a) p) t h = h.1

eof-at : (b : List Record) (t : Tape) → PointAt (ed b [] 0) t
eof-at b (unread ls) = refl
eof-at b ended = tt

start-at : (e : Ed) (t : Tape) → PointAt e t → (b a : List Record) (p : ℕ) → e ≡ ed b a p → PointAt (ed b a 0) t
start-at e t h b [] p q = eof-at b t
start-at e t h b (r ∷ a) p q = ((rw q at h).0, omega arith)

-- ---- moves

land-at : (b a : List Record) (t : Tape) → PointAt (land b a) t
unfolding land is_live
land-at b [] t = eof-at b t
land-at b (kept l ∷ a) t = (refl, omega arith)
land-at b (changed o n ∷ a) t = (refl, omega arith)
land-at b (deleted l ∷ a) t = land-at (deleted l ∷ b) a t
land-at b (inserted l ∷ a) t = (refl, omega arith)

abbrev MovesAt : Tape → Got Ed → Type 0
MovesAt t x = OnGot (λ e. PointAt e t) (λ n. Unit {0}) x

back_at : (b a : List Record) (t : Tape) → MovesAt t (go_back b a)
unfolding go_back is_live
back_at [] a t = tt
back_at (kept l ∷ b) a t = (refl, omega arith)
back_at (changed o n ∷ b) a t = (refl, omega arith)
back_at (deleted l ∷ b) a t = back_at b (deleted l ∷ a) t
back_at (inserted l ∷ b) a t = (refl, omega arith)

locate-at : (k : ℕ) (b rs : List Record) (t : Tape) → MovesAt t (locate k b rs)
unfolding locate is_live
locate-at k b [] t = tt
locate-at k b (inserted l ∷ rs) t = locate-at k (inserted l ∷ b) rs t
locate-at zero b (kept l ∷ rs) t = (refl, omega arith)
locate-at zero b (changed o n ∷ rs) t = (refl, omega arith)
locate-at zero b (deleted l ∷ rs) t = tt
locate-at (suc k) b (kept l ∷ rs) t = locate-at k (kept l ∷ b) rs t
locate-at (suc k) b (changed o n ∷ rs) t = locate-at k (changed o n ∷ b) rs t
locate-at (suc k) b (deleted l ∷ rs) t = locate-at k (deleted l ∷ b) rs t

-- where a move leads, if it is p's: within the line
abbrev Leads : Move → Ed → Type 0
Leads ahead e = Unit {0}
Leads back e = Unit {0}
Leads (to a) e = Unit {0}
Leads (point_to q) (ed b [] p) = ⊥
Leads (point_to q) (ed b (r ∷ a) p) = q ≤ length (current r)

move_at : (x : Move) (e : Ed) (t : Tape) → Leads x e → PointAt e t → MovesAt t (moved x e)
unfolding moved
move_at ahead (ed b [] p) t l h = eof-at b t
move_at ahead (ed b (r ∷ a) p) t l h = land-at (r ∷ b) a t
move_at back (ed b a p) t l h = back_at b a t
move_at (to here) (ed b a p) t l h = start-at (ed b a p) t h b a p refl
move_at (to (line n)) e t l h = locate-at (n - 1) [] (records e) t
move_at (to eof) (ed b a p) t l h = eof-at (reverse_aux a b) t
move_at (point_to q) (ed b [] p) t l h = absurd l
move_at (point_to q) (ed b (r ∷ a) p) t l h = (h.0, l)

-- ---- reading

-- a line that is read comes behind the others; where none was there it is the first, and p is 0
seen_at : (r : Record) (e : Ed) (l : Line) (ls : List Line) → is_live r ≡ true → PointAt e (unread (l ∷ ls)) → PointAt (seen r e) (unread ls)
unfolding seen
seen_at r (ed b (x ∷ a) p) l ls live h = h
seen_at r (ed b [] p) l ls live h = (live, omega arith)

changed-at : (g : Given) (o n : Line) (e : Ed) (ls : List Line) → PointAt e (unread (o ∷ ls)) → At (Keeping PointAt) (read_changed g o n e (unread ls))
unfolding read_changed is_live
changed-at g o n e ls h = by (has_room g (journal (seen (changed o n) e) (unread ls)))
  where
    by : (x : Bool) → At {S = Ran (Unit {0})} (Keeping PointAt) (cond x (gave tt (seen (changed o n) e), unread ls) (stopped n26 (seen (kept o) e), unread ls))
    by true = seen_at (changed o n) e o ls refl h
    by false = seen_at (kept o) e o ls refl h

as_at : (g : Given) (l : Line) (e : Ed) (ls : List Line) (x : Got Line) → PointAt e (unread (l ∷ ls)) → At (Keeping PointAt) (read_as g l e x (unread ls))
unfolding read_as is_live
as_at g l e ls (got new) h = by (eq_line l new)
  where
    by : (x : Bool) → At (Keeping PointAt) (cond x (ret (gave tt (seen (kept l) e))) (read_changed g l new e) (unread ls))
    by true = seen_at (kept l) e l ls refl h
    by false = changed-at g l new e ls h
as_at g l e ls (stop n) h = seen_at (kept l) e l ls refl h

line-at : (g : Given) (c : Carried) (e : Ed) (t : Tape) → PointAt e t → At (Keeping PointAt) (read_line g c e t)
unfolding read_line
line-at g c e (unread (l ∷ ls)) h = as_at g l e ls (left_by c l) h
line-at g c (ed b [] p) (unread []) h = tt
line-at g c (ed b (r ∷ a) p) (unread []) h = h
line-at g c e ended h = h

-- ---- parts of programs

-- whatever is given
abbrev Keeps : {A : Type 0} → A → Ed → Tape → Type 0
Keeps a e t = PointAt e t

-- a stop asks nothing
abbrev Any : Stop → Ed → Tape → Type 0
Any n e t = Unit {0}

-- of where it stops, nothing is asked
any-stop : (r : Ran (Unit {0})) (t : Tape) → Keeping PointAt r t → Ended Keeps Any r t
any-stop (gave u e) t h = h
any-stop (stopped n e) t h = tt

module _ (g : Given) (c : Carried) where
  -- a part that keeps p within the line
  abbrev Part : {A : Type 0} → Program A → Type 0
  Part m = (e : Ed) (t : Tape) → PointAt e t → ComesTo g c Keeps Any m e t

  gives_part : {A : Type 0} (a : A) → Part (gives a)
  unfolding runs
  gives_part a e t h = h

  then-part : {A B : Type 0} (m : Program A) (k : A → Program B) → Part m → ((a : A) → Part (k a)) → Part (◌>>=◌ m k)
  then-part m k f n e t h = then-comes g c Keeps Keeps Any m k e t (f e t h) (λ a e' t' h'. n a e' t' h')

  and-part : {A B : Type 0} (m : Program A) (k : Program B) → Part m → Part k → Part (◌>>◌ m k)
  and-part m k f n e t h = and-comes g c Keeps Keeps Any m k e t (f e t h) (λ a e' t' h'. n e' t' h')

  see-part : {A : Type 0} (f : Ed → A) → Part (see f)
  unfolding see runs
  see-part f e t h = h

  read-part : (a : Target) → Part (read_up_to a)
  read-part a e t h = any-stop (runs g c (read_up_to a) e t).0 (runs g c (read_up_to a) e t).1 (reads-keep g c PointAt (line-at g c) a e t h)

  past-part : (k : ℕ) → Part (read_past k)
  unfolding read_past runs
  past-part k e t h = either-comes g c Keeps Any (has_live (drop k (after_of e))) (gives tt) (read_up_to (line (suc (sources (records e))))) e t (gives_part (tt {0}) e t h) (read-part (line (suc (sources (records e)))) e t h)

  -- a move
  go-at : (x : Move) (e : Ed) (t : Tape) → Leads x e → PointAt e t → ComesTo g c Keeps Any (go x) e t
  go-at x e t l h = go-comes g c Keeps Any x e t (move_at x e t l h)

  ahead-part : Part go_ahead
  unfolding go_ahead
  ahead-part = and-part (read_past 1) (go ahead) (past-part 1) (λ e t h. go-at ahead e t tt h)

  to_part : (a : Target) → Part (go_to a)
  unfolding go_to
  to_part a = and-part (read_up_to a) (go (to a)) (read-part a) (λ e t h. go-at (to a) e t tt h)

  back-part : Part (go back)
  back-part e t h = go-at back e t tt h

  -- the tests
  test-part : {A : Type 0} (n : Stop) (x : Bool) (m : Program A) → Part m → Part (◌>>◌ (stop_if n x) m)
  test-part n x m f e t h = test-comes g c Keeps Any n x m e t (λ q. tt) (λ q. f e t h)

  line-part : (n : Stop) → Part (line_or n)
  unfolding line_or line_in runs
  line-part n (ed b [] p) t h = tt
  line-part n (ed b (r ∷ a) p) t h = h

  stops-part : {A : Type 0} (n : Stop) (m : Program A) → m ≡ stops n → Part m
  unfolding runs
  stops-part n m q e t h = rw q tt

  count-part : (n k : ℕ) (rs : List Record) → Part (count_through n k rs)
  unfolding count_through
  count-part n k [] = stops-part n21 (stops n21) refl
  count-part n k (inserted l ∷ rs) = count-part (suc n) k rs
  count-part n zero (kept l ∷ rs) = gives_part (suc n)
  count-part n zero (changed o m ∷ rs) = gives_part (suc n)
  count-part n zero (deleted l ∷ rs) = stops-part n23 (stops n23) refl
  count-part n (suc k) (kept l ∷ rs) = count-part (suc n) k rs
  count-part n (suc k) (changed o m ∷ rs) = count-part (suc n) k rs
  count-part n (suc k) (deleted l ∷ rs) = count-part (suc n) k rs

  reach-part : (b : Through) → Part (reach b)
  unfolding reach
  reach-part alone = gives_part 1
  reach-part (up_to b) =
      then-part (see (λ e. sources (before_of e))) _ (see-part (λ e. sources (before_of e)))
      (λ n. test-part n28 (leb b n) _ (and-part (read_up_to (line b)) _ (read-part (line b)) (then-part (see after_of) _ (see-part after_of) (λ after. count-part 0 (b - suc n) after))))
  reach-part to_eof = and-part (read_up_to eof) _ (read-part eof) (see-part (λ e. length (after_of e)))

  or-part : {A : Type 0} (n : Stop) (o : Option A) → Part (or_stop n o)
  unfolding or_stop
  or-part n none = stops-part n (stops n) refl
  or-part n (some a) = gives_part a

  next-part : Part next_or30
  unfolding next_or30
  next-part = and-part (read_past 1) _ (past-part 1) (then-part (see after_of) _ (see-part after_of) (λ after. or-part n30 (first_live (drop 1 after))))

  span-part : (a : Target) (b : Through) → Part (span a b)
  unfolding span
  span-part a b =
      and-part (go_to a) _ (to_part a)
      (and-part (line_or n20) _ (line-part n20) (then-part (reach b) _ (reach-part b) (λ k. and-part (read_past k) _ (past-part k) (gives_part k))))

-- ---- changes of records

change-text : (o l : Line) → current (change o l) ≡ l
unfolding change current
change-text o l = go (eq_line o l) refl
  where
    go : (t : Bool) → eq_line o l ≡ t → current (cond t (kept o) (changed o l)) ≡ l
    go true q = equal_is o l q
    go false q = refl

rewrite-text : (r : Record) (l : Line) → is_live r ≡ true → current (rewrite r l) ≡ l
unfolding rewrite current is_live
rewrite-text (kept o) l v = change-text o l
rewrite-text (changed o n) l v = change-text o l
rewrite-text (deleted o) l v = absurd (true≢false (sym v))
rewrite-text (inserted o) l v = refl

struck-in : (k : ℕ) (b a : List Record) → PointIn (struck k b a)
unfolding struck
struck-in zero b a = point-in (land b a) ended (land-at b a ended)
struck-in (suc k) b [] = tt
struck-in (suc k) b (r ∷ a) = struck-in k (erase r ++ b) a

-- what stands before the current record makes no difference
before-in : (b d a : List Record) (p : ℕ) → PointIn (ed b a p) → PointIn (ed d a p)
before-in b d [] p h = tt
before-in b d (r ∷ a) p h = h

strike-in : (k : ℕ) (e : Ed) → PointIn (edit (strike k) e)
unfolding edit
strike-in k (ed b a p) = struck-in k b a

put_in : (ls : List Line) (e : Ed) → PointIn e → PointIn (edit (put ls) e)
unfolding edit
put_in ls (ed b a p) h = before-in b (put_before ls b) a p h

strike-back-in : (k : ℕ) (e : Ed) → PointIn e → PointIn (edit (strike_back k) e)
unfolding edit
strike-back-in k (ed b a p) h = before-in b (struck_back k b []) a p h

altered-in : (c : Change) (pointing : Bool) (l : Line) (p i n : ℕ) (new : Line) → p ≤ i → i + n ≤ length l
    → altered_point c pointing p i n (length new) ≤ length (altered c l i n new)
unfolding altered altered_point
altered-in after_it false l p i n new h k = omega (arith, splice-length l (i + n) 0 new (omega arith))
altered-in after_it true l p i n new h k = omega (arith, splice-length l (i + n) 0 new (omega arith))
altered-in before_it false l p i n new h k = omega (arith, splice-length l i 0 new (omega arith))
altered-in before_it true l p i n new h k = omega (arith, splice-length l i 0 new (omega arith))
altered-in exchange false l p i n new h k = omega (arith, splice-length l i n new (omega arith))
altered-in exchange true l p i n new h k = omega (arith, splice-length l i n new (omega arith))

recased-in : (up : Bool) (l : Line) (p : ℕ) → p < length l → suc p ≤ length (recased up l p)
unfolding recased
recased-in up l p h = omega (arith, splice-length l p 1 (cased up (get_or l p 0) ∷ []) (omega arith))

point-by-in : (after : Bool) (i n w : ℕ) → i + n ≤ w → point_by after i n ≤ w
unfolding point_by
point-by-in true i n w h = h
point-by-in false i n w h = omega (arith, h)

-- ---- a step's end

-- what a program may end with
abbrev Done : Did → Ed → Tape → Type 0
Done (answers b) e t = PointAt e t
Done (changes xs) e t = PointIn (edits xs e)
Done quits e t = Unit {0}
Done (adds x) e t = PointAt e t
Done cancels e t = PointAt e t
Done (names xs) e t = PointAt e t

abbrev OutIn : Out → Tape → Type 0
OutIn o t = PointOut o

more-in : (c : Carried) (x : Global) (e : Ed) (t : Tape) → PointAt e t → PointOut (one_more c x e)
unfolding one_more text_of
more-in (carried gs xs) x e t h = by (leb 16 (length gs))
  where
    by : (b : Bool) → PointOut (cond b (halt (stop_number n31) (state e (carried gs xs))) (on true (state e (carried (gs ++ (x ∷ [])) xs))))
    by true = tt
    by false = point-in e t h

finish-in : (g : Given) (c : Carried) (r : Ran Did) (t : Tape) → Ended Done Any r t → At OutIn (finish g c r t)
unfolding finish text_of
finish-in g c (gave (answers b) e) t h = point-in e t h
finish-in g c (gave (changes xs) e) t h = within-comes OutIn g c e (edits xs e) t (λ x. h) tt
finish-in g c (gave quits e) t h = tt
finish-in g c (gave (adds x) e) t h = more-in c x e t h
finish-in g c (gave cancels e) t h = point-in e t h
finish-in g c (gave (names xs) e) t h = point-in e t h
finish-in g c (stopped n e) t h = tt

module _ (g : Given) (c : Carried) where
  abbrev Step : Program Did → Type 0
  Step m = (e : Ed) (t : Tape) → PointAt e t → ComesTo g c Done Any m e t

  -- a part, then a step's rest
  part_then : {A : Type 0} (m : Program A) (k : A → Program Did) → Part g c m → ((a : A) → Step (k a)) → Step (◌>>=◌ m k)
  part_then m k f n e t h = then-comes g c Keeps Done Any m k e t (f e t h) (λ a e' t' h'. n a e' t' h')

  part-and : {A : Type 0} (m : Program A) (k : Program Did) → Part g c m → Step k → Step (◌>>◌ m k)
  part-and m k f n e t h = and-comes g c Keeps Done Any m k e t (f e t h) (λ a e' t' h'. n e' t' h')

  on_step : (b : Bool) → Step (gives (answers b))
  unfolding runs
  on_step b e t h = h

  goes_step : Step goes_on
  unfolding goes_on
  goes_step = on_step true

  look-on-step : Step look_on
  unfolding look_on
  look-on-step = part-and go_ahead _ (ahead-part g c) (part-and (line_or n21) _ (line-part g c n21) (on_step false))

  look-back-step : Step look_back
  unfolding look_back
  look-back-step = part-and (go back) _ (back-part g c) (on_step false)

  looked : (isWord : ℕ → Bool) (n : Stop) (se : Search) (m k : Program Did) → Step m → Step k → Step (◌>>=◌ (line_or n) (λ x. either (holds isWord se x.1 x.0) m k))
  looked isWord n se m k f i = part_then (line_or n) _ (line-part g c n) (λ x e t h. either-comes g c Done Any (holds isWord se x.1 x.0) m k e t (f e t h) (i e t h))

  put_step : (ls : List Line) → Step (gives (changes (put ls ∷ [])))
  unfolding runs edits
  put_step ls e t h = put_in ls e (point-in e t h)

  strike-back-step : (k : ℕ) → Step (gives (changes (strike_back k ∷ [])))
  unfolding runs edits
  strike-back-step k e t h = strike-back-in k e (point-in e t h)

  strike-step : (k : ℕ) → Step (gives (changes (strike k ∷ [])))
  unfolding runs edits
  strike-step k e t h = strike-in k e

  replace-step : (ls : List Line) (k : ℕ) → Step (gives (changes (strike k ∷ put ls ∷ [])))
  unfolding runs edits
  replace-step ls k e t h = put_in ls (edit (strike k) e) (strike-in k e)

  -- ---- where a line is current

  module _ (b : List Record) (r : Record) (a : List Record) (p : ℕ) (t : Tape) (h : PointAt (ed b (r ∷ a) p) t) where
    point-step : (q : ℕ) → q ≤ length (current r) → ComesTo g c Done Any (◌>>◌ (go (point_to q)) goes_on) (ed b (r ∷ a) p) t
    point-step q l = and-comes g c Keeps Done Any (go (point_to q)) goes_on (ed b (r ∷ a) p) t (go-at g c (point_to q) (ed b (r ∷ a) p) t l h) (λ u e' t' h'. goes_step e' t' h')

    write_step : (l : Line) (q : ℕ) → q ≤ length l → ComesTo g c Done Any (write l q) (ed b (r ∷ a) p) t
    unfolding write
    write_step l q i =
        test-comes g c Done Any n25 _ (gives (changes (retext l q ∷ []))) (ed b (r ∷ a) p) t (λ x. tt) (λ x. unfold runs edits edit in (rw (rewrite-text r l h.0) i))

    cut_step : (k : ℕ) → ComesTo g c Done Any (cut_after (current r) k) (ed b (r ∷ a) p) t
    unfolding cut_after runs edits edit
    cut_step k = omega arith

    some-step : (o : Option Match) (k : Match → Program Did) → ((m : Match) → o ≡ some m → ComesTo g c Done Any (k m) (ed b (r ∷ a) p) t) → ComesTo g c Done Any (◌>>=◌ (or_stop n24 o) k) (ed b (r ∷ a) p) t
    unfolding or_stop ◌>>=◌ runs
    some-step none k f = tt
    some-step (some m) k f = f m refl

    match-step : (isWord : ℕ → Bool) (q : Qualified) (k : Match → Program Did) → ((m : Match) → MatchIn p (current r) m → ComesTo g c Done Any (k m) (ed b (r ∷ a) p) t)
        → ComesTo g c Done Any (◌>>=◌ (match_or24 isWord q (current r) p) k) (ed b (r ∷ a) p) t
    unfolding match_or24
    match-step isWord q k f = some-step (match_of isWord q p (current r)) k (λ m is. f m (match-inside isWord q p (current r) m h.1 is))

  -- CL: the joined text is no shorter than the current line was
  joined_step : (l : Line) (q : ℕ) → q ≤ length l → Step (write_joined l q)
  unfolding write_joined
  joined_step l q i e t h = test-comes g c Done Any n25 _ (gives (changes (retext l q ∷ strike_next ∷ []))) e t (λ x. tt) (λ x. by e h)
    where
      by : (e : Ed) → PointAt e t → ComesTo g c Done Any (gives (changes (retext l q ∷ strike_next ∷ []))) e t
      by (ed b [] p) h = unfold runs edits edit in tt
      by (ed b (r ∷ a) p) h = unfold runs edits edit in (rw (rewrite-text r l h.0) i)

  start-step : Step (◌>>◌ (line_or n20) (◌>>◌ (go (point_to 0)) goes_on))
  unfolding ◌>>◌
  start-step (ed b [] p) t h = line-comes g c Done Any n20 (λ x. ◌>>◌ (go (point_to 0)) goes_on) (ed b [] p) t tt
  start-step (ed b (r ∷ a) p) t h = line-comes g c Done Any n20 (λ x. ◌>>◌ (go (point_to 0)) goes_on) (ed b (r ∷ a) p) t (point-step b r a p t h 0 (omega arith))

  -- ---- every command

  program-in : (isWord : ℕ → Bool) (op : Op) → Step (program isWord op)
  unfolding program
  program-in isWord Op.only_step e t h = goes_step e t h
  program-in isWord Op.quit e t h = unfold runs in tt
  program-in isWord (Op.test x) e t h = part_then _ _ (see-part g c _) (λ b. on_step b) e t h
  program-in isWord Op.begin e t h = part-and (line_or n21) _ (line-part g c n21) goes_step e t h
  program-in isWord Op.begin_back e t h =
      part_then (see is_at_eof) _ (see-part g c is_at_eof)
      (λ x. part-and (either x (go back) (gives tt)) goes_on (λ e t h. either-comes g c Keeps Any x (go back) (gives tt) e t (back-part g c e t h) (gives_part g c tt e t h)) goes_step) e t h
  program-in isWord (Op.find se) e t h = looked isWord n21 se _ _ goes_step look-on-step e t h
  program-in isWord (Op.find_back se) e t h = looked isWord n22 se _ _ goes_step look-back-step e t h
  program-in isWord (Op.find_delete se k) e t h = looked isWord n21 se _ _ (strike-back-step k) look-on-step e t h
  program-in isWord (Op.move a) e t h = part-and (go_to a) _ (to_part g c a) goes_step e t h
  program-in isWord Op.next_line e t h = part-and (line_or n20) _ (line-part g c n20) (part-and go_ahead _ (ahead-part g c) goes_step) e t h
  program-in isWord Op.previous_line e t h = part-and (go back) _ (back-part g c) goes_step e t h
  program-in isWord (Op.delete a b) e t h = part_then (span a b) _ (span-part g c a b) strike-step e t h
  program-in isWord (Op.replace a b ls) e t h = part_then (span a b) _ (span-part g c a b) (replace-step ls) e t h
  program-in isWord (Op.insert none ls) e t h = put_step ls e t h
  program-in isWord (Op.insert (some a) ls) e t h = part-and (go_to a) _ (to_part g c a) (put_step ls) e t h
  program-in isWord Op.copy e t h = part_then (line_or n20) _ (line-part g c n20) (λ x. put_step (x.0 ∷ [])) e t h
  program-in isWord (Op.alter d pointing q new) (ed b [] p) t h = line-comes g c Done Any n20 _ (ed b [] p) t tt
  program-in isWord (Op.alter d pointing q new) (ed b (r ∷ a) p) t h =
      line-comes g c Done Any n20 _ (ed b (r ∷ a) p) t
      (match-step b r a p t h isWord q _ (λ m x. write_step b r a p t h _ _ (altered-in d pointing (current r) p m.place m.width new x.0 x.1)))
  program-in isWord (Op.split after q) (ed b [] p) t h = line-comes g c Done Any n20 _ (ed b [] p) t tt
  program-in isWord (Op.split after q) (ed b (r ∷ a) p) t h =
      line-comes g c Done Any n20 _ (ed b (r ∷ a) p) t (match-step b r a p t h isWord q _ (λ m x. cut_step b r a p t h _))
  program-in isWord (Op.join s) (ed b [] p) t h = line-comes g c Done Any n20 _ (ed b [] p) t tt
  program-in isWord (Op.join s) (ed b (r ∷ a) p) t h =
      line-comes g c Done Any n20 _ (ed b (r ∷ a) p) t
      (part_then next_or30 _ (next-part g c) (λ m. joined_step (current r ++ (s ++ m)) p (omega (arith, length-append (current r) (s ++ m), h.1))) (ed b (r ∷ a) p) t h)
  program-in isWord (Op.add_global d s new) e t h = unfold runs in h
  program-in isWord Op.cancel_globals e t h = unfold runs in h
  program-in isWord (Op.name_words xs) e t h = unfold runs in h
  program-in isWord (Op.point after q) (ed b [] p) t h = line-comes g c Done Any n20 _ (ed b [] p) t tt
  program-in isWord (Op.point after q) (ed b (r ∷ a) p) t h =
      line-comes g c Done Any n20 _ (ed b (r ∷ a) p) t
      (match-step b r a p t h isWord q _ (λ m x. point-step b r a p t h _ (point-by-in after m.place m.width (length (current r)) x.1)))
  program-in isWord Op.point_start e t h = start-step e t h
  program-in isWord Op.right (ed b [] p) t h = byte-comes g c Done Any _ (ed b [] p) t tt tt
  program-in isWord Op.right (ed b (r ∷ a) p) t h = byte-comes g c Done Any _ (ed b (r ∷ a) p) t tt (λ x. point-step b r a p t h (suc p) (leb-false (length (current r)) p x))
  program-in isWord Op.left (ed b [] p) t h = line-comes g c Done Any n20 _ (ed b [] p) t tt
  program-in isWord Op.left (ed b (r ∷ a) p) t h =
      line-comes g c Done Any n20 _ (ed b (r ∷ a) p) t
      (test-comes g c Done Any n27 (eqb p 0) _ (ed b (r ∷ a) p) t (λ x. tt) (λ x. point-step b r a p t h (p - 1) (omega (arith, h.1))))
  program-in isWord Op.cut_byte (ed b [] p) t h = byte-comes g c Done Any _ (ed b [] p) t tt tt
  program-in isWord Op.cut_byte (ed b (r ∷ a) p) t h =
      byte-comes g c Done Any _ (ed b (r ∷ a) p) t tt
      (λ x. let l : p < length (current r) = leb-false (length (current r)) p x in
      write_step b r a p t h (splice (current r) p 1 []) p (omega (arith, splice-length (current r) p 1 [] (omega arith))))
  program-in isWord (Op.recase up) (ed b [] p) t h = byte-comes g c Done Any _ (ed b [] p) t tt tt
  program-in isWord (Op.recase up) (ed b (r ∷ a) p) t h =
      byte-comes g c Done Any _ (ed b (r ∷ a) p) t tt
      (λ x. write_step b r a p t h (recased up (current r) p) (suc p) (recased-in up (current r) p (leb-false (length (current r)) p x)))

-- THE LAW: every step keeps p within the current line
pub keeps-point : (g : Given) (op : Op) (e : Ed) (c : Carried) (t : Tape) → GroundedAt (after_of e) t → PointIn e → PointOut (step g op (state e c) t).0
unfolding step words_in perform bind
keeps-point g op e c t k h = finish-in g c (runs g c (program (words_of c) op) e t).0 (runs g c (program (words_of c) op) e t).1 (program-in g c (words_of c) op e t (point_at e t k h))
