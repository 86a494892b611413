-- The changes of which every step is made: the current place moves by one record, a record is erased, a line's text is replaced, a line is
-- inserted, a line is read, and passed through the standing globals. What these keep, every program keeps that writes what it may. No command is named here.
use Rattle.std.specs.Prelude.{◌≡◌, refl, Bool, false}
use mathlib.Core.List.{List, [], ◌∷◌, ◌++◌, reverse_aux, append-nil}
use Prim.Native.Nat.{ℕ, zero, suc, ◌-◌}
use Rattle.definitions.specs.Bytes.{Line, eq_line}
use Rattle.definitions.specs.Journal.{Record, kept, changed, deleted, inserted, change, rewrite, erase}
use Rattle.definitions.specs.Tape.{Tape, unread, ended, bind}
use Rattle.definitions.specs.WordSet.{Named}
use Rattle.definitions.specs.Given.{Given, Global, Carried, carried, no_globals, words_of, with_words, without_globals}
use Rattle.definitions.specs.Globals.{passed_through, left_by}
use Rattle.definitions.specs.Editor.{Ed, ed, records, current, Got, got, Target, here, line, eof, Move, ahead, to, point_to, land, go_back, locate, moved}
use Rattle.definitions.specs.Editor.{Edit, strike, strike_back, strike_next, put, retext, struck, struck_back, struck_next, put_before, edit, edits}
use Rattle.definitions.specs.Reading.{Ran, gave, stopped, seen, read_line, read_to, opening}
use Rattle.definitions.specs.StepProgram.{Program, ◌>>=◌, ◌>>◌, runs, RunState, state, words_in, Did, answers, changes, quits, adds, cancels, names, Out, one_more, finish, perform}
use Rattle.definitions.specs.Edit.{Op, program, step}
use Rattle.definitions.specs.Control.{Item}
use Rattle.definitions.specs.Run.{run_items}
use Rattle.theorems.specs.Reading.{At}
use Rattle.theorems.specs.Each.{Each, each_all, each_append}
use Rattle.theorems.specs.ComesTo.{Ended, Keeping, OnGot, ComesTo, then-comes, and-comes, to-keeps, runs-keep, within-comes, one-comes}
use Rattle.theorems.specs.Passing.{CarriedOf, line-comes-to}
use Rattle.theorems.specs.Runs.{Inner, AfterStep, AtEnd, ItemsOf, run_items-keeps}

-- a statement on the records before the current one, nearest first, the records from it on, and the tape
abbrev pub Statement : Type 1
Statement = List Record → List Record → Tape → Type 0

-- The changes keep it: `L` are the lines that may be inserted, `R old new` the texts that may be put in place of the current line's, `G` the globals
-- that may stand.
pub record Closed (L : Line → Type 0) (R : Line → Line → Type 0) (G : Global → Type 0) (K : Statement) : Type 0 where
  -- to the next record and back
  pub over : (before : List Record) (r : Record) (after : List Record) (t : Tape) → K before (r ∷ after) t → K (r ∷ before) after t
  pub back : (before : List Record) (r : Record) (after : List Record) (t : Tape) → K (r ∷ before) after t → K before (r ∷ after) t
  -- the current record is erased; its line gets a text
  pub erases : (before : List Record) (r : Record) (after : List Record) (t : Tape) → K before (r ∷ after) t → K (erase r ++ before) after t
  pub rewrites : (before : List Record) (r : Record) (after : List Record) (t : Tape) (l : Line) → R (current r) l → K before (r ∷ after) t → K before (rewrite r l ∷ after) t
  -- a line is inserted
  pub inserts : (before after : List Record) (t : Tape) (l : Line) → L l → K before after t → K (inserted l ∷ before) after t
  -- a line is read, or EOF
  pub reads : (before after : List Record) (l : Line) (ls : List Line) → K before after (unread (l ∷ ls)) → K before (after ++ (kept l ∷ [])) (unread ls)
  pub ends : (before after : List Record) → K before after (unread []) → K before after ended
  -- what the globals make of a line may be put in its place
  pub passes : (gs : List Global) (l new : Line) → Each G gs → passed_through gs l ≡ got new → R l new

-- the statement of a text
abbrev pub HoldsEd : Statement → Ed → Tape → Type 0
HoldsEd K (ed before after p) t = K before after t

-- the statement of a run's state, and after a step
module _ (G : Global → Type 0) (K : Statement) where
  abbrev pub HoldsState : RunState → Tape → Type 0
  HoldsState (state e c) t = HoldsEd K e t × CarriedOf G c

  abbrev pub HoldsOut : Out → Tape → Type 0
  HoldsOut o t = AfterStep HoldsState o t

-- ---- what a program may write

module _ (L : Line → Type 0) (R : Line → Line → Type 0) where
  abbrev pub MayEdit : Edit → Ed → Type 0
  MayEdit (strike k) e = Unit {0}
  MayEdit (strike_back k) e = Unit {0}
  MayEdit strike_next e = Unit {0}
  MayEdit (put ls) e = Each L ls
  MayEdit (retext l q) (ed before [] p) = Unit {0}
  MayEdit (retext l q) (ed before (r ∷ after) p) = R (current r) l

  abbrev pub MayEdits : List Edit → Ed → Type 0
  MayEdits [] e = Unit {0}
  MayEdits (x ∷ xs) e = MayEdit x e × MayEdits xs (edit x e)

module _ (L : Line → Type 0) (R : Line → Line → Type 0) (G : Global → Type 0) where
  abbrev pub MayDo : Did → Ed → Type 0
  MayDo (answers b) e = Unit {0}
  MayDo (changes xs) e = MayEdits L R xs e
  MayDo quits e = Unit {0}
  MayDo (adds x) e = G x
  MayDo cancels e = Unit {0}
  MayDo (names xs) e = Unit {0}

  -- where every line, text and global is allowed, so is every change
  module _ (lines : (l : Line) → L l) (texts : (old new : Line) → R old new) (globals : (x : Global) → G x) where
    edit-any : (x : Edit) (e : Ed) → MayEdit L R x e
    edit-any (strike k) e = tt
    edit-any (strike_back k) e = tt
    edit-any strike_next e = tt
    edit-any (put ls) e = each_all L lines ls
    edit-any (retext l q) (ed before [] p) = tt
    edit-any (retext l q) (ed before (r ∷ after) p) = texts (current r) l

    edits-any : (xs : List Edit) (e : Ed) → MayEdits L R xs e
    edits-any [] e = tt
    edits-any (x ∷ xs) e = (edit-any x e, edits-any xs (edit x e))

    did-any : (d : Did) (e : Ed) → MayDo d e
    did-any (answers b) e = tt
    did-any (changes xs) e = edits-any xs e
    did-any quits e = tt
    did-any (adds x) e = globals x
    did-any cancels e = tt
    did-any (names xs) e = tt

  module _ (K : Statement) where
    -- the statement holds where the program ends, and it may do what it does
    abbrev pub DoesWell : Did → Ed → Tape → Type 0
    DoesWell d e t = MayDo d e × HoldsEd K e t

    -- wherever the statement holds, the program comes to that, or stops where it holds
    abbrev pub Keeps : Program Did → Type 0
    Keeps m = (g : Given) (c : Carried) (e : Ed) (t : Tape) → CarriedOf G c → HoldsEd K e t → ComesTo g c DoesWell (λ n. HoldsEd K) m e t

-- what holds of a step's program, whichever bytes count for W
abbrev pub AsAnyWord : (Program Did → Type 0) → Op → Type 0
AsAnyWord P op = (isWord : ℕ → Bool) → P (program isWord op)

-- a changed record, where the two lines differ
rewrite-kept : (l new : Line) → eq_line l new ≡ false → rewrite (kept l) new ≡ changed l new
unfolding rewrite change
rewrite-kept l new d = rw d refl

module _ (L : Line → Type 0) (R : Line → Line → Type 0) (G : Global → Type 0) (K : Statement) (closed : Closed L R G K) where
  -- ---- moves

  module _ (t : Tape) where
    abbrev HoldsGot : Got Ed → Type 0
    HoldsGot x = OnGot (λ e. HoldsEd K e t) (λ n. Unit {0}) x

    -- back over records, which then stand after the others
    backward : (before after passed : List Record) → K (reverse_aux passed before) after t → K before (passed ++ after) t
    backward before after [] h = h
    backward before after (r ∷ passed) h = closed.back before r (passed ++ after) t (backward (r ∷ before) after passed h)

    -- back to the first record, and on to the end
    rewind : (before after : List Record) → K before after t → K [] (reverse_aux before after) t
    rewind [] after h = h
    rewind (r ∷ before) after h = rewind before (r ∷ after) (closed.back before r after t h)

    forward : (before after passed : List Record) → K before (passed ++ after) t → K (reverse_aux passed before) after t
    forward before after [] h = h
    forward before after (r ∷ passed) h = forward (r ∷ before) after passed (closed.over before r (passed ++ after) t h)

    land-keeps : (before rs : List Record) → K before rs t → HoldsEd K (land before rs) t
    unfolding land
    land-keeps before [] h = h
    land-keeps before (kept l ∷ rs) h = h
    land-keeps before (changed o n ∷ rs) h = h
    land-keeps before (deleted l ∷ rs) h = land-keeps (deleted l ∷ before) rs (closed.over before (deleted l) rs t h)
    land-keeps before (inserted l ∷ rs) h = h

    go_back-keeps : (before after : List Record) → K before after t → HoldsGot (go_back before after)
    unfolding go_back
    go_back-keeps [] after h = tt
    go_back-keeps (kept l ∷ before) after h = closed.back before (kept l) after t h
    go_back-keeps (changed o n ∷ before) after h = closed.back before (changed o n) after t h
    go_back-keeps (deleted l ∷ before) after h = go_back-keeps before (deleted l ∷ after) (closed.back before (deleted l) after t h)
    go_back-keeps (inserted l ∷ before) after h = closed.back before (inserted l) after t h

    locate-keeps : (k : ℕ) (before rs : List Record) → K before rs t → HoldsGot (locate k before rs)
    unfolding locate
    locate-keeps k before [] h = tt
    locate-keeps k before (inserted l ∷ rs) h = locate-keeps k (inserted l ∷ before) rs (closed.over before (inserted l) rs t h)
    locate-keeps zero before (kept l ∷ rs) h = h
    locate-keeps zero before (changed o n ∷ rs) h = h
    locate-keeps zero before (deleted l ∷ rs) h = tt
    locate-keeps (suc k) before (kept l ∷ rs) h = locate-keeps k (kept l ∷ before) rs (closed.over before (kept l) rs t h)
    locate-keeps (suc k) before (changed o n ∷ rs) h = locate-keeps k (changed o n ∷ before) rs (closed.over before (changed o n) rs t h)
    locate-keeps (suc k) before (deleted l ∷ rs) h = locate-keeps k (deleted l ∷ before) rs (closed.over before (deleted l) rs t h)

    move-keeps : (x : Move) (e : Ed) → HoldsEd K e t → HoldsGot (moved x e)
    unfolding moved records
    move-keeps ahead (ed before [] p) h = h
    move-keeps ahead (ed before (r ∷ after) p) h = land-keeps (r ∷ before) after (closed.over before r after t h)
    move-keeps Move.back (ed before after p) h = go_back-keeps before after h
    move-keeps (to here) (ed before after p) h = h
    move-keeps (to (line a)) (ed before after p) h = locate-keeps (a - 1) [] (reverse_aux before after) (rewind before after h)
    move-keeps (to eof) (ed before after p) h = forward before [] after (rw append-nil h)
    move-keeps (point_to q) (ed before after p) h = h

    -- ---- changes of records

    struck-keeps : (k : ℕ) (before rs : List Record) → K before rs t → HoldsEd K (struck k before rs) t
    unfolding struck
    struck-keeps zero before rs h = land-keeps before rs h
    struck-keeps (suc k) before [] h = h
    struck-keeps (suc k) before (r ∷ rs) h = struck-keeps k (erase r ++ before) rs (closed.erases before r rs t h)

    -- one record back, which is then erased
    erases-back : (before : List Record) (r : Record) (after : List Record) → K (r ∷ before) after t → K (erase r ++ before) after t
    erases-back before r after h = closed.erases before r after t (closed.back before r after t h)

    -- the records that are passed stand between those before and the current one
    struck_back-keeps : (k : ℕ) (before passed after : List Record) → K before (passed ++ after) t → K (struck_back k before passed) after t
    unfolding struck_back erase
    struck_back-keeps zero before passed after h = forward before after passed h
    struck_back-keeps (suc k) [] passed after h = forward [] after passed h
    struck_back-keeps (suc k) (kept l ∷ before) passed after h =
        struck_back-keeps k before (deleted l ∷ passed) after (closed.back before (deleted l) (passed ++ after) t (erases-back before (kept l) (passed ++ after) h))
    struck_back-keeps (suc k) (changed o n ∷ before) passed after h =
        struck_back-keeps k before (deleted o ∷ passed) after (closed.back before (deleted o) (passed ++ after) t (erases-back before (changed o n) (passed ++ after) h))
    struck_back-keeps (suc k) (deleted l ∷ before) passed after h =
        struck_back-keeps (suc k) before (deleted l ∷ passed) after (closed.back before (deleted l) (passed ++ after) t h)
    struck_back-keeps (suc k) (inserted l ∷ before) passed after h = struck_back-keeps k before passed after (erases-back before (inserted l) (passed ++ after) h)

    -- one record on, which stands before the current one until the others are done
    struck_next-keeps : (before rs : List Record) → K before rs t → K before (struck_next rs) t
    unfolding struck_next erase
    struck_next-keeps before [] h = h
    struck_next-keeps before (kept l ∷ rs) h = closed.back before (deleted l) rs t (closed.erases before (kept l) rs t h)
    struck_next-keeps before (changed o n ∷ rs) h = closed.back before (deleted o) rs t (closed.erases before (changed o n) rs t h)
    struck_next-keeps before (deleted l ∷ rs) h =
        closed.back before (deleted l) (struck_next rs) t (struck_next-keeps (deleted l ∷ before) rs (closed.over before (deleted l) rs t h))
    struck_next-keeps before (inserted l ∷ rs) h = closed.erases before (inserted l) rs t h

    put_before-keeps : (ls : List Line) (before after : List Record) → Each L ls → K before after t → K (put_before ls before) after t
    unfolding put_before
    put_before-keeps [] before after k h = h
    put_before-keeps (l ∷ ls) before after k h = put_before-keeps ls (inserted l ∷ before) after k.1 (closed.inserts before after t l k.0 h)

    edit-keeps : (x : Edit) (e : Ed) → MayEdit L R x e → HoldsEd K e t → HoldsEd K (edit x e) t
    unfolding edit
    edit-keeps (strike k) (ed before after p) w h = struck-keeps k before after h
    edit-keeps (strike_back k) (ed before after p) w h = struck_back-keeps k before [] after h
    edit-keeps strike_next (ed before [] p) w h = h
    edit-keeps strike_next (ed before (r ∷ after) p) w h =
        closed.back before r (struck_next after) t (struck_next-keeps (r ∷ before) after (closed.over before r after t h))
    edit-keeps (put ls) (ed before after p) w h = put_before-keeps ls before after w h
    edit-keeps (retext l q) (ed before [] p) w h = h
    edit-keeps (retext l q) (ed before (r ∷ after) p) w h = closed.rewrites before r after t l w h

    edits-keep : (xs : List Edit) (e : Ed) → MayEdits L R xs e → HoldsEd K e t → HoldsEd K (edits xs e) t
    unfolding edits
    edits-keep [] e w h = h
    edits-keep (x ∷ xs) e w h = edits-keep xs (edit x e) w.1 (edit-keeps x e w.0 h)

  -- ---- reading

  module _ (g : Given) (c : Carried) (a : CarriedOf G c) where
    -- the line that was read last is changed
    changes-last : (before after : List Record) (l new : Line) (t : Tape) → R l new → eq_line l new ≡ false → K before (after ++ (kept l ∷ [])) t → K before (after ++ (changed l new ∷ [])) t
    unfolding current
    changes-last before after l new t r d h =
        backward t before (changed l new ∷ []) after
        (rw (rewrite-kept l new d) at (closed.rewrites (reverse_aux after before) (kept l) [] t new r (forward t before (kept l ∷ []) after h)))

    pass-allowed : (l new : Line) → left_by c l ≡ got new → R l new
    pass-allowed l new q = by c a q
      where
        by : (c : Carried) → CarriedOf G c → left_by c l ≡ got new → R l new
        by (carried gs xs) a q = closed.passes gs l new a (unfold left_by in q)

    line-keeps : (e : Ed) (t : Tape) → HoldsEd K e t → At (Keeping (HoldsEd K)) (read_line g c e t)
    line-keeps (ed before after p) (unread (l ∷ ls)) h =
        let k = closed.reads before after l ls h in
        line-comes-to (Keeping (HoldsEd K)) g c (ed before after p) l ls (unfold seen in k)
        (λ new q d r. unfold seen in (changes-last before after l new (unread ls) (pass-allowed l new q) d k)) (unfold seen in k) (unfold seen in k)
    line-keeps (ed before after p) (unread []) h = unfold read_line in (closed.ends before after h)
    line-keeps (ed before after p) ended h = unfold read_line in h

    -- up to a target
    pub reading-keeps : (x : Target) (e : Ed) (t : Tape) → HoldsEd K e t → At (Keeping (HoldsEd K)) (read_to g c x e t)
    reading-keeps x e t h = to-keeps g c (HoldsEd K) line-keeps x e t h

    -- ---- programs

    -- every program keeps it, up to its end
    pub program-keeps : {A : Type 0} (m : Program A) (e : Ed) (t : Tape) → HoldsEd K e t → ComesTo g c {A = A} (λ a. HoldsEd K) (λ n. HoldsEd K) m e t
    program-keeps m e t h = runs-keep g c (HoldsEd K) line-keeps (λ x e' t'. move-keeps t' x e') m e t h

  -- what reading the lines that are left keeps, at a run's end
  pub rest-keeps : (g : Given) (e : Ed) (c : Carried) (t : Tape) → HoldsState G K (state e c) t → At (Keeping (λ e' t'. HoldsState G K (state e' c) t')) (read_to g c eof e t)
  rest-keeps g e c t h = by (read_to g c eof e t).0 (read_to g c eof e t).1 (reading-keeps g c h.1 eof e t h.0)
    where
      by : (r : Ran (Unit {0})) (t' : Tape) → Keeping (HoldsEd K) r t' → Keeping (λ e' u. HoldsState G K (state e' c) u) r t'
      by (gave u e') t' k = (k, h.1)
      by (stopped n e') t' k = (k, h.1)

  -- whatever the first program gives
  pub then_keeps : {A : Type 0} (m : Program A) (k : A → Program Did) → ((a : A) → Keeps L R G K (k a)) → Keeps L R G K (◌>>=◌ m k)
  then_keeps m k f g c e t a h = then-comes g c (λ x. HoldsEd K) (DoesWell L R G K) (λ n. HoldsEd K) m k e t (program-keeps g c a m e t h) (λ x e' t'. f x g c e' t' a)

  pub and_keeps : {A : Type 0} (m : Program A) (k : Program Did) → Keeps L R G K k → Keeps L R G K (◌>>◌ m k)
  and_keeps m k f g c e t a h = and-comes g c (λ x. HoldsEd K) (DoesWell L R G K) (λ n. HoldsEd K) m k e t (program-keeps g c a m e t h) (λ x e' t'. f g c e' t' a)

  -- where every line, text and global is allowed, every program keeps it
  pub any-keeps : ((l : Line) → L l) → ((old new : Line) → R old new) → ((x : Global) → G x) → (m : Program Did) → Keeps L R G K m
  any-keeps lines texts globals m g c e t a h = by (runs g c m e t).0 (runs g c m e t).1 (program-keeps g c a m e t h)
    where
      by : (r : Ran Did) (t : Tape) → Keeping (HoldsEd K) r t → Ended (DoesWell L R G K) (λ n. HoldsEd K) r t
      by (gave d e) t h = (did-any L R G lines texts globals d e, h)
      by (stopped n e) t h = h

  -- ---- steps

  more-keeps : (c : Carried) (x : Global) (e : Ed) (t : Tape) → CarriedOf G c → G x → HoldsEd K e t → HoldsOut G K (one_more c x e) t
  more-keeps (carried gs xs) x e t a k h = one-comes (λ o. HoldsOut G K o t) gs xs x e (λ q. (h, each_append G gs (x ∷ []) a (k, tt))) (h, a)

  -- CG and WORD (document 02, wishes 2 and 8)
  none-carried : (c : Carried) → CarriedOf G (without_globals c)
  unfolding without_globals
  none-carried (carried gs xs) = tt

  same-carried : (c : Carried) (xs : List Named) → CarriedOf G c → CarriedOf G (with_words c xs)
  unfolding with_words
  same-carried (carried gs xs) ys a = a

  finish-keeps : (g : Given) (c : Carried) (r : Ran Did) (t : Tape) → CarriedOf G c → Ended (DoesWell L R G K) (λ n. HoldsEd K) r t → At (HoldsOut G K) (finish g c r t)
  unfolding finish
  finish-keeps g c (gave (answers b) e) t a h = (h.1, a)
  finish-keeps g c (gave (changes xs) e) t a h = within-comes (HoldsOut G K) g c e (edits xs e) t (λ x. (edits-keep t xs e h.0 h.1, a)) (h.1, a)
  finish-keeps g c (gave quits e) t a h = (h.1, a)
  finish-keeps g c (gave (adds x) e) t a h = more-keeps c x e t a h.0 h.1
  finish-keeps g c (gave cancels e) t a h = (h.1, none-carried c)
  finish-keeps g c (gave (names xs) e) t a h = (h.1, same-carried c xs a)
  finish-keeps g c (stopped n e) t a h = (h, a)

  -- what the changes keep, every step keeps
  pub step_keeps : (g : Given) (op : Op) (s : RunState) (t : Tape) → AsAnyWord (Keeps L R G K) op → HoldsState G K s t → At (HoldsOut G K) (step g op s t)
  unfolding step perform bind words_in
  step_keeps g op (state e c) t f h = finish-keeps g c (runs g c (program (words_of c) op) e t).0 (runs g c (program (words_of c) op) e t).1 h.1 (f (words_of c) g c e t h.1 h.0)

  pub opening-keeps : (t : Tape) → K [] [] t → At (HoldsEd K) (opening t)
  unfolding opening
  opening-keeps (unread (l ∷ ls)) h = closed.reads [] [] l ls h
  opening-keeps (unread []) h = closed.ends [] [] h
  opening-keeps ended h = h

  -- and so it holds at the end of every run of such steps, if it holds before the first line is read
  pub changes-keep : (g : Given) (budget : ℕ) (items : List Item) (t : Tape) → Inner (AsAnyWord (Keeps L R G K)) → ItemsOf (AsAnyWord (Keeps L R G K)) items
      → K [] [] t → At (AtEnd (HoldsState G K)) (run_items (step g) budget items t)
  changes-keep g budget items t inner h k =
      run_items-keeps (AsAnyWord (Keeps L R G K)) inner (HoldsState G K) (step g) (λ op s t'. step_keeps g op s t') budget items t h (unfold no_globals in (opening-keeps t k, tt))
