-- Every step of a script writes lines: what it inserts is a line, and so is the text that it puts in place of another. So records stay good.
use Rattle.std.specs.Prelude.{◌≡◌, refl, Bool, true, false, ◌&&◌, List, [], ◌∷◌, ◌++◌, ℕ, length, drop, leb, ltb}
use Rattle.std.proofs.lemmas.Bool.{false≢true}
use Rattle.std.proofs.Math.Option.{Option, none, some}
use Rattle.std.proofs.Common.{arith}
use borrow.Author.Tests.{leb-false, ltb-false}
use Rattle.definitions.specs.Bytes.{Line, all_text, all_lines, is_line}
use Rattle.definitions.specs.Journal.{Record, kept, changed, deleted, inserted, erase}
use Rattle.definitions.specs.Matching.{match_of}
use Rattle.definitions.specs.Search.{Search, holds}
use Rattle.definitions.specs.Tape.{Tape, rest_lines}
use Rattle.definitions.specs.Given.{Given, Carried}
use Rattle.definitions.specs.Editor.{Ed, ed, after_of, current, first_live, Stop, n20, n21, n22, n24, n25, n30, strike, strike_back, strike_next, put, retext, edit}
use Rattle.definitions.specs.StepProgram.{Program, gives, ◌>>=◌, ◌>>◌, runs, Did, answers, changes}
use Rattle.definitions.specs.Edit.{Op, only_step, quit, test, begin, begin_back, find, find_back, find_delete, move, next_line, previous_line, delete, replace, insert, copy, alter, split, join, add_global, cancel_globals, name_words, point, point_start, right, left, cut_byte, recase}
use Rattle.definitions.specs.Edit.{or_stop, either, see, goes_on, read_past, line_or, look_on, look_back, match_or24, byte_here, write, cut_after, next_or30, write_joined, span, program}
use Rattle.definitions.specs.Control.{Item}
use Rattle.theorems.specs.Each.{Each, each_append, each-drop}
use Rattle.theorems.specs.Lines.{and_right}
use Rattle.theorems.specs.ComesTo.{Gives, Stops, ComesTo, then-comes, and-comes, line-comes, byte-comes, test-comes, some-comes, either-comes}
use Rattle.theorems.specs.Runs.{Inner, ItemsOf}
use Rattle.theorems.specs.Changes.{Statement, Closed, HoldsEd, DoesWell, Keeps, AsAnyWord, program-keeps, then_keeps, and_keeps}
use Rattle.theorems.specs.JournalBytes.{IsLine, GoodRecord, line-text, line_of, all_lines_lem}
use Rattle.theorems.specs.GoodItems.{good_target, good_through, good_option, good_qualified, good_op}
use Rattle.theorems.specs.GoodLines.{splice-text, altered-text, recased-text, appended-text, taken-line, dropped_line, current-line, current-text, rewrite-good, erase-good}
use Rattle.theorems.specs.GoodGlobals.{GoodGlobal, GoodCarried, global-good, through-line}

-- ---- good records

abbrev pub GoodRecords : List Record → Type 0
GoodRecords rs = Each GoodRecord rs

-- the records are good, and the lines that are not read are lines
abbrev pub Good : Statement
Good before after t = GoodRecords before × GoodRecords after × Each IsLine (rest_lines t)

-- the text put in place of a line is a line
abbrev pub IsLineAfter : Line → Line → Type 0
IsLineAfter old new = IsLine old → IsLine new

pub good-closed : Closed IsLine IsLineAfter GoodGlobal Good
unfolding rest_lines
good-closed = record {
  over = λ before r after t h. ((h.1.0, h.0), h.1.1, h.2);
  back = λ before r after t h. (h.0.1, (h.0.0, h.1), h.2);
  erases = λ before r after t h. (each_append GoodRecord (erase r) before (erase-good r h.1.0) h.0, h.1.1, h.2);
  rewrites = λ before r after t l k h. (h.0, (rewrite-good r l h.1.0 (k (current-line r h.1.0)), h.1.1), h.2);
  inserts = λ before after t l k h. ((k, h.0), h.1, h.2);
  reads = λ before after l ls h. (h.0, each_append GoodRecord after (kept l ∷ []) h.1 (h.2.0, tt), h.2.1);
  ends = λ before after h. (h.0, h.1, tt);
  passes = through-line;
}

-- ---- parts of programs

-- a program that writes lines only
abbrev pub WritesLines : Program Did → Type 0
WritesLines m = Keeps IsLine IsLineAfter GoodGlobal Good m

abbrev WritesWell : Gives Did
WritesWell d e t = DoesWell IsLine IsLineAfter GoodGlobal Good d e t

abbrev StopsWell : Stops
StopsWell n e t = HoldsEd Good e t

-- the same, begun at `e`
abbrev From : Given → Carried → Program Did → Ed → Tape → Type 0
From g c m e t = ComesTo g c WritesWell StopsWell m e t

then_lines : {A : Type 0} (m : Program A) (k : A → Program Did) → ((a : A) → WritesLines (k a)) → WritesLines (◌>>=◌ m k)
then_lines m k f = then_keeps IsLine IsLineAfter GoodGlobal Good good-closed m k f

and-lines : {A : Type 0} (m : Program A) (k : Program Did) → WritesLines k → WritesLines (◌>>◌ m k)
and-lines m k f = and_keeps IsLine IsLineAfter GoodGlobal Good good-closed m k f

answer-lines : (b : Bool) → WritesLines (gives (answers b))
unfolding runs
answer-lines b g c e t a h = (tt, h)

goes_lines : WritesLines goes_on
unfolding goes_on
goes_lines = answer-lines true

put-lines : (ls : List Line) → Each IsLine ls → WritesLines (gives (changes (put ls ∷ [])))
unfolding runs
put-lines ls k g c e t a h = ((k, tt), h)

strike-lines : (k : ℕ) → WritesLines (gives (changes (strike k ∷ [])))
unfolding runs
strike-lines k g c e t a h = ((tt, tt), h)

strike_back-lines : (k : ℕ) → WritesLines (gives (changes (strike_back k ∷ [])))
unfolding runs
strike_back-lines k g c e t a h = ((tt, tt), h)

replace-lines : (k : ℕ) (ls : List Line) → Each IsLine ls → WritesLines (gives (changes (strike k ∷ put ls ∷ [])))
unfolding runs
replace-lines k ls l g c e t a h = ((tt, (l, tt)), h)

either-lines : (b : Bool) (m k : Program Did) → WritesLines m → WritesLines k → WritesLines (either b m k)
either-lines b m k f i g c e t a h = either-comes g c WritesWell StopsWell b m k e t (f g c e t a h) (i g c e t a h)

-- with the current line
line-lines : (n : Stop) (k : Line × ℕ → Program Did)
    → ((g : Given) (c : Carried) (before : List Record) (r : Record) (after : List Record) (p : ℕ) (t : Tape) → GoodCarried c → Good before (r ∷ after) t
    → From g c (k (current r, p)) (ed before (r ∷ after) p) t)
    → WritesLines (◌>>=◌ (line_or n) k)
line-lines n k f g c (ed before [] p) t a h = line-comes g c WritesWell StopsWell n k (ed before [] p) t h
line-lines n k f g c (ed before (r ∷ after) p) t a h = line-comes g c WritesWell StopsWell n k (ed before (r ∷ after) p) t (f g c before r after p t a h)

-- with a byte at p
byte-lines : (k : Line × ℕ → Program Did)
    → ((g : Given) (c : Carried) (before : List Record) (r : Record) (after : List Record) (p : ℕ) (t : Tape) → leb (length (current r)) p ≡ false → Good before (r ∷ after) t
    → From g c (k (current r, p)) (ed before (r ∷ after) p) t)
    → WritesLines (◌>>=◌ byte_here k)
byte-lines k f g c (ed before [] p) t a h = byte-comes g c WritesWell StopsWell k (ed before [] p) t h h
byte-lines k f g c (ed before (r ∷ after) p) t a h =
    byte-comes g c WritesWell StopsWell k (ed before (r ∷ after) p) t h (λ x. f g c before r after p t x h)

-- the text `l` is written, if it is not over 255
write-lines : (g : Given) (c : Carried) (before : List Record) (r : Record) (after : List Record) (p : ℕ) (t : Tape) (l : Line) (q : ℕ) → (all_text (current r) ≡ true → all_text l ≡ true)
    → Good before (r ∷ after) t → From g c (write l q) (ed before (r ∷ after) p) t
unfolding write
write-lines g c before r after p t l q k h =
    test-comes g c WritesWell StopsWell n25 (ltb 255 (length l)) (gives (changes (retext l q ∷ []))) (ed before (r ∷ after) p) t (λ x. h)
    (λ x. unfold runs in ((λ o. line_of l (k (line-text (current r) o)) (omega (arith, ltb-false 255 (length l) x)), tt), h))

-- a line that is cut: its parts are lines
cut-lines : (g : Given) (c : Carried) (before : List Record) (r : Record) (after : List Record) (p : ℕ) (t : Tape) (k : ℕ) → Good before (r ∷ after) t
    → From g c (cut_after (current r) k) (ed before (r ∷ after) p) t
unfolding cut_after runs edit
cut-lines g c before r after p t k h =
    let l = current-line r h.1.0 in
    (((taken-line k (current r) l, tt), ((λ o. dropped_line k (current r) l), tt)), h)

-- the next live line's text, if there is one
abbrev NextText : Option Line → Type 0
NextText none = Unit {0}
NextText (some l) = all_text l ≡ true

first-text : (rs : List Record) → GoodRecords rs → NextText (first_live rs)
unfolding first_live
first-text [] h = tt
first-text (kept l ∷ rs) h = line-text l h.0
first-text (changed o n ∷ rs) h = line-text n h.0.1
first-text (deleted l ∷ rs) h = first-text rs h.1
first-text (inserted l ∷ rs) h = line-text l h.0

-- a text is given, and the records are good
abbrev GivesText : Gives Line
GivesText l e t = (all_text l ≡ true) × HoldsEd Good e t

or-text : (g : Given) (c : Carried) (o : Option Line) (e : Ed) (t : Tape) → NextText o → HoldsEd Good e t → ComesTo g c GivesText StopsWell (or_stop n30 o) e t
unfolding or_stop runs
or-text g c none e t k h = h
or-text g c (some l) e t k h = (k, h)

next-text : (g : Given) (c : Carried) (e : Ed) (t : Tape) → GoodCarried c → HoldsEd Good e t → ComesTo g c GivesText StopsWell next_or30 e t
unfolding next_or30
next-text g c e t a h =
    and-comes g c (λ u. HoldsEd Good) GivesText StopsWell (read_past 1) _ e t (program-keeps IsLine IsLineAfter GoodGlobal Good good-closed g c a (read_past 1) e t h) (λ u. by)
  where
    by : (e : Ed) (t : Tape) → HoldsEd Good e t → ComesTo g c GivesText StopsWell (◌>>=◌ (see after_of) (λ rs. or_stop n30 (first_live (drop 1 rs)))) e t
    by (ed before after p) t h = unfold see after_of ◌>>=◌ runs in (or-text g c (first_live (drop 1 after)) (ed before after p) t (first-text (drop 1 after) (each-drop GoodRecord 1 after h.1)) h)

-- the joined text is written, and the next line is struck
joined-lines : (g : Given) (c : Carried) (e : Ed) (t : Tape) (l : Line) (q : ℕ) → all_text l ≡ true → HoldsEd Good e t → From g c (write_joined l q) e t
unfolding write_joined
joined-lines g c e t l q k h =
    test-comes g c WritesWell StopsWell n25 (ltb 255 (length l)) _ e t (λ x. h) (λ x. by e h (line_of l k (omega (arith, ltb-false 255 (length l) x))))
  where
    by : (e : Ed) → HoldsEd Good e t → IsLine l → From g c (gives (changes (retext l q ∷ strike_next ∷ []))) e t
    by (ed before [] p) h i = unfold runs in ((tt, (tt, tt)), h)
    by (ed before (r ∷ after) p) h i = unfold runs in (((λ o. i), (tt, tt)), h)

look_on-lines : WritesLines look_on
unfolding look_on
look_on-lines = and-lines _ _ (and-lines (line_or n21) _ (answer-lines false))

look_back-lines : WritesLines look_back
unfolding look_back
look_back-lines = and-lines _ _ (answer-lines false)

-- ---- the steps of searches, tests and rounds

find-lines : (n : Stop) (isWord : ℕ → Bool) (se : Search) (m k : Program Did) → WritesLines m → WritesLines k
    → WritesLines (◌>>=◌ (line_or n) (λ x. either (holds isWord se x.1 x.0) m k))
find-lines n isWord se m k f i = then_lines (line_or n) _ (λ x. either-lines (holds isWord se x.1 x.0) m k f i)

pub inner-lines : Inner (AsAnyWord WritesLines)
unfolding program
inner-lines = record {
  rounds = λ isWord. goes_lines;
  tests = λ x isWord. then_lines _ _ (λ b. answer-lines b);
  begins = λ isWord. and-lines _ _ goes_lines;
  begins_back = λ isWord. then_lines _ _ (λ b. and-lines _ _ goes_lines);
  finds = λ se isWord. find-lines n21 isWord se _ _ goes_lines look_on-lines;
  finds_back = λ se isWord. find-lines n22 isWord se _ _ goes_lines look_back-lines;
  finds_delete = λ se k isWord. find-lines n21 isWord se _ _ (strike_back-lines k) look_on-lines;
}

-- ---- the commands

-- the items of a script: each command that they ask for is within document 01's bounds
abbrev pub GoodItems : List Item → Type 0
GoodItems items = ItemsOf (λ op. good_op op ≡ true) items

pub good-lines : (op : Op) → good_op op ≡ true → AsAnyWord WritesLines op
unfolding good_op program
good-lines only_step h isWord = absurd (false≢true h)
good-lines quit h isWord = unfold runs in (λ g c e t a k. (tt, k))
good-lines (test x) h isWord = absurd (false≢true h)
good-lines begin h isWord = absurd (false≢true h)
good-lines begin_back h isWord = absurd (false≢true h)
good-lines (find se) h isWord = absurd (false≢true h)
good-lines (find_back se) h isWord = absurd (false≢true h)
good-lines (find_delete se k) h isWord = absurd (false≢true h)
good-lines (move a) h isWord = and-lines _ _ goes_lines
good-lines next_line h isWord = and-lines _ _ (and-lines _ _ goes_lines)
good-lines previous_line h isWord = and-lines _ _ goes_lines
good-lines (delete a b) h isWord = then_lines (span a b) _ strike-lines
good-lines (replace a b ls) h isWord = then_lines (span a b) _ (λ k. replace-lines k ls (all_lines_lem ls (and_right (good_target a && good_through b) (all_lines ls) h)))
good-lines (insert none ls) h isWord = put-lines ls (all_lines_lem ls (and_right (good_option none) (all_lines ls) h))
good-lines (insert (some a) ls) h isWord = and-lines _ _ (put-lines ls (all_lines_lem ls (and_right (good_option (some a)) (all_lines ls) h)))
good-lines copy h isWord = line-lines n20 _ (λ g c before r after p t a k. put-lines (current r ∷ []) (current-line r k.1.0, tt) g c (ed before (r ∷ after) p) t a k)
good-lines (alter d pointing q new) h isWord =
    line-lines n20 _ (λ g c before r after p t a k. unfold match_or24 in
    (some-comes g c WritesWell StopsWell n24 (match_of isWord q p (current r)) _ (ed before (r ∷ after) p) t k
    (λ m. write-lines g c before r after p t _ _ (λ o. altered-text d (current r) m.place m.width new o (line-text new (and_right (good_qualified q) (is_line new) h))) k)))
good-lines (split after q) h isWord =
    line-lines n20 _ (λ g c before r after p t a k. unfold match_or24 in
    (some-comes g c WritesWell StopsWell n24 (match_of isWord q p (current r)) _ (ed before (r ∷ after) p) t k (λ m. cut-lines g c before r after p t _ k)))
good-lines (join s) h isWord =
    line-lines n20 _ (λ g c before r after p t a k.
    then-comes g c GivesText WritesWell StopsWell next_or30 _ (ed before (r ∷ after) p) t (next-text g c (ed before (r ∷ after) p) t a k) (λ m e' t' x.
    joined-lines g c e' t' _ p (appended-text (current r) (s ++ m) (current-text r k.1.0) (appended-text s m (line-text s h) x.0)) x.1))
good-lines (add_global d s new) h isWord = unfold runs in (λ g c e t a k. (global-good d s new (unfold good_op in h), k))
good-lines cancel_globals h isWord = unfold runs in (λ g c e t a k. (tt, k))
good-lines (name_words xs) h isWord = unfold runs in (λ g c e t a k. (tt, k))
good-lines (point b q) h isWord = then_lines (line_or n20) _ (λ x. then_lines (match_or24 isWord q x.0 x.1) _ (λ m. and-lines _ _ goes_lines))
good-lines point_start h isWord = and-lines _ _ (and-lines _ _ goes_lines)
good-lines right h isWord = then_lines byte_here _ (λ x. and-lines _ _ goes_lines)
good-lines left h isWord = then_lines (line_or n20) _ (λ x. and-lines _ _ (and-lines _ _ goes_lines))
good-lines cut_byte h isWord = byte-lines _ (λ g c before r after p t x k. write-lines g c before r after p t _ _ (λ o. splice-text (current r) p 1 [] o (unfold all_text in refl)) k)
good-lines (recase up) h isWord = byte-lines _ (λ g c before r after p t x k. write-lines g c before r after p t _ _ (recased-text up (current r) p (leb-false (length (current r)) p x)) k)
