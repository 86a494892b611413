-- What one step reads, tests and does, a program for each command (document 01, "Commands"; numbers 20 to 28 of "Who causes which number"; document 02, wish 1:
-- SA, SB, CL, number 30; wish 2: GE, GA, GB, CG, number 31; wish 8: WORD). The lines of a program stand in document 01's order of tests.
use Rattle.std.specs.Prelude.{Bool, true, false, not, List, [], ◌∷◌, ◌++◌, ℕ, zero, suc, ◌+◌, ◌-◌, length, take, drop, get_or, ltb, leb, eqb}
use Rattle.std.proofs.Math.Option.{Option, none, some}
use Rattle.definitions.specs.Bytes.{Line, upper, lower}
use Rattle.definitions.specs.Journal.{Record, kept, changed, deleted, inserted}
use Rattle.definitions.specs.Matching.{Qualified, Match, match_of}
use Rattle.definitions.specs.Search.{Search, holds, holds_at_eof}
use Rattle.definitions.specs.Tape.{Reads}
use Rattle.definitions.specs.WordSet.{Named}
use Rattle.definitions.specs.Given.{Given, Global, global}
use Rattle.definitions.specs.Editor.{Ed, ed, records, sources, before_of, after_of, current, has_live, first_live, Stop, n20, n21, n22, n23, n24, n25, n27, n28, n30}
use Rattle.definitions.specs.Editor.{Target, line, eof, Through, alone, up_to, to_eof, Move, ahead, back, to, point_to, strike, strike_back, strike_next, put, retext}
use Rattle.definitions.specs.StepProgram.{Program, gives, stops, looks, reads, moves, ◌>>=◌, ◌>>◌, RunState, words_in, Did, answers, changes, quits, adds, cancels, names, Out, perform}

-- A, B and E: insert after, before, or exchange
pub data Change : Type 0 where
  after_it before_it exchange : Change

-- the tests of IF and WH, of UL and UT, and of IFEOF
pub data Test : Type 0 where
  is is_not : Search → Test
  is_eof : Test

-- What one step asks of the editor. F, BF and DF take a step to begin and one for each line they test (R26); `find_delete se k`: DF has passed k lines.
pub data Op : Type 0 where
  -- nothing but the step is taken: a round of a count, RPT or bare group; AGP
  only_step : Op
  -- W
  quit : Op
  test : Test → Op
  begin begin_back : Op
  find find_back : Search → Op
  find_delete : Search → ℕ → Op
  -- M, N, P
  move : Target → Op
  next_line previous_line : Op
  -- D, R
  delete : Target → Through → Op
  replace : Target → Through → List Line → Op
  -- I and IS (none: where the current line is), IC
  insert : Option Target → List Line → Op
  copy : Op
  -- A, B, E; true: AP, BP, EP
  alter : Change → Bool → Qualified → Line → Op
  -- SA (true), SB; CL (document 02, wish 1)
  split : Bool → Qualified → Op
  join : Line → Op
  -- GA, GB, GE; CG (document 02, wish 2)
  add_global : Change → Line → Line → Op
  cancel_globals : Op
  -- WORD (document 02, wish 8)
  name_words : List Named → Op
  -- PA (true), PB; PR; > and <
  point : Bool → Qualified → Op
  point_start right left : Op
  -- #; % (true), $
  cut_byte : Op
  recase : Bool → Op

-- ---- parts of programs

-- a number where a test holds
unfoldable pub stop_if : Stop → Bool → Program (Unit {0})
stop_if n true = stops n
stop_if n false = gives tt

-- a number where there is no value
unfoldable pub or_stop : {A : Type 0} → Stop → Option A → Program A
or_stop n none = stops n
or_stop n (some a) = gives a

unfoldable pub either : {A : Type 0} → Bool → Program A → Program A → Program A
either true m k = m
either false m k = k

-- what the text as it stands tells
unfoldable pub see : {A : Type 0} → (Ed → A) → Program A
see f = looks (λ e. gives (f e))

unfoldable pub read_up_to : Target → Program (Unit {0})
read_up_to a = reads a (gives tt)

unfoldable pub go : Move → Program (Unit {0})
go x = moves x (gives tt)

-- the run goes on, no record changed
unfoldable pub goes_on : Program Did
goes_on = gives (answers true)

-- the next live line after the k records from the current one on is read, or EOF
unfoldable pub read_past : ℕ → Program (Unit {0})
read_past k = looks (λ e. either (has_live (drop k (after_of e))) (gives tt) (read_up_to (line (suc (sources (records e))))))

-- the next live line is read and becomes current, or EOF
unfoldable pub go_ahead : Program (Unit {0})
go_ahead = do
  read_past 1
  go ahead

-- `M a`
unfoldable pub go_to : Target → Program (Unit {0})
go_to a = do
  read_up_to a
  go (to a)

-- the current line and p, or a number where EOF is current
unfoldable pub line_in : Stop → Ed → Program (Line × ℕ)
line_in n (ed before [] p) = stops n
line_in n (ed before (r ∷ after) p) = gives (current r, p)

unfoldable pub line_or : Stop → Program (Line × ℕ)
line_or n = looks (line_in n)

-- ---- tests and searches

-- where the bytes of `isWord` count for W
unfoldable pub search_holds : (ℕ → Bool) → Search → Ed → Bool
search_holds isWord se (ed before [] p) = holds_at_eof se
search_holds isWord se (ed before (r ∷ after) p) = holds isWord se p (current r)

unfoldable pub is_at_eof : Ed → Bool
is_at_eof (ed before [] p) = true
is_at_eof (ed before (r ∷ after) p) = false

unfoldable pub passes : (ℕ → Bool) → Test → Ed → Bool
passes isWord (is se) e = search_holds isWord se e
passes isWord (is_not se) e = not (search_holds isWord se e)
passes isWord is_eof e = is_at_eof e

-- F and DF go on with the next live line: "21 F, DF, or a line number, meets EOF unfound" (R29)
unfoldable pub look_on : Program Did
look_on = do
  go_ahead
  line_or n21
  gives (answers false)

-- BF goes on with the previous one: "22 no previous line, or BF unfound"
unfoldable pub look_back : Program Did
look_back = do
  go back
  gives (answers false)

-- ---- changes of the current line

-- the line `l` with `new` for the `n` bytes from place i
unfoldable pub splice : Line → ℕ → ℕ → Line → Line
splice l i n new = take i l ++ (new ++ drop (i + n) l)

-- the line with `new` put after or before the string of `n` bytes at place i, or in exchange for it
unfoldable pub altered : Change → Line → ℕ → ℕ → Line → Line
altered after_it l i n new = splice l (i + n) 0 new
altered before_it l i n new = splice l i 0 new
altered exchange l i n new = splice l i n new

-- "AP, BP, EP: then p stands directly after both texts (EP: after the new one)"; "A, B, E, # leave p" (R34)
unfoldable pub altered_point : Change → Bool → ℕ → ℕ → ℕ → ℕ → ℕ
altered_point c false p i n m = p
altered_point after_it true p i n m = i + n + m
altered_point before_it true p i n m = i + n + m
altered_point exchange true p i n m = i + m

-- PA, PB: "p after or before the string" of `n` bytes at place i; SA, SB: where the line is cut
unfoldable pub point_by : Bool → ℕ → ℕ → ℕ
point_by true i n = i + n
point_by false i n = i

-- % makes a byte upper, $ lower case
unfoldable pub cased : Bool → ℕ → ℕ
cased true b = upper b
cased false b = lower b

-- the line with the byte at p in the other case
unfoldable pub recased : Bool → Line → ℕ → Line
recased up l p = splice l p 1 (cased up (get_or l p 0) ∷ [])

-- the match of a string in the line's window; "24 no match"
unfoldable pub match_or24 : (ℕ → Bool) → Qualified → Line → ℕ → Program Match
match_or24 isWord q l p = or_stop n24 (match_of isWord q p l)

-- the current line and p; "27 p at the line's end (>, #, $, %)" (R36)
unfoldable pub byte_here : Program (Line × ℕ)
byte_here = do
  (l, p) ← line_or n20
  stop_if n27 (leb (length l) p)
  gives (l, p)

-- the current line's text becomes `l`, p becomes q; "25 line over 255"
unfoldable pub write : Line → ℕ → Program Did
write l q = do
  stop_if n25 (ltb 255 (length l))
  gives (changes (retext l q ∷ []))

-- ---- a line cut in two, two lines made one (document 02, wish 1)

-- the line is cut after k bytes: "the left part is inserted before, the rest becomes the current line's text"; SA and SB leave p at 0 (W1.2, W1.3)
unfoldable pub cut_after : Line → ℕ → Program Did
cut_after l k = gives (changes (put (take k l ∷ []) ∷ retext (drop k l) 0 ∷ []))

-- the next live line's text, which is read; "30: CL with no next line" (W1.6, W1.8)
unfoldable pub next_or30 : Program Line
next_or30 = do
  read_past 1
  after ← see after_of
  or_stop n30 (first_live (drop 1 after))

-- the current line's text becomes `l`, p becomes q, and the next live line is deleted; 25 as in `write`
unfoldable pub write_joined : Line → ℕ → Program Did
write_joined l q = do
  stop_if n25 (ltb 255 (length l))
  gives (changes (retext l q ∷ strike_next ∷ []))

-- ---- changes for every line passed (document 02, wish 2)

-- what GE, GA or GB with these two strings puts for the first: "GA puts its second string after each occurrence, GB before it" (W2.6)
unfoldable pub global_by : Change → Line → Line → Global
global_by after_it s new = global s (s ++ new)
global_by before_it s new = global s (new ++ s)
global_by exchange s new = global s new

-- ---- D

-- how many records there are through the one after `k` source records of `rs`, n standing before `rs`; 21 and 23 as in a move
unfoldable pub count_through : ℕ → ℕ → List Record → Program ℕ
count_through n k [] = stops n21
count_through n k (inserted l ∷ rs) = count_through (suc n) k rs
count_through n zero (kept l ∷ rs) = gives (suc n)
count_through n zero (changed o m ∷ rs) = gives (suc n)
count_through n zero (deleted l ∷ rs) = stops n23
count_through n (suc k) (kept l ∷ rs) = count_through (suc n) k rs
count_through n (suc k) (changed o m ∷ rs) = count_through (suc n) k rs
count_through n (suc k) (deleted l ∷ rs) = count_through (suc n) k rs

-- how many records there are from the current one through b, which is read; "28 line b is before the current line" (R31)
unfoldable pub reach : Through → Program ℕ
reach alone = gives 1
reach (up_to b) = do
  n ← see (λ e. sources (before_of e))
  stop_if n28 (leb b n)
  read_up_to (line b)
  after ← see after_of
  count_through 0 (b - suc n) after
reach to_eof = do
  read_up_to eof
  see (λ e. length (after_of e))

-- "D tests a as M does, then 20, 28, 23, 21": how many records it takes, from the current one on; the next live line is then read too (R32, R33)
unfoldable pub span : Target → Through → Program ℕ
span a b = do
  go_to a
  line_or n20
  k ← reach b
  read_past k
  gives k

-- ---- every command, where the bytes of `isWord` count for W: "Each match uses the set then standing" (W8.6)

unfoldable pub program : (ℕ → Bool) → Op → Program Did
-- the step alone; W (R37); the tests
program isWord only_step = goes_on
program isWord quit = gives quits
program isWord (test c) = do
  t ← see (passes isWord c)
  gives (answers t)
-- "F tests live lines forward until one matches, the current line first"; "EOF is not tested" (R29, R35)
program isWord begin = do
  line_or n21
  goes_on
program isWord (find se) = do
  (l, p) ← line_or n21
  either (holds isWord se p l) goes_on look_on
-- "BF se likewise backward"; from EOF it starts with the last live line (R29)
program isWord begin_back = do
  t ← see is_at_eof
  either t (go back) (gives tt)
  goes_on
program isWord (find_back se) = do
  (l, p) ← line_or n22
  either (holds isWord se p l) goes_on look_back
-- "DF se finds as F and deletes the lines before the match, from the current one"
program isWord (find_delete se k) = do
  (l, p) ← line_or n21
  either (holds isWord se p l) (gives (changes (strike_back k ∷ []))) look_on
-- M, N, P (R29)
program isWord (move a) = do
  go_to a
  goes_on
program isWord next_line = do
  line_or n20
  go_ahead
  goes_on
program isWord previous_line = do
  go back
  goes_on
-- D; "R is D, then I": one command, its changes tested once (R33)
program isWord (delete a b) = do
  k ← span a b
  gives (changes (strike k ∷ []))
program isWord (replace a b ls) = do
  k ← span a b
  gives (changes (strike k ∷ put ls ∷ []))
-- IS, I alone, which leave p; I with a line, which is moved to (R30); IC
program isWord (insert none ls) = gives (changes (put ls ∷ []))
program isWord (insert (some a) ls) = do
  go_to a
  gives (changes (put ls ∷ []))
program isWord copy = do
  (l, p) ← line_or n20
  gives (changes (put (l ∷ []) ∷ []))
-- "Changes test 20, 27 or 24, 25, 26": A, B, E, AP, BP, EP
program isWord (alter c pointing q new) = do
  (l, p) ← line_or n20
  m ← match_or24 isWord q l p
  write (altered c l m.place m.width new) (altered_point c pointing p m.place m.width (length new))
-- "SA and SB test as E does": 20, 24, 26 (W1.4)
program isWord (split after q) = do
  (l, p) ← line_or n20
  m ← match_or24 isWord q l p
  cut_after l (point_by after m.place m.width)
-- "CL has read the next live line before 25 is tested"; "CL leaves [p] unmoved" (W1.7, W1.9)
program isWord (join s) = do
  (l, p) ← line_or n20
  next ← next_or30
  write_joined (l ++ (s ++ next)) p
-- GE, GA, GB, CG: nothing is read, and no record changed (W2.3, W2.4)
program isWord (add_global c s new) = gives (adds (global_by c s new))
program isWord cancel_globals = gives cancels
-- WORD, likewise (W0.3, W0.6)
program isWord (name_words xs) = gives (names xs)
-- PA, PB, PR, >, <
program isWord (point after q) = do
  (l, p) ← line_or n20
  m ← match_or24 isWord q l p
  go (point_to (point_by after m.place m.width))
  goes_on
program isWord point_start = do
  line_or n20
  go (point_to 0)
  goes_on
program isWord right = do
  (l, p) ← byte_here
  go (point_to (suc p))
  goes_on
program isWord left = do
  (l, p) ← line_or n20
  stop_if n27 (eqb p 0)
  go (point_to (p - 1))
  goes_on
-- #; $ and % (R36)
program isWord cut_byte = do
  (l, p) ← byte_here
  write (splice l p 1 []) p
program isWord (recase up) = do
  (l, p) ← byte_here
  write (recased up l p) (suc p)

-- ---- a step

unfoldable pub step : Given → Op → RunState → Reads Out
step g op s = perform g (program (words_in s) op) s
