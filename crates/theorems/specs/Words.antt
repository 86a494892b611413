-- The bytes that count for W (document 02, wish 8): which bytes a set has, where WORD's string is misused, and what does not depend on the set.
use Rattle.std.specs.Prelude.{◌≡◌, Bool, cond, ◌||◌, length, eqb, leb}
use Rattle.std.proofs.Math.Path.{refl, ap, ap₂, fun_ext, subst}
use Rattle.std.proofs.Common.{◌∙◌, arith}
use Rattle.std.proofs.Math.Bool.{true, false}
use mathlib.Core.List.{List, [], ◌∷◌, ◌++◌}
use Prim.Native.Nat.{ℕ, zero, suc, ◌+◌, ◌-◌, ◌≤◌, ◌<◌}
use Rattle.definitions.specs.Bytes.{Line, is_digit, is_capital, is_small, is_letter}
use Rattle.definitions.specs.WordSet.{Named, byte, range, is_named, is_word_byte, letters_and_digits, is_range, FirstName, name, misused, quoted_name, range_name, plain_name, first_name, Names, all_names, misused_at, add_name, names_from}
use Rattle.definitions.specs.Matching.{is_apart}
use Rattle.definitions.specs.Tape.{Tape, unread, ended, rest_lines, Reads, bind}
use Rattle.definitions.specs.Given.{Given, Global, Carried, carried, no_globals, words_of, with_words, without_globals}
use Rattle.definitions.specs.Globals.{left_by}
use Rattle.definitions.specs.Editor.{Ed, records, journal, sources, n26, n31, stop_number, Target, here, line, eof, moved, edits}
use Rattle.definitions.specs.Reading.{Ran, gave, stopped, once_read, has_room, read_line, read_lines, read_to}
use Rattle.definitions.specs.StepProgram.{Program, gives, stops, looks, reads, moves, once_moved, runs, state, words_in, Did, answers, changes, quits, adds, cancels, names, Out, on, edited, halt, within, one_more, finish, perform}
use Rattle.definitions.specs.Edit.{Op, program, step}
use Rattle.theorems.specs.Reading.{At}

-- ---- sets

-- where none counts, W lets every place pass: `WORD//`
pub none_apart : (w : Bool) (l : Line) (i j : ℕ) → is_apart (is_word_byte []) w l i j ≡ true
unfolding is_apart is_word_byte
none_apart false l i j = refl
none_apart true l i j = refl

-- the set at first
pub letters-and-digits : (b : ℕ) → is_word_byte letters_and_digits b ≡ (is_letter b || is_digit b)
unfolding is_word_byte is_named letters_and_digits is_letter is_capital is_small is_digit
letters-and-digits b = by (is_digit b) (is_capital b) (is_small b)
  where
    by : (d c s : Bool) → (d || (c || (s || false))) ≡ ((c || s) || d)
    by true true s = refl
    by true false true = refl
    by true false false = refl
    by false true s = refl
    by false false true = refl
    by false false false = refl

-- ---- WORD's string

-- a misused byte is the first one, or one of the `left` bytes after it
abbrev MisusedWithin : ℕ → FirstName → Type 0
MisusedWithin left (name x more) = Unit {0}
MisusedWithin left (misused k) = k ≤ left

range-within : (x : ℕ) (bs : Line) → MisusedWithin (suc (length bs)) (range_name x bs)
unfolding range_name
range-within x [] = omega arith
range-within x (y ∷ bs) = by (is_range x y)
  where
    by : (t : Bool) → MisusedWithin (suc (length (y ∷ bs))) (cond t (name (range x y) 2) (misused 1))
    by true = tt
    by false = omega arith

plain-within : (x : ℕ) (bs : Line) → MisusedWithin (length bs) (plain_name x bs)
unfolding plain_name
plain-within x [] = tt
plain-within x (b ∷ bs) = by (eqb b 45) (range-within x bs)
  where
    by : (t : Bool) → MisusedWithin (length (b ∷ bs)) (range_name x bs) → MisusedWithin (length (b ∷ bs)) (cond t (range_name x bs) (name (byte x) 0))
    by true h = h
    by false h = tt

quoted-within : (bs : Line) → MisusedWithin (length bs) (quoted_name bs)
unfolding quoted_name
quoted-within [] = omega arith
quoted-within (b ∷ bs) = tt

first-within : (x : ℕ) (bs : Line) → MisusedWithin (length bs) (first_name x bs)
unfolding first_name
first-within x bs = by (eqb x 34) (eqb x 45)
  where
    by : (t u : Bool) → MisusedWithin (length bs) (cond t (quoted_name bs) (cond u (misused 0) (plain_name x bs)))
    by true u = quoted-within bs
    by false true = omega arith
    by false false = plain-within x bs

-- a place from `from` on, before `to`
abbrev NamesWithin : ℕ → ℕ → Names → Type 0
NamesWithin from to (all_names xs) = Unit {0}
NamesWithin from to (misused_at p) = (from ≤ p) × (p < to)

-- among one byte more
later : (at n : ℕ) (ns : Names) → NamesWithin (suc at) (suc at + n) ns → NamesWithin at (at + suc n) ns
later at n (all_names xs) h = tt
later at n (misused_at p) h = (omega (arith, h.0), omega (arith, h.1))

add-within : (at n : ℕ) (x : Named) (ns : Names) → NamesWithin (suc at) (suc at + n) ns → NamesWithin at (at + suc n) (add_name x ns)
unfolding add_name
add-within at n x (all_names xs) h = tt
add-within at n x (misused_at p) h = later at n (misused_at p) h

names-within : (at skip : ℕ) (bs : Line) → NamesWithin at (at + length bs) (names_from at skip bs)
unfolding names_from
names-within at skip [] = tt
names-within at (suc skip) (b ∷ bs) = later at (length bs) (names_from (suc at) skip bs) (names-within (suc at) skip bs)
names-within at zero (b ∷ bs) = by (first_name b bs) (first-within b bs) (λ more. names-within (suc at) more bs)
  where
    by : (f : FirstName) → MisusedWithin (length bs) f → ((more : ℕ) → NamesWithin (suc at) (suc at + length bs) (names_from (suc at) more bs))
        → NamesWithin at (at + suc (length bs)) (elim f [ name x more ↦ add_name x (names_from (suc at) more bs) | misused k ↦ misused_at (at + k) ])
    by (name x more) h rest = add-within at (length bs) x (names_from (suc at) more bs) (rest more)
    by (misused k) h rest = (omega arith, omega (arith, h))

-- "33 .. at it": its place is that of a byte of the string
pub misused-inside : (at skip : ℕ) (bs : Line) (p : ℕ) → names_from at skip bs ≡ misused_at p → (at ≤ p) × (p < at + length bs)
misused-inside at skip bs p e = rw e at (names-within at skip bs)

-- the same names, and a misused byte k places further on
unfoldable pub further_on : ℕ → Names → Names
further_on k (all_names xs) = all_names xs
further_on k (misused_at p) = misused_at (k + p)

add-further : (k : ℕ) (x : Named) (ns : Names) → add_name x (further_on k ns) ≡ further_on k (add_name x ns)
unfolding add_name further_on
add-further k x (all_names xs) = refl
add-further k x (misused_at p) = refl

-- the place where the string stands counts for nothing else
pub names-further : (k at skip : ℕ) (bs : Line) → names_from (k + at) skip bs ≡ further_on k (names_from at skip bs)
unfolding names_from further_on
names-further k at skip [] = refl
names-further k at (suc skip) (b ∷ bs) = next k at skip bs (names-further k (suc at) skip bs)
  where
    next : (k at skip : ℕ) (bs : Line) → names_from (k + suc at) skip bs ≡ further_on k (names_from (suc at) skip bs) → names_from (suc (k + at)) skip bs ≡ further_on k (names_from (suc at) skip bs)
    next k at skip bs h = ap (λ (i : ℕ). names_from i skip bs) (let q : suc (k + at) ≡ k + suc at = omega arith in q) ∙ h
names-further k at zero (b ∷ bs) = by (first_name b bs) (λ more. names-further k (suc at) more bs)
  where
    by : (f : FirstName) → ((more : ℕ) → names_from (k + suc at) more bs ≡ further_on k (names_from (suc at) more bs))
        → elim f [ name x more ↦ add_name x (names_from (suc (k + at)) more bs) | misused j ↦ misused_at (k + at + j) ]
        ≡ further_on k (elim f [ name x more ↦ add_name x (names_from (suc at) more bs) | misused j ↦ misused_at (at + j) ])
    by (name x more) h =
        ap (λ (i : ℕ). add_name x (names_from i more bs)) (let q : suc (k + at) ≡ k + suc at = omega arith in q) ∙ ap (add_name x) (h more)
        ∙ add-further k x (names_from (suc at) more bs)
    by (misused j) h = ap misused_at (let q : k + at + j ≡ k + (at + j) = omega arith in q)

-- ---- what does not depend on the set

module _ (g : Given) (gs : List Global) (xs ys : List Named) where
  line-any-words : (e : Ed) (t : Tape) → read_line g (carried gs xs) e t ≡ read_line g (carried gs ys) e t
  unfolding read_line left_by
  line-any-words e (unread (l ∷ ls)) = refl
  line-any-words e (unread []) = refl
  line-any-words e ended = refl

  lines-any-words : (n : ℕ) (e : Ed) → read_lines g (carried gs xs) n e ≡ read_lines g (carried gs ys) n e
  unfolding read_lines
  lines-any-words zero e = refl
  lines-any-words (suc n) e =
      ap₂ (λ (r : Reads (Ran (Unit {0}))) (f : Ed → Reads (Ran (Unit {0}))). bind r (once_read f)) (fun_ext (λ t. line-any-words e t)) (fun_ext (λ e'. lines-any-words n e'))

  -- what is read up to a target
  pub reads-any-words : (a : Target) (e : Ed) → read_to g (carried gs xs) a e ≡ read_to g (carried gs ys) a e
  unfolding read_to
  reads-any-words here e = refl
  reads-any-words (line n) e = lines-any-words (n - sources (records e)) e
  reads-any-words eof e = fun_ext (λ t. ap (λ (r : Reads (Ran (Unit {0}))). r t) (lines-any-words (suc (length (rest_lines t))) e))

  -- what a program comes to
  pub runs-any-words : {A : Type 0} (m : Program A) (e : Ed) → runs g (carried gs xs) m e ≡ runs g (carried gs ys) m e
  unfolding runs
  runs-any-words (gives a) e = refl
  runs-any-words (stops n) e = refl
  runs-any-words (looks f) e = runs-any-words (f e) e
  runs-any-words {A} (reads a m) e =
      ap₂ (λ (r : Reads (Ran (Unit {0}))) (f : Ed → Reads (Ran A)). bind r (once_read f)) (reads-any-words a e) (fun_ext (λ e'. runs-any-words m e'))
  runs-any-words {A} (moves x m) e = ap (λ (f : Ed → Reads (Ran A)). once_moved f e (moved x e)) (fun_ext (λ e'. runs-any-words m e'))

-- ---- and what a step comes to, but for what is carried

-- the same, with c carried
unfoldable pub carrying : Carried → Out → Out
carrying c (on b (state e d)) = on b (state e c)
carrying c (edited (state e d)) = edited (state e c)
carrying c (halt n (state e d)) = halt n (state e c)

-- `P` does not look at what is carried
module _ (P : Out → Tape → Type 0) (ignores : (o : Out) (t : Tape) (c : Carried) → P o t → P (carrying c o) t) (g : Given) (gs : List Global) (xs ys : List Named) where
  within-any-words : (e e' : Ed) (t : Tape) → At P (within g (carried gs xs) e e' t) → At P (within g (carried gs ys) e e' t)
  unfolding within carrying
  within-any-words e e' t = by (has_room g (journal e' t))
    where
      by : (b : Bool) → At P (cond b (edited (state e' (carried gs xs)), t) (halt (stop_number n26) (state e (carried gs xs)), t))
          → At P (cond b (edited (state e' (carried gs ys)), t) (halt (stop_number n26) (state e (carried gs ys)), t))
      by true h = ignores (edited (state e' (carried gs xs))) t (carried gs ys) h
      by false h = ignores (halt (stop_number n26) (state e (carried gs xs))) t (carried gs ys) h

  one-any-words : (x : Global) (e : Ed) (t : Tape) → P (one_more (carried gs xs) x e) t → P (one_more (carried gs ys) x e) t
  unfolding one_more carrying
  one-any-words x e t = by (leb 16 (length gs))
    where
      by : (b : Bool) → P (cond b (halt (stop_number n31) (state e (carried gs xs))) (on true (state e (carried (gs ++ (x ∷ [])) xs)))) t
          → P (cond b (halt (stop_number n31) (state e (carried gs ys))) (on true (state e (carried (gs ++ (x ∷ [])) ys)))) t
      by true h = ignores (halt (stop_number n31) (state e (carried gs xs))) t (carried gs ys) h
      by false h = ignores (on true (state e (carried (gs ++ (x ∷ [])) xs))) t (carried (gs ++ (x ∷ [])) ys) h

  finish-any-words : (r : Ran Did) (t : Tape) → At P (finish g (carried gs xs) r t) → At P (finish g (carried gs ys) r t)
  unfolding finish with_words without_globals carrying
  finish-any-words (gave (answers b) e) t h = ignores (on b (state e (carried gs xs))) t (carried gs ys) h
  finish-any-words (gave (changes zs) e) t h = within-any-words e (edits zs e) t h
  finish-any-words (gave quits e) t h = ignores (halt 0 (state e (carried gs xs))) t (carried gs ys) h
  finish-any-words (gave (adds x) e) t h = one-any-words x e t h
  finish-any-words (gave cancels e) t h = ignores (on true (state e (carried [] xs))) t (carried [] ys) h
  finish-any-words (gave (names zs) e) t h = h
  finish-any-words (stopped n e) t h = ignores (halt (stop_number n) (state e (carried gs xs))) t (carried gs ys) h

  -- THE LAW OF ANY WORD SET: what the step of a program comes to
  pub performs-any-words : (m : Program Did) (e : Ed) (t : Tape) → At P (perform g m (state e (carried gs xs)) t) → At P (perform g m (state e (carried gs ys)) t)
  unfolding perform bind
  performs-any-words m e t h =
      subst (λ (r : Reads (Ran Did)). At P (finish g (carried gs ys) (r t).0 (r t).1)) (runs-any-words g gs xs ys m e)
      (finish-any-words (runs g (carried gs xs) m e t).0 (runs g (carried gs xs) m e t).1 h)

-- ---- a step, told which bytes count

pub step-by-words : (P : Out × Tape → Type 0) (g : Given) (op : Op) (isWord : ℕ → Bool) (e : Ed) (c : Carried) (t : Tape) → isWord ≡ words_of c
    → P (perform g (program isWord op) (state e c) t) → P (step g op (state e c) t)
unfolding step words_in
step-by-words P g op isWord e c t same h = subst (λ (f : ℕ → Bool). P (perform g (program f op) (state e c) t)) same h

-- ---- where no global is carried, whichever bytes count

pub data NoGlobal : Carried → Type 0 where
  none_is : (xs : List Named) → NoGlobal (carried [] xs)

pub none_reads : (g : Given) (c : Carried) → NoGlobal c → (a : Target) (e : Ed) → read_to g c a e ≡ read_to g no_globals a e
unfolding no_globals
none_reads g c (none_is xs) a e = reads-any-words g [] xs letters_and_digits a e

pub none_runs : (g : Given) (c : Carried) → NoGlobal c → {A : Type 0} (m : Program A) (e : Ed) → runs g c m e ≡ runs g no_globals m e
unfolding no_globals
none_runs g c (none_is xs) m e = runs-any-words g [] xs letters_and_digits m e

-- a command that looks for no string
abbrev pub Wordless : Op → Type 0
Wordless op = (f h : ℕ → Bool) → program f op ≡ program h op

module _ (P : Out → Tape → Type 0) (ignores : (o : Out) (t : Tape) (c : Carried) → P o t → P (carrying c o) t) where
  -- what such a step comes to, it comes to as where a run begins
  pub none-steps : (g : Given) (c : Carried) → NoGlobal c → (op : Op) → Wordless op → (e : Ed) (t : Tape) → At P (step g op (state e no_globals) t) → At P (step g op (state e c) t)
  unfolding step words_in no_globals
  none-steps g c (none_is xs) op wordless e t h =
      performs-any-words P ignores g [] letters_and_digits xs (program (words_of (carried [] xs)) op) e t
      (subst (λ (m : Program Did). At P (perform g m (state e (carried [] letters_and_digits)) t)) (wordless (words_of (carried [] letters_and_digits)) (words_of (carried [] xs))) h)
