-- What reading comes to where no global stands: the lines that are read come behind the other records, kept, and it never stops.
use Rattle.std.specs.Prelude.{◌≡◌, Bool, length, drop}
use Rattle.std.proofs.Math.Path.{refl, ap}
use Rattle.std.proofs.Common.{◌∙◌}
use Rattle.std.proofs.Math.Bool.{true, false}
use mathlib.Core.List.{List, [], ◌∷◌, ◌++◌, map, append_assoc, append-nil}
use Prim.Native.Nat.{ℕ, zero, suc, ◌-◌}
use native.Mathlib.Omega.{arith}
use Rattle.definitions.specs.Bytes.{Line}
use Rattle.definitions.specs.Journal.{Record, kept}
use Rattle.definitions.specs.Tape.{Tape, unread, ended, rest_lines, Reads, bind}
use Rattle.definitions.specs.Given.{Given, Carried, no_globals}
use Rattle.definitions.specs.Editor.{Target, Ed, ed, after_of, records, sources, has_live, line, eof}
use Rattle.definitions.specs.Reading.{Ran, gave, stopped, once_read, seen, read_as, read_line, read_lines, read_to}
use Rattle.definitions.specs.Globals.{passed_through, left_by}
use Rattle.definitions.specs.StepProgram.{gives, runs}
use Rattle.definitions.specs.Edit.{either, read_up_to, read_past}
use Rattle.theorems.specs.Lines.{equal-itself}

-- the next n lines, fewer where EOF is met, and what is then unread
unfoldable pub read_next : ℕ → Reads (List Line)
read_next zero t = ([], t)
read_next (suc n) ended = ([], ended)
read_next (suc n) (unread []) = ([], ended)
read_next (suc n) (unread (l ∷ ls)) = let r = read_next n (unread ls) in (l ∷ r.0, r.1)

-- how many lines are lacking where the next live line is to be read, by whether one is read
unfoldable pub lacking : Bool → ℕ
lacking true = 0
lacking false = 1

-- the text with lines that are read
unfoldable pub seen_all : List Line → Ed → Ed
seen_all ls (ed b a p) = ed b (a ++ map kept ls) p

pub seen_none : (e : Ed) → seen_all [] e ≡ e
unfolding seen_all
seen_none (ed b a p) = ap (λ (z : List Record). ed b z p) (append-nil a)

pub seen_more : (l : Line) (ls : List Line) (e : Ed) → seen_all ls (seen (kept l) e) ≡ seen_all (l ∷ ls) e
unfolding seen_all seen
seen_more l ls (ed b a p) = ap (λ (z : List Record). ed b z p) (append_assoc a (kept l ∷ []) (map kept ls))

-- after the end of file nothing more is read
pub next-ended : (n : ℕ) → read_next n ended ≡ ([], ended)
unfolding read_next
next-ended zero = refl
next-ended (suc n) = refl

-- all lines, and EOF
pub next-all : (ls : List Line) → read_next (suc (length ls)) (unread ls) ≡ (ls, ended)
unfolding read_next
next-all [] = refl
next-all (l ∷ ls) = ap (λ (x : List Line × Tape). (l ∷ x.0, x.1)) (next-all ls)

-- what is read and what is left are the unread lines
pub next-keeps : (n : ℕ) (t : Tape) → (read_next n t).0 ++ rest_lines (read_next n t).1 ≡ rest_lines t
unfolding read_next rest_lines
next-keeps zero t = refl
next-keeps (suc n) ended = refl
next-keeps (suc n) (unread []) = refl
next-keeps (suc n) (unread (l ∷ ls)) = ap {B = List Line} (λ r. l ∷ r) (next-keeps n (unread ls))

-- whatever globals stand
-- reading is nothing but reading
pub runs-read : (g : Given) (c : Carried) (a : Target) (e : Ed) (t : Tape) → runs g c (read_up_to a) e t ≡ read_to g c a e t
unfolding read_up_to runs bind
runs-read g c a e t = by (read_to g c a e t)
  where
    by : (x : Ran (Unit {0}) × Tape) → once_read (λ e'. runs g c (gives tt) e') x.0 x.1 ≡ x
    by (gave u e', t') = unfold once_read runs in refl
    by (stopped n e', t') = unfold once_read in refl

-- after EOF nothing is read
pub lines-ended : (g : Given) (c : Carried) (n : ℕ) (e : Ed) → read_lines g c n e ended ≡ (gave tt e, ended)
unfolding read_lines read_line bind once_read
lines-ended g c zero e = refl
lines-ended g c (suc n) e = lines-ended g c n e

pub lines-met : (g : Given) (c : Carried) (n : ℕ) (e : Ed) → read_lines g c (suc n) e (unread []) ≡ (gave tt e, ended)
unfolding read_lines read_line bind once_read
lines-met g c n e = lines-ended g c n e

module _ (g : Given) where
  -- one line
  pub line_plain : (e : Ed) (l : Line) (ls : List Line) → read_line g no_globals e (unread (l ∷ ls)) ≡ (gave tt (seen (kept l) e), unread ls)
  unfolding read_line read_as left_by passed_through no_globals
  line_plain e l ls = rw (equal-itself l) refl

  -- n lines
  pub lines-read : (n : ℕ) (e : Ed) (t : Tape) → read_lines g no_globals n e t ≡ (gave tt (seen_all (read_next n t).0 e), (read_next n t).1)
  unfolding read_lines read_line read_next bind once_read
  lines-read zero e t = ap (λ (x : Ed). (gave tt x, t)) (let q : e ≡ seen_all [] e = rw (seen_none e) in q)
  lines-read (suc n) e ended = lines-ended g no_globals n e ∙ ap (λ (x : Ed). (gave tt x, ended)) (let q : e ≡ seen_all [] e = rw (seen_none e) in q)
  lines-read (suc n) e (unread []) = lines-met g no_globals n e ∙ ap (λ (x : Ed). (gave tt x, ended)) (let q : e ≡ seen_all [] e = rw (seen_none e) in q)
  lines-read (suc n) e (unread (l ∷ ls)) =
      ap (λ (y : Ran (Unit {0}) × Tape). once_read (λ e'. read_lines g no_globals n e') y.0 y.1) (line_plain e l ls)
      ∙ lines-read n (seen (kept l) e) (unread ls)
      ∙ ap (λ (x : Ed). (gave tt x, (read_next n (unread ls)).1)) (seen_more l (read_next n (unread ls)).0 e)

  -- up to source line n
  pub read-line : (n : ℕ) (e : Ed) (t : Tape)
      → let x = read_next (n - sources (records e)) t in
      runs g no_globals (read_up_to (line n)) e t ≡ (gave tt (seen_all x.0 e), x.1)
  unfolding read_up_to runs bind read_to once_read
  read-line n e t = ap (λ (y : Ran (Unit {0}) × Tape). once_read (λ e'. runs g no_globals (gives tt) e') y.0 y.1) (lines-read (n - sources (records e)) e t)

  -- up to EOF
  pub read-eof : (e : Ed) (t : Tape) → runs g no_globals (read_up_to eof) e t ≡ (gave tt (seen_all (rest_lines t) e), ended)
  unfolding read_up_to runs bind read_to once_read rest_lines
  read-eof e (unread ls) =
      ap (λ (y : Ran (Unit {0}) × Tape). once_read (λ e'. runs g no_globals (gives tt) e') y.0 y.1)
      (lines-read (suc (length ls)) e (unread ls) ∙ ap (λ (x : List Line × Tape). (gave tt (seen_all x.0 e), x.1)) (next-all ls))
  read-eof e ended =
      ap (λ (y : Ran (Unit {0}) × Tape). once_read (λ e'. runs g no_globals (gives tt) e') y.0 y.1)
      (lines-read 1 e ended ∙ ap (λ (x : List Line × Tape). (gave tt (seen_all x.0 e), x.1)) (next-ended 1))

  -- the next live line after k records: one line is lacking where none of those after them is live
  pub read_past_lem : (k : ℕ) (e : Ed) (t : Tape)
      → let x = read_next (lacking (has_live (drop k (after_of e)))) t in
      runs g no_globals (read_past k) e t ≡ (gave tt (seen_all x.0 e), x.1)
  unfolding read_past runs either lacking read_next
  read_past_lem k e t = go (has_live (drop k (after_of e)))
    where
      go : (live : Bool) → runs g no_globals (either live (gives tt) (read_up_to (line (suc (sources (records e)))))) e t
          ≡ (gave tt (seen_all (read_next (lacking live) t).0 e), (read_next (lacking live) t).1)
      go true = ap (λ (x : Ed). (gave tt x, t)) (let q : e ≡ seen_all [] e = rw (seen_none e) in q)
      go false =
          let one : suc (sources (records e)) - sources (records e) ≡ 1 = omega arith in
          read-line (suc (sources (records e))) e t ∙ ap (λ (i : ℕ). (gave tt (seen_all (read_next i t).0 e), (read_next i t).1)) one
