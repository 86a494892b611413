-- Reading up to a target, line by line: it keeps the old side, depends on no more lines than it reads, and may stop. What is said of one line stands
-- first; nothing below it looks into how a line is read.
use Rattle.std.specs.Prelude.{◌≡◌, Bool, true, false, cond, ◌⊎◌, List, [], ◌∷◌, ◌++◌, ℕ, zero, suc, ◌-◌, length}
use Rattle.std.proofs.Math.Path.{refl}
use Rattle.std.proofs.Common.{ap, ◌∙◌, inl, inr, append_assoc}
use Rattle.definitions.specs.Bytes.{Line, eq_line}
use Rattle.definitions.specs.Journal.{kept, changed, old_of, old_side}
use Rattle.definitions.specs.Tape.{Tape, unread, ended, rest_lines, Reads, ret, bind}
use Rattle.definitions.specs.Given.{Given, given, bytes, boundless, Carried}
use Rattle.definitions.specs.Globals.{left_by}
use Rattle.definitions.specs.Editor.{Ed, records, journal, sources, Stop, n26, stop_number, Got, got, stop, Target, here, line, eof}
use Rattle.definitions.specs.Reading.{Ran, gave, stopped, once_read, seen, has_room, read_changed, read_as, read_line, read_lines, read_to}
use Rattle.theorems.specs.Reading.{At, Local, met_eof, read_only, Faithful, ret-faithful, bind-faithful}
use Rattle.theorems.specs.OldSide.{old_ed, seen-old}

-- the old lines where a part of a step has come to
unfoldable pub old_ran : {A : Type 0} → Ran A → List Line
old_ran (gave a e) = old_ed e
old_ran (stopped n e) = old_ed e

-- it has stopped on a full journal buffer
unfoldable pub full_ran : {A : Type 0} → Ran A → Type 0
full_ran (gave a e) = ⊥
full_ran (stopped n e) = stop_number n ≡ 26

abbrev Read : Type 0
Read = Ran (Unit {0})

-- what is given, with a journal buffer of `size` bytes, and with one without bounds
abbrev lim : ℕ → Given
lim size = given (bytes size)

abbrev free : Given
free = given boundless

-- ---- one line

-- the line that is read, and only that, makes a difference: what the globals make of it, whatever stands after it
as-takes : (l : Line) (e : Ed) (x : Got Line) → (r : Read) × ((w : List Line) → read_as free l e x (unread w) ≡ (r, unread w))
unfolding read_as read_changed has_room
as-takes l e (got new) = by (eq_line l new)
  where
    by : (same : Bool) → (r : Read) × ((w : List Line) → cond same (ret (gave tt (seen (kept l) e))) (read_changed free l new e) (unread w) ≡ (r, unread w))
    by true = (gave tt (seen (kept l) e), λ w. refl)
    by false = (gave tt (seen (changed l new) e), λ w. unfold read_changed has_room in refl)
as-takes l e (stop n) = (stopped n (seen (kept l) e), λ w. refl)

line-takes : (c : Carried) (e : Ed) (l : Line) → (r : Read) × ((w : List Line) → read_line free c e (unread (l ∷ w)) ≡ (r, unread w))
unfolding read_line
line-takes c e l = as-takes l e (left_by c l)

-- after the last line comes EOF
line-ends : (c : Carried) (e : Ed) → (r : Read) × (read_line free c e (unread []) ≡ (r, ended))
unfolding read_line
line-ends c e = (gave tt e, refl)

-- after EOF nothing
line_stays : (c : Carried) (e : Ed) → (r : Read) × (read_line free c e ended ≡ (r, ended))
unfolding read_line
line_stays c e = (gave tt e, refl)

-- what becomes of the line that is read, by cases: it is changed and there is room, or 26
pub changed-comes : (P : Read → Tape → Type 0) (g : Given) (l new : Line) (e : Ed) (t : Tape) → (has_room g (journal (seen (changed l new) e) t) ≡ true → P (gave tt (seen (changed l new) e)) t)
    → P (stopped n26 (seen (kept l) e)) t → At P (read_changed g l new e t)
unfolding read_changed
changed-comes P g l new e t h k = by (has_room g (journal (seen (changed l new) e) t)) h
  where
    by : (x : Bool) → (x ≡ true → P (gave tt (seen (changed l new) e)) t) → At P (cond x (gave tt (seen (changed l new) e), t) (stopped n26 (seen (kept l) e), t))
    by true f = f refl
    by false f = k

-- the text is as it was, or it is changed and there is room; or the globals stop, or there is no room
pub as-comes : (P : Read → Tape → Type 0) (g : Given) (l : Line) (e : Ed) (x : Got Line) (t : Tape)
    → ((new : Line) → x ≡ got new → eq_line l new ≡ true → P (gave tt (seen (kept l) e)) t)
    → ((new : Line) → x ≡ got new → eq_line l new ≡ false → has_room g (journal (seen (changed l new) e) t) ≡ true → P (gave tt (seen (changed l new) e)) t)
    → ((n : Stop) → (x ≡ stop n) ⊎ (n ≡ n26) → P (stopped n (seen (kept l) e)) t) → At P (read_as g l e x t)
unfolding read_as
as-comes P g l e (got new) t same other stops = by (eq_line l new) refl
  where
    by : (b : Bool) → eq_line l new ≡ b → At P (cond b (ret (gave tt (seen (kept l) e))) (read_changed g l new e) t)
    by true q = same new refl q
    by false q = changed-comes P g l new e t (λ room. other new refl q room) (stops n26 (inr refl))
as-comes P g l e (stop n) t same other stops = stops n (inl refl)

as-keeps : (size : ℕ) (l : Line) (e : Ed) (x : Got Line) (t : Tape) → At (λ r t'. old_ran r ++ rest_lines t' ≡ old_ed e ++ (l ∷ rest_lines t)) (read_as (lim size) l e x t)
unfolding old_ran old_side old_of
as-keeps size l e x t =
    as-comes (λ r t'. old_ran r ++ rest_lines t' ≡ old_ed e ++ (l ∷ rest_lines t)) (lim size) l e x t (λ new q same. rw (seen-old (kept l) e, append_assoc))
    (λ new q differs room. rw (seen-old (changed l new) e, append_assoc)) (λ n why. rw (seen-old (kept l) e, append_assoc))

line-keeps : (size : ℕ) (c : Carried) (e : Ed) (t : Tape) → old_ran (read_line (lim size) c e t).0 ++ rest_lines (read_line (lim size) c e t).1 ≡ old_ed e ++ rest_lines t
unfolding read_line rest_lines old_ran
line-keeps size c e (unread (l ∷ ls)) = unfold rest_lines in (as-keeps size l e (left_by c l) (unread ls))
line-keeps size c e (unread []) = refl
line-keeps size c e ended = refl

-- 26 apart, the buffer's size makes no difference
as-bounded : (size : ℕ) (l : Line) (e : Ed) (x : Got Line) (t : Tape) → full_ran (read_as (lim size) l e x t).0 ⊎ (read_as (lim size) l e x t ≡ read_as free l e x t)
unfolding read_as
as-bounded size l e (got new) t = by (eq_line l new)
  where
    by : (b : Bool) → let m = cond b (ret (gave tt (seen (kept l) e))) (read_changed (lim size) l new e) in
        full_ran (m t).0 ⊎ (m t ≡ cond b (ret (gave tt (seen (kept l) e))) (read_changed free l new e) t)
    by true = inr refl
    by false =
        changed-comes (λ r t'. full_ran r ⊎ ((r, t') ≡ read_changed free l new e t)) (lim size) l new e t (λ room. inr (unfold read_changed has_room in refl))
        (inl (unfold full_ran stop_number in refl))
as-bounded size l e (stop n) t = inr refl

line-bounded : (size : ℕ) (c : Carried) (e : Ed) (t : Tape) → full_ran (read_line (lim size) c e t).0 ⊎ (read_line (lim size) c e t ≡ read_line free c e t)
unfolding read_line
line-bounded size c e (unread (l ∷ ls)) = as-bounded size l e (left_by c l) (unread ls)
line-bounded size c e (unread []) = inr refl
line-bounded size c e ended = inr refl

-- ---- lines

line-near : (c : Carried) (e : Ed) (u : List Line) → Local (read_line free c e) u
line-near c e [] = met_eof (line-ends c e).0 (line-ends c e).1
line-near c e (l ∷ ls) = read_only (l ∷ []) ls (line-takes c e l).0 refl (line-takes c e l).1

line-faithful : (size : ℕ) (c : Carried) (e : Ed) → Faithful (read_line (lim size) c e) (read_line free c e) old_ran full_ran (old_ed e)
line-faithful size c e = record { keeps = line-keeps size c e; bounded = line-bounded size c e; near = line-near c e; stays = line_stays c e }

-- to go on with what was read, if reading has not stopped
module _ {A : Type 0} (go go' : Ed → Reads (Ran A)) (h : (e : Ed) → Faithful (go e) (go' e) old_ran full_ran (old_ed e)) where
  pub once-faithful : (r : Read) → Faithful (once_read go r) (once_read go' r) old_ran full_ran (old_ran r)
  unfolding once_read old_ran
  once-faithful (gave u e) = h e
  once-faithful (stopped n e) = ret-faithful (stopped n e) old_ran full_ran (old_ed e) refl

  pub once-full : (r : Read) (t : Tape) → full_ran r → full_ran (once_read go r t).0
  unfolding once_read full_ran
  once-full (gave u e) t x = absurd x
  once-full (stopped n e) t x = x

pub lines-faithful : (size : ℕ) (c : Carried) (n : ℕ) (e : Ed) → Faithful (read_lines (lim size) c n e) (read_lines free c n e) old_ran full_ran (old_ed e)
unfolding read_lines old_ran
lines-faithful size c zero e = ret-faithful (gave tt e) old_ran full_ran (old_ed e) refl
lines-faithful size c (suc n) e =
    bind-faithful (read_line (lim size) c e) (read_line free c e) (once_read (λ e'. read_lines (lim size) c n e')) (once_read (λ e'. read_lines free c n e'))
    old_ran full_ran old_ran full_ran (old_ed e) (once-full (λ e'. read_lines (lim size) c n e') (λ e'. read_lines free c n e') (λ e'. lines-faithful size c n e'))
    (line-faithful size c e) (once-faithful (λ e'. read_lines (lim size) c n e') (λ e'. read_lines free c n e') (λ e'. lines-faithful size c n e'))

-- ---- up to EOF

-- all lines and EOF, or up to where reading stops
abbrev read_all : Carried → Ed → Reads Read
read_all c e t = read_lines free c (suc (length (rest_lines t))) e t

all_more : (c : Carried) (e : Ed) (l : Line) (r : Read) → ((w : List Line) → read_line free c e (unread (l ∷ w)) ≡ (r, unread w))
    → (w : List Line) → read_all c e (unread (l ∷ w)) ≡ once_read (λ e'. read_all c e') r (unread w)
unfolding read_lines bind rest_lines
all_more c e l (gave u e') q w = unfold once_read in (rw (q w))
all_more c e l (stopped n e') q w = unfold once_read in (rw (q w))

all-last : (c : Carried) (e : Ed) (r : Read) → read_line free c e (unread []) ≡ (r, ended) → Local (read_all c e) []
unfolding read_lines bind rest_lines once_read
all-last c e (gave u e') q = met_eof (gave tt e') (rw q)
all-last c e (stopped n e') q = met_eof (stopped n e') (rw q)

all_near : (c : Carried) (u : List Line) (e : Ed) → Local (read_all c e) u
all_near c [] e = all-last c e (line-ends c e).0 (line-ends c e).1
all_near c (l ∷ u) e = by (line-takes c e l).0 (all_more c e l (line-takes c e l).0 (line-takes c e l).1) (λ e'. all_near c u e')
  where
    shift : (e' : Ed) → ((w : List Line) → read_all c e (unread (l ∷ w)) ≡ read_all c e' (unread w)) → Local (read_all c e') u → Local (read_all c e) (l ∷ u)
    shift e' q (met_eof r h) = met_eof r (q u ∙ h)
    shift e' q (read_only used v r p h) = read_only (l ∷ used) v r (ap {B = List Line} (λ x. l ∷ x) p) (λ w. q (used ++ w) ∙ h w)

    by : (r : Read) → ((w : List Line) → read_all c e (unread (l ∷ w)) ≡ once_read (λ e'. read_all c e') r (unread w)) → ((e' : Ed) → Local (read_all c e') u) → Local (read_all c e) (l ∷ u)
    by (gave x e') q ih = shift e' (unfold once_read in q) (ih e')
    by (stopped n e') q ih = read_only (l ∷ []) u (stopped n e') refl (unfold once_read in q)

-- ---- up to a target

pub to-faithful : (size : ℕ) (c : Carried) (a : Target) (e : Ed) → Faithful (read_to (lim size) c a e) (read_to free c a e) old_ran full_ran (old_ed e)
unfolding read_to old_ran
to-faithful size c here e = ret-faithful (gave tt e) old_ran full_ran (old_ed e) refl
to-faithful size c (line n) e = lines-faithful size c (n - sources (records e)) e
to-faithful size c eof e = record {
  keeps = λ t. (lines-faithful size c (suc (length (rest_lines t))) e).keeps t;
  bounded = λ t. (lines-faithful size c (suc (length (rest_lines t))) e).bounded t;
  near = λ u. all_near c u e;
  stays = (lines-faithful size c (suc (length (rest_lines ended))) e).stays;
}
