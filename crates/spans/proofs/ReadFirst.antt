-- Reading first (document 02, wish 2): what has been read through the globals is not read again, so that a part of a step which reads at its start comes to
-- the same from there where none stands. Assumes nothing.
use mathlib.Core.Path.{◌≡◌, refl, sym, ap, ◌∙◌}
use mathlib.Core.Logic.{◌⊎◌, inl, inr}
use mathlib.Core.Bool.{Bool, true, false}
use mathlib.Core.List.{List, [], ◌∷◌, ◌++◌, append_assoc, append-nil}
use Prim.Native.Nat.{ℕ, zero, suc, ◌+◌, ◌-◌, ◌≤◌, ◌<◌}
use native.Mathlib.Omega.{arith}
use lib.ListN.{length, drop, length-append}
use lib.Seq.{drop-append-le}
use Rattle.definitions.specs.Bytes.{Line}
use Rattle.definitions.specs.Journal.{Record, kept, changed, deleted, inserted}
use Rattle.definitions.specs.Tape.{Tape, unread, ended, rest_lines, bind}
use Rattle.definitions.specs.Given.{Given, Carried}
use Rattle.definitions.specs.Editor.{Ed, ed, before_of, after_of, records, sources, is_live, has_live, Got, got, stop, Target, here, line, eof, Move, moved, to}
use Rattle.definitions.specs.Editor.{Stop as StopNumber}
use Rattle.definitions.specs.Reading.{Ran, gave, stopped, once_read, seen, read_line, read_lines, read_to}
use Rattle.definitions.specs.Globals.{left_by}
use Rattle.definitions.specs.StepProgram.{Program, gives, stops, looks, reads, moves, ◌>>=◌, ◌>>◌, once_moved, runs}
use Rattle.definitions.specs.Edit.{either, read_up_to, go, read_past, go_to, line_or}
use Rattle.theorems.specs.RecordLaws.{reverse-append, sources-append}
use Rattle.theorems.specs.Programs.{runs_on, runs-stop, runs-line}
use Rattle.theorems.specs.ReadTo.{as-comes}
use Rattle.theorems.specs.ReadLines.{runs-read}
use Rattle.editor.specs.Shows.{point_of}
use Rattle.editor.specs.Current.{current_line}
use Rattle.editor.proofs.Records.{sources-cons, sources-nil}

-- ---- equal outcomes

pub same-gave : {A : Type 0} {a b : A} {x y : Ed} {t u : Tape} → ◌≡◌ {A = Ran A × Tape} (gave a x, t) (gave b y, u) → (a ≡ b) × (x ≡ y) × (t ≡ u)
same-gave {A} {a} {b} {x} {y} q =
    let first : ◌≡◌ {A = Ran A} (gave a x) (gave b y) = ap (λ (z : Ran A × Tape). z.0) q in
    let v : a ≡ b = cc in
    let w : x ≡ y = cc in
    (v, w, ap (λ (z : Ran A × Tape). z.1) q)

pub not_stopped : {A : Type 0} {n : StopNumber} {b : A} {x y : Ed} {t u : Tape} → ◌≡◌ {A = Ran A × Tape} (stopped n x, t) (gave b y, u) → ⊥
not_stopped {A} {n} {b} {x} {y} q =
    let first : ◌≡◌ {A = Ran A} (stopped n x) (gave b y) = ap (λ (z : Ran A × Tape). z.0) q in
    let z : ◌≡◌ {A = ℕ} 0 1 = cc in
    omega arith

-- the same stop of another program
pub as-stopped : {A B : Type 0} {n m : StopNumber} {x y : Ed} {t u : Tape} → ◌≡◌ {A = Ran A × Tape} (stopped n x, t) (stopped m y, u) → ◌≡◌ {A = Ran B × Tape} (stopped n x, t) (stopped m y, u)
as-stopped {A} {B} {n} {m} {x} {y} {t} {u} q =
    let first : ◌≡◌ {A = Ran A} (stopped n x) (stopped m y) = ap (λ (z : Ran A × Tape). z.0) q in
    let v : n ≡ m = cc in
    let w : x ≡ y = cc in
    let tape : t ≡ u = ap (λ (z : Ran A × Tape). z.1) q in
    rw (v, w, tape)

-- ---- what reading adds

-- the text with records that reading added
unfoldable pub with_read : List Record → Ed → Ed
with_read rs (ed b a p) = ed b (a ++ rs) p

-- they are live source lines
abbrev pub Fresh : List Record → Type 0
Fresh [] = Unit {0}
Fresh (kept l ∷ rs) = Fresh rs
Fresh (changed o n ∷ rs) = Fresh rs
Fresh (deleted l ∷ rs) = ⊥
Fresh (inserted l ∷ rs) = ⊥

fresh-sources : (rs : List Record) → Fresh rs → sources rs ≡ length rs
fresh-sources [] h = sources-nil
fresh-sources (kept l ∷ rs) h = omega (arith, sources-cons (kept l) rs, fresh-sources rs h)
fresh-sources (changed o n ∷ rs) h = omega (arith, sources-cons (changed o n) rs, fresh-sources rs h)
fresh-sources (deleted l ∷ rs) h = absurd h
fresh-sources (inserted l ∷ rs) h = absurd h

with-sources : (rs : List Record) (e : Ed) → sources (records (with_read rs e)) ≡ sources (records e) + sources rs
unfolding with_read records
with-sources rs (ed b a p) = ap sources (reverse-append b a rs) ∙ sources-append _ rs

-- from `e` and `t` reading has come to `x` and `u`
pub record Added (e : Ed) (t : Tape) (x : Ed) (u : Tape) : Type 0 where
  pub new : List Record
  pub fresh : Fresh new
  pub text : x ≡ with_read new e
  pub left : length new + length (rest_lines u) ≡ length (rest_lines t)
  pub ends : t ≡ ended → u ≡ ended

-- so many lines, or EOF
abbrev Far : ℕ → ℕ → Tape → Type 0
Far n m u = (u ≡ ended) ⊎ (m ≡ n)

with_none : (e : Ed) → e ≡ with_read [] e
unfolding with_read
with_none (ed b a p) = ap (λ (z : List Record). ed b z p) (sym (append-nil a))

pub added_none : (e : Ed) (t : Tape) → Added e t e t
added_none e t = record { new = []; fresh = tt; text = with_none e; left = omega arith; ends = λ q. q }

-- one line more
added-one : (r : Record) → ((rs : List Record) → Fresh rs → Fresh (r ∷ rs)) → {e x : Ed} {l : Line} {ls : List Line} {u : Tape} → Added (seen r e) (unread ls) x u → Added e (unread (l ∷ ls)) x u
unfolding rest_lines
added-one r more {e} {x} {l} {ls} {u} w = record {
  new = r ∷ w.new;
  fresh = more w.new w.fresh;
  text = w.text ∙ go e;
  left = omega (arith, w.left);
  ends = λ q. absurd (let z : ◌≡◌ {A = ℕ} 0 1 = cc in omega arith);
}
  where
    go : (e : Ed) → with_read w.new (seen r e) ≡ with_read (r ∷ w.new) e
    go (ed b a p) = unfold with_read seen in (ap (λ (z : List Record). ed b z p) (append_assoc a (r ∷ []) w.new))

module _ (g : Given) (c : Carried) where
  -- after EOF nothing is read
  lines-ended : (n : ℕ) (e : Ed) → read_lines g c n e ended ≡ (gave tt e, ended)
  unfolding read_lines read_line bind once_read
  lines-ended zero e = refl
  lines-ended (suc n) e = lines-ended n e

  -- what n lines add
  pub lines-added : (n : ℕ) (e : Ed) (t : Tape) (x : Ed) (u : Tape) → read_lines g c n e t ≡ (gave tt x, u) → (w : Added e t x u) × Far n (length w.new) u
  unfolding read_lines read_line bind once_read added-one
  lines-added zero e t x u q =
      let s : (tt ≡ tt) × (e ≡ x) × (t ≡ u) = same-gave q in
      (record { new = []; fresh = tt; text = sym s.1 ∙ with_none e; left = rw (← s.2) (omega arith); ends = λ z. sym s.2 ∙ z }, inr refl)
  lines-added (suc n) e ended x u q =
      let s : (tt ≡ tt) × (e ≡ x) × (ended ≡ u) = same-gave (sym (lines-ended n e) ∙ q) in
      (record { new = []; fresh = tt; text = sym s.1 ∙ with_none e; left = rw (← s.2) (omega arith); ends = λ z. sym s.2 }, inl (sym s.2))
  lines-added (suc n) e (unread []) x u q =
      let s : (tt ≡ tt) × (e ≡ x) × (ended ≡ u) = same-gave (sym (lines-ended n e) ∙ q) in
      (record { new = []; fresh = tt; text = sym s.1 ∙ with_none e; left = rw (← s.2) (unfold rest_lines in (omega arith)); ends = λ z. sym s.2 }, inl (sym s.2))
  lines-added (suc n) e (unread (l ∷ ls)) x u q =
      as-comes (λ r t. once_read (λ e'. read_lines g c n e') r t ≡ (gave tt x, u) → (w : Added e (unread (l ∷ ls)) x u) × Far (suc n) (length w.new) u) g l e (left_by c l) (unread ls)
      (λ new is same q. more (kept l) (λ rs h. h) (lines-added n (seen (kept l) e) (unread ls) x u q))
      (λ new is differs room q. more (changed l new) (λ rs h. h) (lines-added n (seen (changed l new) e) (unread ls) x u q))
      (λ n why q. absurd (not_stopped q)) q
    where
      more : (r : Record) → ((rs : List Record) → Fresh rs → Fresh (r ∷ rs)) → (w : Added (seen r e) (unread ls) x u) × Far n (length w.new) u
          → (w : Added e (unread (l ∷ ls)) x u) × Far (suc n) (length w.new) u
      more r f (w, inl z) = (added-one r f w, inl z)
      more r f (w, inr z) = (added-one r f w, inr (ap suc z))

-- ---- up to a target

-- it is read
abbrev pub IsRead : Target → Ed → Tape → Type 0
IsRead here e t = Unit {0}
IsRead (line n) e t = (t ≡ ended) ⊎ (n ≤ sources (records e))
IsRead eof e t = t ≡ ended

-- it stays read
pub stays-read : (a : Target) {e x : Ed} {t u : Tape} → Added e t x u → IsRead a e t → IsRead a x u
stays-read here w h = tt
stays-read (line n) w (inl q) = inl (w.ends q)
stays-read (line n) {e} w (inr m) = inr (rw w.text (omega (arith, with-sources w.new e, m)))
stays-read eof w q = w.ends q

module _ (g : Given) (c : Carried) where
  -- then nothing is read
  pub read-nothing : (a : Target) (e : Ed) (t : Tape) → IsRead a e t → read_to g c a e t ≡ (gave tt e, t)
  unfolding read_to read_lines
  read-nothing here e t h = refl
  read-nothing (line n) e t (inl q) = rw q (lines-ended g c (n - sources (records e)) e)
  read-nothing (line n) e t (inr m) = let z : n - sources (records e) ≡ 0 = omega (arith, m) in ap (λ (i : ℕ). read_lines g c i e t) z
  read-nothing eof e t q = rw q (lines-ended g c (suc (length (rest_lines ended))) e)

  -- it is read once reading has come to it
  pub to-added : (a : Target) (e : Ed) (t : Tape) (x : Ed) (u : Tape) → read_to g c a e t ≡ (gave tt x, u) → Added e t x u
  unfolding read_to
  to-added here e t x u q =
      let s : (tt ≡ tt) × (e ≡ x) × (t ≡ u) = same-gave q in
      rw (← s.1, ← s.2) (added_none e t)
  to-added (line n) e t x u q = (lines-added g c (n - sources (records e)) e t x u q).0
  to-added eof e t x u q = (lines-added g c (suc (length (rest_lines t))) e t x u q).0

  pub to_read : (a : Target) (e : Ed) (t : Tape) (x : Ed) (u : Tape) → read_to g c a e t ≡ (gave tt x, u) → IsRead a x u
  unfolding read_to
  to_read here e t x u q = tt
  to_read (line n) e t x u q = by (lines-added g c (n - sources (records e)) e t x u q)
    where
      by : (w : Added e t x u) × Far (n - sources (records e)) (length w.new) u → (u ≡ ended) ⊎ (n ≤ sources (records x))
      by (w, inl z) = inl z
      by (w, inr z) = inr (rw w.text (omega (arith, with-sources w.new e, fresh-sources w.new w.fresh, z)))
  to_read eof e t x u q = by (lines-added g c (suc (length (rest_lines t))) e t x u q)
    where
      by : (w : Added e t x u) × Far (suc (length (rest_lines t))) (length w.new) u → u ≡ ended
      by (w, inl z) = z
      by (w, inr z) = absurd (omega (arith, w.left, z))

-- what is read is not read again, whatever stands then
pub read_again : (g : Given) (c : Carried) (a : Target) (e : Ed) (t : Tape) (x : Ed) (u : Tape) → read_to g c a e t ≡ (gave tt x, u) → (c' : Carried) → read_to g c' a x u ≡ (gave tt x, u)
read_again g c a e t x u q c' = read-nothing g c' a x u (to_read g c a e t x u q)

-- ---- programs

-- a program that reads nothing
unfoldable pub Still : {A : Type 0} → Program A → Type 0
Still (gives a) = Unit {0}
Still (stops n) = Unit {0}
Still (looks f) = (e : Ed) → Still (f e)
Still (reads a m) = ⊥
Still (moves x m) = Still m

pub still-then : {A B : Type 0} (m : Program A) (k : A → Program B) → Still m → ((a : A) → Still (k a)) → Still (◌>>=◌ m k)
unfolding Still ◌>>=◌
still-then (gives a) k h f = f a
still-then (stops n) k h f = tt
still-then (looks w) k h f = λ e. still-then (w e) k (h e) f
still-then (reads a m) k h f = absurd h
still-then (moves x m) k h f = still-then m k h f

pub go-still : (x : Move) → Still (go x)
unfolding go Still
go-still x = tt

-- it comes to the same whatever stands
pub still-runs : {A : Type 0} (g : Given) (c c' : Carried) (m : Program A) (e : Ed) (t : Tape) → Still m → runs g c m e t ≡ runs g c' m e t
unfolding Still runs once_moved
still-runs g c c' (gives a) e t h = refl
still-runs g c c' (stops n) e t h = refl
still-runs g c c' (looks f) e t h = still-runs g c c' (f e) e t (h e)
still-runs g c c' (reads a m) e t h = absurd h
still-runs {A} g c c' (moves x m) e t h = by (moved x e) (λ e'. still-runs g c c' m e' t h)
  where
    by : (y : Got Ed) → ((e' : Ed) → runs g c m e' t ≡ runs g c' m e' t) → once_moved (λ e'. runs g c m e') e y t ≡ once_moved (λ e'. runs g c' m e') e y t
    by (got e') f = f e'
    by (stop n) f = refl

-- THE LAW: a part m that has been read first, and then what reads nothing
pub part-first : {A B : Type 0} (g : Given) (c c' : Carried) (m : Program A) (k : A → Program B) → ((a : A) → Still (k a)) → (e : Ed) (t : Tape) {a : A} {x : Ed} {u : Tape}
    → runs g c m e t ≡ (gave a x, u) → runs g c' m x u ≡ (gave a x, u) → runs g c (◌>>=◌ m k) e t ≡ runs g c' (◌>>=◌ m k) x u
part-first g c c' m k still e t {a} {x} {u} q again =
    runs_on g c k m e t q ∙ still-runs g c c' (k a) x u (still a) ∙ sym (runs_on g c' k m x u again)

-- the two parts of a program that gave a value
pub record Parts {A B : Type 0} (g : Given) (c : Carried) (m : Program A) (k : A → Program B) (e : Ed) (t : Tape) (y : Ran B × Tape) : Type 0 where
  pub value : A
  pub text : Ed
  pub tape : Tape
  pub first : runs g c m e t ≡ (gave value text, tape)
  pub second : runs g c (k value) text tape ≡ y

pub parts : {A B : Type 0} (g : Given) (c : Carried) (m : Program A) (k : A → Program B) (e : Ed) (t : Tape) {b : B} {x : Ed} {u : Tape}
    → runs g c (◌>>=◌ m k) e t ≡ (gave b x, u) → Parts g c m k e t (gave b x, u)
parts {A} g c m k e t {b} {x} {u} q = by (runs g c m e t) refl
  where
    by : (y : Ran A × Tape) → runs g c m e t ≡ y → Parts g c m k e t (gave b x, u)
    by (gave a e', t') z = record { value = a; text = e'; tape = t'; first = z; second = sym (runs_on g c k m e t z) ∙ q }
    by (stopped n e', t') z = absurd (not_stopped (sym (runs-stop g c k m e t z) ∙ q))

-- ---- reading up to a target, and M

module _ (g : Given) (c : Carried) (a : Target) (e : Ed) (t : Tape) {x : Ed} {u : Tape} (q : runs g c (read_up_to a) e t ≡ (gave tt x, u)) where
  pub up_to-read : IsRead a x u
  up_to-read = to_read g c a e t x u (sym (runs-read g c a e t) ∙ q)

  pub up_to-again : (c' : Carried) → runs g c' (read_up_to a) x u ≡ (gave tt x, u)
  up_to-again c' = runs-read g c' a x u ∙ read_again g c a e t x u (sym (runs-read g c a e t) ∙ q) c'

  -- M: the line is read, and then moved to
  pub go_to-first : (c' : Carried) → runs g c (go_to a) e t ≡ runs g c' (go_to a) x u
  unfolding go_to ◌>>◌
  go_to-first c' = part-first g c c' (read_up_to a) (λ v. go (to a)) (λ v. go-still (to a)) e t q (up_to-again c')

-- ---- the next live line after k records

-- one is read, or EOF
abbrev pub PastRead : ℕ → Ed → Tape → Type 0
PastRead k e t = (has_live (drop k (after_of e)) ≡ true) ⊎ (t ≡ ended)

pub past_is : (g : Given) (c : Carried) (k : ℕ) (e : Ed) (t : Tape) (live : Bool) → has_live (drop k (after_of e)) ≡ live
    → runs g c (read_past k) e t ≡ runs g c (either live (gives tt) (read_up_to (line (suc (sources (records e)))))) e t
unfolding read_past runs
past_is g c k e t live q = ap (λ (b : Bool). runs g c (either b (gives tt) (read_up_to (line (suc (sources (records e)))))) e t) q

pub past-nothing : (g : Given) (c : Carried) (k : ℕ) (e : Ed) (t : Tape) → PastRead k e t → runs g c (read_past k) e t ≡ (gave tt e, t)
past-nothing g c k e t h = by (has_live (drop k (after_of e))) refl h
  where
    by : (live : Bool) → has_live (drop k (after_of e)) ≡ live → PastRead k e t → runs g c (read_past k) e t ≡ (gave tt e, t)
    by true q w = past_is g c k e t true q ∙ unfold either runs in refl
    by false q (inl z) = absurd (let v : ◌≡◌ {A = Bool} true false = sym z ∙ q in let n : ◌≡◌ {A = ℕ} 0 1 = cc in omega arith)
    by false q (inr z) =
        past_is g c k e t false q ∙ unfold either in (runs-read g c (line (suc (sources (records e)))) e t ∙ read-nothing g c (line (suc (sources (records e)))) e t (inl z))

live-last : (a : List Record) (r : Record) (rs : List Record) → Fresh (r ∷ rs) → has_live (a ++ (r ∷ rs)) ≡ true
unfolding has_live is_live
live-last [] (kept l) rs h = refl
live-last [] (changed o n) rs h = refl
live-last [] (deleted l) rs h = absurd h
live-last [] (inserted l) rs h = absurd h
live-last (kept l ∷ a) r rs h = refl
live-last (changed o n ∷ a) r rs h = refl
live-last (deleted l ∷ a) r rs h = live-last a r rs h
live-last (inserted l ∷ a) r rs h = refl

pub after-with : (rs : List Record) (e : Ed) → after_of (with_read rs e) ≡ after_of e ++ rs
unfolding with_read after_of
after-with rs (ed b a p) = refl

pub before-with : (rs : List Record) (e : Ed) → before_of (with_read rs e) ≡ before_of e
unfolding with_read before_of
before-with rs (ed b a p) = refl

module _ (g : Given) (c : Carried) (k : ℕ) (e : Ed) (t : Tape) {x : Ed} {u : Tape} (q : runs g c (read_past k) e t ≡ (gave tt x, u)) where
  abbrev N : ℕ
  N = suc (sources (records e))

  read_one : has_live (drop k (after_of e)) ≡ false → read_to g c (line N) e t ≡ (gave tt x, u)
  unfolding either
  read_one z = sym (runs-read g c (line N) e t) ∙ sym (past_is g c k e t false z) ∙ q

  read_none : has_live (drop k (after_of e)) ≡ true → (e ≡ x) × (t ≡ u)
  unfolding either runs
  read_none z =
      let s : (tt ≡ tt) × (e ≡ x) × (t ≡ u) = same-gave (sym (past_is g c k e t true z) ∙ q) in
      (s.1, s.2)

  pub past-added : Added e t x u
  past-added = by (has_live (drop k (after_of e))) refl
    where
      by : (live : Bool) → has_live (drop k (after_of e)) ≡ live → Added e t x u
      by true z = let s : (e ≡ x) × (t ≡ u) = read_none z in rw (← s.0, ← s.1) (added_none e t)
      by false z = to-added g c (line N) e t x u (read_one z)

  pub past-read : k ≤ length (after_of e) → PastRead k x u
  past-read few = by (has_live (drop k (after_of e))) refl
    where
      rest : (w : Added e t x u) → (u ≡ ended) ⊎ (N ≤ sources (records x)) → (rs : List Record) → w.new ≡ rs → Fresh rs → PastRead k x u
      rest w (inl z) rs q h = inr z
      rest w (inr m) [] q h = absurd (omega (arith, ap (λ (y : Ed). sources (records y)) w.text, with-sources w.new e, ap sources q, sources-nil, m))
      rest w (inr m) (r ∷ rs) q h =
          inl (ap (λ (y : Ed). has_live (drop k (after_of y))) w.text ∙ ap (λ (z : List Record). has_live (drop k z)) (after-with w.new e ∙ ap (λ (z : List Record). after_of e ++ z) q)
          ∙ ap has_live (drop-append-le k (after_of e) (r ∷ rs) few) ∙ live-last (drop k (after_of e)) r rs h)

      by : (live : Bool) → has_live (drop k (after_of e)) ≡ live → PastRead k x u
      by true z = let s : (e ≡ x) × (t ≡ u) = read_none z in inl (rw (← s.0) z)
      by false z =
          let w : Added e t x u = to-added g c (line N) e t x u (read_one z) in
          rest w (to_read g c (line N) e t x u (read_one z)) w.new refl w.fresh

  pub past-again : k ≤ length (after_of e) → (c' : Carried) → runs g c' (read_past k) x u ≡ (gave tt x, u)
  past-again few c' = past-nothing g c' k x u (past-read few)

-- ---- where a line is current

-- one is
abbrev pub HasLine : Ed → Type 0
HasLine e = 0 < length (after_of e)

pub line-runs : {A : Type 0} (g : Given) (c : Carried) (n : StopNumber) (k : Line × ℕ → Program A) (e : Ed) (t : Tape) → HasLine e
    → runs g c (◌>>=◌ (line_or n) k) e t ≡ runs g c (k (current_line e, point_of e)) e t
unfolding after_of
line-runs g c n k (ed b [] p) t h = absurd (omega (arith, h))
line-runs g c n k (ed b (r ∷ a) p) t h = runs-line g c n k b r a p t

-- reading leaves it, and p
pub line_stays : {e x : Ed} {t u : Tape} → Added e t x u → HasLine e → HasLine x
line_stays {e} w h = rw (w.text, after-with w.new e) (omega (arith, length-append (after_of e) w.new, h))

line-with : (rs : List Record) (e : Ed) → HasLine e → (current_line (with_read rs e) ≡ current_line e) × (point_of (with_read rs e) ≡ point_of e)
unfolding with_read after_of
line-with rs (ed b [] p) h = absurd (omega (arith, h))
line-with rs (ed b (r ∷ a) p) h = (refl, refl)

pub line_same : {e x : Ed} {t u : Tape} → Added e t x u → HasLine e → ◌≡◌ {A = Line × ℕ} (current_line x, point_of x) (current_line e, point_of e)
line_same {e} w h =
    let s : (current_line (with_read w.new e) ≡ current_line e) × (point_of (with_read w.new e) ≡ point_of e) = line-with w.new e h in
    rw (w.text, s.0, s.1)

-- N, CL, and F and DF where they go on: the next live line is read, and what follows reads nothing
module _ {A : Type 0} (g : Given) (c : Carried) (e : Ed) (t : Tape) (h : HasLine e) {x : Ed} {u : Tape} (q : runs g c (read_past 1) e t ≡ (gave tt x, u)) where
  pub ahead-first : (c' : Carried) (k : Unit {0} → Program A) → ((v : Unit {0}) → Still (k v)) → runs g c (◌>>=◌ (read_past 1) k) e t ≡ runs g c' (◌>>=◌ (read_past 1) k) x u
  ahead-first c' k still = part-first g c c' (read_past 1) k still e t q (past-again g c 1 e t q (omega (arith, h)) c')
