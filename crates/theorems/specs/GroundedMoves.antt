-- The parts of programs that read and move: where they come to, EOF has been read or a live line is current.
use Rattle.std.specs.Prelude.{◌≡◌, Bool, length, drop, leb}
use Rattle.std.proofs.Math.Path.{refl}
use Rattle.std.proofs.Math.Bool.{true, false}
use Rattle.std.proofs.Math.Option.{Option, none, some}
use mathlib.Core.List.{List, [], ◌∷◌, ◌++◌, reverse_aux}
use Prim.Native.Nat.{ℕ, zero, suc, ◌+◌, ◌-◌, ◌≤◌}
use Rattle.std.proofs.Common.{arith, le_of_suc-le-suc}
use borrow.Author.Tests.{leb-false}
use Rattle.definitions.specs.Bytes.{Line}
use Rattle.definitions.specs.Journal.{Record, kept, changed, deleted, inserted, old_of, old_side}
use Rattle.definitions.specs.Tape.{Tape, unread, ended}
use Rattle.definitions.specs.Given.{Given, Carried}
use Rattle.definitions.specs.Editor.{Ed, ed, records, sources, before_of, after_of, has_live, first_live, Stop, n20, n28, n30, stop_number, Target, here, line, eof, Through, alone, up_to, to_eof}
use Rattle.definitions.specs.Editor.{Move, ahead, back, to, point_to, go_back, locate, moved}
use Rattle.definitions.specs.StepProgram.{Program, gives, looks, ◌>>=◌, ◌>>◌, runs}
use Rattle.definitions.specs.Edit.{or_stop, either, see, read_up_to, go, read_past, go_ahead, go_to, line_in, line_or, next_or30, count_through, reach, span}
use Rattle.theorems.specs.Each.{Each}
use Rattle.theorems.specs.RecordLaws.{sources-reverse}
use Rattle.theorems.specs.ComesTo.{Gives, OnGot, then-comes, and-comes, go-comes, test-comes}
use Rattle.theorems.specs.Changes.{HoldsEd}
use Rattle.theorems.specs.ReadFar.{AtLeast, at_least-more, at_least-both, at_least-none, Sourced, first_read}
use Rattle.theorems.specs.Reaching.{Grounded, other-number, Halts, ComesGrounded, Reaches, land-grounded, reaches-ended, reaches-live, reaches-none, drop-over, AsRead, reaches-read, ReadUpTo, sources-read, read-comes}

-- ---- where a part has come to

abbrev pub Ground : {A : Type 0} → A → Ed → Tape → Type 0
Ground a e t = Grounded e t

-- a line is current
abbrev pub OnLine : Ed → Tape → Type 0
OnLine (ed before [] p) t = ⊥
OnLine (ed before (r ∷ after) p) t = Grounded (ed before (r ∷ after) p) t

-- a live line, or EOF, is read after the k records from the current one on
abbrev pub Spans : ℕ → Ed → Tape → Type 0
Spans k (ed before after p) t = Grounded (ed before after p) t × Reaches (drop k after) t

-- there are k records from the current one on
abbrev Counted : ℕ → Ed → Tape → Type 0
Counted k (ed before after p) t = Grounded (ed before after p) t × (k ≤ length after)

pub line-grounded : (e : Ed) (t : Tape) → OnLine e t → Grounded e t
line-grounded (ed before [] p) t h = absurd h
line-grounded (ed before (r ∷ after) p) t h = h

pub spans-grounded : (k : ℕ) (e : Ed) (t : Tape) → Spans k e t → Grounded e t
spans-grounded k (ed before after p) t h = h.0

-- p does not matter
same_line : (before after : List Record) (p q : ℕ) (t : Tape) → Grounded (ed before after p) t → Grounded (ed before after q) t
same_line before [] p q t h = h
same_line before (r ∷ after) p q t h = h

-- ---- moves among the records that are read

abbrev GroundedGot : Ed → Tape → Move → Type 0
GroundedGot e t x = OnGot (λ e'. Grounded e' t) (λ n. Halts n e t) (moved x e)

go_back-grounded : (e : Ed) (t : Tape) → Grounded e t → (before after : List Record) → OnGot (λ e'. Grounded e' t) (λ n. Halts n e t) (go_back before after)
unfolding go_back stop_number
go_back-grounded e t h [] after = other-number 22 e t tt h
go_back-grounded e t h (kept l ∷ before) after = tt
go_back-grounded e t h (changed o n ∷ before) after = tt
go_back-grounded e t h (deleted l ∷ before) after = go_back-grounded e t h before (deleted l ∷ after)
go_back-grounded e t h (inserted l ∷ before) after = tt

at_least-pred : (t : Tape) (n m : ℕ) → AtLeast t (suc (suc n)) (suc m) → AtLeast t (suc n) m
at_least-pred t n m h = at_least-more t (suc (suc n)) (suc m) (suc n) m le_of_suc-le-suc h

locate-grounded : (e : Ed) (t : Tape) → Grounded e t → (k : ℕ) (before rs : List Record) → AtLeast t (suc k) (sources rs)
    → OnGot (λ e'. Grounded e' t) (λ n. Halts n e t) (locate k before rs)
unfolding locate stop_number sources old_side old_of
locate-grounded e t h k before [] f = (h, λ x. at_least-none t (suc k) 0 (omega arith) f)
locate-grounded e t h k before (inserted l ∷ rs) f = locate-grounded e t h k (inserted l ∷ before) rs f
locate-grounded e t h zero before (kept l ∷ rs) f = tt
locate-grounded e t h zero before (changed o n ∷ rs) f = tt
locate-grounded e t h zero before (deleted l ∷ rs) f = other-number 23 e t tt h
locate-grounded e t h (suc k) before (kept l ∷ rs) f = locate-grounded e t h k (kept l ∷ before) rs (at_least-pred t k (length (old_side rs)) f)
locate-grounded e t h (suc k) before (changed o n ∷ rs) f = locate-grounded e t h k (changed o n ∷ before) rs (at_least-pred t k (length (old_side rs)) f)
locate-grounded e t h (suc k) before (deleted l ∷ rs) f = locate-grounded e t h k (deleted l ∷ before) rs (at_least-pred t k (length (old_side rs)) f)

back-grounded : (e : Ed) (t : Tape) → Grounded e t → GroundedGot e t back
unfolding moved
back-grounded (ed before after p) t h = go_back-grounded (ed before after p) t h before after

point-grounded : (q : ℕ) (e : Ed) (t : Tape) → Grounded e t → GroundedGot e t (point_to q)
unfolding moved
point-grounded q (ed before after p) t h = same_line before after p q t h

ahead-grounded : (e : Ed) (t : Tape) → Spans 1 e t → GroundedGot e t ahead
unfolding moved
ahead-grounded (ed before [] p) t h = h.0
ahead-grounded (ed before (r ∷ after) p) t h = land-grounded (r ∷ before) after t h.1

-- to a target that is read
arrived : (a : Target) (before after : List Record) (p : ℕ) (t : Tape) (rs : List Record) (t' : Tape) → AtLeast t 1 (sources (reverse_aux before after)) → ReadUpTo a before after p t rs t'
    → GroundedGot (ed before (after ++ rs) p) t' (to a)
unfolding moved records
arrived here before after p t rs t' s r = same_line before (after ++ rs) p 0 t' r.grounded
arrived (line n) before after p t rs t' s r =
    locate-grounded (ed before (after ++ rs) p) t' r.grounded (n - 1) [] (reverse_aux before (after ++ rs))
    (at_least-both t' n _ 1 (suc (n - 1)) _ (λ x y. omega (arith, x, y)) r.reached (r.still 1 s))
arrived eof before after p t rs t' s r = r.reached

module _ (g : Given) (c : Carried) where
  pub go-grounded : (x : Move) (e : Ed) (t : Tape) → GroundedGot e t x → ComesGrounded g c Ground (go x) e t
  go-grounded x e t h = go-comes g c Ground Halts x e t h

  pub back-comes : (e : Ed) (t : Tape) → Grounded e t → ComesGrounded g c Ground (go back) e t
  back-comes e t h = go-grounded back e t (back-grounded e t h)

  pub point-comes : (q : ℕ) (e : Ed) (t : Tape) → Grounded e t → ComesGrounded g c Ground (go (point_to q)) e t
  point-comes q e t h = go-grounded (point_to q) e t (point-grounded q e t h)

  -- ---- with reading

  pub line_or-comes : (n : Stop) (e : Ed) (t : Tape) → Grounded e t → ComesGrounded g c (λ x. OnLine) (line_or n) e t
  unfolding line_or line_in runs
  line_or-comes n (ed before [] p) t h = (h, λ x. h)
  line_or-comes n (ed before (r ∷ after) p) t h = h

  past-reaches : (k : ℕ) (before after rs : List Record) (t : Tape) → Each AsRead rs → k ≤ length after
      → AtLeast t (suc (sources (reverse_aux before after))) (sources (reverse_aux before (after ++ rs))) → Reaches (drop k (after ++ rs)) t
  past-reaches k before after rs ended a le h = reaches-ended (drop k (after ++ rs))
  past-reaches k before after [] (unread us) a le h = absurd (omega (arith, h, sources-read before after [] tt))
  past-reaches k before after (r ∷ rs) (unread us) a le h = rw (drop-over k after (r ∷ rs) le) (reaches-read (drop k after) r rs (unread us) a.0)

  -- the next live line after k records
  pub read_past-comes : {A : Type 0} (Q : Gives A) (k : ℕ) (m : Program A) (e : Ed) (t : Tape) → Counted k e t → ((e' : Ed) (t' : Tape) → Spans k e' t' → ComesGrounded g c Q m e' t')
      → ComesGrounded g c Q (◌>>◌ (read_past k) m) e t
  unfolding read_past after_of records ◌>>◌ ◌>>=◌ runs
  read_past-comes Q k m (ed before after p) t h f = by (has_live (drop k after)) refl
    where
      by : (x : Bool) → has_live (drop k after) ≡ x → ComesGrounded g c Q (◌>>=◌ (either x (gives (tt {0})) (read_up_to (line (suc (sources (reverse_aux before after)))))) (λ u. m)) (ed before after p) t
      by true q = unfold either ◌>>=◌ in (f (ed before after p) t (h.0, reaches-live (drop k after) t q))
      by false q = unfold either in (unfold ◌>>◌ in (read-comes g c Q m before after p t h.0 (line (suc (sources (reverse_aux before after))))
          (λ rs t' r. f (ed before (after ++ rs) p) t' (r.grounded, past-reaches k before after rs t' r.as_read h.1 r.reached))))

  pub go_ahead-comes : (e : Ed) (t : Tape) → OnLine e t → ComesGrounded g c Ground go_ahead e t
  unfolding go_ahead
  go_ahead-comes (ed before [] p) t h = absurd h
  go_ahead-comes (ed before (r ∷ after) p) t h =
      read_past-comes Ground 1 (go ahead) (ed before (r ∷ after) p) t (h, omega arith) (λ e' t' s. go-grounded ahead e' t' (ahead-grounded e' t' s))

  -- CL's next line: where there is none, EOF is read
  next-found : (o : Option Line) (b : List Record) (x : Record) (a : List Record) (q : ℕ) (t : Tape) → first_live a ≡ o → Spans 1 (ed b (x ∷ a) q) t
      → ComesGrounded g c (λ l. OnLine) (or_stop n30 o) (ed b (x ∷ a) q) t
  unfolding or_stop runs stop_number
  next-found none b x a q t e s = (s.0, λ y. reaches-none a t e s.1)
  next-found (some l) b x a q t e s = s.0

  next_of : (e : Ed) (t : Tape) → Spans 1 e t → ComesGrounded g c (λ l. OnLine) (◌>>=◌ (see after_of) (λ rs. or_stop n30 (first_live (drop 1 rs)))) e t
  unfolding see after_of ◌>>=◌ runs
  next_of (ed b [] q) t s = unfold first_live or_stop runs stop_number in (s.0, λ x. s.0)
  next_of (ed b (x ∷ a) q) t s = next-found (first_live a) b x a q t refl s

  pub next_or30-comes : (e : Ed) (t : Tape) → OnLine e t → ComesGrounded g c (λ l. OnLine) next_or30 e t
  unfolding next_or30
  next_or30-comes (ed before [] p) t h = absurd h
  next_or30-comes (ed before (r ∷ after) p) t h = read_past-comes (λ l. OnLine) 1 _ (ed before (r ∷ after) p) t (h, omega arith) next_of

  pub go_to-comes : (a : Target) (e : Ed) (t : Tape) → HoldsEd Sourced e t → Grounded e t → ComesGrounded g c Ground (go_to a) e t
  unfolding go_to
  go_to-comes a (ed before after p) t s h =
      read-comes g c Ground (go (to a)) before after p t h a (λ rs t' r. go-grounded (to a) (ed before (after ++ rs) p) t' (arrived a before after p t rs t' (first_read t _ s) r))

  -- ---- D

  count-comes : (e : Ed) (t : Tape) → Grounded e t → (n k : ℕ) (rs : List Record) → AtLeast t (suc k) (sources rs) → n + length rs ≤ length (after_of e) → ComesGrounded g c Counted (count_through n k rs) e t
  unfolding count_through stop_number sources old_side old_of runs after_of
  count-comes e t h n k [] f l = (h, λ x. at_least-none t (suc k) 0 (omega arith) f)
  count-comes e t h n k (inserted m ∷ rs) f l = count-comes e t h (suc n) k rs f (omega (arith, l))
  count-comes (ed before after p) t h n zero (kept m ∷ rs) f l = (h, omega (arith, l))
  count-comes (ed before after p) t h n zero (changed o m ∷ rs) f l = (h, omega (arith, l))
  count-comes e t h n zero (deleted m ∷ rs) f l = other-number 23 e t tt h
  count-comes e t h n (suc k) (kept m ∷ rs) f l = count-comes e t h (suc n) k rs (at_least-pred t k (length (old_side rs)) f) (omega (arith, l))
  count-comes e t h n (suc k) (changed o m ∷ rs) f l = count-comes e t h (suc n) k rs (at_least-pred t k (length (old_side rs)) f) (omega (arith, l))
  count-comes e t h n (suc k) (deleted m ∷ rs) f l = count-comes e t h (suc n) k rs (at_least-pred t k (length (old_side rs)) f) (omega (arith, l))

  reach-comes : (b : Through) (e : Ed) (t : Tape) → OnLine e t → ComesGrounded g c Counted (reach b) e t
  unfolding reach see before_of ◌>>=◌ runs
  reach-comes b (ed before [] p) t h = absurd h
  reach-comes alone (ed before (r ∷ after) p) t h = (h, omega arith)
  reach-comes to_eof (ed before (r ∷ after) p) t h =
      read-comes g c Counted (looks (λ e. gives (length (after_of e)))) before (r ∷ after) p t h eof (λ rs t' q. unfold runs after_of in (q.grounded, omega arith))
  reach-comes (up_to b) (ed before (r ∷ after) p) t h =
      test-comes g c Counted Halts n28 (leb b (sources before)) _ (ed before (r ∷ after) p) t (λ x. unfold stop_number in (other-number 28 (ed before (r ∷ after) p) t tt h))
      (λ x. read-comes g c Counted (looks (λ e. count_through 0 (b - suc (sources before)) (after_of e))) before (r ∷ after) p t h (line b)
      (λ rs t' q. unfold runs after_of in (count-comes (ed before ((r ∷ after) ++ rs) p) t' q.grounded 0 (b - suc (sources before)) ((r ∷ after) ++ rs)
      (at_least-more t' b _ (suc (b - suc (sources before))) _
      (λ y. omega (arith, y, sources-reverse before ((r ∷ after) ++ rs), leb-false b (sources before) x)) q.reached) (unfold after_of in (omega arith)))))

  pub span-comes : (a : Target) (b : Through) (e : Ed) (t : Tape) → HoldsEd Sourced e t → Grounded e t → ComesGrounded g c Spans (span a b) e t
  unfolding span
  span-comes a b e t s h =
      and-comes g c Ground Spans Halts (go_to a) _ e t (go_to-comes a e t s h) (λ u e₁ t₁ h₁.
      and-comes g c (λ x. OnLine) Spans Halts (line_or n20) _ e₁ t₁ (line_or-comes n20 e₁ t₁ h₁) (λ x e₂ t₂ h₂.
      then-comes g c Counted Spans Halts (reach b) _ e₂ t₂ (reach-comes b e₂ t₂ h₂) (λ k e₃ t₃ h₃. read_past-comes Spans k (gives k) e₃ t₃ h₃ (λ e₄ t₄ h₄. unfold runs in h₄))))
