-- How far reading has come: what is read stays read, and the first source line, or EOF, is read from the start on.
use Rattle.std.specs.Prelude.{◌≡◌, refl, ℕ, suc, ◌≤◌, ◌<◌, length}
use Rattle.std.proofs.Common.{sym, arith}
use Rattle.std.proofs.Math.Path.{subst}
use mathlib.Core.List.{List, [], ◌∷◌, reverse_aux}
use Rattle.definitions.specs.Bytes.{Line}
use Rattle.definitions.specs.Journal.{Record, kept, old_side}
use Rattle.definitions.specs.Tape.{Tape, unread, ended}
use Rattle.definitions.specs.Given.{Given, Global, carried}
use Rattle.definitions.specs.Editor.{ed, records, sources, furthest}
use Rattle.definitions.specs.StepProgram.{Program, RunState, state, text_of, Did}
use Rattle.definitions.specs.Edit.{program, step}
use Rattle.definitions.specs.Control.{Ctl}
use Rattle.definitions.specs.Run.{End, end, run}
use Rattle.theorems.specs.Each.{each_all}
use Rattle.theorems.specs.Reading.{At}
use Rattle.theorems.specs.Runs.{inner-all, ctl-all, EndOf, AtEnd, run_ends}
use Rattle.theorems.specs.Changes.{Statement, Closed, Keeps, HoldsState, any-keeps, step_keeps}
use Rattle.theorems.specs.RecordLaws.{reverse-append, sources-append, old-same, erase-old, rewrite-old, insert-old}

-- n are among m, or EOF is read
abbrev pub AtLeast : Tape → ℕ → ℕ → Type 0
AtLeast ended n m = Unit {0}
AtLeast (unread ls) n m = n ≤ m

pub at_least-of : (t : Tape) (n m : ℕ) → n ≤ m → AtLeast t n m
at_least-of ended n m h = tt
at_least-of (unread ls) n m h = h

pub at_least-more : (t : Tape) (n m n' m' : ℕ) → (n ≤ m → n' ≤ m') → AtLeast t n m → AtLeast t n' m'
at_least-more ended n m n' m' f h = tt
at_least-more (unread ls) n m n' m' f h = f h

pub at_least-both : (t : Tape) (n m k n' m' : ℕ) → (n ≤ m → k ≤ m → n' ≤ m') → AtLeast t n m → AtLeast t k m → AtLeast t n' m'
at_least-both ended n m k n' m' f h i = tt
at_least-both (unread ls) n m k n' m' f h i = f h i

pub at_least-none : (t : Tape) (n m : ℕ) → m < n → AtLeast t n m → t ≡ ended
at_least-none ended n m l h = refl
at_least-none (unread ls) n m l h = absurd (omega (arith, l, h))

-- ---- what is read stays read

-- "furthest read" is at least k: of the source lines n are read, and EOF counts as one more
abbrev pub FarAs : ℕ → Tape → ℕ → Type 0
FarAs k ended n = k ≤ suc n
FarAs k (unread ls) n = k ≤ n

abbrev pub HasRead : ℕ → Statement
HasRead k before after t = FarAs k t (sources (reverse_aux before after))

-- the first source line, or EOF, is read
abbrev pub Sourced : Statement
Sourced = HasRead 1

pub first_read : (t : Tape) (n : ℕ) → FarAs 1 t n → AtLeast t 1 n
first_read ended n h = tt
first_read (unread ls) n h = h

-- nothing is asked of lines, texts and globals
abbrev pub AnyLine : Line → Type 0
AnyLine l = Unit {0}

abbrev pub AnyText : Line → Line → Type 0
AnyText old new = Unit {0}

abbrev pub AnyGlobal : Global → Type 0
AnyGlobal x = Unit {0}

module _ (k : ℕ) where
  -- the same old lines
  read_same : (t : Tape) (xs ys : List Record) → old_side xs ≡ old_side ys → FarAs k t (sources ys) → FarAs k t (sources xs)
  unfolding sources
  read_same t xs ys e h = subst (λ (ls : List Line). FarAs k t (length ls)) (sym e) h

  -- every change keeps it
  pub read-closed : Closed AnyLine AnyText AnyGlobal (HasRead k)
  read-closed = record {
    over = λ before r after t h. h;
    back = λ before r after t h. h;
    erases = λ before r after t h. read_same t _ (reverse_aux before (r ∷ after)) (erase-old before r after) h;
    rewrites = λ before r after t l x h. read_same t _ (reverse_aux before (r ∷ after)) (old-same before _ (r ∷ after) (rewrite-old r l after)) h;
    inserts = λ before after t l x h. read_same t _ (reverse_aux before after) (insert-old before l after) h;
    reads = λ before after l ls h. rw (reverse-append before after (kept l ∷ []), sources-append) (omega (arith, h));
    ends = λ before after h. omega (arith, h);
    passes = λ gs l new a q. tt;
  }

  -- so does every program
  pub read_keeps : (m : Program Did) → Keeps AnyLine AnyText AnyGlobal (HasRead k) m
  read_keeps m = any-keeps AnyLine AnyText AnyGlobal (HasRead k) read-closed (λ l. tt) (λ old new. tt) (λ x. tt) m

  -- ---- and so does a run, from wherever it goes on

  far-read : (s : RunState) (t : Tape) → k ≤ furthest (text_of s) t → HoldsState AnyGlobal (HasRead k) s t
  unfolding furthest text_of records
  far-read (state (ed before after p) (carried gs xs)) ended h = (h, each_all AnyGlobal (λ x. tt) gs)
  far-read (state (ed before after p) (carried gs xs)) (unread ls) h = (h, each_all AnyGlobal (λ x. tt) gs)

  read-far : (s : RunState) (t : Tape) → HoldsState AnyGlobal (HasRead k) s t → k ≤ furthest (text_of s) t
  unfolding furthest text_of records
  read-far (state (ed before after p) c) ended h = h.0
  read-far (state (ed before after p) c) (unread ls) h = h.0

-- furthest read never falls: the run from a state on ends with no less
pub run-further : (g : Given) (more steps : ℕ) (c : Ctl) (s : RunState) (t : Tape) → At (EndOf (λ n s' t'. furthest (text_of s) t ≤ furthest (text_of s') t')) (run (step g) more steps c s t)
run-further g more steps c s t = by (run (step g) more steps c s t).0 (run (step g) more steps c s t).1 kept_read
  where
    far : ℕ
    far = furthest (text_of s) t

    kept_read : At (AtEnd (HoldsState AnyGlobal (HasRead far))) (run (step g) more steps c s t)
    kept_read =
        run_ends (λ op. Unit {0}) (inner-all (λ op. Unit {0}) (λ op. tt)) (HoldsState AnyGlobal (HasRead far)) (λ n. HoldsState AnyGlobal (HasRead far)) (λ s' t' h. h) (λ s' t' h. h)
        (step g) (λ op s' t' u. step_keeps AnyLine AnyText AnyGlobal (HasRead far) (read-closed far) g op s' t' (λ isWord. read_keeps far (program isWord op))) more steps c s t
        (ctl-all (λ op. Unit {0}) (λ op. tt) c) (far-read far s t (omega arith))

    by : (x : End) (t' : Tape) → AtEnd (HoldsState AnyGlobal (HasRead far)) x t' → EndOf (λ n s'' t''. far ≤ furthest (text_of s'') t'') x t'
    by (end n made at s') t' h = read-far far s' t' h
