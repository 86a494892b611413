-- Two journals gone through by their middle lines (document 02, wish 7): the laws of that, before anything is arranged.
use Rattle.std.specs.Prelude.{◌≡◌, ℕ, ◌+◌, ◌≤◌, length}
use Rattle.std.proofs.Math.Path.{refl, sym, ap, fun_ext}
use Rattle.std.proofs.Common.{◌∙◌, arith}
use mathlib.Core.List.{List, [], ◌∷◌, ◌++◌, map, tail}
use Rattle.definitions.specs.Bytes.{Line}
use Rattle.definitions.specs.Journal.{Record, kept, changed, deleted, inserted, old_of, old_side, new_of, new_side, record_length, journal_length, change, rewrite, erase}
use Rattle.definitions.specs.Joining.{at_middle, by_middle}
use Rattle.theorems.specs.Each.{Each, each_append}
use Rattle.theorems.specs.RecordLaws.{by-change, change-same, change-other, LiveRecord, rewrite-live, rewrite-again, erase-again, rewrite-old, erase-first}
use Rattle.theorems.specs.ArrangeLaws.{then}
use Rattle.theorems.specs.Lines.{equal-itself, equal_is}
use Rattle.theorems.specs.JournalBytes.{GoodRecord}
use Rattle.theorems.specs.GoodLines.{rewrite-good, erase-good}

-- ---- three journals, two of them first

-- a record of the first journal that has a middle line
pub live-middle : (r : Record) (rs ss : List Record) → LiveRecord r → by_middle (r ∷ rs) ss ≡ at_middle r (by_middle rs) ss
unfolding by_middle
live-middle (kept l) rs ss h = refl
live-middle (changed o n) rs ss h = refl
live-middle (deleted l) rs ss h = absurd h
live-middle (inserted l) rs ss h = refl

erased-middle : (r : Record) (rs ss : List Record) → by_middle (erase r ++ rs) ss ≡ erase r ++ by_middle rs ss
unfolding erase by_middle
erased-middle (kept l) rs ss = refl
erased-middle (changed o n) rs ss = refl
erased-middle (deleted l) rs ss = refl
erased-middle (inserted l) rs ss = refl

-- `r`: a record of the first journal; `f`: what follows it, by the second journal's records
module _ (r : Record) (f : List Record → List Record) where
  pub at-change : (old new : Line) (ss : List Record) → at_middle r f (change old new ∷ ss) ≡ rewrite r new ∷ f ss
  unfolding at_middle
  at-change old new ss =
      by-change (λ s. at_middle r f (s ∷ ss) ≡ rewrite r new ∷ f ss) old new (λ e. ap (λ l. rewrite r l ∷ f ss) (equal_is old new e)) (λ e. refl)

  -- the second journal has inserted a line before it
  after-inserted : (l : Line) (g k : List Record → List Record) → ((ts : List Record) → g ts ≡ at_middle r f (k ts))
      → (ts : List Record) → at_middle (inserted l) g ts ≡ at_middle r f (at_middle (inserted l) k ts)
  unfolding at_middle rewrite erase
  after-inserted l g k h [] = ap (then (inserted l)) (h [])
  after-inserted l g k h (kept m ∷ ts) = ap (then (inserted m)) (h ts)
  after-inserted l g k h (changed m n ∷ ts) = ap (then (inserted n)) (h ts)
  after-inserted l g k h (deleted m ∷ ts) = h ts
  after-inserted l g k h (inserted m ∷ ts) = ap (then (inserted m)) (after-inserted l g k h ts)

  -- the second journal has its line as `s`: from `old` to `new`
  after-stays : (s : Record) (old new : Line) → ((ss : List Record) → at_middle r f (s ∷ ss) ≡ rewrite r new ∷ f ss) → ((l : Line) → rewrite s l ≡ change old l) → erase s ≡ deleted old ∷ []
      → (g k : List Record → List Record) → ((ts : List Record) → g ts ≡ f (k ts)) → (ts : List Record) → at_middle (rewrite r new) g ts ≡ at_middle r f (at_middle s k ts)
  unfolding at_middle
  after-stays s old new stays again gone g k h [] = ap (then (rewrite r new)) (h []) ∙ sym (stays (k []))
  after-stays s old new stays again gone g k h (kept l ∷ ts) = rw (rewrite-again r new l, h ts, again l, at-change old l (k ts))
  after-stays s old new stays again gone g k h (changed m l ∷ ts) = rw (rewrite-again r new l, h ts, again l, at-change old l (k ts))
  after-stays s old new stays again gone g k h (deleted l ∷ ts) = rw (erase-again r new, h ts, gone)
  after-stays s old new stays again gone g k h (inserted l ∷ ts) = ap (then (inserted l)) (after-stays s old new stays again gone g k h ts)

  at-middle-assoc : LiveRecord r → ((ss ts : List Record) → by_middle (f ss) ts ≡ f (by_middle ss ts)) → (ss ts : List Record) → by_middle (at_middle r f ss) ts ≡ at_middle r f (by_middle ss ts)
  unfolding by_middle at_middle rewrite erase
  at-middle-assoc live h [] ts = live-middle r (f []) ts live ∙ ap (λ g. at_middle r g ts) (fun_ext (λ us. h [] us))
  at-middle-assoc live h (kept l ∷ ss) ts =
      live-middle (rewrite r l) (f ss) ts (rewrite-live r l live) ∙ after-stays (kept l) l l (λ us. refl) (λ n. refl) refl (by_middle (f ss)) (by_middle ss) (h ss) ts
  at-middle-assoc live h (changed o l ∷ ss) ts =
      live-middle (rewrite r l) (f ss) ts (rewrite-live r l live) ∙ after-stays (changed o l) o l (λ us. refl) (λ n. refl) refl (by_middle (f ss)) (by_middle ss) (h ss) ts
  at-middle-assoc live h (deleted l ∷ ss) ts = erased-middle r (f ss) ts ∙ ap (λ q. erase r ++ q) (h ss ts)
  at-middle-assoc live h (inserted l ∷ ss) ts = after-inserted l (by_middle (at_middle r f ss)) (by_middle ss) (at-middle-assoc live h ss) ts

-- record by record it is the same whichever two of three journals come first
pub middle-assoc : (rs ss ts : List Record) → by_middle (by_middle rs ss) ts ≡ by_middle rs (by_middle ss ts)
unfolding by_middle
middle-assoc [] ss ts = refl
middle-assoc (kept l ∷ rs) ss ts = at-middle-assoc (kept l) (by_middle rs) tt (middle-assoc rs) ss ts
middle-assoc (changed o n ∷ rs) ss ts = at-middle-assoc (changed o n) (by_middle rs) tt (middle-assoc rs) ss ts
middle-assoc (deleted l ∷ rs) ss ts = ap (then (deleted l)) (middle-assoc rs ss ts)
middle-assoc (inserted l ∷ rs) ss ts = at-middle-assoc (inserted l) (by_middle rs) tt (middle-assoc rs) ss ts

-- ---- the old side

-- `m`: the middle line of `r`
module _ (r : Record) (m : Line) (rs : List Record) (f : List Record → List Record) (rest : (ss : List Record) → new_side rs ≡ old_side ss → old_side (f ss) ≡ old_side rs) where
  at-middle-old : (ss : List Record) → m ∷ new_side rs ≡ old_side ss → old_side (at_middle r f ss) ≡ old_side (r ∷ rs)
  unfolding at_middle old_side old_of
  at-middle-old [] e = ap (λ ls. old_of r ++ ls) (rest [] (ap tail e))
  at-middle-old (kept l ∷ ss) e = rewrite-old r l (f ss) ∙ ap (λ ls. old_of r ++ ls) (rest ss (ap tail e))
  at-middle-old (changed o l ∷ ss) e = rewrite-old r l (f ss) ∙ ap (λ ls. old_of r ++ ls) (rest ss (ap tail e))
  at-middle-old (deleted l ∷ ss) e = erase-first r (f ss) ∙ ap (λ ls. old_of r ++ ls) (rest ss (ap tail e))
  at-middle-old (inserted l ∷ ss) e = at-middle-old ss e

pub middle-old : (rs ss : List Record) → new_side rs ≡ old_side ss → old_side (by_middle rs ss) ≡ old_side rs
unfolding by_middle new_side new_of old_side old_of
middle-old [] ss e = sym e
middle-old (kept l ∷ rs) ss e = at-middle-old (kept l) l rs (by_middle rs) (middle-old rs) ss e
middle-old (changed o n ∷ rs) ss e = at-middle-old (changed o n) n rs (by_middle rs) (middle-old rs) ss e
middle-old (deleted l ∷ rs) ss e = ap {B = List Line} (λ ls. l ∷ ls) (middle-old rs ss e)
middle-old (inserted l ∷ rs) ss e = at-middle-old (inserted l) l rs (by_middle rs) (middle-old rs) ss e

-- ---- good records

module _ (r : Record) (f : List Record → List Record) (good : GoodRecord r) (rest : (ss : List Record) → Each GoodRecord ss → Each GoodRecord (f ss)) where
  at-middle-good : (ss : List Record) → Each GoodRecord ss → Each GoodRecord (at_middle r f ss)
  unfolding at_middle
  at-middle-good [] h = (good, rest [] tt)
  at-middle-good (kept l ∷ ss) h = (rewrite-good r l good h.0, rest ss h.1)
  at-middle-good (changed o l ∷ ss) h = (rewrite-good r l good h.0.1, rest ss h.1)
  at-middle-good (deleted l ∷ ss) h = each_append GoodRecord (erase r) (f ss) (erase-good r good) (rest ss h.1)
  at-middle-good (inserted l ∷ ss) h = (h.0, at-middle-good ss h.1)

pub middle-good : (rs ss : List Record) → Each GoodRecord rs → Each GoodRecord ss → Each GoodRecord (by_middle rs ss)
unfolding by_middle
middle-good [] ss h k = k
middle-good (kept l ∷ rs) ss h k = at-middle-good (kept l) (by_middle rs) h.0 (λ ts. middle-good rs ts h.1) ss k
middle-good (changed o n ∷ rs) ss h k = at-middle-good (changed o n) (by_middle rs) h.0 (λ ts. middle-good rs ts h.1) ss k
middle-good (deleted l ∷ rs) ss h k = (h.0, middle-good rs ss h.1 k)
middle-good (inserted l ∷ rs) ss h k = at-middle-good (inserted l) (by_middle rs) h.0 (λ ts. middle-good rs ts h.1) ss k

-- ---- the length: at most that of both

rewrite-length : (r : Record) (l : Line) → record_length (rewrite r l) ≤ record_length r + record_length (kept l)
unfolding rewrite record_length
rewrite-length (kept k) l = by-change (λ r. record_length r ≤ 3 + length k + (3 + length l)) k l (λ e. omega arith) (λ e. omega arith)
rewrite-length (changed o n) l = by-change (λ r. record_length r ≤ 4 + (length o + length n) + (3 + length l)) o l (λ e. omega arith) (λ e. omega arith)
rewrite-length (deleted k) l = omega arith
rewrite-length (inserted k) l = omega arith

erase-length : (r : Record) (rs : List Record) → journal_length (erase r ++ rs) ≤ record_length r + journal_length rs
unfolding erase journal_length record_length
erase-length (kept l) rs = omega arith
erase-length (changed o n) rs = omega arith
erase-length (deleted l) rs = omega arith
erase-length (inserted l) rs = omega arith

module _ (r : Record) (f : List Record → List Record) (n : ℕ) (rest : (ss : List Record) → journal_length (f ss) ≤ n + journal_length ss) where
  at-middle-length : (ss : List Record) → journal_length (at_middle r f ss) ≤ record_length r + n + journal_length ss
  unfolding at_middle journal_length
  at-middle-length [] = omega (arith, rest [])
  at-middle-length (kept l ∷ ss) = omega (arith, rewrite-length r l, rest ss)
  at-middle-length (changed o l ∷ ss) = unfold record_length in (omega (arith, rewrite-length r l, rest ss))
  at-middle-length (deleted l ∷ ss) = omega (arith, erase-length r (f ss), rest ss)
  at-middle-length (inserted l ∷ ss) = omega (arith, at-middle-length ss)

pub middle-length : (rs ss : List Record) → journal_length (by_middle rs ss) ≤ journal_length rs + journal_length ss
unfolding by_middle journal_length
middle-length [] ss = omega arith
middle-length (kept l ∷ rs) ss = at-middle-length (kept l) (by_middle rs) (journal_length rs) (middle-length rs) ss
middle-length (changed o n ∷ rs) ss = at-middle-length (changed o n) (by_middle rs) (journal_length rs) (middle-length rs) ss
middle-length (deleted l ∷ rs) ss = omega (arith, middle-length rs ss)
middle-length (inserted l ∷ rs) ss = at-middle-length (inserted l) (by_middle rs) (journal_length rs) (middle-length rs) ss

-- ---- a second journal that is empty, or keeps every line

pub middle-none : (rs : List Record) → by_middle rs [] ≡ rs
unfolding by_middle at_middle
middle-none [] = refl
middle-none (kept l ∷ rs) = ap (then (kept l)) (middle-none rs)
middle-none (changed o n ∷ rs) = ap (then (changed o n)) (middle-none rs)
middle-none (deleted l ∷ rs) = ap (then (deleted l)) (middle-none rs)
middle-none (inserted l ∷ rs) = ap (then (inserted l)) (middle-none rs)

pub middle-kept : (rs : List Record) → Each GoodRecord rs → by_middle rs (map kept (new_side rs)) ≡ rs
unfolding by_middle at_middle rewrite new_side new_of
middle-kept [] h = refl
middle-kept (kept l ∷ rs) h = rw (change-same l l (equal-itself l), middle-kept rs h.1)
middle-kept (changed o n ∷ rs) h = rw (change-other o n h.0.2, middle-kept rs h.1)
middle-kept (deleted l ∷ rs) h = ap (then (deleted l)) (middle-kept rs h.1)
middle-kept (inserted l ∷ rs) h = ap (then (inserted l)) (middle-kept rs h.1)
