-- Laws about records, lists of them and their old side.
use Rattle.std.specs.Prelude.{◌≡◌, refl, Bool, true, false, cond, ℕ, zero, suc, ◌+◌, length}
use Rattle.std.proofs.Common.{sym, ap, ◌∙◌, zero-add, arith, length-append}
use mathlib.Core.List.{List, [], ◌∷◌, ◌++◌, map, reverse_aux, append_assoc}
use Rattle.definitions.specs.Bytes.{Line, eq_line}
use Rattle.definitions.specs.Journal.{Record, kept, changed, deleted, inserted, old_of, old_side, change, rewrite, erase, up_to_line, after_line}
use Rattle.definitions.specs.Editor.{sources}

-- records that are read come last
pub reverse-append : (before after xs : List Record) → reverse_aux before (after ++ xs) ≡ reverse_aux before after ++ xs
reverse-append [] after xs = refl
reverse-append (r ∷ before) after xs = reverse-append before (r ∷ after) xs

-- records that were passed come back before those after them
pub reverse_twice : (passed before after : List Record) → reverse_aux (reverse_aux passed before) after ≡ reverse_aux before (passed ++ after)
reverse_twice [] before after = refl
reverse_twice (r ∷ passed) before after = reverse_twice passed (r ∷ before) after

pub old-append : (rs xs : List Record) → old_side (rs ++ xs) ≡ old_side rs ++ old_side xs
unfolding old_side
old-append [] xs = refl
old-append (r ∷ rs) xs = ap (λ (ls : List Line). old_of r ++ ls) (old-append rs xs) ∙ sym (append_assoc (old_of r) (old_side rs) (old_side xs))

pub old-kept : (ls : List Line) → old_side (map kept ls) ≡ ls
unfolding old_side old_of
old-kept [] = refl
old-kept (l ∷ ls) = ap {B = List Line} (λ r. l ∷ r) (old-kept ls)

-- other records with the same old lines
pub old-same : (before xs ys : List Record) → old_side xs ≡ old_side ys → old_side (reverse_aux before xs) ≡ old_side (reverse_aux before ys)
old-same [] xs ys e = e
old-same (r ∷ before) xs ys e = old-same before (r ∷ xs) (r ∷ ys) (unfold old_side in (ap (λ (ls : List Line). old_of r ++ ls) e))

-- what holds of a record of two lines whether they are equal or not
pub by-change : (P : Record → Type 0) (old new : Line) → (eq_line old new ≡ true → P (kept old)) → (eq_line old new ≡ false → P (changed old new)) → P (change old new)
unfolding change
by-change P old new same other = by (eq_line old new) refl
  where
    by : (c : Bool) → eq_line old new ≡ c → P (cond c (kept old) (changed old new))
    by true e = same e
    by false e = other e

pub change-same : (old new : Line) → eq_line old new ≡ true → change old new ≡ kept old
unfolding change
change-same old new e = rw e

pub change-other : (old new : Line) → eq_line old new ≡ false → change old new ≡ changed old new
unfolding change
change-other old new e = rw e

change-old : (old new : Line) (after : List Record) → old_side (change old new ∷ after) ≡ old ∷ old_side after
unfolding old_side old_of
change-old old new after = by-change (λ r. old_side (r ∷ after) ≡ old ∷ old_side after) old new (λ e. refl) (λ e. refl)

pub rewrite-old : (r : Record) (l : Line) (after : List Record) → old_side (rewrite r l ∷ after) ≡ old_side (r ∷ after)
unfolding rewrite old_side old_of
rewrite-old (kept o) l after = change-old o l after
rewrite-old (changed o n) l after = change-old o l after
rewrite-old (deleted o) l after = refl
rewrite-old (inserted o) l after = refl

pub erase-old : (before : List Record) (r : Record) (after : List Record) → old_side (reverse_aux (erase r ++ before) after) ≡ old_side (reverse_aux before (r ∷ after))
unfolding erase old_side old_of
erase-old before (kept l) after = old-same before (deleted l ∷ after) (kept l ∷ after) refl
erase-old before (changed o n) after = old-same before (deleted o ∷ after) (changed o n ∷ after) refl
erase-old before (deleted l) after = refl
erase-old before (inserted l) after = old-same before after (inserted l ∷ after) refl

-- what is left of a record has its old line
pub erase-first : (r : Record) (after : List Record) → old_side (erase r ++ after) ≡ old_side (r ∷ after)
unfolding erase old_side old_of
erase-first (kept l) after = refl
erase-first (changed o n) after = refl
erase-first (deleted l) after = refl
erase-first (inserted l) after = refl

pub insert-old : (before : List Record) (l : Line) (after : List Record) → old_side (reverse_aux before (inserted l ∷ after)) ≡ old_side (reverse_aux before after)
unfolding old_side old_of
insert-old before l after = old-same before (inserted l ∷ after) after refl

-- ---- records whose line is there to be changed

abbrev pub LiveRecord : Record → Type 0
LiveRecord (kept l) = Unit {0}
LiveRecord (changed o n) = Unit {0}
LiveRecord (deleted l) = ⊥
LiveRecord (inserted l) = Unit {0}

pub rewrite-live : (r : Record) (new : Line) → LiveRecord r → LiveRecord (rewrite r new)
unfolding rewrite
rewrite-live (kept l) new h = by-change LiveRecord l new (λ e. tt) (λ e. tt)
rewrite-live (changed o n) new h = by-change LiveRecord o new (λ e. tt) (λ e. tt)
rewrite-live (deleted l) new h = h
rewrite-live (inserted l) new h = tt

-- a line changed twice, and one changed and deleted
pub rewrite-again : (r : Record) (l m : Line) → rewrite (rewrite r l) m ≡ rewrite r m
unfolding rewrite
rewrite-again (kept k) l m = by-change (λ r. rewrite r m ≡ change k m) k l (λ e. refl) (λ e. refl)
rewrite-again (changed o n) l m = by-change (λ r. rewrite r m ≡ change o m) o l (λ e. refl) (λ e. refl)
rewrite-again (deleted k) l m = refl
rewrite-again (inserted k) l m = refl

pub erase-again : (r : Record) (l : Line) → erase (rewrite r l) ≡ erase r
unfolding rewrite erase
erase-again (kept k) l = by-change (λ r. erase r ≡ deleted k ∷ []) k l (λ e. refl) (λ e. refl)
erase-again (changed o n) l = by-change (λ r. erase r ≡ deleted o ∷ []) o l (λ e. refl) (λ e. refl)
erase-again (deleted k) l = refl
erase-again (inserted k) l = refl

-- ---- the number of source lines among records

pub sources-append : (rs xs : List Record) → sources (rs ++ xs) ≡ sources rs + sources xs
unfolding sources
sources-append rs xs = ap length (old-append rs xs) ∙ length-append (old_side rs) (old_side xs)

pub sources-kept : (ls : List Line) → sources (map kept ls) ≡ length ls
unfolding sources
sources-kept ls = ap length (old-kept ls)

pub sources-reverse : (before after : List Record) → sources (reverse_aux before after) ≡ sources before + sources after
unfolding sources old_side old_of
sources-reverse [] after = sym (zero-add (length (old_side after)))
sources-reverse (kept l ∷ before) after = sources-reverse before (kept l ∷ after) ∙ omega arith
sources-reverse (changed o n ∷ before) after = sources-reverse before (changed o n ∷ after) ∙ omega arith
sources-reverse (deleted l ∷ before) after = sources-reverse before (deleted l ∷ after) ∙ omega arith
sources-reverse (inserted l ∷ before) after = sources-reverse before (inserted l ∷ after)

-- the journal up to a line and what follows it are the whole journal
pub up_to-after : (n : ℕ) (rs : List Record) → up_to_line n rs ++ after_line n rs ≡ rs
unfolding up_to_line after_line
up_to-after n [] = refl
up_to-after n (inserted l ∷ rs) = ap {B = List Record} (λ r. inserted l ∷ r) (up_to-after n rs)
up_to-after zero (kept l ∷ rs) = refl
up_to-after zero (changed o m ∷ rs) = refl
up_to-after zero (deleted l ∷ rs) = refl
up_to-after (suc n) (kept l ∷ rs) = ap {B = List Record} (λ r. kept l ∷ r) (up_to-after n rs)
up_to-after (suc n) (changed o m ∷ rs) = ap {B = List Record} (λ r. changed o m ∷ r) (up_to-after n rs)
up_to-after (suc n) (deleted l ∷ rs) = ap {B = List Record} (λ r. deleted l ∷ r) (up_to-after n rs)
