-- Laws of reading one qualifier, one for each way out. Assumes nothing.
use mathlib.Core.Path.{◌≡◌, refl, sym, ap, ◌∙◌}
use mathlib.Core.Bool.{Bool, true, false, cond}
use mathlib.Core.List.{List}
use Prim.Native.Nat.{ℕ, zero, suc, ◌+◌, ◌≤◌, ◌<◌}
use native.Mathlib.Omega.{arith}
use native.Mathlib.Nat.{not-suc-le-zero}
use lib.Dec.{leb}
use lib.ListN.{length, get_or}
use borrow.Author.Tests.{ne_eqb, le-leb, lt-leb}
use Rattle.definitions.specs.Bytes.{is_digit, is_small, upper}
use Rattle.definitions.specs.Matching.{Qualifiers}
use Rattle.definitions.specs.Reader.{Cursor, Got, got, refused, and_then, place_at, expect, skip_spaces, number}
use Rattle.definitions.specs.Strings.{add_count, set_columns, has_columns, is_given, letter_of, qualifier_byte, read_count, read_columns, read_qualifier}
use Rattle.matching.specs.declared.Quals.{Quals}
use Rattle.matching.specs.Quals.{columns_of, qualifiers_of}
use Rattle.lexer.specs.Places.{cursor_at}
use Rattle.std.specs.Prelude.{Result, Ok, Err}
use Rattle.answers.specs.declared.Fault.{Fault}
use Rattle.answers.specs.declared.Fault.TheVariants.{Argument, Qualifier}
use Rattle.answers.specs.declared.Read.{Read}
use Rattle.answers.specs.declared.Refusal.{Refusal}
use Rattle.answers.specs.Answers.{read_as, refusal}
use Rattle.lexer.specs.Answers.{PastAt, OneByte, ValueAt, ValueRead, itself, Numbered}
use Rattle.lexer.proofs.AtPlace.{next-in, next-end, after-in}
use Rattle.lexer.proofs.Given.{goes_on, passed-up}
use Rattle.strings.specs.Answers.{Small, added_of, SmallAdded, Adds, AddsAt, read_added, qualifier_here, QualifierRead, second_column, columns_from}

-- ---- what was added

added-read : (s : List ℕ) (d : Result Quals Fault) (at next : ℕ) (x : Got Qualifiers) → suc at ≤ next → next ≤ length s → SmallAdded d → added_of d at (cursor_at s next) ≡ x
    → QualifierRead s at x (read_added d at next)
unfolding added_of read_added SmallAdded
added-read s (Ok q) at next x h k small e = (sym e, h, k, small)
added-read s (Err fault) at next x h k small e = sym e

-- ---- a count

module _ (s : List ℕ) (at : ℕ) (q : Quals) where
  pub count-read : (count next : ℕ) (d : Result Quals Fault) (r : Result (Read Quals) Refusal) → ValueAt s itself (Numbered at) (number (cursor_at s at)) count next
      → Adds (add_count count (qualifiers_of q)) q d → r ≡ read_added d at next → Small q → QualifierRead s at (read_count (qualifiers_of q) (cursor_at s at)) r
  unfolding read_count place_at
  count-read count next d r on adds r-is small =
      rw r-is (added-read s d at next _ on.1.2 on.2 (adds.small small)
      (adds.is at (cursor_at s next) ∙ sym (goes_on (number (cursor_at s at)) _ count (cursor_at s next) on.0)))

  pub count-refused : (k p : ℕ) → number (cursor_at s at) ≡ refused k p → read_count (qualifiers_of q) (cursor_at s at) ≡ refused k p
  unfolding read_count
  count-refused k p e = passed-up (number (cursor_at s at)) _ k p e

-- ---- columns

module _ (s : List ℕ) (at n i : ℕ) (spaces : skip_spaces (cursor_at s at) ≡ cursor_at s i) where
  pub no-comma : (k p : ℕ) → expect 44 (cursor_at s i) ≡ refused k p → second_column n (cursor_at s at) ≡ refused k p
  unfolding second_column
  no-comma k p e = rw spaces (passed-up (expect 44 (cursor_at s i)) _ k p e)

  module _ (after j : ℕ) (comma : PastAt s (OneByte i) (expect 44 (cursor_at s i)) after) (spaces₂ : skip_spaces (cursor_at s after) ≡ cursor_at s j) where
    -- from the second number on
    from-number : second_column n (cursor_at s at)
        ≡ and_then (number (cursor_at s j)) (λ m c. cond (leb n m) (and_then (expect 95 (skip_spaces c)) (λ end c₄. got m c₄)) (refused 3 j))
    unfolding second_column place_at
    from-number = rw spaces (goes_on (expect 44 (cursor_at s i)) _ tt (cursor_at s after) comma.0 ∙ rw spaces₂)

    pub no-number-there : (k p : ℕ) → number (cursor_at s j) ≡ refused k p → second_column n (cursor_at s at) ≡ refused k p
    no-number-there k p e = from-number ∙ passed-up (number (cursor_at s j)) _ k p e

    module _ (m past : ℕ) (column : ValueAt s itself (Numbered j) (number (cursor_at s j)) m past) where
      pub too-low : m < n → second_column n (cursor_at s at) ≡ refused 3 j
      too-low h = from-number ∙ goes_on (number (cursor_at s j)) _ m (cursor_at s past) column.0 ∙ rw (lt-leb n m h)

      module _ (high : n ≤ m) (l : ℕ) (spaces₃ : skip_spaces (cursor_at s past) ≡ cursor_at s l) where
        from_end : second_column n (cursor_at s at) ≡ and_then (expect 95 (cursor_at s l)) (λ e c. got m c)
        from_end = from-number ∙ goes_on (number (cursor_at s j)) _ m (cursor_at s past) column.0 ∙ rw (le-leb n m high, spaces₃)

        pub no_end : (k p : ℕ) → expect 95 (cursor_at s l) ≡ refused k p → second_column n (cursor_at s at) ≡ refused k p
        no_end k p e = from_end ∙ passed-up (expect 95 (cursor_at s l)) _ k p e

        -- each part is read after the one before
        pub column-read : at ≤ i → after ≤ j → past ≤ l → (next : ℕ) → PastAt s (OneByte l) (expect 95 (cursor_at s l)) next
            → ValueRead s itself (Numbered at) (second_column n (cursor_at s at)) (read_as m next)
        column-read h k g next end = (
          from_end ∙ goes_on (expect 95 (cursor_at s l)) _ tt (cursor_at s next) end.0,
          (column.1.0, column.1.1, omega (arith, comma.1, column.1.2, end.1)),
          end.2,
        )

-- the qualifiers with columns
abbrev set-columns : Quals → ℕ → ℕ → Quals
set-columns q n m = record { anchor = q.anchor; count = q.count; last = q.last; negated = q.negated; word = q.word; fold = q.fold; skip = q.skip; from = n; to = m; pattern = q.pattern }

columns-are : (q : Quals) (n m : ℕ) → 1 ≤ n → qualifiers_of (set-columns q n m) ≡ set_columns n m (qualifiers_of q)
unfolding qualifiers_of columns_of set_columns
columns-are q zero m h = absurd (not-suc-le-zero h)
columns-are q (suc n) m h = refl

module _ (s : List ℕ) (at n : ℕ) (q : Quals) where
  pub columns-refused : (k p : ℕ) → second_column n (cursor_at s at) ≡ refused k p → columns_from n (qualifiers_of q) (cursor_at s at) ≡ refused k p
  unfolding columns_from
  columns-refused k p e = passed-up (second_column n (cursor_at s at)) _ k p e

  pub columns-now : (m next : ℕ) → ValueAt s itself (Numbered at) (second_column n (cursor_at s at)) m next → 1 ≤ n → n ≤ 65535 → Small q
      → QualifierRead s at (columns_from n (qualifiers_of q) (cursor_at s at)) (read_as (set-columns q n m) next)
  unfolding columns_from
  columns-now m next on low high small = (
    goes_on (second_column n (cursor_at s at)) _ m (cursor_at s next) on.0 ∙ ap (λ (x : Qualifiers). got x (cursor_at s next)) (sym (columns-are q n m low)),
    on.1.2,
    on.2,
    record { fits = record { anchor = small.fits.anchor; count = small.fits.count; from = high; to = on.1.1 }; uncounted = small.uncounted },
  )

later : (s : List ℕ) (at at' : ℕ) (x y : Got Qualifiers) (r : Result (Read Quals) Refusal) → at ≤ at' → x ≡ y → QualifierRead s at' y r → QualifierRead s at x r
later s at at' x y (Ok r) h e (is, from, to, small) = (e ∙ is, omega (arith, from), to, small)
later s at at' x y (Err r) h e is = e ∙ is

-- what follows an answer may be said in another way
same_then : {A B : Type 0} (x : Got A) (f g : A → Cursor → Got B) → ((a : A) (c : Cursor) → f a c ≡ g a c) → and_then x f ≡ and_then x g
unfolding and_then
same_then (got a c) f g e = e a c
same_then (refused k p) f g e = refl

-- a value that the last of the parts gives may be made of it later
module _ {A : Type 0} (h : ℕ → A) where
  parts-end : (m : ℕ) (z : Got (Unit {0})) → and_then z (λ e c. got (h m) c) ≡ and_then (and_then z (λ e c. got m c)) (λ n c. got (h n) c)
  unfolding and_then
  parts-end m (got e c) = refl
  parts-end m (refused k p) = refl

  parts-test : (t : Bool) (p m : ℕ) (z : Got (Unit {0}))
      → cond t (and_then z (λ e c. got (h m) c)) (refused 3 p) ≡ and_then (cond t (and_then z (λ e c. got m c)) (refused 3 p)) (λ n c. got (h n) c)
  unfolding and_then
  parts-test true p m z = parts-end m z
  parts-test false p m z = refl

  parts-number : (y : Got ℕ) (t : ℕ → Bool) (p : ℕ) (z : Cursor → Got (Unit {0}))
      → and_then y (λ m c. cond (t m) (and_then (z c) (λ e c₄. got (h m) c₄)) (refused 3 p))
      ≡ and_then (and_then y (λ m c. cond (t m) (and_then (z c) (λ e c₄. got m c₄)) (refused 3 p))) (λ n c. got (h n) c)
  unfolding and_then
  parts-number (got m c) t p z = parts-test (t m) p m (z c)
  parts-number (refused k q) t p z = refl

  parts : (x : Got (Unit {0})) (y : Cursor → Got ℕ) (t : ℕ → Bool) (p : Cursor → ℕ) (z : Cursor → Got (Unit {0}))
      → and_then x (λ u c₂. and_then (y c₂) (λ m c. cond (t m) (and_then (z c) (λ e c₄. got (h m) c₄)) (refused 3 (p c₂))))
      ≡ and_then (and_then x (λ u c₂. and_then (y c₂) (λ m c. cond (t m) (and_then (z c) (λ e c₄. got m c₄)) (refused 3 (p c₂))))) (λ n c. got (h n) c)
  unfolding and_then
  parts (got u c) y t p z = parts-number (y c) t (p c) z
  parts (refused k q) y t p z = refl

module _ (s : List ℕ) (at : ℕ) (q : Quals) (i : ℕ) (spaces : skip_spaces (cursor_at s at) ≡ cursor_at s i) where
  columns-is : read_columns (qualifiers_of q) (cursor_at s at) ≡ and_then (number (cursor_at s i)) (λ n c. columns_from n (qualifiers_of q) c)
  unfolding read_columns columns_from second_column
  columns-is = rw spaces (same_then (number (cursor_at s i)) _ _ (λ n c.
      parts (λ m. set_columns n m (qualifiers_of q)) (expect 44 (skip_spaces c)) (λ c₂. number (skip_spaces c₂)) (leb n) (λ c₂. place_at (skip_spaces c₂)) (λ c₃. expect 95 (skip_spaces c₃))))

  pub first-refused : (k p : ℕ) → number (cursor_at s i) ≡ refused k p → read_columns (qualifiers_of q) (cursor_at s at) ≡ refused k p
  first-refused k p e = columns-is ∙ passed-up (number (cursor_at s i)) _ k p e

  pub first_read : at ≤ i → (n after : ℕ) (r : Result (Read Quals) Refusal) → ValueAt s itself (Numbered i) (number (cursor_at s i)) n after
      → QualifierRead s after (columns_from n (qualifiers_of q) (cursor_at s after)) r → QualifierRead s at (read_columns (qualifiers_of q) (cursor_at s at)) r
  first_read here n after r on reads =
      later s at after _ _ r (omega (arith, on.1.2)) (columns-is ∙ goes_on (number (cursor_at s i)) _ n (cursor_at s after) on.0) reads

-- ---- the qualifier at a place

given-twice : (q : Quals) → (q.from ≡ 0 → ⊥) → has_columns (qualifiers_of q) ≡ true
unfolding has_columns qualifiers_of is_given columns_of
given-twice q e = go q.from q.to e
  where
    go : (n m : ℕ) → (n ≡ 0 → ⊥) → is_given (columns_of n m) ≡ true
    go zero m e = absurd (e refl)
    go (suc n) m e = refl

not-given : (q : Quals) → q.from ≡ 0 → has_columns (qualifiers_of q) ≡ false
unfolding has_columns qualifiers_of is_given columns_of
not-given q e = rw e

module _ (s : List ℕ) (at : ℕ) (q : Quals) (i : Bool) where
  pub nothing_left : length s ≤ at → QualifierRead s at (qualifier_here i q (cursor_at s at)) (refusal Argument at)
  unfolding qualifier_byte letter_of upper is_small read_qualifier place_at is_digit
  nothing_left h = (rw (next-end s at h))

  module _ (inside : at < length s) where
    pub digit-here : (r : Result (Read Quals) Refusal) → is_digit (get_or s at 0) ≡ true → QualifierRead s at (read_count (qualifiers_of q) (cursor_at s at)) r
        → QualifierRead s at (qualifier_here i q (cursor_at s at)) r
    unfolding qualifier_byte read_qualifier
    digit-here r e reads = later s at at _ _ r (omega arith) (rw (next-in s at inside, e)) reads

    module _ (no_digit : is_digit (get_or s at 0) ≡ false) where
      pub columns-twice : get_or s at 0 ≡ 95 → (q.from ≡ 0 → ⊥) → QualifierRead s at (qualifier_here i q (cursor_at s at)) (refusal Qualifier at)
      unfolding qualifier_byte read_qualifier place_at
      columns-twice e given = (rw (next-in s at inside, no_digit, e, given-twice q given))

      pub columns-here : (r : Result (Read Quals) Refusal) → get_or s at 0 ≡ 95 → q.from ≡ 0 → QualifierRead s (at + 1) (read_columns (qualifiers_of q) (cursor_at s (at + 1))) r
          → QualifierRead s at (qualifier_here i q (cursor_at s at)) r
      unfolding qualifier_byte read_qualifier
      columns-here r e free reads = later s at (at + 1) _ _ r (omega arith) (rw (next-in s at inside, no_digit, e, not-given q free, after-in s at inside)) reads

      pub letter-here : (b : ℕ) (d : Result Quals Fault) (r : Result (Read Quals) Refusal) → (get_or s at 0 ≡ 95 → ⊥) → b ≡ upper (get_or s at 0)
          → AddsAt (λ c. read_qualifier i (qualifiers_of q) c (letter_of b)) q d → r ≡ read_added d at (at + 1) → Small q
          → QualifierRead s at (qualifier_here i q (cursor_at s at)) r
      unfolding qualifier_byte place_at
      letter-here b d r e u adds r-is small =
          rw (r-is, next-in s at inside, no_digit, ne_eqb (get_or s at 0) 95 e)
          (added-read s d at (at + 1) _ (omega arith) (omega arith) (adds.small small)
          (ap (added_of d at) (sym (after-in s at inside)) ∙ adds.is (cursor_at s at) ∙ rw u))
