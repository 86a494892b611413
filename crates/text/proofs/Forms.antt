-- The steps of the loop that counts lines, and comparing bytes. Assumes nothing.
use Rattle.std.proofs.Common.{◌≡◌, ℕ, suc, ◌+◌, ◌<◌, ◌≤◌, Bool, true, false, ◌&&◌, cond, List, [], ◌∷◌, length, get_or, drop, refl, ap, ◌∙◌, Option, Some, None, is_some, ⊎_elim, add-zero, zero-add, arith, drop_of_length-le, drop-cons, le-leb}
use Rattle.std.proofs.Math.Dec.{eqb}
use lib.Pointwise.{pointwise}
use borrow.Author.Tests.{lt-leb}
use Rattle.definitions.specs.Bytes.{Line, eq_line, lines_of, are_lines}
use Rattle.definitions.specs.Table.{is_table, is_script}
use Rattle.text.specs.Lines.{line_end, part, lines_form, table_form}
use Rattle.text.proofs.Lines.{Plain, line_plain, first-line, are-lines-none, are-lines-first, are-lines-open}
use Rattle.text.proofs.Ends.{Ended, no_line}

-- ---- counting lines: the form of all, where `n` lines have gone by and `bs` is left

unfoldable pub form_after : ℕ → List ℕ → Option ℕ
form_after n bs = cond (are_lines bs) (Some (n + length (lines_of bs))) None

pub form-start : (s : List ℕ) → lines_form s ≡ form_after 0 s
unfolding lines_form form_after
form-start s = rw (zero-add (length (lines_of s)))

pub form-end : (n at : ℕ) (s : List ℕ) → length s ≤ at → form_after n (drop at s) ≡ Some n
unfolding form_after lines_of
form-end n at s h = rw (drop_of_length-le s {i = at} h, are-lines-none, add-zero n)

pub form-step : (n at e : ℕ) (s : List ℕ) → Ended s at e → form_after n (drop at s) ≡ form_after (n + 1) (drop (e + 1) s)
unfolding form_after
form-step n at e s k =
    let l : Line = part at e s in
    let p : Plain l = line_plain l k.line in
    let count : n + suc (length (lines_of (drop (e + 1) s))) ≡ n + 1 + length (lines_of (drop (e + 1) s)) = omega arith in
    rw (k.split, are-lines-first l (drop (e + 1) s) p, first-line l (drop (e + 1) s) p, k.line)
    (ap (λ (m : ℕ). cond (are_lines (drop (e + 1) s)) (Some m) None) count)

not-lines : (b : ℕ) (bs : List ℕ) (at : ℕ) → line_end at (b ∷ bs) ≡ None → are_lines (b ∷ bs) ≡ false
not-lines b bs at h =
    ⊎_elim (λ p. are-lines-open b bs p)
    (λ w. ap are_lines w.2 ∙ are-lines-first w.0 w.1 w.3 ∙ rw w.4)
    (no_line at (b ∷ bs) h)

pub form-bad : (n at : ℕ) (s : List ℕ) → at < length s → line_end at (drop at s) ≡ None → form_after n (drop at s) ≡ None
unfolding form_after
form-bad n at s h k =
    let f : drop at s ≡ get_or s at 0 ∷ drop (suc at) s = drop-cons s at 0 h in
    rw (f, not-lines (get_or s at 0) (drop (suc at) s) at (rw f at k))

-- ---- tables and scripts by the form of their lines

form-is : (b : Bool) (k n : ℕ) → cond b (Some k) None ≡ Some n → (b ≡ true) × (k ≡ n)
form-is true k n h = (refl, cc)
form-is false k n h = absurd (let z : ◌≡◌ {A = ℕ} 0 1 = cc in omega arith)

form-is-not : (b : Bool) (k : ℕ) → cond b (Some k) None ≡ None → b ≡ false
form-is-not true k h = absurd (let z : ◌≡◌ {A = ℕ} 0 1 = cc in omega arith)
form-is-not false k h = refl

module _ (t : List ℕ) where
  -- what the form of lines says
  pub lines_are : (n : ℕ) → lines_form t ≡ Some n → (are_lines t ≡ true) × (length (lines_of t) ≡ n)
  unfolding lines_form
  lines_are n h = form-is (are_lines t) (length (lines_of t)) n h

  pub lines-not : lines_form t ≡ None → are_lines t ≡ false
  unfolding lines_form
  lines-not h = form-is-not (are_lines t) (length (lines_of t)) h

  -- what a table's form says
  pub table_is : (n : ℕ) → table_form t ≡ Some n → (is_table t ≡ true) × (length (lines_of t) ≡ n)
  unfolding table_form
  table_is n h = form-is (is_table t) (length (lines_of t)) n h

  pub table-is-not : table_form t ≡ None → is_table t ≡ false
  unfolding table_form
  table-is-not h = form-is-not (is_table t) (length (lines_of t)) h

  pub table-lines : (n : ℕ) → lines_form t ≡ Some n → n ≤ 65535 → table_form t ≡ Some n
  unfolding table_form is_table
  table-lines n h k = rw ((lines_are n h).0, (lines_are n h).1, le-leb n 65535 k)

  pub table-many : (n : ℕ) → lines_form t ≡ Some n → 65535 < n → table_form t ≡ None
  unfolding table_form is_table
  table-many n h k = rw ((lines_are n h).0, (lines_are n h).1, lt-leb n 65535 k)

  pub table-not : lines_form t ≡ None → table_form t ≡ None
  unfolding table_form is_table
  table-not h = rw (lines-not h)

  pub script-long : 16384 < length t → is_script t ≡ false
  unfolding is_script
  script-long h = rw (lt-leb (length t) 16384 h)

  pub script-short : length t ≤ 16384 → is_some (lines_form t) ≡ is_script t
  unfolding lines_form is_script
  script-short h = rw (le-leb (length t) 16384 h) (go (are_lines t))
    where
      go : (b : Bool) → is_some (cond b (Some (length (lines_of t))) None) ≡ b
      go true = refl
      go false = refl

-- ---- comparing bytes

-- two slices are the same if their bytes are, one by one
pub same-bytes : (a b : List ℕ) → pointwise eqb a b ≡ eq_line a b
unfolding eq_line
same-bytes [] [] = refl
same-bytes [] (y ∷ b) = refl
same-bytes (x ∷ a) [] = refl
same-bytes (x ∷ a) (y ∷ b) = ap (λ (t : Bool). eqb x y && t) (same-bytes a b)
