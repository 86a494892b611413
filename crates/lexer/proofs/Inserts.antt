-- The lines of I and R at a place of the script. Assumes nothing.
use mathlib.Core.Path.{◌≡◌, refl, sym, ap, ◌∙◌, subst}
use mathlib.Core.Bool.{Bool, true, false, cond}
use mathlib.Core.List.{List, [], ◌∷◌, ◌++◌, append_assoc}
use Prim.Native.Nat.{ℕ, suc, ◌+◌, ◌-◌, ◌≤◌, ◌<◌}
use native.Mathlib.Omega.{arith}
use lib.ListN.{length, drop, get_or, drop_of_length-le, length-drop}
use lib.Seq.{drop-cons, drop-drop}
use Rattle.text.specs.Lines.{part}
use Rattle.text.proofs.Parts.{part_length, part_none, part-cons, part-rest, part_join, part-more}
use Rattle.definitions.specs.Bytes.{Line, lines_of}
use Rattle.definitions.specs.Reader.{got, refused, and_then, place_at, next_byte, after_byte, skip_spaces, skip_comment, string_up_to, string_next, advance}
use Rattle.definitions.specs.Commands.{is_z, end_of_line, up_to_z, no_z, lines_up_to_z, lines_after, bytes_from, script_lines}
use Rattle.lexer.specs.Places.{cursor_at}
use Rattle.std.specs.Prelude.{Result, Ok, Err}
use Rattle.answers.specs.declared.Fault.TheVariants.{Argument, Bracket, NoZ}
use Rattle.answers.specs.declared.Part.{Part}
use Rattle.answers.specs.declared.Read.{Read}
use Rattle.answers.specs.declared.Refusal.{Refusal}
use Rattle.answers.specs.Answers.{number_of, read_as, refusal}
use Rattle.lexer.specs.Answers.{PastAt, PastRead, From, ValueAt, ValueRead}
use Rattle.lexer.specs.Inserted.{lines_to, lines_in, ToZ, ZRead, no_z_at, LinesRead}
use Rattle.lexer.proofs.AtPlace.{is-next, not-next, next-inside, after_next, after-in, after-end, advance-to}
use Rattle.lexer.proofs.ToZ.{line-then, line-head, line-last, line-none, not-z, z-length, up-last, up-empty, NoZIn, no-z-begins, no-z-more, z-found, z-missing}

-- ---- the end of the line

abbrev IsEnd : List ℕ → ℕ → Result ℕ Refusal → Type 0
IsEnd s at = PastRead s (From at) (end_of_line (cursor_at s at))

module _ (s : List ℕ) (at i : ℕ) (spaces : skip_spaces (cursor_at s at) ≡ cursor_at s i) (from : at ≤ i) (to : i ≤ length s) where
  pub end_line : next_byte (cursor_at s i) ≡ 10 → IsEnd s at (Ok (i + 1))
  unfolding end_of_line
  end_line e =
      let h : 0 < next_byte (cursor_at s i) = omega arith in
      let inside : i < length s = next-inside s i h in
      (rw (spaces, is-next 10 (cursor_at s i) e) (ap (got tt) (after_next s i h)), omega arith, omega arith)

  module _ (more : next_byte (cursor_at s i) ≡ 10 → ⊥) where
    pub end-other : (next_byte (cursor_at s i) ≡ 92 → ⊥) → IsEnd s at (refusal Argument i)
    unfolding end_of_line place_at
    end-other e = (rw (spaces, not-next 10 (cursor_at s i) more, not-next 92 (cursor_at s i) e))

    module _ (starts : next_byte (cursor_at s i) ≡ 92) (e : ℕ) (comment : skip_comment (cursor_at s i) ≡ cursor_at s e) (past : i ≤ e) where
      ends : end_of_line (cursor_at s at) ≡ got tt (after_byte (cursor_at s e))
      unfolding end_of_line
      ends = rw (spaces, not-next 10 (cursor_at s i) more, is-next 92 (cursor_at s i) starts, comment)

      pub end-comment : e < length s → IsEnd s at (Ok (e + 1))
      end-comment h = (ends ∙ ap (got tt) (after-in s e h), omega arith, omega arith)

      pub end-script : e ≤ length s → length s ≤ e → IsEnd s at (Ok e)
      end-script h k = (ends ∙ ap (got tt) (after-end s e k), omega arith, omega arith)

-- ---- the line Z

module _ (s : List ℕ) (at end : ℕ) (from : at ≤ end) (to : end ≤ length s) where
  pub z-not-one : (end - at ≡ 1 → ⊥) → is_z (part at end s) ≡ false
  z-not-one h = not-z (part at end s) (λ e. h (sym (part_length s at end to) ∙ e))

  pub one_byte : end - at ≡ 1 → part at end s ≡ get_or s at 0 ∷ []
  one_byte h =
      let e : end ≡ suc at = omega arith in
      part-cons s at end (omega arith) to ∙ ap (λ (l : List ℕ). get_or s at 0 ∷ l) (rw e (part_none s (suc at)))

-- ---- a line of the script that begins at `i` and ends at `e`

module _ (s : List ℕ) (i e : ℕ) (from : i ≤ e) (to : e ≤ length s) (line : string_next 10 (cursor_at s i) ≡ part i e s) where
  bytes-are : string_up_to 10 (drop i s) ≡ part i e s
  unfolding string_next
  bytes-are = line

  after_line : drop (length (string_up_to 10 (drop i s))) (drop i s) ≡ drop e s
  after_line =
      let k : i + (e - i) ≡ e = omega arith in
      rw (bytes-are, part_length s i e to, drop-drop (e - i) i s, k)

  ended-line : e < length s → (ys : List ℕ) → lines_of (part i e s ++ get_or s e 0 ∷ ys) ≡ part i e s ∷ lines_of ys
  ended-line more ys = rw bytes-are at (line-then (get_or s e 0) (drop i s) (drop (suc e) s) ys (after_line ∙ drop-cons s e 0 more))

  module _ (more : i < length s) where
    first-line : (rest : List Line) × (lines_of (drop i s) ≡ part i e s ∷ rest)
    first-line = rw (← bytes-are, drop-cons s i 0 more) (line-head (get_or s i 0) (drop (suc i) s))

    last_line : length s ≤ e → lines_of (drop i s) ≡ part i e s ∷ []
    last_line h = go (drop i s) (drop-cons s i 0 more) (after_line ∙ drop_of_length-le s {i = e} h) ∙ ap (λ (l : Line). l ∷ []) bytes-are
      where
        go : (bs : List ℕ) → bs ≡ get_or s i 0 ∷ drop (suc i) s → drop (length (string_up_to 10 bs)) bs ≡ [] → lines_of bs ≡ string_up_to 10 bs ∷ []
        go [] k h = line-none refl k
        go (b ∷ bs) k h = line-last b bs h

-- ---- lines up to Z

pub no-z-at : (s : List ℕ) (p : ℕ) → NoZIn (part p p s)
no-z-at s p = subst NoZIn (sym (part_none s p)) no-z-begins

after-z : (g : Bool) (s : List ℕ) (p e : ℕ) (ls : List Line) (n : ℕ) → p ≤ e → n ≡ e - p → lines_after g (cursor_at s p) (up_to_z ls n) ≡ got ls (cursor_at s e)
unfolding lines_after advance
after-z g s p e ls n h k = rw k (ap (got ls) (advance-to s p e h))

module _ (g : Bool) (s : List ℕ) (p i : ℕ) (from : p ≤ i) (to : i ≤ length s) (no-z : NoZIn (part p i s)) where
  missing : (r : Refusal) (e : ℕ) → length s ≤ e → e ≤ length s → r ≡ no_z_at g e → lines_up_to_z (lines_of (drop i s)) ≡ no_z → ZRead g s p (Err r)
  unfolding lines_after no_z_at
  missing r e h k f z =
      let n : p + length (drop p s) ≡ e = rw (length-drop p s) (omega arith) in
      let all : lines_up_to_z (lines_of (drop p s)) ≡ no_z = rw (part-rest s p i from) at (z-missing (part p i s) (drop i s) no-z z) in
      rw f (rw all (ap (refused (cond g 5 6)) n ∙ ap (λ (k : ℕ). refused k e) (numbered g)))
    where
      numbered : (b : Bool) → cond b 5 6 ≡ number_of (cond b Bracket NoZ)
      numbered true = refl
      numbered false = refl

  pub z-never : (r : Refusal) → length s ≤ i → r ≡ no_z_at g i → ZRead g s p (Err r)
  unfolding lines_of
  z-never r h f = missing r i h to f (rw (drop_of_length-le s {i = i} h) up-empty)

  module _ (e : ℕ) (past : i ≤ e) (end : e ≤ length s) (line : string_next 10 (cursor_at s i) ≡ part i e s) (more : i < length s) where
    pub z-not-last : (r : Refusal) → is_z (part i e s) ≡ false → length s ≤ e → r ≡ no_z_at g e → ZRead g s p (Err r)
    z-not-last r z h f = missing r e h end f (rw (last_line s i e past end line more h) (up-last (part i e s) z))

    pub z-here : is_z (part i e s) ≡ true → ZRead g s p (read_as i e)
    unfolding lines_to
    z-here z =
        let fl = first-line s i e past end line more in
        let one : e - i ≡ 1 = sym (part_length s i e end) ∙ z-length (part i e s) z in
        let m : length (part p i s) + 1 ≡ e - p = rw (part_length s p i to) (omega arith) in
        let all : lines_up_to_z (lines_of (drop p s)) ≡ up_to_z (lines_of (part p i s)) (length (part p i s) + 1)
        = rw (part-rest s p i from) at (z-found (part p i s) (drop i s) no-z (part i e s) fl.0 fl.1 z)
        in (
          ap (lines_after g (cursor_at s p)) all ∙ after-z g s p e (lines_of (part p i s)) (length (part p i s) + 1) (omega arith) m,
          (from, omega arith),
          end,
        )

    pub no-z-next : is_z (part i e s) ≡ false → e < length s → NoZIn (part p (e + 1) s)
    no-z-next z h =
        let parts : part p i s ++ (part i e s ++ (get_or s e 0 ∷ [])) ≡ part p (e + 1) s
        = sym (append_assoc (part p i s) (part i e s) (get_or s e 0 ∷ []))
        ∙ ap (λ (l : List ℕ). l ++ (get_or s e 0 ∷ [])) (part_join s p i e from past)
        ∙ sym (part-more s p e (omega arith) h)
        in
        subst NoZIn parts (no-z-more (part p i s) (part i e s) (get_or s e 0) no-z (ended-line s i e past end line h) z)

-- ---- the lines, after the end of their command's line

abbrev IsLines : Bool → List ℕ → ℕ → Result (Read Part) Refusal → Type 0
IsLines g s at = ValueRead s (lines_in s) (LinesRead s at) (script_lines g (cursor_at s at))

module _ (g : Bool) (s : List ℕ) (at : ℕ) where
  pub lines-no-end : (k p : ℕ) → end_of_line (cursor_at s at) ≡ refused k p → script_lines g (cursor_at s at) ≡ refused k p
  unfolding script_lines and_then
  lines-no-end k p e = rw e

  module _ (start : ℕ) (end : PastAt s (From at) (end_of_line (cursor_at s at)) start) where
    lines_from : script_lines g (cursor_at s at) ≡ lines_after g (cursor_at s start) (lines_up_to_z (lines_of (drop start s)))
    unfolding script_lines and_then bytes_from
    lines_from = rw end.0

    pub lines-no-z : (k p : ℕ) → lines_after g (cursor_at s start) (lines_up_to_z (lines_of (drop start s))) ≡ refused k p → script_lines g (cursor_at s at) ≡ refused k p
    lines-no-z k p e = lines_from ∙ e

    pub lines_are : (z next : ℕ) → ValueAt s (lines_to s start) (ToZ start) (lines_after g (cursor_at s start) (lines_up_to_z (lines_of (drop start s)))) z next
        → IsLines g s at (read_as (record { start = start; end = z }) next)
    lines_are z next lines = (lines_from ∙ lines.0, (end.0, end.1, lines.1.0, lines.1.1), lines.2)
