-- Strings as parts of the script. Assumes nothing.
use mathlib.Core.Path.{◌≡◌, refl, sym, ap, ◌∙◌}
use mathlib.Core.Bool.{Bool, true, false, not, cond, ◌||◌, false≢true}
use mathlib.Core.List.{List, [], ◌∷◌}
use Prim.Native.Nat.{ℕ, zero, suc, ◌+◌, ◌-◌, ◌≤◌, ◌<◌}
use native.Mathlib.Nat.{not-suc-le-zero}
use native.Mathlib.Omega.{arith}
use lib.ListN.{length, drop, take, get_or, length-drop}
use lib.Dec.{eqb}
use Rattle.definitions.specs.Reader.{place_at, next_byte, is_next, after_byte, is_delimiter, string_up_to, string_next, advance, past_delimiter, after_string, quoted}
use Rattle.text.specs.Lines.{part}
use Rattle.text.proofs.Parts.{part_length}
use Rattle.scans.specs.Leading.{leading, is_of}
use Rattle.scans.specs.declared.Kind.TheVariants.{Neither}
use Rattle.scans.proofs.Runs.{reach}
use Rattle.lexer.specs.Places.{cursor_at}
use Rattle.std.specs.Prelude.{Result}
use Rattle.answers.specs.declared.Fault.TheVariants.{Argument}
use Rattle.answers.specs.declared.Part.{Part}
use Rattle.answers.specs.declared.Read.{Read}
use Rattle.answers.specs.declared.Refusal.{Refusal}
use Rattle.answers.specs.Answers.{read_as, refusal}
use Rattle.lexer.specs.Answers.{ValueRead, part_in, QuotedRead}
use Rattle.lexer.proofs.AtPlace.{advance-to, after-in, after-end, next-in, next-inside, is-next, not-next}

-- ---- a string up to its delimiter

string-run : (d n : ℕ) (bs : List ℕ) → length bs ≤ n → string_up_to d bs ≡ take (leading (is_of (Neither d 10)) n bs) bs
unfolding string_up_to leading is_of
string-run d zero [] h = refl
string-run d (suc n) [] h = refl
string-run d zero (b ∷ bs) h = absurd (not-suc-le-zero h)
string-run d (suc n) (b ∷ bs) h = go (eqb b d || eqb b 10) (string-run d n bs (omega arith))
  where
    go : (t : Bool) → string_up_to d bs ≡ take (leading (is_of (Neither d 10)) n bs) bs
        → elim t [ true ↦ [] | false ↦ b ∷ string_up_to d bs ]
        ≡ take (elim (not t) [ true ↦ suc (leading (is_of (Neither d 10)) n bs) | false ↦ 0 ]) (b ∷ bs)
    go true ih = refl
    go false ih = ap (λ (l : List ℕ). b ∷ l) ih

pub string-to : (s : List ℕ) (at d r : ℕ) → r ≡ reach (is_of (Neither d 10)) s at (length s) → string_next d (cursor_at s at) ≡ part at r s
unfolding string_next
string-to s at d r e =
    let h : length (drop at s) ≤ length s - at = simp length-drop (omega arith) in
    let n : r - at ≡ leading (is_of (Neither d 10)) (length s - at) (drop at s) = omega arith in
    string-run d (length s - at) (drop at s) h ∙ rw (← n)

module _ (s : List ℕ) (at r d : ℕ) (from : at ≤ r) (to : r ≤ length s) (is : string_next d (cursor_at s at) ≡ part at r s) where
  -- the place after the string
  pub string-passed : advance (length (string_next d (cursor_at s at))) (cursor_at s at) ≡ cursor_at s r
  string-passed = rw (is, part_length s at r to) (advance-to s at r from)

  pub string-found : (string_next d (cursor_at s at) ≡ part at r s)
      × ((advance (length (string_next d (cursor_at s at))) (cursor_at s at) ≡ cursor_at s r) × ((at ≤ r) × (r ≤ length s)))
  string-found = (is, (string-passed, (from, to)))

  -- and after its delimiter
  pub after-string : after_string d (cursor_at s at) ≡ past_delimiter d (cursor_at s r)
  unfolding after_string
  after-string = ap (past_delimiter d) string-passed

module _ (s : List ℕ) (at d : ℕ) where
  pub past-closed : at < length s → get_or s at 0 ≡ d → past_delimiter d (cursor_at s at) ≡ cursor_at s (at + 1)
  unfolding past_delimiter
  past-closed h e = rw (is-next d (cursor_at s at) (next-in s at h ∙ e)) (after-in s at h)

  pub past_open : at < length s → (get_or s at 0 ≡ d → ⊥) → past_delimiter d (cursor_at s at) ≡ cursor_at s at
  unfolding past_delimiter
  past_open h e = rw (not-next d (cursor_at s at) (λ k. e (sym (next-in s at h) ∙ k)))

  pub past_end : length s ≤ at → past_delimiter d (cursor_at s at) ≡ cursor_at s at
  unfolding past_delimiter
  past_end h = go (is_next d (cursor_at s at))
    where
      go : (t : Bool) → cond t (after_byte (cursor_at s at)) (cursor_at s at) ≡ cursor_at s at
      go true = after-end s at h
      go false = refl

-- ---- a string with its delimiters

abbrev IsQuoted : List ℕ → ℕ → Result (Read Part) Refusal → Type 0
IsQuoted s at = ValueRead s (part_in s) (QuotedRead at) (quoted (cursor_at s at))

module _ (s : List ℕ) (at d : ℕ) (first : next_byte (cursor_at s at) ≡ d) where
  pub not-quoted : is_delimiter d ≡ false → IsQuoted s at (refusal Argument at)
  unfolding quoted place_at
  not-quoted e = (rw (first, e))

  -- no delimiter is 0
  pub delimiter-inside : is_delimiter d ≡ true → at < length s
  unfolding is_delimiter
  delimiter-inside e = next-inside s at (rw first (positive d e))
    where
      positive : (n : ℕ) → is_delimiter n ≡ true → 0 < n
      positive zero e = absurd (false≢true e)
      positive (suc n) e = omega arith

  pub is-quoted : (end next : ℕ) → is_delimiter d ≡ true → string_next d (cursor_at s (at + 1)) ≡ part (at + 1) end s → at + 1 ≤ end → end ≤ length s
      → past_delimiter d (cursor_at s end) ≡ cursor_at s next → end ≤ next → next ≤ length s → IsQuoted s at (read_as (record { start = at + 1; end = end }) next)
  unfolding quoted
  is-quoted end next e string from to past far within = (
    rw (first, e, after-in s at (delimiter-inside e), string, after-string s (at + 1) end d from to string, past),
    (omega arith, from, far),
    within,
  )
