-- A pattern's marks stand first in the list: what comes after them is not looked at. A sweep leaves as many as there were.
use Rattle.std.specs.Prelude.{◌≡◌, refl, length, drop, get_or}
use Rattle.std.proofs.Common.{ap, ◌∙◌, arith, length-append, length-drop, drop_at}
use Rattle.std.proofs.Math.Path.{ap₂}
use mathlib.Core.List.{List, [], ◌∷◌, ◌++◌}
use Prim.Native.Nat.{ℕ, suc, ◌+◌, ◌≤◌, min}
use Rattle.std.proofs.Math.ListN.{get_or-append}
use Rattle.std.proofs.lemmas.List.{drop-append-le}
use Rattle.definitions.specs.Patterns.{Pattern, one_byte, empty_row, in_row, either_of, any_number}
use Rattle.marks.specs.Sweeping.{never, slots, out_of, with_end, swept}

pub swept-length : (b e : ℕ) (p : Pattern) (ms : List ℕ) → length (swept b e p ms) ≡ slots p
unfolding swept slots with_end
swept-length b e (one_byte mismatch x) ms = refl
swept-length b e empty_row ms = refl
swept-length b e (in_row p q) ms =
    length-append (swept b e p ms) (swept b (out_of e p ms) q (drop (slots p) ms))
    ∙ ap₂ ◌+◌ (swept-length b e p ms) (swept-length b (out_of e p ms) q (drop (slots p) ms))
swept-length b e (either_of p q) ms =
    length-append (swept b e p ms) (swept b e q (drop (slots p) ms)) ∙ ap₂ ◌+◌ (swept-length b e p ms) (swept-length b e q (drop (slots p) ms))
swept-length b e (any_number p) ms = ap suc (swept-length b (min e (get_or ms 0 never)) p (drop 1 ms))

-- the marks of the second of two patterns, with what comes after them
second : (p q : Pattern) (ms rest : List ℕ) → slots p + slots q ≤ length ms → drop (slots p) (ms ++ rest) ≡ drop (slots p) ms ++ rest
second p q ms rest h = drop-append-le (slots p) ms rest (omega arith)

after_first : (p q : Pattern) (ms : List ℕ) → slots p + slots q ≤ length ms → slots q ≤ length (drop (slots p) ms)
after_first p q ms h = omega (arith, length-drop (slots p) ms)

pub out_first : (e : ℕ) (p : Pattern) (ms rest : List ℕ) → slots p ≤ length ms → out_of e p (ms ++ rest) ≡ out_of e p ms
unfolding out_of slots
out_first e (one_byte mismatch x) ms rest h = get_or-append ms rest never 0 h
out_first e empty_row ms rest h = refl
out_first e (in_row p q) ms rest h =
    ap₂ (λ v l. out_of v q l) (out_first e p ms rest (omega arith)) (second p q ms rest h)
    ∙ out_first (out_of e p ms) q (drop (slots p) ms) rest (after_first p q ms h)
out_first e (either_of p q) ms rest h =
    ap₂ min (out_first e p ms rest (omega arith))
    (ap (out_of e q) (second p q ms rest h) ∙ out_first e q (drop (slots p) ms) rest (after_first p q ms h))
out_first e (any_number p) ms rest h = ap (min e) (get_or-append ms rest never 0 (omega arith))

pub swept-first : (b e : ℕ) (p : Pattern) (ms rest : List ℕ) → slots p ≤ length ms → swept b e p (ms ++ rest) ≡ swept b e p ms
unfolding swept slots
swept-first b e (one_byte mismatch x) ms rest h = refl
swept-first b e empty_row ms rest h = refl
swept-first b e (in_row p q) ms rest h =
    ap₂ ◌++◌ (swept-first b e p ms rest (omega arith))
    (ap₂ (λ v l. swept b v q l) (out_first e p ms rest (omega arith)) (second p q ms rest h)
    ∙ swept-first b (out_of e p ms) q (drop (slots p) ms) rest (after_first p q ms h))
swept-first b e (either_of p q) ms rest h =
    ap₂ ◌++◌ (swept-first b e p ms rest (omega arith))
    (ap (swept b e q) (second p q ms rest h) ∙ swept-first b e q (drop (slots p) ms) rest (after_first p q ms h))
swept-first b e (any_number p) [] rest h = absurd (omega (arith, h))
swept-first b e (any_number p) (m ∷ ms) rest h = ap (with_end p) (swept-first b (min e m) p ms rest (omega arith))

pub out-front : (e : ℕ) (p : Pattern) (ms rest : List ℕ) → length ms ≡ slots p → out_of e p (ms ++ rest) ≡ out_of e p ms
out-front e p ms rest h = out_first e p ms rest (omega arith)

pub swept-front : (b e : ℕ) (p : Pattern) (ms rest : List ℕ) → length ms ≡ slots p → swept b e p (ms ++ rest) ≡ swept b e p ms
swept-front b e p ms rest h = swept-first b e p ms rest (omega arith)

-- ---- two patterns, the marks of the second after those of the first

module _ (p q : Pattern) (ms ns : List ℕ) (h : length ms ≡ slots p) where
  pub out-row : (e : ℕ) → out_of e (in_row p q) (ms ++ ns) ≡ out_of (out_of e p ms) q ns
  unfolding out_of
  out-row e = ap₂ (λ v l. out_of v q l) (out-front e p ms ns h) (drop_at ms ns (slots p) h)

  pub out-either : (e : ℕ) → out_of e (either_of p q) (ms ++ ns) ≡ min (out_of e p ms) (out_of e q ns)
  unfolding out_of
  out-either e = ap₂ min (out-front e p ms ns h) (ap (out_of e q) (drop_at ms ns (slots p) h))

  pub swept-row : (b e : ℕ) → swept b e (in_row p q) (ms ++ ns) ≡ swept b e p ms ++ swept b (out_of e p ms) q ns
  unfolding swept
  swept-row b e = ap₂ ◌++◌ (swept-front b e p ms ns h) (ap₂ (λ v l. swept b v q l) (out-front e p ms ns h) (drop_at ms ns (slots p) h))

  pub swept-either : (b e : ℕ) → swept b e (either_of p q) (ms ++ ns) ≡ swept b e p ms ++ swept b e q ns
  unfolding swept
  swept-either b e = ap₂ ◌++◌ (swept-front b e p ms ns h) (ap (swept b e q) (drop_at ms ns (slots p) h))
