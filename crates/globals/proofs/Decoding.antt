-- What the words of GE, GA and GB say: the two strings, and what is put for the first. Assumes nothing.
use Rattle.std.specs.Prelude.{Ok}
use mathlib.Core.Path.{◌≡◌, refl, sym, ap, ◌∙◌, subst}
use mathlib.Core.Bool.{true, not, ◌&&◌, false≢true}
use mathlib.Core.List.{List, [], ◌∷◌, ◌++◌, append-nil}
use Prim.Native.Nat.{ℕ, ◌+◌, ◌-◌, ◌≤◌, ◌<◌}
use native.Mathlib.Omega.{arith}
use lib.ListN.{length, take, drop, get_or, length-drop}
use lib.Seq.{length-take-le}
use lib.Dec.{leb}
use borrow.Author.Tests.{leb-true}
use Rattle.definitions.specs.Bytes.{Line, is_line, all_text}
use Rattle.definitions.specs.Matching.{qualified}
use Rattle.definitions.specs.Search.{one}
use Rattle.definitions.specs.Strings.{no_qualifiers, is_empty}
use Rattle.definitions.specs.Given.{Global, global}
use Rattle.definitions.specs.Globals.{passed_through}
use Rattle.definitions.specs.Edit.{Change, after_it, before_it, exchange, add_global, global_by}
use Rattle.theorems.specs.GoodItems.{good_op}
use Rattle.theorems.specs.Lines.{and_left, and_right}
use Rattle.matching.specs.Words.{start_at, length_at, quals_at, string_at, string_words, columns_in, column_words, Encodes}
use Rattle.matching.proofs.Reading.{one-reads}
use Rattle.matching.proofs.Words.{read_short}
use Rattle.items.specs.Kinds.{global_after_kind, global_before_kind, global_kind}
use Rattle.items.specs.Words.{kind_at, OpAt, StringIn}
use Rattle.items.specs.Arguments.{string_start, string_length}
use Rattle.items.proofs.FirstWords.{head-kind}
use Rattle.items.proofs.Strings.{string-inside, string-is}
use Rattle.globals.specs.Standing.{GlobalAt}
use Rattle.text.specs.Lines.{part}
use Rattle.text.proofs.Parts.{part_none, part_length}
use Rattle.globals.specs.Passing.{Passed, LeftAs, next_place, Occurs, through_one, MakesGlobal, PassesOne}
use Rattle.globals.proofs.Putting.{stays}

has-bytes : (l : Line) → not (is_empty l) ≡ true → 0 < length l
unfolding is_empty
has-bytes [] e = absurd (false≢true e)
has-bytes (b ∷ l) e = omega arith

-- the first string, and the second
abbrev pub first_in : List ℕ → List ℕ → ℕ → Line
first_in s w k = take (length_at w (k + 1)) (drop (start_at w (k + 1)) s)

abbrev pub second_in : List ℕ → List ℕ → ℕ → Line
second_in s w k = take (string_length (get_or w (k + 3) 0)) (drop (string_start (get_or w (k + 3) 0)) s)

-- the words can be read, and the strings are lines of the script
pub record Decoded (s w : List ℕ) (k : ℕ) : Type 0 where
  pub room : k + 3 < length w
  pub inside : start_at w (k + 1) + length_at w (k + 1) ≤ length s
  pub some_byte : 0 < length_at w (k + 1)
  pub few : length_at w (k + 1) ≤ 255
  pub inside' : string_start (get_or w (k + 3) 0) + string_length (get_or w (k + 3) 0) ≤ length s
  pub few' : string_length (get_or w (k + 3) 0) ≤ 255

-- ---- the words taken apart

record Parts (s w : List ℕ) (k m : ℕ) (c : Change) (l new : Line) : Type 0 where
  pub kind : kind_at w k ≡ global_kind c
  pub last : m ≡ k + 4
  pub fits : start_at w (k + 1) + length_at w (k + 1) ≤ length s
  pub first : first_in s w k ≡ l
  pub long : length_at w (k + 1) ≡ length l
  pub second : StringIn s (get_or w (k + 3) 0) new

kind-small : (c : Change) → global_kind c < 256
unfolding global_kind
kind-small after_it = omega arith
kind-small before_it = omega arith
kind-small exchange = omega arith

leaf-ends : (s w : List ℕ) (k n : ℕ) (l : Line) → Encodes s w (k + 1) n (one (qualified no_qualifiers l)) → n ≡ k + 3
unfolding Encodes string_words columns_in column_words no_qualifiers
leaf-ends s w k n l h = omega (arith, h.lies.ends)

string-of : (s w : List ℕ) (k : ℕ) (l : Line) → string_at s w (k + 1) ≡ qualified no_qualifiers l → first_in s w k ≡ l
unfolding string_at
string-of s w k l e = cc

parts : (s w : List ℕ) (k m place : ℕ) (c : Change) (l new : Line) → OpAt s w k m place (add_global c l new) → Parts s w k m c l new
unfolding OpAt
parts s w k m place c l new (n, ends, word, first, second) =
    let r = one-reads s w (k + 1) n (qualified no_qualifiers l) first in
    let three : n ≡ k + 3 = leaf-ends s w k n l first in
    let is : first_in s w k ≡ l = string-of s w k l r.string in
    record {
      kind = head-kind (get_or w k 0) (global_kind c) place 0 (kind-small c) (word ∙ omega arith);
      last = omega (arith, ends, three);
      fits = r.fits.string;
      first = is;
      long = sym (length-take-le (length_at w (k + 1)) (drop (start_at w (k + 1)) s) (rw length-drop (omega (arith, r.fits.string)))) ∙ ap length is;
      second = subst (λ (i : ℕ). StringIn s (get_or w i 0) new) three second;
    }

module _ (s w : List ℕ) (end k : ℕ) (x : Global) (g : GlobalAt s w end k x) where
  parted : Parts s w k g.m g.change g.first g.new
  parted = parts s w k g.m g.place g.change g.first g.new g.lies

  good-first : 0 < length g.first
  unfolding good_op
  good-first =
      has-bytes g.first (and_right (is_line g.first) (not (is_empty g.first)) (and_left (is_line g.first && not (is_empty g.first)) (is_line g.new) g.good))

  good_new : length g.new ≤ 255
  unfolding good_op is_line
  good_new =
      leb-true (length g.new) 255
      (and_right (all_text g.new) (leb (length g.new) 255) (and_right (is_line g.first && not (is_empty g.first)) (is_line g.new) g.good))

  second_is : second_in s w k ≡ g.new
  second_is = string-is parted.second g.short

  second_fits : string_start (get_or w (k + 3) 0) + string_length (get_or w (k + 3) 0) ≤ length s
  second_fits = string-inside parted.second g.short

  pub decoded : end ≤ length w → Decoded s w k
  unfolding length_at
  decoded inside =
      let p = parted in
      let long : length (second_in s w k) ≡ string_length (get_or w (k + 3) 0) =
      length-take-le (string_length (get_or w (k + 3) 0)) (drop (string_start (get_or w (k + 3) 0)) s) (rw length-drop (omega (arith, second_fits))) in
      record {
        room = omega (arith, p.last, g.inside, inside);
        inside = p.fits;
        some_byte = omega (arith, p.long, good-first);
        few = omega arith;
        inside' = second_fits;
        few' = omega (arith, long, ap length second_is, good_new);
      }

  global-is : (put : Line → Line → Line) → ((l new : Line) → global_by g.change l new ≡ global l (put l new)) → x ≡ global (first_in s w k) (put (first_in s w k) (second_in s w k))
  global-is put by = g.same ∙ by g.first g.new ∙ sym (rw (parted.first, second_is) refl)

pub makes-decoded : (s w : List ℕ) (k : ℕ) → MakesGlobal s w k → Decoded s w k
makes-decoded s w k m = decoded s w m.end k m.x m.at m.inside

-- ---- what is put, by the kind

after-put : (c : Change) → global_kind c ≡ global_after_kind → (l new : Line) → global_by c l new ≡ global l (l ++ new)
unfolding global_kind global_by
after-put after_it e l new = refl
after-put before_it e l new = absurd (omega (arith, e))
after-put exchange e l new = absurd (omega (arith, e))

before-put : (c : Change) → global_kind c ≡ global_before_kind → (l new : Line) → global_by c l new ≡ global l (new ++ l)
unfolding global_kind global_by
before-put after_it e l new = absurd (omega (arith, e))
before-put before_it e l new = refl
before-put exchange e l new = absurd (omega (arith, e))

exchange-put : (c : Change) → (global_kind c ≡ global_after_kind → ⊥) → (global_kind c ≡ global_before_kind → ⊥) → (l new : Line) → global_by c l new ≡ global l (new ++ [])
unfolding global_kind global_by
exchange-put after_it a b l new = absurd (a refl)
exchange-put before_it a b l new = absurd (b refl)
exchange-put exchange a b l new = ap (global l) (sym (append-nil new))

some-put : (c : Change) (l new : Line) → (put : Line) × (global_by c l new ≡ global l put)
unfolding global_by
some-put after_it l new = (l ++ new, refl)
some-put before_it l new = (new ++ l, refl)
some-put exchange l new = (new, refl)

-- ---- a line passed through the item's global

module _ (s w : List ℕ) (k : ℕ) (line : List ℕ) (n from len start m : ℕ) (from_is : from ≡ start_at w (k + 1)) (len_is : len ≡ length_at w (k + 1))
    (start_is : start ≡ string_start (get_or w (k + 3) 0)) (m-is : m ≡ string_length (get_or w (k + 3) 0)) where
  abbrev F : Line
  F = part from (from + len) s

  abbrev N : Line
  N = part start (start + m) s

  F-is : first_in s w k ≡ F
  F-is =
      let e : length_at w (k + 1) ≡ from + len - from = omega (arith, len_is) in
      ap (λ (i : ℕ). take i (drop (start_at w (k + 1)) s)) e ∙ ap (λ (i : ℕ). take (from + len - from) (drop i s)) (sym from_is)

  N-is : second_in s w k ≡ N
  N-is =
      let e : string_length (get_or w (k + 3) 0) ≡ start + m - start = omega (arith, m-is) in
      ap (λ (i : ℕ). take i (drop (string_start (get_or w (k + 3) 0)) s)) e ∙ ap (λ (i : ℕ). take (start + m - start) (drop i s)) (sym start_is)

  passes-by : (r : Passed) (out : List ℕ) (a b : Line) → LeftAs r out (through_one F a b (take n line)) → ((end : ℕ) (x : Global) → GlobalAt s w end k x → x ≡ global F (a ++ b))
      → PassesOne s w k (take n line) r out
  passes-by r out a b h is end x g inside = subst (λ (y : Global). LeftAs r out (passed_through (y ∷ []) (take n line))) (sym (is end x g)) h

  module _ (kind : ℕ) (kind-is : kind ≡ kind_at w k) (r : Passed) (out : List ℕ) where
    pub passes-after : kind ≡ global_after_kind → LeftAs r out (through_one F F N (take n line)) → PassesOne s w k (take n line) r out
    passes-after e h =
        passes-by r out F N h (λ end x g. global-is s w end k x g (λ l new. l ++ new) (after-put g.change (sym (parted s w end k x g).kind ∙ sym kind-is ∙ e)) ∙ rw (F-is, N-is) refl)

    pub passes-before : kind ≡ global_before_kind → LeftAs r out (through_one F N F (take n line)) → PassesOne s w k (take n line) r out
    passes-before e h =
        passes-by r out N F h (λ end x g. global-is s w end k x g (λ l new. new ++ l) (before-put g.change (sym (parted s w end k x g).kind ∙ sym kind-is ∙ e)) ∙ rw (F-is, N-is) refl)

    pub passes-exchange : (kind ≡ global_after_kind → ⊥) → (kind ≡ global_before_kind → ⊥) → LeftAs r out (through_one F N (part (start + m) (start + m) s) (take n line))
        → PassesOne s w k (take n line) r out
    passes-exchange a b h =
        passes-by r out N [] (subst (λ (z : Line). LeftAs r out (through_one F N z (take n line))) (part_none s (start + m)) h)
        (λ end x g. global-is s w end k x g (λ l new. new ++ [])
        (exchange-put g.change (λ e. a (kind-is ∙ (parted s w end k x g).kind ∙ e)) (λ e. b (kind-is ∙ (parted s w end k x g).kind ∙ e))) ∙ rw (F-is, N-is) refl)

  -- what `next_place` asks
  pub first-asked : n ≤ 255 → n ≤ length line → (0 ≤ length (take n line)) × (length (take n line) ≤ 255) × (length F ≤ 255)
  first-asked few fits = (omega arith, rw (length-take-le n line fits) few, read_short w (k + 1) s (quals_at w (k + 1)) from len refl from_is len_is)

  -- it does not occur
  pub passes_none : n ≤ 255 → n ≤ length line → (first : ℕ) → first ≡ next_place F (take n line) 0 → first ≡ n → PassesOne s w k (take n line) (Ok n) line
  passes_none few fits first is none end x g inside =
      let p = parted s w end k x g in
      let y = some-put g.change g.first g.new in
      let same : g.first ≡ F = sym p.first ∙ F-is in
      let z : x ≡ global F y.0 = g.same ∙ y.1 ∙ ap (λ (l : Line). global l y.0) same in
      let pos : 0 < length F = subst (λ (l : Line). 0 < length l) same (good-first s w end k x g) in
      subst (λ (y : Global). LeftAs (Ok n) line (passed_through (y ∷ []) (take n line))) (sym z) (stays F y.0 line n pos few fits (sym is ∙ none))

  -- what `rewrite` asks
  module _ (d : Decoded s w k) (few : n ≤ 255) (fits : n ≤ length line) (first : ℕ) (is : first ≡ next_place F (take n line) 0) where
    F-long : length F ≡ len
    F-long = part_length s from (from + len) (omega (arith, from_is, len_is, d.inside)) ∙ omega arith

    N-long : length N ≡ m
    N-long = part_length s start (start + m) (omega (arith, start_is, m-is, d.inside')) ∙ omega arith

    occurring : (a b : Line) → length a ≤ 255 → length b ≤ 255 → Occurs (take n line) first F a b
    occurring a b p q = record {
      short = rw (length-take-le n line fits) few;
      some_byte = omega (arith, F-long, len_is, d.some_byte);
      at = is;
      few = p;
      few' = q;
    }

    pub occurs-after : Occurs (take n line) first F F N
    occurs-after = occurring F N (omega (arith, F-long, len_is, d.few)) (omega (arith, N-long, m-is, d.few'))

    pub occurs-before : Occurs (take n line) first F N F
    occurs-before = occurring N F (omega (arith, N-long, m-is, d.few')) (omega (arith, F-long, len_is, d.few))

    pub occurs-exchange : Occurs (take n line) first F N (part (start + m) (start + m) s)
    occurs-exchange = occurring N (part (start + m) (start + m) s) (omega (arith, N-long, m-is, d.few')) (rw (part_none s (start + m)) (omega arith))
