-- WORD's string read up to a place: what the words then hold, and what is left. Assumes nothing.
use Rattle.std.specs.Prelude.{Result, Ok, Err}
use mathlib.Core.Path.{◌≡◌, refl, sym, ap, ◌∙◌}
use mathlib.Core.Bool.{Bool, true, false, ◌&&◌, ◌||◌, or-false, or_assoc}
use mathlib.Core.List.{List, [], ◌∷◌}
use Prim.Native.Nat.{ℕ, suc, ◌+◌, ◌-◌, ◌≤◌, ◌<◌}
use native.Mathlib.Omega.{arith}
use lib.ListN.{length, get_or, length-take, length-drop}
use lib.Seq.{sets, length-sets}
use lib.Dec.{leb, ltb}
use borrow.Author.Tests.{leb-true}
use Rattle.definitions.specs.Bytes.{all_text}
use Rattle.definitions.specs.WordSet.{Named, is_named, is_word_byte, FirstName, misused, first_name, Names, all_names, misused_at, add_name, names_from}
use Rattle.wordset.specs.Sets.{in_set}
use Rattle.wordset.specs.Decoding.{with_bytes, misused-here, name_of, ThreePut, DecodedAs}
use Rattle.wordset.specs.Laws.{written-set}
use Rattle.wordset.specs.declared.Name.{Name}
use Rattle.wordset.specs.declared.Misused.{Misused}
use Rattle.wordset.proofs.Setting.{leb-iff, no_bytes, none-set, in_bytes, sets_over, put-bytes}
use Rattle.wordset.proofs.Naming.{string, string-none, string-cons, string-on, text-drop, Bytes, Told, told, names-on, names-misused}

-- ---- the names of the whole string, by the set of those that were read and those that are left

unfoldable pub Left : List ℕ → ℕ → Names → Names → Type 0
Left w k (all_names xs) (all_names ys) = (c : ℕ) → is_word_byte xs c ≡ (in_set w k c || is_word_byte ys c)
Left w k (all_names xs) (misused_at q) = ⊥
Left w k (misused_at p) (all_names ys) = ⊥
Left w k (misused_at p) (misused_at q) = p ≡ q

module _ (w : List ℕ) (k : ℕ) where
  left-all : ((c : ℕ) → in_set w k c ≡ false) → (ns : Names) → Left w k ns ns
  unfolding Left
  left-all none (all_names xs) = λ c. rw (none c)
  left-all none (misused_at p) = refl

  left-on : (w' : List ℕ) (x : Named) → ((c : ℕ) → in_set w' k c ≡ (in_set w k c || is_named x c)) → (ns ms : Names) → Left w k ns (add_name x ms) → Left w' k ns ms
  unfolding Left add_name is_word_byte
  left-on w' x more (all_names xs) (all_names ys) h = λ c. h c ∙ sym (or_assoc (in_set w k c) (is_named x c) (is_word_byte ys c)) ∙ ap (λ (t : Bool). t || is_word_byte ys c) (sym (more c))
  left-on w' x more (all_names xs) (misused_at q) h = h
  left-on w' x more (misused_at p) (all_names ys) h = h
  left-on w' x more (misused_at p) (misused_at q) h = h

  left-none : (ns : Names) → Left w k ns (all_names []) → DecodedAs ns w k (Ok tt)
  unfolding Left DecodedAs is_word_byte
  left-none (all_names xs) h = (refl, λ i c. (sym (h c ∙ or-false (in_set w k c))) i)
  left-none (misused_at p) h = absurd h

  left-misused : (q : ℕ) (ns : Names) → Left w k ns (misused_at q) → DecodedAs ns w k (Err (misused-here q))
  unfolding Left DecodedAs
  left-misused q (all_names xs) h = absurd h
  left-misused q (misused_at p) h = ap (λ p. Err (misused-here p)) (sym h)

-- ---- read up to place i; w₀: the words before the first name

pub record ReadTo (w₀ : List ℕ) (k : ℕ) (s : List ℕ) (from to : ℕ) (w : List ℕ) (i : ℕ) : Type 0 where
  pub within : i ≤ to
  pub room : k + 3 ≤ length w₀
  pub put : ThreePut w₀ k w
  pub text : all_text (string s to i) ≡ true
  pub left : Left w k (names_from from 0 (string s to from)) (names_from i 0 (string s to i))

pub put-length : (w₀ : List ℕ) (k : ℕ) (w : List ℕ) → ThreePut w₀ k w → length w ≡ length w₀
put-length w₀ k w (a, b, c, ha, hb, hc, is) = ap length is ∙ length-sets w₀ k (a ∷ b ∷ c ∷ [])

module _ (v : List ℕ) (k : ℕ) (w₀ : List ℕ) (is : w₀ ≡ sets v k no_bytes) where
  pub read_none : (s : List ℕ) (from to : ℕ) → k + 3 ≤ length v → from ≤ to → all_text (string s to from) ≡ true → ReadTo w₀ k s from to w₀ from
  read_none s from to fits within text =
      let none : (c : ℕ) → in_set w₀ k c ≡ false = λ c. rw (is, written-set v no_bytes k refl fits) (none-set c) in
      let same : w₀ ≡ sets w₀ k no_bytes = rw is (sym (sets_over no_bytes no_bytes v k refl)) in
      record {
        within = within;
        room = rw (is, length-sets v k no_bytes) fits;
        put = (0, 0, 0, omega arith, omega arith, omega arith, same);
        text = text;
        left = left-all w₀ k none (names_from from 0 (string s to from));
      }

  -- and of the words before they were cleared only the three are written
  pub put-over : (w : List ℕ) → ThreePut w₀ k w → ThreePut v k w
  put-over w (a, b, c, ha, hb, hc, e) =
      (a, b, c, ha, hb, hc, e ∙ ap (λ (r : List ℕ). sets r k (a ∷ b ∷ c ∷ [])) is ∙ sets_over no_bytes (a ∷ b ∷ c ∷ []) v k refl)

-- the bytes from x to y, counted
counted : (x y c : ℕ) → (leb x c && ltb c (x + (suc y - x))) ≡ (leb x c && leb c y)
counted x y c = go (leb x c) refl
  where
    go : (t : Bool) → leb x c ≡ t → (t && ltb c (x + (suc y - x))) ≡ (t && leb c y)
    go true e = let least = leb-true x c e in leb-iff (suc c) (x + (suc y - x)) c y (λ h. omega arith) (λ h. omega arith)
    go false e = refl

module _ (w₀ : List ℕ) (k : ℕ) (s : List ℕ) (from to : ℕ) (w : List ℕ) (i : ℕ) (fits : to ≤ length s) (read : ReadTo w₀ k s from to w i) where
  pub read_length : length w ≡ length w₀
  read_length = put-length w₀ k w read.put

  -- nothing is left
  pub read_all : to ≤ i → DecodedAs (names_from from 0 (string s to from)) w k (Ok tt)
  unfolding names_from
  read_all end = left-none w k (names_from from 0 (string s to from)) (rw (string-none s to i end) at read.left)

  module _ (here : i < to) where
    abbrev first : FirstName
    first = first_name (get_or s i 0) (string s to (suc i))

    told_at : (r : Result Name Misused) → r ≡ name_of i first → Told i first (length (string s to (suc i))) r
    told_at r e = rw e (told i (get_or s i 0) (string s to (suc i)) (rw (string-cons s to i here fits) at read.text))

    first-room : length (string s to (suc i)) ≡ to - suc i
    first-room = simp (length-take, length-drop) (omega arith)

    -- a `-` or `"` is misused, within the string
    module _ (m : Misused) (e : Err m ≡ name_of i first) where
      pub read-misused : DecodedAs (names_from from 0 (string s to from)) w k (Err m)
      unfolding Told
      read-misused = go (told_at (Err m) e)
        where
          go : (n : ℕ) × (m.at ≡ i + n) × (first ≡ misused n) × (n ≤ length (string s to (suc i)))
              → DecodedAs (names_from from 0 (string s to from)) w k (Err m)
          go (n, place, is-misused, within) =
              let is : names_from i 0 (string s to i) ≡ misused_at m.at =
              ap (names_from i 0) (string-cons s to i here fits) ∙ names-misused i (get_or s i 0) (string s to (suc i)) n is-misused
              ∙ ap misused_at (sym place) in
              left-misused w k m.at (names_from from 0 (string s to from)) (rw is at read.left)

    module _ (n : Name) (e : Ok n ≡ name_of i first) where
      bytes-at : Bytes first (length (string s to (suc i))) n.first n.last n.len
      unfolding Told
      bytes-at = told_at (Ok n) e

      -- it names bytes of text, and lies within the string
      pub bytes-text : (32 ≤ n.first) × (n.last < 128)
      bytes-text = (bytes-at.low, bytes-at.high)

      pub bytes-within : (i < i + n.len) × (i + n.len ≤ to)
      bytes-within = go bytes-at
        where
          go : Bytes first (length (string s to (suc i))) n.first n.last n.len → (i < i + n.len) × (i + n.len ≤ to)
          go b = let long = first-room in omega arith

      -- a name more
      pub read-on : (w' : List ℕ) → w' ≡ with_bytes w k n.first (suc n.last - n.first) → ReadTo w₀ k s from to w' (i + n.len)
      read-on w' is = go bytes-at
        where
          go : Bytes first (length (string s to (suc i))) n.first n.last n.len → ReadTo w₀ k s from to w' (i + n.len)
          go b =
              let long = first-room in
              let n-is : n.len ≡ suc b.more = b.long in
              let place : i + n.len ≡ i + suc b.more = omega arith in
              let next : suc i + b.more ≡ i + n.len = omega arith in
              let on : names_from i 0 (string s to i) ≡ add_name b.named (names_from (i + n.len) 0 (string s to (i + n.len))) =
              ap (names_from i 0) (string-cons s to i here fits) ∙ names-on i (get_or s i 0) (string s to (suc i)) b.named b.more b.is
              ∙ rw (← place, string-on s to (suc i) b.more, next) in
              let more : (c : ℕ) → in_set w' k c ≡ (in_set w k c || is_named b.named c) =
              λ c. rw is (in_bytes k c (suc n.last - n.first) w n.first (rw read_length read.room) b.low (omega arith) ∙ ap (λ (t : Bool). in_set w k c || t) (counted n.first n.last c ∙ sym (b.same c))) in
              record {
                within = omega arith;
                room = read.room;
                put = rw is (put-bytes w₀ k (suc n.last - n.first) w n.first read.room b.low (omega arith) read.put);
                text = rw (string-on s to i n.len) at (text-drop n.len (string s to i) read.text);
                left = left-on w k w' b.named more (names_from from 0 (string s to from)) (names_from (i + n.len) 0 (string s to (i + n.len))) (rw on at read.left);
              }
