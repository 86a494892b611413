-- What a line's end found in a slice says, and how it is found. Assumes nothing.
use Rattle.std.proofs.Common.{◌≡◌, ℕ, zero, suc, ◌+◌, ◌-◌, ◌<◌, ◌≤◌, min, Bool, true, false, cond, ◌&&◌, leb, ◌⊎◌, List, ◌∷◌, ◌++◌, length, get_or, take, drop, sym, refl, ap, ◌∙◌, inl, inr, Option, Some, None, ⊎_elim, add-zero, add-suc, eq-zero-or-pos, suc-add, add-one, sub-one, arith, length-append, length-drop, drop_of_length-le, drop-cons, drop-drop, take_at, drop_at, eq-eqb, ne_eqb, le-leb, leb-true}
use native.Mathlib.Nat.{sub-zero}
use lib.Seq.{take-append-add}
use lib.Dec.{leb-suc-suc, leb-suc-zero}
use borrow.Author.Tests.{lt-leb}
use Rattle.definitions.specs.Bytes.{Line, is_text, line_bytes, all_text, is_line}
use Rattle.text.specs.Words.{text_run}
use Rattle.text.specs.Lines.{up_to_lf, cut_at, end_of, line_end, part}
use Rattle.text.proofs.Texts.{run-within, run-text, run-other}
use Rattle.theorems.specs.Lines.{text-not-lf}
use Rattle.text.proofs.Lines.{Plain, and-true, and-false, cut_of, first-cut}

-- ---- how it is found: what is found from `i` on, where the LF is among the next `room` bytes at the latest

unfoldable end_within : ℕ → ℕ → Option Line → Option ℕ
end_within room i None = None
end_within room i (Some l) = cond (all_text l && leb (suc (length l)) room) (Some (i + length l)) None

unfoldable end_from : ℕ → ℕ → List ℕ → Option ℕ
unfolding end_within
end_from room i bs = end_within room i (up_to_lf bs)

end-start : (at : ℕ) (bs : List ℕ) → line_end at bs ≡ end_from 256 at bs
unfolding line_end end_from is_line
end-start at bs = go (up_to_lf bs)
  where
    go : (o : Option Line) → end_of at o ≡ end_within 256 at o
    go None = refl
    go (Some l) = rw (leb-suc-suc)

module _ (s : List ℕ) (room i : ℕ) where
  end_none : length s ≤ i → end_from room i (drop i s) ≡ None
  unfolding end_from up_to_lf
  end_none h = rw (drop_of_length-le s {i = i} h)

  end-full : room ≡ 0 → end_from room i (drop i s) ≡ None
  unfolding end_from
  end-full f = rw f (go (up_to_lf (drop i s)))
    where
      go : (o : Option Line) → end_within 0 i o ≡ None
      go None = refl
      go (Some l) = rw (leb-suc-zero (length l), and-false)

  module _ (h : i < length s) where
    end-here : get_or s i 0 ≡ 10 → 0 < room → end_from room i (drop i s) ≡ Some i
    unfolding end_from up_to_lf all_text
    end-here e k = rw (drop-cons s i 0 h, eq-eqb (get_or s i 0) 10 e, le-leb 1 room k, add-zero i)

    module _ (e : get_or s i 0 ≡ 10 → ⊥) where
      end-wrong : is_text (get_or s i 0) ≡ false → end_from room i (drop i s) ≡ None
      unfolding end_from up_to_lf all_text
      end-wrong f = rw (drop-cons s i 0 h, ne_eqb (get_or s i 0) 10 e) (go (up_to_lf (drop (suc i) s)))
        where
          go : (o : Option Line) → end_within room i (cut_at false (get_or s i 0) o) ≡ None
          go None = refl
          go (Some l) = rw f

    end_on : is_text (get_or s i 0) ≡ true → 0 < room → end_from room i (drop i s) ≡ end_from (room - 1) (i + 1) (drop (i + 1) s)
    unfolding end_from up_to_lf all_text
    end_on f k = rw (drop-cons s i 0 h, text-not-lf (get_or s i 0) f, add-one i) (go room k (up_to_lf (drop (suc i) s)))
      where
        go : (n : ℕ) → 0 < n → (o : Option Line) → end_within n i (cut_at false (get_or s i 0) o) ≡ end_within (n - 1) (suc i) o
        go zero k o = absurd (omega arith)
        go (suc n) k None = refl
        go (suc n) k (Some l) = rw (f, leb-suc-suc, sub-one, add-suc, suc-add)

pub text-is : (b : ℕ) → is_text b ≡ true → (32 ≤ b) × (b ≤ 126)
unfolding is_text
text-is b h = let f = and-true (leb 32 b) (leb b 126) h in (leb-true 32 b f.0, leb-true b 126 f.1)

pub text-low : (b : ℕ) → b < 32 → is_text b ≡ false
unfolding is_text
text-low b h = rw (lt-leb 32 b h)

pub text-high : (b : ℕ) → 126 < b → is_text b ≡ false
unfolding is_text
text-high b h = rw (lt-leb b 126 h, and-false)

-- over n bytes of text
end-over : (s : List ℕ) (n room i : ℕ) → i + n ≤ length s → n ≤ room → ((k : ℕ) → k < n → is_text (get_or s (i + k) 0) ≡ true)
    → end_from room i (drop i s) ≡ end_from (room - n) (i + n) (drop (i + n) s)
end-over s zero room i h k f = rw (sub-zero room, add-zero i)
end-over s (suc n) room i h k f =
    let first : is_text (get_or s i 0) ≡ true = rw (add-zero i) at (f 0 (omega arith)) in
    let to : i + 1 + n ≡ i + suc n = omega arith in
    let left : room - 1 - n ≡ room - suc n = omega arith in
    end_on s room i (omega arith) first (omega arith)
    ∙ end-over s n (room - 1) (i + 1) (omega arith) (omega arith) (λ m l. let e : i + (m + 1) ≡ i + 1 + m = omega arith in rw e at (f (m + 1) (omega arith)))
    ∙ rw (to, left)

pub end-outside : (s : List ℕ) (at : ℕ) → length s ≤ at → line_end at (drop at s) ≡ None
end-outside s at h = end-start at (drop at s) ∙ end_none s 256 at h

-- the end of a line by the first byte that is not text, which is looked for up to `stop`
module _ (s : List ℕ) (at stop i : ℕ) (inside : at < length s) (cut : stop ≡ at + min (length s - at) 256) (is : i ≡ at + text_run (take (stop - at) (drop at s))) where
  past-text : line_end at (drop at s) ≡ end_from (256 - (i - at)) i (drop i s)
  past-text =
      let n : ℕ = text_run (take (stop - at) (drop at s)) in
      let far : at + n ≤ stop = run-within s at stop (omega arith) (omega arith) in
      let left : 256 - n ≡ 256 - (i - at) = omega arith in
      end-start at (drop at s) ∙ end-over s n 256 at (omega arith) (omega arith) (run-text s at stop (omega arith) (omega arith)) ∙ rw (left, ← is)

  pub end-at : i < stop → get_or s i 0 ≡ 10 → line_end at (drop at s) ≡ Some i
  end-at h e = past-text ∙ end-here s (256 - (i - at)) i (omega arith) e (omega arith)

  pub end-other : i < stop → (get_or s i 0 ≡ 10 → ⊥) → line_end at (drop at s) ≡ None
  end-other h e = past-text ∙ end-wrong s (256 - (i - at)) i (omega arith) e (rw is (run-other s at stop (omega arith) (omega arith) (omega arith)))

  pub end-stop : stop ≤ i → line_end at (drop at s) ≡ None
  end-stop h =
      past-text ∙ ⊎_elim (λ z. end_none s (256 - (i - at)) i (omega arith)) (λ z. end-full s (256 - (i - at)) i (omega arith)) (eq-zero-or-pos (length s - at - 256))

-- ---- what an end says of the bytes

at-bad : (e : ℕ) → Some e ≡ None → ⊥
at-bad e h = let z : ◌≡◌ {A = ℕ} 0 1 = cc in omega arith

-- an end: the bytes are a line, its LF, and the rest
pub line-there : (at : ℕ) (bs : List ℕ) (e : ℕ) → line_end at bs ≡ Some e
    → (l : Line) × (rest : List ℕ) × (bs ≡ l ++ (10 ∷ rest)) × (is_line l ≡ true) × (e ≡ at + length l)
unfolding line_end
line-there at bs e h = ⊎_elim (λ p. absurd (at-bad e (sym h ∙ ap (end_of at) p))) (λ w. go w.0 w.1 w.2 (is_line w.0) refl (sym (rw (w.2, first-cut w.0 w.1 w.3) at h))) (cut_of bs)
  where
    go : (l rest : List ℕ) → bs ≡ l ++ (10 ∷ rest) → (t : Bool) → is_line l ≡ t → Some e ≡ cond (is_line l) (Some (at + length l)) None
        → (l : Line) × (rest : List ℕ) × (bs ≡ l ++ (10 ∷ rest)) × (is_line l ≡ true) × (e ≡ at + length l)
    go l rest f true g k = (l, rest, f, g, let m : Some e ≡ Some (at + length l) = rw g at k in cc)
    go l rest f false g k = absurd (at-bad e (rw g at k))

-- no end: no LF stands in the bytes, or their first line is none
pub no_line : (at : ℕ) (bs : List ℕ) → line_end at bs ≡ None
    → Plain bs ⊎ ((l : Line) × (rest : List ℕ) × (bs ≡ l ++ (10 ∷ rest)) × Plain l × (is_line l ≡ false))
unfolding line_end
no_line at bs h = ⊎_elim (λ p. inl p) (λ w. go w.0 w.1 w.2 w.3 (is_line w.0) refl (rw (w.2, first-cut w.0 w.1 w.3) at h)) (cut_of bs)
  where
    go : (l rest : List ℕ) → bs ≡ l ++ (10 ∷ rest) → Plain l → (t : Bool) → is_line l ≡ t → cond (is_line l) (Some (at + length l)) None ≡ None
        → Plain bs ⊎ ((l : Line) × (rest : List ℕ) × (bs ≡ l ++ (10 ∷ rest)) × Plain l × (is_line l ≡ false))
    go l rest f p true g k = absurd (at-bad (at + length l) (rw g at k))
    go l rest f p false g k = inr (l, rest, f, p, g)

-- a line of `s` from `at` up to its LF at `e`
pub record Ended (s : List ℕ) (at e : ℕ) : Type 0 where
  pub low : at ≤ e
  pub high : e < length s
  pub line : is_line (part at e s) ≡ true
  pub long : length (part at e s) ≡ e - at
  pub split : drop at s ≡ part at e s ++ (10 ∷ drop (e + 1) s)

pub ended : (s : List ℕ) (at e : ℕ) → line_end at (drop at s) ≡ Some e → Ended s at e
ended s at e h = let w = line-there at (drop at s) e h in go w.0 w.1 w.2 w.3 w.4
  where
    go : (l rest : List ℕ) → drop at s ≡ l ++ (10 ∷ rest) → is_line l ≡ true → e ≡ at + length l → Ended s at e
    go l rest f g k =
        let n : e - at ≡ length l = omega arith in
        let is : part at e s ≡ l = ap (λ (m : ℕ). take m (drop at s)) n ∙ ap (take (length l)) f ∙ take_at l (10 ∷ rest) (length l) refl in
        let left : drop (e + 1) s ≡ rest =
        ap (λ (m : ℕ). drop m s) (let z : e + 1 ≡ at + (length l + 1) = omega arith in z)
        ∙ sym (drop-drop (length l + 1) at s) ∙ ap (drop (length l + 1)) f ∙ past l rest in
        let len : length s - at ≡ length l + suc (length rest) = sym (length-drop at s) ∙ ap length f ∙ length-append l (10 ∷ rest) in
        record {
          low = omega arith;
          high = omega arith;
          line = rw is g;
          long = rw is (sym n);
          split = rw (is, left) f;
        }
      where
        past : (l rest : List ℕ) → drop (length l + 1) (l ++ (10 ∷ rest)) ≡ rest
        past l rest = sym (drop-drop 1 (length l) (l ++ (10 ∷ rest))) ∙ ap (drop 1) (drop_at l (10 ∷ rest) (length l) refl)

-- the line with its LF
pub ended-bytes : (s : List ℕ) (at e : ℕ) → Ended s at e → part at (e + 1) s ≡ line_bytes (part at e s)
unfolding line_bytes
ended-bytes s at e k =
    let l : Line = part at e s in
    let n : e + 1 - at ≡ length l + 1 = rw k.long (let low = k.low in omega arith) in
    ap (λ (m : ℕ). take m (drop at s)) n ∙ ap (take (length l + 1)) k.split ∙ take-append-add l (10 ∷ drop (e + 1) s) 1
