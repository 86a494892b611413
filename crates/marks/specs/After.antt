-- The marks after some bytes: after more of them, how many they are, how great, and those of a pattern's parts.
use Rattle.std.specs.Prelude.{◌≡◌, refl, Bool, true, false, cond, List, [], ◌∷◌, ◌++◌, ℕ, zero, suc, ◌+◌, ◌≤◌, ◌<◌, min, length, take, drop, get_or}
use Rattle.std.proofs.Common.{sym, ap, ap₂, ◌∙◌, suc-le-suc, zero-add, suc-add, not-suc-le-zero, le_of_suc-le-suc, arith}
use Rattle.std.proofs.Math.Path.{fun_ext}
use Rattle.std.proofs.Math.Seq.{take-append_seam, take-length}
use Rattle.definitions.specs.Patterns.{Pattern, one_byte, empty_row, in_row, either_of, any_number, fits}
use Rattle.theorems.specs.Each.{Each, each_append, each-drop}
use Rattle.marks.specs.Sweeping.{never, slots, out_of, with_end, swept, no_marks, marks_from, marks_after}
use Rattle.marks.specs.Fronts.{swept-length, swept-row, swept-either, out-row, out-either}
use Rattle.marks.specs.Idle.{none-length, none-append, idle, ends-idle}

pub marks-append : (enter : ℕ → ℕ) (p : Pattern) (ms x y : List ℕ)
    → marks_from enter p ms (x ++ y) ≡ marks_from (λ j. enter (length x + j)) p (marks_from enter p ms x) y
unfolding marks_from
marks-append enter p ms [] y = ap (λ f. marks_from f p ms y) (fun_ext (λ j. ap enter (sym (zero-add j))))
marks-append enter p ms (b ∷ x) y =
    marks-append (λ j. enter (suc j)) p (swept b (enter 0) p ms) x y
    ∙ ap (λ f. marks_from f p (marks_from (λ j. enter (suc j)) p (swept b (enter 0) p ms) x) y) (fun_ext (λ j. ap enter (sym (suc-add (length x) j))))

pub marks-length : (enter : ℕ → ℕ) (p : Pattern) (ms s : List ℕ) → length ms ≡ slots p → length (marks_from enter p ms s) ≡ slots p
unfolding marks_from
marks-length enter p ms [] h = h
marks-length enter p ms (b ∷ s) h = marks-length (λ j. enter (suc j)) p (swept b (enter 0) p ms) s (swept-length b (enter 0) p ms)

pub after-length : (enter : ℕ → ℕ) (p : Pattern) (s : List ℕ) → length (marks_after enter p s) ≡ slots p
unfolding marks_after
after-length enter p s = marks-length enter p (idle p) s (none-length (slots p))

-- ---- no mark is more than `never`

unfoldable pub Low : ℕ → Type 0
Low m = m ≤ never

pub none-bound : (n : ℕ) → Each Low (no_marks n)
unfolding Low no_marks
none-bound zero = tt
none-bound (suc n) = (omega arith, none-bound n)

low_first : (ms : List ℕ) → Each Low ms → get_or ms 0 never ≤ never
unfolding Low
low_first [] h = omega arith
low_first (m ∷ ms) h = h.0

pub out-bound : (e : ℕ) (p : Pattern) (ms : List ℕ) → e ≤ never → Each Low ms → out_of e p ms ≤ never
unfolding out_of
out-bound e (one_byte mismatch x) ms l h = low_first ms h
out-bound e empty_row ms l h = l
out-bound e (in_row p q) ms l h = out-bound (out_of e p ms) q (drop (slots p) ms) (out-bound e p ms l h) (each-drop Low (slots p) ms h)
out-bound e (either_of p q) ms l h = let k : out_of e p ms ≤ never = out-bound e p ms l h in omega (arith, k)
out-bound e (any_number p) ms l h = omega arith

end-bound : (p : Pattern) (ms : List ℕ) → Each Low ms → Each Low (with_end p ms)
unfolding with_end Low
end-bound p ms h = (out-bound never p ms (omega arith) h, h)

pub swept-bound : (b e : ℕ) (p : Pattern) (ms : List ℕ) → e ≤ never → Each Low ms → Each Low (swept b e p ms)
unfolding swept Low
swept-bound b e (one_byte mismatch x) ms l h = (go (fits mismatch x b), tt)
  where
    go : (t : Bool) → cond t e never ≤ never
    go true = l
    go false = omega arith
swept-bound b e empty_row ms l h = tt
swept-bound b e (in_row p q) ms l h =
    each_append Low (swept b e p ms) (swept b (out_of e p ms) q (drop (slots p) ms)) (swept-bound b e p ms l h)
    (swept-bound b (out_of e p ms) q (drop (slots p) ms) (out-bound e p ms l h) (each-drop Low (slots p) ms h))
swept-bound b e (either_of p q) ms l h =
    each_append Low (swept b e p ms) (swept b e q (drop (slots p) ms)) (swept-bound b e p ms l h)
    (swept-bound b e q (drop (slots p) ms) l (each-drop Low (slots p) ms h))
swept-bound b e (any_number p) ms l h =
    end-bound p (swept b (min e (get_or ms 0 never)) p (drop 1 ms))
    (swept-bound b (min e (get_or ms 0 never)) p (drop 1 ms) (omega arith) (each-drop Low 1 ms h))

pub marks-bound : (enter : ℕ → ℕ) (p : Pattern) (ms s : List ℕ) → ((j : ℕ) → enter j ≤ never) → Each Low ms → Each Low (marks_from enter p ms s)
unfolding marks_from
marks-bound enter p ms [] l h = h
marks-bound enter p ms (b ∷ s) l h =
    marks-bound (λ j. enter (suc j)) p (swept b (enter 0) p ms) s (λ j. l (suc j)) (swept-bound b (enter 0) p ms (l 0) h)

-- ---- the marks of a pattern's parts

-- what comes out of p at the jth place
unfoldable pub out_from : (ℕ → ℕ) → Pattern → List ℕ → List ℕ → ℕ → ℕ
out_from enter p ms s j = out_of (enter j) p (marks_from enter p ms (take j s))

marks-row : (enter : ℕ → ℕ) (p q : Pattern) (ms ns s : List ℕ) → length ms ≡ slots p
    → marks_from enter (in_row p q) (ms ++ ns) s ≡ marks_from enter p ms s ++ marks_from (out_from enter p ms s) q ns s
unfolding marks_from out_from
marks-row enter p q ms ns [] h = refl
marks-row enter p q ms ns (b ∷ s) h =
    ap (λ l. marks_from (λ j. enter (suc j)) (in_row p q) l s) (swept-row p q ms ns h b (enter 0))
    ∙ marks-row (λ j. enter (suc j)) p q (swept b (enter 0) p ms) (swept b (out_of (enter 0) p ms) q ns) s (swept-length b (enter 0) p ms)

marks-either : (enter : ℕ → ℕ) (p q : Pattern) (ms ns s : List ℕ) → length ms ≡ slots p
    → marks_from enter (either_of p q) (ms ++ ns) s ≡ marks_from enter p ms s ++ marks_from enter q ns s
unfolding marks_from
marks-either enter p q ms ns [] h = refl
marks-either enter p q ms ns (b ∷ s) h =
    ap (λ l. marks_from (λ j. enter (suc j)) (either_of p q) l s) (swept-either p q ms ns h b (enter 0))
    ∙ marks-either (λ j. enter (suc j)) p q (swept b (enter 0) p ms) (swept b (enter 0) q ns) s (swept-length b (enter 0) p ms)

-- what has come past the item goes into it again
marks-any : (enter : ℕ → ℕ) (p : Pattern) (ms s : List ℕ)
    → marks_from enter (any_number p) (with_end p ms) s ≡ with_end p (marks_from (out_from enter (any_number p) (with_end p ms) s) p ms s)
unfolding marks_from out_from with_end swept out_of
marks-any enter p ms [] = refl
marks-any enter p ms (b ∷ s) = marks-any (λ j. enter (suc j)) p (swept b (min (enter 0) (out_of never p ms)) p ms) s

-- ---- what comes out of a pattern after the bytes, by what comes out of its parts

abbrev pub out_after : (ℕ → ℕ) → Pattern → List ℕ → ℕ
out_after enter p s = out_of (enter (length s)) p (marks_after enter p s)

pub out-at : (enter : ℕ → ℕ) (p : Pattern) (s y z : List ℕ) → s ≡ y ++ z → out_from enter p (idle p) s (length y) ≡ out_after enter p y
unfolding out_from marks_after
out-at enter p s y z e = ap (λ x. out_of (enter (length y)) p (marks_from enter p (idle p) x)) (ap (take (length y)) e ∙ take-append_seam y z)

-- the second is entered where the first is left
pub out-after-row : (enter : ℕ → ℕ) (p q : Pattern) (s : List ℕ) → out_after enter (in_row p q) s ≡ out_after (out_from enter p (idle p) s) q s
unfolding marks_after slots out_from
out-after-row enter p q s =
    ap (λ ms. out_of (enter (length s)) (in_row p q) (marks_from enter (in_row p q) ms s)) (none-append (slots p) (slots q))
    ∙ ap (out_of (enter (length s)) (in_row p q)) (marks-row enter p q (idle p) (idle q) s (none-length (slots p)))
    ∙ out-row p q (marks_after enter p s) (marks_after (out_from enter p (idle p) s) q s) (after-length enter p s) (enter (length s))
    ∙ ap (λ x. out_of (out_of (enter (length s)) p (marks_from enter p (idle p) x)) q (marks_after (out_from enter p (idle p) s) q s))
    (sym (take-length s))

pub out-after-either : (enter : ℕ → ℕ) (p q : Pattern) (s : List ℕ) → out_after enter (either_of p q) s ≡ min (out_after enter p s) (out_after enter q s)
unfolding marks_after slots
out-after-either enter p q s =
    ap (λ ms. out_of (enter (length s)) (either_of p q) (marks_from enter (either_of p q) ms s)) (none-append (slots p) (slots q))
    ∙ ap (out_of (enter (length s)) (either_of p q)) (marks-either enter p q (idle p) (idle q) s (none-length (slots p)))
    ∙ out-either p q (marks_after enter p s) (marks_after enter q s) (after-length enter p s) (enter (length s))

-- entered before the nth place only
unfoldable pub before : ℕ → (ℕ → ℕ) → ℕ → ℕ
before zero enter j = never
before (suc n) enter zero = enter 0
before (suc n) enter (suc j) = before n (λ i. enter (suc i)) j

pub before-is : (n : ℕ) (enter : ℕ → ℕ) (j : ℕ) → j < n → before n enter j ≡ enter j
unfolding before
before-is zero enter j h = absurd (not-suc-le-zero h)
before-is (suc n) enter zero h = refl
before-is (suc n) enter (suc j) h = before-is n (λ i. enter (suc i)) j (le_of_suc-le-suc h)

before-end : (n : ℕ) (enter : ℕ → ℕ) → before n enter n ≡ never
unfolding before
before-end zero enter = refl
before-end (suc n) enter = before-end n (λ i. enter (suc i))

pub before-only : (n : ℕ) (enter : ℕ → ℕ) (j t : ℕ) → t < never → before n enter j ≤ t → j < n
unfolding before
before-only zero enter j t l h = absurd (omega (arith, l, h))
before-only (suc n) enter zero t l h = omega arith
before-only (suc n) enter (suc j) t l h = suc-le-suc (before-only n (λ i. enter (suc i)) j t l h)

-- what is entered after all the bytes has no mark yet
marks-before : (enter : ℕ → ℕ) (p : Pattern) (ms s : List ℕ) → marks_from (before (length s) enter) p ms s ≡ marks_from enter p ms s
unfolding marks_from before
marks-before enter p ms [] = refl
marks-before enter p ms (b ∷ s) = marks-before (λ j. enter (suc j)) p (swept b (enter 0) p ms) s

-- the item is entered where the whole is left, and a byte at least must follow
pub out-after-any : (enter : ℕ → ℕ) (p : Pattern) (s : List ℕ)
    → out_after enter (any_number p) s ≡ min (enter (length s)) (out_after (before (length s) (out_from enter (any_number p) (idle (any_number p)) s)) p s)
unfolding marks_after out_of with_end
out-after-any enter p s =
    ap (λ ms. out_of (enter (length s)) (any_number p) (marks_from enter (any_number p) ms s)) (sym none)
    ∙ ap (out_of (enter (length s)) (any_number p)) (marks-any enter p (idle p) s)
    ∙ ap (λ ms. min (enter (length s)) (out_of never p (marks_from (out_from enter (any_number p) ms s) p (idle p) s))) none
    ∙ ap₂ (λ e ms. min (enter (length s)) (out_of e p ms)) (sym (before-end (length s) E)) (sym (marks-before E p (idle p) s))
  where
    none : with_end p (idle p) ≡ idle (any_number p)
    none = ends-idle p refl

    E : ℕ → ℕ
    E = out_from enter (any_number p) (idle (any_number p)) s
