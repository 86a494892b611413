-- 34 is at "the first byte with which no well-formed pattern goes on" (W9.5): whatever follows that byte is refused there too, and the bytes
-- before it do go on to a pattern.
use Rattle.std.specs.Prelude.{◌≡◌, refl, Bool, true, false, not, ◌&&◌, ◌||◌, List, [], ◌∷◌, ◌++◌, ℕ, zero, suc, ◌+◌, ◌-◌, ◌<◌, length, get_or, take, drop, eqb}
use Rattle.std.proofs.Common.{sym, ap, ◌∙◌, subst, append_assoc, arith, length-append, drop-cons, eqb-true, le-leb}
use Rattle.std.proofs.Math.Bool.{and-false, and_self, or_assoc}
use Rattle.std.proofs.lemmas.Bool.{false≢true}
use Rattle.std.proofs.Math.Seq.{take-append_seam, drop-append_seam, split_at}
use Rattle.std.proofs.lemmas.List.{take-append-le, drop-append-le}
use Rattle.definitions.specs.Bytes.{Line, is_digit, is_letter, is_capital, is_small}
use Rattle.definitions.specs.WordSet.{byte, quoted_byte, range, is_range}
use Rattle.definitions.specs.Reader.{Cursor, cursor, got, refused}
use Rattle.definitions.specs.Patterns.{Pattern, one_byte, empty_row, in_row, either_of, any_number, is_none, is_sign, is_blank, read_pattern}
use Rattle.theorems.specs.PatternGrammar.{Kind, alternatives, row, item, part, character, first, row_ends, is_alphanumeric, Written, alone, either, empty, next, repeated, once, bracket, mismatched, matched, quoted, plain, ranged, Broken, in-row, in_other, in_item, in_next, in_repeated, in_once, too_deep, in_bracket, unclosed, in_mismatched, in_matched, no_byte, sign, no_quoted, no_range}
use Rattle.theorems.specs.PatternReader.{unlike, BrokenPattern, within, unended, PatternOutcome, is-pattern, no_pattern, pattern-outcome, whole-read, broken-pattern-read, broken-shorter}

-- ---- what may follow

-- the alternatives end here: at the end or `)`
data Closes : List ℕ → Type 0 where
  at-end : Closes []
  at_bracket : {cs : List ℕ} → Closes (41 ∷ cs)

closes-row : {cs : List ℕ} → Closes cs → row_ends cs ≡ true
unfolding row_ends is_none first
closes-row at-end = refl
closes-row at_bracket = refl

closes-no-bar : {cs : List ℕ} → Closes cs → eqb 124 (first cs) ≡ false
unfolding first
closes-no-bar at-end = refl
closes-no-bar at_bracket = refl

row-no-dash : (cs : List ℕ) → row_ends cs ≡ true → eqb 45 (first cs) ≡ false
unfolding row_ends is_none first
row-no-dash [] e = refl
row-no-dash (c ∷ cs) e = unlike (λ x. eqb 124 x || eqb 41 x) 45 c refl e

row_closes : {deep : ℕ} {bs cs : List ℕ} {p : Pattern} → Written row deep bs p cs → row_ends cs ≡ true
row_closes (empty e) = e
row_closes (next w v) = row_closes v

no-bar-closes : (cs : List ℕ) → row_ends cs ≡ true → eqb 124 (first cs) ≡ false → Closes cs
unfolding row_ends is_none first
no-bar-closes [] e f = at-end
no-bar-closes (c ∷ cs) e f = subst (λ x. Closes (x ∷ cs)) (eqb-true 41 c (ap (λ t. t || eqb 41 c) (sym f) ∙ e)) at_bracket

alternatives-close : {deep : ℕ} {bs cs : List ℕ} {p : Pattern} → Written alternatives deep bs p cs → Closes cs
alternatives-close (alone {cs = cs} w e) = no-bar-closes cs (row_closes w) e
alternatives-close (either w v) = alternatives-close v

-- the second bytes may stand in place of the first ones; after a byte alone a `-` could make it a range, so there is none that was not there
abbrev Follows : Kind → List ℕ → List ℕ → Type 0
Follows alternatives cs ds = Closes ds
Follows row cs ds = row_ends ds ≡ true
Follows item cs ds = eqb 45 (first ds) ≡ true → eqb 45 (first cs) ≡ true
Follows part cs ds = eqb 45 (first ds) ≡ true → eqb 45 (first cs) ≡ true
Follows (character mismatch) cs ds = eqb 45 (first ds) ≡ true → eqb 45 (first cs) ≡ true

-- there is no new `-` if none begins what is put after `before`
still-follows : {bs : List ℕ} (before cs ds : List ℕ) → bs ≡ before ++ cs → eqb 45 (first ds) ≡ false → Follows item bs (before ++ ds)
unfolding first
still-follows [] cs ds e f g = absurd (false≢true (sym f ∙ g))
still-follows (b ∷ before) cs ds e f g = ap (λ x. eqb 45 (first x)) e ∙ g

plain_follows : (b : ℕ) (cs ds : List ℕ) → (eqb 45 (first cs) && is_alphanumeric b) ≡ false → Follows (character false) cs ds
    → (eqb 45 (first ds) && is_alphanumeric b) ≡ false
plain_follows b cs ds e f = decide (eqb 45 (first ds)) refl
  where
    decide : (t : Bool) → eqb 45 (first ds) ≡ t → (t && is_alphanumeric b) ≡ false
    decide true g = ap (λ t. t && is_alphanumeric b) (sym (f g)) ∙ e
    decide false g = refl

joined : {bs cs : List ℕ} (u v ds : List ℕ) → bs ≡ u ++ cs → cs ≡ v ++ ds → bs ≡ u ++ v ++ ds
joined u v ds e f = e ∙ ap (λ x. u ++ x) f ∙ sym (append_assoc u v ds)

-- ---- what was read is read with other bytes after it, too

-- p takes the bytes `before`
record Taken (k : Kind) (deep : ℕ) (bs : List ℕ) (p : Pattern) (cs : List ℕ) : Type 0 where
  before : List ℕ
  split : bs ≡ before ++ cs
  again : (ds : List ℕ) → Follows k cs ds → Written k deep (before ++ ds) p ds

taken : {k : Kind} {deep : ℕ} {bs cs : List ℕ} {p : Pattern} → Written k deep bs p cs → Taken k deep bs p cs
unfolding row_ends is_none first
taken (alone w e) =
    record { before = (taken w).before; split = (taken w).split; again = λ ds h. alone ((taken w).again ds (closes-row h)) (closes-no-bar h) }
taken (either {deep} {bs} {cs} {ds} {p} {q} w v) = record {
  before = (taken w).before ++ 124 ∷ (taken v).before;
  split = joined (taken w).before (124 ∷ (taken v).before) ds (taken w).split (ap (λ x. 124 ∷ x) (taken v).split);
  again = λ es h.
      subst (λ x. Written alternatives deep x (either_of p q) es) (sym (append_assoc (taken w).before (124 ∷ (taken v).before) es))
      (either ((taken w).again (124 ∷ ((taken v).before ++ es)) refl) ((taken v).again es h));
}
taken (empty e) = record { before = []; split = refl; again = λ ds h. empty h }
taken (next {deep} {bs} {cs} {ds} {p} {q} w v) = record {
  before = (taken w).before ++ (taken v).before;
  split = joined (taken w).before (taken v).before ds (taken w).split (taken v).split;
  again = λ es h.
      subst (λ x. Written row deep x (in_row p q) es) (sym (append_assoc (taken w).before (taken v).before es))
      (next
      ((taken w).again ((taken v).before ++ es) (still-follows (taken v).before ds es (taken v).split (row-no-dash es h)))
      ((taken v).again es h));
}
taken (repeated w) =
    record { before = 35 ∷ (taken w).before; split = ap (λ x. 35 ∷ x) (taken w).split; again = λ ds h. repeated ((taken w).again ds h) }
taken (once w) = record { before = (taken w).before; split = (taken w).split; again = λ ds h. once ((taken w).again ds h) }
taken (bracket {deep} {bs} {cs} {p} w e) = record {
  before = 40 ∷ ((taken w).before ++ 41 ∷ []);
  split = ap (λ x. 40 ∷ x) ((taken w).split ∙ sym (append_assoc (taken w).before (41 ∷ []) cs));
  again = λ ds h.
      subst (λ x. Written part (suc deep) (40 ∷ x) p ds) (sym (append_assoc (taken w).before (41 ∷ []) ds))
      (bracket ((taken w).again (41 ∷ ds) at_bracket) e);
}
taken (mismatched w) =
    record { before = 126 ∷ (taken w).before; split = ap (λ x. 126 ∷ x) (taken w).split; again = λ ds h. mismatched ((taken w).again ds h) }
taken (matched w) = record { before = (taken w).before; split = (taken w).split; again = λ ds h. matched ((taken w).again ds h) }
taken (quoted {b = b}) = record { before = 34 ∷ b ∷ []; split = refl; again = λ ds h. quoted }
taken (plain {b = b} {cs = cs} e f) = record { before = b ∷ []; split = refl; again = λ ds h. plain e (plain_follows b cs ds f h) }
taken (ranged {a = a} {b = b} e f g) = record { before = a ∷ 45 ∷ b ∷ []; split = refl; again = λ ds h. ranged e f g }

-- ---- what goes wrong goes wrong there with anything else after that byte

-- neither is empty, and they begin with the same byte
data SameFirst : List ℕ → List ℕ → Type 0 where
  same : {b : ℕ} {bs cs : List ℕ} → SameFirst (b ∷ bs) (b ∷ cs)

same_first : {bs cs : List ℕ} → SameFirst bs cs → first bs ≡ first cs
unfolding first
same_first same = refl

same_none : {bs cs : List ℕ} → SameFirst bs cs → is_none bs ≡ is_none cs
unfolding is_none
same_none same = refl

same_ends : {bs cs : List ℕ} → SameFirst bs cs → row_ends bs ≡ row_ends cs
unfolding row_ends is_none first
same_ends same = refl

same-closes : {bs cs : List ℕ} → SameFirst bs cs → Closes bs → Closes cs
same-closes same at_bracket = at_bracket

none-same : {cs : List ℕ} {A : Type 0} → SameFirst [] cs → A
none-same h = elim h [ ]

same_after : {bs : List ℕ} (before cs ds : List ℕ) → bs ≡ before ++ cs → SameFirst cs ds → SameFirst bs (before ++ ds)
same_after before cs ds e h = subst (λ x. SameFirst x (before ++ ds)) (sym e) (put before)
  where
    put : (bs : List ℕ) → SameFirst (bs ++ cs) (bs ++ ds)
    put [] = h
    put (b ∷ bs) = same

too-deep-again : {bs : List ℕ} (ds : List ℕ) → SameFirst (40 ∷ bs) ds → Broken part zero ds ds
too-deep-again ds same = too_deep

sign-again : {mismatch : Bool} {deep b : ℕ} {bs : List ℕ} → eqb 34 b ≡ false → is_sign b ≡ true → (ds : List ℕ) → SameFirst (b ∷ bs) ds
    → Broken (character mismatch) deep ds ds
sign-again e f ds same = sign e f

-- what begins where it goes wrong may be anything with the same first byte
record Stays (k : Kind) (deep : ℕ) (bs cs : List ℕ) : Type 0 where
  before : List ℕ
  split : bs ≡ before ++ cs
  again : (ds : List ℕ) → SameFirst cs ds → Broken k deep (before ++ ds) ds

stays : {k : Kind} {deep : ℕ} {bs cs : List ℕ} → Broken k deep bs cs → Stays k deep bs cs
unfolding row_ends is_none first
stays (in-row b) = record { before = (stays b).before; split = (stays b).split; again = λ ds h. in-row ((stays b).again ds h) }
stays (in_other {deep} {bs} {cs} {ds} {p} w b) = record {
  before = (taken w).before ++ 124 ∷ (stays b).before;
  split = joined (taken w).before (124 ∷ (stays b).before) ds (taken w).split (ap (λ x. 124 ∷ x) (stays b).split);
  again = λ es h.
      subst (λ x. Broken alternatives deep x es) (sym (append_assoc (taken w).before (124 ∷ (stays b).before) es))
      (in_other ((taken w).again (124 ∷ ((stays b).before ++ es)) refl) ((stays b).again es h));
}
stays (in_item {cs = cs} e b) = record {
  before = (stays b).before;
  split = (stays b).split;
  again = λ ds h. in_item (sym (same_ends (same_after (stays b).before cs ds (stays b).split h)) ∙ e) ((stays b).again ds h);
}
stays (in_next {deep} {bs} {cs} {ds} {p} w b) = record {
  before = (taken w).before ++ (stays b).before;
  split = joined (taken w).before (stays b).before ds (taken w).split (stays b).split;
  again = λ es h.
      subst (λ x. Broken row deep x es) (sym (append_assoc (taken w).before (stays b).before es))
      (in_next
      ((taken w).again ((stays b).before ++ es) (λ e. ap (eqb 45) (same_first (same_after (stays b).before ds es (stays b).split h)) ∙ e))
      ((stays b).again es h));
}
stays (in_repeated b) =
    record { before = 35 ∷ (stays b).before; split = ap (λ x. 35 ∷ x) (stays b).split; again = λ ds h. in_repeated ((stays b).again ds h) }
stays (in_once {cs = cs} e b) = record {
  before = (stays b).before;
  split = (stays b).split;
  again = λ ds h. in_once (ap (eqb 35) (sym (same_first (same_after (stays b).before cs ds (stays b).split h))) ∙ e) ((stays b).again ds h);
}
stays too_deep = record { before = []; split = refl; again = too-deep-again }
stays (in_bracket b) =
    record { before = 40 ∷ (stays b).before; split = ap (λ x. 40 ∷ x) (stays b).split; again = λ ds h. in_bracket ((stays b).again ds h) }
stays (unclosed {deep} {bs} {cs} {p} w e) = record {
  before = 40 ∷ (taken w).before;
  split = ap (λ x. 40 ∷ x) (taken w).split;
  again = λ ds h.
      unclosed ((taken w).again ds (same-closes h (alternatives-close w))) (ap (λ x. eqb 41 x && not (is_blank p)) (sym (same_first h)) ∙ e);
}
stays (in_mismatched b) =
    record { before = 126 ∷ (stays b).before; split = ap (λ x. 126 ∷ x) (stays b).split; again = λ ds h. in_mismatched ((stays b).again ds h) }
stays (in_matched {cs = cs} e f b) = record {
  before = (stays b).before;
  split = (stays b).split;
  again = λ ds h.
      in_matched (ap (eqb 40) (sym (same_first (same_after (stays b).before cs ds (stays b).split h))) ∙ e)
      (ap (eqb 126) (sym (same_first (same_after (stays b).before cs ds (stays b).split h))) ∙ f) ((stays b).again ds h);
}
stays no_byte = record { before = []; split = refl; again = λ ds h. none-same h }
stays (sign e f) = record { before = []; split = refl; again = sign-again e f }
stays no_quoted = record { before = 34 ∷ []; split = refl; again = λ ds h. none-same h }
stays (no_range {a = a} e f g) =
    record { before = a ∷ 45 ∷ []; split = refl; again = λ ds h. no_range e f (ap (is_range a) (sym (same_first h)) ∙ g) }

-- the same of the whole string
record PatternStays (s cs : List ℕ) : Type 0 where
  before : List ℕ
  split : s ≡ before ++ cs
  again : (ds : List ℕ) → SameFirst cs ds → BrokenPattern (before ++ ds) ds

pattern-stays : {s cs : List ℕ} → BrokenPattern s cs → PatternStays s cs
pattern-stays (within b) = record { before = (stays b).before; split = (stays b).split; again = λ ds h. within ((stays b).again ds h) }
pattern-stays (unended {p} w e) = record {
  before = (taken w).before;
  split = (taken w).split;
  again = λ ds h. unended ((taken w).again ds (same-closes h (alternatives-close w))) (ap (λ t. t && not (is_blank p)) (sym (same_none h)) ∙ e);
}

-- the place of the fault
fault-place : {s cs : List ℕ} (at n x : ℕ) → BrokenPattern s cs → read_pattern at s ≡ refused n x → (n ≡ 34) × (x + length cs ≡ at + length s)
fault-place {s} {cs} at n x b e = told (broken-pattern-read b at (at + (length s - length cs)) (omega (arith, broken-shorter b)))
  where
    told : read_pattern at s ≡ refused 34 (at + (length s - length cs)) → (n ≡ 34) × (x + length cs ≡ at + length s)
    told f = let z : x ≡ at + (length s - length cs) = cc in (cc, omega (arith, broken-shorter b))

-- a string cut in two ways, `before` the shorter: what stands after it begins in u
record Cut (u v before cs : List ℕ) : Type 0 where
  at_cut : ℕ
  between : List ℕ
  longer : u ≡ before ++ at_cut ∷ between
  rest : cs ≡ at_cut ∷ (between ++ v)

cut : (u v before cs : List ℕ) → u ++ v ≡ before ++ cs → length before < length u → Cut u v before cs
cut u v before cs e l = record {
  at_cut = get_or u (length before) 0;
  between = drop (suc (length before)) u;
  longer = split_at u (length before) 0 l ∙ ap (λ x. x ++ get_or u (length before) 0 ∷ drop (suc (length before)) u) front;
  rest =
      sym (drop-append_seam before cs) ∙ ap (drop (length before)) (sym e) ∙ drop-append-le (length before) u v (omega arith)
      ∙ ap (λ x. x ++ v) (drop-cons u (length before) 0 l);
}
  where
    front : take (length before) u ≡ before
    front = sym (take-append-le (length before) u v (omega arith)) ∙ ap (take (length before)) e ∙ take-append_seam before cs

-- what begins with the same bytes, the one at the fault among them, is refused there
pub no-pattern-goes-on : (at : ℕ) (u v : List ℕ) (n x : ℕ) → read_pattern at (u ++ v) ≡ refused n x → x < at + length u
    → (v' : List ℕ) → read_pattern at (u ++ v') ≡ refused n x
no-pattern-goes-on at u v n x e l v' = by (pattern-outcome (u ++ v))
  where
    begun : {cs : List ℕ} (h : PatternStays (u ++ v) cs) → n ≡ 34 → x ≡ at + length h.before → Cut u v h.before cs
        → read_pattern at (u ++ v') ≡ refused n x
    begun h q place c =
        ap (read_pattern at) (ap (λ y. y ++ v') c.longer ∙ append_assoc h.before (c.at_cut ∷ c.between) v')
        ∙ broken-pattern-read
        (h.again (c.at_cut ∷ (c.between ++ v')) (subst (λ y. SameFirst y (c.at_cut ∷ (c.between ++ v'))) (sym c.rest) same)) at x
        (omega (arith, place, length-append h.before (c.at_cut ∷ (c.between ++ v'))))
        ∙ ap (λ k. refused k x) (sym q)

    by : PatternOutcome (u ++ v) → read_pattern at (u ++ v') ≡ refused n x
    by (is-pattern w f) = absurd (let z : ◌≡◌ {A = ℕ} 0 1 = cc (e, whole-read w f at) in omega arith)
    by (no_pattern {cs} b) = found (pattern-stays b) (fault-place at n x b e).0 (fault-place at n x b e).1
      where
        found : (h : PatternStays (u ++ v) cs) → n ≡ 34 → x + length cs ≡ at + length (u ++ v) → read_pattern at (u ++ v') ≡ refused n x
        found h q place =
            let a : length (u ++ v) ≡ length h.before + length cs = ap length h.split ∙ length-append h.before cs in
            begun h q (omega arith) (cut u v h.before cs h.split (omega arith))

-- ---- the bytes before it go on to a pattern

-- `a` where a character may stand
letter : {mismatch : Bool} {deep : ℕ} {cs : List ℕ} → Closes cs → Written (character mismatch) deep (97 ∷ cs) (one_byte mismatch (byte 97)) cs
unfolding is_sign first
letter at-end = plain refl refl
letter at_bracket = plain refl refl

empty-at-bar : {deep : ℕ} {cs : List ℕ} → Written row deep (124 ∷ cs) empty_row (124 ∷ cs)
unfolding row_ends is_none first
empty-at-bar = empty refl

-- a letter or digit to itself
self-range : (a : ℕ) → is_alphanumeric a ≡ true → is_range a a ≡ true
unfolding is_alphanumeric is_letter is_range
self-range a e =
    rw (le-leb a a (omega arith), and_self (is_digit a), and_self (is_capital a), and_self (is_small a))
    (or_assoc (is_digit a) (is_capital a) (is_small a) ∙ e)

-- with `filler` put where it goes wrong something is read that is not blank, up to what closes the alternatives
record GoesOn (k : Kind) (deep : ℕ) (bs cs : List ℕ) : Type 0 where
  before : List ℕ
  split : bs ≡ before ++ cs
  filler : List ℕ → List ℕ
  no_dash : (ds : List ℕ) → Closes ds → eqb 45 (first (filler ds)) ≡ false
  made : Pattern
  full : is_blank made ≡ false
  again : (ds : List ℕ) → Closes ds → Written k deep (before ++ filler ds) made ds

-- with `a`, which makes p
letter-goes-on : {k : Kind} {deep : ℕ} {bs : List ℕ} (p : Pattern) → is_blank p ≡ false → ((ds : List ℕ) → Closes ds → Written k deep (97 ∷ ds) p ds)
    → GoesOn k deep bs bs
unfolding first
letter-goes-on p e f = record { before = []; split = refl; filler = λ ds. 97 ∷ ds; no_dash = λ ds h. refl; made = p; full = e; again = f }

-- as a part of f's pattern, with `front` before it
within-goes-on : {k l : Kind} {deep : ℕ} {bs cs : List ℕ} (front : List ℕ) (f : Pattern → Pattern) (g : GoesOn k deep bs cs)
    → is_blank (f g.made) ≡ false
    → ((xs ds : List ℕ) → Closes ds → Written k deep xs g.made ds → Written l deep (front ++ xs) (f g.made) ds) → GoesOn l deep (front ++ bs) cs
within-goes-on {l = l} {deep = deep} {cs = cs} front f g e h = record {
  before = front ++ g.before;
  split = joined front g.before cs refl g.split;
  filler = g.filler;
  no_dash = g.no_dash;
  made = f g.made;
  full = e;
  again = λ ds k.
      subst (λ x. Written l deep x (f g.made) ds) (sym (append_assoc front g.before (g.filler ds)))
      (h (g.before ++ g.filler ds) ds k (g.again ds k));
}

-- in brackets, which the filler closes
in-brackets : {deep : ℕ} {bs cs : List ℕ} → GoesOn alternatives deep bs cs → GoesOn part (suc deep) (40 ∷ bs) cs
in-brackets g = record {
  before = 40 ∷ g.before;
  split = ap (λ x. 40 ∷ x) g.split;
  filler = λ ds. g.filler (41 ∷ ds);
  no_dash = λ ds h. g.no_dash (41 ∷ ds) at_bracket;
  made = g.made;
  full = g.full;
  again = λ ds h. bracket (g.again (41 ∷ ds) at_bracket) g.full;
}

-- alternatives that are all empty
blank-goes-on : {deep : ℕ} {bs cs : List ℕ} {p : Pattern} → Written alternatives deep bs p cs → is_blank p ≡ true → GoesOn alternatives deep bs cs
unfolding is_blank
blank-goes-on (alone (empty e) f) g =
    letter-goes-on (in_row (one_byte false (byte 97)) empty_row) refl
    (λ ds h. alone (next (once (matched (letter h))) (empty (closes-row h))) (closes-no-bar h))
blank-goes-on (alone (next w v) f) g = absurd (false≢true g)
blank-goes-on (either (empty e) v) g =
    within-goes-on (124 ∷ []) (λ q. either_of empty_row q) (blank-goes-on v g) (blank-goes-on v g).full (λ xs ds h w. either empty-at-bar w)
blank-goes-on (either (next w u) v) g = absurd (false≢true g)

-- the alternatives of a bracket, that are blank or want their `)`
bracket-goes-on : {deep : ℕ} {bs cs : List ℕ} {p : Pattern} → Written alternatives deep bs p cs → (t : Bool) → is_blank p ≡ t
    → GoesOn part (suc deep) (40 ∷ bs) cs
unfolding first
bracket-goes-on {p = p} w false e = record {
  before = 40 ∷ (taken w).before;
  split = ap (λ x. 40 ∷ x) (taken w).split;
  filler = λ ds. 41 ∷ ds;
  no_dash = λ ds h. refl;
  made = p;
  full = e;
  again = λ ds h. bracket ((taken w).again (41 ∷ ds) at_bracket) e;
}
bracket-goes-on w true e = in-brackets (blank-goes-on w e)

goes_on : {k : Kind} {deep : ℕ} {bs cs : List ℕ} → Broken k deep bs cs → GoesOn k deep bs cs
unfolding row_ends is_none is_blank is_sign first
goes_on (in-row b) = within-goes-on [] (λ p. p) (goes_on b) (goes_on b).full (λ xs ds h w. alone w (closes-no-bar h))
goes_on (in_other {deep} {bs} {cs} {ds} {p} w b) = record {
  before = (taken w).before ++ 124 ∷ (goes_on b).before;
  split = joined (taken w).before (124 ∷ (goes_on b).before) ds (taken w).split (ap (λ x. 124 ∷ x) (goes_on b).split);
  filler = (goes_on b).filler;
  no_dash = (goes_on b).no_dash;
  made = either_of p (goes_on b).made;
  full = ap (λ t. is_blank p && t) (goes_on b).full ∙ and-false (is_blank p);
  again = λ es h.
      subst (λ x. Written alternatives deep x (either_of p (goes_on b).made) es)
      (sym (append_assoc (taken w).before (124 ∷ (goes_on b).before) ((goes_on b).filler es)))
      (either ((taken w).again (124 ∷ ((goes_on b).before ++ (goes_on b).filler es)) refl) ((goes_on b).again es h));
}
goes_on (in_item e b) = within-goes-on [] (λ p. in_row p empty_row) (goes_on b) refl (λ xs ds h w. next w (empty (closes-row h)))
goes_on (in_next {deep} {bs} {cs} {ds} {p} w b) = record {
  before = (taken w).before ++ (goes_on b).before;
  split = joined (taken w).before (goes_on b).before ds (taken w).split (goes_on b).split;
  filler = (goes_on b).filler;
  no_dash = (goes_on b).no_dash;
  made = in_row p (goes_on b).made;
  full = refl;
  again = λ es h.
      subst (λ x. Written row deep x (in_row p (goes_on b).made) es) (sym (append_assoc (taken w).before (goes_on b).before ((goes_on b).filler es)))
      (next
      ((taken w).again ((goes_on b).before ++ (goes_on b).filler es)
      (still-follows (goes_on b).before ds ((goes_on b).filler es) (goes_on b).split ((goes_on b).no_dash es h)))
      ((goes_on b).again es h));
}
goes_on (in_repeated b) = within-goes-on (35 ∷ []) (λ p. any_number p) (goes_on b) refl (λ xs ds h w. repeated w)
goes_on (in_once e b) = within-goes-on [] (λ p. p) (goes_on b) (goes_on b).full (λ xs ds h w. once w)
goes_on too_deep = letter-goes-on (one_byte false (byte 97)) refl (λ ds h. matched (letter h))
goes_on (in_bracket b) = in-brackets (goes_on b)
goes_on (unclosed {p = p} w e) = bracket-goes-on w (is_blank p) refl
goes_on (in_mismatched b) = within-goes-on (126 ∷ []) (λ p. p) (goes_on b) (goes_on b).full (λ xs ds h w. mismatched w)
goes_on (in_matched e f b) = within-goes-on [] (λ p. p) (goes_on b) (goes_on b).full (λ xs ds h w. matched w)
goes_on (no_byte {mismatch}) = letter-goes-on (one_byte mismatch (byte 97)) refl (λ ds h. letter h)
goes_on (sign {mismatch} e f) = letter-goes-on (one_byte mismatch (byte 97)) refl (λ ds h. letter h)
goes_on (no_quoted {mismatch}) = record {
  before = 34 ∷ [];
  split = refl;
  filler = λ ds. 97 ∷ ds;
  no_dash = λ ds h. refl;
  made = one_byte mismatch (quoted_byte 97);
  full = refl;
  again = λ ds h. quoted;
}
goes_on (no_range {mismatch} {a = a} e f g) = record {
  before = a ∷ 45 ∷ [];
  split = refl;
  filler = λ ds. a ∷ ds;
  no_dash = λ ds h. unlike (λ x. not (is_sign x)) 45 a refl (ap not e);
  made = one_byte mismatch (range a a);
  full = refl;
  again = λ ds h. ranged e f (self-range a f);
}

-- the same of the whole string
record PatternGoesOn (s cs : List ℕ) : Type 0 where
  before : List ℕ
  split : s ≡ before ++ cs
  filler : List ℕ
  made : Pattern
  full : is_blank made ≡ false
  whole : Written alternatives 8 (before ++ filler) made []

closed-goes-on : {s cs : List ℕ} → GoesOn alternatives 8 s cs → PatternGoesOn s cs
closed-goes-on g =
    record { before = g.before; split = g.split; filler = g.filler []; made = g.made; full = g.full; whole = g.again [] at-end }

-- after the alternatives stands a `)`, or they are all empty
unended-goes-on : {s cs : List ℕ} {p : Pattern} → Written alternatives 8 s p cs → (t : Bool) → is_blank p ≡ t → PatternGoesOn s cs
unended-goes-on {p = p} w false e =
    record { before = (taken w).before; split = (taken w).split; filler = []; made = p; full = e; whole = (taken w).again [] at-end }
unended-goes-on w true e = closed-goes-on (blank-goes-on w e)

pattern-goes-on : {s cs : List ℕ} → BrokenPattern s cs → PatternGoesOn s cs
pattern-goes-on (within b) = closed-goes-on (goes_on b)
pattern-goes-on (unended {p} w e) = unended-goes-on w (is_blank p) refl

-- the bytes before the fault, and something after them, are a pattern
pub a-pattern-goes-on : (at : ℕ) (s : Line) (n x : ℕ) → read_pattern at s ≡ refused n x
    → (v : List ℕ) × (p : Pattern) × (c : Cursor) × (read_pattern at (take (x - at) s ++ v) ≡ got p c)
a-pattern-goes-on at s n x e = by (pattern-outcome s)
  where
    far : {cs : List ℕ} (g : PatternGoesOn s cs) → x + length cs ≡ at + length s → x - at ≡ length g.before
    far {cs} g place = omega (arith, ap length g.split ∙ length-append g.before cs)

    from : {cs : List ℕ} (g : PatternGoesOn s cs) → x + length cs ≡ at + length s → take (x - at) s ≡ g.before
    from {cs} g place = ap (λ k. take k s) (far g place) ∙ ap (take (length g.before)) g.split ∙ take-append_seam g.before cs

    goes : {cs : List ℕ} (g : PatternGoesOn s cs) → x + length cs ≡ at + length s
        → (v : List ℕ) × (p : Pattern) × (c : Cursor) × (read_pattern at (take (x - at) s ++ v) ≡ got p c)
    goes g place = (
      g.filler,
      g.made,
      cursor (at + length (g.before ++ g.filler)) [],
      ap (λ y. read_pattern at (y ++ g.filler)) (from g place) ∙ whole-read g.whole g.full at,
    )

    by : PatternOutcome s → (v : List ℕ) × (p : Pattern) × (c : Cursor) × (read_pattern at (take (x - at) s ++ v) ≡ got p c)
    by (is-pattern w f) = absurd (let z : ◌≡◌ {A = ℕ} 0 1 = cc (e, whole-read w f at) in omega arith)
    by (no_pattern b) = goes (pattern-goes-on b) (fault-place at n x b e).1
