-- A buffer and its numbers show one text at most: so an editor, of which it is said that they show some text, has that text. Assumes nothing.
use mathlib.Core.Path.{◌≡◌, refl, sym, ap, ◌∙◌}
use mathlib.Core.Logic.{∥∥₁_elim}
use mathlib.Core.HLevel.{×_prop, Σ_prop_path, Unit-prop}
use mathlib.Core.Bool.{true, false}
use Prim.Native.Nat.{ℕ, ◌+◌, ◌-◌, ◌≤◌}
use native.Mathlib.Omega.{arith}
use mathlib.Core.List.{List, [], ◌∷◌, ◌++◌, map, reverse_aux}
use lib.ListN.{length, length-append, length-map, length-reverse_aux, take, drop}
use lib.Seq.{take-append_seam, drop-append_seam}
use denote.Struct.Props as logic
use Rattle.definitions.specs.Bytes.{Line, is_line}
use Rattle.definitions.specs.Journal.{Record, kept, changed, deleted, inserted}
use Rattle.definitions.specs.Tape.{Tape, unread, ended, rest_lines}
use Rattle.definitions.specs.Editor.{Ed, ed, before_of, after_of, sources}
use Rattle.theorems.specs.RecordLaws.{sources-append, sources-kept}
use Rattle.text.specs.Feeds.{place_of, line_length}
use Rattle.gap.specs.Gap.{zeros}
use Rattle.editor.specs.Records.{enc, enc_all, enc_before, Good, Goods}
use Rattle.editor.specs.Shows.{Holds, Shows, ShowsText, Opens, GroundedAt}
use Rattle.editor.specs.declared.State.{State}
use Rattle.editor.proofs.Records.{record-line, line-text, text-place, some_bytes, before-all, goods-reverse}
use Rattle.std.specs.Prelude.{Result, Ok, Err}
use Rattle.editor.specs.Edited.{moved_by}
use Rattle.definitions.specs.Reading.{Ran}
use Rattle.editor.specs.declared.Stop.{Stop}
use Rattle.editor.specs.Stops.{stopping}
use Rattle.definitions.specs.StepProgram.{Out, on, edited, halt, state}
use Rattle.editor.specs.Shows.{Came, Answers, Answered, at_point, raised, lent}
use Rattle.editor.proofs.Parts.{went, halted}
use Rattle.editor.proofs.Moving.{point-shows}
use Rattle.editor.proofs.Reading.{reach_of, shown-reach, reads-line}

-- ---- two ways to part one list

-- where the first parts are of one length, they are the same, and so are the second
pub parts-same : {A : Type 0} (a b x y : List A) → length a ≡ length b → a ++ x ≡ b ++ y → (a ≡ b) × (x ≡ y)
parts-same a b x y n h = (
  sym (take-append_seam a x) ∙ ap (λ k. take k (a ++ x)) n ∙ ap (take (length b)) h ∙ take-append_seam b y,
  sym (drop-append_seam a x) ∙ ap (λ k. drop k (a ++ x)) n ∙ ap (drop (length b)) h ∙ drop-append_seam b y,
)

-- ---- records from their bytes

tail-same : {A : Type 0} (x y : A) (a b : List A) → x ∷ a ≡ y ∷ b → a ≡ b
tail-same x y a b h = cc

line-same : (l m : Line) → l ++ (10 ∷ []) ≡ m ++ (10 ∷ []) → l ≡ m
line-same l m h =
    let n : length l ≡ length m = omega (arith, length-append l (10 ∷ []), length-append m (10 ∷ []), ap length h) in
    (parts-same l m (10 ∷ []) (10 ∷ []) n h).0

changed-same : (o n p q : Line) → is_line o ≡ true → is_line p ≡ true → (o ++ (0 ∷ n)) ++ (10 ∷ []) ≡ (p ++ (0 ∷ q)) ++ (10 ∷ []) → changed o n ≡ changed p q
changed-same o n p q g h is =
    let all : o ++ (0 ∷ n) ≡ p ++ (0 ∷ q) = line-same (o ++ (0 ∷ n)) (p ++ (0 ∷ q)) is in
    let long : length o ≡ length p = sym (text-place 0 (omega arith) o n (line-text o g)) ∙ ap (place_of 0) all ∙ text-place 0 (omega arith) p q (line-text p h) in
    let two : (o ≡ p) × (0 ∷ n ≡ 0 ∷ q) = parts-same o p (0 ∷ n) (0 ∷ q) long all in
    let last : n ≡ q = tail-same 0 0 n q two.1 in
    let first : o ≡ p = two.0 in
    cc

other-marks : {A : Type 0} {x y : ℕ} {a b : List ℕ} → (x ≡ y → ⊥) → x ∷ a ≡ y ∷ b → A
other-marks {x = x} {y = y} differ h = absurd (differ (let q : x ≡ y = cc in q))

record-same : (r s : Record) → Good r → Good s → enc r ≡ enc s → r ≡ s
record-same (kept l) (kept m) g h is = ap kept (line-same l m (tail-same 61 61 _ _ (tail-same 61 61 _ _ is)))
record-same (kept l) (changed p q) g h is = other-marks (λ e. omega (arith, e)) is
record-same (kept l) (deleted m) g h is = other-marks (λ e. omega (arith, e)) is
record-same (kept l) (inserted m) g h is = other-marks (λ e. omega (arith, e)) is
record-same (changed o n) (kept m) g h is = other-marks (λ e. omega (arith, e)) is
record-same (changed o n) (changed p q) g h is = changed-same o n p q g.0 h.0 (tail-same 62 62 _ _ (tail-same 60 60 _ _ is))
record-same (changed o n) (deleted m) g h is = other-marks (λ e. omega (arith, e)) is
record-same (changed o n) (inserted m) g h is = other-marks (λ e. omega (arith, e)) is
record-same (deleted l) (kept m) g h is = other-marks (λ e. omega (arith, e)) is
record-same (deleted l) (changed p q) g h is = other-marks (λ e. omega (arith, e)) is
record-same (deleted l) (deleted m) g h is = ap deleted (line-same l m (tail-same 45 45 _ _ (tail-same 45 45 _ _ is)))
record-same (deleted l) (inserted m) g h is = other-marks (λ e. omega (arith, e)) is
record-same (inserted l) (kept m) g h is = other-marks (λ e. omega (arith, e)) is
record-same (inserted l) (changed p q) g h is = other-marks (λ e. omega (arith, e)) is
record-same (inserted l) (deleted m) g h is = other-marks (λ e. omega (arith, e)) is
record-same (inserted l) (inserted m) g h is = ap inserted (line-same l m (tail-same 43 43 _ _ (tail-same 43 43 _ _ is)))

-- a list of records is the one that its bytes are of
pub records-same : (a b : List Record) → Goods a → Goods b → enc_all a ≡ enc_all b → a ≡ b
unfolding enc_all
records-same [] [] g h is = refl
records-same [] (s ∷ b) g h is = absurd (omega (arith, ap length is, length-append (enc s) (enc_all b), some_bytes s))
records-same (r ∷ a) [] g h is = absurd (omega (arith, ap length is, length-append (enc r) (enc_all a), some_bytes r))
records-same (r ∷ a) (s ∷ b) g h is =
    let long : length (enc r) ≡ length (enc s) = sym (record-line r (enc_all a) g.0) ∙ ap line_length is ∙ record-line s (enc_all b) h.0 in
    let two : (enc r ≡ enc s) × (enc_all a ≡ enc_all b) = parts-same (enc r) (enc s) (enc_all a) (enc_all b) long is in
    let first : r ≡ s = record-same r s g.0 h.0 two.0 in
    let rest : a ≡ b = records-same a b g.1 h.1 two.1 in
    cc

-- two lists of records that are passed, the last one first
turned-same : (a b x y : List Record) → length a ≡ length b → reverse_aux a x ≡ reverse_aux b y → (a ≡ b) × (x ≡ y)
turned-same [] [] x y n is = (refl, is)
turned-same [] (s ∷ b) x y n is = absurd (omega (arith, n))
turned-same (r ∷ a) [] x y n is = absurd (omega (arith, n))
turned-same (r ∷ a) (s ∷ b) x y n is =
    let two : (a ≡ b) × (r ∷ x ≡ s ∷ y) = turned-same a b (r ∷ x) (s ∷ y) (omega (arith, n)) is in
    let rest : a ≡ b = two.0 in
    let here : r ∷ x ≡ s ∷ y = two.1 in
    let first : r ≡ s = cc in
    let last : x ≡ y = cc in
    ((let q : r ∷ a ≡ s ∷ b = cc in q), last)

before-same : (a b : List Record) → Goods a → Goods b → enc_before a ≡ enc_before b → a ≡ b
before-same a b g h is =
    let bytes : enc_all (reverse_aux a []) ≡ enc_all (reverse_aux b []) = sym (before-all a []) ∙ ap (λ (k : List ℕ). k ++ enc_all []) is ∙ before-all b [] in
    let q : reverse_aux a [] ≡ reverse_aux b [] = records-same (reverse_aux a []) (reverse_aux b []) (goods-reverse a [] g tt) (goods-reverse b [] h tt) bytes in
    let long : length a ≡ length b = omega (arith, length-reverse_aux a [], length-reverse_aux b [], ap length q) in
    (turned-same a b [] [] long q).0

-- ---- the records that a buffer holds

pub holds-same : {j : List ℕ} {st : State} {b a c d : List Record} → Holds j st b a → Holds j st c d → (b ≡ c) × (a ≡ d)
holds-same {j} {st} {b} {a} {c} {d} g h =
    let z : List ℕ = zeros (st.back - st.front) in
    let one : (enc_before b ≡ enc_before c) × (z ++ enc_all a ≡ z ++ enc_all d) =
    parts-same (enc_before b) (enc_before c) (z ++ enc_all a) (z ++ enc_all d) (g.front ∙ sym h.front) (sym g.bytes ∙ h.bytes) in
    (before-same b c g.past_good h.past_good one.0, records-same a d g.good h.good (parts-same z z (enc_all a) (enc_all d) refl one.1).1)

-- ---- the text that it shows

kept-same : (l m : List Line) → map kept l ≡ map kept m → l ≡ m
kept-same [] [] is = refl
kept-same [] (y ∷ m) is = absurd (omega (arith, ap length is))
kept-same (x ∷ l) [] is = absurd (omega (arith, ap length is))
kept-same (x ∷ l) (y ∷ m) is =
    let rest : l ≡ m = kept-same l m (tail-same (kept x) (kept y) (map kept l) (map kept m) is) in
    let two : kept x ≡ kept y = cc in
    let first : x ≡ y = cc in
    cc

-- how far is read says how many lines are not
unread-same : (n : ℕ) (t u : Tape) → length (rest_lines t) ≤ n → length (rest_lines u) ≤ n → reach_of n t ≡ reach_of n u → length (rest_lines t) ≡ length (rest_lines u)
unfolding rest_lines reach_of
unread-same n (unread l) (unread m) a b q = omega (arith, a, b, q)
unread-same n (unread l) ended a b q = absurd (omega (arith, a, b, q))
unread-same n ended (unread m) a b q = absurd (omega (arith, a, b, q))
unread-same n ended ended a b q = refl

tape-same : (n : ℕ) (t u : Tape) → reach_of n t ≡ reach_of n u → rest_lines t ≡ rest_lines u → t ≡ u
unfolding rest_lines reach_of
tape-same n (unread l) (unread m) q is = ap unread is
tape-same n (unread l) ended q is = absurd (omega (arith, q))
tape-same n ended (unread m) q is = absurd (omega (arith, q))
tape-same n ended ended q is = refl

rest-within : (b a : List Record) (t : Tape) (n : ℕ) → n ≡ sources b + sources (a ++ map kept (rest_lines t)) → length (rest_lines t) ≤ n
rest-within b a t n q = omega (arith, q, sources-append a (map kept (rest_lines t)), sources-kept (rest_lines t))

abbrev Text : List ℕ → State → Type 0
Text j st = (x : Ed × Tape) × Shows j st x.0 x.1

text-same : (j : List ℕ) (st : State) (x y : Text j st) → x.0 ≡ y.0
unfolding before_of after_of
text-same j st ((ed b a p, t), g) ((ed c d q, u), h) =
    let held : (b ≡ c) × (a ++ map kept (rest_lines t) ≡ d ++ map kept (rest_lines u)) = holds-same g.holds h.holds in
    let far : reach_of st.lines t ≡ reach_of st.lines u = sym (shown-reach (ed b a p) t g) ∙ shown-reach (ed c d q) u h in
    let unread : length (rest_lines t) ≡ length (rest_lines u) =
    unread-same st.lines t u (rest-within b a t st.lines g.holds.lines) (rest-within c d u st.lines h.holds.lines) far in
    let long : length a ≡ length d = omega (arith, unread, ap length held.1, length-append a (map kept (rest_lines t)), length-append d (map kept (rest_lines u)), length-map (rest_lines t) kept, length-map (rest_lines u) kept) in
    let two : (a ≡ d) × (map kept (rest_lines t) ≡ map kept (rest_lines u)) = parts-same a d (map kept (rest_lines t)) (map kept (rest_lines u)) long held.1 in
    let tape : t ≡ u = tape-same st.lines t u far (kept-same (rest_lines t) (rest_lines u) two.1) in
    let first : b ≡ c = held.0 in
    let last : a ≡ d = two.0 in
    let point : p ≡ q = sym g.p ∙ h.p in
    cc

good-prop : (r : Record) → IsProp (Good r)
good-prop (kept l) = Prim.hlevel logic.props
good-prop (changed o n) = Prim.hlevel logic.props
good-prop (deleted l) = Prim.hlevel logic.props
good-prop (inserted l) = Prim.hlevel logic.props

goods-prop : (rs : List Record) → IsProp (Goods rs)
goods-prop [] = Unit-prop
goods-prop (r ∷ rs) = ×_prop (good-prop r) (goods-prop rs)

grounded-prop : (rs : List Record) (t : Tape) → IsProp (GroundedAt rs t)
grounded-prop [] (unread ls) = λ x y. absurd x
grounded-prop [] ended = Unit-prop
grounded-prop (r ∷ rs) t = Prim.hlevel logic.props

holds-prop : (j : List ℕ) (st : State) (b a : List Record) → IsProp (Holds j st b a)
holds-prop j st b a = Prim.hlevel (goods-prop, logic.props)

shows-prop : (j : List ℕ) (st : State) (e : Ed) (t : Tape) → IsProp (Shows j st e t)
shows-prop j st e t = Prim.hlevel (holds-prop, grounded-prop, logic.props)

text-prop : (j : List ℕ) (st : State) → IsProp (Text j st)
text-prop j st x y = Σ_prop_path (λ z. shows-prop j st z.0 z.1) (text-same j st x y)

-- THE LAW: the text that an editor shows
pub shown : {j : List ℕ} {st : State} → ∥ ShowsText j st ∥₁ → ShowsText j st
shown {j} {st} h =
    let w : Text j st = ∥∥₁_elim h (text-prop j st) (λ (x : ShowsText j st). ((x.0, x.1), x.2)) in
    (w.0.0, w.0.1, w.1)

-- with another name for the buffer
pub text-as : {j k : List ℕ} {s : State} → k ≡ j → ∥ ShowsText j s ∥₁ → ∥ ShowsText k s ∥₁
text-as q h = rw q h

-- with another name for the numbers
pub numbers-as : {j : List ℕ} {s u : State} → u ≡ s → ∥ ShowsText j s ∥₁ → ∥ ShowsText j u ∥₁
numbers-as q h = rw q h

-- what opens, with other names for both
pub opens-as : {j k : List ℕ} {s u : State} {x : Ed × Tape} → k ≡ j → u ≡ s → Opens j s x → Opens k u x
opens-as q p h = rw (q, p) h

-- p is set
pub point-text : {j : List ℕ} {st : State} (q : ℕ) → ∥ ShowsText j st ∥₁ → ∥ ShowsText j (at_point st q) ∥₁
point-text {j} {st} q h = let w : ShowsText j st = shown h in at-text w.0 w.1 w.2
  where
    at-text : (e : Ed) (t : Tape) → Shows j st e t → ∥ ShowsText j (at_point st q) ∥₁
    at-text (ed b a p) t g = ∣ (ed b a q, t, point-shows q b a p t g) ∣₁

-- an answer with the numbers after it
pub went-by : {r : Result (Unit {0}) Stop} {u : Unit {0}} (s : State) → r ≡ Ok u → moved_by r s ≡ Ok s
went-by s q = ap (λ r. moved_by r s) q

pub stops-by : {r : Result (Unit {0}) Stop} {k : Stop} (s : State) → r ≡ Err k → moved_by r s ≡ stopping k s
stops-by s q = ap (λ r. moved_by r s) q

-- a part that goes on, or stops, leaves the buffer showing a text
pub went-text : {A : Type 0} {j : List ℕ} {s : State} (x : Ran A × Tape) → Came j (Ok s) x → ∥ ShowsText j s ∥₁
went-text x h = let w = went x h in ∣ (w.text, w.tape, w.shows) ∣₁

pub halt-text : {A : Type 0} {j : List ℕ} (m : Stop) {s : State} (x : Ran A × Tape) → Came j (stopping m s) x → ∥ ShowsText j s ∥₁
halt-text m x h = let w = halted x h in ∣ (w.text, w.tape, w.shows) ∣₁

-- and so does a whole command
pub on-text : {j : List ℕ} {s : State} (x : Out × Tape) → Answered j (Ok s) x → ∥ ShowsText j s ∥₁
unfolding Answers
on-text (on true (state e c), t) h = ∣ (e, t, h) ∣₁
on-text (on false (state e c), t) h = absurd h
on-text (edited (state e c), t) h = ∣ (e, t, h) ∣₁
on-text (halt n (state e c), t) h = absurd h

pub stop-text : {j : List ℕ} (m : Stop) {s : State} (x : Out × Tape) → Answered j (stopping m s) x → ∥ ShowsText j s ∥₁
unfolding Answers
stop-text m (on b (state e c), t) h = absurd h
stop-text m (edited (state e c), t) h = absurd h
stop-text m (halt n (state e c), t) h = ∣ (e, t, h.1) ∣₁

-- a line is read
pub raise-text : {j : List ℕ} {st : State} (a : ℕ) → ∥ ShowsText j st ∥₁ → ∥ ShowsText j (raised st a) ∥₁
raise-text {j} {st} a h = let w : ShowsText j st = shown h in went-text _ (reads-line (lent j) w.0 w.1 w.2 a)
