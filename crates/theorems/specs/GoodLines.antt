-- Changes of a line keep it text, changes of a record keep it good; a spliced line's length.
use Rattle.std.specs.Prelude.{◌≡◌, refl, Bool, true, false, cond, [], ◌∷◌, ◌++◌, ℕ, ◌+◌, ◌-◌, ◌≤◌, ◌<◌, length, get_or, take, drop, leb}
use Rattle.std.proofs.Math.Bool.{and-eq-true_iff}
use Rattle.std.proofs.Common.{arith, length-append, length-take, length-drop, length-take-le, leb-true}
use Rattle.definitions.specs.Bytes.{Line, is_text, is_capital, is_small, upper, lower, all_text}
use Rattle.definitions.specs.Journal.{Record, kept, changed, deleted, inserted, change, rewrite, erase}
use Rattle.definitions.specs.Editor.{current}
use Rattle.definitions.specs.Edit.{Change, after_it, before_it, exchange, splice, altered, cased, recased}
use Rattle.theorems.specs.Each.{Each, each_append, each_take, each-drop, each-get_or}
use Rattle.theorems.specs.RecordLaws.{by-change}
use Rattle.theorems.specs.Lines.{text-up_to, text_of}
use Rattle.theorems.specs.JournalBytes.{IsLine, GoodRecord, line-text, line_of, line-short}

-- ---- text

abbrev IsText : ℕ → Type 0
IsText b = is_text b ≡ true

text-each : (l : Line) → all_text l ≡ true → Each IsText l
unfolding all_text
text-each [] h = tt
text-each (b ∷ l) h =
    let k = (and-eq-true_iff (is_text b) (all_text l)).0 h in
    (k.0, text-each l k.1)

each-text : (l : Line) → Each IsText l → all_text l ≡ true
unfolding all_text
each-text [] h = refl
each-text (b ∷ l) h = (and-eq-true_iff (is_text b) (all_text l)).1 (h.0, each-text l h.1)

upper-text : (b : ℕ) → IsText b → IsText (upper b)
unfolding upper
upper-text b h = by (is_small b) refl
  where
    small : is_small b ≡ true → 97 ≤ b
    small e = unfold is_small in (leb-true 97 b ((and-eq-true_iff (leb 97 b) (leb b 122)).0 e).0)

    by : (c : Bool) → is_small b ≡ c → IsText (cond c (b - 32) b)
    by true e = text_of (b - 32) (omega (arith, small e)) (omega (arith, text-up_to b h))
    by false e = h

lower-text : (b : ℕ) → IsText b → IsText (lower b)
unfolding lower
lower-text b h = by (is_capital b) refl
  where
    capital : is_capital b ≡ true → b ≤ 90
    capital e = unfold is_capital in (leb-true b 90 ((and-eq-true_iff (leb 65 b) (leb b 90)).0 e).1)

    by : (c : Bool) → is_capital b ≡ c → IsText (cond c (b + 32) b)
    by true e = text_of (b + 32) (omega arith) (omega (arith, capital e))
    by false e = h

cased-text : (up : Bool) (b : ℕ) → IsText b → IsText (cased up b)
unfolding cased
cased-text true b h = upper-text b h
cased-text false b h = lower-text b h

-- ---- the texts that a line is given

pub splice-text : (l : Line) (i n : ℕ) (new : Line) → all_text l ≡ true → all_text new ≡ true → all_text (splice l i n new) ≡ true
unfolding splice
splice-text l i n new h k =
    each-text (take i l ++ (new ++ drop (i + n) l))
    (each_append IsText (take i l) (new ++ drop (i + n) l) (each_take IsText i l (text-each l h))
    (each_append IsText new (drop (i + n) l) (text-each new k) (each-drop IsText (i + n) l (text-each l h))))

pub splice-length : (l : Line) (i n : ℕ) (new : Line) → i + n ≤ length l → length (splice l i n new) ≡ (length l - n) + length new
unfolding splice
splice-length l i n new h = simp (length-append, length-drop) (omega (arith, length-take-le i l (omega arith)))

pub altered-text : (c : Change) (l : Line) (i n : ℕ) (new : Line) → all_text l ≡ true → all_text new ≡ true → all_text (altered c l i n new) ≡ true
unfolding altered
altered-text after_it l i n new h k = splice-text l (i + n) 0 new h k
altered-text before_it l i n new h k = splice-text l i 0 new h k
altered-text exchange l i n new h k = splice-text l i n new h k

-- lines put together, and the parts of a line that is cut
pub appended-text : (l m : Line) → all_text l ≡ true → all_text m ≡ true → all_text (l ++ m) ≡ true
appended-text l m h k = each-text (l ++ m) (each_append IsText l m (text-each l h) (text-each m k))

pub taken-line : (k : ℕ) (l : Line) → IsLine l → IsLine (take k l)
taken-line k l h = line_of (take k l) (each-text (take k l) (each_take IsText k l (text-each l (line-text l h)))) (omega (arith, line-short l h, length-take k l))

pub dropped_line : (k : ℕ) (l : Line) → IsLine l → IsLine (drop k l)
dropped_line k l h = line_of (drop k l) (each-text (drop k l) (each-drop IsText k l (text-each l (line-text l h)))) (omega (arith, line-short l h, length-drop k l))

-- a byte of a line in the other case, as a text of its own
pub cased-byte : (up : Bool) (l : Line) (p : ℕ) → p < length l → all_text l ≡ true → all_text (cased up (get_or l p 0) ∷ []) ≡ true
cased-byte up l p m h = each-text (cased up (get_or l p 0) ∷ []) (cased-text up (get_or l p 0) (each-get_or IsText l p 0 m (text-each l h)), tt)

pub recased-text : (up : Bool) (l : Line) (p : ℕ) → p < length l → all_text l ≡ true → all_text (recased up l p) ≡ true
unfolding recased
recased-text up l p m h = splice-text l p 1 (cased up (get_or l p 0) ∷ []) h (cased-byte up l p m h)

-- ---- records

pub current-line : (r : Record) → GoodRecord r → IsLine (current r)
unfolding current
current-line (kept l) h = h
current-line (changed o n) h = h.1
current-line (deleted l) h = h
current-line (inserted l) h = h

pub current-text : (r : Record) → GoodRecord r → all_text (current r) ≡ true
current-text r h = line-text (current r) (current-line r h)

change-good : (old new : Line) → IsLine old → IsLine new → GoodRecord (change old new)
change-good old new h k = by-change GoodRecord old new (λ e. h) (λ e. (h, k, e))

pub rewrite-good : (r : Record) (new : Line) → GoodRecord r → IsLine new → GoodRecord (rewrite r new)
unfolding rewrite
rewrite-good (kept l) new h k = change-good l new h k
rewrite-good (changed o n) new h k = change-good o new h.0 k
rewrite-good (deleted l) new h k = h
rewrite-good (inserted l) new h k = k

pub erase-good : (r : Record) → GoodRecord r → Each GoodRecord (erase r)
unfolding erase
erase-good (kept l) h = (h, tt)
erase-good (changed o n) h = (h.0, tt)
erase-good (deleted l) h = (h, tt)
erase-good (inserted l) h = tt
