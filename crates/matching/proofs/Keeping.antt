-- Laws for the writer of a search's words: what encodes a search, and what keeps it. Assumes nothing.
use mathlib.Core.Path.{◌≡◌, refl, sym, ap, ◌∙◌}
use mathlib.Core.Bool.{Bool, true, false, cond}
use mathlib.Core.List.{List, [], ◌∷◌, ◌++◌, append_assoc}
use Prim.Native.Nat.{ℕ, zero, suc, ◌+◌, ◌*◌, ◌≤◌, ◌<◌}
use native.Mathlib.Omega.{arith}
use lib.ListN.{length, take, drop, get_or, set, length-drop, length-set, length-append, get_or-append}
use lib.Seq.{ext_get_or, get_or-take, get_or-drop, get_or-set_same, get_or-set_other, length-take-le, sets, sets-eq, length-sets, drop_at, take-append_seam}
use Rattle.definitions.specs.Bytes.{Line}
use Rattle.definitions.specs.Matching.{Anchor, Columns, qualifiers, qualified}
use Rattle.definitions.specs.Patterns.{Pattern}
use Rattle.definitions.specs.Search.{Search, one, both, either}
use Rattle.marks.specs.Sweeping.{Reads}
use Rattle.leads.specs.Leading.{leads_of}
use Rattle.matching.specs.Quals.{anchor_of, columns_of, qualifiers_of, lead_number, Formed}
use Rattle.matching.specs.Words.{columns_in, string_words, led_by, led_of, led_in, IsFormed, AreColumns, Lies, Encodes, Writable}
use Rattle.matching.specs.declared.Quals.{Quals}
use Rattle.matching.proofs.Running.{forward}

-- ---- words that are the same from k up to m

length_part : (n k : ℕ) (l : List ℕ) → k + n ≤ length l → length (take n (drop k l)) ≡ n
length_part n k l h = length-take-le n (drop k l) (rw (length-drop k l) (omega arith))

lies-kept : (words words' : List ℕ) (k m : ℕ) (ws : List ℕ) → ((i : ℕ) → k ≤ i → i < m → get_or words' i 0 ≡ get_or words i 0) → m ≤ length words'
    → Lies words k m ws → Lies words' k m ws
lies-kept words words' k m ws same room h =
    let fits : k + length ws ≤ length words = omega (arith, h.ends, h.room) in
    let fits' : k + length ws ≤ length words' = omega (arith, h.ends) in
    record {
      ends = h.ends;
      room = room;
      same = ext_get_or 0 (take (length ws) (drop k words')) (take (length ws) (drop k words))
          (length_part (length ws) k words' fits' ∙ sym (length_part (length ws) k words fits))
          (λ i less.
          let less' : i < length ws = omega (arith, less, length_part (length ws) k words' fits') in
          get_or-take (length ws) (drop k words') i 0 less' ∙ get_or-drop k words' i 0 ∙ same (k + i) (omega arith) (omega (arith, h.ends))
          ∙ sym (get_or-take (length ws) (drop k words) i 0 less' ∙ get_or-drop k words i 0)) ∙ h.same;
    }

pub kept : (script words words' : List ℕ) (k m : ℕ) (se : Search) → ((i : ℕ) → k ≤ i → i < m → get_or words' i 0 ≡ get_or words i 0) → m ≤ length words'
    → Encodes script words k m se → Encodes script words' k m se
unfolding Encodes
kept script words words' k m (one (qualified q s)) same room h =
    record {
      start = h.start;
      len = h.len;
      lies = lies-kept words words' k m (string_words q h.start h.len (led_of q s)) same room h.lies;
      formed = h.formed;
      columned = h.columned;
      short = h.short;
      inside = h.inside;
      string = h.string;
    }
kept script words words' k m (both a b) same room h =
    let x = (forward script words k h.0 a h.1).0 in
    let y = (forward script words (h.0 + 1) m b h.3).0 in (
      h.0,
      kept script words words' k h.0 a (λ i lo hi. same i lo (omega (arith, y))) (omega (arith, y)) h.1,
      same h.0 (omega (arith, x)) (omega (arith, y)) ∙ h.2,
      kept script words words' (h.0 + 1) m b (λ i lo hi. same i (omega (arith, x)) hi) room h.3,
    )
kept script words words' k m (either a b) same room h =
    let x = (forward script words k h.0 a h.1).0 in
    let y = (forward script words (h.0 + 1) m b h.3).0 in (
      h.0,
      kept script words words' k h.0 a (λ i lo hi. same i lo (omega (arith, y))) (omega (arith, y)) h.1,
      same h.0 (omega (arith, x)) (omega (arith, y)) ∙ h.2,
      kept script words words' (h.0 + 1) m b (λ i lo hi. same i (omega (arith, x)) hi) room h.3,
    )

module _ (script words : List ℕ) (k m : ℕ) (se : Search) (h : Encodes script words k m se) where
  room_in : m ≤ length words
  room_in = (forward script words k m se h).1

  -- a word is written behind the search, or before it
  pub kept-behind : (i v : ℕ) → m ≤ i → Encodes script (set words i v) k m se
  kept-behind i v le =
      kept script words (set words i v) k m se (λ j lo hi. get_or-set_other words i j v 0 (λ e. omega (arith, e))) (rw (length-set words i v) room_in) h

  pub kept-ahead : (i v : ℕ) → i < k → Encodes script (set words i v) k m se
  kept-ahead i v lt =
      kept script words (set words i v) k m se (λ j lo hi. get_or-set_other words i j v 0 (λ e. omega (arith, e))) (rw (length-set words i v) room_in) h

  -- the words up to n stay, n at the search's end or behind it
  pub kept-take : (words' : List ℕ) (n : ℕ) → m ≤ n → m ≤ length words' → take n words' ≡ take n words → Encodes script words' k m se
  kept-take words' n le room e =
      kept script words words' k m se
      (λ j lo hi. sym (get_or-take n words' j 0 (omega arith)) ∙ ap (λ (l : List ℕ). get_or l j 0) e ∙ get_or-take n words j 0 (omega arith)) room h

  pub kept_append : (more : List ℕ) → Encodes script (words ++ more) k m se
  kept_append more =
      kept script words (words ++ more) k m se (λ j lo hi. get_or-append words more 0 j (omega (arith, room_in)))
      (rw (length-append words more) (omega (arith, room_in))) h

-- words are written behind the search
pub kept_sets : (script : List ℕ) (vs words : List ℕ) (k m : ℕ) (se : Search) → Encodes script words k m se → (i : ℕ) → m ≤ i → Encodes script (sets words i vs) k m se
kept_sets script [] words k m se h i le = h
kept_sets script (v ∷ vs) words k m se h i le = kept_sets script vs (set words i v) k m se (kept-behind script words k m se h i v le) (suc i) (omega arith)

-- ---- one string

are-columns : (from to : ℕ) → from ≤ 65535 → AreColumns (columns_of from to)
unfolding AreColumns columns_of
are-columns zero to h = tt
are-columns (suc n) to h = (omega arith, omega arith)

columned-of : (q : Quals) → q.from ≤ 65535 → AreColumns (columns_in (qualifiers_of q))
unfolding qualifiers_of columns_in
columned-of q h = are-columns q.from q.to h

sets_lie : (words : List ℕ) (k : ℕ) (ws : List ℕ) → k + length ws ≤ length words → Lies (sets words k ws) k (k + length ws) ws
sets_lie words k ws h =
    let rest : List ℕ = drop (k + length ws) words in
    let dropped : drop k (sets words k ws) ≡ ws ++ rest =
    ap (drop k) (sets-eq ws words k h ∙ append_assoc (take k words) ws rest) ∙ drop_at (take k words) (ws ++ rest) k (length-take-le k words (omega arith)) in
    record { ends = refl; room = rw (length-sets words k ws) h; same = ap (take (length ws)) dropped ∙ take-append_seam ws rest }

is-formed : (a : Anchor) (count : ℕ) (l n w u s : Bool) (c : Columns) (r : Bool) (line : Line)
    → (r ≡ true → (pat : Pattern) × Reads line pat × (count ≡ lead_number (leads_of pat))) → IsFormed (qualifiers a (cond r 0 count) l n w u s c r) line
unfolding IsFormed
is-formed a count l n w u s c true line h = let given = h refl in (refl, given.0, given.1)
is-formed a count l n w u s c false line h = tt

led-is : (a : Anchor) (count : ℕ) (l n w u s : Bool) (c : Columns) (r : Bool) (line : Line)
    → (r ≡ true → (pat : Pattern) × Reads line pat × (count ≡ lead_number (leads_of pat))) → cond r count 0 ≡ led_of (qualifiers a (cond r 0 count) l n w u s c r) line
unfolding led_of led_by
led-is a count l n w u s c true line h = let given = h refl in given.2 ∙ sym (ap led_by given.1)
led-is a count l n w u s c false line h = refl

module _ (q : Quals) (s : Line) (formed : Formed q s) where
  pub formed-of : IsFormed (qualifiers_of q) s
  unfolding qualifiers_of
  formed-of = is-formed (anchor_of q.anchor) q.count q.last q.negated q.word q.fold q.skip (columns_of q.from q.to) q.pattern s formed

  -- what `put_string` writes is the number of what the matches can begin with
  pub led-of : led_in q ≡ led_of (qualifiers_of q) s
  unfolding qualifiers_of led_in
  led-of = led-is (anchor_of q.anchor) q.count q.last q.negated q.word q.fold q.skip (columns_of q.from q.to) q.pattern s formed

-- what `put_string` writes is a search of one string
pub string-encodes : (script words : List ℕ) (k : ℕ) (q : Quals) (start len : ℕ) → Writable q start len → Formed q (take len (drop start script)) → start + len ≤ length script
    → k + length (string_words (qualifiers_of q) start len (led_in q)) ≤ length words
    → Encodes script (sets words k (string_words (qualifiers_of q) start len (led_in q))) k (k + length (string_words (qualifiers_of q) start len (led_in q)))
    (one (qualified (qualifiers_of q) (take len (drop start script))))
unfolding Encodes
string-encodes script words k q start len ok formed inside room =
    record {
      start = start;
      len = len;
      lies = rw (← led-of q (take len (drop start script)) formed) (sets_lie words k (string_words (qualifiers_of q) start len (led_in q)) room);
      formed = formed-of q (take len (drop start script)) formed;
      columned = columned-of q ok.first;
      short = omega (arith, ok.short);
      inside = inside;
      string = refl;
    }

-- ---- two parts, joined at j by the word that is written there last

module _ (script words : List ℕ) (k j m : ℕ) (a b : Search) (first : Encodes script words k j a) (second : Encodes script words (j + 1) m b) where
  behind : j < length words
  behind =
      let y = forward script words (j + 1) m b second in
      omega (arith, y.0, y.1)

  pub both-encodes : Encodes script (set words j (4 * m + 1)) k m (both a b)
  unfolding Encodes
  both-encodes = (
    j,
    kept-behind script words k j a first j (4 * m + 1) (omega arith),
    get_or-set_same words j (4 * m + 1) 0 behind,
    kept-ahead script words (j + 1) m b second j (4 * m + 1) (omega arith),
  )

  pub either-encodes : Encodes script (set words j (4 * m + 2)) k m (either a b)
  unfolding Encodes
  either-encodes = (
    j,
    kept-behind script words k j a first j (4 * m + 2) (omega arith),
    get_or-set_same words j (4 * m + 2) 0 behind,
    kept-ahead script words (j + 1) m b second j (4 * m + 2) (omega arith),
  )
