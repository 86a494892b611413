-- The whole reader: each round reads a byte at least and keeps what it has read well nested and within bounds, so that the script's reading ends
-- in items of that kind or in a refusal with a number and a place of document 01.
use Rattle.std.specs.Prelude.{◌≡◌, refl, Bool, true, false, cond, ◌&&◌, List, [], ◌∷◌, ℕ, zero, suc, ◌+◌, ◌*◌, ◌≤◌, ◌<◌, length, eqb, leb, ltb}
use Rattle.std.proofs.Common.{not-suc-le-zero, arith, ltb-true, lt-ltb}
use Rattle.std.proofs.lemmas.List.{length-reverse}
use Rattle.definitions.specs.Bytes.{is_digit, is_letter}
use Rattle.definitions.specs.Control.{Opener, times, bare, Item, opens}
use Rattle.definitions.specs.Reader.{Cursor, cursor, Got, place_at, bytes_left, next_byte, after_byte, is_next, skip_spaces, Token, token, name, after_token}
use Rattle.definitions.specs.Commands.{bytes_from, Decoded, prefix}
use Rattle.definitions.specs.Script.{Due, nothing, body, Group, group, reading, Script, items, refused_at, AfterRound, more, done, bodies, is_in_group, closes, decoded, named, count_read, group_items, group_of, open_group, else_group, is_else, after_else, group_end, close_group, separator, line_items, script_end, Class, is_semicolon, is_line_end, is_open, is_close, is_count, is_name, is_comment, is_sign, class_of, by_class, read_at, read_one, read_all, read_script}
use Rattle.theorems.specs.Lines.{script-lines}
use Rattle.theorems.specs.GoodItems.{good_opener, good_item, placed_in, all_items}
use Rattle.theorems.specs.ItemLaws.{good-marks, placed-marks, bare-good, cons-all, reverse-all, closes-all, group-all, else-all, line-all, closes-length}
use Rattle.theorems.specs.Nesting.{is_branch, is_bare, nested}
use Rattle.theorems.specs.ReaderSteps.{Sound, Reached, ReadsWell, gets, refuses, is_refusal, place_short, decides, next-at, after-byte, past-spaces, comment-read, digits-read, past-name, name-read}
use Rattle.theorems.proofs.NestingSteps.{Nests, start-nests, end-nests, command-nests, opener-nests, group-nests, else-nests, close-nests, line-nests}
use Rattle.theorems.proofs.CommandSteps.{DecodedWell, a_command, an_opener, command-reads}

-- ---- what is said of a script's reading

pub data Fine (s : List ℕ) : Script → Type 0 where
  accepted : {all : List Item} → nested all ≡ true → all_items (placed_in (length s)) all ≡ true → length all ≤ 2 * length s
      → Sound s (all_items good_item all) → Fine s (items all)
  rejected : {n at : ℕ} → is_refusal n ≡ true → at ≤ length s → Fine s (refused_at n at)

-- how many bodies the open groups will close
pending : List Group → ℕ
pending [] = 0
pending (group k e ∷ groups) = k + pending groups

-- the reader's state but for the cursor, which has fewer than `left` bytes left: a byte read makes two items at most, counting the closes to come,
-- and the `(` of an open group one more
record Well (s : List ℕ) (left : ℕ) (d : Due) (groups : List Group) (acc : List Item) : Type 0 where
  nesting : Nests d groups acc
  few : length groups ≤ 16
  size : length acc + (bodies d + pending groups) + 2 * left ≤ 2 * length s + length groups + 2
  placed : all_items (placed_in (length s)) acc ≡ true
  good : Sound s (all_items good_item acc)

-- after a round: fewer than `left` bytes are left, or the reading ends
data Goes (s : List ℕ) (left : ℕ) : AfterRound → Type 0 where
  goes_on : {c : Cursor} {d : Due} {groups : List Group} {acc : List Item} → Reached s left c → Well s left d groups acc
      → Goes s left (more (reading c d groups acc))
  ends : {r : Script} → Fine s r → Goes s left (done r)

-- the place of a byte
place_inside : {s : List ℕ} {left at b : ℕ} {bs : List ℕ} → Reached s left (cursor at (b ∷ bs)) → at < length s
unfolding place_at bytes_left
place_inside h = omega (arith, h.within)

opener-placed : {n : ℕ} (at : ℕ) (o : Opener) → at < n → placed_in n (opens at o) ≡ true
unfolding placed_in
opener-placed {n} at o lt = lt-ltb at n lt

ends_at : {s : List ℕ} {left l : ℕ} {c : Cursor} {n : ℕ} → is_refusal n ≡ true → Reached s l c → Goes s left (done (refused_at n (place_at c)))
ends_at e h = ends (rejected e (place_short h))

-- ---- commands and prefixes

decoded-goes : {s : List ℕ} {left : ℕ} {d : Due} {groups : List Group} {acc : List Item} {r : Got Decoded} → ReadsWell (DecodedWell s) s left r
    → Well s (suc left) d groups acc → Goes s left (decoded d groups acc r)
unfolding decoded bodies
decoded-goes {s} {d = d} {acc = acc} (gets h (a_command {i = i} k p g)) w = goes_on h (record {
  nesting = command-nests i k w.nesting;
  few = w.few;
  size = omega (arith, w.size, closes-length (bodies d) (i ∷ acc));
  placed = closes-all (placed_in (length s)) (placed-marks (length s)) (bodies d) (i ∷ acc) (cons-all (placed_in (length s)) i acc p w.placed);
  good = λ e. closes-all good_item good-marks (bodies d) (i ∷ acc) (cons-all good_item i acc (g e) (w.good e));
})
decoded-goes {s} {acc = acc} (gets h (an_opener at o p q lt g)) w = goes_on h (record {
  nesting = opener-nests at o p q w.nesting;
  few = w.few;
  size = omega (arith, w.size);
  placed = cons-all (placed_in (length s)) (opens at o) acc (opener-placed at o lt) w.placed;
  good = λ e. cons-all good_item (opens at o) acc (g e) (w.good e);
})
decoded-goes (refuses e le) w = ends (rejected e le)

named-goes : {s : List ℕ} {left : ℕ} {d : Due} {groups : List Group} {acc : List Item} (at : ℕ) (w : Token) → at < length s → Reached s left (after_token w)
    → Well s (suc left) d groups acc → Goes s left (named d groups acc at w)
unfolding named after_token
named-goes {groups = groups} at (token x c) lt h w = decoded-goes (command-reads (is_in_group groups) at x c lt h) w

times-well : (s : List ℕ) (at n : ℕ) → at < length s → leb n 65535 ≡ true → DecodedWell s (prefix false (opens at (times n)))
unfolding is_bare is_branch good_item good_opener
times-well s at n lt t = an_opener at (times n) refl refl lt (λ e. t)

count-goes : {s : List ℕ} {left : ℕ} {d : Due} {groups : List Group} {acc : List Item} (at : ℕ) (w : Token) → at < length s → Reached s left (after_token w)
    → Well s (suc left) d groups acc → Goes s left (count_read d groups acc at w)
unfolding count_read after_token
count-goes {s} {left} at (token n c) lt h w = decoded-goes
    (decides (ReadsWell (DecodedWell s) s left) (leb n 65535) _ _ (λ t. gets h (times-well s at n lt t)) (λ t. refuses {at = at} refl (omega arith))) w

-- ---- brackets

group-size : (d : Due) (groups : List Group) (at : ℕ) (acc : List Item)
    → length (group_items d at acc) + pending (group_of d ∷ groups) ≤ length acc + (bodies d + pending groups) + 3
unfolding group_items group_of pending bodies
group-size nothing groups at acc = omega arith
group-size (body k e) groups at acc = omega arith

open-goes : {s : List ℕ} {left : ℕ} {d : Due} {groups : List Group} {acc : List Item} (c : Cursor) → Reached s left (after_byte c) → place_at c < length s
    → Well s (suc left) d groups acc → Goes s left (open_group d groups acc c)
unfolding open_group bodies
open-goes {s} {left} {d} {groups} {acc} c h lt w = decides (Goes s left) (ltb (length groups) 16) _ _
    (λ t. goes_on h (record {
      nesting = group-nests (place_at c) (ltb-true (length groups) 16 t) w.nesting;
      few = ltb-true (length groups) 16 t;
      size = omega (arith, w.size, group-size d groups (place_at c) acc);
      placed = group-all (placed_in (length s)) (placed-marks (length s)) d (place_at c) acc (opener-placed (place_at c) bare lt) w.placed;
      good = λ e. group-all good_item good-marks d (place_at c) acc (bare-good (place_at c)) (w.good e);
    }))
    (λ t. ends (rejected {at = place_at c} refl (omega arith)))

else-goes : {s : List ℕ} {left : ℕ} {groups : List Group} {acc : List Item} (k : ℕ) (c : Cursor) → Reached s left c
    → Well s (suc left) nothing (group k true ∷ groups) acc → Goes s left (else_group k groups acc c)
unfolding else_group pending
else-goes {s} {left} {groups} {acc} k c h w = decides (Goes s left) (is_next 40 c) _ _
    (λ t. goes_on (after-byte c h) (record {
      nesting = else-nests w.few w.nesting;
      few = w.few;
      size = omega (arith, w.size);
      placed = else-all (placed_in (length s)) (placed-marks (length s)) acc w.placed;
      good = λ e. else-all good_item good-marks acc (w.good e);
    }))
    (λ t. ends_at refl h)

past-else : {s : List ℕ} {left : ℕ} (c : Cursor) → Reached s left c → Reached s left (after_else c)
unfolding after_else
past-else c h = past-spaces (after_token (name (skip_spaces c))) (past-name (skip_spaces c) (past-spaces c h))

closed-goes : {s : List ℕ} {left : ℕ} {groups : List Group} {acc : List Item} {c : Cursor} (k : ℕ) (e : Bool) → Reached s left c
    → Well s (suc left) nothing (group k e ∷ groups) acc → Goes s left (more (reading c nothing groups (closes k acc)))
unfolding pending bodies
closed-goes {s} {acc = acc} k e h w = goes_on h (record {
  nesting = close-nests w.nesting;
  few = omega (arith, w.few);
  size = omega (arith, w.size, closes-length k acc);
  placed = closes-all (placed_in (length s)) (placed-marks (length s)) k acc w.placed;
  good = λ q. closes-all good_item good-marks k acc (w.good q);
})

group-end-goes : {s : List ℕ} {left : ℕ} {groups : List Group} {acc : List Item} (g : Group) (c : Cursor) → Reached s left c
    → Well s (suc left) nothing (g ∷ groups) acc → Goes s left (group_end g groups acc c)
unfolding group_end
group-end-goes {s} {left} {groups} {acc} (group k e) c h w = go e w
  where
    go : (e : Bool) → Well s (suc left) nothing (group k e ∷ groups) acc
        → Goes s left (cond (e && is_else c) (else_group k groups acc (after_else c)) (more (reading c nothing groups (closes k acc))))
    go true w = decides (Goes s left) (is_else c) _ _ (λ t. else-goes k (after_else c) (past-else c h) w) (λ t. closed-goes k true h w)
    go false w = closed-goes k false h w

close-goes : {s : List ℕ} {left : ℕ} {acc : List Item} (d : Due) (groups : List Group) (c : Cursor) → Reached s left (after_byte c) → place_at c ≤ length s
    → Well s (suc left) d groups acc → Goes s left (close_group d groups acc c)
unfolding close_group
close-goes (body k e) groups c h le w = ends (rejected refl le)
close-goes nothing [] c h le w = ends (rejected refl le)
close-goes nothing (g ∷ groups) c h le w = group-end-goes g (after_byte c) h w

-- ---- separators and the script's end

-- `acc'` is what has been read with the separator
separator-goes : {s : List ℕ} {left : ℕ} {groups : List Group} {acc' : List Item} (acc : List Item) (d : Due) (at : ℕ) (c : Cursor) → at ≤ length s
    → Reached s left c → Well s (suc left) d groups acc → (Well s (suc left) nothing groups acc → Well s left nothing groups acc')
    → Goes s left (separator d groups acc' at c)
unfolding separator
separator-goes acc nothing at c le h w on = goes_on h (on w)
separator-goes acc (body k e) at c le h w on = ends (rejected refl le)

-- a byte is read that makes no item
blank-well : {s : List ℕ} {left : ℕ} {groups : List Group} {acc : List Item} → Well s (suc left) nothing groups acc → Well s left nothing groups acc
blank-well w = record { nesting = w.nesting; few = w.few; size = omega (arith, w.size); placed = w.placed; good = w.good }

line-size : (groups : List Group) (acc : List Item) → length (line_items groups acc) ≤ suc (length acc)
unfolding line_items
line-size [] acc = omega arith
line-size (g ∷ groups) acc = omega arith

line-well : {s : List ℕ} {left : ℕ} {groups : List Group} {acc : List Item} → Well s (suc left) nothing groups acc
    → Well s left nothing groups (line_items groups acc)
line-well {s} {groups = groups} {acc = acc} w = record {
  nesting = line-nests w.nesting;
  few = w.few;
  size = omega (arith, w.size, line-size groups acc);
  placed = line-all (placed_in (length s)) (placed-marks (length s)) groups acc w.placed;
  good = λ e. line-all good_item good-marks groups acc (w.good e);
}

end-fine : {s : List ℕ} {left : ℕ} {acc : List Item} (d : Due) (groups : List Group) (at : ℕ) → at ≤ length s → Well s (suc left) d groups acc
    → Fine s (script_end d groups acc at)
unfolding script_end all_items
end-fine (body k e) groups at le w = rejected refl le
end-fine nothing (g ∷ groups) at le w = rejected refl le
end-fine {s} {acc = acc} nothing [] at le w = accepted (end-nests w.nesting)
    (reverse-all (placed_in (length s)) acc [] w.placed refl)
    (omega (arith, w.size, length-reverse acc))
    (λ e. reverse-all good_item acc [] (w.good e) refl)

-- ---- one round

-- what a byte's class tells of it
ByteIs : ℕ → Class → Type 0
ByteIs b is_semicolon = Unit {0}
ByteIs b is_line_end = Unit {0}
ByteIs b is_open = Unit {0}
ByteIs b is_close = Unit {0}
ByteIs b is_count = is_digit b ≡ true
ByteIs b is_name = is_letter b ≡ true
ByteIs b is_comment = eqb b 92 ≡ true
ByteIs b is_sign = Unit {0}

class-is : (b : ℕ) → ByteIs b (class_of b)
unfolding class_of ByteIs
class-is b = decides (ByteIs b) (eqb b 59) _ _ (λ t. tt) (λ f. decides (ByteIs b) (eqb b 10) _ _ (λ t. tt)
    (λ f. decides (ByteIs b) (eqb b 40) _ _ (λ t. tt) (λ f. decides (ByteIs b) (eqb b 41) _ _ (λ t. tt)
    (λ f. decides (ByteIs b) (is_digit b) _ _ (λ t. t) (λ f. decides (ByteIs b) (is_letter b) _ _ (λ t. t)
    (λ f. decides (ByteIs b) (eqb b 92) _ _ (λ t. t) (λ f. tt)))))))

class-goes : {s : List ℕ} {left at b : ℕ} {bs : List ℕ} {d : Due} {groups : List Group} {acc : List Item} (k : Class) → ByteIs b k
    → Reached s (suc left) (cursor at (b ∷ bs)) → Well s (suc left) d groups acc → Goes s left (by_class d groups acc (cursor at (b ∷ bs)) k)
unfolding by_class ByteIs place_at after_byte next_byte after_token
class-goes {d = d} {acc = acc} is_semicolon t h w = separator-goes acc d _ _ (place_short h) (next-at h) w blank-well
class-goes {d = d} {acc = acc} is_line_end t h w = separator-goes acc d _ _ (place_short h) (next-at h) w line-well
class-goes is_open t h w = open-goes _ (next-at h) (place_inside h) w
class-goes {d = d} {groups = groups} is_close t h w = close-goes d groups _ (next-at h) (place_short h) w
class-goes is_count t h w = count-goes _ _ (place_inside h) (digits-read _ t h) w
class-goes is_name t h w = named-goes _ _ (place_inside h) (name-read _ t h) w
class-goes {d = d} {acc = acc} is_comment t h w = separator-goes acc d _ _ (place_short h) (comment-read _ t h) w blank-well
class-goes is_sign t h w = named-goes _ _ (place_inside h) (next-at h) w

read-at-goes : {s : List ℕ} {left : ℕ} {d : Due} {groups : List Group} {acc : List Item} (c : Cursor) → Reached s (suc left) c → Well s (suc left) d groups acc
    → Goes s left (read_at d groups acc c)
unfolding read_at place_at
read-at-goes {d = d} {groups = groups} (cursor at []) h w = ends (end-fine d groups at (place_short h) w)
read-at-goes (cursor at (b ∷ bs)) h w = class-goes (class_of b) (class-is b) h w

-- ---- the whole

all-fine : {s : List ℕ} {d : Due} {groups : List Group} {acc : List Item} (rounds : ℕ) (c : Cursor) → Reached s rounds c → Well s rounds d groups acc
    → Fine s (read_all rounds (reading c d groups acc))
unfolding read_all read_one
all-fine zero c h w = absurd (not-suc-le-zero h.fewer)
all-fine {s} {d} {groups} {acc} (suc rounds) c h w = go (read_at d groups acc (skip_spaces c)) (read-at-goes (skip_spaces c) (past-spaces c h) w)
    (λ c' d' groups' acc' h' w'. all-fine rounds c' h' w')
  where
    go : (n : AfterRound) → Goes s rounds n
        → ((c' : Cursor) (d' : Due) (groups' : List Group) (acc' : List Item) → Reached s rounds c' → Well s rounds d' groups' acc'
        → Fine s (read_all rounds (reading c' d' groups' acc')))
        → Fine s (elim n [ more s' ↦ read_all rounds s' | done r ↦ r ])
    go (more (reading c' d' groups' acc')) (goes_on h' w') on = on c' d' groups' acc' h' w'
    go (done r) (ends f) on = f

pub script-fine : (s : List ℕ) → Fine s (read_script s)
unfolding read_script place_at bytes_left bytes_from all_items bodies pending
script-fine s = all-fine (suc (length s)) (cursor 0 s) (record { within = omega arith; fewer = omega arith; lines = script-lines s })
    (record { nesting = start-nests; few = omega arith; size = omega arith; placed = refl; good = λ e. refl })
