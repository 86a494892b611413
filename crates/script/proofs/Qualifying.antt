-- Commands with qualified strings in words. Assumes nothing.
use mathlib.Core.Path.{◌≡◌, refl, ◌∙◌}
use mathlib.Core.Bool.{Bool, false}
use mathlib.Core.List.{List, [], ◌∷◌}
use Prim.Native.Nat.{ℕ, suc, ◌+◌, ◌-◌, ◌≤◌, ◌<◌}
use native.Mathlib.Omega.{arith}
use lib.ListN.{length, take, drop, get_or, set, length-set}
use lib.Seq.{sets, length-sets, get_or-set_same, get_or-set_other}
use Rattle.definitions.specs.Bytes.{Line}
use Rattle.definitions.specs.Matching.{Qualified, qualified}
use Rattle.definitions.specs.Search.{one}
use Rattle.definitions.specs.Edit.{Op, Change, alter, split, add_global, point}
use Rattle.definitions.specs.Control.{simple}
use Rattle.definitions.specs.Reader.{Cursor, got, refused, and_then}
use Rattle.definitions.specs.Strings.{start_qualifiers, qualified_string, two_strings, two_plain_strings}
use Rattle.definitions.specs.Commands.{whole, Shape, alters, globals, alter_op, decode}
use Rattle.matching.specs.Quals.{qualifiers_of}
use Rattle.matching.specs.Words.{string_words, led_in, Encodes, Writable}
use Rattle.matching.specs.declared.Quals.{Quals}
use Rattle.matching.proofs.Keeping.{string-encodes, kept-behind}
use Rattle.std.specs.Prelude.{Ok}
use Rattle.answers.specs.declared.Read.{Read}
use Rattle.answers.specs.Answers.{whole_read}
use Rattle.lexer.specs.Places.{cursor_at}
use Rattle.lexer.proofs.Given.{goes_on, passed-up}
use Rattle.strings.specs.declared.TwoStrings.{TwoStrings}
use Rattle.strings.specs.Answers.{StringAt, QuotedAt, PairAt}
use Rattle.strings.proofs.Callers.{string-few, string-writable}
use Rattle.strings.proofs.Lines.{strings-short}
use Rattle.items.specs.Words.{head, TwoStringsAt, OpAt, ItemAt, string_word}
use Rattle.items.specs.Depth.{open_after}
use Rattle.items.proofs.Reading.{point-shape, split-shape, change-shape, global-shape}
use Rattle.script.specs.Reading.{CommandRoom, Unwritten, CommandIs, CommandRead}
use Rattle.script.specs.Commands.{Aims, of_points, of_splits, Pairs, of_alters, of_globals}
use Rattle.script.proofs.Keeping.{kept_set}
use Rattle.script.proofs.Items.{one-stays, one-is}
use Rattle.script.proofs.Inserting.{string-in}

-- ---- words stored in a run

sets_below : (vs l : List ℕ) (i j : ℕ) → j < i → get_or (sets l i vs) j 0 ≡ get_or l j 0
sets_below [] l i j h = refl
sets_below (a ∷ vs) l i j h = sets_below vs (set l i a) (suc i) j (omega arith) ∙ get_or-set_other l i j a 0 (λ e. omega (arith, e))

kept_sets : (vs : List ℕ) (k d i : ℕ) (w w' : List ℕ) → k ≤ i → i + length vs + d ≤ length w → Unwritten k d w w' → Unwritten k d w (sets w' i vs)
kept_sets [] k d i w w' le room h = h
kept_sets (a ∷ vs) k d i w w' le room h = kept_sets vs k d (suc i) w (set w' i a) (omega arith) (omega arith) (kept_set k d i a w w' le (omega arith) h)

-- ---- a command of one qualified string: which it is, what it is read as, and its words

unfoldable aim_op : {kind : ℕ} {shape : Shape} → Aims kind shape → Qualified → Op
aim_op (of_points after e) = point after
aim_op (of_splits after e) = split after

aims-decode : {kind : ℕ} {shape : Shape} (a : Aims kind shape) (place : ℕ) (c : Cursor)
    → decode false place shape c ≡ and_then (qualified_string false c) (λ q c₁. got (whole (simple place (aim_op a q))) c₁)
unfolding decode aim_op
aims-decode (of_points after e) place c = refl
aims-decode (of_splits after e) place c = refl

aims-lies : {kind : ℕ} {shape : Shape} (a : Aims kind shape) (s w : List ℕ) (k m place : ℕ) (q : Qualified) → get_or w k 0 ≡ head kind place → Encodes s w (k + 1) m (one q) → OpAt s w k m place (aim_op a q)
unfolding OpAt aim_op
aims-lies (of_points after e) s w k m place q first there = (rw e at first, there)
aims-lies (of_splits after e) s w k m place q first there = (rw e at first, there)

pub aims-small : {kind : ℕ} → (shape : Shape) × Aims kind shape → kind < 256
aims-small (_, of_points after e) = omega (arith, e, (point-shape after).0)
aims-small (_, of_splits after e) = omega (arith, e, (split-shape after).0)

module _ (s w : List ℕ) (place at k : ℕ) (r : CommandRoom s w place at k) where
  -- ---- one string, from the second word on

  module _ (q : Quals) (start end next : ℕ) (stands : StringAt s at q start end next) where
    abbrev written : List ℕ
    written = string_words (qualifiers_of q) start (end - start) (led_in q)

    pub string-room : k + 1 + length (string_words (qualifiers_of q) start (end - start) (led_in q)) + 31 ≤ length w
    string-room =
        omega (arith, r.room, r.fits.work, r.named, r.inside, string-few s at q start end next stands, stands.after, stands.ordered, stands.ends, stands.within)

    pub string-small : k + 1 + length (string_words (qualifiers_of q) start (end - start) (led_in q)) ≤ 40000
    string-small =
        omega (arith, r.room, r.fits.small, r.named, r.inside, string-few s at q start end next stands, stands.after, stands.ordered, stands.ends, stands.within)

    pub can_write : Writable q start (end - start)
    can_write = string-writable s at q start end next stands r.fits.form

    module _ (v : ℕ) where
      abbrev after : List ℕ
      after = sets (set w k v) (k + 1) written

      pub string-stays : Unwritten k 16 w (sets (set w k v) (k + 1) (string_words (qualifiers_of q) start (end - start) (led_in q)))
      string-stays = kept_sets written k 16 (k + 1) w (set w k v) (omega arith) (omega (arith, string-room)) (one-stays w k v (omega (arith, string-room)))

      pub string-head : get_or (sets (set w k v) (k + 1) (string_words (qualifiers_of q) start (end - start) (led_in q))) k 0 ≡ v
      string-head = sets_below written (set w k v) (k + 1) k (omega arith) ∙ one-is w k v (omega (arith, string-room))

      pub string-there : Encodes s (sets (set w k v) (k + 1) (string_words (qualifiers_of q) start (end - start) (led_in q))) (k + 1) (k + 1 + length (string_words (qualifiers_of q) start (end - start) (led_in q)))
          (one (qualified (qualifiers_of q) (take (end - start) (drop start s))))
      string-there =
          string-encodes s (set w k v) (k + 1) q start (end - start) can_write (stands.formed (strings-short s r.fits.form)) (omega (arith, stands.ordered, stands.ends, stands.within))
          (rw (length-set w k v) (omega (arith, string-room)))

  -- ---- PA, PB, SA, SB

  module _ {kind : ℕ} {shape : Shape} (a : Aims kind shape) where
    pub aims-refused : (n p : ℕ) → qualified_string false (cursor_at s at) ≡ refused n p → decode false place shape (cursor_at s at) ≡ refused n p
    aims-refused n p e = aims-decode a place (cursor_at s at) ∙ passed-up (qualified_string false (cursor_at s at)) _ n p e

    pub aims-written : (q : Quals) (start end next : ℕ) → QuotedAt s at (start_qualifiers false (cursor_at s at)) (qualified_string false (cursor_at s at)) q start end next → (v m : ℕ) (w' : List ℕ)
        → v ≡ head kind place
        → w' ≡ sets (set w k v) (k + 1) (string_words (qualifiers_of q) start (end - start) (led_in q)) → m ≡ k + 1 + length (string_words (qualifiers_of q) start (end - start) (led_in q))
        → CommandRead s w w' place k (decode false place shape (cursor_at s at)) (Ok (whole_read m next))
    unfolding ItemAt CommandIs open_after
    aims-written q start end next (read, stands, opened) v m w' hd we me =
        let few = string-few s at q start end next stands in
        let l : Qualified = qualified (qualifiers_of q) (take (end - start) (drop start s)) in
        rw (we, me) ((
          string-stays q start end next stands v,
          (
            simple place (aim_op a l),
            aims-decode a place (cursor_at s at) ∙ goes_on (qualified_string false (cursor_at s at)) _ l (cursor_at s next) read,
            record {
              passed = omega (arith, r.named, stands.after, stands.ordered, stands.ends);
              inside = stands.within;
              forth = omega arith;
              two = omega (arith, r.named, few, stands.after, stands.ordered, stands.ends, stands.within);
              opening = λ n. omega arith;
              item = aims-lies a s _ k _ place l (string-head q start end next stands v ∙ hd) (string-there q start end next stands v);
            },
          ),
        ))

  -- ---- A, B, E, AP, BP, EP; GA, GB, GE

  module _ (kind : ℕ) (shape : Shape) (op : Op) (q : Quals) (start end second second-end next : ℕ) (stands : PairAt s at q start end second second-end next) where
    abbrev first_string : Qualified
    first_string = qualified (qualifiers_of q) (take (end - start) (drop start s))

    abbrev second-string : Line
    second-string = take (second-end - second) (drop second s)

    strings-written : decode false place shape (cursor_at s at) ≡ got (whole (simple place op)) (cursor_at s next)
        → ((w₁ : List ℕ) (m : ℕ) → TwoStringsAt s w₁ k m (head kind place) first_string second-string → OpAt s w₁ k m place op) → (v m u : ℕ) (w' : List ℕ)
        → v ≡ head kind place
        → w' ≡ sets (set w k v) (k + 1) (string_words (qualifiers_of q) start (end - start) (led_in q)) → m ≡ k + 1 + length (string_words (qualifiers_of q) start (end - start) (led_in q))
        → u ≡ string_word second (second-end - second)
        → CommandRead s w (set w' m u) place k (decode false place shape (cursor_at s at)) (Ok (whole_read (m + 1) next))
    unfolding ItemAt CommandIs open_after
    strings-written read lies v m u w' hd we me wd =
        let few = string-few s at q start end second stands.first in
        let room = string-room q start end second stands.first in
        let n : ℕ = k + 1 + length (string_words (qualifiers_of q) start (end - start) (led_in q)) in
        let w2 : List ℕ = sets (set w k v) (k + 1) (string_words (qualifiers_of q) start (end - start) (led_in q)) in
        let inside : n < length w2 = rw (length-sets (set w k v) (k + 1) (string_words (qualifiers_of q) start (end - start) (led_in q)), length-set w k v) (omega (arith, room)) in
        let there = string-there q start end second stands.first v in
        rw (we, me) ((
          kept_set k 16 n u w w2 (omega arith) (omega (arith, room)) (string-stays q start end second stands.first v),
          (
            simple place op,
            read,
            record {
              passed = omega (arith, r.named, stands.first.after, stands.first.ordered, stands.first.ends, stands.ordered, stands.ends);
              inside = stands.within;
              forth = omega arith;
              two = omega (arith, r.named, few, stands.first.after, stands.first.ordered, stands.first.ends, stands.ordered, stands.ends, stands.within);
              opening = λ n. omega arith;
              item = lies (set w2 n u) (n + 1) (
                n,
                refl,
                get_or-set_other w2 n k u 0 (λ e. omega (arith, e)) ∙ string-head q start end second stands.first v ∙ hd,
                kept-behind s w2 (k + 1) n (one first_string) there n u (omega arith),
                rw (get_or-set_same w2 n u 0 inside) (string-in s u second second-end stands.ordered (omega (arith, stands.ends, stands.within)) wd),
              );
            },
          ),
        ))

  pub alters-refused : (c : Change) (pointing : Bool) (n p : ℕ) → two_strings (cursor_at s at) ≡ refused n p → decode false place (alters c pointing) (cursor_at s at) ≡ refused n p
  unfolding decode
  alters-refused c pointing n p e = passed-up (two_strings (cursor_at s at)) _ n p e

  pub globals-refused : (c : Change) (n p : ℕ) → two_plain_strings (cursor_at s at) ≡ refused n p → decode false place (globals c) (cursor_at s at) ≡ refused n p
  unfolding decode
  globals-refused c n p e = passed-up (two_plain_strings (cursor_at s at)) _ n p e

  module _ {kind : ℕ} {both : Read TwoStrings} where
    -- where they lie
    pub pairs-stand : {shape : Shape} → Pairs s at kind both shape → PairAt s at both.value.first.quals both.value.first.part.start both.value.first.part.end both.value.second.start both.value.second.end both.next
    pairs-stand (of_alters c pointing e h) = h.1
    pairs-stand (of_globals c e h) = h.stand

    pub pairs-written : {shape : Shape} → Pairs s at kind both shape → (v m u : ℕ) (w' : List ℕ)
        → v ≡ head kind place
        → w' ≡ sets (set w k v) (k + 1) (string_words (qualifiers_of both.value.first.quals) both.value.first.part.start (both.value.first.part.end - both.value.first.part.start) (led_in both.value.first.quals))
        → m ≡ k + 1 + length (string_words (qualifiers_of both.value.first.quals) both.value.first.part.start (both.value.first.part.end - both.value.first.part.start) (led_in both.value.first.quals))
        → u ≡ string_word both.value.second.start (both.value.second.end - both.value.second.start)
        → CommandRead s w (set w' m u) place k (decode false place shape (cursor_at s at)) (Ok (whole_read (m + 1) both.next))
    unfolding decode OpAt alter_op
    pairs-written (of_alters c pointing e h) =
        strings-written kind (alters c pointing) (alter c pointing _ _) both.value.first.quals both.value.first.part.start both.value.first.part.end both.value.second.start both.value.second.end both.next h.1
        (goes_on (two_strings (cursor_at s at)) _ _ (cursor_at s both.next) h.0) (λ w₁ m two. rw e at two)
    pairs-written (of_globals c e h) =
        strings-written kind (globals c) (add_global c _ _) both.value.first.quals both.value.first.part.start both.value.first.part.end both.value.second.start both.value.second.end both.next h.stand
        (goes_on (two_plain_strings (cursor_at s at)) _ _ (cursor_at s both.next) h.both) (λ w₁ m two. rw (e, h.unqualified) at two)

pub pairs_small : {s : List ℕ} {at kind : ℕ} {both : Read TwoStrings} → (shape : Shape) × Pairs s at kind both shape → kind < 256
pairs_small (_, of_alters c pointing e h) = omega (arith, e, (change-shape c pointing).0)
pairs_small (_, of_globals c e h) = omega (arith, e, (global-shape c).0)
