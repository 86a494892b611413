-- What the words of an item say: what it is, where it ends, its place. Assumes nothing.
use mathlib.Core.Path.{◌≡◌, refl, sym, ap, ◌∙◌}
use mathlib.Core.Logic.{inl, inr}
use mathlib.Core.Bool.{Bool, true, false, cond, false≢true}
use mathlib.Core.List.{List, [], ◌∷◌}
use Prim.Native.Nat.{ℕ, ◌+◌, ◌/◌, ◌%◌, ◌≤◌, ◌<◌}
use native.Mathlib.Omega.{arith}
use lib.ListN.{length, get_or}
use lib.Dec.{eqb}
use Rattle.definitions.specs.Bytes.{Line}
use Rattle.definitions.specs.Matching.{Qualified}
use Rattle.definitions.specs.Search.{Search, one}
use Rattle.definitions.specs.Edit.{Change, after_it, before_it, exchange, is, is_not, is_eof, Op, only_step, quit, test, begin, begin_back, find, find_back, find_delete, move, next_line, previous_line, delete, replace, insert, copy, alter, split, join, add_global, cancel_globals, name_words, point, point_start, right, left, cut_byte, recase}
use Rattle.definitions.specs.Control.{Seek, forward, backward, deleting, Opener, times, forever, bare, branch, loop, Item, simple, seek, opens, bracket, close, otherwise, leave, line_end}
use Rattle.matching.specs.Words.{end_at, flags_at, Encodes}
use Rattle.matching.proofs.Reading.{one-reads}
use Rattle.matching.proofs.Running.{forward as ahead}
use Rattle.items.specs.Kinds.{word_shape, pair_shape, four_shape, string_shape, change_shape, search_shape, test_shape, opener_shape, long_opener_shape, shape_of, line_end_kind, bracket_kind, close_kind, else_kind, leave_kind, quit_kind, next_kind, previous_kind, copy_kind, point_start_kind, right_kind, left_kind, cut_byte_kind, cancel_kind, move_kind, delete_kind, insert_string_kind, join_kind, replace_kind, insert_lines_kind, word_set_kind, if_kind, unless_kind, while_kind, until_kind, count_kind, repeat_kind, bare_kind, if_eof_kind, long_count_kind, case_kind, point_kind, split_kind, change_kind, global_kind, seek_kind}
use Rattle.items.specs.Words.{head, head_with, kind_at, place_at, end_bit, TwoStringsAt, OpAt, SearchAt, TimesAt, OpenerAt, ItemAt, ItemsAt}
use Rattle.items.specs.Ends.{class_of, mark_by, class_in, class_by, place_of, is_one_word, end_in, end_by, seen_at}
use Rattle.items.specs.declared.ends.Class.{Class}
use Rattle.items.specs.declared.ends.Seen.{Seen}
use Rattle.items.proofs.FirstWords.{head-kind, head-place}

-- what the words from k on say of the item, which ends at m
pub record ReadsBack (w : List ℕ) (k m : ℕ) (i : Item) : Type 0 where
  pub class : class_by (kind_at w k) ≡ class_of i
  pub ends : end_by w k (kind_at w k) ≡ m
  pub long : is_one_word (shape_of (kind_at w k)) ≡ false → k + 1 < m
  pub further : k < m
  pub place : place_of i < 32768 → place_at w k ≡ place_of i

-- ---- by shape

module _ (w : List ℕ) (k m : ℕ) (i : Item) (kind place n : ℕ) (small : kind < 256) (word : get_or w k 0 ≡ head_with kind place n) (at : place ≡ place_of i) where
  reads_as : (shape : ℕ) → shape_of kind ≡ shape → class_in kind shape ≡ class_of i → end_in w k shape ≡ m → (is_one_word shape ≡ false → k + 1 < m) → k < m → ReadsBack w k m i
  reads_as shape shaped class ends long less =
      let kinds : kind_at w k ≡ kind = head-kind (get_or w k 0) kind place n small word in
      let shapes : shape_of (kind_at w k) ≡ shape = ap shape_of kinds ∙ shaped in
      record {
        class = ap class_by kinds ∙ ap (class_in kind) shaped ∙ class;
        ends = ap (end_in w k) shapes ∙ ends;
        long = λ h. long (ap is_one_word (sym shapes) ∙ h);
        further = less;
        place = λ h. head-place (get_or w k 0) kind place n small word (omega (arith, h, at)) ∙ at;
      }

  -- one word
  reads-one : (shape : ℕ) → shape_of kind ≡ shape → is_one_word shape ≡ true → class_in kind shape ≡ class_of i → end_in w k shape ≡ k + 1 → m ≡ k + 1 → ReadsBack w k m i
  reads-one shape shaped single class ends here = reads_as shape shaped class (ends ∙ sym here) (λ h. absurd (false≢true (sym h ∙ single))) (omega (arith, here))

  -- more words
  reads_more : (shape : ℕ) → shape_of kind ≡ shape → class_in kind shape ≡ class_of i → end_in w k shape ≡ m → k + 1 < m → ReadsBack w k m i
  reads_more shape shaped class ends less = reads_as shape shaped class ends (λ h. less) (omega (arith, less))

-- ---- the kinds that differ in an argument

pub case-shape : (up : Bool) → (case_kind up < 256) × (shape_of (case_kind up) ≡ word_shape)
unfolding case_kind
case-shape false = (omega arith, refl)
case-shape true = (omega arith, refl)

pub point-shape : (after : Bool) → (point_kind after < 256) × (shape_of (point_kind after) ≡ string_shape)
unfolding point_kind
point-shape true = (omega arith, refl)
point-shape false = (omega arith, refl)

pub split-shape : (after : Bool) → (split_kind after < 256) × (shape_of (split_kind after) ≡ string_shape)
unfolding split_kind
split-shape true = (omega arith, refl)
split-shape false = (omega arith, refl)

pub change-shape : (c : Change) (pointing : Bool) → (change_kind c pointing < 256) × (shape_of (change_kind c pointing) ≡ change_shape)
unfolding change_kind
change-shape after_it false = (omega arith, refl)
change-shape after_it true = (omega arith, refl)
change-shape before_it false = (omega arith, refl)
change-shape before_it true = (omega arith, refl)
change-shape exchange false = (omega arith, refl)
change-shape exchange true = (omega arith, refl)

pub global-shape : (c : Change) → (global_kind c < 256) × (shape_of (global_kind c) ≡ change_shape)
unfolding global_kind
global-shape after_it = (omega arith, refl)
global-shape before_it = (omega arith, refl)
global-shape exchange = (omega arith, refl)

pub seek-shape : (f : Seek) → (seek_kind f < 256) × (shape_of (seek_kind f) ≡ search_shape)
unfolding seek_kind
seek-shape forward = (omega arith, refl)
seek-shape backward = (omega arith, refl)
seek-shape deleting = (omega arith, refl)

-- ---- items

module _ (s w : List ℕ) (k m : ℕ) where
  -- a search and where it ends
  search-ends : (first : ℕ) (se : Search) → SearchAt s w k m first se → (get_or w (k + 1) 0 ≡ m) × (k + 1 < m)
  unfolding SearchAt
  search-ends first se h = (h.1, omega (arith, ahead s w (k + 2) m se h.2))

  module _ (place : ℕ) where
    plain-reads : (op : Op) (kind : ℕ) → kind < 256 → shape_of kind ≡ word_shape → (m ≡ k + 1) × (get_or w k 0 ≡ head kind place) → ReadsBack w k m (simple place op)
    unfolding class_in end_in is_one_word class_of place_of
    plain-reads op kind small shaped h = reads-one w k m (simple place op) kind place 0 small (h.1 ∙ omega arith) refl word_shape shaped refl refl refl h.0

    pair_reads : (op : Op) (kind n : ℕ) → kind < 256 → shape_of kind ≡ pair_shape → m ≡ k + 2 → get_or w k 0 ≡ head_with kind place n → ReadsBack w k m (simple place op)
    unfolding class_in end_in is_one_word class_of place_of
    pair_reads op kind n small shaped ends word = reads_more w k m (simple place op) kind place n small word refl pair_shape shaped refl (sym ends) (omega (arith, ends))

    four-reads : (op : Op) (kind n : ℕ) → kind < 256 → shape_of kind ≡ four_shape → m ≡ k + 4 → get_or w k 0 ≡ head_with kind place n → ReadsBack w k m (simple place op)
    unfolding class_in end_in is_one_word class_of place_of
    four-reads op kind n small shaped ends word = reads_more w k m (simple place op) kind place n small word refl four_shape shaped refl (sym ends) (omega (arith, ends))

    string-reads : (op : Op) (kind : ℕ) (q : Qualified) → kind < 256 → shape_of kind ≡ string_shape → (get_or w k 0 ≡ head kind place) × Encodes s w (k + 1) m (one q)
        → ReadsBack w k m (simple place op)
    unfolding class_in end_in is_one_word class_of place_of
    string-reads op kind q small shaped h =
        reads_more w k m (simple place op) kind place 0 small (h.0 ∙ omega arith) refl string_shape shaped refl
        (one-reads s w (k + 1) m q h.1).ends (omega (arith, ahead s w (k + 1) m (one q) h.1))

    strings-read : (op : Op) (kind : ℕ) (q : Qualified) (new : Line) → kind < 256 → shape_of kind ≡ change_shape → TwoStringsAt s w k m (head kind place) q new
        → ReadsBack w k m (simple place op)
    unfolding class_in end_in is_one_word class_of place_of
    strings-read op kind q new small shaped h =
        reads_more w k m (simple place op) kind place 0 small (h.2 ∙ omega arith) refl change_shape shaped refl
        (ap (λ (e : ℕ). e + 1) (one-reads s w (k + 1) h.0 q h.3).ends ∙ sym h.1) (omega (arith, h.1, ahead s w (k + 1) h.0 (one q) h.3))

    pub op-reads : (op : Op) → OpAt s w k m place op → ReadsBack w k m (simple place op)
    unfolding OpAt class_in end_in is_one_word class_of place_of
    op-reads quit h = plain-reads quit quit_kind (omega arith) refl h
    op-reads next_line h = plain-reads next_line next_kind (omega arith) refl h
    op-reads previous_line h = plain-reads previous_line previous_kind (omega arith) refl h
    op-reads copy h = plain-reads copy copy_kind (omega arith) refl h
    op-reads point_start h = plain-reads point_start point_start_kind (omega arith) refl h
    op-reads right h = plain-reads right right_kind (omega arith) refl h
    op-reads left h = plain-reads left left_kind (omega arith) refl h
    op-reads cut_byte h = plain-reads cut_byte cut_byte_kind (omega arith) refl h
    op-reads (recase up) h = plain-reads (recase up) (case_kind up) (case-shape up).0 (case-shape up).1 h
    op-reads (move a) h = pair_reads (move a) move_kind 0 (omega arith) refl h.0 (h.1 ∙ omega arith)
    op-reads (delete a b) h = pair_reads (delete a b) delete_kind (end_bit b) (omega arith) refl h.0 h.1.first
    op-reads (replace a b ls) h = four-reads (replace a b ls) replace_kind (end_bit b) (omega arith) refl h.0 h.1.first
    op-reads (insert a ls) (inl h) = pair_reads (insert a ls) insert_string_kind 0 (omega arith) refl h.0 (h.1 ∙ omega arith)
    op-reads (insert a ls) (inr h) = four-reads (insert a ls) insert_lines_kind 0 (omega arith) refl h.0 (h.1 ∙ omega arith)
    op-reads (alter c pointing q new) h = strings-read (alter c pointing q new) (change_kind c pointing) q new (change-shape c pointing).0 (change-shape c pointing).1 h
    op-reads (split after q) h = string-reads (split after q) (split_kind after) q (split-shape after).0 (split-shape after).1 h
    op-reads (join l) h = pair_reads (join l) join_kind 0 (omega arith) refl h.0 (h.1 ∙ omega arith)
    op-reads (add_global c l new) h = strings-read (add_global c l new) (global_kind c) _ new (global-shape c).0 (global-shape c).1 h
    op-reads cancel_globals h = plain-reads cancel_globals cancel_kind (omega arith) refl h
    op-reads (name_words xs) h = four-reads (name_words xs) word_set_kind 0 (omega arith) refl h.0 (h.1 ∙ omega arith)
    op-reads (point after q) h = string-reads (point after q) (point_kind after) q (point-shape after).0 (point-shape after).1 h
    op-reads only_step h = absurd h
    op-reads (test c) h = absurd h
    op-reads begin h = absurd h
    op-reads begin_back h = absurd h
    op-reads (find se) h = absurd h
    op-reads (find_back se) h = absurd h
    op-reads (find_delete se n) h = absurd h

    -- openers of one word, and with a test
    word-reads : (o : Opener) (kind n : ℕ) → kind < 256 → shape_of kind ≡ opener_shape → m ≡ k + 1 → get_or w k 0 ≡ head_with kind place n → ReadsBack w k m (opens place o)
    unfolding class_in end_in is_one_word class_of place_of
    word-reads o kind n small shaped ends word = reads-one w k m (opens place o) kind place n small word refl opener_shape shaped refl refl refl ends

    test-reads : (o : Opener) (kind : ℕ) (se : Search) → kind < 256 → shape_of kind ≡ test_shape → SearchAt s w k m (head kind place) se → ReadsBack w k m (opens place o)
    unfolding SearchAt class_in end_in is_one_word class_of place_of
    test-reads o kind se small shaped h =
        let e = search-ends (head kind place) se h in
        reads_more w k m (opens place o) kind place 0 small (h.0 ∙ omega arith) refl test_shape shaped refl e.0 e.1

    pub times-reads : (n all : ℕ) → TimesAt s w k m place all → ReadsBack w k m (opens place (times n))
    unfolding TimesAt class_in end_in is_one_word class_of place_of
    times-reads n all (inl h) = word-reads (times n) count_kind all (omega arith) refl h.1.0 h.1.1
    times-reads n all (inr h) =
        reads_more w k m (opens place (times n)) long_count_kind place 0 (omega arith) (h.1 ∙ omega arith) refl long_opener_shape refl refl (sym h.0) (omega (arith, h.0))

    pub opener-reads : (o : Opener) → OpenerAt s w k m place o → ReadsBack w k m (opens place o)
    unfolding OpenerAt
    opener-reads (times n) h = times-reads n n h
    opener-reads forever h = word-reads forever repeat_kind 0 (omega arith) refl h.0 (h.1 ∙ omega arith)
    opener-reads bare h = word-reads bare bare_kind 0 (omega arith) refl h.0 (h.1 ∙ omega arith)
    opener-reads (branch (is se)) h = test-reads (branch (is se)) if_kind se (omega arith) refl h
    opener-reads (branch (is_not se)) h = test-reads (branch (is_not se)) unless_kind se (omega arith) refl h
    opener-reads (branch is_eof) h = word-reads (branch is_eof) if_eof_kind 0 (omega arith) refl h.0 (h.1 ∙ omega arith)
    opener-reads (loop (is se)) h = test-reads (loop (is se)) while_kind se (omega arith) refl h
    opener-reads (loop (is_not se)) h = test-reads (loop (is_not se)) until_kind se (omega arith) refl h
    opener-reads (loop is_eof) h = absurd h

  mark-reads : (i : Item) (kind place : ℕ) → kind < 16 → mark_by kind ≡ class_of i → place ≡ place_of i → (m ≡ k + 1) × (get_or w k 0 ≡ head kind place) → ReadsBack w k m i
  unfolding class_in end_in is_one_word
  mark-reads i kind place few class at h = reads-one w k m i kind place 0 (omega arith) (h.1 ∙ omega arith) at 0 (omega arith) refl class refl h.0

  pub item-reads : (i : Item) → ItemAt s w k m i → ReadsBack w k m i
  unfolding ItemAt SearchAt class_in mark_by end_in is_one_word class_of place_of
  item-reads (simple place op) h = op-reads place op h
  item-reads (seek place f se) h =
      let x = seek-shape f in
      let e = search-ends (head (seek_kind f) place) se h in
      reads_more w k m (seek place f se) (seek_kind f) place 0 x.0 (h.0 ∙ omega arith) refl search_shape x.1 refl e.0 e.1
  item-reads (opens place o) h = opener-reads place o h
  item-reads line_end h = mark-reads line_end line_end_kind 0 (omega arith) refl refl h
  item-reads bracket h = mark-reads bracket bracket_kind 0 (omega arith) refl refl h
  item-reads close h = mark-reads close close_kind 0 (omega arith) refl refl h
  item-reads otherwise h = mark-reads otherwise else_kind 0 (omega arith) refl refl h
  item-reads (leave place) h = mark-reads (leave place) leave_kind place (omega arith) refl refl h

-- items in a row
pub items-end : (s w : List ℕ) (k n : ℕ) (items : List Item) → ItemsAt s w k n items → k ≤ n
unfolding ItemsAt
items-end s w k n [] h = omega (arith, h)
items-end s w k n (i ∷ items) h = omega (arith, (item-reads s w k h.0 i h.1).further, items-end s w h.0 n items h.2)

-- ---- what the code reads

pub end-near : (w : List ℕ) (k : ℕ) → end_at w k ≤ k + 3
unfolding end_at
end-near w k = near (eqb (flags_at w k / 128 % 2) 0)
  where
    near : (b : Bool) → cond b (k + 2) (k + 3) ≤ k + 3
    near true = omega arith
    near false = omega arith

-- the item at k lies in the words
abbrev pub LiesIn : List ℕ → ℕ → Type 0
LiesIn w k = (s : List ℕ) × (m : ℕ) × (i : Item) × ItemAt s w k m i × (m ≤ length w)

pub seen-in : (w : List ℕ) (k : ℕ) → LiesIn w k → k < length w
seen-in w k (s, m, i, h, room) = omega (arith, (item-reads s w k m i h).further, room)

module _ (w : List ℕ) (k kind : ℕ) (kind-is : kind ≡ kind_at w k) where
  pub seen_by : LiesIn w k → (k < length w) × (is_one_word (shape_of kind) ≡ false → k + 1 < length w)
  seen_by (s, m, i, h, room) =
      let r = item-reads s w k m i h in
      (omega (arith, r.further, room), λ more. omega (arith, r.long (ap (λ (x : ℕ). is_one_word (shape_of x)) (sym kind-is) ∙ more), room))

  -- by its class and its end
  pub seen-is : (class : Class) → class ≡ class_by kind → (after : ℕ) → after ≡ end_by w k kind → record { class = class; next = after } ≡ seen_at w k
  seen-is class is_class after is-after = rw (is_class, is-after, kind-is)

-- what it is and where it ends, as an item
pub seen_as : (w : List ℕ) (k : ℕ) (r : Seen) → r ≡ seen_at w k → (s : List ℕ) (m : ℕ) (i : Item) → ItemAt s w k m i → (r.class ≡ class_of i) × (r.next ≡ m)
seen_as w k r same s m i h =
    let x = item-reads s w k m i h in
    (ap (λ (z : Seen). z.class) same ∙ x.class, ap (λ (z : Seen). z.next) same ∙ x.ends)
