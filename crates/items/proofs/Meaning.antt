-- What the words of a simple command say, by its kind. Assumes nothing.
use mathlib.Core.Path.{◌≡◌, refl, ap, sym, ◌∙◌, subst}
use mathlib.Core.Logic.{◌⊎◌, inl, inr}
use mathlib.Core.Bool.{Bool, true, false, not, cond, ◌&&◌, ◌||◌, false≢true}
use mathlib.Core.Option.{Option, none}
use mathlib.Core.List.{List, [], ◌∷◌}
use Prim.Native.Nat.{ℕ, ◌+◌, ◌*◌, ◌/◌, ◌%◌, ◌<◌}
use native.Mathlib.Omega.{arith}
use lib.ListN.{length, get_or}
use lib.Dec.{eqb}
use borrow.Author.Tests.{ne_eqb, eqb-true}
use Rattle.definitions.specs.Bytes.{Line, is_line, all_lines}
use Rattle.definitions.specs.WordSet.{Named}
use Rattle.definitions.specs.Matching.{Qualified, qualified}
use Rattle.definitions.specs.Search.{one}
use Rattle.definitions.specs.Strings.{no_qualifiers, is_empty}
use Rattle.definitions.specs.Editor.{Target, Through, alone, up_to, to_eof}
use Rattle.definitions.specs.Edit.{Change, after_it, before_it, exchange, Op, only_step, quit, test, begin, begin_back, find, find_back, find_delete, move, next_line, previous_line, delete, replace, insert, copy, alter, split, join, add_global, cancel_globals, name_words, point, point_start, right, left, cut_byte, recase}
use Rattle.theorems.specs.Lines.{and_left, and_right}
use Rattle.theorems.specs.GoodItems.{good_target, good_through, good_option, good_qualified, good_op}
use Rattle.wordset.specs.Sets.{SetAt}
use Rattle.matching.specs.Words.{Encodes}
use Rattle.matching.proofs.Reading.{ReadsAs, one-reads}
use Rattle.items.specs.Kinds.{word_shape, pair_shape, four_shape, string_shape, change_shape, shape_of, quit_kind, next_kind, previous_kind, copy_kind, point_start_kind, right_kind, left_kind, cut_byte_kind, cancel_kind, move_kind, delete_kind, insert_string_kind, join_kind, replace_kind, insert_lines_kind, word_set_kind, case_kind, point_kind, split_kind, change_kind, global_kind, is_global}
use Rattle.items.specs.Words.{head, kind_at, number_at, target_code, spot_code, end_bit, last_code, StringIn, LinesIn, SpanAt, OpAt}
use Rattle.items.specs.Ends.{is_one_word}
use Rattle.items.specs.Arguments.{span_from, span_through}
use Rattle.items.specs.Simple.{byte_op, line_op, word_op, CommandAt}
use Rattle.items.proofs.FirstWords.{head-kind, head-number}
use Rattle.items.proofs.Reading.{case-shape, point-shape, split-shape, change-shape, global-shape, op-reads}

-- how far D and R go, as it is read
unfoldable pub through_code : Through → ℕ
through_code alone = 0
through_code (up_to b) = b
through_code to_eof = 65536

-- the lines of D and R, as they are read
pub record SpanRead (w : List ℕ) (k : ℕ) (a : Target) (b : Through) : Type 0 where
  pub from : span_from (get_or w (k + 1) 0) ≡ target_code a
  pub before : target_code a < 65536
  pub through : span_through (number_at w k) (get_or w (k + 1) 0) ≡ through_code b
  pub good_from : good_target a ≡ true
  pub good-through : good_through b ≡ true

-- the strings of GE, GA and GB, as they are read
pub record GlobalRead (s w : List ℕ) (k m : ℕ) (l new : Line) : Type 0 where
  pub middle : ℕ
  pub ends : m ≡ middle + 1
  pub first : ReadsAs s w (k + 1) middle (qualified no_qualifiers l)
  pub second : StringIn s (get_or w middle 0) new
  pub good : is_line l && not (is_empty l) && is_line new ≡ true

-- ---- the forms of simple commands

pub data Form : Type 0 where
  words moving deleting stringing replacing lining naming changing adding aiming unknown : Form

-- IS and CL
abbrev pub takes_string : ℕ → Bool
takes_string kind = eqb kind insert_string_kind || eqb kind join_kind

unfoldable pub form_of : ℕ → Form
form_of kind =
    cond (eqb (shape_of kind) word_shape) words
    (cond (eqb (shape_of kind) change_shape) (cond (is_global kind) adding changing)
    (cond (eqb (shape_of kind) string_shape) aiming
    (cond (eqb kind move_kind) moving
    (cond (eqb kind delete_kind) deleting
    (cond (takes_string kind) stringing
    (cond (eqb kind replace_kind) replacing
    (cond (eqb kind insert_lines_kind) lining
    (cond (eqb kind word_set_kind) naming unknown))))))))

-- what the words from k up to m say of a command of this kind
unfoldable pub Means : (s w : List ℕ) (k m kind : ℕ) → Form → Op → Type 0
Means s w k m kind words op = (m ≡ k + 1) × (op ≡ word_op kind)
Means s w k m kind moving op = (a : Target) × (op ≡ move a) × (m ≡ k + 2) × (get_or w (k + 1) 0 ≡ target_code a) × (good_target a ≡ true)
Means s w k m kind deleting op = (a : Target) × (b : Through) × (op ≡ delete a b) × (m ≡ k + 2) × SpanRead w k a b
Means s w k m kind stringing op =
    (l : Line) × (m ≡ k + 2) × StringIn s (get_or w (k + 1) 0) l × (is_line l ≡ true)
    × (((op ≡ insert none (l ∷ [])) × (kind ≡ insert_string_kind)) ⊎ ((op ≡ join l) × (kind ≡ join_kind)))
Means s w k m kind replacing op =
    (a : Target) × (b : Through) × (ls : List Line) × (op ≡ replace a b ls) × (m ≡ k + 4) × SpanRead w k a b × LinesIn s (get_or w (k + 2) 0) (get_or w (k + 3) 0) ls × (all_lines ls ≡ true)
Means s w k m kind lining op =
    (a : Option Target) × (ls : List Line) × (op ≡ insert a ls) × (m ≡ k + 4) × (get_or w (k + 1) 0 ≡ spot_code a) × (good_option a ≡ true)
    × LinesIn s (get_or w (k + 2) 0) (get_or w (k + 3) 0) ls × (all_lines ls ≡ true)
Means s w k m kind naming op = (xs : List Named) × (op ≡ name_words xs) × (m ≡ k + 4) × SetAt w (k + 1) xs
Means s w k m kind changing op =
    (c : Change) × (pointed : Bool) × (q : Qualified) × (new : Line) × (n : ℕ) × (op ≡ alter c pointed q new) × (kind ≡ change_kind c pointed) × (m ≡ n + 1)
    × ReadsAs s w (k + 1) n q × StringIn s (get_or w n 0) new × (is_line new ≡ true)
Means s w k m kind adding op = (c : Change) × (l : Line) × (new : Line) × (op ≡ add_global c l new) × (kind ≡ global_kind c) × GlobalRead s w k m l new
Means s w k m kind aiming op =
    (after : Bool) × (q : Qualified) × ReadsAs s w (k + 1) m q × (((op ≡ point after q) × (kind ≡ point_kind after)) ⊎ ((op ≡ split after q) × (kind ≡ split_kind after)))
Means s w k m kind unknown op = ⊥

-- ---- which kinds of a change's shape are globals

pub change-not : (c : Change) (pointed : Bool) → is_global (change_kind c pointed) ≡ false
unfolding change_kind is_global
change-not after_it false = refl
change-not after_it true = refl
change-not before_it false = refl
change-not before_it true = refl
change-not exchange false = refl
change-not exchange true = refl

pub global-is : (c : Change) → is_global (global_kind c) ≡ true
unfolding global_kind is_global
global-is after_it = refl
global-is before_it = refl
global-is exchange = refl

-- ---- a span

span-from : (x n code : ℕ) → code < 65536 → x ≡ code + 65536 * n → x % 65536 ≡ code
span-from x n code small h = omega (arith, h, small)

span_last : (x n code : ℕ) → code < 65536 → x ≡ code + 65536 * n → x / 65536 ≡ n
span_last x n code small h = omega (arith, h, small)

through-at : (b : Through) (n x : ℕ) → n ≡ end_bit b → x / 65536 ≡ last_code b → span_through n x ≡ through_code b
unfolding end_bit last_code through_code span_through
through-at alone n x e f = rw e f
through-at (up_to b) n x e f = rw e f
through-at to_eof n x e f = rw e

module _ (s w : List ℕ) (k kind place : ℕ) (small : kind < 256) where
  pub span-reads : (a : Target) (b : Through) → SpanAt s w k kind place a b → good_target a ≡ true → good_through b ≡ true → (kind_at w k ≡ kind) × SpanRead w k a b
  span-reads a b h good far = (
    head-kind (get_or w k 0) kind place (end_bit b) small h.first,
    record {
      from = span-from (get_or w (k + 1) 0) (last_code b) (target_code a) h.before h.second;
      before = h.before;
      through = through-at b (number_at w k) (get_or w (k + 1) 0) (head-number (get_or w k 0) kind place (end_bit b) small h.first h.low) (span_last (get_or w (k + 1) 0) (last_code b) (target_code a) h.before h.second);
      good_from = good;
      good-through = far;
    },
  )

-- ---- commands

module _ (s w : List ℕ) (k m place : ℕ) where
  kinds : (kind : ℕ) → kind < 256 → get_or w k 0 ≡ head kind place → kind_at w k ≡ kind
  kinds kind small h = head-kind (get_or w k 0) kind place 0 small (h ∙ omega arith)

  abbrev Says : Op → Type 0
  Says op = Means s w k m (kind_at w k) (form_of (kind_at w k)) op

  -- a command of one word
  word : (kind : ℕ) (op : Op) → kind < 256 → shape_of kind ≡ word_shape → op ≡ word_op kind → (m ≡ k + 1) × (get_or w k 0 ≡ head kind place) → Says op
  unfolding form_of Means
  word kind op small shape e h = rw (kinds kind small h.1, shape) (h.0, e)

  case-op : (up : Bool) → recase up ≡ word_op (case_kind up)
  unfolding case_kind word_op line_op byte_op
  case-op false = refl
  case-op true = refl

  string-line : (a : Option Target) (ls : List Line) (l : Line) → a ≡ none → ls ≡ l ∷ [] → all_lines ls ≡ true → (insert a ls ≡ insert none (l ∷ [])) × (is_line l ≡ true)
  unfolding all_lines
  string-line a ls l none_is is_one good = (rw (none_is, is_one), and_left (is_line l) true (rw is_one at good))

  deleted : (a : Target) (b : Through) → m ≡ k + 2 → kind_at w k ≡ delete_kind → SpanRead w k a b → Says (delete a b)
  unfolding form_of Means
  deleted a b ends e x = rw e (a, b, refl, ends, x)

  replaced : (a : Target) (b : Through) (ls : List Line) → m ≡ k + 4 → kind_at w k ≡ replace_kind → SpanRead w k a b → LinesIn s (get_or w (k + 2) 0) (get_or w (k + 3) 0) ls → all_lines ls ≡ true
      → Says (replace a b ls)
  unfolding form_of Means
  replaced a b ls ends e x l good = rw e (a, b, ls, refl, ends, x, l, good)

  changed : (c : Change) (pointed : Bool) (q : Qualified) (new : Line) (n : ℕ) → kind_at w k ≡ change_kind c pointed → shape_of (change_kind c pointed) ≡ change_shape → m ≡ n + 1
      → ReadsAs s w (k + 1) n q → StringIn s (get_or w n 0) new → is_line new ≡ true → Says (alter c pointed q new)
  unfolding form_of Means
  changed c pointed q new n e shape ends reads x good = rw (e, shape, change-not c pointed) (c, pointed, q, new, n, refl, refl, ends, reads, x, good)

  -- GE, GA, GB: their strings, wherever the kind has been read
  pub global-read : (c : Change) (l new : Line) → OpAt s w k m place (add_global c l new) → good_op (add_global c l new) ≡ true → (kind_at w k ≡ global_kind c) × GlobalRead s w k m l new
  unfolding OpAt good_op
  global-read c l new h good = (
    kinds (global_kind c) (global-shape c).0 h.2,
    record { middle = h.0; ends = h.1; first = one-reads s w (k + 1) h.0 (qualified no_qualifiers l) h.3; second = h.4; good = good },
  )

  added : (c : Change) (l new : Line) → (kind_at w k ≡ global_kind c) × GlobalRead s w k m l new → Says (add_global c l new)
  unfolding form_of Means
  added c l new h = rw (h.0, (global-shape c).1, global-is c) (c, l, new, refl, refl, h.1)

  aimed-at : (kind : ℕ) (after : Bool) (q : Qualified) (op : Op) → kind < 256 → shape_of kind ≡ string_shape
      → ((op ≡ point after q) × (kind ≡ point_kind after)) ⊎ ((op ≡ split after q) × (kind ≡ split_kind after))
      → (get_or w k 0 ≡ head kind place) × Encodes s w (k + 1) m (one q) → Says op
  unfolding form_of Means
  aimed-at kind after q op small shape which h = rw (kinds kind small h.0, shape) (after, q, one-reads s w (k + 1) m q h.1, which)

  -- THE LAW: the kind says which command it is
  pub means : (op : Op) → OpAt s w k m place op → good_op op ≡ true → Means s w k m (kind_at w k) (form_of (kind_at w k)) op
  unfolding OpAt word_op line_op byte_op good_op form_of Means
  means quit h good = word quit_kind quit (omega arith) refl refl h
  means next_line h good = word next_kind next_line (omega arith) refl refl h
  means previous_line h good = word previous_kind previous_line (omega arith) refl refl h
  means copy h good = word copy_kind copy (omega arith) refl refl h
  means point_start h good = word point_start_kind point_start (omega arith) refl refl h
  means right h good = word right_kind right (omega arith) refl refl h
  means left h good = word left_kind left (omega arith) refl refl h
  means cut_byte h good = word cut_byte_kind cut_byte (omega arith) refl refl h
  means (recase up) h good = word (case_kind up) (recase up) (case-shape up).0 (case-shape up).1 (case-op up) h
  means (move a) h good = rw (kinds move_kind (omega arith) h.1) (a, refl, h.0, h.2, good)
  means (delete a b) h good =
      let x = span-reads s w k delete_kind place (omega arith) a b h.1 (and_left (good_target a) (good_through b) good) (and_right (good_target a) (good_through b) good) in
      deleted a b h.0 x.0 x.1
  means (replace a b ls) h good =
      let span = and_left (good_target a && good_through b) (all_lines ls) good in
      let x = span-reads s w k replace_kind place (omega arith) a b h.1 (and_left (good_target a) (good_through b) span) (and_right (good_target a) (good_through b) span) in
      replaced a b ls h.0 x.0 x.1 h.2 (and_right (good_target a && good_through b) (all_lines ls) good)
  means (insert a ls) (inl h) good =
      let x = string-line a ls h.3.0 h.2 h.3.2 (and_right (good_option a) (all_lines ls) good) in
      rw (kinds insert_string_kind (omega arith) h.1) (h.3.0, h.0, h.3.1, x.1, inl (x.0, refl))
  means (insert a ls) (inr h) good =
      rw (kinds insert_lines_kind (omega arith) h.1) (a, ls, refl, h.0, h.2, and_left (good_option a) (all_lines ls) good, h.3, and_right (good_option a) (all_lines ls) good)
  means (alter c pointed q new) h good =
      let x = change-shape c pointed in
      changed c pointed q new h.0 (kinds (change_kind c pointed) x.0 h.2) x.1 h.1 (one-reads s w (k + 1) h.0 q h.3) h.4 (and_right (good_qualified q) (is_line new) good)
  means (split after q) h good = aimed-at (split_kind after) after q (split after q) (split-shape after).0 (split-shape after).1 (inr (refl, refl)) h
  means (join l) h good = rw (kinds join_kind (omega arith) h.1) (l, h.0, h.2, good, inr (refl, refl))
  means (add_global c l new) h good = added c l new (global-read c l new h good)
  means (name_words xs) h good = rw (kinds word_set_kind (omega arith) h.1) (xs, refl, h.0, h.2)
  means cancel_globals h good = word cancel_kind cancel_globals (omega arith) refl refl h
  means (point after q) h good = aimed-at (point_kind after) after q (point after q) (point-shape after).0 (point-shape after).1 (inl (refl, refl)) h
  means only_step h good = absurd h
  means (test c) h good = absurd h
  means begin h good = absurd h
  means begin_back h good = absurd h
  means (find se) h good = absurd h
  means (find_back se) h good = absurd h
  means (find_delete se n) h good = absurd h

-- ---- which form it is

string-pair : (kind : ℕ) → takes_string kind ≡ true → shape_of kind ≡ pair_shape
string-pair kind e = by (eqb kind insert_string_kind) (eqb kind join_kind) refl refl e
  where
    by : (t u : Bool) → eqb kind insert_string_kind ≡ t → eqb kind join_kind ≡ u → t || u ≡ true → shape_of kind ≡ pair_shape
    by true u f g h = ap shape_of (eqb-true kind insert_string_kind f)
    by false true f g h = ap shape_of (eqb-true kind join_kind g)
    by false false f g h = absurd (false≢true h)

module _ (s w : List ℕ) (k m kind : ℕ) (op : Op) where
  abbrev Meant : Form → Type 0
  Meant f = Means s w k m kind f op

  -- what is left of two words
  pub pair_left : shape_of kind ≡ pair_shape → (kind ≡ move_kind → ⊥) → (kind ≡ delete_kind → ⊥) → Means s w k m kind (form_of kind) op → Means s w k m kind stringing op
  unfolding form_of Means
  pair_left shape a b h = go (takes_string kind) (eqb kind replace_kind) (eqb kind insert_lines_kind) (eqb kind word_set_kind) refl refl refl (rw (shape, ne_eqb kind move_kind a, ne_eqb kind delete_kind b) at h)
    where
      go : (t u v z : Bool) → eqb kind replace_kind ≡ u → eqb kind insert_lines_kind ≡ v → eqb kind word_set_kind ≡ z → Meant (cond t stringing (cond u replacing (cond v lining (cond z naming unknown)))) → Meant stringing
      go true u v z e f g x = x
      go false true v z e f g x = absurd (omega (arith, shape, eqb-true kind replace_kind e))
      go false false true z e f g x = absurd (omega (arith, shape, eqb-true kind insert_lines_kind f))
      go false false false true e f g x = absurd (omega (arith, shape, eqb-true kind word_set_kind g))
      go false false false false e f g x = absurd x

  -- of four
  pub four-left : shape_of kind ≡ four_shape → (kind ≡ replace_kind → ⊥) → (kind ≡ word_set_kind → ⊥) → Means s w k m kind (form_of kind) op → Means s w k m kind lining op
  unfolding form_of Means
  four-left shape a b h =
      go (eqb kind move_kind) (eqb kind delete_kind) (takes_string kind) (eqb kind insert_lines_kind) refl refl refl (rw (shape, ne_eqb kind replace_kind a, ne_eqb kind word_set_kind b) at h)
    where
      go : (t u v z : Bool) → eqb kind move_kind ≡ t → eqb kind delete_kind ≡ u → takes_string kind ≡ v
          → Meant (cond t moving (cond u deleting (cond v stringing (cond z lining unknown)))) → Meant lining
      go true u v z e f g x = absurd (omega (arith, shape, eqb-true kind move_kind e))
      go false true v z e f g x = absurd (omega (arith, shape, eqb-true kind delete_kind f))
      go false false true z e f g x = absurd (omega (arith, shape, string-pair kind g))
      go false false false true e f g x = x
      go false false false false e f g x = absurd x

  -- IS or CL
  pub is-insert : (kind ≡ join_kind → ⊥) → Means s w k m kind stringing op → (l : Line) × (op ≡ insert none (l ∷ [])) × StringIn s (get_or w (k + 1) 0) l
  unfolding Means
  is-insert other (l, ends, x, good, inl which) = (l, which.0, x)
  is-insert other (l, ends, x, good, inr which) = absurd (other which.1)

  pub is_join : kind ≡ join_kind → Means s w k m kind stringing op → (l : Line) × (op ≡ join l) × StringIn s (get_or w (k + 1) 0) l
  unfolding Means
  is_join this (l, ends, x, good, inl which) = absurd (omega (arith, this, which.1))
  is_join this (l, ends, x, good, inr which) = (l, which.0, x)

  -- CG, or another of one word
  pub is-cancel : kind ≡ cancel_kind → Means s w k m kind words op → op ≡ cancel_globals
  unfolding Means word_op
  is-cancel this h = h.1 ∙ rw this

  pub is-on-lines : (kind ≡ cancel_kind → ⊥) → Means s w k m kind words op → op ≡ line_op kind
  unfolding Means word_op
  is-on-lines other h = h.1 ∙ rw (ne_eqb kind cancel_kind other)

  -- WORD
  pub is-word-set : kind ≡ word_set_kind → Means s w k m kind (form_of kind) op → Means s w k m kind naming op
  unfolding form_of
  is-word-set this h = subst (λ (f : Form). Means s w k m kind f op) (ap form_of this) h

  -- GE, GA and GB, or a change
  pub is-global : shape_of kind ≡ change_shape → is_global kind ≡ true → Means s w k m kind (form_of kind) op → Means s w k m kind adding op
  unfolding form_of
  is-global shape this h = rw (shape, this) at h

  pub is-change : shape_of kind ≡ change_shape → is_global kind ≡ false → Means s w k m kind (form_of kind) op → Means s w k m kind changing op
  unfolding form_of
  is-change shape other h = rw (shape, other) at h

  -- of all simple commands
  pub shape-left : (shape_of kind ≡ word_shape → ⊥) → (shape_of kind ≡ pair_shape → ⊥) → (shape_of kind ≡ four_shape → ⊥) → (shape_of kind ≡ string_shape → ⊥)
      → Means s w k m kind (form_of kind) op → shape_of kind ≡ change_shape
  unfolding form_of Means
  shape-left a b c d h =
      go (eqb (shape_of kind) change_shape) (eqb kind move_kind) (eqb kind delete_kind) (takes_string kind) (eqb kind replace_kind) (eqb kind insert_lines_kind) (eqb kind word_set_kind) refl refl refl refl refl refl refl
      (rw (ne_eqb (shape_of kind) word_shape a, ne_eqb (shape_of kind) string_shape d) at h)
    where
      go : (z t u v x y n : Bool) → eqb (shape_of kind) change_shape ≡ z → eqb kind move_kind ≡ t → eqb kind delete_kind ≡ u → takes_string kind ≡ v → eqb kind replace_kind ≡ x → eqb kind insert_lines_kind ≡ y → eqb kind word_set_kind ≡ n
          → Meant (cond z (cond (is_global kind) adding changing) (cond t moving (cond u deleting (cond v stringing (cond x replacing (cond y lining (cond n naming unknown))))))) → shape_of kind ≡ change_shape
      go true t u v x y n e e₁ e₂ e₃ e₄ e₅ e₆ p = eqb-true (shape_of kind) change_shape e
      go false true u v x y n e e₁ e₂ e₃ e₄ e₅ e₆ p = absurd (b (ap shape_of (eqb-true kind move_kind e₁)))
      go false false true v x y n e e₁ e₂ e₃ e₄ e₅ e₆ p = absurd (b (ap shape_of (eqb-true kind delete_kind e₂)))
      go false false false true x y n e e₁ e₂ e₃ e₄ e₅ e₆ p = absurd (b (string-pair kind e₃))
      go false false false false true y n e e₁ e₂ e₃ e₄ e₅ e₆ p = absurd (c (ap shape_of (eqb-true kind replace_kind e₄)))
      go false false false false false true n e e₁ e₂ e₃ e₄ e₅ e₆ p = absurd (c (ap shape_of (eqb-true kind insert_lines_kind e₅)))
      go false false false false false false true e e₁ e₂ e₃ e₄ e₅ e₆ p = absurd (c (ap shape_of (eqb-true kind word_set_kind e₆)))
      go false false false false false false false e e₁ e₂ e₃ e₄ e₅ e₆ p = absurd p

-- ---- a command in the work area, whose kind was read

module _ (s w : List ℕ) (k kind : ℕ) (kind-is : kind ≡ kind_at w k) where
  pub meant : (op : Op) (h : CommandAt s w k op) → Means s w k h.end kind (form_of kind) op
  meant op h = subst (λ (x : ℕ). Means s w k h.end x (form_of x) op) (sym kind-is) (means s w k h.end h.place op h.words h.good)

  pub meant-as : (f : Form) → form_of kind ≡ f → (op : Op) (h : CommandAt s w k op) → Means s w k h.end kind f op
  meant-as f e op h = subst (λ (g : Form). Means s w k h.end kind g op) e (meant op h)

  -- its words can be read
  pub first-in : ((op : Op) × CommandAt s w k op) → k < length w
  first-in (op, h) = omega (arith, (op-reads s w k h.end h.place op h.words).further, h.inside)

  pub second-in : (shape : ℕ) → shape_of kind ≡ shape → is_one_word shape ≡ false → ((op : Op) × CommandAt s w k op) → k + 1 < length w
  second-in shape e more (op, h) =
      let long = (op-reads s w k h.end h.place op h.words).long in
      omega (arith, long (ap (λ (x : ℕ). is_one_word (shape_of x)) (sym kind-is) ∙ ap is_one_word e ∙ more), h.inside)
