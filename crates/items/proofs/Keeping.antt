-- Items stay where words above them are written. Assumes nothing.
use mathlib.Core.Path.{◌≡◌, ◌∙◌}
use mathlib.Core.Logic.{inl, inr}
use mathlib.Core.List.{List, [], ◌∷◌}
use Prim.Native.Nat.{ℕ, ◌+◌, ◌≤◌, ◌<◌}
use native.Mathlib.Omega.{arith}
use lib.ListN.{length, get_or}
use Rattle.definitions.specs.Matching.{Qualified}
use Rattle.definitions.specs.Bytes.{Line}
use Rattle.definitions.specs.Search.{Search, one}
use Rattle.definitions.specs.Editor.{Target, Through}
use Rattle.definitions.specs.Edit.{is, is_not, is_eof, Op, only_step, quit, test, begin, begin_back, find, find_back, find_delete, move, next_line, previous_line, delete, replace, insert, copy, alter, split, join, add_global, cancel_globals, name_words, point, point_start, right, left, cut_byte, recase}
use Rattle.definitions.specs.Control.{Opener, times, forever, bare, branch, loop, Item, simple, seek, opens, bracket, close, otherwise, leave, line_end}
use Rattle.wordset.specs.Laws.{same_set}
use Rattle.matching.specs.Words.{Encodes}
use Rattle.matching.proofs.Running.{forward}
use Rattle.matching.proofs.Keeping.{kept}
use Rattle.items.specs.Kinds.{delete_kind, replace_kind}
use Rattle.items.specs.Words.{Words1, Words2, SpanAt, TwoStringsAt, OpAt, SearchAt, TimesAt, OpenerAt, ItemAt, ItemsAt}
use Rattle.items.proofs.Reading.{items-end}

module _ (s w w' : List ℕ) (n : ℕ) (same : (j : ℕ) → j < n → get_or w' j 0 ≡ get_or w j 0) (long : n ≤ length w') where
  one_kept : (k m a : ℕ) → m ≤ n → Words1 s w k m a → Words1 s w' k m a
  one_kept k m a le h = (h.0, same k (omega (arith, h.0)) ∙ h.1)

  two-kept : (k m a b : ℕ) → m ≤ n → Words2 s w k m a b → Words2 s w' k m a b
  two-kept k m a b le h = (h.0, same k (omega (arith, h.0)) ∙ h.1, same (k + 1) (omega (arith, h.0)) ∙ h.2)

  span-kept : (k kind place : ℕ) (a : Target) (b : Through) → k + 2 ≤ n → SpanAt s w k kind place a b → SpanAt s w' k kind place a b
  span-kept k kind place a b le h = record { low = h.low; first = same k (omega arith) ∙ h.first; second = same (k + 1) (omega arith) ∙ h.second; before = h.before }

  pub encodes-kept : (k m : ℕ) (se : Search) → m ≤ n → Encodes s w k m se → Encodes s w' k m se
  encodes-kept k m se le h = kept s w w' k m se (λ i lo hi. same i (omega arith)) (omega arith) h

  -- a first word and a qualified string
  string-kept : (k m a : ℕ) (q : Qualified) → m ≤ n → (get_or w k 0 ≡ a) × Encodes s w (k + 1) m (one q) → (get_or w' k 0 ≡ a) × Encodes s w' (k + 1) m (one q)
  string-kept k m a q le h =
      let f = (forward s w (k + 1) m (one q) h.1).0 in
      (same k (omega (arith, f)) ∙ h.0, encodes-kept (k + 1) m (one q) le h.1)

  -- and a second string's word
  strings-kept : (k m a : ℕ) (q : Qualified) (new : Line) → m ≤ n → TwoStringsAt s w k m a q new → TwoStringsAt s w' k m a q new
  strings-kept k m a q new le h =
      let f = (forward s w (k + 1) h.0 (one q) h.3).0 in
      (h.0, h.1, same k (omega (arith, f, h.1)) ∙ h.2, encodes-kept (k + 1) h.0 (one q) (omega (arith, h.1)) h.3, rw (same h.0 (omega (arith, h.1))) h.4)

  pub op-kept : (k m place : ℕ) (op : Op) → m ≤ n → OpAt s w k m place op → OpAt s w' k m place op
  unfolding OpAt
  op-kept k m place quit le h = one_kept k m _ le h
  op-kept k m place next_line le h = one_kept k m _ le h
  op-kept k m place previous_line le h = one_kept k m _ le h
  op-kept k m place copy le h = one_kept k m _ le h
  op-kept k m place point_start le h = one_kept k m _ le h
  op-kept k m place right le h = one_kept k m _ le h
  op-kept k m place left le h = one_kept k m _ le h
  op-kept k m place cut_byte le h = one_kept k m _ le h
  op-kept k m place (recase up) le h = one_kept k m _ le h
  op-kept k m place (move a) le h = two-kept k m _ _ le h
  op-kept k m place (delete a b) le h = (h.0, span-kept k delete_kind place a b (omega (arith, h.0)) h.1)
  op-kept k m place (replace a b ls) le h =
      (h.0, span-kept k replace_kind place a b (omega (arith, h.0)) h.1, rw (same (k + 2) (omega (arith, h.0)), same (k + 3) (omega (arith, h.0))) h.2)
  op-kept k m place (insert a ls) le (inl h) =
      inl (h.0, same k (omega (arith, h.0)) ∙ h.1, h.2, rw (same (k + 1) (omega (arith, h.0))) h.3)
  op-kept k m place (insert a ls) le (inr h) =
      inr (
        h.0,
        same k (omega (arith, h.0)) ∙ h.1,
        same (k + 1) (omega (arith, h.0)) ∙ h.2,
        rw (same (k + 2) (omega (arith, h.0)), same (k + 3) (omega (arith, h.0))) h.3,
      )
  op-kept k m place (alter c pointing q new) le h = strings-kept k m _ q new le h
  op-kept k m place (split after q) le h = string-kept k m _ q le h
  op-kept k m place (join l) le h = (h.0, same k (omega (arith, h.0)) ∙ h.1, rw (same (k + 1) (omega (arith, h.0))) h.2)
  op-kept k m place (add_global c l new) le h = strings-kept k m _ _ new le h
  op-kept k m place cancel_globals le h = one_kept k m _ le h
  op-kept k m place (name_words xs) le h = (h.0, same k (omega (arith, h.0)) ∙ h.1, same_set w' w (k + 1) (k + 1) (λ i few. same (k + 1 + i) (omega (arith, few, h.0))) ∙ h.2)
  op-kept k m place (point after q) le h = string-kept k m _ q le h
  op-kept k m place only_step le h = h
  op-kept k m place (test c) le h = h
  op-kept k m place begin le h = h
  op-kept k m place begin_back le h = h
  op-kept k m place (find se) le h = h
  op-kept k m place (find_back se) le h = h
  op-kept k m place (find_delete se c) le h = h

  pub search-kept : (k m first : ℕ) (se : Search) → m ≤ n → SearchAt s w k m first se → SearchAt s w' k m first se
  unfolding SearchAt
  search-kept k m first se le h =
      let f = (forward s w (k + 2) m se h.2).0 in
      (same k (omega (arith, f)) ∙ h.0, same (k + 1) (omega (arith, f)) ∙ h.1, encodes-kept (k + 2) m se le h.2)

  pub times-kept : (k m place all : ℕ) → m ≤ n → TimesAt s w k m place all → TimesAt s w' k m place all
  unfolding TimesAt
  times-kept k m place all le (inl h) = inl (h.0, one_kept k m _ le h.1)
  times-kept k m place all le (inr h) = inr (two-kept k m _ _ le h)

  pub opener-kept : (k m place : ℕ) (o : Opener) → m ≤ n → OpenerAt s w k m place o → OpenerAt s w' k m place o
  unfolding OpenerAt
  opener-kept k m place (times c) le h = times-kept k m place c le h
  opener-kept k m place forever le h = one_kept k m _ le h
  opener-kept k m place bare le h = one_kept k m _ le h
  opener-kept k m place (branch (is se)) le h = search-kept k m _ se le h
  opener-kept k m place (branch (is_not se)) le h = search-kept k m _ se le h
  opener-kept k m place (branch is_eof) le h = one_kept k m _ le h
  opener-kept k m place (loop (is se)) le h = search-kept k m _ se le h
  opener-kept k m place (loop (is_not se)) le h = search-kept k m _ se le h
  opener-kept k m place (loop is_eof) le h = h

  pub item-kept : (k m : ℕ) (i : Item) → m ≤ n → ItemAt s w k m i → ItemAt s w' k m i
  unfolding ItemAt
  item-kept k m (simple place op) le h = op-kept k m place op le h
  item-kept k m (seek place f se) le h = search-kept k m _ se le h
  item-kept k m (opens place o) le h = opener-kept k m place o le h
  item-kept k m line_end le h = one_kept k m _ le h
  item-kept k m bracket le h = one_kept k m _ le h
  item-kept k m close le h = one_kept k m _ le h
  item-kept k m otherwise le h = one_kept k m _ le h
  item-kept k m (leave place) le h = one_kept k m _ le h

  pub items_kept : (k : ℕ) (items : List Item) → ItemsAt s w k n items → ItemsAt s w' k n items
  unfolding ItemsAt
  items_kept k [] h = h
  items_kept k (i ∷ items) h = (h.0, item-kept k h.0 i (items-end s w h.0 n items h.2) h.1, items_kept h.0 items h.2)
