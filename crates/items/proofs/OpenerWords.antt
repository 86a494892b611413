-- What the words of an opener say: what its body does, and its count. Assumes nothing.
use mathlib.Core.Path.{◌≡◌, ◌∙◌}
use mathlib.Core.Logic.{inl, inr}
use mathlib.Core.List.{List}
use Prim.Native.Nat.{ℕ, ◌+◌, ◌<◌}
use native.Mathlib.Omega.{arith}
use lib.ListN.{get_or}
use Rattle.definitions.specs.Edit.{is, is_not, is_eof}
use Rattle.definitions.specs.Control.{Opener, times, forever, bare, branch, loop, otherwise}
use Rattle.items.specs.Kinds.{else_kind, if_kind, unless_kind, while_kind, until_kind, count_kind, repeat_kind, bare_kind, if_eof_kind, long_count_kind}
use Rattle.items.specs.Words.{head, kind_at, SearchAt, TimesAt, OpenerAt, ItemAt}
use Rattle.items.specs.Ends.{way_of, way_by, times_at}
use Rattle.items.specs.declared.openers.Way.TheVariants.{Counting, Once}
use Rattle.items.proofs.FirstWords.{head-kind, head-number}

module _ (s w : List ℕ) (k m place : ℕ) where
  pub kind-word : (kind : ℕ) → kind < 256 → get_or w k 0 ≡ head kind place → kind_at w k ≡ kind
  kind-word kind small h = head-kind (get_or w k 0) kind place 0 small (h ∙ omega arith)

  pub times_way : (n : ℕ) → TimesAt s w k m place n → way_by (kind_at w k) ≡ Counting
  unfolding TimesAt way_by
  times_way n (inl h) = rw (head-kind (get_or w k 0) count_kind place n (omega arith) h.1.1)
  times_way n (inr h) = rw (kind-word long_count_kind (omega arith) h.1)

  -- the count that is read
  pub times-back : (n : ℕ) → place < 32768 → TimesAt s w k m place n → times_at w k ≡ n
  unfolding TimesAt times_at
  times-back n small (inl h) = rw (head-kind (get_or w k 0) count_kind place n (omega arith) h.1.1) (head-number (get_or w k 0) count_kind place n (omega arith) h.1.1 small)
  times-back n small (inr h) = rw (kind-word long_count_kind (omega arith) h.1) h.2

  pub times-two : (n : ℕ) → TimesAt s w k m place n → kind_at w k ≡ long_count_kind → k + 1 < m
  unfolding TimesAt
  times-two n (inl h) e = absurd (omega (arith, e, head-kind (get_or w k 0) count_kind place n (omega arith) h.1.1))
  times-two n (inr h) e = omega (arith, h.0)

  pub opener-way : (o : Opener) → OpenerAt s w k m place o → way_by (kind_at w k) ≡ way_of o
  unfolding OpenerAt SearchAt way_by way_of
  opener-way (times n) h = times_way n h
  opener-way forever h = rw (kind-word repeat_kind (omega arith) h.1)
  opener-way bare h = rw (kind-word bare_kind (omega arith) h.1)
  opener-way (branch (is se)) h = rw (kind-word if_kind (omega arith) h.0)
  opener-way (branch (is_not se)) h = rw (kind-word unless_kind (omega arith) h.0)
  opener-way (branch is_eof) h = rw (kind-word if_eof_kind (omega arith) h.1)
  opener-way (loop (is se)) h = rw (kind-word while_kind (omega arith) h.0)
  opener-way (loop (is_not se)) h = rw (kind-word until_kind (omega arith) h.0)
  opener-way (loop is_eof) h = absurd h

  -- the group after ELSE
  pub else-way : ItemAt s w k m otherwise → way_by (kind_at w k) ≡ Once
  unfolding ItemAt way_by
  else-way h = rw (head-kind (get_or w k 0) else_kind 0 0 (omega arith) (h.1 ∙ omega arith))
