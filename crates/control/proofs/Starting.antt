-- Laws of the start of a body. Assumes nothing.
use mathlib.Core.Path.{◌≡◌, refl, sym, ap, ◌∙◌, subst}
use mathlib.Core.Logic.{inl}
use mathlib.Core.Bool.{false}
use mathlib.Core.List.{List, ◌∷◌}
use Prim.Native.Nat.{ℕ, zero, suc, ◌+◌, ◌-◌, ◌*◌, ◌%◌, ◌≤◌, ◌<◌}
use native.Mathlib.Omega.{arith}
use lib.ListN.{length, set}
use Rattle.definitions.specs.Edit.{Op, only_step, test}
use Rattle.definitions.specs.Control.{Opener, times, forever, bare, branch, loop, Item, opens, Frame, frame, Ctl, running, skipping, failing, want, want_one, body_start, pull_at, pull}
use Rattle.items.specs.Words.{kind_at, place_at, OpenerAt}
use Rattle.items.specs.Kinds.{long_count_kind}
use Rattle.items.specs.Reserve.{reserve}
use Rattle.items.specs.Ends.{place_of, way_of, way_by, times_at}
use Rattle.items.proofs.Reading.{opener-reads}
use Rattle.items.proofs.OpenerWords.{opener-way, times-back, times-two}
use Rattle.items.proofs.Keeping.{opener-kept}
use Rattle.std.specs.Prelude.{Some}
use Rattle.control.specs.declared.Mode.TheVariants.{Running, Skipping, Failing}
use Rattle.control.specs.declared.Control.TheVariants.{Items}
use Rattle.control.specs.Items.{count_of}
use Rattle.control.specs.Shown.{ItemsKept, OpenedAt, InFrames, Opening, ShowsPoint, ShowsCtl, passed, a_round, ShowsWant, ShowsNext, ShowsStep, stand_at, wanted_at, wants_at, test_by}
use Rattle.control.specs.declared.Ask.{Ask}
use Rattle.control.specs.declared.Ask.TheVariants.{Round}
use Rattle.control.specs.declared.Point.{Point}
use Rattle.control.specs.declared.Wanted.{Wanted}
use Rattle.control.specs.declared.Step.{Step}
use Rattle.control.specs.declared.Step.TheVariants.{On, Gives}
use Rattle.control.proofs.Standing.{stands-in, within_word, runs-body, words-kept, kept_less, kept-written, frames-kept, stands-kept}
use Rattle.control.proofs.Tests.{asks-branch, asks-loop}
use Rattle.items.specs.declared.openers.Way.{Way}
use Rattle.items.specs.declared.openers.Way.TheVariants.{Counting, Branching, Looping}

-- ---- answers of a step

module _ (s w : List ℕ) (end at : ℕ) (from : Ctl) (r : Step) where
  pub gives : (x : Wanted) (place : ℕ) (op : Op) (c₁ c₀ : Ctl) → pull from ≡ want place op c₁ c₀ → r ≡ Gives (Some x) → ShowsWant s w end 0 x place op c₁ c₀ → ShowsStep s w end at r from
  unfolding ShowsStep ShowsNext
  gives x place op c₁ c₀ p e h = rw (e, ShowsStep, p) h

  pub goes : (c to : Ctl) (k : Point) → r ≡ On k → pull to ≡ pull from → ShowsPoint s w end k to → at < k.at → ShowsStep s w end at r from
  unfolding ShowsStep
  goes c to k e p h further = rw e (record { to = to; shows = h; same = p; further = further })

-- where the run stands among the items, as a control
pub items-shown : (s w : List ℕ) (end : ℕ) (y : Point) (c : Ctl) → ShowsPoint s w end y c → ShowsCtl s w end (Items y) c
unfolding ShowsCtl
items-shown s w end y c h = h

-- no search passes lines there
pub none-passed : (y : Point) (n : ℕ) → passed (Items y) ≤ n
unfolding passed
none-passed y n = omega arith

pub shows-as : (s w : List ℕ) (end : ℕ) (y k : Point) (c : Ctl) → y ≡ k → ShowsPoint s w end k c → ShowsPoint s w end y c
shows-as s w end y k c e h = subst (λ x. ShowsPoint s w end x c) (sym e) h

-- ---- the start of a body

module _ (s w : List ℕ) (end at next depth place : ℕ) (o : Opener) (items : List Item) (frames : List Frame) (h : Opening s w end at next depth place o items frames) where
  pub opening-in : (at < next) × (next ≤ end) × (end ≤ 65536) × (end + (depth + 1) + reserve ≤ length w)
  opening-in =
      let i = stands-in s w end next (depth + 1) items h.rest.stands in
      ((opener-reads s w at next place o h.opener).further, i.0, i.1, i.2)

  pub opening-place : place_at w at ≡ place
  unfolding place_of
  opening-place = (opener-reads s w at next place o h.opener).place h.small

pub opening-two : (s w : List ℕ) (end at next depth place : ℕ) (o : Opener) (items : List Item) (frames : List Frame) → Opening s w end at next depth place o items frames
    → way_by (kind_at w at) ≡ Counting → kind_at w at ≡ long_count_kind → at + 1 < length w
unfolding OpenerAt way_of
opening-two s w end at next depth place (times n) items frames h few long =
    omega (arith, opening-in s w end at next depth place (times n) items frames h, times-two s w at next place n h.opener long)
opening-two s w end at next depth place other items frames h few long = absurd (cc (few, opener-way s w at next place other h.opener))

-- a count is below 65,536
pub opening-few : (s w : List ℕ) (end at next depth place : ℕ) (o : Opener) (items : List Item) (frames : List Frame) → Opening s w end at next depth place o items frames
    → way_by (kind_at w at) ≡ Counting → (n : ℕ) → n ≡ times_at w at → n < 65536
unfolding OpenerAt way_of count_of
opening-few s w end at next depth place (times all) items frames h few n times-are =
    omega (arith, h.few, times-are, times-back s w at next place all h.small h.opener)
opening-few s w end at next depth place other items frames h few n times-are = absurd (cc (few, opener-way s w at next place other h.opener))

module _ (w : List ℕ) (end at next depth kind : ℕ) (way : Way) (kind-is : kind ≡ kind_at w at) (way-is : way ≡ way_by kind) (r : Step) (s : List ℕ) (place : ℕ) where
  -- what the body does
  does : (o : Opener) (items : List Item) (frames : List Frame) → Opening s w end at next depth place o items frames → way ≡ way_of o
  does o items frames h = way-is ∙ ap way_by kind-is ∙ opener-way s w at next place o h.opener

  -- a count of no rounds
  pub start_none : (n : ℕ) → n ≡ times_at w at → n ≡ 0 → way ≡ Counting → (k : Point) → k ≡ stand_at (Skipping 1) next depth → r ≡ On k
      → (o : Opener) (items : List Item) (frames : List Frame) → Opening s w end at next depth place o items frames → ShowsStep s w end at r (running (opens place o ∷ items) frames)
  unfolding OpenerAt way_of ShowsPoint pull pull_at body_start
  start_none n times-are none few k k-is e (times zero) items frames h =
      goes s w end at (running (opens place (times zero) ∷ items) frames) r (running items frames) (skipping 1 items frames) (stand_at (Skipping 1) next depth) (e ∙ ap On k-is) refl
      (refl, omega arith, h.rest) (opening-in s w end at next depth place (times zero) items frames h).0
  start_none n times-are none few k k-is e (times (suc all)) items frames h =
      absurd (omega (arith, none, times-are, times-back s w at next place (suc all) h.small h.opener))
  start_none n times-are none few k k-is e other items frames h = absurd (cc (few, does other items frames h))

  module _ (w' : List ℕ) (left : ℕ) (pushed : w' ≡ set w (end + depth) (at + 65536 * left)) (p : ℕ) (p-is : p ≡ place_at w at) (y : Point)
      (y-is : y ≡ stand_at Running next (depth + 1)) where
    -- the body runs
    starts : (o o' : Opener) (items : List Item) (frames : List Frame) → Opening s w end at next depth place o items frames → OpenedAt s w at next place o' left
        → ShowsPoint s w' end y (running items (frame false place o' items ∷ frames))
    unfolding ShowsPoint
    starts o o' items frames h opened =
        shows-as s w' end y (stand_at Running next (depth + 1)) (running items (frame false place o' items ∷ frames)) y-is (
          refl,
          runs-body s w' end next (depth + 1) items false place o' frames (inl refl)
              (within_word s w end frames w' depth at next left place o' items pushed (omega (arith, opening-in s w end at next depth place o items frames h)) h.small opened h.rest),
        )

    a-round-starts : (o o' : Opener) (items : List Item) (frames : List Frame) → Opening s w end at next depth place o items frames → OpenedAt s w at next place o' left
        → pull (running (opens place o ∷ items) frames) ≡ want place only_step (running items (frame false place o' items ∷ frames)) (running items (frame false place o' items ∷ frames))
        → r ≡ wants_at Round p at y y → ShowsStep s w' end at r (running (opens place o ∷ items) frames)
    a-round-starts o o' items frames h opened pulls e =
        let sh = starts o o' items frames h opened in
        gives s w' end at (running (opens place o ∷ items) frames) r (wanted_at Round p at (Items y) (Items y)) place only_step (running items (frame false place o' items ∷ frames))
        (running items (frame false place o' items ∷ frames)) pulls e (record {
          at_place = p-is ∙ opening-place s w end at next depth place o items frames h;
          asks = a_round refl;
          yes_shows = items-shown _ _ _ _ _ sh;
          no_shows = items-shown _ _ _ _ _ sh;
          few = omega arith;
          yes_few = none-passed _ _;
          no_few = none-passed _ _;
        })

    -- a count
    pub start-times : (n : ℕ) → n ≡ times_at w at → (n ≡ 0 → ⊥) → left ≡ n - 1 → way ≡ Counting → r ≡ wants_at Round p at y y
        → (o : Opener) (items : List Item) (frames : List Frame) → Opening s w end at next depth place o items frames → ShowsStep s w' end at r (running (opens place o ∷ items) frames)
    unfolding OpenerAt OpenedAt way_of pull pull_at body_start want_one
    start-times n times-are some left_is few e (times zero) items frames h =
        absurd (some (times-are ∙ times-back s w at next place 0 h.small h.opener))
    start-times n times-are some left_is few e (times (suc all)) items frames h =
        a-round-starts (times (suc all)) (times all) items frames h
        ((suc all, h.opener), omega (arith, left_is, times-are, times-back s w at next place (suc all) h.small h.opener)) refl e
    start-times n times-are some left_is few e other items frames h = absurd (cc (few, does other items frames h))

    -- RPT, or a bare group
    pub start-round : (way ≡ Counting → ⊥) → (way ≡ Branching → ⊥) → (way ≡ Looping → ⊥) → r ≡ wants_at Round p at y y
        → (o : Opener) (items : List Item) (frames : List Frame) → Opening s w end at next depth place o items frames → ShowsStep s w' end at r (running (opens place o ∷ items) frames)
    unfolding OpenerAt OpenedAt way_of pull pull_at body_start want_one
    start-round a b c e (times n) items frames h = absurd (a (does (times n) items frames h))
    start-round a b c e forever items frames h = a-round-starts forever forever items frames h h.opener refl e
    start-round a b c e bare items frames h = a-round-starts bare bare items frames h (inl h.opener) refl e
    start-round a b c e (branch d) items frames h = absurd (b (does (branch d) items frames h))
    start-round a b c e (loop d) items frames h = absurd (c (does (loop d) items frames h))

    module _ (what : Ask) (n : Point) (e : r ≡ wants_at what p at y n) where
      -- the words of the opener, and of what is not in the body, stay
      opener-stays : (o : Opener) (items : List Item) (frames : List Frame) → Opening s w end at next depth place o items frames → OpenerAt s w' at next place o
      opener-stays o items frames h =
          let i = opening-in s w end at next depth place o items frames h in
          let ke : ItemsKept w w' end = kept-written w w' end (end + depth) (at + 65536 * left) pushed (omega arith) (omega (arith, i)) in
          opener-kept s w w' end ke.same (omega (arith, i, ke.as_long)) at next place o i.1 h.opener

      rest-stays : (o : Opener) (items : List Item) (frames : List Frame) → Opening s w end at next depth place o items frames → InFrames s w' end next depth (depth + 1) items frames
      rest-stays o items frames h =
          let i = opening-in s w end at next depth place o items frames h in
          let ke : ItemsKept w w' (end + depth) = kept-written w w' (end + depth) (end + depth) (at + 65536 * left) pushed (omega arith) (omega (arith, i)) in
          record {
            stands = stands-kept s w end w' (words-kept w w' end (kept_less w w' (end + depth) end (omega arith) ke)) next (depth + 1) items h.rest.stands;
            framed = frames-kept s w w' end (end + depth) (words-kept w w' (end + depth) ke) (omega (arith, i)) frames (omega (arith, h.rest.deep)) h.rest.framed;
            deep = h.rest.deep;
          }

      kind-stays : (o : Opener) (items : List Item) (frames : List Frame) → Opening s w end at next depth place o items frames → kind_at w' at ≡ kind
      kind-stays o items frames h =
          let i = opening-in s w end at next depth place o items frames h in
          ap (λ (x : ℕ). x % 256) ((kept-written w w' end (end + depth) (at + 65536 * left) pushed (omega arith) (omega (arith, i))).same at (omega (arith, i))) ∙ sym kind-is

      -- IF, UL, IFEOF
      pub start-branch : way ≡ Branching → what ≡ test_by kind → n ≡ stand_at (Failing 1) next depth
          → (o : Opener) (items : List Item) (frames : List Frame) → Opening s w end at next depth place o items frames → ShowsStep s w' end at r (running (opens place o ∷ items) frames)
      unfolding OpenedAt way_of ShowsPoint pull pull_at body_start
      start-branch low what-is n-is (branch c) items frames h =
          gives s w' end at (running (opens place (branch c) ∷ items) frames) r (wanted_at what p at (Items y) (Items n)) place (test c)
          (running items (frame false place (branch c) items ∷ frames)) (failing 1 items frames) refl e (record {
            at_place = p-is ∙ opening-place s w end at next depth place (branch c) items frames h;
            asks = asks-branch s w' at next place (wanted_at what p at (Items y) (Items n)) refl c (what-is ∙ ap test_by (sym (kind-stays (branch c) items frames h)))
                (opener-stays (branch c) items frames h);
            yes_shows = items-shown _ _ _ _ _ (starts (branch c) (branch c) items frames h h.opener);
            no_shows = items-shown _ _ _ _ _ (shows-as s w' end n (stand_at (Failing 1) next depth) (failing 1 items frames) n-is (refl, omega arith, rest-stays (branch c) items frames h));
            few = omega arith;
            yes_few = none-passed _ _;
            no_few = none-passed _ _;
          })
      start-branch low what-is n-is other items frames h = absurd (cc (low, does other items frames h))

      -- WH, UT
      pub start_loop : way ≡ Looping → what ≡ test_by kind → n ≡ stand_at (Skipping 1) next depth
          → (o : Opener) (items : List Item) (frames : List Frame) → Opening s w end at next depth place o items frames → ShowsStep s w' end at r (running (opens place o ∷ items) frames)
      unfolding OpenedAt way_of ShowsPoint pull pull_at body_start
      start_loop low what-is n-is (loop c) items frames h =
          gives s w' end at (running (opens place (loop c) ∷ items) frames) r (wanted_at what p at (Items y) (Items n)) place (test c)
          (running items (frame false place (loop c) items ∷ frames)) (skipping 1 items frames) refl e (record {
            at_place = p-is ∙ opening-place s w end at next depth place (loop c) items frames h;
            asks = asks-loop s w' at next place (wanted_at what p at (Items y) (Items n)) refl c (what-is ∙ ap test_by (sym (kind-stays (loop c) items frames h)))
                (opener-stays (loop c) items frames h);
            yes_shows = items-shown _ _ _ _ _ (starts (loop c) (loop c) items frames h h.opener);
            no_shows = items-shown _ _ _ _ _ (shows-as s w' end n (stand_at (Skipping 1) next depth) (skipping 1 items frames) n-is (refl, omega arith, rest-stays (loop c) items frames h));
            few = omega arith;
            yes_few = none-passed _ _;
            no_few = none-passed _ _;
          })
      start_loop low what-is n-is other items frames h = absurd (cc (low, does other items frames h))
