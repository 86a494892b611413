-- Laws of a body that runs again. Assumes nothing.
use mathlib.Core.Path.{◌≡◌, refl, sym, ap, ◌∙◌, subst}
use mathlib.Core.Logic.{inr}
use mathlib.Core.Bool.{Bool}
use mathlib.Core.List.{List, ◌∷◌}
use Prim.Native.Nat.{ℕ, zero, suc, ◌+◌, ◌-◌, ◌*◌, ◌/◌, ◌%◌}
use native.Mathlib.Omega.{arith}
use lib.ListN.{length, get_or, set}
use Rattle.definitions.specs.Edit.{only_step, test}
use Rattle.definitions.specs.Control.{Opener, times, forever, loop, Item, close, Frame, frame, running, want_one, body_end, pull_at, pull}
use Rattle.items.specs.Words.{kind_at, place_at}
use Rattle.items.specs.Ends.{end_by, way_of, way_by}
use Rattle.control.specs.declared.Mode.TheVariants.{Running}
use Rattle.control.specs.declared.Control.TheVariants.{Items}
use Rattle.control.specs.Items.{starts_group}
use Rattle.control.specs.Shown.{OpenedAt, InFrames, Closing, ShowsPoint, a_round, ShowsStep, stand_at, wanted_at, wants_at, test_by}
use Rattle.control.specs.declared.Ask.{Ask}
use Rattle.control.specs.declared.Ask.TheVariants.{Round}
use Rattle.control.specs.declared.Point.{Point}
use Rattle.control.specs.declared.Step.{Step}
use Rattle.control.specs.declared.Step.TheVariants.{On}
use Rattle.control.proofs.Standing.{stands-less, within_word, runs-body}
use Rattle.control.proofs.Tests.{asks-loop}
use Rattle.control.proofs.Starting.{gives, items-shown, none-passed, shows-as}
use Rattle.control.proofs.Ending.{OpenerSays, ends-once, ends-zero, frame-says, closing-item, closing-left, words-at, out-shows, again-shows, end-out}
use Rattle.items.specs.declared.openers.Way.{Way}
use Rattle.items.specs.declared.openers.Way.TheVariants.{Counting, Repeating, Looping}

-- the body stands in its word with one round fewer
fewer-shows : (s w : List ℕ) (end at next depth : ℕ) (items : List Item) (g : Bool) (place n word : ℕ) (body : List Item) (frames : List Frame)
    (h : Closing s w end at next depth items g place (times (suc n)) body frames) → word ≡ get_or w (end + (depth - 1)) 0
    → (w' : List ℕ) → w' ≡ set w (end + (depth - 1)) (word - 65536) → (y : Point) → y ≡ stand_at Running h.top.start depth
    → ShowsPoint s w' end y (running body (frame g place (times n) body ∷ frames))
unfolding ShowsPoint OpenedAt
fewer-shows s w end at next depth items g place n word body frames h word_is w' written y y-is =
    shows-as s w' end y (stand_at Running h.top.start depth) (running body (frame g place (times n) body ∷ frames)) y-is
    (refl, runs-body s w' end h.top.start depth body g place (times n) frames (inr h.top.group) stood)
  where
    word-now : word ≡ h.top.item + 65536 * h.top.left
    word-now = word_is ∙ ap (λ (x : ℕ). get_or w x 0) (words-at s w end at next depth items g place (times (suc n)) body frames h) ∙ h.top.word

    written_as : w' ≡ set w (end + (depth - 1)) (h.top.item + 65536 * n)
    written_as = written ∙ ap (λ (x : ℕ). set w (end + (depth - 1)) x) (omega (arith, word-now, h.top.opened.1))

    below : InFrames s w end h.top.start (depth - 1) (depth - 1 + 1) body frames
    below = record {
      stands = stands-less s w end h.top.start (length frames + 1) (depth - 1 + 1) body (omega (arith, h.deep)) h.top.stands;
      framed = h.framed;
      deep = omega (arith, h.deep);
    }

    stood : InFrames s w' end h.top.start depth depth body (frame (starts_group body) place (times n) body ∷ frames)
    stood =
        subst (λ (x : ℕ). InFrames s w' end h.top.start x x body (frame (starts_group body) place (times n) body ∷ frames)) (omega (arith, h.deep))
        (within_word s w end frames w' (depth - 1) h.top.item h.top.start n place (times n) body written_as h.top.before h.top.small (h.top.opened.0, refl) below)

module _ (w : List ℕ) (end next depth word item kind : ℕ) (way : Way) (word_is : word ≡ get_or w (end + (depth - 1)) 0) (item-is : item ≡ word % 65536) (kind-is : kind ≡ kind_at w item) (way-is : way ≡ way_by kind)
    (r : Step) (s : List ℕ) (at : ℕ) (items : List Item) (g : Bool) (place : ℕ) where
  module _ (o : Opener) (body : List Item) (frames : List Frame) (h : Closing s w end at next depth items g place o body frames) where
    item-top : item ≡ h.top.item
    item-top = item-is ∙ ap (λ (x : ℕ). x % 65536) word_is ∙ closing-item s w end at next depth items g place o body frames h

    left-top : (left : ℕ) → left ≡ word / 65536 → left ≡ h.top.left
    left-top left e = e ∙ ap (λ (x : ℕ). x / 65536) word_is ∙ closing-left s w end at next depth items g place o body frames h

    top-kind : kind_at w h.top.item ≡ kind
    top-kind = sym (kind-is ∙ ap (kind_at w) item-top)

    top-says : OpenerSays w h.top.item h.top.start place o
    top-says = frame-says s w end (end + length frames) (length frames + 1) g place o body h.top

    -- what the body does
    top-way : way ≡ way_of o
    top-way = way-is ∙ ap way_by (sym top-kind) ∙ top-says.way

  -- the body ends
  module _ (out : Point) (out-is : out ≡ stand_at Running next (depth - 1)) (er : r ≡ On out) (o : Opener) (body : List Item) (frames : List Frame)
      (h : Closing s w end at next depth items g place o body frames) where
    pub end-once : (way ≡ Counting → ⊥) → (way ≡ Repeating → ⊥) → (way ≡ Looping → ⊥) → ShowsStep s w end at r (running (close ∷ items) (frame g place o body ∷ frames))
    end-once a b c = end-out s w end at next depth items g place o body frames h r out out-is er (ends-once o way (top-way o body frames h) a b c)

    pub end-last : way ≡ Counting → (left : ℕ) → left ≡ word / 65536 → left ≡ 0 → ShowsStep s w end at r (running (close ∷ items) (frame g place o body ∷ frames))
    end-last few left left_is none =
        end-out s w end at next depth items g place o body frames h r out out-is er
        (ends-zero s w h.top.item h.top.start place o h.top.left h.top.opened (sym (top-way o body frames h) ∙ few)
        (sym (left-top o body frames h left left_is) ∙ none))

  module _ (start : ℕ) (start_is : start ≡ end_by w item kind) (y : Point) (y-is : y ≡ stand_at Running start depth) (p : ℕ) (p-is : p ≡ place_at w item) where
    module _ (o : Opener) (body : List Item) (frames : List Frame) (h : Closing s w end at next depth items g place o body frames) where
      y-again : y ≡ stand_at Running h.top.start depth
      y-again =
          y-is ∙ ap (λ (x : ℕ). stand_at Running x depth)
          (start_is ∙ ap (end_by w item) (sym (top-kind o body frames h)) ∙ ap (λ (x : ℕ). end_by w x (kind_at w h.top.item)) (item-top o body frames h) ∙ (top-says o body frames h).ends)

      p-place : p ≡ place
      p-place = p-is ∙ ap (place_at w) (item-top o body frames h) ∙ (top-says o body frames h).at h.top.small

    -- RPT goes round
    pub again-forever : way ≡ Repeating → r ≡ wants_at Round p item y y → (o : Opener) (body : List Item) (frames : List Frame) → Closing s w end at next depth items g place o body frames
        → ShowsStep s w end at r (running (close ∷ items) (frame g place o body ∷ frames))
    unfolding way_of pull pull_at body_end want_one
    again-forever does er forever body frames h =
        let sh = again-shows s w end at next depth items g place forever body frames h y (y-again forever body frames h) in
        gives s w end at (running (close ∷ items) (frame g place forever body ∷ frames)) r (wanted_at Round p item (Items y) (Items y)) place only_step (running body (frame g place forever body ∷ frames))
        (running body (frame g place forever body ∷ frames)) refl er (record {
          at_place = p-place forever body frames h;
          asks = a_round refl;
          yes_shows = items-shown _ _ _ _ _ sh;
          no_shows = items-shown _ _ _ _ _ sh;
          few = omega arith;
          yes_few = none-passed _ _;
          no_few = none-passed _ _;
        })
    again-forever does er other body frames h = absurd (cc (does, top-way other body frames h))

    -- a test of WH or UT
    pub again-loop : way ≡ Looping → (what : Ask) → what ≡ test_by kind → (out : Point) → out ≡ stand_at Running next (depth - 1) → r ≡ wants_at what p item y out
        → (o : Opener) (body : List Item) (frames : List Frame) → Closing s w end at next depth items g place o body frames
        → ShowsStep s w end at r (running (close ∷ items) (frame g place o body ∷ frames))
    unfolding way_of OpenedAt pull pull_at body_end
    again-loop does what what-is out out-is er (loop c) body frames h =
        gives s w end at (running (close ∷ items) (frame g place (loop c) body ∷ frames)) r (wanted_at what p item (Items y) (Items out)) place (test c) (running body (frame g place (loop c) body ∷ frames))
        (running items frames) refl er (record {
          at_place = p-place (loop c) body frames h;
          asks = asks-loop s w h.top.item h.top.start place (wanted_at what p item (Items y) (Items out)) (item-top (loop c) body frames h) c
              (what-is ∙ ap test_by (sym (top-kind (loop c) body frames h))) h.top.opened;
          yes_shows = items-shown _ _ _ _ _ (again-shows s w end at next depth items g place (loop c) body frames h y (y-again (loop c) body frames h));
          no_shows = items-shown _ _ _ _ _ (out-shows s w end at next depth items g place (loop c) body frames h out out-is);
          few = omega arith;
          yes_few = none-passed _ _;
          no_few = none-passed _ _;
        })
    again-loop does what what-is out out-is er other body frames h = absurd (cc (does, top-way other body frames h))

    -- a count goes round
    pub again-times : way ≡ Counting → (left : ℕ) → left ≡ word / 65536 → (left ≡ 0 → ⊥) → (w' : List ℕ) → w' ≡ set w (end + (depth - 1)) (word - 65536)
        → r ≡ wants_at Round p item y y → (o : Opener) (body : List Item) (frames : List Frame) → Closing s w end at next depth items g place o body frames
        → ShowsStep s w' end at r (running (close ∷ items) (frame g place o body ∷ frames))
    unfolding way_of OpenedAt pull pull_at body_end want_one
    again-times does left left_is some w' written er (times zero) body frames h =
        absurd (some (left-top (times zero) body frames h left left_is ∙ h.top.opened.1))
    again-times does left left_is some w' written er (times (suc n)) body frames h =
        let sh = fewer-shows s w end at next depth items g place n word body frames h word_is w' written y (y-again (times (suc n)) body frames h) in
        gives s w' end at (running (close ∷ items) (frame g place (times (suc n)) body ∷ frames)) r (wanted_at Round p item (Items y) (Items y)) place only_step (running body (frame g place (times n) body ∷ frames))
        (running body (frame g place (times n) body ∷ frames)) refl er (record {
          at_place = p-place (times (suc n)) body frames h;
          asks = a_round refl;
          yes_shows = items-shown _ _ _ _ _ sh;
          no_shows = items-shown _ _ _ _ _ sh;
          few = omega arith;
          yes_few = none-passed _ _;
          no_few = none-passed _ _;
        })
    again-times does left left_is some w' written er other body frames h = absurd (cc (does, top-way other body frames h))
