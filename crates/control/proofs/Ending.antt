-- Laws of the end of a body. Assumes nothing.
use mathlib.Core.Path.{◌≡◌, refl, sym, ap, ◌∙◌, subst}
use mathlib.Core.Logic.{inl, inr}
use mathlib.Core.Bool.{Bool, false}
use mathlib.Core.List.{List, ◌∷◌}
use Prim.Native.Nat.{ℕ, zero, suc, ◌+◌, ◌-◌, ◌/◌, ◌%◌, ◌≤◌, ◌<◌}
use native.Mathlib.Omega.{arith}
use lib.ListN.{length, get_or}
use Rattle.definitions.specs.Control.{Opener, times, forever, bare, branch, loop, Item, opens, close, otherwise, Frame, frame, running, body_end, pull_at, pull}
use Rattle.items.specs.Words.{kind_at, place_at, OpenerAt}
use Rattle.items.specs.Reserve.{reserve}
use Rattle.items.specs.Kinds.{shape_of}
use Rattle.items.specs.Ends.{place_of, is_one_word, end_by, way_of, way_by}
use Rattle.items.proofs.Reading.{ReadsBack, item-reads, opener-reads, times-reads}
use Rattle.items.proofs.OpenerWords.{times_way, opener-way, else-way}
use Rattle.control.specs.declared.Mode.TheVariants.{Running}
use Rattle.control.specs.Items.{starts_group}
use Rattle.control.specs.Shown.{OpenedAt, FrameAt, FramesAt, InFrames, Closing, ShowsPoint, ShowsStep, stand_at}
use Rattle.control.specs.declared.Point.{Point}
use Rattle.control.specs.declared.Step.{Step}
use Rattle.control.specs.declared.Step.TheVariants.{On}
use Rattle.control.proofs.Standing.{stands-in, stands-less, runs_past, runs-body}
use Rattle.control.proofs.Starting.{goes, shows-as}
use Rattle.items.specs.declared.openers.Way.{Way}
use Rattle.items.specs.declared.openers.Way.TheVariants.{Counting, Repeating, Looping}

-- ---- the opener of a body

-- what its words say; ELSE opens the body after it
pub record OpenerSays (w : List ℕ) (k m place : ℕ) (o : Opener) : Type 0 where
  pub way : way_by (kind_at w k) ≡ way_of o
  pub ends : end_by w k (kind_at w k) ≡ m
  pub long : is_one_word (shape_of (kind_at w k)) ≡ false → k + 1 < m
  pub at : place < 32768 → place_at w k ≡ place

module _ (s w : List ℕ) (k m place : ℕ) where
  says : (o : Opener) → way_by (kind_at w k) ≡ way_of o → (p : Opener) → ReadsBack w k m (opens place p) → OpenerSays w k m place o
  unfolding place_of
  says o way p h = record { way = way; ends = h.ends; long = h.long; at = h.place }

  pub opened-says : (o : Opener) (left : ℕ) → OpenedAt s w k m place o left → OpenerSays w k m place o
  unfolding OpenedAt OpenerAt way_of place_of
  opened-says (times n) left h = says (times n) (times_way s w k m place h.0.0 h.0.1) (times n) (times-reads s w k m place n h.0.0 h.0.1)
  opened-says forever left h = says forever (opener-way s w k m place forever h) forever (opener-reads s w k m place forever h)
  opened-says bare left (inl h) = says bare (opener-way s w k m place bare h) bare (opener-reads s w k m place bare h)
  opened-says bare left (inr h) =
      let r = item-reads s w k m otherwise h.0 in
      record { way = else-way s w k m place h.0; ends = r.ends; long = r.long; at = λ small. r.place (omega arith) ∙ sym h.1 }
  opened-says (branch c) left h = says (branch c) (opener-way s w k m place (branch c) h) (branch c) (opener-reads s w k m place (branch c) h)
  opened-says (loop c) left h = says (loop c) (opener-way s w k m place (loop c) h) (loop c) (opener-reads s w k m place (loop c) h)

-- a body that does not run again
unfoldable pub Ends : Opener → Type 0
Ends (times n) = n ≡ 0
Ends forever = ⊥
Ends bare = Unit {0}
Ends (branch c) = Unit {0}
Ends (loop c) = ⊥

pub ends-once : (o : Opener) (way : Way) → way ≡ way_of o → (way ≡ Counting → ⊥) → (way ≡ Repeating → ⊥) → (way ≡ Looping → ⊥) → Ends o
unfolding way_of Ends
ends-once (times n) way h a b c = absurd (a h)
ends-once forever way h a b c = absurd (b h)
ends-once bare way h a b c = tt
ends-once (branch d) way h a b c = tt
ends-once (loop d) way h a b c = absurd (c h)

pub ends-zero : (s w : List ℕ) (k m place : ℕ) (o : Opener) (left : ℕ) → OpenedAt s w k m place o left → way_of o ≡ Counting → left ≡ 0 → Ends o
unfolding OpenedAt Ends way_of
ends-zero s w k m place (times n) left h few none = omega (arith, h.1, none)
ends-zero s w k m place bare left h few none = tt
ends-zero s w k m place (branch c) left h few none = tt
ends-zero s w k m place other left h few none = absurd (cc (few))

pull-ends : (o : Opener) (g : Bool) (place : ℕ) (body items : List Item) (frames : List Frame) → Ends o
    → pull (running items frames) ≡ pull (running (close ∷ items) (frame g place o body ∷ frames))
unfolding Ends pull pull_at body_end
pull-ends (times zero) g place body items frames h = refl
pull-ends (times (suc n)) g place body items frames h = absurd (omega (arith, h))
pull-ends forever g place body items frames h = absurd h
pull-ends bare g place body items frames h = refl
pull-ends (branch c) g place body items frames h = refl
pull-ends (loop c) g place body items frames h = absurd h

-- ---- what the word of a body says

module _ (s w : List ℕ) (end j d : ℕ) (g : Bool) (place : ℕ) (o : Opener) (body : List Item) (h : FrameAt s w end j d g place o body) where
  pub frame-in : (h.item < end) × (h.start ≤ end) × (end ≤ 65536) × (end + d + reserve ≤ length w)
  frame-in = let i = stands-in s w end h.start d body h.stands in (h.before, i.0, i.1, i.2)

  pub frame-item : get_or w j 0 % 65536 ≡ h.item
  frame-item = ap (λ (x : ℕ). x % 65536) h.word ∙ omega (arith, frame-in)

  pub frame-left : get_or w j 0 / 65536 ≡ h.left
  frame-left = ap (λ (x : ℕ). x / 65536) h.word ∙ omega (arith, frame-in)

  -- what is said of its opener
  pub frame-says : OpenerSays w h.item h.start place o
  frame-says = opened-says s w h.item h.start place o h.left h.opened

  -- the opener lies in the words
  pub item_in : get_or w j 0 % 65536 < length w
  item_in = omega (arith, frame-in, frame-item)

  pub item-two : (kind : ℕ) → kind ≡ kind_at w (get_or w j 0 % 65536) → is_one_word (shape_of kind) ≡ false → get_or w j 0 % 65536 + 1 < length w
  item-two kind kind-is more =
      let k : kind ≡ kind_at w h.item = kind-is ∙ ap (kind_at w) frame-item in
      omega (arith, frame-item, frame-in, frame-says.long (ap (λ (x : ℕ). is_one_word (shape_of x)) (sym k) ∙ more))

-- ---- the innermost body

module _ (s w : List ℕ) (end at next depth : ℕ) (items : List Item) (g : Bool) (place : ℕ) (o : Opener) (body : List Item) (frames : List Frame)
    (h : Closing s w end at next depth items g place o body frames) where
  pub closing-in : (0 < depth) × (next ≤ end) × (end ≤ 65536) × (end + depth + reserve ≤ length w)
  closing-in =
      let i = frame-in s w end (end + length frames) (length frames + 1) g place o body h.top in
      (omega (arith, h.deep), (stands-in s w end next (depth - 1) items h.rest).0, i.2, omega (arith, i.3, h.deep))

  pub words-at : end + (depth - 1) ≡ end + length frames
  words-at = omega (arith, h.deep)

  pub closing-top : FrameAt s w end (end + (depth - 1)) (length frames + 1) g place o body
  closing-top = subst (λ (x : ℕ). FrameAt s w end x (length frames + 1) g place o body) (sym words-at) h.top

  pub closing-item : get_or w (end + (depth - 1)) 0 % 65536 ≡ h.top.item
  closing-item = ap (λ (x : ℕ). get_or w x 0 % 65536) words-at ∙ frame-item s w end (end + length frames) (length frames + 1) g place o body h.top

  pub closing-left : get_or w (end + (depth - 1)) 0 / 65536 ≡ h.top.left
  closing-left = ap (λ (x : ℕ). get_or w x 0 / 65536) words-at ∙ frame-left s w end (end + length frames) (length frames + 1) g place o body h.top

  -- out of the body
  pub out-shows : (k : Point) → k ≡ stand_at Running next (depth - 1) → ShowsPoint s w end k (running items frames)
  unfolding ShowsPoint
  out-shows k e =
      shows-as s w end k (stand_at Running next (depth - 1)) (running items frames) e
      (refl, runs_past s w end next (depth - 1) items h.past frames (record { stands = h.rest; framed = h.framed; deep = omega (arith, h.deep) }))

  -- the body once more
  pub body-within : InFrames s w end h.top.start depth depth body (frame (starts_group body) place o body ∷ frames)
  unfolding FramesAt
  body-within =
      record {
        stands = stands-less s w end h.top.start (length frames + 1) depth body (omega (arith, h.deep)) h.top.stands;
        framed = (subst (λ (b : Bool). FrameAt s w end (end + length frames) (length frames + 1) b place o body) h.top.group h.top, h.framed);
        deep = omega (arith, h.deep);
      }

  pub again-shows : (k : Point) → k ≡ stand_at Running h.top.start depth → ShowsPoint s w end k (running body (frame g place o body ∷ frames))
  unfolding ShowsPoint
  again-shows k e =
      shows-as s w end k (stand_at Running h.top.start depth) (running body (frame g place o body ∷ frames)) e
      (refl, runs-body s w end h.top.start depth body g place o frames (inr h.top.group) body-within)

  pub end-out : (r : Step) (k : Point) → k ≡ stand_at Running next (depth - 1) → r ≡ On k → Ends o → ShowsStep s w end at r (running (close ∷ items) (frame g place o body ∷ frames))
  end-out r k e er ends =
      goes s w end at (running (close ∷ items) (frame g place o body ∷ frames)) r (running items frames) (running items frames) k er
      (pull-ends o g place body items frames ends) (out-shows k e) (rw e h.less)
