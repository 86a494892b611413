-- Laws of where an item leads by the words alone. Assumes nothing.
use mathlib.Core.Path.{◌≡◌, refl, sym, ap, ◌∙◌}
use mathlib.Core.Bool.{Bool, true, false}
use mathlib.Core.List.{List}
use Prim.Native.Nat.{ℕ, suc, ◌+◌, ◌-◌, ◌*◌, ◌/◌, ◌%◌, ◌≤◌, ◌<◌}
use native.Mathlib.Omega.{arith}
use lib.ListN.{get_or, set}
use lib.Dec.{eqb}
use borrow.Author.Tests.{ne_eqb, le-leb, lt-leb}
use Rattle.items.specs.Kinds.{bracket_kind}
use Rattle.items.specs.Words.{kind_at, place_at}
use Rattle.items.specs.Ends.{end_by, way_by, times_at, seen_at}
use Rattle.items.specs.declared.ends.Seen.{Seen}
use Rattle.std.specs.Prelude.{None}
use Rattle.control.specs.declared.Mode.TheVariants.{Running, Skipping, Failing, Leaving}
use Rattle.control.specs.declared.Control.TheVariants.{Items, Seeking}
use Rattle.control.specs.declared.Ask.{Ask}
use Rattle.control.specs.declared.Ask.TheVariants.{Round, Command}
use Rattle.control.specs.declared.Point.{Point}
use Rattle.control.specs.declared.Step.{Step}
use Rattle.control.specs.declared.Step.TheVariants.{On, Gives}
use Rattle.control.specs.Shown.{stand_at, wants_at, test_by, look_by, begin_at}
use Rattle.control.specs.Moves.{Is, skip_in, skip_to, fail_in, fail_to, line_in, line_to, group_at, leave_by, open_in, open_by, close_in, close_by, run_in, run_by, step_in, step_by, look_at}
use Rattle.items.specs.declared.ends.Class.{Class}
use Rattle.items.specs.declared.ends.Class.TheVariants.{LineEnd, Bracket, Close, Else, Agp, Simple, Seeks, Opens}
use Rattle.items.specs.declared.openers.Way.{Way}
use Rattle.items.specs.declared.openers.Way.TheVariants.{Counting, Repeating, Branching, Looping}

-- an answer, and the words then, are those of a definition
pub is-as : {A : Type 0} (x : A × List ℕ) (a r : A) (v w' : List ℕ) → x ≡ (a, v) → r ≡ a → w' ≡ v → Is x r w'
is-as x a r v w' q p s = rw q (p, s)

pub is_same : {A : Type 0} (x y : A × List ℕ) (r : A) (w' : List ℕ) → x ≡ y → Is y r w' → Is x r w'
is_same x y r w' q h = rw q h

pub is-pair : {A : Type 0} (x : A × List ℕ) (r : A) (w' : List ℕ) → Is x r w' → x ≡ (r, w')
is-pair x r w' h = rw (h.0, h.1)

-- where the answer is known
pub step_is : (x : Step × List ℕ) (r k : Step) (w' : List ℕ) → r ≡ k → Is x r w' → x ≡ (k, w')
step_is x r k w' q h = is-pair x k w' (sym q ∙ h.0, h.1)

-- ---- an item is passed

module _ (next depth count : ℕ) where
  skip-other : (class : Class) → (class ≡ Opens → ⊥) → (class ≡ Close → ⊥) → skip_in class next depth count ≡ stand_at (Skipping count) next depth
  unfolding skip_in
  skip-other Opens a b = absurd (a refl)
  skip-other Close a b = absurd (b refl)
  skip-other other a b = refl

  fail-plain : (w : List ℕ) (end at : ℕ) (class : Class) → (class ≡ Opens → ⊥) → (class ≡ Close → ⊥) → (class ≡ Else → ⊥)
      → fail_in class next w end at depth count ≡ (stand_at (Failing count) next depth, w)
  unfolding fail_in
  fail-plain w end at Opens a b c = absurd (a refl)
  fail-plain w end at Close a b c = absurd (b refl)
  fail-plain w end at Else a b c = absurd (c refl)
  fail-plain w end at other a b c = refl

line-plain : (next : ℕ) (class : Class) → (class ≡ LineEnd → ⊥) → line_in class next ≡ stand_at Leaving next 0
unfolding line_in
line-plain next LineEnd a = absurd (a refl)
line-plain next other a = refl

module _ (i j : Seen) (is : i ≡ j) (depth count : ℕ) where
  module _ (r : Point) where
    pub skips-opens : i.class ≡ Opens → r ≡ stand_at (Skipping (count + 1)) i.next depth → r ≡ skip_to j depth count
    unfolding skip_in
    skips-opens q e = e ∙ rw (sym is, q)

    pub skips-last : i.class ≡ Close → count ≡ 1 → r ≡ stand_at Running i.next depth → r ≡ skip_to j depth count
    unfolding skip_in
    skips-last q z e = e ∙ rw (sym is, q, z)

    pub skips-close : i.class ≡ Close → (count ≡ 1 → ⊥) → r ≡ stand_at (Skipping (count - 1)) i.next depth → r ≡ skip_to j depth count
    unfolding skip_in
    skips-close q z e = e ∙ rw (sym is, q, ne_eqb count 1 z)

    pub skips-other : (i.class ≡ Opens → ⊥) → (i.class ≡ Close → ⊥) → r ≡ stand_at (Skipping count) i.next depth → r ≡ skip_to j depth count
    skips-other a b e = e ∙ rw (← is) (sym (skip-other i.next depth count i.class a b))

  module _ (w : List ℕ) (end at : ℕ) where
    pub fails-opens : i.class ≡ Opens → fail_to j w end at depth count ≡ (stand_at (Failing (count + 1)) i.next depth, w)
    unfolding fail_in
    fails-opens q = rw (sym is, q)

    pub fails-last : i.class ≡ Close → count ≡ 1 → fail_to j w end at depth count ≡ (stand_at Running i.next depth, w)
    unfolding fail_in
    fails-last q z = rw (sym is, q, z)

    pub fails-close : i.class ≡ Close → (count ≡ 1 → ⊥) → fail_to j w end at depth count ≡ (stand_at (Failing (count - 1)) i.next depth, w)
    unfolding fail_in
    fails-close q z = rw (sym is, q, ne_eqb count 1 z)

    pub fails-group : i.class ≡ Else → count ≡ 1 → fail_to j w end at depth count ≡ (stand_at Running i.next (depth + 1), set w (end + depth) (at + 65536 * 0))
    unfolding fail_in
    fails-group q z = rw (sym is, q, z)

    pub fails-inner : i.class ≡ Else → (count ≡ 1 → ⊥) → fail_to j w end at depth count ≡ (stand_at (Failing count) i.next depth, w)
    unfolding fail_in
    fails-inner q z = rw (sym is, q, ne_eqb count 1 z)

    pub fails-plain : (i.class ≡ Opens → ⊥) → (i.class ≡ Close → ⊥) → (i.class ≡ Else → ⊥) → fail_to j w end at depth count ≡ (stand_at (Failing count) i.next depth, w)
    fails-plain a b c = rw (← is) (fail-plain i.next depth count w end at i.class a b c)

module _ (i j : Seen) (is : i ≡ j) (r : Point) where
  pub lines_end : i.class ≡ LineEnd → r ≡ stand_at Running i.next 0 → r ≡ line_to j
  unfolding line_in
  lines_end q e = e ∙ rw (sym is, q)

  pub lines-plain : (i.class ≡ LineEnd → ⊥) → r ≡ stand_at Leaving i.next 0 → r ≡ line_to j
  lines-plain a e = e ∙ rw (← is) (sym (line-plain i.next i.class a))

-- ---- bodies

module _ (w : List ℕ) (end j kind start : ℕ) (kind-is : kind ≡ kind_at w (get_or w j 0 % 65536)) (start_is : start ≡ end_by w (get_or w j 0 % 65536) kind) where
  starts : end_by w (get_or w j 0 % 65536) (kind_at w (get_or w j 0 % 65536)) ≡ start
  starts = sym (start_is ∙ ap (end_by w (get_or w j 0 % 65536)) kind-is)

  pub grouped-none : end ≤ start → false ≡ group_at w end j
  unfolding group_at
  grouped-none le = rw (starts, le-leb end start le)

  pub grouped-is : start < end → (first : ℕ) → first ≡ kind_at w start → eqb first bracket_kind ≡ group_at w end j
  unfolding group_at
  grouped-is less first e = rw (starts, lt-leb end start less, e)

module _ (w : List ℕ) (end next depth : ℕ) where
  leave-group : (d : ℕ) → group_at w end (end + d) ≡ true → leave_by w end next depth (suc d) ≡ stand_at (Skipping (depth - d)) next d
  unfolding leave_by
  leave-group d q = rw q

  leave-more : (d : ℕ) → group_at w end (end + d) ≡ false → leave_by w end next depth (suc d) ≡ leave_by w end next depth d
  unfolding leave_by
  leave-more d q = rw q

  module _ (d : ℕ) (some : 0 < d) (g : Bool) (is : g ≡ group_at w end (end + (d - 1))) where
    one_more : leave_by w end next depth d ≡ leave_by w end next depth (suc (d - 1))
    one_more = ap (leave_by w end next depth) (let z : d ≡ suc (d - 1) = omega arith in z)

    pub leaves-group : g ≡ true → (r : Point) → r ≡ stand_at (Skipping (depth - (d - 1))) next (d - 1) → r ≡ leave_by w end next depth d
    leaves-group q r e = e ∙ sym (one_more ∙ leave-group (d - 1) (sym is ∙ q))

    pub leaves-more : g ≡ false → leave_by w end next depth (d - 1) ≡ leave_by w end next depth d
    leaves-more q = sym (one_more ∙ leave-more (d - 1) (sym is ∙ q))

  pub leaves_none : (d : ℕ) → d ≡ 0 → (r : Point) → r ≡ stand_at Leaving next 0 → r ≡ leave_by w end next depth d
  unfolding leave_by
  leaves_none d z r e = e ∙ rw z

module _ (w : List ℕ) (end at next depth kind : ℕ) (way : Way) (kind-is : kind ≡ kind_at w at) (way-is : way ≡ way_by kind) where
  ways : way_by (kind_at w at) ≡ way
  ways = sym (way-is ∙ ap way_by kind-is)

  pub opens-none : way ≡ Counting → (n : ℕ) → n ≡ times_at w at → n ≡ 0 → (y : Point) → y ≡ stand_at (Skipping 1) next depth → open_by w end at next depth ≡ (On y, w)
  unfolding open_in
  opens-none q n n-is z y e = rw (ways, q, sym n-is, z, e)

  module _ (p : ℕ) (p-is : p ≡ place_at w at) (y : Point) (y-is : y ≡ stand_at Running next (depth + 1)) where
    pub opens-times : way ≡ Counting → (n : ℕ) → n ≡ times_at w at → (n ≡ 0 → ⊥) → open_by w end at next depth ≡ (wants_at Round p at y y, set w (end + depth) (at + 65536 * (n - 1)))
    unfolding open_in
    opens-times q n n-is more = rw (ways, q, sym n-is, ne_eqb n 0 more, y-is, p-is)

    pub opens-round : (way ≡ Counting → ⊥) → (way ≡ Branching → ⊥) → (way ≡ Looping → ⊥) → open_by w end at next depth ≡ (wants_at Round p at y y, set w (end + depth) (at + 65536 * 0))
    unfolding open_in
    opens-round a b c = rw (ways, y-is, p-is) (rest way a b c)
      where
        rest : (v : Way) → (v ≡ Counting → ⊥) → (v ≡ Branching → ⊥) → (v ≡ Looping → ⊥)
            → open_in v w end at next depth ≡ (wants_at Round (place_at w at) at (stand_at Running next (depth + 1)) (stand_at Running next (depth + 1)), set w (end + depth) (at + 65536 * 0))
        rest Counting a b c = absurd (a refl)
        rest Branching a b c = absurd (b refl)
        rest Looping a b c = absurd (c refl)
        rest other a b c = refl

    module _ (t : Ask) (t-is : t ≡ test_by kind) (n : Point) where
      tests : test_by (kind_at w at) ≡ t
      tests = sym (t-is ∙ ap test_by kind-is)

      pub opens-branch : way ≡ Branching → n ≡ stand_at (Failing 1) next depth → open_by w end at next depth ≡ (wants_at t p at y n, set w (end + depth) (at + 65536 * 0))
      unfolding open_in
      opens-branch q n-is = rw (ways, q, tests, n-is, y-is, p-is)

      pub opens-loop : way ≡ Looping → n ≡ stand_at (Skipping 1) next depth → open_by w end at next depth ≡ (wants_at t p at y n, set w (end + depth) (at + 65536 * 0))
      unfolding open_in
      opens-loop q n-is = rw (ways, q, tests, n-is, y-is, p-is)

module _ (w : List ℕ) (end next depth kind : ℕ) (way : Way) (kind-is : kind ≡ kind_at w (get_or w (end + (depth - 1)) 0 % 65536)) (way-is : way ≡ way_by kind)
    (out : Point) (out-is : out ≡ stand_at Running next (depth - 1)) where
  abbrev item : ℕ
  item = get_or w (end + (depth - 1)) 0 % 65536

  way_at : way_by (kind_at w item) ≡ way
  way_at = sym (way-is ∙ ap way_by kind-is)

  pub closes-last : way ≡ Counting → get_or w (end + (depth - 1)) 0 / 65536 ≡ 0 → close_by w end next depth ≡ (On out, w)
  unfolding close_in
  closes-last q z = rw (way_at, q, z, out-is)

  pub closes-once : (way ≡ Counting → ⊥) → (way ≡ Repeating → ⊥) → (way ≡ Looping → ⊥) → close_by w end next depth ≡ (On out, w)
  unfolding close_in
  closes-once a b c = rw (way_at, out-is) (rest way a b c)
    where
      rest : (v : Way) → (v ≡ Counting → ⊥) → (v ≡ Repeating → ⊥) → (v ≡ Looping → ⊥) → close_in v w (end + (depth - 1)) item next depth ≡ (On (stand_at Running next (depth - 1)), w)
      rest Counting a b c = absurd (a refl)
      rest Repeating a b c = absurd (b refl)
      rest Looping a b c = absurd (c refl)
      rest other a b c = refl

  module _ (p : ℕ) (p-is : p ≡ place_at w item) (start : ℕ) (start_is : start ≡ end_by w item kind) (y : Point) (y-is : y ≡ stand_at Running start depth) where
    ends_at : end_by w item (kind_at w item) ≡ start
    ends_at = sym (start_is ∙ ap (end_by w item) kind-is)

    pub closes-times : way ≡ Counting → (get_or w (end + (depth - 1)) 0 / 65536 ≡ 0 → ⊥)
        → close_by w end next depth ≡ (wants_at Round p item y y, set w (end + (depth - 1)) (get_or w (end + (depth - 1)) 0 - 65536))
    unfolding close_in
    closes-times q more = rw (way_at, q, ne_eqb (get_or w (end + (depth - 1)) 0 / 65536) 0 more, ends_at, y-is, p-is)

    pub closes-forever : way ≡ Repeating → close_by w end next depth ≡ (wants_at Round p item y y, w)
    unfolding close_in
    closes-forever q = rw (way_at, q, ends_at, y-is, p-is)

    pub closes-loop : way ≡ Looping → (t : Ask) → t ≡ test_by kind → close_by w end next depth ≡ (wants_at t p item y out, w)
    unfolding close_in
    closes-loop q t t-is =
        let is : test_by (kind_at w item) ≡ t = sym (t-is ∙ ap test_by kind-is) in
        rw (way_at, q, is, ends_at, y-is, p-is, out-is)

-- ---- an item is run

module _ (i j : Seen) (is : i ≡ j) (w : List ℕ) (end at depth : ℕ) where
  pub ran-opens : i.class ≡ Opens → run_by j w end at depth ≡ open_by w end at i.next depth
  unfolding run_in
  ran-opens q = rw (sym is, q)

  pub ran-search : i.class ≡ Seeks → run_by j w end at depth ≡ (begin_at w at i.next depth, w)
  unfolding run_in
  ran-search q = rw (sym is, q)

  module _ (p : ℕ) (p-is : p ≡ place_at w at) (y : Point) where
    pub ran-simple : i.class ≡ Simple → y ≡ stand_at Running i.next depth → run_by j w end at depth ≡ (wants_at Command p at y y, w)
    unfolding run_in
    ran-simple q e = rw (sym is, q, e, p-is)

    pub ran-leave : i.class ≡ Agp → y ≡ leave_by w end i.next depth depth → run_by j w end at depth ≡ (wants_at Round p at y y, w)
    unfolding run_in
    ran-leave q e = rw (sym is, q, e, p-is)

  pub ran_line : i.class ≡ LineEnd → (y : Point) → y ≡ stand_at Running i.next depth → run_by j w end at depth ≡ (On y, w)
  unfolding run_in
  ran_line q y e = rw (sym is, q, e)

  pub ran-none : depth ≡ 0 → (i.class ≡ Opens → ⊥) → (i.class ≡ Seeks → ⊥) → (i.class ≡ Simple → ⊥) → (i.class ≡ Agp → ⊥) → (i.class ≡ LineEnd → ⊥) → run_by j w end at depth ≡ (Gives None, w)
  unfolding run_in
  ran-none z a b c d e = rw (← is) (rest i.class a b c d e)
    where
      rest : (class : Class) → (class ≡ Opens → ⊥) → (class ≡ Seeks → ⊥) → (class ≡ Simple → ⊥) → (class ≡ Agp → ⊥) → (class ≡ LineEnd → ⊥)
          → run_in class i.next w end at depth ≡ (Gives None, w)
      rest Opens a b c d e = absurd (a refl)
      rest Seeks a b c d e = absurd (b refl)
      rest Simple a b c d e = absurd (c refl)
      rest Agp a b c d e = absurd (d refl)
      rest LineEnd a b c d e = absurd (e refl)
      rest other a b c d e = rw z

  module _ (deep : depth ≡ 0 → ⊥) where
    pub ran-bracket : i.class ≡ Bracket → (y : Point) → y ≡ stand_at Running i.next depth → run_by j w end at depth ≡ (On y, w)
    unfolding run_in
    ran-bracket q y e = rw (sym is, q, ne_eqb depth 0 deep, e)

    pub ran-else : i.class ≡ Else → (y : Point) → y ≡ stand_at (Skipping 1) i.next (depth - 1) → run_by j w end at depth ≡ (On y, w)
    unfolding run_in
    ran-else q y e = rw (sym is, q, ne_eqb depth 0 deep, e)

    pub ran-close : i.class ≡ Close → run_by j w end at depth ≡ close_by w end i.next depth
    unfolding run_in
    ran-close q = rw (sym is, q, ne_eqb depth 0 deep)

-- ---- what comes next

module _ (w : List ℕ) (end : ℕ) (c : Point) where
  pub steps-running : c.mode ≡ Running → step_by w end c ≡ run_by (seen_at w c.at) w end c.at c.depth
  unfolding step_in
  steps-running q = rw q

  module _ (count : ℕ) where
    pub steps-skipping : c.mode ≡ Skipping count → step_by w end c ≡ (On (skip_to (seen_at w c.at) c.depth count), w)
    unfolding step_in
    steps-skipping q = rw q

    pub steps-failing : c.mode ≡ Failing count → (r : Point) (w' : List ℕ) → Is (fail_to (seen_at w c.at) w end c.at c.depth count) r w' → step_by w end c ≡ (On r, w')
    unfolding step_in
    steps-failing q r w' h = rw (q, h.0, h.1)

  pub steps-leaving : c.mode ≡ Leaving → step_by w end c ≡ (On (line_to (seen_at w c.at)), w)
  unfolding step_in
  steps-leaving q = rw q

pub looks-as : (w : List ℕ) (item lines : ℕ) (to : Point) (what : Ask) → what ≡ look_by (kind_at w item) → (p : ℕ) → p ≡ place_at w item
    → record { what = what; place = p; item = item; lines = lines; yes = Items to; no = Seeking item (lines + 1) to } ≡ look_at w item lines to
unfolding look_at
looks-as w item lines to what is p p-is = rw (is, p-is)
