-- The command that a name selects. Assumes nothing.
use mathlib.Core.Path.{◌≡◌, refl, ap}
use mathlib.Core.Bool.{Bool, true, false, not}
use mathlib.Core.List.{List}
use Prim.Native.Nat.{ℕ, zero, suc, ◌+◌, ◌≤◌, ◌<◌}
use native.Mathlib.Omega.{arith}
use lib.ListN.{length, set}
use lib.Dec.{eqb}
use borrow.Author.Tests.{ne_eqb}
use Rattle.definitions.specs.Edit.{is_eof}
use Rattle.definitions.specs.Control.{Item, simple, opens, leave, forever, branch}
use Rattle.definitions.specs.Reader.{Cursor, got, refused, Token, token}
use Rattle.definitions.specs.Commands.{prefix, moves, deletes, seeks, inserts_string, inserts_lines, replaces, alters, points, splits, joins, globals, names_words, branches, loops, skip_then, shape_of, decode}
use Rattle.definitions.specs.Script.{Due, Group, is_in_group, decoded, named, count_read}
use Rattle.std.specs.Prelude.{Ok}
use Rattle.answers.specs.declared.Command.{Command}
use Rattle.answers.specs.declared.Read.{Read}
use Rattle.answers.specs.Answers.{whole_read, prefix_read}
use Rattle.answers.specs.declared.State.{State}
use Rattle.lexer.specs.Places.{cursor_at}
use Rattle.lexer.specs.Shapes.{plain_of, seek_of, change_of, shape_in}
use Rattle.lexer.specs.declared.shapes.Plain.{Plain as PlainHere}
use Rattle.lexer.specs.declared.shapes.Seek.{Seek as SeekHere}
use Rattle.lexer.specs.declared.shapes.Change.{Change as ChangeHere}
use Rattle.lexer.specs.declared.shapes.Shape.{Shape as ShapeHere}
use Rattle.lexer.specs.declared.shapes.Shape.TheVariants.{Plain, Leaves, Seeks, Moves, Deletes, InsertsString, InsertsLines, Replaces, Alters, Points, Splits, Joins, Globals, Names, Repeats, Branches, BranchesEof, Loops, Unknown}
use Rattle.items.specs.Kinds.{leave_kind, repeat_kind, if_eof_kind}
use Rattle.items.specs.Words.{head, OpenerAt, ItemAt}
use Rattle.items.specs.Depth.{open_after}
use Rattle.script.specs.Reading.{groups_in, ReadSoFar, CommandRoom, CommandRead, counted}
use Rattle.script.specs.Commands.{plain_kind}
use Rattle.script.specs.Searches.{NameOf}
use Rattle.script.proofs.Items.{one-is, named-apart, whole-one, prefix-one, plain-item}

pub room_of : (s w : List ℕ) (st : State) (at : ℕ) (acc : List Item) (next : ℕ) → ReadSoFar s w st at acc → at < next → next ≤ length s → CommandRoom s w at next st.k
room_of s w st at acc next h less to = record { named = less; inside = to; room = omega (arith, h.affords.room, h.deep, h.inside); fits = h.fits }

-- ---- by shape

module _ (g : Bool) (place : ℕ) (c : Cursor) (shape : ShapeHere) where
  pub is-seeks : (f : SeekHere) → shape ≡ Seeks f → decode g place (shape_in shape) c ≡ decode false place (seeks (seek_of f)) c
  unfolding decode shape_in
  is-seeks f e = rw e

  pub is-moves : shape ≡ Moves → decode g place (shape_in shape) c ≡ decode false place moves c
  unfolding decode shape_in
  is-moves e = rw e

  pub is-deletes : shape ≡ Deletes → decode g place (shape_in shape) c ≡ decode false place deletes c
  unfolding decode shape_in
  is-deletes e = rw e

  pub is-string : shape ≡ InsertsString → decode g place (shape_in shape) c ≡ decode false place inserts_string c
  unfolding decode shape_in
  is-string e = rw e

  pub is-lines : shape ≡ InsertsLines → decode g place (shape_in shape) c ≡ decode g place inserts_lines c
  unfolding shape_in
  is-lines e = rw e

  pub is-replaces : shape ≡ Replaces → decode g place (shape_in shape) c ≡ decode g place replaces c
  unfolding shape_in
  is-replaces e = rw e

  pub is-alters : (ch : ChangeHere) (p : Bool) → shape ≡ Alters ch p → decode g place (shape_in shape) c ≡ decode false place (alters (change_of ch) p) c
  unfolding decode shape_in
  is-alters ch p e = rw e

  pub is-points : (a : Bool) → shape ≡ Points a → decode g place (shape_in shape) c ≡ decode false place (points a) c
  unfolding decode shape_in
  is-points a e = rw e

  pub is-splits : (a : Bool) → shape ≡ Splits a → decode g place (shape_in shape) c ≡ decode false place (splits a) c
  unfolding decode shape_in
  is-splits a e = rw e

  pub is-joins : shape ≡ Joins → decode g place (shape_in shape) c ≡ decode false place joins c
  unfolding decode shape_in
  is-joins e = rw e

  pub is-globals : (k : ChangeHere) → shape ≡ Globals k → decode g place (shape_in shape) c ≡ decode false place (globals (change_of k)) c
  unfolding decode shape_in
  is-globals k e = rw e

  pub is-names : shape ≡ Names → decode g place (shape_in shape) c ≡ decode false place names_words c
  unfolding decode shape_in
  is-names e = rw e

  pub is-branches : (b : Bool) → shape ≡ Branches b → decode g place (shape_in shape) c ≡ decode false place (branches b) c
  unfolding decode shape_in
  is-branches b e = rw e

  pub is-loops : (b : Bool) → shape ≡ Loops b → decode g place (shape_in shape) c ≡ decode false place (loops b) c
  unfolding decode shape_in
  is-loops b e = rw e

  pub is-unknown : shape ≡ Unknown → decode g place (shape_in shape) c ≡ refused 2 place
  unfolding decode shape_in
  is-unknown e = rw e

pub long-repeat : (shape : ShapeHere) (place at : ℕ) → shape ≡ Repeats → NameOf shape place at → place + 2 ≤ at
unfolding NameOf
long-repeat shape place at e h = rw e at h

pub long-eof : (shape : ShapeHere) (place at : ℕ) → shape ≡ BranchesEof → NameOf shape place at → place + 2 ≤ at
unfolding NameOf
long-eof shape place at e h = rw e at h

pub long-branch : (shape : ShapeHere) (place at : ℕ) (b : Bool) → shape ≡ Branches b → NameOf shape place at → place + 2 ≤ at
unfolding NameOf
long-branch shape place at b e h = rw e at h

pub long-loop : (shape : ShapeHere) (place at : ℕ) (b : Bool) → shape ≡ Loops b → NameOf shape place at → place + 2 ≤ at
unfolding NameOf
long-loop shape place at b e h = rw e at h

module _ (s w w' : List ℕ) (place at k : ℕ) (r : CommandRoom s w place at k) (g : Bool) (shape : ShapeHere) (x : Read Command) where
  room : k + 16 < length w
  room = omega (arith, r.room, r.fits.work)

  pub plain-written : (p : PlainHere) (kind : ℕ) → shape ≡ Plain p → kind ≡ plain_kind p → (w' ≡ set w k (head kind place)) × (x ≡ whole_read (k + 1) at)
      → CommandRead s w w' place k (decode g place (shape_in shape) (cursor_at s at)) (Ok x)
  unfolding decode shape_in open_after
  plain-written p kind e is (we, xe) = rw (e, we, xe, is)
      (whole-one s w place at k r (decode g place (shape_in (Plain p)) (cursor_at s at)) (simple place (plain_of p)) at (omega arith) r.inside (λ n. omega arith) (head (plain_kind p) place) refl
      (plain-item s (set w k (head (plain_kind p) place)) k place p (one-is w k (head (plain_kind p) place) room)))

  pub leaves-written : shape ≡ Leaves → (w' ≡ set w k (head leave_kind place)) × (x ≡ whole_read (k + 1) at) → CommandRead s w w' place k (decode g place (shape_in shape) (cursor_at s at)) (Ok x)
  unfolding decode shape_in ItemAt open_after
  leaves-written e (we, xe) = rw (e, we, xe)
      (whole-one s w place at k r (decode g place (shape_in Leaves) (cursor_at s at)) (leave place) at (omega arith) r.inside (λ n. omega arith) (head leave_kind place) refl
      (refl, one-is w k (head leave_kind place) room))

  pub repeats-written : shape ≡ Repeats → NameOf shape place at → (w' ≡ set w k (head repeat_kind place)) × (x ≡ prefix_read false (k + 1) at) → CommandRead s w w' place k (decode g place (shape_in shape) (cursor_at s at)) (Ok x)
  unfolding decode shape_in ItemAt OpenerAt open_after
  repeats-written e long (we, xe) =
      let far = long-repeat shape place at e long in
      rw (e, we, xe)
      (prefix-one s w place at k r (decode g place (shape_in Repeats) (cursor_at s at)) (opens place forever) at (omega arith) r.inside (λ n. refl) (named-apart s place k at (k + 1) (omega arith)) (head repeat_kind place) false refl
      (refl, one-is w k (head repeat_kind place) room))

  pub eof-written : (next : ℕ) → shape ≡ BranchesEof → NameOf shape place at → skip_then (cursor_at s at) ≡ cursor_at s next → at ≤ next → next ≤ length s
      → (w' ≡ set w k (head if_eof_kind place)) × (x ≡ prefix_read true (k + 1) next) → CommandRead s w w' place k (decode g place (shape_in shape) (cursor_at s at)) (Ok x)
  unfolding decode shape_in ItemAt OpenerAt open_after
  eof-written next e long then from to (we, xe) =
      let far = long-eof shape place at e long in
      rw (e, we, xe)
      (prefix-one s w place at k r (decode g place (shape_in BranchesEof) (cursor_at s at)) (opens place (branch is_eof)) next from to (λ n. refl) (named-apart s place k next (k + 1) (omega arith)) (head if_eof_kind place) true
      (ap (got (prefix true (opens place (branch is_eof)))) then) (refl, one-is w k (head if_eof_kind place) room))

-- ---- by name

pub in_groups : (w : List ℕ) (d : ℕ) → is_in_group (groups_in w d) ≡ not (eqb d 0)
unfolding is_in_group groups_in
in_groups w zero = refl
in_groups w (suc d) = rw (ne_eqb (suc d) 0 (λ e. omega (arith, e)))

pub named-is : (due : Due) (groups : List Group) (acc : List Item) (at letters : ℕ) (c : Cursor) (shape : ShapeHere) (g : Bool) → is_in_group groups ≡ g → shape_of letters ≡ shape_in shape
    → named due groups acc at (token letters c) ≡ decoded due groups acc (decode g at (shape_in shape) c)
unfolding named
named-is due groups acc at letters c shape g e f = rw (e, f)

pub count-is : (due : Due) (groups : List Group) (acc : List Item) (at : ℕ) (x : Token) → count_read due groups acc at x ≡ decoded due groups acc (counted at x)
unfolding count_read counted
count-is due groups acc at (token n c) = refl
