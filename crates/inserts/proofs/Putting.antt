-- Records put before the current one, line by line. Assumes nothing.
use mathlib.Core.Path.{◌≡◌, refl, sym, ap, ◌∙◌}
use mathlib.Core.Bool.{true}
use mathlib.Core.List.{List, [], ◌∷◌}
use Prim.Native.Nat.{ℕ, ◌+◌, ◌-◌, ◌≤◌, ◌<◌}
use native.Mathlib.Omega.{arith}
use lib.ListN.{length, take, drop}
use Rattle.definitions.specs.Bytes.{Line, lines_of, is_line, all_lines}
use Rattle.definitions.specs.Journal.{Record, inserted, record_length, journal_length}
use Rattle.definitions.specs.Editor.{put_before}
use Rattle.items.specs.Words.{part_of}
use Rattle.editor.specs.Shows.{Holds, Stays}
use Rattle.editor.specs.declared.State.{State}
use Rattle.editor.proofs.Records.{both}
use Rattle.editor.proofs.Held.{holds-lists, stays-still, stays_on}
use Rattle.editor.proofs.Inserting.{held-journal, put-length}
use Rattle.inserts.specs.Lines.{feed_place, Insertable, room_of}
use Rattle.inserts.proofs.Lines.{part_length, lines_none, lines-first}
use Rattle.inserts.proofs.Room.{room-first}

-- The records of the lines up to `at` are put: those of the lines from there on, put too, make all of them.
pub record Putting (j₀ : List ℕ) (st : State) (s : List ℕ) (start end : ℕ) (j : List ℕ) (r : State) (at : ℕ) : Type 0 where
  pub puts : (b a : List Record) → Holds j₀ st b a → (c : List Record) × Holds j r c a × (put_before (lines_of (part_of s at end)) c ≡ put_before (lines_of (part_of s start end)) b)
  pub stays : Stays st r
  pub room : r.front + room_of s at end ≤ r.back
  pub good : all_lines (lines_of (part_of s at end)) ≡ true
  pub long : length j ≡ length j₀

pub putting-start : {j : List ℕ} {st : State} {s : List ℕ} {start end : ℕ} → Insertable s start end → st.front + room_of s start end ≤ st.back
    → Putting j st s start end j st start
putting-start w room = record {
  puts = λ b a h. (b, h, refl);
  stays = stays-still;
  room = room;
  good = w.good;
  long = refl;
}

-- the gap after one line is put
put-gap : {j k : List ℕ} {st s : State} {l : Line} {b a : List Record} → Holds j st b a → Holds k s (inserted l ∷ b) a → length k ≡ length j
    → st.back - st.front ≡ (s.back - s.front) + (length l + 3)
unfolding put_before journal_length record_length
put-gap {l = l} {b = b} {a = a} h i q = omega (arith, held-journal h, held-journal i, put-length (l ∷ []) b a)

module _ {j₀ : List ℕ} {st : State} {s : List ℕ} {start end : ℕ} {j : List ℕ} {r : State} {at : ℕ} (w : Putting j₀ st s start end j r at) (inside : end ≤ length s) where
  pub putting-done : end ≤ at → (b a : List Record) → Holds j₀ st b a → Holds j r (put_before (lines_of (part_of s start end)) b) a
  unfolding put_before
  putting-done h b a held =
      let x : (c : List Record) × Holds j r c a × (put_before (lines_of (part_of s at end)) c ≡ put_before (lines_of (part_of s start end)) b) = w.puts b a held in
      holds-lists (ap (λ (ls : List Line). put_before ls x.0) (sym (lines_none s at end inside h)) ∙ x.2) refl x.1

  module _ (more : at < end) (e : ℕ) (is : e ≡ at + feed_place (part_of s at end)) (within : e ≤ end) where
    split : lines_of (part_of s at end) ≡ part_of s at e ∷ lines_of (part_of s (e + 1) end)
    split = rw is (lines-first s at end inside more)

    goods : (is_line (part_of s at e) ≡ true) × (all_lines (lines_of (part_of s (e + 1) end)) ≡ true)
    unfolding all_lines
    goods = both (is_line (part_of s at e)) (all_lines (lines_of (part_of s (e + 1) end))) (rw split at w.good)

    -- the next line
    pub putting-good : is_line (take (e - at) (drop at s)) ≡ true
    unfolding part_of
    putting-good = goods.0

    pub putting-room : r.front + ((e - at) + 3) ≤ r.back
    putting-room = omega (arith, w.room, room-first s at end inside more e is)

    pub putting-on : {k : List ℕ} {u : State} → ((b : List Record) × (a : List Record) × Holds j₀ st b a)
        → ((b : List Record) (a : List Record) → Holds j r b a → Holds k u (put_before (take (e - at) (drop at s) ∷ []) b) a) → Stays r u → length k ≡ length j
        → Putting j₀ st s start end k u (e + 1)
    unfolding part_of put_before
    putting-on {k} {u} x puts stays q =
        let y : (c : List Record) × Holds j r c x.1 × (put_before (lines_of (part_of s at end)) c ≡ put_before (lines_of (part_of s start end)) x.0) = w.puts x.0 x.1 x.2 in
        let held : Holds k u (inserted (part_of s at e) ∷ y.0) x.1 = puts y.0 x.1 y.1 in
        record {
          puts = λ b a h. (
              let z : (c : List Record) × Holds j r c a × (put_before (lines_of (part_of s at end)) c ≡ put_before (lines_of (part_of s start end)) b) = w.puts b a h in
              (inserted (part_of s at e) ∷ z.0, puts z.0 a z.1, ap (λ (ls : List Line). put_before ls z.0) (sym split) ∙ z.2)
              );
          stays = stays_on w.stays stays;
          room = omega (arith, w.room, room-first s at end inside more e is, part_length s at e (omega arith), put-gap y.1 held q, held.order);
          good = goods.1;
          long = q ∙ w.long;
        }
