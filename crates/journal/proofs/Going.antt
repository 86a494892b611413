-- Writing a journal: the state between two records, and its steps. Assumes nothing.
use Rattle.std.proofs.Common.{None}
use mathlib.Core.Path.{◌≡◌, sym, ap, ◌∙◌}
use mathlib.Core.Bool.{true, false, not}
use mathlib.Core.Option.{some}
use mathlib.Core.List.{List, [], ◌∷◌, ◌++◌}
use Prim.Native.Nat.{ℕ, ◌+◌, ◌≤◌}
use native.Mathlib.Omega.{arith}
use lib.ListN.{length, drop, length-append}
use Rattle.definitions.specs.Bytes.{Line}
use Rattle.definitions.specs.Journal.{Record, old_of, old_side, records_of}
use Rattle.text.specs.Buffer.{laid}
use Rattle.text.proofs.Buffer.{laid_none, laid-length, laid-laid}
use Rattle.journal.specs.Records.{record_at, record_of, record_in, unchanged_in, records_from}
use Rattle.journal.specs.Views.{gone_by, piece, out_from, out_of}
use Rattle.journal.specs.declared.records.Mark.{Mark}
use Rattle.journal.specs.declared.records.Mark.TheVariants.{Kept, Changed, Deleted, Inserted}
use Rattle.journal.specs.declared.records.Extent.{Extent}
use Rattle.journal.specs.declared.records.View.{View}
use Rattle.journal.specs.declared.write.Gone.{Gone}
use Rattle.journal.proofs.Here.{Here}
use Rattle.journal.proofs.Left.{some_is, followed-some, left-start, left-none}
use Rattle.journal.proofs.Views.{out-next, out_none}

-- from `at` on the records `rs` are left; `out` bytes of `d` are written, `g` has gone by
pub record Going (view : View) (j d₀ : List ℕ) (at out : ℕ) (g : Gone) (d : List ℕ) : Type 0 where
  pub rs : List Record
  pub left : records_from (drop at j) ≡ some rs
  pub few : g.lines + length (old_side rs) ≤ 65535
  pub room : out + length (out_from view g rs) ≤ length d
  pub whole : (all : List Record) → records_of j ≡ some all → laid d out (out_from view g rs) ≡ laid d₀ 0 (out_of view all)

module _ (view : View) (j d₀ : List ℕ) where
  pub going_start : (rs : List Record) → records_of j ≡ some rs → length (out_of view rs) ≤ length d₀ → Going view j d₀ 0 0 (record { lines = 0; gap = false }) d₀
  unfolding out_of
  going_start rs e h =
      let f = left-start j rs e in record {
        rs = rs;
        left = f.0;
        few = omega (arith, f.1);
        room = omega arith;
        whole = λ all k. ap (λ (q : List Record). laid d₀ 0 (out_of view q)) (some_is rs all (sym e ∙ k));
      }

  module _ (at out : ℕ) (g : Gone) (d : List ℕ) (s : Going view j d₀ at out g d) where
    pub going-few : g.lines ≤ 65535
    going-few = let f = s.few in omega arith

    -- no record stands at the place: none is left
    pub going_end : record_at j at ≡ None → (all : List Record) → records_of j ≡ some all → d ≡ laid d₀ 0 (out_of view all)
    going_end h all k =
        let e : s.rs ≡ [] = left-none j at s.rs s.left h in
        sym (ap (λ (q : List Record). laid d out (out_from view g q)) e ∙ ap (laid d out) (out_none view g) ∙ laid_none d out) ∙ s.whole all k

    module _ (x : Extent) (w : Here j at x) where
      rest : (qs : List Record) × (records_from (drop (x.end + 1) j) ≡ some qs) × (s.rs ≡ record_in j x ∷ qs) × (not (unchanged_in j x) ≡ true)
      rest = followed-some (not (unchanged_in j x)) (record_in j x) (records_from (drop (x.end + 1) j)) s.rs (sym w.records ∙ s.left)

      out-is : out_from view g s.rs ≡ piece view g (record_in j x) ++ out_from view (gone_by g x.mark) rest.0
      unfolding record_in
      out-is = ap (out_from view g) rest.2 ∙ out-next view g x.mark _ _ rest.0

      long : length (out_from view g s.rs) ≡ length (piece view g (record_in j x)) + length (out_from view (gone_by g x.mark) rest.0)
      long = ap length out-is ∙ length-append (piece view g (record_in j x)) (out_from view (gone_by g x.mark) rest.0)

      pub going-room : out + length (piece view g (record_in j x)) ≤ length d
      going-room = let r = s.room in omega (arith, long)

      gone-few : (m : Mark) (a b : Line) (qs : List Record) → g.lines + length (old_side (record_of m a b ∷ qs)) ≤ 65535 → (gone_by g m).lines + length (old_side qs) ≤ 65535
      unfolding gone_by old_side old_of record_of
      gone-few Kept a b qs h = omega arith
      gone-few Changed a b qs h = omega arith
      gone-few Deleted a b qs h = omega arith
      gone-few Inserted a b qs h = h

      few-next : (gone_by g x.mark).lines + length (old_side rest.0) ≤ 65535
      unfolding record_in
      few-next = gone-few x.mark _ _ rest.0 (rw rest.2 at s.few)

      room_next : out + length (piece view g (record_in j x)) + length (out_from view (gone_by g x.mark) rest.0) ≤ length (laid d out (piece view g (record_in j x)))
      room_next = rw (laid-length d out (piece view g (record_in j x)) going-room) (let r = s.room in omega (arith, long))

      going_on : Going view j d₀ (x.end + 1) (out + length (piece view g (record_in j x))) (gone_by g x.mark) (laid d out (piece view g (record_in j x)))
      going_on = record {
        rs = rest.0;
        left = rest.1;
        few = few-next;
        room = room_next;
        whole = λ all k. laid-laid d out (piece view g (record_in j x)) going-room (out_from view (gone_by g x.mark) rest.0) ∙ ap (laid d out) (sym out-is) ∙ s.whole all k;
      }

      pub going_next : (at' : ℕ) (d' : List ℕ) (out' : ℕ) (g' : Gone) → at' ≡ x.end + 1 → d' ≡ laid d out (piece view g (record_in j x)) → out' ≡ out + length (piece view g (record_in j x)) → g' ≡ gone_by g x.mark
          → Going view j d₀ at' out' g' d'
      going_next at' d' out' g' a e f h = rw (a, e, f, h) going_on
