-- A journal turned round: the state between two steps, and the steps. Assumes nothing.
use mathlib.Core.Path.{◌≡◌, refl, sym, ap, ◌∙◌}
use mathlib.Core.Bool.{true}
use mathlib.Core.Option.{some}
use mathlib.Core.List.{List, [], ◌∷◌, ◌++◌}
use Prim.Native.Nat.{ℕ, ◌+◌, ◌≤◌, ◌<◌}
use native.Mathlib.Omega.{arith}
use lib.ListN.{length, length-append}
use Rattle.definitions.specs.Journal.{Record, kept, changed, deleted, inserted, record_bytes, journal_bytes, record_length, journal_length, records_of}
use Rattle.definitions.specs.Arranging.{arrange_from, arrange}
use Rattle.definitions.specs.Joining.{turn_one, turn, is_arranged}
use Rattle.theorems.specs.Arranged.{IsApart}
use Rattle.theorems.specs.ArrangeLaws.{BeginsApart}
use Rattle.theorems.specs.JoinLaws.{one-long}
use Rattle.theorems.specs.JournalBytes.{record-length}
use Rattle.text.specs.Buffer.{laid}
use Rattle.text.proofs.Buffer.{laid_none, laid-length, laid-laid}
use Rattle.journal.specs.Records.{Left}
use Rattle.journal.specs.Views.{Puts}
use Rattle.journal.proofs.Left.{some_is, left-start, left_end}
use Rattle.turning.specs.Rows.{after_row, gone_first, came_next, after_stretch, row_bytes, stretch_length, stretch_turned}
use Rattle.turning.proofs.Places.{left-cons, left_after, left-long}
use Rattle.turning.proofs.Rows.{row-split, gone_long, came-long}
use Rattle.turning.proofs.Stretches.{stretch-rest, stretch-bytes, one-bytes, one-rest}

-- a record has bytes
record-some : (r : Record) → 0 < record_length r
unfolding record_length
record-some (kept l) = omega arith
record-some (changed o n) = omega arith
record-some (deleted l) = omega arith
record-some (inserted l) = omega arith

-- ---- all records

-- at `at` the records `rs` are left, which are arranged; they go there turned round
pub record Turning (j d₀ : List ℕ) (at : ℕ) (d : List ℕ) : Type 0 where
  pub rs : List Record
  pub left : Left j at rs
  pub order : is_arranged rs ≡ true
  pub inside : at ≤ length j
  pub room : length j ≤ length d
  pub whole : (all : List Record) → records_of j ≡ some all → laid d at (journal_bytes (turn rs)) ≡ laid d₀ 0 (journal_bytes (turn all))

-- a kept or changed record stands there, or none
pub record Parted (j d₀ : List ℕ) (at : ℕ) (d : List ℕ) : Type 0 where
  pub state : Turning j d₀ at d
  pub apart : BeginsApart state.rs

module _ (j d₀ : List ℕ) where
  pub turning-start : (rs : List Record) → records_of j ≡ some rs → is_arranged rs ≡ true → length j ≤ length d₀ → Turning j d₀ 0 d₀
  turning-start rs e o h = record {
    rs = rs;
    left = (left-start j rs e).0;
    order = o;
    inside = omega arith;
    room = h;
    whole = λ all k. ap (λ (q : List Record). laid d₀ 0 (journal_bytes (turn q))) (some_is rs all (sym e ∙ k));
  }

  -- bytes written, and the records `qs` left after them
  turning-on : (at : ℕ) (d : List ℕ) (s : Turning j d₀ at d) (x : List ℕ) (qs : List Record) (r : ℕ) (d' : List ℕ) → at + length x ≤ length d
      → journal_bytes (turn s.rs) ≡ x ++ journal_bytes (turn qs) → Left j r qs → is_arranged qs ≡ true → r ≤ length j → Puts x d at d' r → Turning j d₀ r d'
  turning-on at d s x qs r d' h e l o i p = record {
    rs = qs;
    left = l;
    order = o;
    inside = i;
    room = omega (arith, s.room, ap length p.1 ∙ laid-length d at x h);
    whole = λ all k.
        ap (λ (z : List ℕ). laid z r (journal_bytes (turn qs))) p.1 ∙ ap (λ (n : ℕ). laid (laid d at x) n (journal_bytes (turn qs))) p.0
        ∙ laid-laid d at x h (journal_bytes (turn qs)) ∙ ap (laid d at) (sym e) ∙ s.whole all k;
  }

  module _ (at : ℕ) (d : List ℕ) (s : Turning j d₀ at d) where
    pub turning-end : length j ≤ at → (all : List Record) → records_of j ≡ some all → d ≡ laid d₀ 0 (journal_bytes (turn all))
    unfolding turn arrange arrange_from journal_bytes
    turning-end h all k =
        let e : s.rs ≡ [] = left_end j at s.rs h s.left in
        sym (ap (λ (q : List Record). laid d at (journal_bytes (turn q))) e ∙ laid_none d at) ∙ s.whole all k

    pub turning-asks : (rs : List Record) × Left j at rs × (at ≤ length j) × (length j ≤ length d)
    turning-asks = (s.rs, s.left, s.inside, s.room)

    -- after a stretch
    module _ (r : ℕ) (d' : List ℕ) (did : (rs : List Record) → Left j at rs → (r ≡ at + stretch_length rs) × (d' ≡ laid d at (stretch_turned rs))) where
      turned-long : length (stretch_turned s.rs) ≡ stretch_length s.rs
      turned-long = length-append (row_bytes 45 (came_next s.rs)) (row_bytes 43 (gone_first s.rs)) ∙ omega (arith, gone_long 43 s.rs, came-long 45 (after_row 45 s.rs))

      after : Left j r (after_stretch s.rs) × (r ≤ length j)
      after =
          let f = left_after j at (gone_first s.rs) (after_row 45 s.rs) (rw (row-split 45 s.rs) at s.left) s.inside in
          let g = left_after j (at + journal_length (gone_first s.rs)) (came_next s.rs) (after_stretch s.rs) (rw (row-split 43 (after_row 45 s.rs)) at f.0) f.1 in
          let n : at + journal_length (gone_first s.rs) + journal_length (came_next s.rs) ≡ r = omega (arith, (did s.rs s.left).0) in
          rw n at g

      pub stretch-after : at ≤ r
      stretch-after = omega (arith, (did s.rs s.left).0)

      pub turning-stretch : Parted j d₀ r d'
      unfolding turning-on
      turning-stretch =
          let is = did s.rs s.left in
          let rest = stretch-rest s.rs s.order in record {
            state = turning-on at d s (stretch_turned s.rs) (after_stretch s.rs) r d' (omega (arith, turned-long, is.0, after.1, s.room)) (stretch-bytes s.rs s.order)
                after.0 rest.1 after.1 (omega (arith, turned-long, is.0), is.1);
            apart = rest.0;
          }

  -- one kept or changed record
  module _ (at : ℕ) (d : List ℕ) (s : Parted j d₀ at d) (more : at < length j) where
    first : (q : Record) × (qs : List Record) × (s.state.rs ≡ q ∷ qs) × IsApart q
    first = go s.state.rs s.state.left s.apart
      where
        go : (rs : List Record) → Left j at rs → BeginsApart rs → (q : Record) × (qs : List Record) × (rs ≡ q ∷ qs) × IsApart q
        go [] l a = let n = left-long j at [] l (omega arith) in absurd (unfold journal_length in omega arith)
        go (q ∷ qs) l a = (q, qs, refl, a)

    is-first : Left j at (first.0 ∷ first.1)
    is-first = rw first.2 at s.state.left

    one-room : at + record_length first.0 ≤ length d
    one-room = omega (arith, (left-cons j at first.0 first.1 is-first).1, s.state.room)

    pub parted-asks : (q : Record) × (qs : List Record) × Left j at (q ∷ qs) × IsApart q × (at + record_length q ≤ length d)
    parted-asks = (first.0, first.1, is-first, first.3, one-room)

    module _ (r : ℕ) (d' : List ℕ) (did : (q : Record) (qs : List Record) → Left j at (q ∷ qs) → Puts (record_bytes (turn_one q)) d at d' r) where
      turned_same : length (record_bytes (turn_one first.0)) ≡ record_length first.0
      turned_same = record-length (turn_one first.0) ∙ one-long first.0

      pub turning-one : Turning j d₀ r d' × (at < r)
      turning-one =
          let p = did first.0 first.1 is-first in
          let n = left-cons j at first.0 first.1 is-first in
          let to : r ≡ at + record_length first.0 = p.0 ∙ ap (λ (k : ℕ). at + k) turned_same in (
            turning-on at d s.state (record_bytes (turn_one first.0)) first.1 r d' (omega (arith, one-room, turned_same))
                (ap (λ (z : List Record). journal_bytes (turn z)) first.2 ∙ one-bytes first.0 first.1 first.3)
                (rw to n.0) (one-rest first.0 first.1 first.3 (rw first.2 at s.state.order)) (omega (arith, to, n.1)) p,
            omega (arith, to, record-some first.0),
          )
