-- The length of what a line leaves, and what is found of two journals. Assumes nothing.
use mathlib.Core.Path.{◌≡◌, sym, ap, subst, ◌∙◌}
use mathlib.Core.Bool.{true, false}
use mathlib.Core.List.{List, []}
use Rattle.std.proofs.Common.{Option, Some, None, IfSome, SomeIff, Ok, Err}
use Rattle.std.proofs.Math.Nat.{lt_of_not-le}
use Prim.Native.Nat.{ℕ, ◌+◌, ◌-◌, ◌≤◌, ◌<◌}
use native.Mathlib.Omega.{arith}
use lib.ListN.{length}
use borrow.Author.Tests.{lt-ltb, le-ltb}
use Rattle.definitions.specs.Bytes.{eq_line}
use Rattle.definitions.specs.Journal.{Record, old_side, new_side, record_length, journal_length, change}
use Rattle.definitions.specs.Joining.{by_middle, eq_lines}
use Rattle.theorems.specs.JournalBytes.{length_both}
use Rattle.text.proofs.Parts.{part_length}
use Rattle.journal.specs.Records.{Left}
use Rattle.journal.proofs.Left.{some_is}
use Rattle.middle.specs.Middle.{next_at}
use Rattle.middle.specs.Leaving.{text_in, leaves_by, leaves, At, Within, Stand}
use Rattle.journal.specs.declared.records.Span.{Span}
use Rattle.middle.specs.declared.Places.{Places}
use Rattle.middle.specs.declared.Texts.{Texts}
use Rattle.middle.specs.declared.Next.{Next}
use Rattle.journal.specs.declared.Refusal.{Refusal}
use Rattle.journal.specs.declared.Refusal.TheVariants.{Short}
use Rattle.middle.proofs.Steps.{Step}
use Rattle.seasons.specs.Joined.{start, measured, found, Further}
use Rattle.seasons.proofs.Dues.{told_is}

-- ---- a line

pub text-length : (j : List ℕ) (t : Span) → Within j t → 1 + length (text_in j t) ≡ t.to - t.from
unfolding text_in
text-length j t w = omega (arith, part_length j t.from (t.to - 1) (omega (arith, w.inside)), w.low)

module _ (j k : List ℕ) (o n : Span) (u : Within j o) (v : Within k n) where
  pub same_length : eq_line (text_in j o) (text_in k n) ≡ true → 2 + (o.to - o.from) ≡ record_length (change (text_in j o) (text_in k n))
  unfolding change record_length
  same_length h = rw h (omega (arith, text-length j o u))

  pub both-length : eq_line (text_in j o) (text_in k n) ≡ false → 2 + (o.to - o.from) + (n.to - n.from) ≡ record_length (change (text_in j o) (text_in k n))
  unfolding change record_length
  both-length h = rw h (omega (arith, text-length j o u, text-length k n v))

-- by the texts of a line
module _ (j k : List ℕ) (line : Texts) (h : Stand j k line) where
  pub stand-old : (o : Span) → line.old ≡ Some o → Within j o
  stand-old o e = subst (λ (t : Option Span). IfSome t (Within j)) e h.0

  pub stand-new : (n : Span) → line.new ≡ Some n → Within k n
  stand-new n e = subst (λ (t : Option Span). IfSome t (Within k)) e h.1

  pub length_two : (o n : Span) → line.old ≡ Some o → line.new ≡ Some n → record_length (change (text_in j o) (text_in k n)) ≡ journal_length (leaves j k line)
  unfolding leaves leaves_by journal_length
  length_two o n e f = rw (e, f) (omega arith)

  pub length-old : (o : Span) → line.old ≡ Some o → line.new ≡ None → 2 + (o.to - o.from) ≡ journal_length (leaves j k line)
  unfolding leaves leaves_by journal_length record_length
  length-old o e f = rw (e, f) (omega (arith, text-length j o (stand-old o e)))

  pub length-new : (n : Span) → line.old ≡ None → line.new ≡ Some n → 2 + (n.to - n.from) ≡ journal_length (leaves j k line)
  unfolding leaves leaves_by journal_length record_length
  length-new n e f = rw (e, f) (omega (arith, text-length k n (stand-new n f)))

  pub length_none : line.old ≡ None → line.new ≡ None → 0 ≡ journal_length (leaves j k line)
  unfolding leaves leaves_by journal_length
  length_none e f = rw (e, f)

-- ---- both journals

-- places are within both journals
pub places-within : (j k : List ℕ) (p : Places) (rs ss : List Record) → At j k p rs ss → p.first + p.second ≤ length j + length k
places-within j k p rs ss a = omega (arith, a.in_first, a.in_second)

-- what is to be counted from the places `p` on, where `left` bytes of `size` are left; none: they were not enough before
abbrev Counted : ℕ → Option ℕ → ℕ → ℕ → Type 0
Counted size (Some left) all rest = all + left ≡ rest + size
Counted size None all rest = size < all

-- from the places `p` on, what is to be told of both journals is told
pub record Measuring (j k : List ℕ) (size : ℕ) (p : Places) (left : Option ℕ) : Type 0 where
  pub rs : List Record
  pub ss : List Record
  pub at : At j k p rs ss
  pub most : IfSome left (λ n. n ≤ size)
  pub agree : (all all₂ : List Record) → Left j 0 all → Left k 0 all₂ → eq_lines (new_side all) (old_side all₂) ≡ eq_lines (new_side rs) (old_side ss)
  pub counted : (all all₂ : List Record) → Left j 0 all → Left k 0 all₂ → Counted size left (journal_length (by_middle all all₂)) (journal_length (by_middle rs ss))

none-long : (rs ss : List Record) → rs ≡ [] → ss ≡ [] → journal_length (by_middle rs ss) ≡ 0
unfolding journal_length by_middle
none-long rs ss e f = rw (e, f)

none-agree : (rs ss : List Record) → rs ≡ [] → ss ≡ [] → eq_lines (new_side rs) (old_side ss) ≡ true
unfolding new_side old_side eq_lines
none-agree rs ss e f = rw (e, f)

-- what a line that is counted leaves of the room
abbrev Spent : Option ℕ → ℕ → Option ℕ → Type 0
Spent (Some room) need left = SomeIff left (need ≤ room) (room - need)
Spent None need left = left ≡ None

spent-most : (size need : ℕ) (left left' : Option ℕ) → IfSome left (λ n. n ≤ size) → Spent left need left' → IfSome left' (λ n. n ≤ size)
spent-most size need (Some room) (Some n) h s = omega (arith, s.1)
spent-most size need (Some room) None h s = tt
spent-most size need None left' h s = subst (λ (o : Option ℕ). IfSome o (λ n. n ≤ size)) (sym s) tt

spent-counted : (size need all rest rest' : ℕ) (left left' : Option ℕ) → IfSome left (λ n. n ≤ size) → Spent left need left' → rest ≡ need + rest'
    → Counted size left all rest → Counted size left' all rest'
spent-counted size need all rest rest' (Some room) (Some n) h s r c = omega (arith, s.0, s.1, r, c)
spent-counted size need all rest rest' (Some room) None h s r c =
    let over : room < need = lt_of_not-le s in
    omega (arith, over, r, c, h)
spent-counted size need all rest rest' None left' h s r c = subst (λ (o : Option ℕ). Counted size o all rest') (sym s) c

module _ (j k : List ℕ) (size : ℕ) where
  pub measuring-start : (rs ss : List Record) → Left j 0 rs → Left k 0 ss → Measuring j k size start (Some size)
  measuring-start rs ss f s = record {
    rs = rs;
    ss = ss;
    at = record { first = f; second = s; in_first = omega arith; in_second = omega arith };
    most = omega arith;
    agree = λ all all₂ g t. ap (λ (z : List Record). eq_lines (new_side z) (old_side all₂)) (one all g) ∙ ap (λ (z : List Record). eq_lines (new_side rs) (old_side z)) (two all₂ t);
    counted = λ all all₂ g t.
        ap (λ (n : ℕ). n + size)
        (ap (λ (z : List Record). journal_length (by_middle z all₂)) (one all g) ∙ ap (λ (z : List Record). journal_length (by_middle rs z)) (two all₂ t));
  }
    where
      one : (all : List Record) → Left j 0 all → all ≡ rs
      one all g = some_is all rs (sym g ∙ f)

      two : (all : List Record) → Left k 0 all → all ≡ ss
      two all g = some_is all ss (sym g ∙ s)

  module _ (p : Places) (left : Option ℕ) (m : Measuring j k size p left) where
    -- the tables differ
    pub measuring-differs : (e : Refusal) → Err e ≡ next_at j k p → (all all₂ : List Record) → Left j 0 all → Left k 0 all₂ → Err e ≡ found all all₂ size
    unfolding found measured
    measuring-differs e h all all₂ g t =
        let s = told_is j k p m.rs m.ss m.at (Err e) h in
        rw (s.0, m.agree all all₂ g t ∙ s.1)

    -- at the end, with what is left of the room
    module _ (h : Ok None ≡ next_at j k p) (all all₂ : List Record) (g : Left j 0 all) (t : Left k 0 all₂) where
      ended : (m.rs ≡ []) × (m.ss ≡ [])
      ended = told_is j k p m.rs m.ss m.at (Ok None) h

      agreed : eq_lines (new_side all) (old_side all₂) ≡ true
      agreed = m.agree all all₂ g t ∙ none-agree m.rs m.ss ended.0 ended.1

      abbrev long : ℕ
      long = journal_length (by_middle all all₂)

      all-counted : Counted size left long 0
      all-counted = subst (Counted size left long) (none-long m.rs m.ss ended.0 ended.1) (m.counted all all₂ g t)

      pub measuring-fits : (room : ℕ) → left ≡ Some room → Ok (size - room) ≡ found all all₂ size
      unfolding found measured
      measuring-fits room e =
          let c : long + room ≡ 0 + size = subst (λ (o : Option ℕ). Counted size o long 0) e all-counted in
          let fits : long ≤ size = omega arith in
          let is : size - room ≡ long = omega arith in
          rw (agreed, le-ltb size long fits, is)

      pub measuring-long : left ≡ None → Err Short ≡ found all all₂ size
      unfolding found measured
      measuring-long e =
          let c : size < long = subst (λ (o : Option ℕ). Counted size o long 0) e all-counted in
          rw (agreed, lt-ltb size long c)

    module _ (n : Next) (e : Ok (Some n) ≡ next_at j k p) where
      ahead : Step j k p m.rs m.ss n.line n.after
      ahead = told_is j k p m.rs m.ss m.at (Ok (Some n)) e

      pub measuring-stands : Stand j k n.line
      measuring-stands = ahead.stand

      pub measuring-further : Further p n.after × (n.after.first + n.after.second ≤ length j + length k)
      measuring-further = (ahead.further, places-within j k n.after ahead.rest ahead.rest₂ ahead.at)

      module _ (need : ℕ) (is : need ≡ journal_length (leaves j k n.line)) where
        more : journal_length (by_middle m.rs m.ss) ≡ need + journal_length (by_middle ahead.rest ahead.rest₂)
        more = ap journal_length ahead.joined ∙ length_both (leaves j k n.line) (by_middle ahead.rest ahead.rest₂) ∙ ap (λ (x : ℕ). x + journal_length (by_middle ahead.rest ahead.rest₂)) (sym is)

        -- one line further
        measuring-next : (left' : Option ℕ) → Spent left need left' → Measuring j k size n.after left'
        measuring-next left' s = record {
          rs = ahead.rest;
          ss = ahead.rest₂;
          at = ahead.at;
          most = spent-most size need left left' m.most s;
          agree = λ all all₂ g t. m.agree all all₂ g t ∙ ahead.agree;
          counted = λ all all₂ g t. spent-counted size need (journal_length (by_middle all all₂)) (journal_length (by_middle m.rs m.ss)) (journal_length (by_middle ahead.rest ahead.rest₂)) left left' m.most s more (m.counted all all₂ g t);
        }

        pub measuring-more : (left' : Option ℕ) (room : ℕ) → left ≡ Some room → SomeIff left' (need ≤ room) (room - need) → Measuring j k size n.after left'
        measuring-more left' room e s = measuring-next left' (subst (λ (o : Option ℕ). Spent o need left') (sym e) s)

        pub measuring-over : (left' : Option ℕ) → left ≡ None → left' ≡ None → Measuring j k size n.after left'
        measuring-over left' e s = measuring-next left' (subst (λ (o : Option ℕ). Spent o need left') (sym e) s)
