-- The loops over a row: looking for its end, and writing its lines. Assumes nothing.
use Rattle.std.proofs.Common.{Some, None}
use mathlib.Core.Path.{◌≡◌, refl, sym, ap, ◌∙◌}
use mathlib.Core.List.{List, [], ◌∷◌, ◌++◌}
use Prim.Native.Nat.{ℕ, ◌+◌, ◌≤◌, ◌<◌}
use native.Mathlib.Nat.{add-zero}
use native.Mathlib.Omega.{arith}
use lib.ListN.{length, get_or, length-append}
use Rattle.definitions.specs.Journal.{Record, journal_length}
use Rattle.text.specs.Lines.{part}
use Rattle.text.specs.Buffer.{laid}
use Rattle.text.proofs.Buffer.{laid_none, laid-length, laid-laid}
use Rattle.journal.specs.Records.{record_at, record_in, Left}
use Rattle.journal.specs.Views.{Puts}
use Rattle.journal.specs.declared.records.Extent.{Extent}
use Rattle.journal.proofs.Here.{here, nowhere}
use Rattle.journal.proofs.Left.{none-some, some_is, left_end, left-next}
use Rattle.turning.specs.Rows.{row_of, row_bytes}
use Rattle.turning.proofs.Places.{found-byte, found-line, found-length, left-found}
use Rattle.turning.proofs.Rows.{row_more, row-stops}

-- at `i`, within the row at `at`: the records `qs` are left, and the row ends where theirs does
pub record Within (b : ℕ) (j : List ℕ) (at i : ℕ) : Type 0 where
  pub rs : List Record
  pub qs : List Record
  pub start : Left j at rs
  pub left : Left j i qs
  pub same : i + journal_length (row_of b qs) ≡ at + journal_length (row_of b rs)

module _ (b : ℕ) (j : List ℕ) (at : ℕ) where
  pub within-start : (rs : List Record) → Left j at rs → Within b j at at
  within-start rs l = record {
    rs = rs;
    qs = rs;
    start = l;
    left = l;
    same = refl;
  }

  module _ (i : ℕ) (s : Within b j at i) where
    pub within-nowhere : i < length j → record_at j i ≡ None → ⊥
    within-nowhere h e = none-some s.qs (sym (nowhere j i h e) ∙ s.left)

    -- the row does not go on
    no_more : row_of b s.qs ≡ [] → (rs : List Record) → Left j at rs → i ≡ at + journal_length (row_of b rs)
    unfolding journal_length
    no_more e rs l =
        let is : s.rs ≡ rs = some_is s.rs rs (sym s.start ∙ l) in
        sym (add-zero i) ∙ ap (λ (z : List Record). i + journal_length z) (sym e) ∙ s.same ∙ ap (λ (z : List Record). at + journal_length (row_of b z)) is

    end_none : length j ≤ i → row_of b s.qs ≡ []
    unfolding row_of
    end_none h = rw (left_end j i s.qs h s.left)

    other_none : i < length j → (get_or j i 0 ≡ b → ⊥) → row_of b s.qs ≡ []
    other_none h e =
        let f = left-found j i s.qs s.left h in
        let n = left-next j i s.qs f.0 s.left f.1 in
        ap (row_of b) n.2 ∙ row-stops b (record_in j f.0) n.0 (λ k. e (found-byte j i f.0 f.1 ∙ k))

    pub within_end : length j ≤ i → (rs : List Record) → Left j at rs → i ≡ at + journal_length (row_of b rs)
    within_end h = no_more (end_none h)

    pub within-other : i < length j → (get_or j i 0 ≡ b → ⊥) → (rs : List Record) → Left j at rs → i ≡ at + journal_length (row_of b rs)
    within-other h e = no_more (other_none h e)

    module _ (x : Extent) (found : record_at j i ≡ Some x) (is : get_or j i 0 ≡ b) where
      abbrev rest : List Record
      rest = (left-next j i s.qs x s.left found).0

      row_is : row_of b s.qs ≡ record_in j x ∷ row_of b rest
      row_is =
          let n = left-next j i s.qs x s.left found in
          ap (row_of b) n.2 ∙ row_more b (record_in j x) n.0 (sym (found-byte j i x found) ∙ is)

      pub within-next : Within b j at (x.end + 1)
      unfolding journal_length
      within-next =
          let n = left-next j i s.qs x s.left found in
          record {
            rs = s.rs;
            qs = n.0;
            start = s.start;
            left = n.1;
            same = omega (arith, found-length j i x found, ap journal_length row_is, s.same);
          }

-- ---- writing

-- the same with `next` bytes of `d` written: what is left of the row goes there
pub record Writes (b c : ℕ) (j d₀ : List ℕ) (from out at next : ℕ) (d : List ℕ) : Type 0 where
  pub row : Within b j from at
  pub room : next + length (row_bytes c (row_of b row.qs)) ≤ length d
  pub whole : laid d next (row_bytes c (row_of b row.qs)) ≡ laid d₀ out (row_bytes c (row_of b row.rs))

module _ (b c : ℕ) (j d₀ : List ℕ) (from out : ℕ) where
  pub writes_start : (rs : List Record) → Left j from rs → out + length (row_bytes c (row_of b rs)) ≤ length d₀ → Writes b c j d₀ from out from out d₀
  unfolding within-start
  writes_start rs l h = record {
    row = within-start b j from rs l;
    room = h;
    whole = refl;
  }

  module _ (at next : ℕ) (d : List ℕ) (s : Writes b c j d₀ from out at next d) where
    none_left : row_of b s.row.qs ≡ [] → (rs : List Record) → Left j from rs → d ≡ laid d₀ out (row_bytes c (row_of b rs))
    unfolding row_bytes
    none_left e rs l =
        let is : s.row.rs ≡ rs = some_is s.row.rs rs (sym s.row.start ∙ l) in
        sym (laid_none d next) ∙ ap (λ (z : List Record). laid d next (row_bytes c z)) (sym e) ∙ s.whole ∙ ap (λ (z : List Record). laid d₀ out (row_bytes c (row_of b z))) is

    pub writes_end : length j ≤ at → (rs : List Record) → Left j from rs → (at ≡ from + journal_length (row_of b rs)) × (d ≡ laid d₀ out (row_bytes c (row_of b rs)))
    writes_end h rs l = (within_end b j from at s.row h rs l, none_left (end_none b j from at s.row h) rs l)

    pub writes-other : at < length j → (get_or j at 0 ≡ b → ⊥) → (rs : List Record) → Left j from rs
        → (at ≡ from + journal_length (row_of b rs)) × (d ≡ laid d₀ out (row_bytes c (row_of b rs)))
    writes-other h e rs l = (within-other b j from at s.row h e rs l, none_left (other_none b j from at s.row h e) rs l)

    module _ (x : Extent) (found : record_at j at ≡ Some x) (is : get_or j at 0 ≡ b) where
      abbrev line : List ℕ
      line = c ∷ c ∷ part (at + 2) (x.mid + 1) j

      abbrev more : List ℕ
      more = row_bytes c (row_of b (rest b j from at s.row x found is))

      bytes-are : row_bytes c (row_of b s.row.qs) ≡ line ++ more
      unfolding row_bytes
      bytes-are = ap (row_bytes c) (row_is b j from at s.row x found is) ∙ ap (λ (z : List ℕ). (c ∷ c ∷ z) ++ more) (sym (found-line j at x found))

      long : length (row_bytes c (row_of b s.row.qs)) ≡ length line + length more
      long = ap length bytes-are ∙ length-append line more

      writes-room : next + length line ≤ length d
      writes-room = omega (arith, s.room, long)

      -- what `put_marked` asks for
      pub writes-asks : (at + 2 ≤ x.mid + 1) × (x.mid + 1 ≤ length j) × (next + 2 + length (part (at + 2) (x.mid + 1) j) ≤ length d)
      writes-asks =
          let w = here j at x found in
          let inside : x.mid + 1 ≤ length j = omega (arith, w.order, w.inside) in
          (omega (arith, w.first.low), inside, omega (arith, writes-room))

      pub writes-next : (d' : List ℕ) (next' : ℕ) → Puts (c ∷ c ∷ part (at + 2) (x.mid + 1) j) d next d' next' → Writes b c j d₀ from out (x.end + 1) next' d'
      unfolding within-next
      writes-next d' next' p =
          rw (p.0, p.1) (record {
            row = within-next b j from at s.row x found is;
            room = rw (laid-length d next line writes-room) (omega (arith, s.room, long));
            whole = laid-laid d next line writes-room more ∙ ap (laid d next) (sym bytes-are) ∙ s.whole;
          })
