-- The steps of writing one record: its head, then its line. Assumes nothing.
use Rattle.std.proofs.Common.{Some, None}
use mathlib.Core.Path.{◌≡◌, refl, sym, ap, subst, ◌∙◌}
use mathlib.Core.List.{List, [], ◌∷◌, ◌++◌}
use Prim.Native.Nat.{ℕ, ◌+◌, ◌-◌, ◌≤◌, ◌<◌}
use native.Mathlib.Nat.{add-zero}
use native.Mathlib.Omega.{arith}
use lib.ListN.{length, length-append}
use Rattle.text.specs.Lines.{part}
use Rattle.text.specs.Buffer.{laid}
use Rattle.text.proofs.Buffer.{laid_none, laid-length, laid-laid}
use Rattle.journal.specs.Records.{record_in, first_line, old_span, new_span, view_span}
use Rattle.journal.specs.Views.{Puts, head_by, piece}
use Rattle.journal.specs.declared.records.Mark.{Mark}
use Rattle.journal.specs.declared.records.Mark.TheVariants.{Kept, Changed, Deleted, Inserted}
use Rattle.journal.specs.declared.records.Extent.{Extent}
use Rattle.journal.specs.declared.records.View.{View}
use Rattle.journal.specs.declared.records.Span.{Span}
use Rattle.journal.specs.declared.records.View.TheVariants.{OldSide, NewSide, Listing}
use Rattle.journal.specs.declared.write.Gone.{Gone}
use Rattle.journal.proofs.Here.{LastLine, Here}
use Rattle.text.proofs.Parts.{part_length}
use Rattle.journal.proofs.Views.{shown_as, piece-shown}

-- nothing written
none_written : (d out : List ℕ) (o : ℕ) → out ≡ [] → (o ≡ o + length out) × (d ≡ laid d o out)
none_written d out o e = rw e (sym (add-zero o), sym (laid_none d o))

-- nothing written over bytes
pub puts_none : (d : List ℕ) (o : ℕ) → Puts [] d o d o
puts_none d o = none_written d [] o refl

-- bytes written after bytes
pub puts-both : (a b d d₁ d₂ : List ℕ) (o o₁ o₂ : ℕ) → o + length a ≤ length d → Puts a d o d₁ o₁ → Puts b d₁ o₁ d₂ o₂ → Puts (a ++ b) d o d₂ o₂
puts-both a b d d₁ d₂ o o₁ o₂ h p q = (
  omega (arith, p.0, q.0, length-append a b),
  q.1 ∙ ap (λ (x : List ℕ). laid x o₁ b) p.1 ∙ ap (λ (i : ℕ). laid (laid d o a) i b) p.0 ∙ laid-laid d o a h b,
)

-- the bytes of a buffer stay as many
pub puts-length : (a d d₁ : List ℕ) (o o₁ : ℕ) → o + length a ≤ length d → Puts a d o d₁ o₁ → length d₁ ≡ length d
puts-length a d d₁ o o₁ h p = ap length p.1 ∙ laid-length d o a h

-- bytes written after a mark
pub marked-done : (a b : ℕ) (s d d₁ d₂ : List ℕ) (o r : ℕ) → o + 2 + length s ≤ length d → d₁ ≡ laid d o (a ∷ b ∷ []) → Puts s d₁ (o + 2) d₂ r
    → Puts (a ∷ b ∷ s) d o d₂ r
marked-done a b s d d₁ d₂ o r h e p = puts-both (a ∷ b ∷ []) s d d₁ d₂ o (o + 2) r (omega arith) (refl, e) p

-- ---- what a view has before a line

module _ (m : Mark) (g : Gone) (view : View) where
  pub head-old : view ≡ OldSide → head_by view m g ≡ []
  unfolding head_by
  head-old e = rw e

  pub head-new : view ≡ NewSide → head_by view m g ≡ []
  unfolding head_by
  head-new e = rw e

pub puts-nothing : (x d : List ℕ) (o : ℕ) → x ≡ [] → Puts x d o d o
puts-nothing x d o e = none_written d x o e

-- ---- a record

span-is : (s t : Span) → Some s ≡ Some t → s ≡ t
span-is s t h = cc

no_span : (s : Span) → None ≡ Some s → ⊥
no_span s h = let z : ◌≡◌ {A = ℕ} 0 1 = cc in omega arith

module _ (j : List ℕ) (x : Extent) (w : Here j x.at x) where
  abbrev Inside : Span → Type 0
  Inside s = (s.from < s.to) × (s.to ≤ length j)

  within : (s t : Span) → Inside s → Some s ≡ Some t → Inside t
  within s t h k = subst Inside (span-is s t k) h

  first-inside : Inside (first_line x)
  first-inside = (omega (arith, w.first.low), omega (arith, w.first.high))

  -- the line that a record gives to the old side lies within the journal, and so does that of the new side
  pub old-within : (m : Mark) (s : Span) → old_span m x ≡ Some s → (s.from < s.to) × (s.to ≤ length j)
  unfolding old_span
  old-within Kept s k = within _ s first-inside k
  old-within Changed s k = within _ s first-inside k
  old-within Deleted s k = within _ s first-inside k
  old-within Inserted s k = absurd (no_span s k)

  pub new-within : (m : Mark) → LastLine m j x.mid x.end → (s : Span) → new_span m x ≡ Some s → (s.from < s.to) × (s.to ≤ length j)
  unfolding new_span
  new-within Kept l s k = within _ s first-inside k
  new-within Changed l s k = within _ s (omega (arith, l.low), omega (arith, l.high)) k
  new-within Deleted l s k = absurd (no_span s k)
  new-within Inserted l s k = within _ s first-inside k

  weakly : (a e : ℕ) → (a < e) × (e ≤ length j) → (a ≤ e) × (e ≤ length j)
  weakly a e h = (omega (arith, h.0), h.1)

  -- a span lies within the journal
  pub span-within : (view : View) (s : Span) → view_span view x ≡ Some s → (s.from ≤ s.to) × (s.to ≤ length j)
  unfolding view_span
  span-within OldSide s k = weakly s.from s.to (old-within x.mark s k)
  span-within NewSide s k = weakly s.from s.to (new-within x.mark w.last s k)
  span-within Listing s k = weakly s.from s.to (new-within x.mark w.last s k)

  module _ (g : Gone) (few : g.lines ≤ 65535) (view : View) where
    shown : piece view g (record_in j x) ≡ shown_as j view x.mark g (view_span view x)
    shown = piece-shown j x w.first g few view w.last

    pub put-none : (d : List ℕ) (o : ℕ) → view_span view x ≡ None → Puts (piece view g (record_in j x)) d o d o
    unfolding shown_as
    put-none d o e = none_written d (piece view g (record_in j x)) o (shown ∙ rw e)

    module _ (s : Span) (is : view_span view x ≡ Some s) where
      piece_is : piece view g (record_in j x) ≡ head_by view x.mark g ++ part s.from s.to j
      unfolding shown_as
      piece_is = shown ∙ rw is

      line-long : length (part s.from s.to j) ≡ s.to - s.from
      line-long = part_length j s.from s.to (span-within view s is).1

      long : length (piece view g (record_in j x)) ≡ length (head_by view x.mark g) + length (part s.from s.to j)
      long = ap length piece_is ∙ length-append (head_by view x.mark g) (part s.from s.to j)

      module _ (d : List ℕ) (o : ℕ) (room : o + length (piece view g (record_in j x)) ≤ length d) where
        pub put-head-room : o + length (head_by view x.mark g) ≤ length d
        put-head-room = omega (arith, long)

        module _ (d₁ : List ℕ) (next : ℕ) (h : Puts (head_by view x.mark g) d o d₁ next) where
          pub put-line-room : next + length (part s.from s.to j) ≤ length d₁
          put-line-room = omega (arith, long, h.0, puts-length (head_by view x.mark g) d d₁ o next put-head-room h)

          pub put-done : (d₂ : List ℕ) (r : ℕ) → Puts (part s.from s.to j) d₁ next d₂ r → Puts (piece view g (record_in j x)) d o d₂ r
          put-done d₂ r k = rw piece_is (puts-both (head_by view x.mark g) (part s.from s.to j) d d₁ d₂ o next r put-head-room h k)
