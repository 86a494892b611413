-- Texts as the bytes of records, and what is written of a line. Assumes nothing.
use mathlib.Core.Path.{◌≡◌, refl, sym, ap, subst, ◌∙◌}
use mathlib.Core.Bool.{true, false}
use mathlib.Core.List.{List, [], ◌∷◌, ◌++◌, append-nil}
use Rattle.std.proofs.Common.{Option, Some, None, IfSome}
use Prim.Native.Nat.{ℕ, ◌+◌, ◌-◌, ◌≤◌}
use native.Mathlib.Omega.{arith}
use lib.ListN.{length, length-append}
use Rattle.definitions.specs.Bytes.{Line, eq_line, line_bytes}
use Rattle.definitions.specs.Journal.{change, record_bytes, journal_bytes}
use Rattle.theorems.specs.RecordLaws.{by-change}
use Rattle.theorems.specs.Arranged.{gone_in, came_in}
use Rattle.text.specs.Lines.{part}
use Rattle.text.proofs.Parts.{part_length}
use Rattle.journal.specs.Views.{Puts}
use Rattle.journal.proofs.Writing.{puts_none, puts-both, puts-length}
use Rattle.middle.specs.Leaving.{text_in, leaves_by, leaves, Within, Stand}
use Rattle.journal.specs.declared.records.Span.{Span}
use Rattle.middle.specs.declared.Texts.{Texts}
use Rattle.seasons.specs.Joined.{of_kind}
use Rattle.seasons.specs.declared.write.Kind.{Kind}
use Rattle.seasons.specs.declared.write.Kind.TheVariants.{WhatLeft, WhatCame}

-- a text's bytes
abbrev bytes_in : List ℕ → Span → List ℕ
bytes_in j t = part t.from t.to j

bytes-long : (j : List ℕ) (t : Span) → Within j t → length (bytes_in j t) ≡ t.to - t.from
bytes-long j t w = part_length j t.from t.to w.inside

-- the bounds of a text that stands
pub in-bounds : (j : List ℕ) (t : Span) → Within j t → (t.from ≤ t.to) × (t.to ≤ length j)
in-bounds j t w = (omega (arith, w.low), w.inside)

-- ---- a line with both texts

module _ (j k : List ℕ) (o n : Span) (u : Within j o) (v : Within k n) where
  pub kept-bytes : eq_line (text_in j o) (text_in k n) ≡ true → record_bytes (change (text_in j o) (text_in k n)) ≡ 61 ∷ 61 ∷ bytes_in j o
  unfolding change record_bytes
  kept-bytes h = rw (h, u.line)

  pub changed-bytes : eq_line (text_in j o) (text_in k n) ≡ false → record_bytes (change (text_in j o) (text_in k n)) ≡ (60 ∷ 62 ∷ bytes_in j o) ++ bytes_in k n
  unfolding change record_bytes
  changed-bytes h = rw (h, u.line, v.line)

  module _ (d : List ℕ) (out : ℕ) (room : out + length (record_bytes (change (text_in j o) (text_in k n))) ≤ length d) where
    pub kept-room : eq_line (text_in j o) (text_in k n) ≡ true → out + 2 + length (bytes_in j o) ≤ length d
    kept-room h = omega (arith, room, ap length (kept-bytes h))

    pub kept-done : eq_line (text_in j o) (text_in k n) ≡ true → (d₁ : List ℕ) (r : ℕ) → Puts (61 ∷ 61 ∷ bytes_in j o) d out d₁ r
        → Puts (record_bytes (change (text_in j o) (text_in k n))) d out d₁ r
    kept-done h d₁ r p = subst (λ (x : List ℕ). Puts x d out d₁ r) (sym (kept-bytes h)) p

    module _ (h : eq_line (text_in j o) (text_in k n) ≡ false) where
      both-room : out + length (60 ∷ 62 ∷ bytes_in j o) + length (bytes_in k n) ≤ length d
      both-room = omega (arith, room, ap length (changed-bytes h) ∙ length-append (60 ∷ 62 ∷ bytes_in j o) (bytes_in k n))

      first-room : out + length (60 ∷ 62 ∷ bytes_in j o) ≤ length d
      first-room = omega (arith, both-room)

      pub changed-room : out + 2 + length (bytes_in j o) ≤ length d
      changed-room = omega (arith, first-room)

      module _ (d₁ : List ℕ) (o₁ : ℕ) (p : Puts (60 ∷ 62 ∷ bytes_in j o) d out d₁ o₁) where
        pub second-room : o₁ + length (bytes_in k n) ≤ length d₁
        second-room = omega (arith, both-room, p.0, puts-length (60 ∷ 62 ∷ bytes_in j o) d d₁ out o₁ first-room p)

        pub changed-done : (d₂ : List ℕ) (r : ℕ) → Puts (bytes_in k n) d₁ o₁ d₂ r → Puts (record_bytes (change (text_in j o) (text_in k n))) d out d₂ r
        changed-done d₂ r q =
            subst (λ (x : List ℕ). Puts x d out d₂ r) (sym (changed-bytes h)) (puts-both (60 ∷ 62 ∷ bytes_in j o) (bytes_in k n) d d₁ d₂ out o₁ r first-room p q)

-- ---- a line with one text

change-none : (kind : Kind) (o n : Line) → of_kind kind (change o n ∷ []) ≡ []
unfolding of_kind gone_in came_in
change-none WhatLeft o n = by-change (λ r. gone_in (r ∷ []) ≡ []) o n (λ e. refl) (λ e. refl)
change-none WhatCame o n = by-change (λ r. came_in (r ∷ []) ≡ []) o n (λ e. refl) (λ e. refl)

-- the texts of a line whose record is not of the kind
abbrev pub NotOf : Kind → Option Span → Option Span → Type 0
NotOf WhatLeft (Some o) None = ⊥
NotOf WhatLeft (Some o) (Some n) = Unit {0}
NotOf WhatLeft None n = Unit {0}
NotOf WhatCame None (Some n) = ⊥
NotOf WhatCame None None = Unit {0}
NotOf WhatCame (Some o) n = Unit {0}

module _ (j k : List ℕ) where
  not-of : (kind : Kind) (o n : Option Span) → NotOf kind o n → of_kind kind (leaves_by j k o n) ≡ []
  unfolding of_kind leaves_by gone_in came_in
  not-of kind (Some o) (Some n) t = change-none kind (text_in j o) (text_in k n)
  not-of WhatLeft (Some o) None t = absurd t
  not-of WhatCame (Some o) None t = refl
  not-of WhatLeft None (Some n) t = refl
  not-of WhatCame None (Some n) t = absurd t
  not-of WhatLeft None None t = refl
  not-of WhatCame None None t = refl

  module _ (kind : Kind) (line : Texts) (d : List ℕ) (out : ℕ) where
    -- what is written of it
    abbrev piece : List ℕ
    piece = journal_bytes (of_kind kind (leaves j k line))

    nothing-of : of_kind kind (leaves j k line) ≡ [] → Puts piece d out d out
    unfolding journal_bytes
    nothing-of e = rw e (puts_none d out)

    pub none-done : NotOf kind line.old line.new → Puts piece d out d out
    unfolding leaves
    none-done t = nothing-of (not-of kind line.old line.new t)

    pub none-done-by : (k' : Kind) (o n : Option Span) → kind ≡ k' → line.old ≡ o → line.new ≡ n → NotOf k' o n → Puts piece d out d out
    none-done-by k' o n e f g t =
        none-done (subst (λ (x : Kind). NotOf x line.old line.new) (sym e) (subst (λ (x : Option Span). NotOf k' x line.new) (sym f) (subst (λ (x : Option Span). NotOf k' o x) (sym g) t)))

    module _ (h : Stand j k line) (room : out + length piece ≤ length d) where
      module _ (e : kind ≡ WhatLeft) (o : Span) (is : line.old ≡ Some o) (no : line.new ≡ None) where
        pub old-in : Within j o
        old-in = subst (λ (t : Option Span). IfSome t (Within j)) is h.0

        left-bytes : piece ≡ 45 ∷ 45 ∷ bytes_in j o
        unfolding of_kind leaves leaves_by gone_in journal_bytes record_bytes
        left-bytes = rw (e, is, no) (append-nil (45 ∷ 45 ∷ line_bytes (text_in j o)) ∙ sym (ap {B = List ℕ} (λ x. 45 ∷ 45 ∷ x) old-in.line))

        pub left-room : out + 2 + length (bytes_in j o) ≤ length d
        left-room = omega (arith, room, ap length left-bytes)

        pub left-done : (d₁ : List ℕ) (r : ℕ) → Puts (45 ∷ 45 ∷ bytes_in j o) d out d₁ r → Puts piece d out d₁ r
        left-done d₁ r p = subst (λ (x : List ℕ). Puts x d out d₁ r) (sym left-bytes) p

      module _ (e : kind ≡ WhatCame) (n : Span) (no : line.old ≡ None) (is : line.new ≡ Some n) where
        pub new_in : Within k n
        new_in = subst (λ (t : Option Span). IfSome t (Within k)) is h.1

        came-bytes : piece ≡ 43 ∷ 43 ∷ bytes_in k n
        unfolding of_kind leaves leaves_by came_in journal_bytes record_bytes
        came-bytes = rw (e, no, is) (append-nil (43 ∷ 43 ∷ line_bytes (text_in k n)) ∙ sym (ap {B = List ℕ} (λ x. 43 ∷ 43 ∷ x) new_in.line))

        pub came-room : out + 2 + length (bytes_in k n) ≤ length d
        came-room = omega (arith, room, ap length came-bytes)

        pub came-done : (d₁ : List ℕ) (r : ℕ) → Puts (43 ∷ 43 ∷ bytes_in k n) d out d₁ r → Puts piece d out d₁ r
        came-done d₁ r p = subst (λ (x : List ℕ). Puts x d out d₁ r) (sym came-bytes) p
