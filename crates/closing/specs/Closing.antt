-- What the end of a run makes of the journal buffer: the records arranged (document 02, wish 6), their lines ended. Assumes nothing.
use Rattle.std.specs.Prelude.{◌≡◌, Bool, cond, ℕ, ◌+◌, ◌-◌, length, eqb, leb}
use mathlib.Core.List.{List, [], ◌∷◌, ◌++◌, reverse_aux}
use Rattle.gap.specs.Gap.{zeros}
use Rattle.definitions.specs.Journal.{Record, journal_bytes, journal_length}
use Rattle.definitions.specs.Arranging.{arrange}
use Rattle.editor.specs.Records.{mark, enc_all, Goods}
use Rattle.editor.specs.Shows.{Holds}
use Rattle.editor.specs.declared.State.{State}

-- ---- lines

-- the byte that a 0 between two lines becomes
abbrev pub line_end : ℕ → ℕ
line_end x = cond (eqb x 0) 10 x

-- ---- arranging

-- the bytes are records as during a run
abbrev pub HasRecords : List ℕ → Type 0
HasRecords s = (rs : List Record) × Goods rs × (s ≡ enc_all rs)

-- the records before the first whose mark is wanted
unfoldable pub records_to : (ℕ → Bool) → List Record → List Record
records_to wanted [] = []
records_to wanted (r ∷ rs) = cond (wanted (mark r)) [] (r ∷ records_to wanted rs)

-- the records from it on
unfoldable pub records_from : (ℕ → Bool) → List Record → List Record
records_from wanted [] = []
records_from wanted (r ∷ rs) = cond (wanted (mark r)) (r ∷ rs) (records_from wanted rs)

-- the mark of a `++`, 43; of a record that left, or that is kept or changed; of one that is kept or changed
abbrev pub is_came : ℕ → Bool
is_came b = eqb b 43

abbrev pub is_past_came : ℕ → Bool
is_past_came b = leb 44 b

abbrev pub is_past_row : ℕ → Bool
is_past_row b = leb 60 b

-- the records up to the first `++`, and the `--` and `++` records from it on; what follows them
unfoldable pub through_row : List Record → List Record
through_row rs = records_to is_came rs ++ records_to is_past_row (records_from is_came rs)

unfoldable pub after_row : List Record → List Record
after_row rs = records_from is_past_row (records_from is_came rs)

-- the bytes s, in which records stand from `at` on, become z: those up to the end of the first row with a `++` are arranged; r is the place after them
abbrev pub ArrangesRow : List ℕ → ℕ → List ℕ → ℕ → Type 0
ArrangesRow s at z r =
    (before : List ℕ) (rs : List Record) → Goods rs → s ≡ before ++ enc_all rs → length before ≡ at
    → (z ≡ before ++ (enc_all (arrange (through_row rs)) ++ enc_all (after_row rs))) × (r ≡ at + length (enc_all (through_row rs)))

-- the bytes s become z: the same records, arranged
abbrev pub Arranges : List ℕ → List ℕ → Type 0
Arranges s z = (rs : List Record) → Goods rs → s ≡ enc_all rs → z ≡ enc_all (arrange rs)

-- ---- the end of a run

-- n bytes of journal from the buffer's start on, zeros after it
abbrev pub ClosesJournal : List ℕ → State → List ℕ → ℕ → Type 0
ClosesJournal j st k n =
    (b : List Record) (a : List Record) → Holds j st b a
    → (n ≡ journal_length (arrange (reverse_aux b a))) × (k ≡ journal_bytes (arrange (reverse_aux b a)) ++ zeros (length j - journal_length (arrange (reverse_aux b a))))
