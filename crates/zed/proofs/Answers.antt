-- A reader's answer as number, length and bytes. Assumes nothing.
use mathlib.Core.Path.{◌≡◌, ap, ◌∙◌}
use mathlib.Core.List.{List}
use Prim.Native.Nat.{ℕ}
use Rattle.definitions.specs.Listing.{Written, number_of, length_of, bytes_of}
use Rattle.journal.specs.Reading.{reading_number, reading_length, answered}
use Rattle.std.proofs.Common.{Result}
use Rattle.journal.specs.declared.Refusal.{Refusal}

pub answer : (r : Result ℕ Refusal) (d : List ℕ) (w : Written) (n len : ℕ) → answered r d ≡ w → n ≡ reading_number r → len ≡ reading_length r
    → (n ≡ number_of w) × ((len ≡ length_of w) × (d ≡ bytes_of w))
unfolding answered number_of length_of bytes_of
answer r d w n len e p q = (p ∙ ap number_of e, (q ∙ ap length_of e, ap bytes_of e))
