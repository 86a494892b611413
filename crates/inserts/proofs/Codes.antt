-- Lines to move to by the numbers that stand for them. Assumes nothing.
use mathlib.Core.Path.{◌≡◌, refl, ap, ◌∙◌}
use mathlib.Core.Bool.{true}
use mathlib.Core.Option.{Option, none, some}
use Prim.Native.Nat.{ℕ, ◌-◌, ◌≤◌}
use native.Mathlib.Omega.{arith}
use lib.Dec.{leb}
use borrow.Author.Tests.{leb-true, ne_eqb}
use Rattle.definitions.specs.Editor.{Target, here, line, eof}
use Rattle.theorems.specs.GoodItems.{is_number, good_target, good_option}
use Rattle.items.specs.Words.{target_code, spot_code}
use Rattle.editor.specs.Shows.{target_numbered}
use Rattle.editor.proofs.Records.{both}
use Rattle.editor.proofs.Moving.{target-here, target-eof, target-line}
use Rattle.inserts.specs.Lines.{spot_of}

number-in : (n : ℕ) → is_number n ≡ true → (1 ≤ n) × (n ≤ 65535)
number-in n h =
    let x : (leb 1 n ≡ true) × (leb n 65535 ≡ true) = both (leb 1 n) (leb n 65535) h in
    (leb-true 1 n x.0, leb-true n 65535 x.1)

-- the number of a script's target stands for it
pub target_code_lem : (a : Target) → good_target a ≡ true → target_numbered (target_code a) ≡ a
unfolding target_code good_target
target_code_lem here good = target-here 0 refl
target_code_lem (line n) good = target-line n (λ z. omega (arith, (number-in n good).0)) (λ z. omega (arith, (number-in n good).1))
target_code_lem eof good = target-eof 65536 refl

pub spot-none : (n : ℕ) → n ≡ 0 → spot_of n ≡ none
unfolding spot_of
spot-none n q = rw q

pub spot-some : (n : ℕ) → (n ≡ 0 → ⊥) → spot_of n ≡ some (target_numbered (n - 1))
unfolding spot_of
spot-some n h = rw (ne_eqb n 0 h)

-- the number of a script's line for I
pub spot-code : (a : Option Target) → good_option a ≡ true → spot_of (spot_code a) ≡ a
unfolding spot_code good_option
spot-code none good = spot-none 0 refl
spot-code (some a) good =
    let less : spot_code (some a) - 1 ≡ target_code a = omega arith in
    spot-some (spot_code (some a)) (λ z. omega arith) ∙ ap (λ (n : ℕ). some (target_numbered n)) less ∙ ap some (target_code_lem a good)
