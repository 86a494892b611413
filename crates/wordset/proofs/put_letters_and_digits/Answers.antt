-- `wordset::put_letters_and_digits` meets its contract. Assumes nothing.
use mathlib.Core.Path.{refl, ap, ◌∙◌}
use mathlib.Core.List.{List}
use Prim.Native.Nat.{ℕ}
use borrow.Author.Rules.{rules}
use Rattle.wordset.specs.Sets.{in_set}
use Rattle.wordset.specs.Decoding.{first_words}
use Rattle.wordset.specs.Laws.{written-set}
use Rattle.wordset.proofs.Setting.{first-set}
use Rattle.wordset.proofs.put_letters_and_digits.Goals as goal

pub returns : goal.returns
returns c =
    let a = c.args in
    let is = c.put_three.ensures in
    (is, ap (λ (w : List ℕ). in_set w a.k) is ∙ written-set a.w.now first_words a.k refl (search rules) ∙ first-set)
