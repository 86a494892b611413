use mathlib.Core.Path.{ap, ◌∙◌}
use mathlib.Core.List.{List}
use Prim.Native.Nat.{ℕ}
use lib.Seq.{sets}
use Rattle.wordset.specs.Decoding.{first_words}
use Rattle.globals.specs.Standing.{set_place}
use Rattle.globals.proofs.begin.Goals as goal

pub returns : goal.returns
returns c =
    c.put_letters_and_digits.ensures.0
    ∙ ap (λ (v : List ℕ). sets v (set_place c.args.w.now) first_words) c.forget.ensures
