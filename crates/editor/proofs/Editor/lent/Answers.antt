use Rattle.editor.proofs.Editor.lent.Goals as goal

pub invariant_of-result : goal.invariant_of-result
invariant_of-result c = record { shows = ∣ c.requires ∣₁ }
