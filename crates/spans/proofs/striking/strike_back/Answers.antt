use mathlib.Core.Path.{refl, sym, ◌∙◌}
use mathlib.Core.List.{[]}
use Rattle.editor.proofs.Held.{stays_on, holds-lists, held-length}
use Rattle.spans.specs.Spans.{back_live}
use Rattle.spans.proofs.Struck.{struck-back}
use Rattle.spans.proofs.striking.strike_back.Goals as goal

pub strike_to-requires : goal.strike_to-requires
strike_to-requires c =
    let near = c.back_live-near in
    let w = back_live c.args.k c.requires.0 [] in
    (w.0, w.1, c.requires.1, near.ensures.0 c.requires.0 c.requires.1 c.requires.2, sym (held-length c.requires.2) ∙ sym near.auto.j)

pub returns : goal.returns
returns c =
    let near = c.back_live-near in
    let gone = c.strike_to in (
      (λ b a h. holds-lists (sym (struck-back _ b)) refl (gone.ensures.0 _ _ a (near.ensures.0 b a h) (sym (held-length h) ∙ sym near.auto.j))),
      stays_on near.ensures.1 gone.ensures.1,
    )
