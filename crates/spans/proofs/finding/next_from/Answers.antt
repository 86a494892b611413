use mathlib.Core.Path.{refl, ap, ◌∙◌}
use native.Mathlib.Omega.{arith}
use Rattle.editor.specs.Shows.{raised}
use Rattle.spans.proofs.Nexts.{live-asks, live-few, next-eof, next-new, next-old, next-reads}
use Rattle.spans.proofs.finding.next_from.Goals.{then-at-j+else-j-at-eq43, else-at-j}
use Rattle.spans.proofs.finding.next_from.Goals as goal

pub live_from-live-requires : goal.live_from-live-requires
live_from-live-requires c = live-asks c.requires

pub returns-then-j-at-eq43 : goal.returns-then-j-at-eq43
returns-then-j-at-eq43 c =
    λ e t n h w q.
    next-reads _ c.live_from-live.result c.live_from-live.ensures refl
    (λ b a s z. c.read_to.ensures ∙ ap (raised _) (next-new b a s z c.if-at-j.true c.if-j-at-eq43.true)) _ e t n h w q

pub overflow_add-live : goal.overflow_add-live
overflow_add-live c = omega (arith, live-few c.live_from-live.result c.requires c.live_from-live.ensures)

pub returns : goal.returns
returns c =
    λ e t n h w q.
    next-reads _ c.live_from-live.result c.live_from-live.ensures refl
    (λ b a s z. c.read_to-2.ensures ∙ ap (raised _) (elim c.if-at-j.branch [ then-at-j+else-j-at-eq43 w ↦ next-old b a s z w.if-at-j.true w.if-j-at-eq43.false | else-at-j w ↦ next-eof b a s z w.if-at-j.false ])) _ e t n h w q
