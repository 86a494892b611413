use mathlib.Core.Path.{ap, ◌∙◌}
use lib.ListN.{length}
use Rattle.text.specs.Buffer.{laid}
use Rattle.cases.proofs.Places.{hex-in}
use Rattle.cases.proofs.fields.bytes_at.Goals as goal

pub returns : goal.returns
returns c =
    let a = c.args in
    let is = hex-in a.k a.s.now _ c.field-f.ensures.0 (length a.out.now) in
    let e = c.from_hex.ensures in
    record { value = (e.value.0 ∙ ap length is, e.value.1); out_after = e.out_after ∙ ap (laid a.out.now 0) is }
