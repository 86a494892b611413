use Rattle.definitions.specs.Journal.{kept}
use native.Mathlib.Omega.{arith}
use Rattle.reading.proofs.Text.{text-few, pass-left}
use Rattle.reading.proofs.lines.pass_text.Goals as goal

pub text_at-x-requires : goal.text_at-x-requires
text_at-x-requires c = (kept c.requires.1.0, c.requires.1.1, c.requires.1.2, c.requires.1.3)

pub copy_in-requires : goal.copy_in-requires
copy_in-requires c =
    let x = c.text_at-x.ensures (kept c.requires.1.0) c.requires.1.1 c.requires.1.2 c.requires.1.3 in
    (omega (arith, c.requires.2, text-few c.requires.1.0 x c.requires.1.2), omega (arith, x.within))

pub pass-requires : goal.pass-requires
pass-requires c =
    let x = c.text_at-x.ensures (kept c.requires.1.0) c.requires.1.1 c.requires.1.2 c.requires.1.3 in
    (c.requires.0, text-few c.requires.1.0 x c.requires.1.2, omega (arith, c.requires.2, c.copy_in.auto.d))

pub returns : goal.returns
returns c =
    let copied = c.copy_in in
    λ l z d good is stands.
    let x = c.text_at-x.ensures (kept l) z good is in
    pass-left l x _ _ d _ _ (omega (arith, c.requires.2, text-few l x good)) copied.ensures (c.pass.ensures d stands)
