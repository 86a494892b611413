use mathlib.Core.Path.{refl, ap, ◌∙◌}
use mathlib.Core.List.{List}
use Prim.Native.Nat.{ℕ}
use lib.ListN.{length}
use native.Mathlib.Omega.{arith}
use Rattle.theorems.specs.JournalBytes.{table-short}
use Rattle.editor.proofs.Opening.{opening-read, opened-bytes}
use Rattle.editor.proofs.Shown.{opens-as}
use Rattle.editor.proofs.Editor.open.Goals as goal

pub read_to-requires : goal.read_to-requires
read_to-requires c =
    omega (arith, c.write_opening-w.ensures.1, table-short c.args.t.now c.requires.0)

pub lent-requires : goal.lent-requires
lent-requires c =
    let w = c.write_opening-w in
    let t = c.args.t.now in
    (_, _, opening-read t c.requires.0 (c.clear.ensures ∙ opened-bytes t c.args.j.now w.new.j w.result.at w.ensures.0.0 (omega (arith, w.ensures.0.1))) refl refl w.ensures.1 refl refl refl refl c.read_to.ensures)

pub returns : goal.returns
returns c =
    let w = c.write_opening-w in
    let t = c.args.t.now in
    record {
      lent = c.lent.ensures.lent;
      long = ap (λ (k : List ℕ). length k) c.lent.ensures.same ∙ (c.clear.auto.j ∙ c.write_opening-w.auto.j);
      opens = opens-as c.lent.ensures.same c.lent.ensures.numbers (opening-read t c.requires.0 (c.clear.ensures ∙ opened-bytes t c.args.j.now w.new.j w.result.at w.ensures.0.0 (omega (arith, w.ensures.0.1))) refl refl w.ensures.1 refl refl refl refl c.read_to.ensures);
    }
