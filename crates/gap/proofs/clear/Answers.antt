-- `gap::clear` meets its contract. Assumes nothing.
use Rattle.std.proofs.Common.{◌≡◌, rules}
use Rattle.gap.specs.Gap.{zeros}
use Rattle.gap.proofs.Laws.{clear-lent}
use Rattle.gap.proofs.clear.Goals as goal

pub returns : goal.returns
returns c =
    let filled : c.fill.new.self ≡ zeros c.args.n = search rules in
    clear-lent c.args.j.now c.fill.new.self c.args.from c.args.n filled
