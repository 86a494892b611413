-- `scans::all_are_of` meets its contract. Assumes nothing.
use Rattle.std.proofs.Common.{◌≡◌, true, ◌&&◌, ◌∙◌, rules}
use borrow.Author.Tests.{tests}
use Rattle.std.specs.List.{fold}
use Rattle.std.proofs.lemmas.Iterator.{YieldsList-from_slice}
use Rattle.std.proofs.lemmas.Iterator.Consumers.{fold_from_yields_List}
use Rattle.scans.specs.Leading.{is_of}
use Rattle.scans.proofs.Runs.{pass-fold}
use Rattle.scans.proofs.all_are_of.Goals as goal

pub returns : goal.returns
returns c =
    let kind = c.args.kind in
    let s = c.args.s.now in
    let folded : c.fold.result ≡ fold (λ all b. all && is_of kind b) true s =
    fold_from_yields_List _ (λ all b. all && is_of kind b) true c.fold.result c.fold.ensures.ran (YieldsList-from_slice s c.iter.ensures.rest) (λ a x b q k. search (rules, tests)) in
    folded ∙ pass-fold (is_of kind) s true
