-- `text::feeds::feed_in` meets its contract. Assumes nothing.
use Rattle.std.proofs.Common.{◌≡◌, false, ◌||◌, eqb, ◌∙◌, rules}
use borrow.Author.Tests.{tests}
use Rattle.std.specs.List.{fold}
use Rattle.std.proofs.lemmas.Iterator.{YieldsList-from_slice}
use Rattle.std.proofs.lemmas.Iterator.Consumers.{fold_from_yields_List}
use Rattle.text.proofs.LineFeeds.{feed-fold}
use Rattle.text.proofs.feeds.feed_in.Goals as goal

pub returns : goal.returns
returns c =
    let bytes = c.args.bytes.now in
    let folded : c.fold.result ≡ fold (λ found b. found || eqb b 10) false bytes =
    fold_from_yields_List _ (λ found b. found || eqb b 10) false c.fold.result c.fold.ensures.ran (YieldsList-from_slice bytes c.iter.ensures.rest) (λ a x b q k. search (rules, tests)) in
    folded ∙ feed-fold bytes false
