use Rattle.zed.proofs.Answers.{answer}
use Rattle.zed.proofs.zed_listing.Goals as goal

pub returns : goal.returns
returns c =
    let r = c.listing in
    let e = answer r.result r.new.dest _ _ _ r.ensures c.answer.ensures.value c.answer.ensures.len_after in
    record { number = e.0; length = e.1.0; bytes = e.1.1 }
