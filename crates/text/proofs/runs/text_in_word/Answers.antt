-- `text::runs::text_in_word` meets its contract: the test of eight bytes. Assumes nothing.
use Rattle.std.proofs.Common.{◌∙◌, arith}
use Rattle.text.proofs.Words.{word-read, text-test-eight}
use Rattle.text.proofs.runs.text_in_word.Goals as goal

pub returns : goal.returns
returns c =
    let l = c.args.bytes.now in
    let w = c.from_le_bytes-w.ensures ∙ word-read l c.told-bytes in
    text-test-eight l c.from_le_bytes-w.result c.told-bytes (λ k h. c.fits-bytes k) w (omega arith)
