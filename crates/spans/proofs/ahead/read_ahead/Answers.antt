use Rattle.editor.proofs.Shown.{shown}
use Rattle.spans.proofs.Nexts.{next-read}
use Rattle.spans.proofs.ReadsAhead.{read-as-far}
use Rattle.spans.proofs.ahead.read_ahead.Goals as goal

pub read_next-next-requires : goal.read_next-next-requires
read_next-next-requires c = (shown c.args.ed.now.shows, c.requires.1)

pub returns : goal.returns
returns c =
    let next = c.read_next-next in
    let r = c.read_to.ensures in
    record {
      keeps = r.keeps;
      long = r.long;
      does = λ e x t s h. read-as-far _ _ _ x e t (next-read _ (next.ensures e t h)) (r.does e x t s h);
    }
