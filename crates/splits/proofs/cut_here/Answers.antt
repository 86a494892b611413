use Rattle.splits.proofs.Splitting.{copied-within, cuts-here}
use borrow.Author.Rules.{rules}
use Rattle.splits.proofs.cut_here.Goals as goal

pub copy_current-n-requires : goal.copy_current-n-requires
copy_current-n-requires c =
    let w = c.requires in
    ((w.0, w.1, w.2.text), w.2.more, search rules)

pub slice_bounds-cut_line-end : goal.slice_bounds-cut_line-end
slice_bounds-cut_line-end c = (copied-within _ _ _ _ c.copy_current-n.ensures c.requires).0

pub cut_line-requires : goal.cut_line-requires
cut_line-requires c =
    let w = c.requires in
    let x = copied-within _ _ _ _ c.copy_current-n.ensures w in
    (w.2.more, x.1, x.2)

pub returns : goal.returns
returns c = record {
  keeps = c.cut_line.ensures.keeps;
  long = c.cut_line.ensures.long;
  does = cuts-here _ _ _ _ c.copy_current-n.ensures _ _ c.cut_line.ensures.does;
}
