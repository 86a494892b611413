use mathlib.Core.Path.{refl}
use Rattle.changes.proofs.Splicing.{writes-none, new_line, writes-on}
use borrow.Author.Rules.{rules}
use Rattle.changes.proofs.rewrite.splice_current.Goals as goal

pub splice_text-len-requires : goal.splice_text-len-requires
splice_text-len-requires c = let w = c.requires in
    (w.0, search rules, w.1, w.2)

pub returns-then-len-gt255 : goal.returns-then-len-gt255
returns-then-len-gt255 c = record {
  keeps = refl;
  long = refl;
  does = writes-none _ _ _ _ _ _ _ _ _ c.splice_text-len.ensures _ c.if-len-gt255.true;
}

pub rewrite_current-requires : goal.rewrite_current-requires
rewrite_current-requires c = let w = c.requires in
    (w.0.2.more, search rules, new_line _ _ _ _ _ _ _ _ _ c.splice_text-len.ensures c.if-len-gt255.false w.3 w.0)

pub returns : goal.returns
returns c = record {
  keeps = c.rewrite_current.ensures.keeps;
  long = c.rewrite_current.ensures.long;
  does = writes-on _ _ _ _ _ _ _ _ _ c.splice_text-len.ensures c.if-len-gt255.false _ _ _ c.rewrite_current.ensures.does;
}
