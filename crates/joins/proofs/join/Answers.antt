use mathlib.Core.Path.{refl}
use Rattle.editor.proofs.Shown.{shown}
use Rattle.spans.proofs.Founds.{next-text-shown}
use Rattle.joins.proofs.Joining.{join-eof, join-none, has-next, has_there, join-long, has-text, join-done}
use borrow.Author.Rules.{rules}
use Rattle.joins.proofs.join.Goals as goal

pub returns-then-ed : goal.returns-then-ed
returns-then-ed c = record { keeps = refl; long = refl; does = join-eof _ c.if-ed.true }

pub read_next-next-requires : goal.read_next-next-requires
read_next-next-requires c = (shown c.args.ed.now.shows, c.if-ed.false)

pub invariant_of-ed : goal.invariant_of-ed
invariant_of-ed c = record { shows = next-text-shown _ c.args.ed.now.shows c.read_next-next.ensures }

pub returns-then-at-j : goal.returns-then-at-j
returns-then-at-j c = record { keeps = refl; long = refl; does = join-none _ c.if-ed.false _ c.read_next-next.ensures c.if-at-j.true }

pub join_text-len-requires : goal.join_text-len-requires
join_text-len-requires c =
    (c.requires.0, c.if-ed.false, has_there c.args.s.now c.if-ed.false _ c.read_next-next.ensures c.if-at-j.false c.requires.0, c.requires.1, search rules)

pub invariant_of-ed-2 : goal.invariant_of-ed-2
invariant_of-ed-2 c = record { shows = next-text-shown _ c.args.ed.now.shows c.read_next-next.ensures }

pub returns-then-len-gt255 : goal.returns-then-len-gt255
returns-then-len-gt255 c = record {
  keeps = refl;
  long = refl;
  does = join-long _ c.if-ed.false _ c.read_next-next.ensures c.if-at-j.false _ _ _ c.join_text-len.ensures c.if-len-gt255.true;
}

pub join_at-requires : goal.join_at-requires
join_at-requires c =
    (has-next c.args.s.now c.if-ed.false _ c.read_next-next.ensures c.if-at-j.false c.requires.0, search rules, has-text _ c.if-ed.false _ c.read_next-next.ensures c.if-at-j.false _ _ _ c.join_text-len.ensures c.if-len-gt255.false c.requires.1.1 c.requires.0)

pub returns : goal.returns
returns c = record {
  keeps = c.join_at.ensures.keeps;
  long = c.join_at.ensures.long;
  does = join-done _ c.if-ed.false _ c.read_next-next.ensures c.if-at-j.false _ _ _ c.join_text-len.ensures c.if-len-gt255.false _ _ c.join_at.ensures.does;
}
