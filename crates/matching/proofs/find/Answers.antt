use Rattle.matching.proofs.Finding.{by-string, by-pattern}
use Rattle.matching.proofs.find.Goals as goal

pub find_pattern-requires : goal.find_pattern-requires
find_pattern-requires c =
    let pre = c.requires in
    let t = c.text_of-t.ensures in
    (pre.0, t.ordered, t.inside, pre.3, pre.4, pre.2 c.if-q.true)

pub returns-then-q : goal.returns-then-q
returns-then-q c =
    let given = c.requires.2 c.if-q.true in
    by-pattern _ _ _ _ _ _ c.text_of-t.ensures _ c.if-q.true given.0 given.1 (c.find_pattern.ensures given.0 given.1)

pub returns : goal.returns
returns c = by-string _ _ _ _ _ _ c.text_of-t.ensures _ c.if-q.false c.find_string.ensures
