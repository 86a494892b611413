use mathlib.Core.Path.{◌∙◌}
use Rattle.matching.proofs.Words.{read-matches, read-formed, read_short}
use Rattle.matching.proofs.search.string_holds.Goals as goal

pub matches_line-requires : goal.matches_line-requires
matches_line-requires c =
    let pre = c.requires in
    let quals = c.quals_at-q.ensures in
    let starts = c.start_at-start.ensures in
    let lengths = c.length_at.ensures in
    (pre.1, pre.2, read-formed _ _ _ _ _ _ quals starts lengths pre.0.formed, pre.3, read_short _ _ _ _ _ _ quals starts lengths)

pub returns : goal.returns
returns c =
    c.matches_line.ensures
    ∙ read-matches _ _ _ _ _ _ c.quals_at-q.ensures c.start_at-start.ensures c.length_at.ensures _ _ _
