use Rattle.control.proofs.Ending.{item_in, item-two}
use Rattle.control.proofs.Leaving.{group-none, group-is}
use Rattle.control.proofs.Moving.{grouped-none, grouped-is}
use Rattle.control.proofs.bodies.is_group.Goals as goal

pub end_of-start-requires : goal.end_of-start-requires
end_of-start-requires c = let p = c.requires.0 in (item_in p.0 _ _ _ p.1 p.2 p.3 p.4 p.5 p.6, item-two p.0 _ _ _ p.1 p.2 p.3 p.4 p.5 p.6 _ c.kind_of.ensures)

pub returns-then-end-start : goal.returns-then-end-start
returns-then-end-start c = ((λ s d g place o body h. group-none _ _ _ _ _ c.kind_of.ensures c.end_of-start.ensures s d g place o body h c.if-end-start.true), grouped-none _ _ _ _ _ c.kind_of.ensures c.end_of-start.ensures c.if-end-start.true)

pub returns : goal.returns
returns c = ((λ s d g place o body h. group-is _ _ _ _ _ c.kind_of.ensures c.end_of-start.ensures s d g place o body h c.if-end-start.false _ c.kind_of-2.ensures), grouped-is _ _ _ _ _ c.kind_of.ensures c.end_of-start.ensures c.if-end-start.false _ c.kind_of-2.ensures)
