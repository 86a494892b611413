use Rattle.items.proofs.Reading.{seen-in, seen_by, seen-is}
use Rattle.items.proofs.ends.here.Goals as goal

pub kind_of-kind-requires : goal.kind_of-kind-requires
kind_of-kind-requires c = seen-in _ _ c.requires

pub end_of-requires : goal.end_of-requires
end_of-requires c = seen_by _ _ _ c.kind_of-kind.ensures c.requires

pub returns : goal.returns
returns c = seen-is _ _ _ c.kind_of-kind.ensures _ c.class_of.ensures _ c.end_of.ensures
