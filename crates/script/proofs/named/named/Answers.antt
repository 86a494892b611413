-- `script::named::named` meets its contract. Assumes nothing.
use Rattle.script.proofs.Choosing.{room_of, in_groups, named-is}
use Rattle.script.proofs.NameLengths.{prefix-name}
use Rattle.script.proofs.named.named.Goals as goal

pub decode-c-requires : goal.decode-c-requires
decode-c-requires c = (room_of _ _ _ _ _ _ c.requires.0.1 c.requires.1 c.requires.2, prefix-name _ _ _ _ c.command-shape.ensures c.requires.3)

pub finish-requires : goal.finish-requires
finish-requires c = (_, _, _, c.requires.0.0, _, c.requires.0.1, c.decode-c.ensures)

pub returns : goal.returns
returns c = λ acc h. rw (named-is _ _ _ _ _ _ _ _ (in_groups _ _) c.command-shape.ensures) (c.finish.ensures _ _ _ acc _ h c.decode-c.ensures)
