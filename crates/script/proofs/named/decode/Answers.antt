-- `script::named::decode` meets its contract. Assumes nothing.
use mathlib.Core.Path.{refl}
use Rattle.script.specs.Commands.{of_points, of_splits, of_inserts, of_joins}
use Rattle.script.proofs.Choosing.{is-seeks, is-moves, is-deletes, is-string, is-lines, is-replaces, is-alters, is-points, is-splits, is-joins, is-globals, is-names, is-branches, is-loops, is-unknown, long-branch, long-loop, plain-written, leaves-written, repeats-written, eof-written}
use Rattle.script.proofs.named.decode.Goals as goal

pub quotes-requires : goal.quotes-requires
quotes-requires c = (c.requires.0, (_, of_inserts refl))

pub aims-requires : goal.aims-requires
aims-requires c = (c.requires.0, (_, of_points _ c.point_kind.ensures))

pub aims-requires-in-Splits : goal.aims-requires-in-Splits
aims-requires-in-Splits c = (c.requires.0, (_, of_splits _ c.split_kind.ensures))

pub quotes-requires-in-Joins : goal.quotes-requires-in-Joins
quotes-requires-in-Joins c = (c.requires.0, (_, of_joins refl))

pub branches-requires : goal.branches-requires
branches-requires c = (c.requires.0, long-branch _ _ _ _ c.in-Branches.is c.requires.1)

pub loops-requires : goal.loops-requires
loops-requires c = (c.requires.0, long-loop _ _ _ _ c.in-Loops.is c.requires.1)

pub returns-in-Plain : goal.returns-in-Plain
returns-in-Plain c = plain-written _ _ _ _ _ _ c.requires.0 _ _ _ _ _ c.in-Plain.is c.plain_kind.ensures.0 c.whole_word.ensures

pub returns-in-Leaves : goal.returns-in-Leaves
returns-in-Leaves c = leaves-written _ _ _ _ _ _ c.requires.0 _ _ _ c.in-Leaves.is c.whole_word-in-Leaves.ensures

pub returns-in-Seeks : goal.returns-in-Seeks
returns-in-Seeks c = rw (is-seeks _ _ _ _ _ c.in-Seeks.is) c.seeks.ensures

pub returns-in-Moves : goal.returns-in-Moves
returns-in-Moves c = rw (is-moves _ _ _ _ c.in-Moves.is) c.moves.ensures

pub returns-in-Deletes : goal.returns-in-Deletes
returns-in-Deletes c = rw (is-deletes _ _ _ _ c.in-Deletes.is) c.deletes.ensures

pub returns-in-InsertsString : goal.returns-in-InsertsString
returns-in-InsertsString c = rw (is-string _ _ _ _ c.in-InsertsString.is) (c.quotes.ensures _ (of_inserts refl))

pub returns-in-InsertsLines : goal.returns-in-InsertsLines
returns-in-InsertsLines c = rw (is-lines _ _ _ _ c.in-InsertsLines.is) c.inserts_lines.ensures

pub returns-in-Replaces : goal.returns-in-Replaces
returns-in-Replaces c = rw (is-replaces _ _ _ _ c.in-Replaces.is) c.replaces.ensures

pub returns-in-Alters : goal.returns-in-Alters
returns-in-Alters c = rw (is-alters _ _ _ _ _ _ c.in-Alters.is) c.alters.ensures

pub returns-in-Points : goal.returns-in-Points
returns-in-Points c = rw (is-points _ _ _ _ _ c.in-Points.is) (c.aims.ensures _ (of_points _ c.point_kind.ensures))

pub returns-in-Splits : goal.returns-in-Splits
returns-in-Splits c = rw (is-splits _ _ _ _ _ c.in-Splits.is) (c.aims-in-Splits.ensures _ (of_splits _ c.split_kind.ensures))

pub returns-in-Joins : goal.returns-in-Joins
returns-in-Joins c = rw (is-joins _ _ _ _ c.in-Joins.is) (c.quotes-in-Joins.ensures _ (of_joins refl))

pub returns-in-Globals : goal.returns-in-Globals
returns-in-Globals c = rw (is-globals _ _ _ _ _ c.in-Globals.is) c.globals.ensures

pub returns-in-Names : goal.returns-in-Names
returns-in-Names c = rw (is-names _ _ _ _ c.in-Names.is) c.names.ensures

pub returns-in-Repeats : goal.returns-in-Repeats
returns-in-Repeats c = repeats-written _ _ _ _ _ _ c.requires.0 _ _ _ c.in-Repeats.is c.requires.1 c.prefix_word.ensures

pub returns-in-Branches : goal.returns-in-Branches
returns-in-Branches c = rw (is-branches _ _ _ _ _ c.in-Branches.is) c.branches.ensures

pub returns-in-BranchesEof : goal.returns-in-BranchesEof
returns-in-BranchesEof c = eof-written _ _ _ _ _ _ c.requires.0 _ _ _ _ c.in-BranchesEof.is c.requires.1 c.skip_then-next.ensures.place c.skip_then-next.ensures.within.0 c.skip_then-next.ensures.within.1 c.prefix_word-in-BranchesEof.ensures

pub returns-in-Loops : goal.returns-in-Loops
returns-in-Loops c = rw (is-loops _ _ _ _ _ c.in-Loops.is) c.loops.ensures

pub returns-in-Unknown : goal.returns-in-Unknown
returns-in-Unknown c = rw c.at.ensures (is-unknown _ _ _ _ c.in-Unknown.is)
