-- The commands' shapes as the reader answers them.
use Rattle.std.specs.Prelude.{true, false}
use Rattle.definitions.specs.Edit.{Change, after_it, before_it, exchange, Op, quit, next_line, previous_line, copy, cancel_globals, point_start, right, left, cut_byte, recase}
use Rattle.definitions.specs.Control.{Seek, forward, backward, deleting}
use Rattle.definitions.specs.Commands.{Shape, plain, leaves, seeks, moves, deletes, inserts_string, inserts_lines, replaces, alters, points, splits, joins, globals, names_words, repeats, branches, branches_eof, loops, unknown}
use Rattle.lexer.specs.declared.shapes.Plain.{Plain as PlainHere}
use Rattle.lexer.specs.declared.shapes.Plain.TheVariants.{Next, Previous, Copy, PointStart, Right, Left, CutByte, Lower, Upper, Quit, Cancel}
use Rattle.lexer.specs.declared.shapes.Seek.{Seek as SeekHere}
use Rattle.lexer.specs.declared.shapes.Seek.TheVariants.{Forward, Backward, Deleting}
use Rattle.lexer.specs.declared.shapes.Change.{Change as ChangeHere}
use Rattle.lexer.specs.declared.shapes.Change.TheVariants.{After, Before, Exchange}
use Rattle.lexer.specs.declared.shapes.Shape.{Shape as ShapeHere}
use Rattle.lexer.specs.declared.shapes.Shape.TheVariants.{Plain, Leaves, Seeks, Moves, Deletes, InsertsString, InsertsLines, Replaces, Alters, Points, Splits, Joins, Globals, Names, Repeats, Branches, BranchesEof, Loops, Unknown}

unfoldable pub plain_of : PlainHere → Op
plain_of Next = next_line
plain_of Previous = previous_line
plain_of Copy = copy
plain_of PointStart = point_start
plain_of Right = right
plain_of Left = left
plain_of CutByte = cut_byte
plain_of Lower = recase false
plain_of Upper = recase true
plain_of Quit = quit
plain_of Cancel = cancel_globals

unfoldable pub seek_of : SeekHere → Seek
seek_of Forward = forward
seek_of Backward = backward
seek_of Deleting = deleting

unfoldable pub change_of : ChangeHere → Change
change_of After = after_it
change_of Before = before_it
change_of Exchange = exchange

unfoldable pub shape_in : ShapeHere → Shape
shape_in (Plain p) = plain (plain_of p)
shape_in Leaves = leaves
shape_in (Seeks s) = seeks (seek_of s)
shape_in Moves = moves
shape_in Deletes = deletes
shape_in InsertsString = inserts_string
shape_in InsertsLines = inserts_lines
shape_in Replaces = replaces
shape_in (Alters c pointing) = alters (change_of c) pointing
shape_in (Points after) = points after
shape_in (Splits after) = splits after
shape_in Joins = joins
shape_in (Globals c) = globals (change_of c)
shape_in Names = names_words
shape_in Repeats = repeats
shape_in (Branches b) = branches b
shape_in BranchesEof = branches_eof
shape_in (Loops b) = loops b
shape_in Unknown = unknown
