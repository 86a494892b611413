use Rattle.definitions.specs.Reader.{packed, packed_from}
use Rattle.definitions.specs.Commands.{command_table, look_up, shape_of}
use Rattle.lexer.specs.Shapes.{shape_in, plain_of, seek_of, change_of}
use Rattle.lexer.proofs.Rows.{in-no-row}
use Rattle.lexer.proofs.shapes.command.Goals as goal

pub returns-in-77 : goal.returns-in-77
unfolding shape_of look_up command_table packed packed_from shape_in plain_of seek_of change_of
returns-in-77 c = rw c.in-77.is

pub returns-in-78 : goal.returns-in-78
unfolding shape_of look_up command_table packed packed_from shape_in plain_of seek_of change_of
returns-in-78 c = rw c.in-78.is

pub returns-in-80 : goal.returns-in-80
unfolding shape_of look_up command_table packed packed_from shape_in plain_of seek_of change_of
returns-in-80 c = rw c.in-80.is

pub returns-in-70 : goal.returns-in-70
unfolding shape_of look_up command_table packed packed_from shape_in plain_of seek_of change_of
returns-in-70 c = rw c.in-70.is

pub returns-in-16966 : goal.returns-in-16966
unfolding shape_of look_up command_table packed packed_from shape_in plain_of seek_of change_of
returns-in-16966 c = rw c.in-16966.is

pub returns-in-17478 : goal.returns-in-17478
unfolding shape_of look_up command_table packed packed_from shape_in plain_of seek_of change_of
returns-in-17478 c = rw c.in-17478.is

pub returns-in-68 : goal.returns-in-68
unfolding shape_of look_up command_table packed packed_from shape_in plain_of seek_of change_of
returns-in-68 c = rw c.in-68.is

pub returns-in-18771 : goal.returns-in-18771
unfolding shape_of look_up command_table packed packed_from shape_in plain_of seek_of change_of
returns-in-18771 c = rw c.in-18771.is

pub returns-in-18755 : goal.returns-in-18755
unfolding shape_of look_up command_table packed packed_from shape_in plain_of seek_of change_of
returns-in-18755 c = rw c.in-18755.is

pub returns-in-73 : goal.returns-in-73
unfolding shape_of look_up command_table packed packed_from shape_in plain_of seek_of change_of
returns-in-73 c = rw c.in-73.is

pub returns-in-82 : goal.returns-in-82
unfolding shape_of look_up command_table packed packed_from shape_in plain_of seek_of change_of
returns-in-82 c = rw c.in-82.is

pub returns-in-65 : goal.returns-in-65
unfolding shape_of look_up command_table packed packed_from shape_in plain_of seek_of change_of
returns-in-65 c = rw c.in-65.is

pub returns-in-66 : goal.returns-in-66
unfolding shape_of look_up command_table packed packed_from shape_in plain_of seek_of change_of
returns-in-66 c = rw c.in-66.is

pub returns-in-69 : goal.returns-in-69
unfolding shape_of look_up command_table packed packed_from shape_in plain_of seek_of change_of
returns-in-69 c = rw c.in-69.is

pub returns-in-16720 : goal.returns-in-16720
unfolding shape_of look_up command_table packed packed_from shape_in plain_of seek_of change_of
returns-in-16720 c = rw c.in-16720.is

pub returns-in-16976 : goal.returns-in-16976
unfolding shape_of look_up command_table packed packed_from shape_in plain_of seek_of change_of
returns-in-16976 c = rw c.in-16976.is

pub returns-in-17744 : goal.returns-in-17744
unfolding shape_of look_up command_table packed packed_from shape_in plain_of seek_of change_of
returns-in-17744 c = rw c.in-17744.is

pub returns-in-20545 : goal.returns-in-20545
unfolding shape_of look_up command_table packed packed_from shape_in plain_of seek_of change_of
returns-in-20545 c = rw c.in-20545.is

pub returns-in-20546 : goal.returns-in-20546
unfolding shape_of look_up command_table packed packed_from shape_in plain_of seek_of change_of
returns-in-20546 c = rw c.in-20546.is

pub returns-in-20562 : goal.returns-in-20562
unfolding shape_of look_up command_table packed packed_from shape_in plain_of seek_of change_of
returns-in-20562 c = rw c.in-20562.is

pub returns-in-21313 : goal.returns-in-21313
unfolding shape_of look_up command_table packed packed_from shape_in plain_of seek_of change_of
returns-in-21313 c = rw c.in-21313.is

pub returns-in-21314 : goal.returns-in-21314
unfolding shape_of look_up command_table packed packed_from shape_in plain_of seek_of change_of
returns-in-21314 c = rw c.in-21314.is

pub returns-in-17228 : goal.returns-in-17228
unfolding shape_of look_up command_table packed packed_from shape_in plain_of seek_of change_of
returns-in-17228 c = rw c.in-17228.is

pub returns-in-18245 : goal.returns-in-18245
unfolding shape_of look_up command_table packed packed_from shape_in plain_of seek_of change_of
returns-in-18245 c = rw c.in-18245.is

pub returns-in-18241 : goal.returns-in-18241
unfolding shape_of look_up command_table packed packed_from shape_in plain_of seek_of change_of
returns-in-18241 c = rw c.in-18241.is

pub returns-in-18242 : goal.returns-in-18242
unfolding shape_of look_up command_table packed packed_from shape_in plain_of seek_of change_of
returns-in-18242 c = rw c.in-18242.is

pub returns-in-17223 : goal.returns-in-17223
unfolding shape_of look_up command_table packed packed_from shape_in plain_of seek_of change_of
returns-in-17223 c = rw c.in-17223.is

pub returns-in-1464816196 : goal.returns-in-1464816196
unfolding shape_of look_up command_table packed packed_from shape_in plain_of seek_of change_of
returns-in-1464816196 c = rw c.in-1464816196.is

pub returns-in-62 : goal.returns-in-62
unfolding shape_of look_up command_table packed packed_from shape_in plain_of seek_of change_of
returns-in-62 c = rw c.in-62.is

pub returns-in-60 : goal.returns-in-60
unfolding shape_of look_up command_table packed packed_from shape_in plain_of seek_of change_of
returns-in-60 c = rw c.in-60.is

pub returns-in-35 : goal.returns-in-35
unfolding shape_of look_up command_table packed packed_from shape_in plain_of seek_of change_of
returns-in-35 c = rw c.in-35.is

pub returns-in-36 : goal.returns-in-36
unfolding shape_of look_up command_table packed packed_from shape_in plain_of seek_of change_of
returns-in-36 c = rw c.in-36.is

pub returns-in-37 : goal.returns-in-37
unfolding shape_of look_up command_table packed packed_from shape_in plain_of seek_of change_of
returns-in-37 c = rw c.in-37.is

pub returns-in-5394516 : goal.returns-in-5394516
unfolding shape_of look_up command_table packed packed_from shape_in plain_of seek_of change_of
returns-in-5394516 c = rw c.in-5394516.is

pub returns-in-18758 : goal.returns-in-18758
unfolding shape_of look_up command_table packed packed_from shape_in plain_of seek_of change_of
returns-in-18758 c = rw c.in-18758.is

pub returns-in-21836 : goal.returns-in-21836
unfolding shape_of look_up command_table packed packed_from shape_in plain_of seek_of change_of
returns-in-21836 c = rw c.in-21836.is

pub returns-in-1229342031 : goal.returns-in-1229342031
unfolding shape_of look_up command_table packed packed_from shape_in plain_of seek_of change_of
returns-in-1229342031 c = rw c.in-1229342031.is

pub returns-in-22344 : goal.returns-in-22344
unfolding shape_of look_up command_table packed packed_from shape_in plain_of seek_of change_of
returns-in-22344 c = rw c.in-22344.is

pub returns-in-21844 : goal.returns-in-21844
unfolding shape_of look_up command_table packed packed_from shape_in plain_of seek_of change_of
returns-in-21844 c = rw c.in-21844.is

pub returns-in-4278096 : goal.returns-in-4278096
unfolding shape_of look_up command_table packed packed_from shape_in plain_of seek_of change_of
returns-in-4278096 c = rw c.in-4278096.is

pub returns-in-87 : goal.returns-in-87
unfolding shape_of look_up command_table packed packed_from shape_in plain_of seek_of change_of
returns-in-87 c = rw c.in-87.is

pub returns-in_default : goal.returns-in_default
unfolding shape_of command_table packed packed_from shape_in
returns-in_default c = in-no-row (Unit {0}) command_table c.args.letters c.in_default.in_default-own.rest
