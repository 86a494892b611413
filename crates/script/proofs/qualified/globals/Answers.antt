-- `script::qualified::globals` meets its contract. Assumes nothing.
use Rattle.answers.proofs.Taking.{passed}
use Rattle.script.specs.Commands.{of_globals}
use Rattle.script.proofs.Qualifying.{globals-refused}
use Rattle.script.proofs.qualified.globals.Goals as goal

pub returns-in_err-both : goal.returns-in_err-both
returns-in_err-both c = rw (passed _ _ c.from_residual.ensures.1) (globals-refused _ _ _ _ _ c.requires _ _ _ c.in_err-both.ensures)

pub put_strings-requires : goal.put_strings-requires
put_strings-requires c = (_, _, _, c.requires, of_globals _ c.global_kind.ensures c.in_ok-both.ensures)

pub returns : goal.returns
returns c = c.put_strings.ensures _ _ _ c.requires (of_globals _ c.global_kind.ensures c.in_ok-both.ensures)
