-- `script::qualified::alters` meets its contract. Assumes nothing.
use Rattle.answers.proofs.Taking.{passed}
use Rattle.script.specs.Commands.{of_alters}
use Rattle.script.proofs.Qualifying.{alters-refused}
use Rattle.script.proofs.qualified.alters.Goals as goal

pub returns-in_err-both : goal.returns-in_err-both
returns-in_err-both c = rw (passed _ _ c.from_residual.ensures.1) (alters-refused _ _ _ _ _ c.requires _ _ _ _ c.in_err-both.ensures)

pub put_strings-requires : goal.put_strings-requires
put_strings-requires c = (_, _, _, c.requires, of_alters _ _ c.change_kind.ensures c.in_ok-both.ensures)

pub returns : goal.returns
returns c = c.put_strings.ensures _ _ _ c.requires (of_alters _ _ c.change_kind.ensures c.in_ok-both.ensures)
