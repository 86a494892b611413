use Rattle.answers.proofs.Taking.{passed}
use Rattle.lexer.proofs.Inserts.{lines-no-end, lines-no-z, lines_are}
use Rattle.lexer.proofs.lines.script_lines.Goals as goal

pub returns-in_err-start : goal.returns-in_err-start
returns-in_err-start c = rw (passed _ _ c.from_residual.ensures.1) (lines-no-end c.args.in_group c.args.s.now c.args.at _ _ c.in_err-start.ensures)

pub returns-in_err-z : goal.returns-in_err-z
returns-in_err-z c = rw (passed _ _ c.from_residual-in_err-z.ensures.1) (lines-no-z c.args.in_group c.args.s.now c.args.at _ c.in_ok-start.ensures _ _ c.in_err-z.ensures)

pub returns : goal.returns
returns c = lines_are c.args.in_group c.args.s.now c.args.at _ c.in_ok-start.ensures _ _ c.in_ok-z.ensures
