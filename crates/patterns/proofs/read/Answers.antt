-- `patterns::read` meets its contract. Assumes nothing.
use Rattle.std.proofs.lemmas.Result.{err_from_is_err_and}
use Rattle.patterns.proofs.Whole.{whole-fault, something-left, all-blank, is-pattern}
use Rattle.patterns.proofs.read.Goals.{then-all-s-via-then-all-s, then-all-s-via-else-all-s+then-all}
use Rattle.patterns.proofs.read.Goals as goal

pub returns-in_err-all : goal.returns-in_err-all
returns-in_err-all c =
    let p = err_from_is_err_and c.from_residual.result c.from_residual.ensures.1 in
    rw (p.1, p.2) (whole-fault _ c.in_err-all.ensures)

pub returns-then-all-s : goal.returns-then-all-s
returns-then-all-s c = elim c.then-all-s.branch [
  | then-all-s-via-then-all-s w ↦ something-left _ c.in_ok-all.ensures w.if-all-s.true
  | then-all-s-via-else-all-s+then-all w ↦ all-blank _ c.in_ok-all.ensures w.if-all-s.false w.if-all.true
]

pub returns : goal.returns
returns c = is-pattern _ c.in_ok-all.ensures c.if-all-s.false c.if-all.false
