-- `searches::string_part` meets its contract. Assumes nothing.
use Rattle.answers.proofs.Taking.{passed}
use Rattle.searches.proofs.Strings.{ordered, can_write, string-parsed, string-refused}
use Rattle.searches.proofs.string_part.Goals as goal

pub returns-in_err-string : goal.returns-in_err-string
returns-in_err-string c = rw (passed _ _ c.from_residual.ensures.1) (string-refused c.args.s.now c.args.at _ _ c.in_err-string.ensures)

pub overflow_sub-part : goal.overflow_sub-part
overflow_sub-part c = ordered c.args.s.now c.args.w.now c.args.at c.args.k c.requires _ _ _ _ c.in_ok-string.ensures

pub put_string-m-requires : goal.put_string-m-requires
put_string-m-requires c = can_write c.args.s.now c.args.w.now c.args.at c.args.k c.requires _ _ _ _ c.in_ok-string.ensures

pub returns : goal.returns
returns c = string-parsed c.args.s.now c.args.w.now c.args.at c.args.k c.requires _ _ _ _ c.in_ok-string.ensures _ _ c.put_string-m.ensures.0 c.put_string-m.ensures.1
