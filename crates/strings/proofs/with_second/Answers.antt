-- `strings::with_second` meets its contract. Assumes nothing.
use Rattle.strings.proofs.Quoting.{pair_read}
use Rattle.strings.proofs.with_second.Goals as goal

pub string_end-end-requires : goal.string_end-end-requires
string_end-end-requires c = c.requires.3.1.within

pub returns : goal.returns
returns c = λ at y x on. pair_read c.args.s.now c.args.d at y x _ _ _ _ _ _ on c.string_end-end.ensures.text c.string_end-end.ensures.place c.past_delimiter.ensures.place c.string_end-end.ensures.within.0 c.past_delimiter.ensures.within.0 c.past_delimiter.ensures.within.1
