-- `script::searching::search_words` meets its contract. Assumes nothing.
use mathlib.Core.Path.{sym}
use Prim.Native.Nat.{◌-◌}
use native.Mathlib.Omega.{arith}
use lib.ListN.{length}
use lib.Seq.{length-take-le}
use Rattle.answers.proofs.Taking.{passed}
use Rattle.script.proofs.Searched.{search-room, search-small, search-found}
use Rattle.script.proofs.searching.search_words.Goals as goal

pub slice_bounds-search-end-2 : goal.slice_bounds-search-end-2
slice_bounds-search-end-2 c = sym (length-take-le (length c.args.w.now - 16) c.args.w.now (omega arith))

pub search-requires : goal.search-requires
search-requires c = search-room _ _ _ _ _ c.requires.0

pub returns-in_err-found : goal.returns-in_err-found
returns-in_err-found c = rw (passed _ _ c.from_residual.ensures.1) (c.in_err-found.ensures 0 (omega arith))

pub overflow_cast-found : goal.overflow_cast-found
overflow_cast-found c = omega (arith, search-small _ _ _ _ _ c.requires.0 _ c.search.auto.w c.in_ok-found.ensures.kept _ _ _ c.in_ok-found.ensures)

pub returns : goal.returns
returns c = rw c.put_two.ensures (search-found _ _ _ _ _ c.requires.0 _ c.search.auto.w c.in_ok-found.ensures.kept _ _ _ _ _ c.head.ensures c.in_ok-found.ensures)
