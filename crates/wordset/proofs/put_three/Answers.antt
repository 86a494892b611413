-- `wordset::put_three` meets its contract. Assumes nothing.
use mathlib.Core.Path.{◌≡◌}
use native.Mathlib.Omega.{arith}
use lib.ListN.{length}
use Rattle.wordset.proofs.Setting.{three-put}
use Rattle.wordset.proofs.put_three.Goals as goal

pub returns : goal.returns
returns c =
    let a = c.args in
    let three : length a.three ≡ 3 = omega arith in
    three-put a.w.now a.k _ a.three _ three c.requires (omega arith) c.copy_from_slice.ensures.after
