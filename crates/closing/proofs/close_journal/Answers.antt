-- `closing::close_journal` meets its contract. Assumes nothing.
use mathlib.Core.Path.{refl}
use Prim.Native.Nat.{◌+◌, ◌-◌}
use native.Mathlib.Omega.{arith}
use lib.ListN.{length}
use borrow.Rule.Slice.PartMut.{same_len_mid}
use Rattle.editor.proofs.Held.{held-length, held-gap}
use Rattle.closing.proofs.Closing.{has-records, close-all}
use Rattle.closing.proofs.close_journal.Goals as goal

pub overflow_sub-n : goal.overflow_sub-n
overflow_sub-n c = omega (arith, held-length c.requires.2)

pub shift_down-requires : goal.shift_down-requires
shift_down-requires c =
    let h = c.requires.2 in
    (h.order, omega (arith, held-length h), held-gap h)

pub slice_bounds-arrange-end : goal.slice_bounds-arrange-end
slice_bounds-arrange-end c =
    let h = c.requires.2 in
    omega (arith, h.order, held-length h, c.shift_down.auto.j)

pub arrange-requires : goal.arrange-requires
arrange-requires c =
    has-records c.args.j.now _ c.args.st _ c.shift_down.ensures refl c.requires.0 c.requires.1 c.requires.2

pub end_lines-requires : goal.end_lines-requires
end_lines-requires c =
    let h = c.requires.2 in
    let used = c.args.st.front + (length c.args.j.now - c.args.st.back) in
    let k = c.shift_down in
    let w = c.arrange in
    omega (arith, h.order, held-length h, k.auto.j, same_len_mid 0 (used - 0) k.new.j w.new.s w.auto.s)

pub returns : goal.returns
returns c =
    let k = c.shift_down in
    let w = c.arrange in
    λ b a h. close-all c.args.j.now k.new.j c.args.st _ k.ensures refl b a h w.new.s _ w.ensures w.auto.s c.end_lines.ensures
