-- `script::qualified::put_strings` meets its contract. Assumes nothing.
use mathlib.Core.Path.{◌≡◌, ◌∙◌}
use native.Mathlib.Omega.{arith}
use lib.ListN.{length, length-set}
use Rattle.script.proofs.Qualifying.{can_write, string-room, string-small, pairs-stand, pairs-written, pairs_small}
use Rattle.script.proofs.qualified.put_strings.Goals as goal

pub head-requires : goal.head-requires
head-requires c = let given = c.requires in (pairs_small (given.2, given.4), omega (arith, given.3.named, given.3.inside, given.3.fits.small))

pub overflow_sub-part : goal.overflow_sub-part
overflow_sub-part c =
    let given = c.requires in
    let stands = pairs-stand _ _ _ _ _ given.3 given.4 in
    omega (arith, stands.first.ordered)

pub put_string-m-requires : goal.put_string-m-requires
put_string-m-requires c =
    let given = c.requires in
    let stands = pairs-stand _ _ _ _ _ given.3 given.4 in
    (can_write _ _ _ _ _ given.3 _ _ _ _ stands.first, simp length-set (omega (arith, string-room _ _ _ _ _ given.3 _ _ _ _ stands.first)))

pub string_word-requires : goal.string_word-requires
string_word-requires c =
    let given = c.requires in
    let stands = pairs-stand _ _ _ _ _ given.3 given.4 in
    (stands.ordered, omega (arith, stands.ends, stands.within, given.3.fits.small))

pub offset_bounds-w-m : goal.offset_bounds-w-m
offset_bounds-w-m c =
    let given = c.requires in
    let stands = pairs-stand _ _ _ _ _ given.3 given.4 in
    omega (arith, string-small _ _ _ _ _ given.3 _ _ _ _ stands.first, c.put_string-m.ensures.1)

pub bounds-w-m : goal.bounds-w-m
bounds-w-m c =
    let given = c.requires in
    let stands = pairs-stand _ _ _ _ _ given.3 given.4 in
    let room = string-room _ _ _ _ _ given.3 _ _ _ _ stands.first in
    let same : length c.put_string-m.new.words ≡ length c.args.w.now = c.put_string-m.auto.words ∙ length-set c.args.w.now c.args.k c.head.result in
    omega (arith, room, same, c.put_string-m.ensures.1)

pub overflow_add-m : goal.overflow_add-m
overflow_add-m c =
    let given = c.requires in
    let stands = pairs-stand _ _ _ _ _ given.3 given.4 in
    omega (arith, string-small _ _ _ _ _ given.3 _ _ _ _ stands.first, c.put_string-m.ensures.1)

pub shape_of-w : goal.shape_of-w
shape_of-w c = simp length-set (c.put_string-m.auto.words ∙ length-set c.args.w.now c.args.k c.head.result)

pub returns : goal.returns
returns c = λ s at shape room pairs.
    rw c.whole.ensures (pairs-written s _ _ at _ room pairs _ _ _ _ c.head.ensures c.put_string-m.ensures.0 c.put_string-m.ensures.1 c.string_word.ensures)
