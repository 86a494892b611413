-- `seasons::write::put_of` meets its contract. By the kind and the texts. Assumes nothing.
use Rattle.std.proofs.Common.{refl}
use Rattle.seasons.proofs.Texts.{none-done-by, left-room, left-done, came-room, came-done}
use Rattle.seasons.proofs.write.put_of.Goals as goal

pub put_marked-requires : goal.put_marked-requires
put_marked-requires c =
    let a = c.args in
    let w = c.in-WhatLeft-Some-None in
    left-room a.j.now a.k.now a.kind a.line a.dest.now a.out c.requires.0 c.requires.1 w.is-0 _ w.is-1 w.is-2

pub put_marked-requires-in-WhatCame-None-Some : goal.put_marked-requires-in-WhatCame-None-Some
put_marked-requires-in-WhatCame-None-Some c =
    let a = c.args in
    let w = c.in-WhatCame-None-Some in
    came-room a.j.now a.k.now a.kind a.line a.dest.now a.out c.requires.0 c.requires.1 w.is-0 _ w.is-1 w.is-2

pub returns-in-WhatLeft-Some-None : goal.returns-in-WhatLeft-Some-None
returns-in-WhatLeft-Some-None c =
    let a = c.args in
    let w = c.in-WhatLeft-Some-None in
    left-done a.j.now a.k.now a.kind a.line a.dest.now a.out c.requires.0 c.requires.1 w.is-0 _ w.is-1 w.is-2 _ _ c.put_marked.ensures

pub returns-in-WhatCame-None-Some : goal.returns-in-WhatCame-None-Some
returns-in-WhatCame-None-Some c =
    let a = c.args in
    let w = c.in-WhatCame-None-Some in
    came-done a.j.now a.k.now a.kind a.line a.dest.now a.out c.requires.0 c.requires.1 w.is-0 _ w.is-1 w.is-2 _ _ c.put_marked-in-WhatCame-None-Some.ensures

pub returns-in_default : goal.returns-in_default
returns-in_default c = let a = c.args in none-done-by a.j.now a.k.now a.kind a.line a.dest.now a.out _ _ _ c.in_default.is-0 c.in_default.is-1 c.in_default.is-2 tt

pub returns-in_default-2 : goal.returns-in_default-2
returns-in_default-2 c = let a = c.args in none-done-by a.j.now a.k.now a.kind a.line a.dest.now a.out _ _ _ c.in_default.is-0 c.in_default.is-1 refl tt

pub returns-in_default-3 : goal.returns-in_default-3
returns-in_default-3 c = let a = c.args in none-done-by a.j.now a.k.now a.kind a.line a.dest.now a.out _ _ _ c.in_default.is-0 c.in_default.is-1 c.in_default.is-2 tt

pub returns-in_default-4 : goal.returns-in_default-4
returns-in_default-4 c = let a = c.args in none-done-by a.j.now a.k.now a.kind a.line a.dest.now a.out _ _ _ c.in_default.is-0 c.in_default.is-1 refl tt
