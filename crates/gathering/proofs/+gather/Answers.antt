-- `gathering::gather`, which calls itself, meets its contract: where the bytes are cut, and how they stand when one part is gathered, both are, and they are
-- put together. Assumes nothing.
use Rattle.std.proofs.Common.{arith}
use Rattle.gathering.proofs.Pieces.{gathered-length}
use Rattle.gathering.proofs.Cuts.{middle-cuts, middle-none}
use Rattle.gathering.proofs.Halves.{first-shorter, second-shorter, half-of, both-of, turn-fits, both-gathered}
use Rattle.gathering.proofs.+gather.Goals as goal

pub gather_line-requires : goal.gather_line-requires
gather_line-requires t c = middle-none _ _ c.middle-m.ensures c.if-m-eq0.true

pub slice_bounds-gather-end : goal.slice_bounds-gather-end
slice_bounds-gather-end t c = let cut = middle-cuts _ _ c.middle-m.ensures c.if-m-eq0.false in omega arith

pub gather-p-requires : goal.gather-p-requires
gather-p-requires t c = (first-shorter _ _ t (middle-cuts _ _ c.middle-m.ensures c.if-m-eq0.false) c.decreases, tt)

pub slice_bounds-gather-count-2 : goal.slice_bounds-gather-count-2
slice_bounds-gather-count-2 t c = let half = half-of c.middle-m.ensures c.if-m-eq0.false c.gather-p.ensures in omega arith

pub slice_bounds-gather-start-2 : goal.slice_bounds-gather-start-2
slice_bounds-gather-start-2 t c = let half = half-of c.middle-m.ensures c.if-m-eq0.false c.gather-p.ensures in omega arith

pub slice_bounds-gather-end-2 : goal.slice_bounds-gather-end-2
slice_bounds-gather-end-2 t c = let half = half-of c.middle-m.ensures c.if-m-eq0.false c.gather-p.ensures in omega arith

pub gather-q-requires : goal.gather-q-requires
gather-q-requires t c = (second-shorter _ _ _ _ t (half-of c.middle-m.ensures c.if-m-eq0.false c.gather-p.ensures) c.decreases, tt)

pub overflow_add-m : goal.overflow_add-m
overflow_add-m t c = let both = both-of c.middle-m.ensures c.if-m-eq0.false c.gather-p.ensures c.gather-q.ensures in omega arith

pub slice_bounds-rotate-count : goal.slice_bounds-rotate-count
slice_bounds-rotate-count t c = let both = both-of c.middle-m.ensures c.if-m-eq0.false c.gather-p.ensures c.gather-q.ensures in omega arith

pub slice_bounds-rotate-start : goal.slice_bounds-rotate-start
slice_bounds-rotate-start t c = let both = both-of c.middle-m.ensures c.if-m-eq0.false c.gather-p.ensures c.gather-q.ensures in omega arith

pub slice_bounds-rotate-end : goal.slice_bounds-rotate-end
slice_bounds-rotate-end t c = let both = both-of c.middle-m.ensures c.if-m-eq0.false c.gather-p.ensures c.gather-q.ensures in omega arith

pub overflow_sub-m : goal.overflow_sub-m
overflow_sub-m t c = let both = both-of c.middle-m.ensures c.if-m-eq0.false c.gather-p.ensures c.gather-q.ensures in omega arith

pub rotate-requires : goal.rotate-requires
rotate-requires t c = turn-fits _ _ _ _ _ (both-of c.middle-m.ensures c.if-m-eq0.false c.gather-p.ensures c.gather-q.ensures)

pub overflow_add-result : goal.overflow_add-result
overflow_add-result t c = let both = both-of c.middle-m.ensures c.if-m-eq0.false c.gather-p.ensures c.gather-q.ensures in omega arith

pub shape_of-s : goal.shape_of-s
shape_of-s t c = gathered-length _ _ _ (both-gathered _ _ _ _ _ _ (both-of c.middle-m.ensures c.if-m-eq0.false c.gather-p.ensures c.gather-q.ensures) c.rotate.ensures)

pub returns : goal.returns
returns t c = both-gathered _ _ _ _ _ _ (both-of c.middle-m.ensures c.if-m-eq0.false c.gather-p.ensures c.gather-q.ensures) c.rotate.ensures
