-- `cases::files::read_full` meets its contract. Assumes nothing.
use Rattle.std.proofs.Common.{◌≡◌, ◌-◌, ◌∙◌, length}
use borrow.Rule.Slice.PartMut.{put_mid, same_len_mid, take_put}
use Rattle.cases.proofs.Reading.{consumed-more, consumed-kept, front-more, front-within}
use Rattle.cases.proofs.files.read_full.Goals as goal
use Rattle.cases.proofs.files.read_full.Goals.{in-Ok, in-Err+else-ne}

pub loop-preserved : goal.loop-preserved
loop-preserved g c =
    let l = c.loop in
    let b = c.read.new.buf in
    let long : length (put_mid l.done (length l.buf - l.done) l.buf b) ≡ length l.buf = same_len_mid l.done (length l.buf - l.done) l.buf b c.read.auto.buf in
    elim c.match-read.branch [
      | in-Ok w ↦ let few = w.in-Ok.ensures.bound.0 in (
        rw w.done-is (front-within l.done w.in-Ok.n l.buf b _ l.invariant.0 few),
        long ∙ l.invariant.1,
        rw (w.done-is, front-more l.done w.in-Ok.n l.buf b _ l.invariant.0 few) (consumed-more _ _ _ _ _ l.invariant.2 w.in-Ok.ensures.bytes.0),
      )
      | in-Err+else-ne w ↦ (
        rw (w.done-is, long) l.invariant.0,
        long ∙ l.invariant.1,
        rw (w.done-is, take_put l.done (length l.buf - l.done) l.buf b l.invariant.0) (consumed-kept _ _ _ _ l.invariant.2 w.in-Err.ensures.bytes),
      )
    ]
