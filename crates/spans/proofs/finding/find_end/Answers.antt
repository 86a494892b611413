use native.Mathlib.Omega.{arith}
use Rattle.editor.proofs.Shown.{shown}
use Rattle.spans.proofs.Standing.{stands-in}
use Rattle.spans.proofs.Ends.{finds-20, finds-alone, finds-all, finds-28, finds-21, finds-23, finds-through}
use Rattle.spans.proofs.finding.find_end.Goals as goal

pub returns-then-at-end : goal.returns-then-at-end
returns-then-at-end c = λ e t h. finds-20 _ e t h _ c.if-at-end.true

pub returns-then-through-eq0 : goal.returns-then-through-eq0
returns-then-through-eq0 c = λ e t h. finds-alone _ e t h c.if-at-end.false _ c.if-through-eq0.true _ c.record_end.ensures

pub returns-then-through-eq65536 : goal.returns-then-through-eq65536
returns-then-through-eq65536 c = λ e t h. finds-all _ e t h c.if-at-end.false _ c.if-through-eq65536.true c.read_to.ensures

pub returns-then-through-st : goal.returns-then-through-st
returns-then-through-st c = λ e t h. finds-28 _ e t h c.if-at-end.false _ c.if-through-eq0.false c.if-through-eq65536.false c.if-through-st.true

pub returns-then-st-through : goal.returns-then-st-through
returns-then-st-through c = λ e t h. finds-21 _ e t h c.if-at-end.false _ c.if-through-eq0.false c.if-through-eq65536.false c.read_to-s.ensures c.if-through-st.false c.if-st-through.true

pub bounds-ed-last : goal.bounds-ed-last
bounds-ed-last c = stands-in (c.source_at-last.ensures _ _ (shown c.args.ed.now.shows).2.holds).stands

pub returns-then-ed-last-eq45 : goal.returns-then-ed-last-eq45
returns-then-ed-last-eq45 c = λ e t h. finds-23 _ e t h c.if-at-end.false _ c.if-through-eq0.false c.if-through-eq65536.false c.read_to-s.ensures c.if-through-st.false _ (c.source_at-last.ensures _ _ h.holds) c.if-ed-last-eq45.true

pub record_end-requires-2 : goal.record_end-requires-2
record_end-requires-2 c = omega (arith, stands-in (c.source_at-last.ensures _ _ (shown c.args.ed.now.shows).2.holds).stands)

pub returns : goal.returns
returns c = λ e t h. finds-through _ e t h c.if-at-end.false _ c.if-through-eq0.false c.if-through-eq65536.false c.read_to-s.ensures c.if-through-st.false _ (c.source_at-last.ensures _ _ h.holds) c.if-ed-last-eq45.false _ c.record_end-2.ensures

pub overflow_add-st : goal.overflow_add-st
overflow_add-st c = omega (arith, (shown c.args.ed.now.shows).2.holds.few)

pub read_to-requires : goal.read_to-requires
read_to-requires c = (shown c.args.ed.now.shows).2.holds.few

pub read_to-s-requires : goal.read_to-s-requires
read_to-s-requires c = (shown c.args.ed.now.shows).2.holds.few

pub source_at-last-requires : goal.source_at-last-requires
source_at-last-requires c = ((_, _, (shown c.args.ed.now.shows).2.holds), omega (arith, c.if-through-st.false), omega (arith, c.if-st-through.false))
