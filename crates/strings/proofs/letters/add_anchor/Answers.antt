-- `strings::letters::add_anchor` meets its contract. each way out is one law of proofs/Adding.antt. Assumes nothing.
use mathlib.Core.Logic.{inl, inr}
use Rattle.strings.proofs.Adding.{anchored, counted, with-last, anchor-now}
use Rattle.strings.proofs.letters.add_anchor.Goals as goal

pub returns-then-q-ne0 : goal.returns-then-q-ne0
returns-then-q-ne0 c = let a = c.args in anchored a.q a.anchor c.if-q-ne0.true

pub returns-then-q-ne0-2 : goal.returns-then-q-ne0-2
returns-then-q-ne0-2 c = counted c.args.q c.args.anchor c.requires.2 c.if-q-ne0.false c.if-q-ne0-2.true

pub returns-then-anchor-ne2 : goal.returns-then-anchor-ne2
returns-then-anchor-ne2 c = with-last c.args.q c.args.anchor c.requires.2 c.if-q-ne0.false c.if-q-ne0-2.false c.if-q.true c.requires.0 c.requires.1 c.if-anchor-ne2.true

pub returns-else-anchor-ne2 : goal.returns-else-anchor-ne2
returns-else-anchor-ne2 c = anchor-now c.args.q c.args.anchor c.requires.2 c.if-q-ne0.false c.if-q-ne0-2.false (inr c.if-anchor-ne2.false) c.requires.1

pub returns-else-q : goal.returns-else-q
returns-else-q c = anchor-now c.args.q c.args.anchor c.requires.2 c.if-q-ne0.false c.if-q-ne0-2.false (inl c.if-q.false) c.requires.1
