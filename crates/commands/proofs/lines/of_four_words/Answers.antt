use Prim.Native.Nat.{◌+◌}
use mathlib.Core.Path.{sym, ◌∙◌}
use native.Mathlib.Omega.{arith}
use Rattle.editor.proofs.Parts.{passed-on}
use Rattle.items.proofs.Meaning.{first-in}
use Rattle.commands.proofs.Performed.{plain-replace, plain-insert, plainly, words-room}
use Rattle.commands.proofs.Lined.{four-in, replaces-as, lines-as}
use Rattle.commands.proofs.lines.of_four_words.Goals as goal

pub overflow_add-word : goal.overflow_add-word
overflow_add-word c = omega (arith, (four-in _ _ _ _ c.requires.2 c.requires.3 c.requires.4 c.requires.0).0)

pub offset_bounds-w-k : goal.offset_bounds-w-k
offset_bounds-w-k c = omega (arith, (four-in _ _ _ _ c.requires.2 c.requires.3 c.requires.4 c.requires.0).0)

pub bounds-w-k : goal.bounds-w-k
bounds-w-k c = omega (arith, (four-in _ _ _ _ c.requires.2 c.requires.3 c.requires.4 c.requires.0).0)

pub overflow_add-start : goal.overflow_add-start
overflow_add-start c = omega (arith, (four-in _ _ _ _ c.requires.2 c.requires.3 c.requires.4 c.requires.0).0)

pub offset_bounds-w-k-2 : goal.offset_bounds-w-k-2
offset_bounds-w-k-2 c = omega (arith, (four-in _ _ _ _ c.requires.2 c.requires.3 c.requires.4 c.requires.0).0)

pub bounds-w-k-2 : goal.bounds-w-k-2
bounds-w-k-2 c = omega (arith, (four-in _ _ _ _ c.requires.2 c.requires.3 c.requires.4 c.requires.0).0)

pub overflow_cast-start : goal.overflow_cast-start
overflow_cast-start c = omega (arith, c.shared_slice_known-4-1.given (c.args.k + 2))

pub overflow_add-end : goal.overflow_add-end
overflow_add-end c = omega (arith, (four-in _ _ _ _ c.requires.2 c.requires.3 c.requires.4 c.requires.0).0)

pub offset_bounds-w-k-3 : goal.offset_bounds-w-k-3
offset_bounds-w-k-3 c = omega (arith, (four-in _ _ _ _ c.requires.2 c.requires.3 c.requires.4 c.requires.0).0)

pub bounds-w-k-3 : goal.bounds-w-k-3
bounds-w-k-3 c = omega (arith, (four-in _ _ _ _ c.requires.2 c.requires.3 c.requires.4 c.requires.0).0)

pub overflow_cast-end : goal.overflow_cast-end
overflow_cast-end c = omega (arith, c.shared_slice_known-5-1.given (c.args.k + 3))

pub number_of-requires : goal.number_of-requires
number_of-requires c = first-in _ _ _ _ c.requires.2 c.requires.0

pub none_stands-requires : goal.none_stands-requires
none_stands-requires c = words-room c.requires.1

pub replace_span-requires : goal.replace_span-requires
replace_span-requires c = ((four-in _ _ _ _ c.requires.2 c.requires.3 c.requires.4 c.requires.0).1)

pub returns-then-none_stands : goal.returns-then-none_stands
returns-then-none_stands c = record { keeps = c.replace_span.ensures.keeps; long = c.replace_span.ensures.long; does = replaces-as _ _ _ _ c.requires.2 _ _ _ _ _ _ _ c.span_from.ensures c.number_of.ensures c.span_through-through.ensures c.if-kind-eq-REPLACE.true (plainly _ _ _ (plain-replace _ _ _) (sym c.none_stands.ensures ∙ c.if-none_stands.true) c.replace_span.ensures.does) }

pub replace_span-requires-then-kind-eq-REPLACE : goal.replace_span-requires-then-kind-eq-REPLACE
replace_span-requires-then-kind-eq-REPLACE c = (c.requires.1, (four-in _ _ _ _ c.requires.2 c.requires.3 c.requires.4 c.requires.0).1)

pub returns-then-kind-eq-REPLACE : goal.returns-then-kind-eq-REPLACE
returns-then-kind-eq-REPLACE c = record { keeps = c.replace_span-then-kind-eq-REPLACE.ensures.keeps; long = c.replace_span-then-kind-eq-REPLACE.ensures.long; does = replaces-as _ _ _ _ c.requires.2 _ _ _ _ _ _ _ c.span_from-then-kind-eq-REPLACE.ensures c.number_of.ensures c.span_through-through.ensures c.if-kind-eq-REPLACE.true c.replace_span-then-kind-eq-REPLACE.ensures.does }

pub none_stands-requires-2 : goal.none_stands-requires-2
none_stands-requires-2 c = words-room c.requires.1

pub overflow_cast-word : goal.overflow_cast-word
overflow_cast-word c = omega (arith, c.shared_slice_known-3-1.given (c.args.k + 1))

pub insert_at-requires : goal.insert_at-requires
insert_at-requires c = ((four-in _ _ _ _ c.requires.2 c.requires.3 c.requires.4 c.requires.0).1)

pub returns-then-none_stands-2 : goal.returns-then-none_stands-2
returns-then-none_stands-2 c = record { keeps = c.insert_at.ensures.keeps; long = c.insert_at.ensures.long; does = lines-as _ _ _ _ c.requires.2 _ _ _ _ c.requires.3 c.requires.4 c.if-kind-eq-REPLACE.false (plainly _ _ _ (plain-insert _ _) (sym c.none_stands-2.ensures ∙ c.if-none_stands-2.true) c.insert_at.ensures.does) }

pub overflow_cast-word-2 : goal.overflow_cast-word-2
overflow_cast-word-2 c = omega (arith, c.shared_slice_known-3-1.given (c.args.k + 1))

pub insert_at-requires-2 : goal.insert_at-requires-2
insert_at-requires-2 c = (c.requires.1, (four-in _ _ _ _ c.requires.2 c.requires.3 c.requires.4 c.requires.0).1)

pub returns : goal.returns
returns c = record {
  keeps = c.insert_at-2.ensures.keeps;
  long = c.insert_at-2.ensures.long;
  does = lines-as _ _ _ _ c.requires.2 _ _ _ _ c.requires.3 c.requires.4 c.if-kind-eq-REPLACE.false c.insert_at-2.ensures.does;
}
