use Prim.Native.Nat.{◌+◌}
use mathlib.Core.Path.{refl, sym, ◌∙◌}
use native.Mathlib.Omega.{arith}
use Rattle.items.specs.Ends.{is_one_word}
use Rattle.editor.proofs.Parts.{passed-on}
use Rattle.items.proofs.Meaning.{first-in, second-in}
use Rattle.commands.proofs.Performed.{anyhow, plain-move, plain-delete, plainly, plainly-joins, words-room, without-table, ready-shown, ready-text}
use Rattle.commands.proofs.Lined.{string-in, moves-as, string-as, joins-as, deletes-as}
use Rattle.commands.proofs.lines.of_two_words.Goals as goal

pub overflow_add-word : goal.overflow_add-word
unfolding is_one_word
overflow_add-word c = omega (arith, second-in _ _ _ _ c.requires.3 _ c.requires.4 refl c.requires.0)

pub offset_bounds-w-k : goal.offset_bounds-w-k
unfolding is_one_word
offset_bounds-w-k c = omega (arith, second-in _ _ _ _ c.requires.3 _ c.requires.4 refl c.requires.0)

pub bounds-w-k : goal.bounds-w-k
unfolding is_one_word
bounds-w-k c = second-in _ _ _ _ c.requires.3 _ c.requires.4 refl c.requires.0

pub none_stands-requires : goal.none_stands-requires
none_stands-requires c = words-room c.requires.1

pub overflow_cast-word : goal.overflow_cast-word
overflow_cast-word c = omega (arith, c.shared_slice_known-4-1.given (c.args.k + 1))

pub returns-then-none_stands : goal.returns-then-none_stands
returns-then-none_stands c = record { keeps = c.move_to.ensures.keeps; long = c.move_to.ensures.long; does = without-table _ _ (moves-as _ _ _ _ c.requires.3 _ _ _ _ c.if-kind-eq-MOVE.true (plainly _ _ _ (plain-move _) (sym c.none_stands.ensures ∙ c.if-none_stands.true) c.move_to.ensures.does)) }

pub overflow_cast-word-then-kind-eq-MOVE : goal.overflow_cast-word-then-kind-eq-MOVE
overflow_cast-word-then-kind-eq-MOVE c = omega (arith, c.shared_slice_known-4-1.given (c.args.k + 1))

pub move_to-requires-then-kind-eq-MOVE : goal.move_to-requires-then-kind-eq-MOVE
move_to-requires-then-kind-eq-MOVE c = c.requires.1

pub returns-then-kind-eq-MOVE : goal.returns-then-kind-eq-MOVE
returns-then-kind-eq-MOVE c = record { keeps = c.move_to-then-kind-eq-MOVE.ensures.keeps; long = c.move_to-then-kind-eq-MOVE.ensures.long; does = without-table _ _ (moves-as _ _ _ _ c.requires.3 _ _ _ _ c.if-kind-eq-MOVE.true c.move_to-then-kind-eq-MOVE.ensures.does) }

pub number_of-requires : goal.number_of-requires
number_of-requires c = first-in _ _ _ _ c.requires.3 c.requires.0

pub none_stands-requires-then-kind-eq-DELETE : goal.none_stands-requires-then-kind-eq-DELETE
none_stands-requires-then-kind-eq-DELETE c = words-room c.requires.1

pub returns-then-none_stands-2 : goal.returns-then-none_stands-2
returns-then-none_stands-2 c = record { keeps = c.delete_span.ensures.keeps; long = c.delete_span.ensures.long; does = without-table _ _ (deletes-as _ _ _ _ c.requires.3 _ _ _ _ _ _ _ c.span_from.ensures c.number_of.ensures c.span_through-through.ensures c.if-kind-eq-DELETE.true (plainly _ _ _ (plain-delete _ _) (sym c.none_stands-then-kind-eq-DELETE.ensures ∙ c.if-none_stands-2.true) c.delete_span.ensures.does)) }

pub delete_span-requires-then-kind-eq-DELETE : goal.delete_span-requires-then-kind-eq-DELETE
delete_span-requires-then-kind-eq-DELETE c = c.requires.1

pub returns-then-kind-eq-DELETE : goal.returns-then-kind-eq-DELETE
returns-then-kind-eq-DELETE c = record { keeps = c.delete_span-then-kind-eq-DELETE.ensures.keeps; long = c.delete_span-then-kind-eq-DELETE.ensures.long; does = without-table _ _ (deletes-as _ _ _ _ c.requires.3 _ _ _ _ _ _ _ c.span_from-then-kind-eq-DELETE.ensures c.number_of.ensures c.span_through-through.ensures c.if-kind-eq-DELETE.true c.delete_span-then-kind-eq-DELETE.ensures.does) }

pub none_stands-requires-then-kind-eq-JOIN : goal.none_stands-requires-then-kind-eq-JOIN
none_stands-requires-then-kind-eq-JOIN c = words-room c.requires.1

pub join-requires : goal.join-requires
join-requires c = (ready-shown c.requires.2, string-in _ _ _ _ c.requires.3 c.requires.4 c.if-kind-eq-MOVE.false c.if-kind-eq-DELETE.false _ refl _ c.string_start-from.ensures _ c.string_length-n.ensures c.requires.0)

pub returns-then-none_stands-3 : goal.returns-then-none_stands-3
returns-then-none_stands-3 c = record { keeps = c.join.ensures.keeps; long = c.join.ensures.long; does = joins-as _ _ _ _ c.requires.3 _ _ _ _ _ c.string_start-from.ensures _ c.string_length-n.ensures _ c.if-kind-eq-JOIN.true (plainly-joins _ _ _ (sym c.none_stands-then-kind-eq-JOIN.ensures ∙ c.if-none_stands-3.true) c.join.ensures.does) }

pub join-requires-then-kind-eq-JOIN : goal.join-requires-then-kind-eq-JOIN
join-requires-then-kind-eq-JOIN c = (c.requires.1, ready-shown c.requires.2, string-in _ _ _ _ c.requires.3 c.requires.4 c.if-kind-eq-MOVE.false c.if-kind-eq-DELETE.false _ refl _ c.string_start-from.ensures _ c.string_length-n.ensures c.requires.0)

pub returns-then-kind-eq-JOIN : goal.returns-then-kind-eq-JOIN
returns-then-kind-eq-JOIN c = record { keeps = c.join-then-kind-eq-JOIN.ensures.keeps; long = c.join-then-kind-eq-JOIN.ensures.long; does = joins-as _ _ _ _ c.requires.3 _ _ _ _ _ c.string_start-from.ensures _ c.string_length-n.ensures _ c.if-kind-eq-JOIN.true c.join-then-kind-eq-JOIN.ensures.does }

pub insert_line-requires : goal.insert_line-requires
insert_line-requires c = string-in _ _ _ _ c.requires.3 c.requires.4 c.if-kind-eq-MOVE.false c.if-kind-eq-DELETE.false _ refl _ c.string_start-from.ensures _ c.string_length-n.ensures c.requires.0

pub returns : goal.returns
returns c = record {
  keeps = c.insert_line.ensures.keeps;
  long = c.insert_line.ensures.long;
  does = without-table _ _ (string-as _ _ _ _ c.requires.3 _ _ _ _ _ c.string_start-from.ensures _ c.string_length-n.ensures c.requires.4 c.if-kind-eq-MOVE.false c.if-kind-eq-DELETE.false c.if-kind-eq-JOIN.false (anyhow _ _ _ c.insert_line.ensures.does));
}
