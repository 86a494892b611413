use mathlib.Core.Path.{refl}
use mathlib.Core.Path.{sym, ◌∙◌}
use Rattle.items.specs.Simple.{line_op}
use borrow.Author.Tests.{ne_eqb}
use Rattle.commands.proofs.Performed.{quits, anyhow, anyhow-with, plain-next, plainly, handed, words-room, shown-text}
use Rattle.commands.proofs.one_word.on_lines.Goals as goal

pub none_stands-requires : goal.none_stands-requires
none_stands-requires c = words-room c.requires.0

pub returns-then-none_stands : goal.returns-then-none_stands
unfolding line_op
returns-then-none_stands c = record { keeps = c.next_line.ensures.keeps; long = c.next_line.ensures.long; does = handed _ _ (rw c.in-17.is) (plainly _ _ _ plain-next (sym c.none_stands.ensures ∙ c.if-none_stands.true) c.next_line.ensures.does) }

pub next_line-requires-in-17 : goal.next_line-requires-in-17
next_line-requires-in-17 c = c.requires.0

pub returns-in-16 : goal.returns-in-16
unfolding line_op
returns-in-16 c = record { keeps = refl; long = refl; does = anyhow-with _ _ (rw c.in-16.is) (quits _ _ _) }

pub returns-else-none_stands : goal.returns-else-none_stands
unfolding line_op
returns-else-none_stands c = record { keeps = c.next_line-in-17.ensures.keeps; long = c.next_line-in-17.ensures.long; does = handed _ _ (rw c.in-17.is) c.next_line-in-17.ensures.does }

pub returns-in-18 : goal.returns-in-18
unfolding line_op
returns-in-18 c = record { keeps = c.previous_line.ensures.keeps; long = c.previous_line.ensures.long; does = handed _ _ (rw c.in-18.is) (anyhow _ _ _ c.previous_line.ensures.does) }

pub returns-in-19 : goal.returns-in-19
unfolding line_op
returns-in-19 c = record { keeps = c.copy_line.ensures.keeps; long = c.copy_line.ensures.long; does = anyhow-with _ _ (rw c.in-19.is) c.copy_line.ensures.does }

pub returns-in_default : goal.returns-in_default
unfolding line_op
returns-in_default c = record {
  keeps = c.on_bytes.ensures.keeps;
  long = c.on_bytes.ensures.long;
  does = let n = c.in_default.in_default-own.rest in anyhow-with _ _ (rw (ne_eqb _ _ n.0.0.0.1, ne_eqb _ _ n.0.0.1, ne_eqb _ _ n.0.1, ne_eqb _ _ n.1)) c.on_bytes.ensures.does;
}
