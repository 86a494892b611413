use mathlib.Core.Path.{refl, sym, ap, ◌∙◌}
use Rattle.items.specs.Kinds.{is_global}
use Rattle.items.proofs.Meaning.{first-in}
use Rattle.commands.proofs.Performed.{without-table, ready-shown, ready-text, word-as, changes-left}
use Rattle.commands.proofs.perform.Goals as goal

pub kind_of-kind-requires : goal.kind_of-kind-requires
kind_of-kind-requires c = first-in _ _ _ _ refl c.requires.0

pub on_lines-requires : goal.on_lines-requires
on_lines-requires c = (c.requires.1, ready-shown c.requires.3)

pub of_two_words-requires : goal.of_two_words-requires
of_two_words-requires c = (c.requires.0, c.requires.1, c.requires.3, c.kind_of-kind.ensures, (sym c.shape_of.ensures ∙ c.in-2.is))

pub of_four_words-requires : goal.of_four_words-requires
of_four_words-requires c = (c.requires.0, c.requires.1, c.kind_of-kind.ensures, (sym c.shape_of.ensures ∙ c.in-3.is), (λ q. c.requires.2.2 (sym c.kind_of-kind.ensures ∙ q)))

pub aims-requires : goal.aims-requires
aims-requires c = (c.requires.0, c.requires.1, c.requires.3, c.kind_of-kind.ensures, (sym c.shape_of.ensures ∙ c.in-4.is))

pub alters-requires : goal.alters-requires
alters-requires c = (c.requires.0, c.requires.1, c.requires.3, c.kind_of-kind.ensures, (let n = c.in_default.in_default-own.rest in changes-left _ _ _ _ c.kind_of-kind.ensures _ c.shape_of.ensures n.0.0.0.1 n.0.0.1 n.0.1 n.1 c.requires.0), ap is_global c.kind_of-kind.ensures ∙ c.requires.2.0)

pub returns-in-1 : goal.returns-in-1
returns-in-1 c = record { keeps = c.on_lines.ensures.keeps; long = c.on_lines.ensures.long; does = word-as _ _ _ _ c.kind_of-kind.ensures _ c.shape_of.ensures _ _ _ _ _ c.in-1.is (λ q. c.requires.2.1 (sym c.kind_of-kind.ensures ∙ q)) c.on_lines.ensures.does }

pub returns-in-2 : goal.returns-in-2
returns-in-2 c = record { keeps = c.of_two_words.ensures.keeps; long = c.of_two_words.ensures.long; does = c.of_two_words.ensures.does }

pub returns-in-3 : goal.returns-in-3
returns-in-3 c = record { keeps = c.of_four_words.ensures.keeps; long = c.of_four_words.ensures.long; does = without-table _ _ c.of_four_words.ensures.does }

pub returns-in-4 : goal.returns-in-4
returns-in-4 c = record { keeps = c.aims.ensures.keeps; long = c.aims.ensures.long; does = c.aims.ensures.does }

pub returns-in_default : goal.returns-in_default
returns-in_default c = record {
  keeps = c.alters.ensures.keeps;
  long = c.alters.ensures.long;
  does = c.alters.ensures.does;
}
