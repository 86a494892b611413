use mathlib.Core.Path.{sym, ◌∙◌}
use native.Mathlib.Omega.{arith}
use Rattle.globals.proofs.Standing.{set_long}
use Rattle.commands.proofs.Performed.{words-room}
use Rattle.commands.proofs.Strings.{aims-read, string-fits, points-as, splits-as}
use Rattle.commands.proofs.qualified.aims.Goals as goal

pub overflow_add-at : goal.overflow_add-at
overflow_add-at c = omega (arith, (aims-read _ _ _ _ c.requires.3 c.requires.4 c.requires.0).quals.0)

pub quals_at-q-requires : goal.quals_at-q-requires
quals_at-q-requires c = (aims-read _ _ _ _ c.requires.3 c.requires.4 c.requires.0).quals

pub start_at-from-requires : goal.start_at-from-requires
start_at-from-requires c = omega (arith, (aims-read _ _ _ _ c.requires.3 c.requires.4 c.requires.0).quals.0)

pub length_at-requires : goal.length_at-requires
length_at-requires c = (aims-read _ _ _ _ c.requires.3 c.requires.4 c.requires.0).quals.0

pub overflow_add-to : goal.overflow_add-to
overflow_add-to c = omega (arith, (aims-read _ _ _ _ c.requires.3 c.requires.4 c.requires.0).string, c.length_at.ensures, c.start_at-from.ensures)

pub word_set-set-requires : goal.word_set-set-requires
word_set-set-requires c = words-room c.requires.1

pub split-requires : goal.split-requires
split-requires c = let fits = string-fits _ _ _ (aims-read _ _ _ _ c.requires.3 c.requires.4 c.requires.0) _ _ _ c.quals_at-q.ensures c.start_at-from.ensures c.length_at.ensures in
    (set_long c.args.w.now (words-room c.requires.1) _ c.word_set-set.ensures, c.requires.2, omega arith, fits.0, fits.1, fits.2)

pub returns-then-is_split : goal.returns-then-is_split
returns-then-is_split c = record { keeps = c.split.ensures.keeps; long = c.split.ensures.long; does = splits-as _ _ _ _ c.requires.3 _ _ _ _ _ _ _ _ c.quals_at-q.ensures c.start_at-from.ensures c.length_at.ensures _ c.word_set-set.ensures c.requires.4 (sym c.is_split.ensures ∙ c.if-is_split.true) c.split.ensures.does }

pub point-requires : goal.point-requires
point-requires c = let fits = string-fits _ _ _ (aims-read _ _ _ _ c.requires.3 c.requires.4 c.requires.0) _ _ _ c.quals_at-q.ensures c.start_at-from.ensures c.length_at.ensures in
    (set_long c.args.w.now (words-room c.requires.1) _ c.word_set-set.ensures, c.requires.2, omega arith, fits.0, fits.1, fits.2)

pub returns : goal.returns
returns c = record {
  keeps = c.point.ensures.keeps;
  long = c.point.ensures.long;
  does = points-as _ _ _ _ c.requires.3 _ _ _ _ _ _ _ _ c.quals_at-q.ensures c.start_at-from.ensures c.length_at.ensures _ c.word_set-set.ensures c.requires.4 (sym c.is_split.ensures ∙ c.if-is_split.false) c.point.ensures.does.1;
}
