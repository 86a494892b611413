use native.Mathlib.Omega.{arith}
use Rattle.globals.proofs.Standing.{set_long}
use Rattle.commands.proofs.Performed.{words-room}
use Rattle.commands.proofs.Strings.{alters-read, string-fits, second-there, second-good, strings-in, alters-as}
use Rattle.commands.proofs.qualified.alters.Goals as goal

pub overflow_add-at : goal.overflow_add-at
overflow_add-at c = omega (arith, (alters-read _ _ _ _ c.requires.3 c.requires.4 c.requires.5 c.requires.0).quals.0)

pub quals_at-q-requires : goal.quals_at-q-requires
quals_at-q-requires c = (alters-read _ _ _ _ c.requires.3 c.requires.4 c.requires.5 c.requires.0).quals

pub start_at-from-requires : goal.start_at-from-requires
start_at-from-requires c = omega (arith, (alters-read _ _ _ _ c.requires.3 c.requires.4 c.requires.5 c.requires.0).quals.0)

pub length_at-requires : goal.length_at-requires
length_at-requires c = (alters-read _ _ _ _ c.requires.3 c.requires.4 c.requires.5 c.requires.0).quals.0

pub overflow_add-to : goal.overflow_add-to
overflow_add-to c = omega (arith, (alters-read _ _ _ _ c.requires.3 c.requires.4 c.requires.5 c.requires.0).string, c.length_at.ensures, c.start_at-from.ensures)

pub end_at-requires : goal.end_at-requires
end_at-requires c = omega (arith, (alters-read _ _ _ _ c.requires.3 c.requires.4 c.requires.5 c.requires.0).quals.0)

pub offset_bounds-w-end_at : goal.offset_bounds-w-end_at
offset_bounds-w-end_at c = omega (arith, second-there _ _ _ _ c.requires.3 c.requires.4 c.requires.5 _ c.end_at.ensures c.requires.0)

pub bounds-w-end_at : goal.bounds-w-end_at
bounds-w-end_at c = second-there _ _ _ _ c.requires.3 c.requires.4 c.requires.5 _ c.end_at.ensures c.requires.0

pub overflow_add-end : goal.overflow_add-end
overflow_add-end c = omega (arith, (second-good _ _ _ _ c.requires.3 c.requires.4 c.requires.5 _ c.end_at.ensures _ c.string_start-start.ensures _ c.string_length.ensures c.requires.0).inside, (second-good _ _ _ _ c.requires.3 c.requires.4 c.requires.5 _ c.end_at.ensures _ c.string_start-start.ensures _ c.string_length.ensures c.requires.0).short)

pub word_set-requires : goal.word_set-requires
word_set-requires c = words-room c.requires.1

pub alter-requires : goal.alter-requires
alter-requires c = let fits = string-fits _ _ _ (alters-read _ _ _ _ c.requires.3 c.requires.4 c.requires.5 c.requires.0) _ _ _ c.quals_at-q.ensures c.start_at-from.ensures c.length_at.ensures in
    let good = second-good _ _ _ _ c.requires.3 c.requires.4 c.requires.5 _ c.end_at.ensures _ c.string_start-start.ensures _ c.string_length.ensures c.requires.0 in
    (set_long c.args.w.now (words-room c.requires.1) _ c.word_set.ensures, c.requires.2, strings-in _ _ _ _ _ fits.0 good, fits.1, fits.2)

pub returns : goal.returns
returns c = record {
  keeps = c.alter.ensures.keeps;
  long = c.alter.ensures.long;
  does = alters-as _ _ _ _ c.requires.3 _ _ _ _ _ _ _ _ c.quals_at-q.ensures c.start_at-from.ensures c.length_at.ensures _ c.word_set.ensures c.requires.4 c.requires.5 _ c.end_at.ensures _ c.string_start-start.ensures _ c.string_length.ensures _ c.change_of.ensures _ c.is_pointing.ensures c.alter.ensures.does;
}
