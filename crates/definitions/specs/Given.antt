-- What a run is given beside its table, script and budget, and what it carries from step to step beside the text (document 01, "Tables and the
-- journal"; document 02, wish 2: the standing globals; wish 8: the word set). Later wishes add to both; a command that does not look at them does not name them.
use Rattle.std.specs.Prelude.{Bool, List, [], ℕ}
use Rattle.definitions.specs.Bytes.{Line}
use Rattle.definitions.specs.WordSet.{Named, is_word_byte, letters_and_digits}

-- the journal buffer: so many bytes; or without bounds, which only theorems speak of
pub data Room : Type 0 where
  bytes : ℕ → Room
  boundless : Room

-- what is lent to the run and stays the same in it: the journal buffer
pub data Given : Type 0 where
  given : Room → Given

-- a change for every line passed: a string, and what comes to stand for each of its occurrences (W2.6)
pub data Global : Type 0 where
  global : Line → Line → Global

-- what one step may leave to the next beside the text: the standing globals, in the order given; the names of the bytes that count for W
pub data Carried : Type 0 where
  carried : List Global → List Named → Carried

-- as where a run begins: no global stands, and letters and digits count for W
unfoldable pub no_globals : Carried
no_globals = carried [] letters_and_digits

-- the bytes that then count for W
unfoldable pub words_of : Carried → ℕ → Bool
words_of (carried gs xs) = is_word_byte xs

-- "The set is replaced, not added to" (W8.1)
unfoldable pub with_words : Carried → List Named → Carried
with_words (carried gs xs) ys = carried gs ys

-- no global stands any more
unfoldable pub without_globals : Carried → Carried
without_globals (carried gs xs) = carried [] xs
