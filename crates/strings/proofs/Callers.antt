-- What a caller has of a string that was read: room for its words. Assumes nothing.
use mathlib.Core.Path.{◌≡◌}
use mathlib.Core.Bool.{true}
use mathlib.Core.List.{List}
use Prim.Native.Nat.{ℕ, zero, suc, ◌+◌, ◌-◌, ◌*◌, ◌≤◌, ◌<◌}
use native.Mathlib.Omega.{arith}
use lib.ListN.{length}
use Rattle.definitions.specs.Table.{is_script}
use Rattle.matching.specs.declared.Quals.{Quals}
use Rattle.matching.specs.Quals.{columns_of, qualifiers_of}
use Rattle.matching.specs.Words.{columns_in, column_words, string_words, led_in, Writable}
use Rattle.strings.specs.Answers.{StringAt}
use Rattle.strings.proofs.Lines.{strings-short, script-short}

column-words : (from to : ℕ) → (length (column_words (columns_of from to)) ≤ 1) × (length (column_words (columns_of from to)) ≤ from)
unfolding column_words columns_of
column-words zero to = (omega arith, omega arith)
column-words (suc from) to = (omega arith, omega arith)

few_words : (columns from at start end next n : ℕ) → columns ≤ 1 → columns ≤ from → suc at ≤ start → start ≤ end → end ≤ next → next ≤ n
    → (0 < from → suc (suc at) ≤ start) → suc (suc columns) + 2 * (n - next) ≤ 2 * (n - at)
few_words columns zero at start end next n h g a o e w c = omega arith
few_words columns (suc from) at start end next n h g a o e w c = omega (arith, c (omega arith))

module _ (s : List ℕ) (at : ℕ) (q : Quals) (start end next : ℕ) (stands : StringAt s at q start end next) where
  -- two words, and a third for columns, which take bytes themselves: two words for each byte read are enough
  pub string-few : length (string_words (qualifiers_of q) start (end - start) (led_in q)) + 2 * (length s - next) ≤ 2 * (length s - at)
  unfolding string_words qualifiers_of columns_in
  string-few =
      let cw = column-words q.from q.to in
      few_words (length (column_words (columns_of q.from q.to))) q.from at start end next (length s)
      cw.0 cw.1 stands.after stands.ordered stands.ends stands.within stands.columned

  -- its closing delimiter is a byte too: a word is to spare
  pub string-spare : end < next → suc (length (string_words (qualifiers_of q) start (end - start) (led_in q))) + 2 * (length s - next) ≤ 2 * (length s - at)
  unfolding string_words qualifiers_of columns_in
  string-spare less =
      let cw = column-words q.from q.to in
      let few = few_words (length (column_words (columns_of q.from q.to))) q.from at start end (next - 1) (length s)
      cw.0 cw.1 stands.after stands.ordered (omega arith) (omega (arith, stands.within)) stands.columned in
      omega (arith, few, stands.within)

  pub string-writable : is_script s ≡ true → Writable q start (end - start)
  string-writable form = record {
    anchored = stands.fits.anchor;
    counted = stands.fits.count;
    first = stands.fits.from;
    last = stands.fits.to;
    starts = omega (arith, stands.ordered, stands.ends, stands.within, script-short s form);
    short = omega (arith, stands.short (strings-short s form));
  }
