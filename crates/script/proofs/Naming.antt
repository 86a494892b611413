-- WORD in words: its string decoded. Assumes nothing.
use Rattle.std.specs.Prelude.{Ok, Err}
use mathlib.Core.Path.{◌≡◌, refl, sym, ap, ◌∙◌}
use mathlib.Core.Bool.{true, false}
use mathlib.Core.List.{List, [], ◌∷◌}
use Prim.Native.Nat.{ℕ, suc, ◌+◌, ◌-◌, ◌≤◌, ◌<◌}
use native.Mathlib.Omega.{arith}
use lib.ListN.{length, take, drop, set}
use lib.Seq.{length-sets, get_or-set_same, get_or-set_other}
use Rattle.definitions.specs.Bytes.{Line, all_text}
use Rattle.definitions.specs.WordSet.{Named, Names, all_names, misused_at, names_from}
use Rattle.definitions.specs.Edit.{name_words}
use Rattle.definitions.specs.Control.{simple}
use Rattle.definitions.specs.Reader.{Got, got, refused, place_at, skip_spaces, quoted}
use Rattle.definitions.specs.Strings.{names_or33, word_names}
use Rattle.definitions.specs.Commands.{Decoded as CommandGot, whole, names_words, decode}
use Rattle.theorems.specs.JournalBytes.{line-text}
use Rattle.theorems.specs.ReaderSteps.{quoted-line}
use Rattle.wordset.specs.Sets.{SetAt}
use Rattle.wordset.specs.Decoding.{ThreePut, DecodedAs}
use Rattle.wordset.specs.Laws.{same_set}
use Rattle.wordset.specs.declared.Misused.{Misused}
use Rattle.std.specs.Prelude.{Ok}
use Rattle.answers.specs.Answers.{whole_read}
use Rattle.lexer.specs.Places.{cursor_at}
use Rattle.lexer.specs.Answers.{ValueAt, part_in, QuotedRead}
use Rattle.lexer.proofs.Given.{goes_on, passed-up}
use Rattle.items.specs.Kinds.{word_set_kind}
use Rattle.items.specs.Words.{head, OpAt, ItemAt}
use Rattle.items.specs.Depth.{open_after}
use Rattle.script.specs.Reading.{CommandRoom, Unwritten, CommandIs, CommandRead}
use Rattle.script.proofs.Keeping.{kept_set, kept-all}

-- ---- what the decoder answers

module _ (w : List ℕ) (k : ℕ) where
  pub misused-is : (ns : Names) (m : Misused) → DecodedAs ns w k (Err m) → ns ≡ misused_at m.at
  unfolding DecodedAs
  misused-is (all_names xs) m (is, set) = absurd (let y : ◌≡◌ {A = ℕ} 0 1 = cc in omega arith)
  misused-is (misused_at q) m is = let same : q ≡ m.at = cc in ap misused_at same

  pub set_is : (ns : Names) → DecodedAs ns w k (Ok tt) → (xs : List Named) × (ns ≡ all_names xs) × SetAt w k xs
  unfolding DecodedAs
  set_is (all_names xs) (is, set) = (xs, refl, set)
  set_is (misused_at q) is = absurd (let y : ◌≡◌ {A = ℕ} 0 1 = cc in omega arith)

-- ---- the command

module _ (s w : List ℕ) (place at k : ℕ) (r : CommandRoom s w place at k) (i : ℕ) (spaces : skip_spaces (cursor_at s at) ≡ cursor_at s i) where
  abbrev Read : Got CommandGot
  Read = decode false place names_words (cursor_at s at)

  pub names-refused : (n p : ℕ) → quoted (cursor_at s i) ≡ refused n p → Read ≡ refused n p
  unfolding decode word_names
  names-refused n p e = passed-up _ _ n p (passed-up (quoted (skip_spaces (cursor_at s at))) _ n p (ap quoted spaces ∙ e))

  module _ (start end next : ℕ) (there : ValueAt s (part_in s) (QuotedRead i) (quoted (cursor_at s i)) (record { start = start; end = end }) next) where
    abbrev string : Line
    string = take (end - start) (drop start s)

    -- what the decoder is handed
    pub names-asks : (k + 1 + 3 ≤ length w) × (start ≤ end) × (end ≤ length s) × (all_text string ≡ true)
    names-asks = (
      omega (arith, r.room, r.fits.work),
      there.1.1,
      omega (arith, there.1.2, there.2),
      line-text string (quoted-line s r.fits.form i string (cursor_at s next) there.0),
    )

    named-read : word_names (cursor_at s at) ≡ names_or33 (names_from start 0 string) (cursor_at s next)
    unfolding word_names place_at
    named-read =
        rw spaces (goes_on (quoted (cursor_at s i)) _ string (cursor_at s next) there.0)
        ∙ ap (λ (n : ℕ). names_or33 (names_from n 0 string) (cursor_at s next)) (sym there.1.0)

    pub names-misused : (p : ℕ) → names_from start 0 string ≡ misused_at p → Read ≡ refused 33 p
    unfolding decode names_or33
    names-misused p e = passed-up (word_names (cursor_at s at)) _ 33 p (named-read ∙ rw e)

    named-whole : (xs : List Named) → names_from start 0 string ≡ all_names xs → Read ≡ got (whole (simple place (name_words xs))) (cursor_at s next)
    unfolding decode names_or33
    named-whole xs e = goes_on (word_names (cursor_at s at)) _ xs (cursor_at s next) (named-read ∙ rw e)

    module _ (w' : List ℕ) (put : ThreePut w (k + 1) w') (v : ℕ) (hd : v ≡ head word_set_kind place) where
      far : k + 31 < length w
      far = omega (arith, r.room, r.fits.work)

      stay : Unwritten k 16 w (set w' k v)
      stay =
          let three : Unwritten k 16 w (set (set (set w (k + 1) put.0) (suc (k + 1)) put.1) (suc (suc (k + 1))) put.2) =
          kept_set k 16 (suc (suc (k + 1))) put.2 w _ (omega arith) (omega (arith, far))
          (kept_set k 16 (suc (k + 1)) put.1 w _ (omega arith) (omega (arith, far)) (kept_set k 16 (k + 1) put.0 w w (omega arith) (omega (arith, far)) (kept-all k 16 w))) in
          rw put.6 (kept_set k 16 k v w _ (omega arith) (omega (arith, far)) three)

      long : length w' ≡ length w
      long = ap length put.6 ∙ length-sets w (k + 1) (put.0 ∷ put.1 ∷ put.2 ∷ [])

      lies : (xs : List Named) → SetAt w' (k + 1) xs → OpAt s (set w' k v) k (k + 4) place (name_words xs)
      unfolding OpAt
      lies xs is = (
        refl,
        get_or-set_same w' k v 0 (omega (arith, long, far)) ∙ hd,
        same_set (set w' k v) w' (k + 1) (k + 1) (λ n few. get_or-set_other w' k (k + 1 + n) v 0 (λ e. omega (arith, e))) ∙ is,
      )

      pub names-written : (at ≤ i) → (xs : List Named) → names_from start 0 string ≡ all_names xs → SetAt w' (k + 1) xs
          → CommandRead s w (set w' k v) place k Read (Ok (whole_read (k + 4) next))
      unfolding CommandIs ItemAt open_after
      names-written after xs e is = (
        stay,
        (
          simple place (name_words xs),
          named-whole xs e,
          record {
            passed = omega (arith, r.named, there.1.0, there.1.1, there.1.2);
            inside = there.2;
            forth = omega arith;
            two = omega (arith, r.named, there.1.0, there.1.1, there.1.2);
            opening = λ n. omega arith;
            item = lies xs is;
          },
        ),
      )
