-- IS, CL, I and R in words: strings and lines as parts of the script. Assumes nothing.
use mathlib.Core.Path.{◌≡◌, refl, sym, ap, ◌∙◌}
use mathlib.Core.Logic.{inl, inr}
use mathlib.Core.Bool.{Bool, true, false, cond}
use mathlib.Core.Option.{none, some}
use mathlib.Core.List.{List, [], ◌∷◌}
use Prim.Native.Nat.{ℕ, suc, ◌+◌, ◌-◌, ◌≤◌, ◌<◌}
use native.Mathlib.Omega.{arith}
use lib.ListN.{length, take, drop, get_or, set, length-set, length-drop}
use lib.Seq.{get_or-set_same, get_or-set_other, length-take-le}
use lib.Dec.{eqb}
use borrow.Author.Tests.{eqb-false}
use Rattle.definitions.specs.Bytes.{Line}
use Rattle.definitions.specs.Edit.{Op, replace, insert, join}
use Rattle.definitions.specs.Control.{Item, simple}
use Rattle.definitions.specs.Reader.{Cursor, Got, got, refused, and_then, skip_spaces, quoted}
use Rattle.definitions.specs.Commands.{Decoded, whole, Shape, inserts_lines, replaces, line_span, optional_target, script_lines, replace_op, decode}
use Rattle.std.specs.Prelude.{Ok}
use Rattle.answers.specs.Answers.{whole_read}
use Rattle.lexer.specs.Places.{cursor_at}
use Rattle.lexer.specs.Answers.{ValueAt, part_in, QuotedRead}
use Rattle.lexer.specs.Targets.{target_of, through_of, span_of, option_of}
use Rattle.lexer.specs.Inserted.{lines_to}
use Rattle.lexer.proofs.Given.{goes_on, passed-up}
use Rattle.items.specs.Kinds.{insert_lines_kind, replace_kind}
use Rattle.items.specs.Words.{head, spot_code, part_of, StringIn, LinesIn, OpAt, ItemAt, head_with, string_word}
use Rattle.items.specs.Depth.{open_after}
use Rattle.script.specs.Reading.{CommandRoom, Unwritten, CommandIs, CommandRead}
use Rattle.script.specs.Commands.{Quotes, of_inserts, of_joins}
use Rattle.items.specs.Arguments.{span_number, span_word, spot_word}
use Rattle.script.proofs.Keeping.{kept_set}
use Rattle.script.proofs.Items.{two-stay, first-is, second_is, whole-two, target_code_lem}
use Rattle.script.proofs.LineSpans.{span-item}

-- ---- parts of the script

pub string-in : (s : List ℕ) (word start end : ℕ) → start ≤ end → end ≤ length s → word ≡ string_word start (end - start)
    → StringIn s word (take (end - start) (drop start s))
unfolding part_of
string-in s word start end le to e =
    let len : length (take (end - start) (drop start s)) ≡ end - start = length-take-le (end - start) (drop start s) (rw (length-drop start s) (omega arith)) in
    let n : start + length (take (end - start) (drop start s)) - start ≡ end - start = omega (arith, len) in
    record {
      start = start;
      word_is = e ∙ ap (string_word start) (sym len);
      inside = omega (arith, len);
      is = ap (λ (x : ℕ). take x (drop start s)) (sym n);
    }

pub lines-in : (s : List ℕ) (a b start end : ℕ) → a ≡ start → b ≡ end → start ≤ end → end ≤ length s → LinesIn s a b (lines_to s start end)
unfolding part_of lines_to
lines-in s a b start end p q le to = rw (p, q) (record { ordered = le; inside = to; is = refl })

-- ---- a command of one string: which it is, what it is read as, and its words

unfoldable quote_op : {kind : ℕ} {shape : Shape} → Quotes kind shape → Line → Op
quote_op (of_inserts e) l = insert none (l ∷ [])
quote_op (of_joins e) l = join l

quotes-decode : {kind : ℕ} {shape : Shape} (q : Quotes kind shape) (place : ℕ) (c : Cursor)
    → decode false place shape c ≡ and_then (quoted (skip_spaces c)) (λ l c₁. got (whole (simple place (quote_op q l))) c₁)
unfolding decode quote_op
quotes-decode (of_inserts e) place c = refl
quotes-decode (of_joins e) place c = refl

quotes-lies : {kind : ℕ} {shape : Shape} (q : Quotes kind shape) (s w : List ℕ) (k place : ℕ) (l : Line) → get_or w k 0 ≡ head kind place → StringIn s (get_or w (k + 1) 0) l
    → OpAt s w k (k + 2) place (quote_op q l)
unfolding OpAt quote_op
quotes-lies (of_inserts e) s w k place l first there = inl (refl, rw e at first, refl, (l, there, refl))
quotes-lies (of_joins e) s w k place l first there = (refl, rw e at first, there)

pub quotes-small : {kind : ℕ} → (shape : Shape) × Quotes kind shape → kind < 256
quotes-small (_, of_inserts e) = omega (arith, e)
quotes-small (_, of_joins e) = omega (arith, e)

-- ---- four words

module _ (w : List ℕ) (k a b c d : ℕ) (room : k + 19 < length w) where
  pub four-stay : Unwritten k 16 w (set (set (set (set w k a) (k + 1) b) (k + 2) c) (k + 3) d)
  four-stay = kept_set k 16 (k + 3) d w (set (set (set w k a) (k + 1) b) (k + 2) c) (omega arith) (omega arith)
      (kept_set k 16 (k + 2) c w (set (set w k a) (k + 1) b) (omega arith) (omega arith) (two-stay w k a b (omega arith)))

  pub four-0 : get_or (set (set (set (set w k a) (k + 1) b) (k + 2) c) (k + 3) d) k 0 ≡ a
  four-0 = get_or-set_other (set (set (set w k a) (k + 1) b) (k + 2) c) (k + 3) k d 0 (λ e. omega (arith, e))
      ∙ get_or-set_other (set (set w k a) (k + 1) b) (k + 2) k c 0 (λ e. omega (arith, e)) ∙ first-is w k a b (omega arith)

  pub four-1 : get_or (set (set (set (set w k a) (k + 1) b) (k + 2) c) (k + 3) d) (k + 1) 0 ≡ b
  four-1 = get_or-set_other (set (set (set w k a) (k + 1) b) (k + 2) c) (k + 3) (k + 1) d 0 (λ e. omega (arith, e))
      ∙ get_or-set_other (set (set w k a) (k + 1) b) (k + 2) (k + 1) c 0 (λ e. omega (arith, e)) ∙ second_is w k a b (omega arith)

  pub four-2 : get_or (set (set (set (set w k a) (k + 1) b) (k + 2) c) (k + 3) d) (k + 2) 0 ≡ c
  four-2 = get_or-set_other (set (set (set w k a) (k + 1) b) (k + 2) c) (k + 3) (k + 2) d 0 (λ e. omega (arith, e))
      ∙ get_or-set_same (set (set w k a) (k + 1) b) (k + 2) c 0 (simp length-set (omega arith))

  pub four-3 : get_or (set (set (set (set w k a) (k + 1) b) (k + 2) c) (k + 3) d) (k + 3) 0 ≡ d
  four-3 = get_or-set_same (set (set (set w k a) (k + 1) b) (k + 2) c) (k + 3) d 0 (simp length-set (omega arith))

module _ (s w : List ℕ) (place at k : ℕ) (r : CommandRoom s w place at k) where
  far : k + 31 < length w
  far = omega (arith, r.room, r.fits.work)

  pub whole_four : (x : Got Decoded) (i : Item) (next : ℕ) → ((n : ℕ) → open_after n i ≡ n + 0) → place + 2 ≤ next → next ≤ length s → (a b c d : ℕ) → x ≡ got (whole i) (cursor_at s next)
      → ItemAt s (set (set (set (set w k a) (k + 1) b) (k + 2) c) (k + 3) d) k (k + 4) i
      → CommandRead s w (set (set (set (set w k a) (k + 1) b) (k + 2) c) (k + 3) d) place k x (Ok (whole_read (k + 4) next))
  unfolding CommandIs
  whole_four x i next quiet from to a b c d e it = (
    four-stay w k a b c d (omega (arith, far)),
    (i, e, record { passed = omega arith; inside = to; forth = omega arith; two = omega arith; opening = quiet; item = it }),
  )

  -- ---- IS and CL

  module _ {kind : ℕ} {shape : Shape} (q : Quotes kind shape) (i : ℕ) (spaces : skip_spaces (cursor_at s at) ≡ cursor_at s i) where
    pub quotes-refused : (n p : ℕ) → quoted (cursor_at s i) ≡ refused n p → decode false place shape (cursor_at s at) ≡ refused n p
    quotes-refused n p e = quotes-decode q place (cursor_at s at) ∙ passed-up (quoted (skip_spaces (cursor_at s at))) _ n p (ap quoted spaces ∙ e)

    pub quotes-written : at ≤ i → (start end next v u : ℕ) → v ≡ head kind place → u ≡ string_word start (end - start)
        → ValueAt s (part_in s) (QuotedRead i) (quoted (cursor_at s i)) (record { start = start; end = end }) next
        → CommandRead s w (set (set w k v) (k + 1) u) place k (decode false place shape (cursor_at s at)) (Ok (whole_read (k + 2) next))
    unfolding ItemAt open_after
    quotes-written after start end next v u hd wd (read, (one, le, from), to) =
        let l : Line = take (end - start) (drop start s) in
        whole-two s w place at k r (decode false place shape (cursor_at s at)) (simple place (quote_op q l)) next (omega arith) to (λ n. omega arith) v u
        (quotes-decode q place (cursor_at s at) ∙ goes_on (quoted (skip_spaces (cursor_at s at))) _ l (cursor_at s next) (ap quoted spaces ∙ read))
        (quotes-lies q s _ k place l (first-is w k v u (omega (arith, far)) ∙ hd) (rw (second_is w k v u (omega (arith, far))) (string-in s u start end le (omega arith) wd)))

  -- ---- I and R: the lines of the script

  module _ (grouped : Bool) (from : ℕ) (f : List Line → Item) (x : Got Decoded)
      (is : x ≡ and_then (script_lines grouped (cursor_at s from)) (λ ls c₂. got (whole (f ls)) c₂)) where
    pub lines-refused : (n p : ℕ) → script_lines grouped (cursor_at s from) ≡ refused n p → x ≡ refused n p
    lines-refused n p e = is ∙ passed-up (script_lines grouped (cursor_at s from)) _ n p e

    pub lines-read : (start end next : ℕ) → script_lines grouped (cursor_at s from) ≡ got (lines_to s start end) (cursor_at s next)
        → x ≡ got (whole (f (lines_to s start end))) (cursor_at s next)
    lines-read start end next e = is ∙ goes_on (script_lines grouped (cursor_at s from)) _ (lines_to s start end) (cursor_at s next) e

  -- I
  module _ (grouped : Bool) where
    pub spot-refused : (n p : ℕ) → optional_target (cursor_at s at) ≡ refused n p → decode grouped place inserts_lines (cursor_at s at) ≡ refused n p
    unfolding decode
    spot-refused n p e = passed-up (optional_target (cursor_at s at)) _ n p e

    pub spot-read : (a from : ℕ) → optional_target (cursor_at s at) ≡ got (option_of a) (cursor_at s from) → decode grouped place inserts_lines (cursor_at s at)
        ≡ and_then (script_lines grouped (cursor_at s from)) (λ ls c₂. got (whole (simple place (insert (option_of a) ls))) c₂)
    unfolding decode
    spot-read a from e = goes_on (optional_target (cursor_at s at)) _ (option_of a) (cursor_at s from) e

  pub spot-code : (a : ℕ) → a ≤ 65537 → spot_code (option_of a) ≡ spot_word a
  unfolding spot_code option_of spot_word
  spot-code a le = go (eqb a 65537) refl
    where
      go : (t : Bool) → eqb a 65537 ≡ t → spot_code (cond t none (some (target_of a))) ≡ cond t 0 (suc a)
      go true e = refl
      go false e = ap suc (target_code_lem a (omega (arith, eqb-false a 65537 e)))

  pub inserts-written : (x : Got Decoded) (a start end next v u : ℕ) → a ≤ 65537 → v ≡ head insert_lines_kind place → u ≡ spot_word a
      → x ≡ got (whole (simple place (insert (option_of a) (lines_to s start end)))) (cursor_at s next) → at ≤ start → start ≤ end → next ≡ suc end → next ≤ length s
      → CommandRead s w (set (set (set (set w k v) (k + 1) u) (k + 2) start) (k + 3) end) place k x (Ok (whole_read (k + 4) next))
  unfolding ItemAt OpAt open_after
  inserts-written x a start end next v u small hd wd e from le nx to =
      whole_four x (simple place (insert (option_of a) (lines_to s start end))) next (λ n. omega arith) (omega (arith, r.named)) to v u start end e
      (inr (
        refl,
        four-0 w k v u start end room ∙ hd,
        four-1 w k v u start end room ∙ wd ∙ sym (spot-code a small),
        lines-in s (get_or (set (set (set (set w k v) (k + 1) u) (k + 2) start) (k + 3) end) (k + 2) 0) (get_or (set (set (set (set w k v) (k + 1) u) (k + 2) start) (k + 3) end) (k + 3) 0) start end
            (four-2 w k v u start end room) (four-3 w k v u start end room) le (omega arith),
      ))
    where
      room : k + 19 < length w
      room = omega (arith, far)

  -- R
  module _ (grouped : Bool) where
    pub span-refused : (n p : ℕ) → line_span (cursor_at s at) ≡ refused n p → decode grouped place replaces (cursor_at s at) ≡ refused n p
    unfolding decode
    span-refused n p e = passed-up (line_span (cursor_at s at)) _ n p e

    pub span-read : (a b from : ℕ) → line_span (cursor_at s at) ≡ got (span_of (record { first = a; last = b })) (cursor_at s from) → decode grouped place replaces (cursor_at s at)
        ≡ and_then (script_lines grouped (cursor_at s from)) (λ ls c₂. got (whole (simple place (replace (target_of a) (through_of b) ls))) c₂)
    unfolding decode span_of replace_op
    span-read a b from e = goes_on (line_span (cursor_at s at)) _ (span_of (record { first = a; last = b })) (cursor_at s from) e

  pub replaces-written : (x : Got Decoded) (a b start end next v u : ℕ) → a < 65536 → v ≡ head_with replace_kind place (span_number b) → u ≡ span_word a b
      → x ≡ got (whole (simple place (replace (target_of a) (through_of b) (lines_to s start end)))) (cursor_at s next) → at ≤ start → start ≤ end → next ≡ suc end → next ≤ length s
      → CommandRead s w (set (set (set (set w k v) (k + 1) u) (k + 2) start) (k + 3) end) place k x (Ok (whole_read (k + 4) next))
  unfolding ItemAt OpAt open_after
  replaces-written x a b start end next v u small hd wd e from le nx to =
      whole_four x (simple place (replace (target_of a) (through_of b) (lines_to s start end))) next (λ n. omega arith) (omega (arith, r.named)) to v u start end e (
        refl,
        span-item s (set (set (set (set w k v) (k + 1) u) (k + 2) start) (k + 3) end) k replace_kind place a b (four-0 w k v u start end room ∙ hd) (four-1 w k v u start end room ∙ wd) small (omega (arith, r.named, r.inside, r.fits.small)),
        lines-in s (get_or (set (set (set (set w k v) (k + 1) u) (k + 2) start) (k + 3) end) (k + 2) 0) (get_or (set (set (set (set w k v) (k + 1) u) (k + 2) start) (k + 3) end) (k + 3) 0) start end
            (four-2 w k v u start end room) (four-3 w k v u start end room) le (omega arith),
      )
    where
      room : k + 19 < length w
      room = omega (arith, far)
