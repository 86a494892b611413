-- M, D, IS, CL, R and I: what their words are read as. Assumes nothing.
use mathlib.Core.Path.{◌≡◌, refl, ap, ◌∙◌}
use mathlib.Core.Bool.{Bool, true, false}
use mathlib.Core.Option.{none}
use mathlib.Core.List.{List, [], ◌∷◌}
use Prim.Native.Nat.{ℕ, ◌+◌, ◌≤◌, ◌<◌}
use native.Mathlib.Omega.{arith}
use lib.ListN.{length, take, drop, get_or}
use lib.Dec.{eqb}
use borrow.Author.Tests.{eqb-true, eqb-false}
use Rattle.definitions.specs.Bytes.{Line, is_line, lines_of}
use Rattle.definitions.specs.Editor.{Target, Through, alone, up_to, to_eof}
use Rattle.definitions.specs.StepProgram.{state}
use Rattle.definitions.specs.Edit.{Op, step}
use Rattle.theorems.specs.GoodItems.{good_through}
use Rattle.strings.proofs.Lines.{script-short}
use Rattle.items.specs.Kinds.{pair_shape, four_shape, shape_of, move_kind, delete_kind, join_kind, replace_kind, word_set_kind}
use Rattle.items.specs.Words.{kind_at, number_at, part_of, StringIn}
use Rattle.items.specs.Arguments.{string_start, string_length, span_from, span_through}
use Rattle.items.specs.Simple.{CommandAt}
use Rattle.items.proofs.Meaning.{SpanRead, through_code, moving, deleting, stringing, replacing, lining, form_of, Means, pair_left, four-left, is-insert, is_join, meant, meant-as}
use Rattle.items.proofs.Strings.{string-inside, string-is}
use Rattle.editor.specs.declared.State.{State}
use Rattle.editor.specs.Stops.{Moved}
use Rattle.editor.specs.Records.{LineIn}
use Rattle.editor.specs.Shows.{lent, Answered, target_numbered}
use Rattle.reading.specs.Carrying.{PerformsBy}
use Rattle.inserts.specs.Lines.{Insertable, spot_of}
use Rattle.inserts.proofs.Codes.{target_code_lem, spot-code}
use Rattle.inserts.proofs.Script.{insertable}
use Rattle.spans.specs.Spans.{through_of}
use Rattle.spans.proofs.Ends.{through-alone, through-all, through-number}
use Rattle.commands.specs.Performing.{SomeCommand, PerformsAt, PerformsLines, PerformsWith}

-- the number of a script's `through` stands for it
through_code_lem : (b : Through) → good_through b ≡ true → through_of (through_code b) ≡ b
unfolding through_code
through_code_lem alone good = through-alone 0 refl
through_code_lem (up_to n) good = through-number n good
through_code_lem to_eof good = through-all 65536 refl

module _ (s w : List ℕ) (k kind : ℕ) (is : kind ≡ kind_at w k) where
  -- ---- what the functions ask

  -- the string of IS or CL
  pub string-in : shape_of kind ≡ pair_shape → (kind ≡ move_kind → ⊥) → (kind ≡ delete_kind → ⊥) → (word : ℕ) → word ≡ get_or w (k + 1) 0 → (from : ℕ) → from ≡ string_start word → (n : ℕ) → n ≡ string_length word
      → SomeCommand s w k → LineIn s from n
  unfolding Means
  string-in shape a b word word_is from from_is n n-is (op, h) = on (pair_left s w k h.end kind op shape a b (meant s w k kind is op h))
    where
      on : Means s w k h.end kind stringing op → (from + n ≤ length s) × (is_line (take n (drop from s)) ≡ true)
      on (l, ends, x, good, which) =
          let short = script-short s h.form in
          rw (from_is, n-is, word_is) (string-inside x short, ap is_line (string-is x short) ∙ good)

  -- R and I: their words, and the lines
  pub four-in : shape_of kind ≡ four_shape → (kind ≡ word_set_kind → ⊥) → SomeCommand s w k → (k + 3 < length w) × Insertable s (get_or w (k + 2) 0) (get_or w (k + 3) 0)
  unfolding form_of Means
  four-in shape named (op, h) = on (eqb kind replace_kind) refl
    where
      on : (t : Bool) → eqb kind replace_kind ≡ t → (k + 3 < length w) × Insertable s (get_or w (k + 2) 0) (get_or w (k + 3) 0)
      on true e = lines (meant-as s w k kind is replacing (ap form_of (eqb-true kind replace_kind e)) op h)
        where
          lines : Means s w k h.end kind replacing op → (k + 3 < length w) × Insertable s (get_or w (k + 2) 0) (get_or w (k + 3) 0)
          lines (a, b, ls, q, ends, span, x, good) = (omega (arith, ends, h.inside), insertable h.form x good)
      on false e = lines (four-left s w k h.end kind op shape (eqb-false kind replace_kind e) named (meant s w k kind is op h))
        where
          lines : Means s w k h.end kind lining op → (k + 3 < length w) × Insertable s (get_or w (k + 2) 0) (get_or w (k + 3) 0)
          lines (a, ls, q, ends, code, some, x, good) = (omega (arith, ends, h.inside), insertable h.form x good)

  -- ---- what they answer

  module _ (j : List ℕ) (st : State) (b : List ℕ) (r : Moved) where
    pub moves-as : kind ≡ move_kind → PerformsBy s w j st (Op.move (target_numbered (get_or w (k + 1) 0))) b r → PerformsLines s w k j st b r
    unfolding form_of Means
    moves-as sole does op e c t h stand shows = on (meant-as s w k kind is moving (ap form_of sole) op h)
      where
        on : Means s w k h.end kind moving op → Answered b r (step (lent j) op (state e c) t)
        on (a, q, ends, code, good) =
            let stands : target_numbered (get_or w (k + 1) 0) ≡ a = ap target_numbered code ∙ target_code_lem a good in
            rw q (rw stands at (does e c t stand shows))

    module _ (from : ℕ) (from_is : from ≡ string_start (get_or w (k + 1) 0)) (n : ℕ) (n-is : n ≡ string_length (get_or w (k + 1) 0)) where
      line-is : {op : Op} (h : CommandAt s w k op) (l : Line) → StringIn s (get_or w (k + 1) 0) l → take n (drop from s) ≡ l
      line-is h l x = rw (from_is, n-is) (string-is x (script-short s h.form))

      pub string-as : shape_of kind ≡ pair_shape → (kind ≡ move_kind → ⊥) → (kind ≡ delete_kind → ⊥) → (kind ≡ join_kind → ⊥)
          → PerformsBy s w j st (Op.insert none (take n (drop from s) ∷ [])) b r → PerformsLines s w k j st b r
      string-as shape no_move no-delete no_join does op e c t h stand shows =
          on (is-insert s w k h.end kind op no_join (pair_left s w k h.end kind op shape no_move no-delete (meant s w k kind is op h)))
        where
          on : (l : Line) × (op ≡ Op.insert none (l ∷ [])) × StringIn s (get_or w (k + 1) 0) l → Answered b r (step (lent j) op (state e c) t)
          on (l, q, x) = rw (q, ← line-is h l x) (does e c t stand shows)

      pub joins-as : (table : List ℕ) → kind ≡ join_kind → PerformsWith s table w j st (Op.join (take n (drop from s))) b r → PerformsAt s table w k j st b r
      unfolding form_of
      joins-as table sole does op e c t h stand ready = on (is_join s w k h.end kind op sole (meant-as s w k kind is stringing (ap form_of sole) op h))
        where
          on : (l : Line) × (op ≡ Op.join l) × StringIn s (get_or w (k + 1) 0) l → Answered b r (step (lent j) op (state e c) t)
          on (l, q, x) = rw (q, ← line-is h l x) (does e c t stand (record { shows = ready.shows; old = ready.old }))

    module _ (from through n : ℕ) (from_is : from ≡ span_from (get_or w (k + 1) 0)) (n-is : n ≡ number_at w k) (through-is : through ≡ span_through n (get_or w (k + 1) 0)) where
      starts-as : (a : Target) (b' : Through) → SpanRead w k a b' → target_numbered from ≡ a
      starts-as a b' x = ap target_numbered (from_is ∙ x.from) ∙ target_code_lem a x.good_from

      goes-as : (a : Target) (b' : Through) → SpanRead w k a b' → through_of through ≡ b'
      goes-as a b' x =
          let far : through ≡ through_code b' = through-is ∙ ap (λ (i : ℕ). span_through i (get_or w (k + 1) 0)) n-is ∙ x.through in
          ap through_of far ∙ through_code_lem b' x.good-through

      pub deletes-as : kind ≡ delete_kind → PerformsBy s w j st (Op.delete (target_numbered from) (through_of through)) b r → PerformsLines s w k j st b r
      unfolding form_of Means
      deletes-as sole does op e c t h stand shows = on (meant-as s w k kind is deleting (ap form_of sole) op h)
        where
          on : Means s w k h.end kind deleting op → Answered b r (step (lent j) op (state e c) t)
          on (a, b', q, ends, span) = rw q (rw (starts-as a b' span, goes-as a b' span) at (does e c t stand shows))

      pub replaces-as : kind ≡ replace_kind → PerformsBy s w j st (Op.replace (target_numbered from) (through_of through) (lines_of (part_of s (get_or w (k + 2) 0) (get_or w (k + 3) 0)))) b r
          → PerformsLines s w k j st b r
      unfolding form_of Means
      replaces-as sole does op e c t h stand shows = on (meant-as s w k kind is replacing (ap form_of sole) op h)
        where
          on : Means s w k h.end kind replacing op → Answered b r (step (lent j) op (state e c) t)
          on (a, b', ls, q, ends, span, x, good) = rw (q, x.is) (rw (starts-as a b' span, goes-as a b' span) at (does e c t stand shows))

    pub lines-as : shape_of kind ≡ four_shape → (kind ≡ word_set_kind → ⊥) → (kind ≡ replace_kind → ⊥)
        → PerformsBy s w j st (Op.insert (spot_of (get_or w (k + 1) 0)) (lines_of (part_of s (get_or w (k + 2) 0) (get_or w (k + 3) 0)))) b r → PerformsLines s w k j st b r
    unfolding Means
    lines-as shape named other does op e c t h stand shows = on (four-left s w k h.end kind op shape other named (meant s w k kind is op h))
      where
        on : Means s w k h.end kind lining op → Answered b r (step (lent j) op (state e c) t)
        on (a, ls, q, ends, code, some, x, good) =
            let stands : spot_of (get_or w (k + 1) 0) ≡ a = ap spot_of code ∙ spot-code a some in
            rw (q, x.is) (rw stands at (does e c t stand shows))
