-- What joining and turning round answer (document 02, wish 7), over the journals' bytes.
use Rattle.std.specs.Prelude.{◌≡◌, ◌⊎◌, Bool, true, false, cond, ◌&&◌, List, [], ◌∷◌, ◌++◌, map, ℕ, ◌+◌, ◌≤◌, length, drop, leb}
use Rattle.std.proofs.Math.Path.{refl}
use Rattle.std.proofs.Common.{sym, ap, subst, ◌∙◌, inl, inr, arith}
use Rattle.std.proofs.lemmas.Bool.{false≢true}
use Rattle.std.proofs.Math.Option.{Option, none, some, some-injective}
use Rattle.std.proofs.Math.Seq.{take-append_seam}
use borrow.Author.Tests.{leb-true, le-leb}
use Rattle.definitions.specs.Bytes.{Line, eq_line, lines_bytes}
use Rattle.definitions.specs.Journal.{Record, kept, changed, deleted, inserted, old_side, new_of, new_side, journal_bytes, records_of}
use Rattle.definitions.specs.Arranging.{arrange}
use Rattle.definitions.specs.Listing.{Written, written, number_of, length_of, bytes_of, written_to, read_out, old_side_to, new_side_to}
use Rattle.definitions.specs.Joining.{join, turn, is_arranged, only_arranged, arranged_of, eq_lines, joined_to, join_to, turn_to}
use Rattle.theorems.specs.Each.{Each, each_map}
use Rattle.theorems.specs.RecordLaws.{old-kept}
use Rattle.theorems.specs.Lines.{and_left, and_right, and_both, equal-itself, equal_is}
use Rattle.theorems.specs.JournalBytes.{IsLine, GoodRecord, journal-length, reads_back}
use Rattle.theorems.specs.NestingLaws.{none-some}
use Rattle.theorems.specs.JournalRecords.{only_if, records-bytes}
use Rattle.theorems.specs.ArrangedTest.{arranged-same, same-arranged}
use Rattle.theorems.specs.JoinLaws.{join-assoc, join-old, join-new, join-arranged, join-good, join-length, join_kept, kept-join, turn-old, turn-new, turn_arranged, turn-good, turn-length, turn-back, turn-kept}
use Rattle.theorems.specs.OneJournal.{out, IsDone, Reads, Agreeing, SameBytes}

-- ---- tables that agree

pub lines-equal : (ls : List Line) → eq_lines ls ls ≡ true
unfolding eq_lines
lines-equal [] = refl
lines-equal (l ∷ ls) = and_both (eq_line l l) (eq_lines ls ls) (equal-itself l) (lines-equal ls)

pub lines_are : (ls ms : List Line) → eq_lines ls ms ≡ true → ls ≡ ms
unfolding eq_lines
lines_are [] [] h = refl
lines_are [] (m ∷ ms) h = absurd (false≢true h)
lines_are (l ∷ ls) [] h = absurd (false≢true h)
lines_are (l ∷ ls) (m ∷ ms) h =
    let p : l ≡ m = equal_is l m (and_left (eq_line l m) (eq_lines ls ms) h) in
    let q : ls ≡ ms = lines_are ls ms (and_right (eq_line l m) (eq_lines ls ms) h) in
    cc

-- ---- the journals that are taken

-- records that can be a journal's
pub record Fine (rs : List Record) : Type 0 where
  pub good : Each GoodRecord rs
  pub arranged : is_arranged rs ≡ true
  pub few_old : length (old_side rs) ≤ 65535
  pub few_new : length (new_side rs) ≤ 65535

-- the two tests of a journal that has records
tested : (o : Option (List Record)) (rs : List Record) → only_arranged o ≡ some rs → (o ≡ some rs) × ((is_arranged rs && leb (length (new_side rs)) 65535) ≡ true)
unfolding only_arranged
tested none rs e = absurd (none-some e)
tested (some ss) rs e =
    let k = only_if (is_arranged ss && leb (length (new_side ss)) 65535) (some ss) rs e in
    (k.1, ap (λ ts. is_arranged ts && leb (length (new_side ts)) 65535) (sym (some-injective ss rs k.1)) ∙ k.0)

module _ (j : List ℕ) (rs : List Record) where
  pub reads-records : Reads j rs → records_of j ≡ some rs
  unfolding arranged_of
  reads-records e = (tested (records_of j) rs e).0

  pub reads_bytes : Reads j rs → journal_bytes rs ≡ j
  reads_bytes e = (records-bytes j rs (reads-records e)).2

  pub reads-fine : Reads j rs → Fine rs
  unfolding arranged_of
  reads-fine e =
      let t = (tested (records_of j) rs e).1 in
      let k = records-bytes j rs (reads-records e) in record {
        good = k.0;
        arranged = and_left (is_arranged rs) (leb (length (new_side rs)) 65535) t;
        few_old = k.1;
        few_new = leb-true (length (new_side rs)) 65535 (and_right (is_arranged rs) (leb (length (new_side rs)) 65535) t);
      }

  pub reads_of : records_of j ≡ some rs → arrange rs ≡ rs → length (new_side rs) ≤ 65535 → Reads j rs
  unfolding arranged_of only_arranged
  reads_of e a h = rw (e, same-arranged rs a, le-leb (length (new_side rs)) 65535 h)

-- the bytes of such records
pub fine-reads : (rs : List Record) → Fine rs → Reads (journal_bytes rs) rs
fine-reads rs h = reads_of (journal_bytes rs) rs (reads_back rs h.good h.few_old) (arranged-same rs h.arranged) h.few_new

join-fine : (rs ss : List Record) → Fine rs → Fine ss → new_side rs ≡ old_side ss → Fine (join rs ss)
join-fine rs ss h k e = record {
  good = join-good rs ss h.good k.good;
  arranged = join-arranged rs ss;
  few_old = rw (join-old rs ss e) h.few_old;
  few_new = rw (join-new rs ss e) k.few_new;
}

turn-fine : (rs : List Record) → Fine rs → Fine (turn rs)
turn-fine rs h = record {
  good = turn-good rs h.good;
  arranged = turn_arranged rs;
  few_old = rw (turn-old rs) h.few_new;
  few_new = rw (turn-new rs) h.few_old;
}

-- ---- what is written

pub written_out : (dest bs : List ℕ) → IsDone (written_to dest bs) → out (written_to dest bs) ≡ bs
unfolding written_to number_of length_of bytes_of
written_out dest bs h = go (leb (length bs) (length dest)) h
  where
    go : (c : Bool) → IsDone (cond c (written 0 (length bs) (bs ++ drop (length bs) dest)) (written 10 0 dest))
        → out (cond c (written 0 (length bs) (bs ++ drop (length bs) dest)) (written 10 0 dest)) ≡ bs
    go true h = take-append_seam bs (drop (length bs) dest)
    go false h = absurd (omega arith)

pub written-fits : (dest bs : List ℕ) → length bs ≤ length dest → IsDone (written_to dest bs)
unfolding written_to number_of
written-fits dest bs h = rw (le-leb (length bs) (length dest) h)

-- ---- joining two

-- what is not accepted
pub join-malformed : (j k d : List ℕ) → (arranged_of j ≡ none) ⊎ (arranged_of k ≡ none) → join_to j k d ≡ written 11 0 d
unfolding join_to
join-malformed j k d (inl e) = rw e (unfold joined_to in refl)
join-malformed j k d (inr e) = rw e (by (arranged_of j))
  where
    by : (o : Option (List Record)) → joined_to o none d ≡ written 11 0 d
    by none = unfold joined_to in refl
    by (some rs) = unfold joined_to in refl

module _ (j k d : List ℕ) (rs ss : List Record) where
  by_lines : (c : Bool) → Reads j rs → Reads k ss → eq_lines (new_side rs) (old_side ss) ≡ c
      → join_to j k d ≡ cond c (written_to d (journal_bytes (join rs ss))) (written 32 0 d)
  unfolding join_to joined_to
  by_lines c p q e = rw (p, q, e)

  pub join-differ : Reads j rs → Reads k ss → (new_side rs ≡ old_side ss → ⊥) → join_to j k d ≡ written 32 0 d
  join-differ p q n = go (eq_lines (new_side rs) (old_side ss)) refl
    where
      go : (c : Bool) → eq_lines (new_side rs) (old_side ss) ≡ c → join_to j k d ≡ written 32 0 d
      go true e = absurd (n (lines_are (new_side rs) (old_side ss) e))
      go false e = by_lines false p q e

  pub join-agree : Agreeing j k rs ss → join_to j k d ≡ written_to d (journal_bytes (join rs ss))
  join-agree a = by_lines true a.first a.second (rw a.middle (lines-equal (old_side ss)))

-- an accepted joining is of two such journals
pub join-asks : (j k d : List ℕ) → IsDone (join_to j k d) → (rs : List Record) × (ss : List Record) × Agreeing j k rs ss
unfolding number_of
join-asks j k d h = go (arranged_of j) (arranged_of k) refl refl
  where
    by : (rs ss : List Record) → Reads j rs → Reads k ss → (c : Bool) → eq_lines (new_side rs) (old_side ss) ≡ c → (rs : List Record) × (ss : List Record) × Agreeing j k rs ss
    by rs ss p q true e = (rs, ss, record { first = p; second = q; middle = lines_are (new_side rs) (old_side ss) e })
    by rs ss p q false e = absurd (omega (arith, sym (ap number_of (by_lines j k d rs ss false p q e)) ∙ h))

    go : (o u : Option (List Record)) → arranged_of j ≡ o → arranged_of k ≡ u → (rs : List Record) × (ss : List Record) × Agreeing j k rs ss
    go none u p q = absurd (omega (arith, sym (ap number_of (join-malformed j k d (inl p))) ∙ h))
    go (some rs) none p q = absurd (omega (arith, sym (ap number_of (join-malformed j k d (inr q))) ∙ h))
    go (some rs) (some ss) p q = by rs ss p q (eq_lines (new_side rs) (old_side ss)) refl

module _ (j k d : List ℕ) (rs ss : List Record) (a : Agreeing j k rs ss) where
  -- it is not longer than both journals
  joined-short : length (journal_bytes (join rs ss)) ≤ length j + length k
  joined-short =
      rw (journal-length (join rs ss), ← reads_bytes j rs a.first, ← reads_bytes k ss a.second, journal-length rs, journal-length ss) (join-length rs ss)

  pub join-enough : length j + length k ≤ length d → IsDone (join_to j k d)
  join-enough h = ap number_of (join-agree j k d rs ss a) ∙ written-fits d (journal_bytes (join rs ss)) (omega (arith, joined-short))

  join-bytes : IsDone (join_to j k d) → out (join_to j k d) ≡ journal_bytes (join rs ss)
  join-bytes h = ap out (join-agree j k d rs ss a) ∙ written_out d (journal_bytes (join rs ss)) (sym (ap number_of (join-agree j k d rs ss a)) ∙ h)

  pub join-reads : IsDone (join_to j k d) → Reads (out (join_to j k d)) (join rs ss)
  join-reads h =
      ap arranged_of (join-bytes h) ∙ fine-reads (join rs ss) (join-fine rs ss (reads-fine j rs a.first) (reads-fine k ss a.second) a.middle)

  join-short : IsDone (join_to j k d) → length (out (join_to j k d)) ≤ length j + length k
  join-short h = rw (join-bytes h) joined-short

-- ---- joining three

pub three-joined : (j k l d e : List ℕ) (rs ss ts : List Record) → Agreeing j k rs ss → Agreeing k l ss ts → IsDone (join_to j k d) → IsDone (join_to k l e) → SameBytes j k l d e
three-joined j k l d e rs ss ts a b x y = record {
  same = λ dest.
      join-agree (out (join_to j k d)) l dest (join rs ss) ts before ∙ ap (λ us. written_to dest (journal_bytes us)) (join-assoc rs ss ts)
      ∙ sym (join-agree j (out (join_to k l e)) dest rs (join ss ts) after);
  done = λ dest h. join-enough (out (join_to j k d)) l dest (join rs ss) ts before (omega (arith, join-short j k d rs ss a x));
}
  where
    before : Agreeing (out (join_to j k d)) l (join rs ss) ts
    before = record { first = join-reads j k d rs ss a x; second = b.second; middle = join-new rs ss a.middle ∙ b.middle }

    after : Agreeing j (out (join_to k l e)) rs (join ss ts)
    after = record { first = a.first; second = join-reads k l e ss ts b y; middle = a.middle ∙ sym (join-old ss ts b.middle) }

pub three-accepted : (j k l d e : List ℕ) → IsDone (join_to j k d) → IsDone (join_to k l e) → SameBytes j k l d e
three-accepted j k l d e x y = go (join-asks j k d x) (join-asks k l e y)
  where
    go : (rs : List Record) × (ss : List Record) × Agreeing j k rs ss → (ss : List Record) × (ts : List Record) × Agreeing k l ss ts → SameBytes j k l d e
    go (rs, ss, a) (ss₂, ts, b) =
        three-joined j k l d e rs ss ts a (subst (λ us. Agreeing k l us ts) (some-injective ss₂ ss (sym b.first ∙ a.second)) b) x y

-- ---- turning round

pub turn_malformed : (j d : List ℕ) → arranged_of j ≡ none → turn_to j d ≡ written 11 0 d
unfolding turn_to read_out
turn_malformed j d e = rw e

pub turn-asks : (j d : List ℕ) → IsDone (turn_to j d) → (rs : List Record) × Reads j rs
unfolding number_of
turn-asks j d h = go (arranged_of j) refl
  where
    go : (o : Option (List Record)) → arranged_of j ≡ o → (rs : List Record) × Reads j rs
    go none p = absurd (omega (arith, sym (ap number_of (turn_malformed j d p)) ∙ h))
    go (some rs) p = (rs, p)

module _ (j d : List ℕ) (rs : List Record) (p : Reads j rs) where
  pub turn-answer : turn_to j d ≡ written_to d (journal_bytes (turn rs))
  unfolding turn_to read_out
  turn-answer = rw p

  pub turn_enough : length j ≤ length d → IsDone (turn_to j d)
  turn_enough h =
      ap number_of turn-answer
      ∙ written-fits d (journal_bytes (turn rs)) (omega (arith, journal-length (turn rs), turn-length rs, journal-length rs, ap length (reads_bytes j rs p)))

  pub turn-reads : IsDone (turn_to j d) → Reads (out (turn_to j d)) (turn rs)
  turn-reads h =
      ap arranged_of (ap out turn-answer ∙ written_out d (journal_bytes (turn rs)) (sym (ap number_of turn-answer) ∙ h)) ∙ fine-reads (turn rs) (turn-fine rs (reads-fine j rs p))

pub turn-again : (j d : List ℕ) → IsDone (turn_to j d) → (dest : List ℕ) → turn_to (out (turn_to j d)) dest ≡ written_to dest j
turn-again j d h dest = go (turn-asks j d h)
  where
    go : (rs : List Record) × Reads j rs → turn_to (out (turn_to j d)) dest ≡ written_to dest j
    go (rs, p) =
        turn-answer (out (turn_to j d)) dest (turn rs) (turn-reads j d rs p h)
        ∙ ap (λ us. written_to dest (journal_bytes us)) (turn-back rs (reads-fine j rs p).arranged) ∙ ap (written_to dest) (reads_bytes j rs p)

-- ---- the sides, over bytes

old-written : (j : List ℕ) (rs : List Record) (dest : List ℕ) → Reads j rs → old_side_to j dest ≡ written_to dest (lines_bytes (old_side rs))
unfolding old_side_to read_out
old-written j rs dest p = rw (reads-records j rs p)

new-written : (j : List ℕ) (rs : List Record) (dest : List ℕ) → Reads j rs → new_side_to j dest ≡ written_to dest (lines_bytes (new_side rs))
unfolding new_side_to read_out
new-written j rs dest p = rw (reads-records j rs p)

-- the same lines, written
abbrev lines : List ℕ → List Line → Written
lines dest ls = written_to dest (lines_bytes ls)

pub join-old-side : (j k d : List ℕ) → IsDone (join_to j k d) → (dest : List ℕ) → old_side_to (out (join_to j k d)) dest ≡ old_side_to j dest
join-old-side j k d h dest = go (join-asks j k d h)
  where
    go : (rs : List Record) × (ss : List Record) × Agreeing j k rs ss → old_side_to (out (join_to j k d)) dest ≡ old_side_to j dest
    go (rs, ss, a) =
        old-written (out (join_to j k d)) (join rs ss) dest (join-reads j k d rs ss a h) ∙ ap (lines dest) (join-old rs ss a.middle) ∙ sym (old-written j rs dest a.first)

pub join-new-side : (j k d : List ℕ) → IsDone (join_to j k d) → (dest : List ℕ) → new_side_to (out (join_to j k d)) dest ≡ new_side_to k dest
join-new-side j k d h dest = go (join-asks j k d h)
  where
    go : (rs : List Record) × (ss : List Record) × Agreeing j k rs ss → new_side_to (out (join_to j k d)) dest ≡ new_side_to k dest
    go (rs, ss, a) =
        new-written (out (join_to j k d)) (join rs ss) dest (join-reads j k d rs ss a h) ∙ ap (lines dest) (join-new rs ss a.middle) ∙ sym (new-written k ss dest a.second)

pub turn-old-side : (j d : List ℕ) → IsDone (turn_to j d) → (dest : List ℕ) → old_side_to (out (turn_to j d)) dest ≡ new_side_to j dest
turn-old-side j d h dest = go (turn-asks j d h)
  where
    go : (rs : List Record) × Reads j rs → old_side_to (out (turn_to j d)) dest ≡ new_side_to j dest
    go (rs, p) = old-written (out (turn_to j d)) (turn rs) dest (turn-reads j d rs p h) ∙ ap (lines dest) (turn-old rs) ∙ sym (new-written j rs dest p)

pub turn-new-side : (j d : List ℕ) → IsDone (turn_to j d) → (dest : List ℕ) → new_side_to (out (turn_to j d)) dest ≡ old_side_to j dest
turn-new-side j d h dest = go (turn-asks j d h)
  where
    go : (rs : List Record) × Reads j rs → new_side_to (out (turn_to j d)) dest ≡ old_side_to j dest
    go (rs, p) = new-written (out (turn_to j d)) (turn rs) dest (turn-reads j d rs p h) ∙ ap (lines dest) (turn-new rs) ∙ sym (old-written j rs dest p)

-- ---- a journal that keeps every line

new-lines : (rs : List Record) → Each GoodRecord rs → Each IsLine (new_side rs)
unfolding new_side new_of
new-lines [] h = tt
new-lines (kept l ∷ rs) h = (h.0, new-lines rs h.1)
new-lines (changed o n ∷ rs) h = (h.0.1, new-lines rs h.1)
new-lines (deleted l ∷ rs) h = new-lines rs h.1
new-lines (inserted l ∷ rs) h = (h.0, new-lines rs h.1)

old-lines : (rs : List Record) → Each GoodRecord rs → Each IsLine (old_side rs)
old-lines rs h = subst (Each IsLine) (turn-new rs) (new-lines (turn rs) (turn-good rs h))

new-kept : (ls : List Line) → new_side (map kept ls) ≡ ls
new-kept ls = sym (turn-old (map kept ls)) ∙ ap old_side (turn-kept ls) ∙ old-kept ls

pub kept-reads : (ls : List Line) → Each IsLine ls → length ls ≤ 65535 → Reads (journal_bytes (map kept ls)) (map kept ls)
kept-reads ls h few = fine-reads (map kept ls) (
    record {
      good = each_map GoodRecord IsLine kept (λ l k. k) ls h;
      arranged = rw (turn-kept ls) at (turn_arranged (map kept ls));
      few_old = rw (old-kept ls) few;
      few_new = rw (new-kept ls) few;
    }
    )

module _ (j : List ℕ) (rs : List Record) (p : Reads j rs) (dest : List ℕ) where
  pub kept_after : join_to j (journal_bytes (map kept (new_side rs))) dest ≡ written_to dest j
  kept_after =
      join-agree j (journal_bytes (map kept (new_side rs))) dest rs (map kept (new_side rs)) (
      record {
        first = p;
        second = kept-reads (new_side rs) (new-lines rs (reads-fine j rs p).good) (reads-fine j rs p).few_new;
        middle = sym (old-kept (new_side rs));
      }
      )
      ∙ ap (λ us. written_to dest (journal_bytes us)) (join_kept rs (reads-fine j rs p).good (reads-fine j rs p).arranged) ∙ ap (written_to dest) (reads_bytes j rs p)

  pub kept_before : join_to (journal_bytes (map kept (old_side rs))) j dest ≡ written_to dest j
  kept_before =
      join-agree (journal_bytes (map kept (old_side rs))) j dest (map kept (old_side rs)) rs (
      record {
        first = kept-reads (old_side rs) (old-lines rs (reads-fine j rs p).good) (reads-fine j rs p).few_old;
        second = p;
        middle = new-kept (old_side rs);
      }
      )
      ∙ ap (λ us. written_to dest (journal_bytes us)) (kept-join rs (reads-fine j rs p).good (reads-fine j rs p).arranged) ∙ ap (written_to dest) (reads_bytes j rs p)
