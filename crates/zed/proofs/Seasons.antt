-- One journal for two seasons, of the functions `zed_join` and `zed_turn`: their contracts, and the definitions' wish 7. Assumes nothing.
use mathlib.Core.Path.{◌≡◌, refl, sym, ap, subst, ◌∙◌}
use mathlib.Core.Logic.{inl, inr}
use mathlib.Core.Bool.{Bool, true, false, cond}
use mathlib.Core.Option.{Option, none, some}
use mathlib.Core.List.{List, ◌++◌}
use Prim.Native.Nat.{ℕ, ◌≤◌}
use lib.ListN.{length, take, drop}
use lib.Seq.{take-append_seam}
use lib.Dec.{leb}
use borrow.Author.Tests.{leb-true}
use Rattle.definitions.specs.Journal.{Record, old_side, new_side, journal_bytes}
use Rattle.definitions.specs.Listing.{Written, written, number_of, length_of, bytes_of, written_to, read_out}
use Rattle.definitions.specs.Joining.{join, turn, arranged_of, eq_lines, joined_to, join_to, turn_to}
use Rattle.theorems.specs.OneJournal.{out, IsDone, Agreeing, SameBytes}
use Rattle.theorems.proofs.OneJournalProof.{wish-seven}
use Rattle.theorems.specs.JoinAnswers.{join-asks, written_out, written-fits}
use Rattle.zed.specs.Seasons.{JoinCall, TurnCall, join_answer, turn_answer, Joined, Turned, JoinDone, TurnDone, join_wrote, turn_wrote, Filled, Ends, JoinRefusal, TurnRefusal, Brackets, SameEitherWay, WishSeven}

-- ---- how an answer ends

abbrev AnswerEnds : (ℕ → Type 0) → List ℕ → Written → Type 0
AnswerEnds Refusal d w = Ends Refusal d (number_of w) (length_of w) (bytes_of w)

refused : (Refusal : ℕ → Type 0) (d : List ℕ) (n : ℕ) → Refusal n → AnswerEnds Refusal d (written n 0 d)
unfolding number_of length_of bytes_of
refused Refusal d n r = inr (r, record { nothing = refl; same = refl })

filled : (d bs : List ℕ) → length bs ≤ length d → Filled d (length bs) (bs ++ drop (length bs) d)
filled d bs h = record {
  many = ap length seam;
  room = h;
  past = ap (λ t. t ++ drop (length bs) d) (sym seam);
}
  where
    seam : take (length bs) (bs ++ drop (length bs) d) ≡ bs
    seam = take-append_seam bs (drop (length bs) d)

written-ends : (Refusal : ℕ → Type 0) (d bs : List ℕ) → Refusal 10 → AnswerEnds Refusal d (written_to d bs)
unfolding written_to number_of length_of bytes_of
written-ends Refusal d bs r = go (leb (length bs) (length d)) refl
  where
    go : (c : Bool) → leb (length bs) (length d) ≡ c → AnswerEnds Refusal d (cond c (written 0 (length bs) (bs ++ drop (length bs) d)) (written 10 0 d))
    go true e = inl (refl, filled d bs (leb-true (length bs) (length d) e))
    go false e = refused Refusal d 10 r

join-answer-ends : (j k d : List ℕ) → AnswerEnds JoinRefusal d (join_to j k d)
unfolding join_to joined_to
join-answer-ends j k d = go (arranged_of j) (arranged_of k)
  where
    by : (rs ss : List Record) (c : Bool) → AnswerEnds JoinRefusal d (cond c (written_to d (journal_bytes (join rs ss))) (written 32 0 d))
    by rs ss true = written-ends JoinRefusal d (journal_bytes (join rs ss)) (inr (inr refl))
    by rs ss false = refused JoinRefusal d 32 (inr (inl refl))

    go : (o u : Option (List Record)) → AnswerEnds JoinRefusal d (joined_to o u d)
    go none u = refused JoinRefusal d 11 (inl refl)
    go (some rs) none = refused JoinRefusal d 11 (inl refl)
    go (some rs) (some ss) = by rs ss (eq_lines (new_side rs) (old_side ss))

turn-answer-ends : (j d : List ℕ) → AnswerEnds TurnRefusal d (turn_to j d)
unfolding turn_to read_out
turn-answer-ends j d = go (arranged_of j)
  where
    go : (o : Option (List Record)) → AnswerEnds TurnRefusal d (read_out (λ rs. journal_bytes (turn rs)) o d)
    go none = refused TurnRefusal d 11 (inl refl)
    go (some rs) = written-ends TurnRefusal d (journal_bytes (turn rs)) (inr refl)

-- ---- one call

module _ (c : JoinCall) (h : Joined c) where
  join-done : JoinDone c → IsDone (join_answer c)
  join-done q = sym h.number ∙ q

  done-join : IsDone (join_answer c) → JoinDone c
  done-join q = h.number ∙ q

  join-wrote : join_wrote c ≡ out (join_answer c)
  join-wrote = rw (h.long, h.bytes)

module _ (c : TurnCall) (h : Turned c) where
  turn-done : TurnDone c → IsDone (turn_answer c)
  turn-done q = sym h.number ∙ q

  turn-wrote : turn_wrote c ≡ out (turn_answer c)
  turn-wrote = rw (h.long, h.bytes)

-- what is written does not depend on the destination
same_out : (j k d e : List ℕ) → IsDone (join_to j k d) → IsDone (join_to j k e) → out (join_to j k d) ≡ out (join_to j k e)
same_out j k d e p q = go (join-asks j k d p)
  where
    go : (rs : List Record) × (ss : List Record) × Agreeing j k rs ss → out (join_to j k d) ≡ out (join_to j k e)
    go (rs, ss, a) = bytes d p ∙ sym (bytes e q)
      where
        bytes : (f : List ℕ) → IsDone (join_to j k f) → out (join_to j k f) ≡ journal_bytes (join rs ss)
        bytes f u =
            let g = wish-seven.agree j k f rs ss a in
            ap out g ∙ written_out f (journal_bytes (join rs ss)) (sym (ap number_of g) ∙ u)

-- ---- three journals

module _ (ab bc x y : JoinCall) (h-ab : Joined ab) (h-bc : Joined bc) (h-x : Joined x) (h-y : Joined y) (p : JoinDone ab) (q : JoinDone bc) (b : Brackets ab bc x y) where
  abbrev before : List ℕ → Written
  before dest = join_to (out (join_answer ab)) bc.second dest

  abbrev after : List ℕ → Written
  after dest = join_to ab.first (out (join_to ab.second bc.second bc.dest)) dest

  both : SameBytes ab.first ab.second bc.second ab.dest bc.dest
  both = wish-seven.accepted ab.first ab.second bc.second ab.dest bc.dest (join-done ab h-ab p)
      (subst (λ k. IsDone (join_to k bc.second bc.dest)) b.second (join-done bc h-bc q))

  -- the answers of the last calls
  x-is : join_answer x ≡ before x.dest
  x-is = rw (b.joined_first, b.third, join-wrote ab h-ab)

  y-is : join_answer y ≡ before y.dest
  y-is = by ∙ sym (both.same y.dest)
    where
      by : join_answer y ≡ after y.dest
      by = rw (b.first, b.joined_last, join-wrote bc h-bc, b.second)

  three : SameEitherWay ab bc x y
  three = record {
    same = λ e.
        let a = y-is ∙ ap before e ∙ sym x-is in
        record {
          same_result = h-y.number ∙ ap number_of a ∙ sym h-x.number;
          same_length = h-y.long ∙ ap length_of a ∙ sym h-x.long;
          same_left = h-y.bytes ∙ ap bytes_of a ∙ sym h-x.bytes;
        };
    same_bytes = λ u v.
        join-wrote y h-y ∙ ap out y-is
        ∙ same_out (out (join_answer ab)) bc.second y.dest x.dest (sym (ap number_of y-is) ∙ join-done y h-y v) (sym (ap number_of x-is) ∙ join-done x h-x u)
        ∙ sym (ap out x-is) ∙ sym (join-wrote x h-x);
    done_first = λ le. done-join x h-x (ap number_of x-is ∙ both.done x.dest le);
    done_last = λ le. done-join y h-y (ap number_of y-is ∙ both.done y.dest le);
  }

-- ---- turning round twice

module _ (t u : TurnCall) (h : Turned t) (k : Turned u) (p : TurnDone t) (e : u.journal ≡ turn_wrote t) where
  again : turn_answer u ≡ written_to u.dest t.journal
  again = ap (λ j. turn_to j u.dest) (e ∙ turn-wrote t h) ∙ wish-seven.twice t.journal t.dest (turn-done t h p) u.dest

  twice : length t.journal ≤ length u.dest → TurnDone u × (turn_wrote u ≡ t.journal)
  twice le =
      let d = written-fits u.dest t.journal le in
      (k.number ∙ ap number_of again ∙ d, turn-wrote u k ∙ ap out again ∙ written_out u.dest t.journal d)

-- THE LAW: wish 7 of all calls of `zed_join` and `zed_turn`
pub zed-wish-seven : WishSeven
zed-wish-seven = record {
  three = three;
  twice = twice;
  from_old = λ c h p dest. rw (join-wrote c h) (wish-seven.from_old c.first c.second c.dest (join-done c h p) dest);
  to_new = λ c h p dest. rw (join-wrote c h) (wish-seven.to_new c.first c.second c.dest (join-done c h p) dest);
  joined = λ c rs ss h p a. rw (join-wrote c h) (wish-seven.joined c.first c.second c.dest rs ss a (join-done c h p));
  turned_old = λ c h p dest. rw (turn-wrote c h) (wish-seven.turned_old c.journal c.dest (turn-done c h p) dest);
  turned_new = λ c h p dest. rw (turn-wrote c h) (wish-seven.turned_new c.journal c.dest (turn-done c h p) dest);
  turned = λ c rs h p r. rw (turn-wrote c h) (wish-seven.turned c.journal c.dest rs r (turn-done c h p));
  join_ends = λ c h. rw (h.number, h.long, h.bytes) (join-answer-ends c.first c.second c.dest);
  turn_ends = λ c h. rw (h.number, h.long, h.bytes) (turn-answer-ends c.journal c.dest);
  malformed = λ c h m. h.number ∙ ap number_of (wish-seven.malformed c.first c.second c.dest m) ∙ unfold number_of in refl;
  differ = λ c rs ss h r s n. h.number ∙ ap number_of (wish-seven.differ c.first c.second c.dest rs ss r s n) ∙ unfold number_of in refl;
  turn_malformed = λ c h m. h.number ∙ ap number_of (wish-seven.turn_malformed c.journal c.dest m) ∙ unfold number_of in refl;
  enough = λ c rs ss h a le. done-join c h (wish-seven.enough c.first c.second c.dest rs ss a le);
  turn_enough = λ c rs h r le. h.number ∙ wish-seven.turn_enough c.journal c.dest rs r le;
}
