-- Items as they are written: counts, commands of one or two words, line numbers. Assumes nothing.
use mathlib.Core.Path.{◌≡◌, refl, sym, ap, ◌∙◌}
use mathlib.Core.Logic.{inl, inr}
use mathlib.Core.Bool.{Bool, true, false, cond, false≢true}
use mathlib.Core.List.{List}
use Prim.Native.Nat.{ℕ, suc, ◌+◌, ◌-◌, ◌*◌, ◌≤◌, ◌<◌}
use native.Mathlib.Omega.{arith}
use lib.ListN.{length, get_or, set, length-set}
use lib.Seq.{get_or-set_same, get_or-set_other}
use lib.Dec.{eqb}
use borrow.Author.Tests.{le-leb, lt-leb, eqb-true}
use Rattle.definitions.specs.Bytes.{is_digit}
use Rattle.definitions.specs.Editor.{here, line, eof}
use Rattle.definitions.specs.Edit.{move}
use Rattle.definitions.specs.Control.{times, Item, simple, opens}
use Rattle.definitions.specs.Reader.{Got, got, refused, skip_spaces, token, digits}
use Rattle.definitions.specs.Commands.{Decoded, whole, prefix, moves, target, decode}
use Rattle.std.specs.Prelude.{Ok}
use Rattle.answers.specs.Answers.{whole_read, prefix_read}
use Rattle.lexer.specs.Places.{cursor_at}
use Rattle.lexer.specs.Answers.{ValueAt, NumberUpTo, capped}
use Rattle.lexer.specs.Targets.{target_of}
use Rattle.lexer.specs.Shapes.{plain_of}
use Rattle.lexer.proofs.Digits.{capped_small, capped-large}
use Rattle.lexer.proofs.Given.{goes_on, passed-up}
use Rattle.lexer.specs.declared.shapes.Plain.{Plain}
use Rattle.lexer.specs.declared.shapes.Plain.TheVariants.{Next, Previous, Copy, PointStart, Right, Left, CutByte, Lower, Upper, Quit, Cancel}
use Rattle.items.specs.Words.{head, target_code, OpAt, TimesAt, OpenerAt, ItemAt, head_with}
use Rattle.items.specs.Kinds.{case_kind, move_kind, count_kind, long_count_kind}
use Rattle.items.specs.Depth.{open_after}
use Rattle.script.specs.Reading.{CommandRoom, Apart, Unwritten, CommandIs, CommandRead, counted}
use Rattle.script.specs.Commands.{plain_kind}
use Rattle.script.proofs.Keeping.{kept-all, kept_set}

-- ---- words one by one

module _ (w : List ℕ) (k a : ℕ) (room : k + 16 < length w) where
  pub one-stays : Unwritten k 16 w (set w k a)
  one-stays = kept_set k 16 k a w w (omega arith) room (kept-all k 16 w)

  pub one-is : get_or (set w k a) k 0 ≡ a
  one-is = get_or-set_same w k a 0 (omega arith)

module _ (w : List ℕ) (k a b : ℕ) (room : k + 17 < length w) where
  pub two-stay : Unwritten k 16 w (set (set w k a) (k + 1) b)
  two-stay = kept_set k 16 (k + 1) b w (set w k a) (omega arith) (omega arith) (one-stays w k a (omega arith))

  pub first-is : get_or (set (set w k a) (k + 1) b) k 0 ≡ a
  first-is = get_or-set_other (set w k a) (k + 1) k b 0 (λ e. omega (arith, e)) ∙ one-is w k a (omega arith)

  pub second_is : get_or (set (set w k a) (k + 1) b) (k + 1) 0 ≡ b
  second_is = get_or-set_same (set w k a) (k + 1) b 0 (rw (length-set w k a) (omega arith))

-- ---- an item of one or two words

-- a prefix with words to spare, whatever stands before and behind it
pub named-apart : (s : List ℕ) (place k next m : ℕ) → m + 3 ≤ k + 2 * (next - place) → Apart s place k next m
named-apart s place k next m few = record { named = λ no_digit. omega arith; followed = λ digit. few }

-- a count: it begins with a digit, and no digit is behind it
pub count-apart : (s : List ℕ) (place k next m : ℕ) → is_digit (get_or s place 0) ≡ true → is_digit (get_or s next 0) ≡ false → Apart s place k next m
count-apart s place k next m first behind = record { named = λ no_digit. absurd (false≢true (sym no_digit ∙ first)); followed = λ digit. absurd (false≢true (sym behind ∙ digit)) }

module _ (s w : List ℕ) (place at k : ℕ) (r : CommandRoom s w place at k) (x : Got Decoded) (i : Item) (next : ℕ) (from : at ≤ next) (to : next ≤ length s) where
  pub room-two : k + 34 ≤ length w
  room-two = omega (arith, r.room, r.named, r.inside, r.fits.work)

  pub whole-one : ((n : ℕ) → open_after n i ≡ n + 0) → (a : ℕ) → x ≡ got (whole i) (cursor_at s next) → ItemAt s (set w k a) k (k + 1) i → CommandRead s w (set w k a) place k x (Ok (whole_read (k + 1) next))
  unfolding CommandIs
  whole-one quiet a e it = (
    one-stays w k a (omega (arith, room-two)),
    (i, e, record { passed = omega (arith, r.named); inside = to; forth = omega arith; two = omega (arith, r.named); opening = quiet; item = it }),
  )

  pub prefix-one : ((n : ℕ) → open_after n i ≡ n + 1) → Apart s place k next (k + 1) → (a : ℕ) (b : Bool) → x ≡ got (prefix b i) (cursor_at s next) → ItemAt s (set w k a) k (k + 1) i → CommandRead s w (set w k a) place k x (Ok (prefix_read b (k + 1) next))
  unfolding CommandIs
  prefix-one one_more apart a b e it = (
    one-stays w k a (omega (arith, room-two)),
    (i, e, record { passed = omega (arith, r.named); inside = to; forth = omega arith; two = omega (arith, r.named); opening = one_more; item = it }, apart),
  )

  pub whole-two : ((n : ℕ) → open_after n i ≡ n + 0) → (a b : ℕ) → x ≡ got (whole i) (cursor_at s next) → ItemAt s (set (set w k a) (k + 1) b) k (k + 2) i
      → CommandRead s w (set (set w k a) (k + 1) b) place k x (Ok (whole_read (k + 2) next))
  unfolding CommandIs
  whole-two quiet a b e it = (
    two-stay w k a b (omega (arith, room-two)),
    (i, e, record { passed = omega (arith, r.named); inside = to; forth = omega arith; two = omega (arith, r.named); opening = quiet; item = it }),
  )

-- ---- counts

module _ (s w : List ℕ) (place k v next : ℕ) (r : CommandRoom s w place (place + 1) k) (read : capped (digits (cursor_at s place)) ≡ token v (cursor_at s next)) where
  is-counted : v ≤ 65535 → counted place (digits (cursor_at s place)) ≡ got (prefix false (opens place (times v))) (cursor_at s next)
  unfolding counted
  is-counted h = rw (capped_small (digits (cursor_at s place)) v (cursor_at s next) read h, counted, le-leb v 65535 h)

  pub over-count : 65535 < v → counted place (digits (cursor_at s place)) ≡ refused 3 place
  unfolding counted
  over-count h =
      let l = capped-large (digits (cursor_at s place)) v (cursor_at s next) read h in
      over l.0 l.1 l.2
    where
      over : (n : ℕ) → digits (cursor_at s place) ≡ token n (cursor_at s next) → 65535 < n → counted place (digits (cursor_at s place)) ≡ refused 3 place
      over n e m = rw (e, counted, lt-leb n 65535 m)

  pub small_count : Apart s place k next (k + 1) → (a : ℕ) → a ≡ head_with count_kind place v → v < 512 → place < next → next ≤ length s
      → CommandRead s w (set w k a) place k (counted place (digits (cursor_at s place))) (Ok (prefix_read false (k + 1) next))
  unfolding ItemAt OpenerAt TimesAt open_after
  small_count apart a is h far to =
      prefix-one s w place (place + 1) k r (counted place (digits (cursor_at s place))) (opens place (times v)) next (omega arith) to (λ n. refl) apart a false
      (is-counted (omega arith))
      (inl (h, (refl, one-is w k a (omega (arith, r.room, r.named, r.inside, r.fits.work)) ∙ is)))

  pub large-count : Apart s place k next (k + 2) → (a : ℕ) → a ≡ head long_count_kind place → v ≤ 65535 → suc place < next → next ≤ length s
      → CommandRead s w (set (set w k a) (k + 1) v) place k (counted place (digits (cursor_at s place))) (Ok (prefix_read false (k + 2) next))
  unfolding ItemAt OpenerAt TimesAt CommandIs open_after
  large-count apart a is h far to =
      let room : k + 17 < length w = omega (arith, r.room, r.named, r.inside, r.fits.work) in (
        two-stay w k a v room,
        (
          opens place (times v),
          is-counted h,
          record {
            passed = omega arith;
            inside = to;
            forth = omega arith;
            two = omega arith;
            opening = λ n. refl;
            item = inr (refl, first-is w k a v room ∙ is, second_is w k a v room);
          },
          apart,
        ),
      )

-- ---- commands of one word

pub plain-item : (s w : List ℕ) (k place : ℕ) (p : Plain) → get_or w k 0 ≡ head (plain_kind p) place → ItemAt s w k (k + 1) (simple place (plain_of p))
unfolding ItemAt OpAt plain_kind plain_of case_kind
plain-item s w k place Next e = (refl, e)
plain-item s w k place Previous e = (refl, e)
plain-item s w k place Copy e = (refl, e)
plain-item s w k place PointStart e = (refl, e)
plain-item s w k place Right e = (refl, e)
plain-item s w k place Left e = (refl, e)
plain-item s w k place CutByte e = (refl, e)
plain-item s w k place Lower e = (refl, e)
plain-item s w k place Upper e = (refl, e)
plain-item s w k place Quit e = (refl, e)
plain-item s w k place Cancel e = (refl, e)

-- ---- line numbers

pub target_code_lem : (n : ℕ) → n ≤ 65536 → target_code (target_of n) ≡ n
unfolding target_code target_of
target_code_lem n h = go (eqb n 0) (eqb n 65536) refl refl
  where
    go : (t u : Bool) → eqb n 0 ≡ t → eqb n 65536 ≡ u → target_code (cond t here (cond u eof (line n))) ≡ n
    go true u e f = sym (eqb-true n 0 e)
    go false true e f = sym (eqb-true n 65536 f)
    go false false e f = refl

module _ (s w : List ℕ) (place at k : ℕ) (r : CommandRoom s w place at k) (i : ℕ) (spaces : skip_spaces (cursor_at s at) ≡ cursor_at s i) where
  pub moves-refused : (n p : ℕ) → target (cursor_at s i) ≡ refused n p → decode false place moves (cursor_at s at) ≡ refused n p
  unfolding decode
  moves-refused n p e = passed-up (target (skip_spaces (cursor_at s at))) _ n p (ap target spaces ∙ e)

  pub moves-written : at ≤ i → (a next v : ℕ) → v ≡ head move_kind place → ValueAt s target_of (NumberUpTo 65536 (suc i)) (target (cursor_at s i)) a next
      → CommandRead s w (set (set w k v) (k + 1) a) place k (decode false place moves (cursor_at s at)) (Ok (whole_read (k + 2) next))
  unfolding decode ItemAt OpAt open_after
  moves-written after a next v hd (read, (small, from), to) =
      whole-two s w place at k r (decode false place moves (cursor_at s at)) (simple place (move (target_of a))) next (omega arith) to (λ n. omega arith) v a
      (goes_on (target (skip_spaces (cursor_at s at))) _ (target_of a) (cursor_at s next) (ap target spaces ∙ read))
      (refl, first-is w k v a room ∙ hd, second_is w k v a room ∙ sym (target_code_lem a small))
    where
      room : k + 17 < length w
      room = omega (arith, r.room, r.named, r.inside, r.fits.work)
