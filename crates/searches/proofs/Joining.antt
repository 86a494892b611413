-- Laws of parts that an operator joins: the loops of conjunctions and alternatives. Assumes nothing.
use mathlib.Core.Path.{◌≡◌, refl, sym, ap, ◌∙◌}
use mathlib.Core.Bool.{true}
use mathlib.Core.List.{List}
use mathlib.Core.Option.{none}
use Prim.Native.Nat.{ℕ, suc, ◌+◌, ◌-◌, ◌*◌, ◌≤◌, ◌<◌}
use native.Mathlib.Omega.{arith}
use lib.ListN.{length, take, get_or, set, length-set}
use lib.Seq.{take-take, take-set-le}
use Rattle.definitions.specs.Bytes.{is_digit}
use Rattle.definitions.specs.Reader.{Cursor, Got}
use Rattle.definitions.specs.Search.{Search}
use Rattle.definitions.specs.Strings.{operator}
use Rattle.matching.specs.Words.{Encodes}
use Rattle.matching.proofs.Running.{forward}
use Rattle.matching.proofs.Keeping.{kept-take}
use Rattle.answers.specs.Answers.{read_as}
use Rattle.lexer.specs.Places.{cursor_at}
use Rattle.searches.specs.Parsing.{SearchWritten, SearchRefused, Parsed}
use Rattle.searches.proofs.Answering.{Operated}
use Rattle.searches.proofs.Steps.{Joint}

-- What the loop keeps: a search is read up to i, and lies in the words from k up to m; the definition goes on from there with enough fuel. `first`
-- are the words where the loop began.
pub record Joined (s first w : List ℕ) (at k bound : ℕ) (whole : ℕ → Cursor → Got Search) (more : ℕ → Search → Cursor → Got Search) (i m : ℕ) : Type 0 where
  pub search : Search
  pub rest : (n : ℕ) → bound ≤ n → (f : ℕ) × (3 * (length s - i) + 1 ≤ f) × (whole n (cursor_at s at) ≡ more f search (cursor_at s i))
  pub encodes : Encodes s w k m search
  pub kept : take k w ≡ take k first
  pub long : length w ≡ length first
  pub after : suc at ≤ i
  pub within : i ≤ length s
  pub room : m + 2 * (length s - i) ≤ k + 2 * (length s - at)
  pub spare : is_digit (get_or s i 0) ≡ true → suc m + 2 * (length s - i) ≤ k + 2 * (length s - at)

-- The reader of a part needs fuel 3 * (bytes left) + need. The reader of the whole begins at `at`, and writes from k on.
module _ {s : List ℕ} {op kind : ℕ} {right whole : ℕ → Cursor → Got Search} {join : Search → Search → Search} {more : ℕ → Search → Cursor → Got Search}
    (joint : Joint s op kind right whole join more) (need : ℕ) (most : need ≤ 2) (at bound : ℕ) (enough : 3 * (length s - at) + need + 1 ≤ bound) where
  -- the first part is refused
  pub first-refused : (e p : ℕ) → SearchRefused (3 * (length s - at) + need) (λ n. right n (cursor_at s at)) e p
      → SearchRefused bound (λ n. whole n (cursor_at s at)) e p
  first-refused e p refusal n h = joint.opens_not n (cursor_at s at) e p (omega arith) (refusal (n - 1) (omega arith))

  -- the first part is read
  pub begins : {u w : List ℕ} {k i m : ℕ} → SearchWritten s u w at k (3 * (length s - at) + need) (λ n. right n (cursor_at s at)) i m → Joined s w w at k bound whole more i m
  begins {i = i} first = record {
    search = first.search;
    rest = λ n h. (
      n - 1,
      omega (arith, first.after, first.within),
      joint.opens n (cursor_at s at) first.search (cursor_at s i) (omega arith) (first.is (n - 1) (omega arith)),
    );
    encodes = first.encodes;
    kept = refl;
    long = refl;
    after = first.after;
    within = first.within;
    room = first.room;
    spare = first.spare;
  }

  module _ {first w : List ℕ} {k i m : ℕ} (joined : Joined s first w at k bound whole more i m) where
    -- no operator follows
    pub joined-ends : (u : List ℕ) → operator op (cursor_at s i) ≡ none → take k first ≡ take k u
        → Parsed s u w at k bound (λ n. whole n (cursor_at s at)) (read_as m i)
    joined-ends u e before = record {
      search = joined.search;
      is = λ n h.
          let on = joined.rest n h in
          on.2 ∙ joint.ends on.0 joined.search (cursor_at s i) (omega (arith, on.1)) e;
      encodes = joined.encodes;
      kept = joined.kept ∙ before;
      after = joined.after;
      within = joined.within;
      room = joined.room;
      spare = joined.spare;
    }

    module _ {next : ℕ} (operates : Operated s op i next) where
      pub right-refused : (e p : ℕ) → SearchRefused (3 * (length s - next) + need) (λ n. right n (cursor_at s next)) e p
          → SearchRefused bound (λ n. whole n (cursor_at s at)) e p
      right-refused e p refusal n h =
          let on = joined.rest n h in
          on.2 ∙ joint.goes_not on.0 joined.search (cursor_at s i) (cursor_at s next) e p (omega (arith, on.1)) operates.is
          (refusal (on.0 - 1) (omega (arith, on.1, operates.after, operates.within)))

      module _ {w₂ : List ℕ} {past end : ℕ} (second : SearchWritten s w w₂ next (m + 1) (3 * (length s - next) + need) (λ n. right n (cursor_at s next)) past end) where
        -- the word between the parts is one of the words
        pub between : m < length w₂
        between = let on = forward s w₂ (m + 1) end second.search second.encodes in omega (arith, on.0, on.1)

        pub joins : length w₂ ≡ length w → Joined s first (set w₂ m (4 * end + kind)) at k bound whole more past end
        joins same =
            let behind : k < m = (forward s w k m joined.search joined.encodes).0 in
            record {
              search = join joined.search second.search;
              rest = λ n h.
                  let on = joined.rest n h in (
                    on.0 - 1,
                    omega (arith, on.1, operates.after, second.after, second.within),
                    on.2
                        ∙ joint.goes_on on.0 joined.search (cursor_at s i) (cursor_at s next) second.search (cursor_at s past) (omega (arith, on.1)) operates.is
                        (second.is (on.0 - 1) (omega (arith, on.1, operates.after, operates.within))),
                  );
              encodes = joint.encodes w₂ k m end joined.search second.search
                  (kept-take s w k m joined.search joined.encodes w₂ (m + 1) (omega arith) (omega (arith, between)) second.kept)
                  second.encodes;
              kept = take-set-le k w₂ m (4 * end + kind) (omega arith)
                  ∙ sym (take-take k (m + 1) w₂ (omega arith))
                  ∙ ap (take k) second.kept
                  ∙ take-take k (m + 1) w (omega arith)
                  ∙ joined.kept;
              long = length-set w₂ m (4 * end + kind) ∙ same ∙ joined.long;
              after = omega (arith, joined.after, operates.after, second.after);
              within = second.within;
              room = omega (arith, joined.room, second.room, operates.after, operates.within, second.after, second.within);
              spare = λ digit. omega (arith, joined.room, second.room, operates.after, operates.within, second.after, second.within);
            }
