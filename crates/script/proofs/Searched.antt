-- Commands with a search expression in words. Assumes nothing.
use mathlib.Core.Path.{◌≡◌, refl, sym, ap, ◌∙◌, subst}
use mathlib.Core.Logic.{◌⊎◌, inl, inr}
use mathlib.Core.Bool.{Bool, true, false}
use mathlib.Core.List.{List, ◌++◌}
use Prim.Native.Nat.{ℕ, ◌+◌, ◌-◌, ◌*◌, ◌≤◌, ◌<◌}
use native.Mathlib.Nat.{eq-or-lt_of_le}
use native.Mathlib.Omega.{arith}
use lib.ListN.{length, take, drop, get_or, set, length-append, length-drop, get_or-append}
use lib.Seq.{length-take-le, get_or-take, get_or-drop, get_or-append-add}
use Rattle.definitions.specs.Bytes.{is_digit}
use Rattle.definitions.specs.Search.{Search}
use Rattle.definitions.specs.Control.{Seek, Item, seek, opens, branch, loop}
use Rattle.definitions.specs.Reader.{Got, got, refused}
use Rattle.definitions.specs.Strings.{search_expression}
use Rattle.definitions.specs.Commands.{prefix, seeks, branches, loops, skip_then, test_of, decode}
use Rattle.matching.proofs.Running.{forward}
use Rattle.matching.proofs.Keeping.{kept_append, kept-ahead}
use Rattle.std.specs.Prelude.{Ok}
use Rattle.answers.specs.Answers.{whole_read, prefix_read}
use Rattle.lexer.specs.Places.{cursor_at}
use Rattle.lexer.proofs.Given.{goes_on, passed-up}
use Rattle.searches.specs.Parsing.{SearchRoom, SearchWritten}
use Rattle.items.specs.Words.{head, SearchAt, OpenerAt, ItemAt}
use Rattle.items.specs.Kinds.{seek_kind, branch_kind, loop_kind, if_kind, unless_kind, while_kind, until_kind}
use Rattle.items.specs.Depth.{open_after}
use Rattle.script.specs.Reading.{CommandRoom, Laid, Apart, Unwritten, CommandIs, CommandRead}
use Rattle.script.specs.Searches.{Found}
use Rattle.script.proofs.Keeping.{kept_set}
use Rattle.script.proofs.Items.{first-is, second_is}

module _ (s w : List ℕ) (place at k : ℕ) (r : CommandRoom s w place at k) where
  pub search-room : SearchRoom s (take (length w - 16) w) at (k + 2)
  search-room =
      let len : length (take (length w - 16) w) ≡ length w - 16 = length-take-le (length w - 16) w (omega arith) in
      record {
        form = r.fits.form;
        inside = r.inside;
        enough = omega (arith, len, r.room, r.named, r.inside, r.fits.work);
        fits = omega (arith, r.room, r.named, r.inside, r.fits.small);
      }

  -- the search was written before the last 16 words
  module _ (ys : List ℕ) (same : length ys ≡ length (take (length w - 16) w)) where
    count : length ys ≡ length w - 16
    count = same ∙ length-take-le (length w - 16) w (omega arith)

    whole_length : length (ys ++ drop (length w - 16) w) ≡ length w
    whole_length = length-append ys (drop (length w - 16) w) ∙ omega (arith, count, length-drop (length w - 16) w, r.fits.work)

    high : (j : ℕ) → length w ≤ j + 16 → get_or (ys ++ drop (length w - 16) w) j 0 ≡ get_or w j 0
    high j far =
        let e : j ≡ length ys + (j - (length w - 16)) = omega (arith, count, r.fits.work) in
        let f : length w - 16 + (j - (length w - 16)) ≡ j = omega (arith, r.fits.work) in
        ap (λ (i : ℕ). get_or (ys ++ drop (length w - 16) w) i 0) e ∙ get_or-append-add ys (drop (length w - 16) w) (j - (length w - 16)) 0
        ∙ get_or-drop (length w - 16) w (j - (length w - 16)) 0 ∙ ap (λ (i : ℕ). get_or w i 0) f

    module _ (kept : take (k + 2) ys ≡ take (k + 2) (take (length w - 16) w)) where
      near : k + 2 + 32 ≤ length w
      near = omega (arith, r.room, r.named, r.inside, r.fits.work)

      low : (j : ℕ) → j < k + 2 → get_or (ys ++ drop (length w - 16) w) j 0 ≡ get_or w j 0
      low j less =
          get_or-append ys (drop (length w - 16) w) 0 j (omega (arith, count, near)) ∙ sym (get_or-take (k + 2) ys j 0 less)
          ∙ ap (λ (l : List ℕ). get_or l j 0) kept ∙ get_or-take (k + 2) (take (length w - 16) w) j 0 less ∙ get_or-take (length w - 16) w j 0 (omega (arith, near))

      stays : Unwritten k 16 w (ys ++ drop (length w - 16) w)
      stays = record { same_length = whole_length; below = λ j less. low j (omega arith); top = high }

      pub search-found : (next m v first : ℕ) (x : ℕ → Got Search) → v ≡ first → SearchWritten s (take (length w - 16) w) ys at (k + 2) 0 x next m
          → Found s w (set (set (ys ++ drop (length w - 16) w) k v) (k + 1) m) at k first next m (x 0)
      unfolding SearchAt
      search-found next m v first x hd wr =
          let w1 : List ℕ = ys ++ drop (length w - 16) w in
          let fwd = (forward s ys (k + 2) m wr.search wr.encodes).0 in
          let room : k + 17 < length w1 = omega (arith, whole_length, near) in
          record {
            search = wr.search;
            is = wr.is 0 (omega arith);
            lies = (
              first-is w1 k v m room ∙ hd,
              second_is w1 k v m room,
              kept-ahead s (set w1 k v) (k + 2) m wr.search
                  (kept-ahead s w1 (k + 2) m wr.search (kept_append s ys (k + 2) m wr.search wr.encodes (drop (length w - 16) w)) k v (omega arith)) (k + 1) m (omega arith),
            );
            kept = kept_set k 16 (k + 1) m w (set w1 k v) (omega arith) (omega (arith, near)) (kept_set k 16 k v w w1 (omega arith) (omega (arith, near)) stays);
            forth = omega (arith, fwd);
            passed = omega (arith, wr.after);
            inside = wr.within;
            two = omega (arith, wr.room);
            spare = λ digit. omega (arith, wr.spare digit);
          }

      pub search-small : (next m : ℕ) (x : ℕ → Got Search) → SearchWritten s (take (length w - 16) w) ys at (k + 2) 0 x next m → m ≤ 40000
      search-small next m x wr = omega (arith, wr.room, wr.within, r.room, r.named, r.inside, r.fits.small)

-- ---- F, BF, DF; IF, UL; WH, UT

module _ (s w w' : List ℕ) (place at k : ℕ) (r : CommandRoom s w place at k) (first : ℕ) where
  module _ (next m : ℕ) (found : Found s w w' at k first next m (search_expression (cursor_at s at))) where
    laid : (i : Item) (after due : ℕ) → place + 1 + due ≤ at → due ≤ 1 → next ≤ after → after ≤ length s → ((n : ℕ) → open_after n i ≡ n + due) → ItemAt s w' k m i
        → Laid s w' place k after m due i
    laid i after due long le from to opening it =
        let f = found in
        record {
          passed = omega (arith, r.named, f.passed);
          inside = to;
          forth = omega (arith, f.forth);
          two = omega (arith, r.named, f.two, f.inside, f.passed);
          opening = opening;
          item = it;
        }

    -- the closing delimiter of a search's last string leaves a word, and so does THEN
    apart : (after : ℕ) → place + 2 ≤ at → next ≤ after → after ≤ length s → Apart s place k after m
    apart after long from to =
        let f = found in
        record { named = λ no_digit. omega (arith, f.two, f.inside, f.passed); followed = λ digit. by digit (eq-or-lt_of_le from) }
      where
        by : is_digit (get_or s after 0) ≡ true → (next ≡ after) ⊎ (next < after) → m + 3 ≤ k + 2 * (after - place)
        by digit (inr less) = let f = found in omega (arith, f.two, f.inside, f.passed)
        by digit (inl same) = let f = found in omega (arith, f.spare (rw same digit), f.inside, f.passed)

    lies_at : (f : ℕ) → first ≡ f → SearchAt s w' k m f found.search
    lies_at f hd = subst (λ (y : ℕ). SearchAt s w' k m y found.search) hd found.lies

    pub seeks-written : (f : Seek) → first ≡ head (seek_kind f) place → CommandRead s w w' place k (decode false place (seeks f) (cursor_at s at)) (Ok (whole_read m next))
    unfolding decode CommandIs ItemAt open_after
    seeks-written f hd = (
      found.kept,
      (
        seek place f found.search,
        goes_on (search_expression (cursor_at s at)) _ found.search (cursor_at s next) found.is,
        laid (seek place f found.search) next 0 (omega (arith, r.named)) (omega arith) (omega arith) found.inside (λ n. omega arith) (lies_at (head (seek_kind f) place) hd),
      ),
    )

    branch-item : (b : Bool) → first ≡ head (branch_kind b) place → ItemAt s w' k m (opens place (branch (test_of b found.search)))
    unfolding ItemAt OpenerAt branch_kind test_of
    branch-item true hd = lies_at (head if_kind place) hd
    branch-item false hd = lies_at (head unless_kind place) hd

    loop-item : (b : Bool) → first ≡ head (loop_kind b) place → ItemAt s w' k m (opens place (loop (test_of b found.search)))
    unfolding ItemAt OpenerAt loop_kind test_of
    loop-item true hd = lies_at (head while_kind place) hd
    loop-item false hd = lies_at (head until_kind place) hd

    pub branches-written : (b : Bool) (after : ℕ) → place + 2 ≤ at → first ≡ head (branch_kind b) place → skip_then (cursor_at s next) ≡ cursor_at s after → next ≤ after → after ≤ length s
        → CommandRead s w w' place k (decode false place (branches b) (cursor_at s at)) (Ok (prefix_read true m after))
    unfolding decode CommandIs open_after
    branches-written b after long hd then from to = (
      found.kept,
      (
        opens place (branch (test_of b found.search)),
        goes_on (search_expression (cursor_at s at)) _ found.search (cursor_at s next) found.is
            ∙ ap (got (prefix true (opens place (branch (test_of b found.search))))) then,
        laid (opens place (branch (test_of b found.search))) after 1 (omega arith) (omega arith) from to (λ n. refl) (branch-item b hd),
        apart after long from to,
      ),
    )

    pub loops-written : (b : Bool) → place + 2 ≤ at → first ≡ head (loop_kind b) place
        → CommandRead s w w' place k (decode false place (loops b) (cursor_at s at)) (Ok (prefix_read false m next))
    unfolding decode CommandIs open_after
    loops-written b long hd = (
      found.kept,
      (
        opens place (loop (test_of b found.search)),
        goes_on (search_expression (cursor_at s at)) _ found.search (cursor_at s next) found.is,
        laid (opens place (loop (test_of b found.search))) next 1 (omega arith) (omega arith) (omega arith) found.inside (λ n. refl) (loop-item b hd),
        apart next long (omega arith) found.inside,
      ),
    )

module _ (s : List ℕ) (place at n p : ℕ) (e : search_expression (cursor_at s at) ≡ refused n p) where
  pub seeks-refused : (f : Seek) → decode false place (seeks f) (cursor_at s at) ≡ refused n p
  unfolding decode
  seeks-refused f = passed-up (search_expression (cursor_at s at)) _ n p e

  pub branches-refused : (b : Bool) → decode false place (branches b) (cursor_at s at) ≡ refused n p
  unfolding decode
  branches-refused b = passed-up (search_expression (cursor_at s at)) _ n p e

  pub loops-refused : (b : Bool) → decode false place (loops b) (cursor_at s at) ≡ refused n p
  unfolding decode
  loops-refused b = passed-up (search_expression (cursor_at s at)) _ n p e
