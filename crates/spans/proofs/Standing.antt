-- Records in the buffer behind the gap, walked without a move. Assumes nothing.
use mathlib.Core.Path.{◌≡◌, refl, sym, ap, ◌∙◌}
use Prim.Native.Nat.{ℕ, suc, ◌+◌, ◌-◌, ◌≤◌, ◌<◌}
use native.Mathlib.Omega.{arith}
use mathlib.Core.List.{List, [], ◌∷◌, ◌++◌, reverse_aux}
use lib.ListN.{length, drop, get_or, length-append, length-drop}
use lib.Seq.{drop_at, drop-cons, drop-drop}
use Rattle.text.specs.Feeds.{line_length}
use Rattle.definitions.specs.Journal.{Record}
use Rattle.definitions.specs.Editor.{sources}
use Rattle.theorems.specs.RecordLaws.{sources-reverse}
use Rattle.editor.specs.Records.{enc, enc_all, mark}
use Rattle.editor.specs.Shows.{Holds}
use Rattle.editor.specs.declared.State.{State}
use Rattle.editor.proofs.Records.{unmarked, marked, some_bytes, record-line, sourced, new_line, old-line, sources-cons, sources-nil}
use Rattle.editor.proofs.Held.{held-length, held-drop}
use Rattle.spans.specs.Spans.{Stands, SourceAt}

pub stands-held : {j : List ℕ} {st : State} {b a : List Record} → Holds j st b a → Stands j st.back a
stands-held h = record {
  bytes = held-drop h;
  inside = omega (arith, held-length h);
  good = h.good;
}

-- the source lines before the gap and after it are all
pub held-most : {j : List ℕ} {st : State} {b a : List Record} {n : ℕ} → Holds j st b a → n ≤ st.lines → n ≤ sources b + sources a
held-most h k = omega (arith, h.lines)

pub stands-length : {j : List ℕ} {at : ℕ} {rs : List Record} → Stands j at rs → at + length (enc_all rs) ≡ length j
stands-length {j} {at} {rs} h = omega (arith, h.inside, ap length h.bytes, length-drop at j)

module _ {j : List ℕ} {at : ℕ} {r : Record} {rs : List Record} (h : Stands j at (r ∷ rs)) where
  pub stands-more : at + length (enc r) ≤ length j
  unfolding enc_all
  stands-more = omega (arith, stands-length h, length-append (enc r) (enc_all rs))

  pub stands-in : at < length j
  stands-in = omega (arith, stands-more, some_bytes r)

  pub stands-mark : get_or j at 0 ≡ mark r
  unfolding enc_all
  stands-mark =
      let q : get_or j at 0 ∷ drop (suc at) j ≡ mark r ∷ (unmarked r ++ enc_all rs) = sym (drop-cons j at 0 stands-in) ∙ h.bytes ∙ ap (λ (z : List ℕ). z ++ enc_all rs) (marked r) in
      cc

  pub stands-record : line_length (drop at j) ≡ length (enc r)
  unfolding enc_all
  stands-record = rw h.bytes (record-line r (enc_all rs) h.good.0)

  -- the records after the first
  pub stands_on : (next : ℕ) → next ≡ at + line_length (drop at j) → Stands j next rs
  unfolding enc_all
  stands_on next is =
      let to : next ≡ at + length (enc r) = is ∙ ap (λ (i : ℕ). at + i) stands-record in
      record {
        bytes = ap (λ (i : ℕ). drop i j) to ∙ sym (drop-drop (length (enc r)) at j) ∙ ap (drop (length (enc r))) h.bytes ∙ drop_at (enc r) (enc_all rs) (length (enc r)) refl;
        inside = omega (arith, stands-more);
        good = h.good.1;
      }

-- ---- the walk to a source record

-- The walk stands at `at`; n source lines are before it, those of `c` and of the records passed.
pub record Scanning (j : List ℕ) (at n : ℕ) (c a : List Record) : Type 0 where
  pub passed : List Record
  pub left : List Record
  pub same : reverse_aux passed left ≡ a
  pub count : n ≡ sources c + sources passed
  pub stands : Stands j at left

pub scanning-start : {j : List ℕ} {at n : ℕ} (c a : List Record) → n ≡ sources c → Stands j at a → Scanning j at n c a
scanning-start c a q h = record {
  passed = [];
  left = a;
  same = refl;
  count = omega (arith, sources-nil);
  stands = h;
}

module _ {j : List ℕ} {at n : ℕ} {c a : List Record} (w : Scanning j at n c a) (b : ℕ) (less : n < b) (most : b ≤ sources c + sources a) where
  scanned : (r : Record) × (rs : List Record) × (w.left ≡ r ∷ rs)
  scanned = go w.left refl
    where
      go : (l : List Record) → w.left ≡ l → (r : Record) × (rs : List Record) × (w.left ≡ r ∷ rs)
      go [] q = absurd (omega (arith, w.count, ap sources w.same, sources-reverse w.passed w.left, ap sources q, sources-nil))
      go (r ∷ rs) q = (r, rs, q)

  here-stands : Stands j at (scanned.0 ∷ scanned.1)
  here-stands = rw (← scanned.2) w.stands

  here-same : reverse_aux w.passed (scanned.0 ∷ scanned.1) ≡ a
  here-same = ap (reverse_aux w.passed) (sym scanned.2) ∙ w.same

  pub scanning-in : at < length j
  scanning-in = stands-in here-stands

  -- the record that is looked for
  pub scanning-found : (get_or j at 0 ≡ 43 → ⊥) → b ≤ n + 1 → SourceAt j at (b - suc (sources c)) a
  scanning-found old last = record {
    passed = w.passed;
    this = scanned.0;
    after = scanned.1;
    same = here-same;
    count = omega (arith, w.count);
    source = λ q. old (stands-mark here-stands ∙ q);
    stands = here-stands;
  }

  scanning-on : (next m : ℕ) → next ≡ at + line_length (drop at j) → m ≡ n + sourced scanned.0 → Scanning j next m c a
  scanning-on next m is up = record {
    passed = scanned.0 ∷ w.passed;
    left = scanned.1;
    same = here-same;
    count = omega (arith, w.count, sources-cons scanned.0 w.passed);
    stands = stands_on here-stands next is;
  }

  -- another record is passed: it has a source line, or is inserted
  pub scanning-source : (next m : ℕ) → next ≡ at + line_length (drop at j) → (get_or j at 0 ≡ 43 → ⊥) → m ≡ n + 1 → Scanning j next m c a
  scanning-source next m is old up = scanning-on next m is (up ∙ ap (λ (i : ℕ). n + i) (sym (old-line scanned.0 (λ q. old (stands-mark here-stands ∙ q)))))

  pub scanning-inserted : (next m : ℕ) → next ≡ at + line_length (drop at j) → get_or j at 0 ≡ 43 → m ≡ n → Scanning j next m c a
  scanning-inserted next m is new up =
      let none : sourced scanned.0 ≡ 0 = new_line scanned.0 (sym (stands-mark here-stands) ∙ new) in
      scanning-on next m is (omega arith)

  pub scanning-less : (next : ℕ) → next ≡ at + line_length (drop at j) → (at < next) × (next ≤ length j)
  scanning-less next is = (omega (arith, stands-record here-stands, some_bytes scanned.0), omega (arith, stands-record here-stands, stands-more here-stands))
