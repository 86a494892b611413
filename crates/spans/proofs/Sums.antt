-- Sums over the records up to a place, as a walk over the buffer counts them. Assumes nothing.
use mathlib.Core.Path.{◌≡◌, refl, sym, ap, ◌∙◌}
use Prim.Native.Nat.{ℕ, ◌+◌, ◌≤◌, ◌<◌}
use native.Mathlib.Omega.{arith}
use mathlib.Core.List.{List, [], ◌∷◌, ◌++◌}
use lib.ListN.{length, drop, get_or, length-append}
use Rattle.text.specs.Feeds.{line_length}
use Rattle.definitions.specs.Journal.{Record}
use Rattle.editor.specs.Records.{enc, enc_all}
use Rattle.editor.proofs.Records.{some_bytes, sourced, new_line, old-line}
use Rattle.spans.specs.Spans.{Stands}
use Rattle.spans.proofs.Struck.{all_append}
use Rattle.spans.proofs.Standing.{stands-length, stands-mark, stands-more, stands-record, stands_on}

-- A walk over them has come to `at`; `d` stand from that place on. What is counted and the sum over those that are left are the whole.
pub record Counting (total : List Record → ℕ) (whole : ℕ) (j : List ℕ) (at n : ℕ) (d : List Record) : Type 0 where
  pub left : List Record
  pub stands : Stands j at (left ++ d)
  pub sum : n + total left ≡ whole

module _ {total : List Record → ℕ} {whole : ℕ} {j : List ℕ} {at n : ℕ} {d : List Record} (w : Counting total whole j at n d) (end : ℕ) (is : end + length (enc_all d) ≡ length j) where
  counting-left : at < end → (r : Record) × (rs : List Record) × (w.left ≡ r ∷ rs)
  unfolding enc_all
  counting-left less = go w.left refl
    where
      go : (l : List Record) → w.left ≡ l → (r : Record) × (rs : List Record) × (w.left ≡ r ∷ rs)
      go [] q = absurd (omega (arith, stands-length w.stands, all_append w.left d, ap (λ (z : List Record). length (enc_all z)) q))
      go (r ∷ rs) q = (r, rs, q)

  -- the record that the walk stands at
  pub counting-first : at < end → (r : Record) × (rs : List Record) × Stands j at (r ∷ rs)
  counting-first less =
      let f : (r : Record) × (rs : List Record) × (w.left ≡ r ∷ rs) = counting-left less in
      (f.0, f.1 ++ d, rw f.2 at w.stands)

  pub counting-less : at < end → (next : ℕ) → next ≡ at + line_length (drop at j) → (at < next) × (next ≤ length j)
  counting-less less next to =
      let f : (r : Record) × (rs : List Record) × Stands j at (r ∷ rs) = counting-first less in
      (omega (arith, stands-record f.2, some_bytes f.0), omega (arith, stands-record f.2, stands-more f.2))

  pub counting-done : total [] ≡ 0 → (at < end → ⊥) → n ≡ whole
  unfolding enc_all
  counting-done none stop = go w.left refl
    where
      go : (l : List Record) → w.left ≡ l → n ≡ whole
      go [] q = omega (arith, w.sum, ap total q)
      go (r ∷ rs) q = absurd (stop (omega (arith, stands-length w.stands, all_append w.left d, ap (λ (z : List Record). length (enc_all z)) q, length-append (enc r) (enc_all rs), some_bytes r)))

  -- it is passed, and counted
  pub counting-on : (one : Record → ℕ) → ((r : Record) (rs : List Record) → total (r ∷ rs) ≡ one r + total rs) → at < end → (next k : ℕ) → next ≡ at + line_length (drop at j)
      → ((r : Record) (rs : List Record) → Stands j at (r ∷ rs) → next ≡ at + length (enc r) → k ≡ n + one r) → Counting total whole j next k d
  counting-on one cons less next k to counts =
      let x : (r : Record) × (rs : List Record) × (w.left ≡ r ∷ rs) = counting-left less in
      let h : Stands j at (x.0 ∷ (x.1 ++ d)) = rw x.2 at w.stands in
      let more : k ≡ n + one x.0 = counts x.0 (x.1 ++ d) h (to ∙ ap (λ (i : ℕ). at + i) (stands-record h)) in
      record {
        left = x.1;
        stands = stands_on h next to;
        sum = omega (arith, w.sum, ap total x.2, cons x.0 x.1);
      }

-- a record's source line, by its first byte
pub source_more : {j : List ℕ} {at : ℕ} (n : ℕ) → (get_or j at 0 ≡ 43 → ⊥) → (r : Record) (rs : List Record) → Stands j at (r ∷ rs) → n + 1 ≡ n + sourced r
source_more n old r rs h = ap (λ (i : ℕ). n + i) (sym (old-line r (λ q. old (stands-mark h ∙ q))))

pub source-same : {j : List ℕ} {at : ℕ} (n : ℕ) → get_or j at 0 ≡ 43 → (r : Record) (rs : List Record) → Stands j at (r ∷ rs) → n ≡ n + sourced r
source-same n new r rs h = omega (arith, new_line r (sym (stands-mark h) ∙ new))
