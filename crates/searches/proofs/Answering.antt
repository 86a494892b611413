-- Laws of the answers of a reader of searches, by their cases. Assumes nothing.
use mathlib.Core.Path.{◌≡◌, sym, ◌∙◌}
use mathlib.Core.List.{List}
use mathlib.Core.Option.{some}
use Prim.Native.Nat.{ℕ, suc, ◌≤◌}
use native.Mathlib.Omega.{arith}
use lib.ListN.{length}
use Rattle.definitions.specs.Reader.{Got, got}
use Rattle.definitions.specs.Search.{Search}
use Rattle.definitions.specs.Strings.{operator}
use Rattle.std.specs.Prelude.{Result, Ok, Err, Some}
use Rattle.answers.specs.declared.Read.{Read}
use Rattle.answers.specs.declared.Refusal.{Refusal}
use Rattle.lexer.specs.Places.{cursor_at}
use Rattle.searches.specs.Parsing.{right_of, RightOn, SearchWritten, Parsed}

-- ---- a search

-- the same search of another definition, with as much fuel at least
same-written : {s u w : List ℕ} {at k b b' : ℕ} {x y : ℕ → Got Search} {next m : ℕ} → SearchWritten s u w at k b x next m
    → ((se : Search) → ((n : ℕ) → b ≤ n → x n ≡ got se (cursor_at s next)) → (n : ℕ) → b' ≤ n → y n ≡ got se (cursor_at s next)) → SearchWritten s u w at k b' y next m
same-written p same = record {
  search = p.search;
  is = same p.search p.is;
  encodes = p.encodes;
  kept = p.kept;
  after = p.after;
  within = p.within;
  room = p.room;
  spare = p.spare;
}

pub same-parsed : (s u w : List ℕ) (at k b b' : ℕ) (x y : ℕ → Got Search) (r : Result (Read ℕ) Refusal) → Parsed s u w at k b x r → b ≤ b' → ((n : ℕ) → b' ≤ n → y n ≡ x n)
    → Parsed s u w at k b' y r
same-parsed s u w at k b b' x y (Ok r) written h same = same-written written (λ se is n g. same n g ∙ is n (omega arith))
same-parsed s u w at k b b' x y (Err r) refusal h same = λ n g. same n g ∙ refusal n (omega arith)

-- the answer with one amount of fuel that is enough
pub with-fuel : (s u w : List ℕ) (at k b : ℕ) (x : ℕ → Got Search) (r : Result (Read ℕ) Refusal) → Parsed s u w at k b x r → (fuel : ℕ) → b ≤ fuel
    → Parsed s u w at k 0 (λ n. x fuel) r
with-fuel s u w at k b x (Ok r) written fuel h = same-written written (λ se is n g. is fuel h)
with-fuel s u w at k b x (Err r) refusal fuel h = λ n g. refusal fuel h

-- ---- an operator

-- the operator stands after i, and its right part at `next`
pub record Operated (s : List ℕ) (op i next : ℕ) : Type 0 where
  pub is : operator op (cursor_at s i) ≡ some (cursor_at s next)
  pub after : suc i ≤ next
  pub within : next ≤ length s

pub operated : (s : List ℕ) (op i next : ℕ) → right_of s (Some next) ≡ operator op (cursor_at s i) → RightOn i (length s) (Some next) → Operated s op i next
operated s op i next is on = record { is = sym is; after = on.0; within = on.1 }
