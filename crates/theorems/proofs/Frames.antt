-- Runs of an accepted script have the frames that they need: no close, bracket or ELSE comes without its body, and no close that is looked for is
-- missing.
use Rattle.std.specs.Prelude.{◌≡◌, refl, Bool, true, false, List, [], ◌∷◌, ℕ, zero, suc, ◌+◌, ◌≤◌, length}
use Rattle.std.proofs.Common.{sym, ap, ◌∙◌, subst, not-suc-le-zero, arith}
use Rattle.std.proofs.lemmas.Bool.{false≢true}
use Rattle.std.proofs.Math.Option.{Option, none, some}
use Rattle.definitions.specs.Edit.{Op}
use Rattle.definitions.specs.Control.{Opener, times, forever, bare, branch, loop, Item, simple, seek, opens, bracket, close, otherwise, leave, line_end, Frame, frame, Ctl, running, skipping, failing, leaving, seeking, Pull, finished, want, lost, want_one, body_start, body_end, leave_to, pull_at, pull_after, pull_else, pull_line, pull}
use Rattle.definitions.specs.Script.{items, read_script}
use Rattle.theorems.specs.Nesting.{Body, after_bracket, after_close, after_otherwise, are_none, after, nested_from, nested}
use Rattle.theorems.specs.NestingLaws.{opens_in, closes_in}
use Rattle.theorems.proofs.NestingLaws.{provided-some, after-length, comes, none_left}
use Rattle.theorems.proofs.ReadScript.{well-nested}

-- ---- items that go on from a point where n bodies are open

pub record Runs (rest : List Item) (n : ℕ) : Type 0 where
  pub bodies : List Body
  pub goes_on : nested_from bodies rest ≡ true
  pub count : length bodies ≡ n

-- a frame for each open body; each has the items from its body on
unfoldable pub FramesFit : List Frame → Type 0
FramesFit [] = Unit {0}
FramesFit (frame g at o body ∷ frames) = Runs body (suc (length frames)) × FramesFit frames

-- the same while bodies are skipped
unfoldable pub Fits : Ctl → Type 0
Fits (running rest frames) = Runs rest (length frames) × FramesFit frames
Fits (skipping k rest frames) = (1 ≤ k) × Runs rest (k + length frames) × FramesFit frames
Fits (failing k rest frames) = (1 ≤ k) × Runs rest (k + length frames) × FramesFit frames
Fits (leaving rest) = (n : ℕ) × Runs rest n
Fits (seeking at s se k rest frames) = Runs rest (length frames) × FramesFit frames

unfoldable pub PullFits : Pull → Type 0
PullFits finished = Unit {0}
PullFits (want at op c₁ c₀) = Fits c₁ × Fits c₀
PullFits lost = ⊥

next-runs : {rest : List Item} (i : Item) (n m : ℕ) → n + opens_in (i ∷ []) ≡ m + closes_in (i ∷ []) → Runs (i ∷ rest) n → Runs rest m
unfolding opens_in closes_in
next-runs {rest} i n m e r = go (comes i r.bodies rest r.goes_on)
  where
    go : ((bs : List Body) × (after i r.bodies ≡ some bs) × (nested_from bs rest ≡ true)) → Runs rest m
    go (bs, q, h) = record { bodies = bs; goes_on = h; count = omega (arith, r.count, after-length i [] r.bodies bs q) }

end-runs : {n : ℕ} → Runs [] n → n ≡ 0
unfolding nested_from
end-runs r = sym r.count ∙ none_left r.bodies r.goes_on

line-runs : {rest : List Item} {n : ℕ} → Runs (line_end ∷ rest) n → Runs rest 0
unfolding after
line-runs {rest} r = go (comes line_end r.bodies rest r.goes_on)
  where
    go : ((bs : List Body) × (after line_end r.bodies ≡ some bs) × (nested_from bs rest ≡ true)) → Runs rest 0
    go (bs, q, h) = record {
      bodies = bs;
      goes_on = h;
      count = ap length (sym (provided-some (are_none r.bodies) r.bodies bs q).1) ∙ none_left r.bodies (provided-some (are_none r.bodies) r.bodies bs q).0;
    }

-- where no body is open, none of these may come
no_body : {rest : List Item} (i : Item) → after i [] ≡ none → Runs (i ∷ rest) 0 → ⊥
unfolding nested_from
no_body {rest} i e r = go r.bodies r.goes_on r.count
  where
    refused : (o : Option (List Body)) → o ≡ none → elim o [ none ↦ false | some bs ↦ nested_from bs rest ] ≡ true → ⊥
    refused o q h = false≢true (sym (ap (λ x. elim x as (λ y. Bool) [ none ↦ false | some bs ↦ nested_from bs rest ]) q) ∙ h)

    go : (bs : List Body) → nested_from bs (i ∷ rest) ≡ true → length bs ≡ 0 → ⊥
    go [] h q = refused (after i []) e h
    go (b ∷ bs) h q = omega arith

one-open : {rest : List Item} {n : ℕ} → Runs rest (suc n) → Runs rest (1 + n)
one-open {rest} r = subst (Runs rest) (omega arith) r

-- ---- what comes next fits too, and is not `lost`

-- a body begins, or is skipped
start_fits : (o : Opener) (at : ℕ) (rest : List Item) (frames : List Frame) (skip : Pull) → Runs rest (suc (length frames)) → FramesFit frames → PullFits skip
    → PullFits (body_start o at rest frames skip)
unfolding body_start want_one PullFits Fits FramesFit
start_fits (times zero) at rest frames skip r f p = p
start_fits (times (suc n)) at rest frames skip r f p = ((r, (r, f)), (r, (r, f)))
start_fits forever at rest frames skip r f p = ((r, (r, f)), (r, (r, f)))
start_fits bare at rest frames skip r f p = ((r, (r, f)), (r, (r, f)))
start_fits (branch t) at rest frames skip r f p = ((r, (r, f)), (omega arith, one-open r, f))
start_fits (loop t) at rest frames skip r f p = ((r, (r, f)), (omega arith, one-open r, f))

-- a body has run to its close
end_fits : (o : Opener) (g : Bool) (at : ℕ) (body rest : List Item) (frames : List Frame) (next : Pull) → Runs body (suc (length frames))
    → Runs rest (length frames) → FramesFit frames → PullFits next → PullFits (body_end o g at body rest frames next)
unfolding body_end want_one PullFits Fits FramesFit
end_fits (times zero) g at body rest frames next b r f p = p
end_fits (times (suc n)) g at body rest frames next b r f p = ((b, (b, f)), (b, (b, f)))
end_fits forever g at body rest frames next b r f p = ((b, (b, f)), (b, (b, f)))
end_fits bare g at body rest frames next b r f p = p
end_fits (branch t) g at body rest frames next b r f p = p
end_fits (loop t) g at body rest frames next b r f p = ((b, (b, f)), (r, f))

-- AGP
leave_fits : (k : ℕ) (rest : List Item) (frames : List Frame) → Runs rest (k + length frames) → FramesFit frames → Fits (leave_to k rest frames)
unfolding leave_to Fits FramesFit
leave_fits k rest [] r f = (k + 0, r)
leave_fits k rest (frame true at o body ∷ frames) r f = (omega arith, subst (Runs rest) (omega arith) r, f.1)
leave_fits k rest (frame false at o body ∷ frames) r f = leave_fits (suc k) rest frames (subst (Runs rest) (omega arith) r) f.1

mutual
  unfolding pull_at pull_after PullFits Fits FramesFit want_one opens_in closes_in after after_bracket after_close after_otherwise

  at-fits : (rest : List Item) (frames : List Frame) → Runs rest (length frames) → FramesFit frames → PullFits (pull_at rest frames)
  at-fits [] frames r f = tt
  at-fits (simple at op ∷ rest) frames r f = let n = next-runs (simple at op) (length frames) (length frames) refl r in ((n, f), (n, f))
  at-fits (seek at s se ∷ rest) frames r f = let n = next-runs (seek at s se) (length frames) (length frames) refl r in ((n, f), (n, f))
  at-fits (opens at o ∷ rest) frames r f =
      let n = next-runs (opens at o) (length frames) (suc (length frames)) (omega arith) r in
      start_fits o at rest frames (pull_after rest 1 frames) n f (after-fits rest 1 frames (omega arith) (one-open n) f)
  at-fits (bracket ∷ rest) [] r f = absurd (no_body bracket refl r)
  at-fits (bracket ∷ rest) (frame g at o body ∷ frames) r f = at-fits rest (frame true at o body ∷ frames) (next-runs bracket (suc (length frames)) (suc (length frames)) refl r) f
  at-fits (close ∷ rest) [] r f = absurd (no_body close refl r)
  at-fits (close ∷ rest) (frame g at o body ∷ frames) r f =
      let n = next-runs close (suc (length frames)) (length frames) (omega arith) r in
      end_fits o g at body rest frames (pull_at rest frames) f.0 n f.1 (at-fits rest frames n f.1)
  at-fits (otherwise ∷ rest) [] r f = absurd (no_body otherwise refl r)
  at-fits (otherwise ∷ rest) (frame g at o body ∷ frames) r f =
      after-fits rest 1 frames (omega arith) (one-open (next-runs otherwise (suc (length frames)) (suc (length frames)) refl r)) f.1
  at-fits (leave at ∷ rest) frames r f =
      let n = leave_fits 0 rest frames (subst (Runs rest) (omega arith) (next-runs (leave at) (length frames) (length frames) refl r)) f in (n, n)
  at-fits (line_end ∷ rest) frames r f = at-fits rest frames (next-runs line_end (length frames) (length frames) refl r) f

  after-fits : (rest : List Item) (k : ℕ) (frames : List Frame) → 1 ≤ k → Runs rest (k + length frames) → FramesFit frames → PullFits (pull_after rest k frames)
  after-fits [] k frames le r f = absurd (omega (arith, end-runs r))
  after-fits (simple at op ∷ rest) k frames le r f = after-fits rest k frames le (next-runs (simple at op) _ _ refl r) f
  after-fits (seek at s se ∷ rest) k frames le r f = after-fits rest k frames le (next-runs (seek at s se) _ _ refl r) f
  after-fits (opens at o ∷ rest) k frames le r f =
      after-fits rest (suc k) frames (omega arith) (next-runs (opens at o) (k + length frames) (suc k + length frames) (omega arith) r) f
  after-fits (bracket ∷ rest) k frames le r f = after-fits rest k frames le (next-runs bracket _ _ refl r) f
  after-fits (close ∷ rest) zero frames le r f = absurd (not-suc-le-zero le)
  after-fits (close ∷ rest) (suc zero) frames le r f = at-fits rest frames (next-runs close (suc zero + length frames) (length frames) (omega arith) r) f
  after-fits (close ∷ rest) (suc (suc k)) frames le r f =
      after-fits rest (suc k) frames (omega arith) (next-runs close (suc (suc k) + length frames) (suc k + length frames) (omega arith) r) f
  after-fits (otherwise ∷ rest) k frames le r f = after-fits rest k frames le (next-runs otherwise _ _ refl r) f
  after-fits (leave at ∷ rest) k frames le r f = after-fits rest k frames le (next-runs (leave at) _ _ refl r) f
  after-fits (line_end ∷ rest) k frames le r f = after-fits rest k frames le (next-runs line_end _ _ refl r) f

else-fits : (rest : List Item) (k : ℕ) (frames : List Frame) → 1 ≤ k → Runs rest (k + length frames) → FramesFit frames → PullFits (pull_else rest k frames)
unfolding pull_else FramesFit opens_in closes_in
else-fits [] k frames le r f = absurd (omega (arith, end-runs r))
else-fits (simple at op ∷ rest) k frames le r f = else-fits rest k frames le (next-runs (simple at op) _ _ refl r) f
else-fits (seek at s se ∷ rest) k frames le r f = else-fits rest k frames le (next-runs (seek at s se) _ _ refl r) f
else-fits (opens at o ∷ rest) k frames le r f =
    else-fits rest (suc k) frames (omega arith) (next-runs (opens at o) (k + length frames) (suc k + length frames) (omega arith) r) f
else-fits (bracket ∷ rest) k frames le r f = else-fits rest k frames le (next-runs bracket _ _ refl r) f
else-fits (close ∷ rest) zero frames le r f = absurd (not-suc-le-zero le)
else-fits (close ∷ rest) (suc zero) frames le r f = at-fits rest frames (next-runs close (suc zero + length frames) (length frames) (omega arith) r) f
else-fits (close ∷ rest) (suc (suc k)) frames le r f =
    else-fits rest (suc k) frames (omega arith) (next-runs close (suc (suc k) + length frames) (suc k + length frames) (omega arith) r) f
else-fits (otherwise ∷ rest) zero frames le r f = absurd (not-suc-le-zero le)
else-fits (otherwise ∷ rest) (suc zero) frames le r f =
    let n = next-runs otherwise (suc zero + length frames) (suc (length frames)) (omega arith) r in
    at-fits rest (frame false 0 bare rest ∷ frames) n (n, f)
else-fits (otherwise ∷ rest) (suc (suc k)) frames le r f = else-fits rest (suc (suc k)) frames le (next-runs otherwise _ _ refl r) f
else-fits (leave at ∷ rest) k frames le r f = else-fits rest k frames le (next-runs (leave at) _ _ refl r) f
else-fits (line_end ∷ rest) k frames le r f = else-fits rest k frames le (next-runs line_end _ _ refl r) f

line-fits : (rest : List Item) (n : ℕ) → Runs rest n → PullFits (pull_line rest)
unfolding pull_line PullFits FramesFit opens_in closes_in after after_close
line-fits [] n r = tt
line-fits (simple at op ∷ rest) n r = line-fits rest n (next-runs (simple at op) n n refl r)
line-fits (seek at s se ∷ rest) n r = line-fits rest n (next-runs (seek at s se) n n refl r)
line-fits (opens at o ∷ rest) n r = line-fits rest (suc n) (next-runs (opens at o) n (suc n) (omega arith) r)
line-fits (bracket ∷ rest) n r = line-fits rest n (next-runs bracket n n refl r)
line-fits (close ∷ rest) zero r = absurd (no_body close refl r)
line-fits (close ∷ rest) (suc n) r = line-fits rest n (next-runs close (suc n) n (omega arith) r)
line-fits (otherwise ∷ rest) n r = line-fits rest n (next-runs otherwise n n refl r)
line-fits (leave at ∷ rest) n r = line-fits rest n (next-runs (leave at) n n refl r)
line-fits (line_end ∷ rest) n r = at-fits rest [] (line-runs r) tt

pull-fits : (c : Ctl) → Fits c → PullFits (pull c)
unfolding pull Fits PullFits
pull-fits (running rest frames) h = at-fits rest frames h.0 h.1
pull-fits (skipping k rest frames) h = after-fits rest k frames h.0 h.1 h.2
pull-fits (failing k rest frames) h = else-fits rest k frames h.0 h.1 h.2
pull-fits (leaving rest) h = line-fits rest h.0 h.1
pull-fits (seeking at s se k rest frames) h = (h, h)

-- ---- runs

-- where a run of items can come to, whatever each step answers
pub data RunsTo (all : List Item) : Ctl → Type 0 where
  begins : RunsTo all (running all [])
  on_true : {c c₁ c₀ : Ctl} {at : ℕ} {op : Op} → RunsTo all c → pull c ≡ want at op c₁ c₀ → RunsTo all c₁
  on_false : {c c₁ c₀ : Ctl} {at : ℕ} {op : Op} → RunsTo all c → pull c ≡ want at op c₁ c₀ → RunsTo all c₀

pub runs_fit : (all : List Item) (c : Ctl) → nested all ≡ true → RunsTo all c → Fits c
unfolding Fits FramesFit PullFits nested
runs_fit all c h begins = (record { bodies = []; goes_on = h; count = refl }, tt)
runs_fit all c h (on_true {c = b} w e) = (subst PullFits e (pull-fits b (runs_fit all b h w))).0
runs_fit all c h (on_false {c = b} w e) = (subst PullFits e (pull-fits b (runs_fit all b h w))).1

-- in no run of an accepted script is a frame or a close missing
pub frames-suffice : (s : List ℕ) (all : List Item) (c : Ctl) → read_script s ≡ items all → RunsTo all c → pull c ≡ lost → ⊥
unfolding PullFits
frames-suffice s all c e w q = subst PullFits q (pull-fits c (runs_fit all c (well-nested s all e) w))
