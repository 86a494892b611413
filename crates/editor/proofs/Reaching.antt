-- The definitions' moves over the records that are read, and over all of them; and where the gap goes for them. Assumes nothing.
use mathlib.Core.Path.{◌≡◌, refl, sym, ap, ◌∙◌}
use mathlib.Core.Bool.{Bool, true, false}
use mathlib.Core.Logic.{◌⊎◌, inl, inr}
use Prim.Native.Nat.{ℕ, zero, suc, ◌+◌, ◌-◌, ◌≤◌, ◌<◌, min, max}
use native.Mathlib.Omega.{arith}
use mathlib.Core.List.{List, [], ◌∷◌, ◌++◌, map, reverse_aux, append-nil}
use lib.Dec.{leb}
use borrow.Author.Tests.{le-leb, lt-leb, leb-true}
use Rattle.definitions.specs.Bytes.{Line}
use Rattle.definitions.specs.Journal.{Record, kept, changed, deleted, inserted, up_to_line, after_line}
use Rattle.definitions.specs.Tape.{Tape, unread, ended, rest_lines}
use Rattle.definitions.specs.Editor.{Ed, ed, before_of, after_of, sources, is_live, has_live, n21, n22, n23, Got, got, stop, land, go_back, locate}
use Rattle.definitions.specs.Editor.{Stop as StopNumber}
use Rattle.theorems.specs.ReadLines.{read_next, lacking}
use Rattle.theorems.specs.RecordLaws.{reverse_twice, sources-append, sources-kept, up_to-after}
use Rattle.editor.specs.Records.{mark}
use Rattle.editor.specs.Shows.{point_of, rest_of, GroundedAt, back_to, on_to, to_source, line_at}
use Rattle.editor.proofs.Records.{sourced, sources-cons, sources-nil}
use Rattle.editor.proofs.Reading.{reach_of}

-- ---- the next live line

-- what is read for a line to land on
abbrev pub land_read : List Record → Tape → List Line × Tape
land_read a t = read_next (lacking (has_live a)) t

-- where it lands, in the records that are then read, and in all of them
abbrev pub landing : List Record → List Record → Tape → Ed
landing b a t = land b (a ++ map kept (land_read a t).0)

abbrev pub landing_all : List Record → List Record → Tape → Ed
landing_all b a t = land b (a ++ map kept (rest_lines t))

pub record Landing (b a : List Record) (t : Tape) : Type 0 where
  pub before : before_of (landing_all b a t) ≡ before_of (landing b a t)
  pub rest : after_of (landing_all b a t) ≡ rest_of (landing b a t) (land_read a t).1
  pub point : point_of (landing b a t) ≡ 0
  pub grounded : GroundedAt (after_of (landing b a t)) (land_read a t).1
  pub furthest : (lines : ℕ) → lines ≡ sources b + sources (a ++ map kept (rest_lines t))
      → reach_of lines (land_read a t).1 ≡ max (reach_of lines t) (min (line_at (before_of (landing_all b a t)) (after_of (landing_all b a t))) (lines + 1))

-- a live record is read and its line too
live-reach : (b : List Record) (r : Record) (a : List Record) (t : Tape) (lines : ℕ) → lines ≡ sources b + sources (r ∷ (a ++ map kept (rest_lines t)))
    → reach_of lines t ≡ max (reach_of lines t) (min (sources b + sources (r ∷ [])) (lines + 1))
unfolding reach_of rest_lines
live-reach b r a (unread ls) lines is = omega (arith, sources-cons r [], sources-nil, sources-cons r (a ++ map kept ls), sources-append a (map kept ls), sources-kept ls)
live-reach b r a ended lines is = omega (arith, sources-cons r [], sources-nil, sources-cons r (a ++ []))

pub lands : (b a : List Record) (t : Tape) → Landing b a t
unfolding land is_live has_live lacking read_next rest_lines reach_of before_of after_of line_at
lands b [] (unread []) = record {
  before = refl;
  rest = refl;
  point = refl;
  grounded = tt;
  furthest = λ lines is. omega (arith, sources-nil);
}
lands b [] (unread (l ∷ ls)) = record {
  before = refl;
  rest = refl;
  point = refl;
  grounded = refl;
  furthest = λ lines is. omega (arith, sources-cons (kept l) [], sources-nil, sources-cons (kept l) (map kept ls), sources-kept ls);
}
lands b [] ended = record {
  before = refl;
  rest = refl;
  point = refl;
  grounded = tt;
  furthest = λ lines is. omega arith;
}
lands b (kept l ∷ a) t = record {
  before = refl;
  rest = rw (append-nil a);
  point = refl;
  grounded = refl;
  furthest = live-reach b (kept l) a t;
}
lands b (changed o n ∷ a) t = record {
  before = refl;
  rest = rw (append-nil a);
  point = refl;
  grounded = refl;
  furthest = live-reach b (changed o n) a t;
}
lands b (deleted l ∷ a) t =
    let h : Landing (deleted l ∷ b) a t = lands (deleted l ∷ b) a t in
    record {
      before = h.before;
      rest = h.rest;
      point = h.point;
      grounded = h.grounded;
      furthest = λ lines is. h.furthest lines (omega (arith, sources-cons (deleted l) b, sources-cons (deleted l) (a ++ map kept (rest_lines t))));
    }
lands b (inserted l ∷ a) t = record {
  before = refl;
  rest = rw (append-nil a);
  point = refl;
  grounded = refl;
  furthest = live-reach b (inserted l) a t;
}

-- by the first byte of the current record
pub land-over : (b : List Record) (r : Record) (a : List Record) → mark r ≡ 45 → land (r ∷ b) a ≡ land b (r ∷ a)
unfolding land
land-over b (kept l) a m = absurd (omega arith)
land-over b (changed o n) a m = absurd (omega arith)
land-over b (deleted l) a m = refl
land-over b (inserted l) a m = absurd (omega arith)

pub land-live : (b : List Record) (r : Record) (a : List Record) → (mark r ≡ 45 → ⊥) → land b (r ∷ a) ≡ ed b (r ∷ a) 0
unfolding land
land-live b (kept l) a m = refl
land-live b (changed o n) a m = refl
land-live b (deleted l) a m = absurd (m refl)
land-live b (inserted l) a m = refl

pub land-eof : (b : List Record) → land b [] ≡ ed b [] 0
unfolding land
land-eof b = refl

-- ---- moves that read nothing more, or enough

-- A move among the records that are read, and among them with `u` after them: the same stop, or the same live record.
pub data MovesAlike (u : List Record) : Got Ed → Got Ed → Type 0 where
  stops : (n : StopNumber) → MovesAlike u (stop n) (stop n)
  lands_on : (c : List Record) (r : Record) (d : List Record) → is_live r ≡ true → MovesAlike u (got (ed c (r ∷ d) 0)) (got (ed c (r ∷ (d ++ u)) 0))

pub back-reached : (u b a : List Record) → MovesAlike u (go_back b a) (go_back b (a ++ u))
unfolding go_back is_live
back-reached u [] a = stops n22
back-reached u (kept l ∷ b) a = lands_on b (kept l) a refl
back-reached u (changed o n ∷ b) a = lands_on b (changed o n) a refl
back-reached u (deleted l ∷ b) a = back-reached u b (deleted l ∷ a)
back-reached u (inserted l ∷ b) a = lands_on b (inserted l) a refl

pub back-over : (b : List Record) (r : Record) (a : List Record) → mark r ≡ 45 → go_back b (r ∷ a) ≡ go_back (r ∷ b) a
unfolding go_back
back-over b (kept l) a m = absurd (omega arith)
back-over b (changed o n) a m = absurd (omega arith)
back-over b (deleted l) a m = refl
back-over b (inserted l) a m = absurd (omega arith)

pub back-live : (b : List Record) (r : Record) (a : List Record) → (mark r ≡ 45 → ⊥) → go_back (r ∷ b) a ≡ got (ed b (r ∷ a) 0)
unfolding go_back
back-live b (kept l) a m = refl
back-live b (changed o n) a m = refl
back-live b (deleted l) a m = absurd (m refl)
back-live b (inserted l) a m = refl

pub back_none : (a : List Record) → go_back [] a ≡ stop n22
unfolding go_back
back_none a = refl

-- ---- source lines by their numbers

fewer : (n k : ℕ) (r : Record) (u rs : List Record) → n ≡ sourced r + k → (n < sources (r ∷ rs)) ⊎ (u ≡ []) → (k < sources rs) ⊎ (u ≡ [])
fewer n k r u rs is (inl h) = inl (omega (arith, sources-cons r rs))
fewer n k r u rs is (inr q) = inr q

-- the line is among the records that are read, or these are all
pub locate-reached : (u : List Record) (k : ℕ) (b rs : List Record) → (k < sources rs) ⊎ (u ≡ []) → MovesAlike u (locate k b rs) (locate k b (rs ++ u))
unfolding locate is_live
locate-reached u k b [] (inl h) = absurd (omega (arith, sources-nil))
locate-reached u k b [] (inr q) = rw q (stops n21)
locate-reached u k b (inserted l ∷ rs) w = locate-reached u k (inserted l ∷ b) rs (fewer k k (inserted l) u rs (omega arith) w)
locate-reached u zero b (kept l ∷ rs) w = lands_on b (kept l) rs refl
locate-reached u zero b (changed o n ∷ rs) w = lands_on b (changed o n) rs refl
locate-reached u zero b (deleted l ∷ rs) w = stops n23
locate-reached u (suc k) b (kept l ∷ rs) w = locate-reached u k (kept l ∷ b) rs (fewer (suc k) k (kept l) u rs (omega arith) w)
locate-reached u (suc k) b (changed o n ∷ rs) w = locate-reached u k (changed o n ∷ b) rs (fewer (suc k) k (changed o n) u rs (omega arith) w)
locate-reached u (suc k) b (deleted l ∷ rs) w = locate-reached u k (deleted l ∷ b) rs (fewer (suc k) k (deleted l) u rs (omega arith) w)

-- what M comes to where the records `rest` stand from the place of the line on
unfoldable pub judged : List Record → List Record → Got Ed
judged before [] = stop n21
judged before (kept l ∷ rest) = got (ed before (kept l ∷ rest) 0)
judged before (changed o n ∷ rest) = got (ed before (changed o n ∷ rest) 0)
judged before (deleted l ∷ rest) = stop n23
judged before (inserted l ∷ rest) = got (ed before (inserted l ∷ rest) 0)

-- a move to a line is a walk to its place, and a look there
located : (k : ℕ) (b rs : List Record) → locate k b rs ≡ judged (reverse_aux (up_to_line k rs) b) (after_line k rs)
unfolding locate up_to_line after_line judged
located k b [] = refl
located k b (inserted l ∷ rs) = located k (inserted l ∷ b) rs
located zero b (kept l ∷ rs) = refl
located zero b (changed o n ∷ rs) = refl
located zero b (deleted l ∷ rs) = refl
located (suc k) b (kept l ∷ rs) = located k (kept l ∷ b) rs
located (suc k) b (changed o n ∷ rs) = located k (changed o n ∷ b) rs
located (suc k) b (deleted l ∷ rs) = located k (deleted l ∷ b) rs

pub judged-none : (b : List Record) → judged b [] ≡ stop n21
unfolding judged
judged-none b = refl

pub judged-dead : (b : List Record) (r : Record) (a : List Record) → mark r ≡ 45 → judged b (r ∷ a) ≡ stop n23
unfolding judged
judged-dead b (kept l) a m = absurd (omega arith)
judged-dead b (changed o n) a m = absurd (omega arith)
judged-dead b (deleted l) a m = refl
judged-dead b (inserted l) a m = absurd (omega arith)

pub judged-live : (b : List Record) (r : Record) (a : List Record) → (mark r ≡ 45 → ⊥) → judged b (r ∷ a) ≡ got (ed b (r ∷ a) 0)
unfolding judged
judged-live b (kept l) a m = refl
judged-live b (changed o n) a m = refl
judged-live b (deleted l) a m = absurd (m refl)
judged-live b (inserted l) a m = refl

-- ---- back

pub back-here : (k : ℕ) (b a : List Record) → sources b ≤ k → back_to k b a ≡ (b, a)
unfolding back_to
back-here k [] a h = refl
back-here k (r ∷ b) a h = rw (back_to, le-leb (sources (r ∷ b)) k h)

pub back_more : (k : ℕ) (b : List Record) (r : Record) (a : List Record) → k < sources (r ∷ b) → back_to k b (r ∷ a) ≡ back_to k (r ∷ b) a
unfolding back_to
back_more k b r a h = sym (rw (back_to, lt-leb (sources (r ∷ b)) k h))

-- ---- on

one-off : (k : ℕ) (r : Record) (b : List Record) → sourced r ≡ 1 → sources b < k → (n : ℕ) × (k - sources b ≡ suc n) × (k - sources (r ∷ b) ≡ n)
one-off k r b q h = (k - sources b - 1, omega arith, omega (arith, sources-cons r b))

-- a record is passed: one that has a source line, where fewer than k have gone by; or an inserted one
pub on-over : (k : ℕ) (b : List Record) (r : Record) (a : List Record) → (sources b < k) ⊎ (mark r ≡ 43) → on_to k (r ∷ b) a ≡ on_to k b (r ∷ a)
unfolding on_to up_to_line after_line
on-over k b (inserted l) a w = ap (λ (n : ℕ). (reverse_aux (up_to_line n a) (inserted l ∷ b), after_line n a)) (let q : k - sources (inserted l ∷ b) ≡ k - sources b = omega (arith, sources-cons (inserted l) b) in q)
on-over k b (kept l) a (inl h) = let n = one-off k (kept l) b refl h in rw (n.1, n.2)
on-over k b (changed o m) a (inl h) = let n = one-off k (changed o m) b refl h in rw (n.1, n.2)
on-over k b (deleted l) a (inl h) = let n = one-off k (deleted l) b refl h in rw (n.1, n.2)
on-over k b (kept l) a (inr m) = absurd (omega arith)
on-over k b (changed o n) a (inr m) = absurd (omega arith)
on-over k b (deleted l) a (inr m) = absurd (omega arith)

pub on-here : (k : ℕ) (b : List Record) (r : Record) (a : List Record) → k ≤ sources b → (mark r ≡ 43 → ⊥) → on_to k b (r ∷ a) ≡ (b, r ∷ a)
unfolding on_to up_to_line after_line
on-here k b r a h m = let z : k - sources b ≡ 0 = omega arith in rw z (at r m)
  where
    at : (x : Record) → (mark x ≡ 43 → ⊥) → ◌≡◌ {A = List Record × List Record} (reverse_aux (up_to_line 0 (x ∷ a)) b, after_line 0 (x ∷ a)) (b, x ∷ a)
    at (kept l) m = refl
    at (changed o n) m = refl
    at (deleted l) m = refl
    at (inserted l) m = absurd (m refl)

pub on-eof : (k : ℕ) (b : List Record) → on_to k b [] ≡ (b, [])
unfolding on_to up_to_line after_line
on-eof k b = refl

-- THE LAW OF PLACES: to go on to a line from the start is to go on to it from any place before it
on-from : (k : ℕ) (b a : List Record) → sources b ≤ k → on_to k b a ≡ on_to k [] (reverse_aux b a)
on-from k [] a h = refl
on-from k (r ∷ b) a h = on-over k b r a (way r (sources-cons r b)) ∙ on-from k b (r ∷ a) (omega (arith, sources-cons r b))
  where
    way : (x : Record) → sources (r ∷ b) ≡ sourced x + sources b → (sources b < k) ⊎ (mark x ≡ 43)
    way (kept l) q = inl (omega arith)
    way (changed o n) q = inl (omega arith)
    way (deleted l) q = inl (omega arith)
    way (inserted l) q = inr refl

-- back and then on is the way to the line
pub back_on : (k : ℕ) (b a : List Record) → on_to k (back_to k b a).0 (back_to k b a).1 ≡ to_source k b a
unfolding back_to to_source
back_on k [] a = refl
back_on k (r ∷ b) a = go (leb (sources (r ∷ b)) k) refl (back_on k b (r ∷ a))
  where
    go : (x : Bool) → leb (sources (r ∷ b)) k ≡ x → on_to k (back_to k b (r ∷ a)).0 (back_to k b (r ∷ a)).1 ≡ on_to k [] (reverse_aux (r ∷ b) a)
        → on_to k (elim x as (λ y. List Record × List Record) [ true ↦ (r ∷ b, a) | false ↦ back_to k b (r ∷ a) ]).0 (elim x as (λ y. List Record × List Record) [ true ↦ (r ∷ b, a) | false ↦ back_to k b (r ∷ a) ]).1 ≡ on_to k [] (reverse_aux (r ∷ b) a)
    go true q ih = on-from k (r ∷ b) a (leb-true (sources (r ∷ b)) k q)
    go false q ih = ih

-- a move to a line, by a walk from anywhere
pub judged-at : (k : ℕ) (b a : List Record) → locate k [] (reverse_aux b a) ≡ judged (to_source k b a).0 (to_source k b a).1
unfolding to_source on_to
judged-at k b a =
    let q : k ≡ k - sources [] = omega (arith, sources-nil) in
    located k [] (reverse_aux b a) ∙ ap (λ (n : ℕ). judged (reverse_aux (up_to_line n (reverse_aux b a)) []) (after_line n (reverse_aux b a))) q

-- the walk leaves the records
pub source-same : (k : ℕ) (b a : List Record) → reverse_aux (to_source k b a).0 (to_source k b a).1 ≡ reverse_aux b a
unfolding to_source on_to
source-same k b a = reverse_twice (up_to_line (k - sources []) (reverse_aux b a)) [] (after_line (k - sources []) (reverse_aux b a)) ∙ up_to-after (k - sources []) (reverse_aux b a)
