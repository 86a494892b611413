-- The lines behind the gap, measured one after the other. Assumes nothing.
use Rattle.std.specs.Prelude.{Ok}
use mathlib.Core.Path.{◌≡◌, refl, sym, ap, ◌∙◌}
use mathlib.Core.Bool.{Bool, true, false, cond}
use Prim.Native.Nat.{ℕ, ◌+◌, ◌-◌, ◌≤◌, ◌<◌}
use native.Mathlib.Omega.{arith}
use mathlib.Core.List.{List, [], ◌∷◌, ◌++◌, map, append_assoc}
use lib.ListN.{length, take, drop, length-append, length-drop}
use lib.Seq.{take_at, drop_at, drop-drop, length-take-le}
use lib.Dec.{ltb}
use borrow.Author.Tests.{lt-ltb, le-ltb}
use Rattle.globals.specs.Passing.{Passed, too-long}
use Rattle.definitions.specs.Bytes.{Line, eq_line, is_line}
use Rattle.definitions.specs.Journal.{kept}
use Rattle.definitions.specs.Given.{Carried}
use Rattle.definitions.specs.Globals.{left_by}
use Rattle.definitions.specs.Editor.{stop_number, Got, got, stop}
use Rattle.text.specs.Feeds.{line_length}
use Rattle.editor.specs.Records.{enc, enc_all, Goods}
use Rattle.editor.proofs.Sizes.{whole-inside, line-whole}
use Rattle.globals.specs.Standing.{Standing}
use Rattle.reading.specs.Carrying.{SomeStand}
use Rattle.reading.specs.Lines.{KeptAt, PassesText}
use Rattle.reading.proofs.Line.{left-long, left-text}
use Rattle.tail.specs.Rest.{extra, Grows, GrowsAt, Tells, measured_by, measured}
use Rattle.std.specs.Prelude.{Result, Ok, Err}
use Rattle.editor.specs.declared.Stop.{Stop}
use Rattle.editor.specs.declared.Stop.TheVariants.{LineLong, JournalFull}

-- ---- one line

module _ (j : List ℕ) (at : ℕ) (l : Line) (z : List ℕ) (is : drop at j ≡ enc (kept l) ++ z) where
  kept-long : length (enc (kept l)) ≡ length l + 3
  kept-long = simp length-append (omega arith)

  pub kept-inside : at + (length l + 3) ≤ length j
  kept-inside = omega (arith, whole-inside j at (kept l) z is, kept-long)

  pub kept-ends : is_line l ≡ true → line_length (drop at j) ≡ length l + 3
  kept-ends good = line-whole j at (kept l) z good is ∙ kept-long

  pub kept-text : is_line l ≡ true → (end : ℕ) → end ≡ at + line_length (drop at j) - 1 → take (end - (at + 2)) (drop (at + 2) j) ≡ l
  kept-text good end ends =
      let n : end - (at + 2) ≡ length l = omega (arith, ends, kept-ends good) in
      let q : drop at j ≡ (61 ∷ 61 ∷ []) ++ (l ++ ((10 ∷ []) ++ z)) = is ∙ simp append_assoc in
      rw (n, ← drop-drop 2 at j, q) (take_at l ((10 ∷ []) ++ z) (length l) refl)

extra-by : (m : ℕ) (l new : Line) (same : Bool) (n : ℕ) → eq_line l new ≡ same → length new ≡ m → n ≡ cond same 0 (m + 1) → n ≡ extra l new
unfolding extra
extra-by m l new same n e long is = rw (e, long) is

module _ (s w j : List ℕ) (at : ℕ) (x : Passed) (line : List ℕ) (passes : PassesText s w j at x line) where
  pub grows-long : x ≡ too-long → GrowsAt s w j at (Err LineLong)
  unfolding Grows
  grows-long q l z c good is stands = rw (left-long line (left_by c l) (rw q at (passes l z c good is stands))) (refl, refl)

  module _ (m : ℕ) (q : x ≡ Ok m) where
    left_is : (l : Line) (z : List ℕ) (c : Carried) → is_line l ≡ true → drop at j ≡ enc (kept l) ++ z → Standing s w c → (m ≤ 255) × (left_by c l ≡ got (take m line))
    left_is l z c good is stands = left-text m line (left_by c l) (rw q at (passes l z c good is stands))

    pub grows-small : SomeStand s w → KeptAt j at → m ≤ 255
    grows-small w k = (left_is k.0 k.1 w.0 k.2 k.3 w.1).0

    pub grows-bytes : m ≤ length line → (end : ℕ) → end ≡ at + line_length (drop at j) - 1 → (same : Bool) → eq_line (take (end - (at + 2)) (drop (at + 2) j)) (take m line) ≡ same
        → (n : ℕ) → n ≡ cond same 0 (m + 1) → GrowsAt s w j at (Ok n)
    unfolding Grows
    grows-bytes fits end ends same e n by l z c good is stands =
        rw (left_is l z c good is stands).1 (extra-by m l (take m line) same n (rw (kept-text j at l z is good end ends) at e) (length-take-le m line fits) by)

-- the same of a record that is there
pub kept-asks : (j : List ℕ) (at : ℕ) → KeptAt j at → (at + 3 ≤ length j) × (3 ≤ line_length (drop at j)) × (at + line_length (drop at j) ≤ length j)
kept-asks j at k =
    let inside = kept-inside j at k.0 k.1 k.3 in
    let ends = kept-ends j at k.0 k.1 k.3 k.2 in
    (omega (arith, inside), omega (arith, ends), omega (arith, inside, ends))

-- ---- the lines from `at` on

-- they are left to measure, with so much room
pub record Behind (j : List ℕ) (at : ℕ) (c : Carried) (room whole : ℕ) : Type 0 where
  pub rest : List Line
  pub bytes : drop at j ≡ enc_all (map kept rest)
  pub good : Goods (map kept rest)
  pub same : measured c room rest ≡ whole

false-true : false ≡ true → ⊥
false-true q = let z : ◌≡◌ {A = ℕ} 0 1 = cc in omega arith

-- the number of the first line decides, or that of the others does
by-long : (c : Carried) (room : ℕ) (l : Line) (ls : List Line) (i : Stop) (x : Got Line) → Grows l (Err i) x → Tells (Err i) (measured_by (λ left. measured c left ls) room l x)
unfolding Grows Tells measured_by stop_number
by-long c room l ls i (got new) h = absurd h
by-long c room l ls i (stop n) h = rw (h.0, h.1) (refl, λ q. omega (arith, q))

full-as : (c : Carried) (room n : ℕ) (ls : List Line) → room < n → ◌≡◌ {A = ℕ} 26 (elim (ltb room n) [ true ↦ 26 | false ↦ measured c (room - n) ls ])
full-as c room n ls full = by (ltb room n) (lt-ltb room n full)
  where
    by : (over : Bool) → over ≡ true → ◌≡◌ {A = ℕ} 26 (elim over [ true ↦ 26 | false ↦ measured c (room - n) ls ])
    by true q = refl
    by false q = absurd (false-true q)

on-as : (c : Carried) (room n : ℕ) (ls : List Line) → n ≤ room → ◌≡◌ {A = ℕ} (elim (ltb room n) [ true ↦ 26 | false ↦ measured c (room - n) ls ]) (measured c (room - n) ls)
on-as c room n ls fits = by (ltb room n) (le-ltb room n fits)
  where
    by : (over : Bool) → over ≡ false → ◌≡◌ {A = ℕ} (elim over [ true ↦ 26 | false ↦ measured c (room - n) ls ]) (measured c (room - n) ls)
    by true q = absurd (false-true (sym q))
    by false q = refl

by-full : (c : Carried) (room n : ℕ) (l : Line) (ls : List Line) (x : Got Line) → Grows l (Ok n) x → room < n → 26 ≡ measured_by (λ left. measured c left ls) room l x
unfolding Grows measured_by
by-full c room n l ls (got new) h full = full-as c room (extra l new) ls (omega (arith, h, full))
by-full c room n l ls (stop k) h full = absurd h

by-on : (c : Carried) (room n : ℕ) (l : Line) (ls : List Line) (x : Got Line) → Grows l (Ok n) x → n ≤ room
    → measured_by (λ left. measured c left ls) room l x ≡ measured c (room - n) ls
unfolding Grows measured_by
by-on c room n l ls (got new) h fits = on-as c room (extra l new) ls (omega (arith, h, fits)) ∙ ap (λ (i : ℕ). measured c (room - i) ls) (sym h)
by-on c room n l ls (stop k) h fits = absurd h

module _ {j : List ℕ} {at : ℕ} {c : Carried} {room whole : ℕ} (h : Behind j at c room whole) where
  pub behind-end : length j ≤ at → Tells (Ok tt) whole
  unfolding Tells
  behind-end end = by h.rest h.bytes h.same
    where
      by : (ls : List Line) → drop at j ≡ enc_all (map kept ls) → measured c room ls ≡ whole → 0 ≡ whole
      by [] q e = unfold measured in e
      by (l ∷ ls) q e = absurd (omega (arith, end, kept-inside j at l (enc_all (map kept ls)) (unfold enc_all in q)))

  module _ (more : at < length j) where
    -- the first of them
    first : (l : Line) × (ls : List Line) × (is_line l ≡ true) × Goods (map kept ls) × (drop at j ≡ enc (kept l) ++ enc_all (map kept ls))
        × (measured_by (λ left. measured c left ls) room l (left_by c l) ≡ whole)
    first = by h.rest h.bytes h.good h.same
      where
        by : (ls : List Line) → drop at j ≡ enc_all (map kept ls) → Goods (map kept ls) → measured c room ls ≡ whole
            → (l : Line) × (xs : List Line) × (is_line l ≡ true) × Goods (map kept xs) × (drop at j ≡ enc (kept l) ++ enc_all (map kept xs))
            × (measured_by (λ left. measured c left xs) room l (left_by c l) ≡ whole)
        by [] q g e = absurd (none q)
          where
            none : drop at j ≡ enc_all [] → ⊥
            none q = omega (arith, more, length-drop at j, ap length q, nothing)
              where
                nothing : length (enc_all []) ≡ 0
                nothing = unfold enc_all in refl
        by (l ∷ ls) q g e = (l, ls, g.0, g.1, unfold enc_all in q, unfold measured in e)

    pub behind-kept : KeptAt j at
    behind-kept = let f = first in (f.0, enc_all (map kept f.1), f.2, f.4)

    module _ (s w : List ℕ) (stands : Standing s w c) (r : Result ℕ Stop) (grows : GrowsAt s w j at r) where
      grown-by : Grows first.0 r (left_by c first.0)
      grown-by = grows first.0 (enc_all (map kept first.1)) c first.2 first.4 stands

      pub behind-long : (i : Stop) → r ≡ Err i → Tells (Err i) whole
      behind-long i q = rw (← first.5) (by-long c room first.0 first.1 i (left_by c first.0) (rw q at grown-by))

      module _ (n : ℕ) (q : r ≡ Ok n) where
        grown-bytes : Grows first.0 (Ok n) (left_by c first.0)
        grown-bytes = rw q at grown-by

        pub behind-full : room < n → Tells (Err JournalFull) whole
        unfolding Tells
        behind-full full = (by-full c room n first.0 first.1 (left_by c first.0) grown-bytes full ∙ first.5, λ q. omega (arith, q))

        pub behind-on : (to : ℕ) → to ≡ at + line_length (drop at j) → n ≤ room → Behind j to c (room - n) whole
        behind-on to is fits = record {
          rest = first.1;
          bytes = next;
          good = first.3;
          same = sym (by-on c room n first.0 first.1 (left_by c first.0) grown-bytes fits) ∙ first.5;
        }
          where
            long : line_length (drop at j) ≡ length (enc (kept first.0))
            long = line-whole j at (kept first.0) (enc_all (map kept first.1)) first.2 first.4

            next : drop to j ≡ enc_all (map kept first.1)
            next =
                ap (λ (i : ℕ). drop i j) is ∙ sym (drop-drop (line_length (drop at j)) at j) ∙ ap (drop (line_length (drop at j))) first.4
                ∙ drop_at (enc (kept first.0)) (enc_all (map kept first.1)) (line_length (drop at j)) (sym long)
