-- A line cut in two: the record of the rest in the place of the current one, and the left part before it. Assumes nothing.
use mathlib.Core.Path.{◌≡◌, refl, ap, ◌∙◌}
use mathlib.Core.Bool.{true}
use mathlib.Core.List.{List, [], ◌∷◌, ◌++◌, map}
use Prim.Native.Nat.{ℕ, ◌+◌, ◌-◌, ◌≤◌, ◌<◌}
use native.Mathlib.Omega.{arith}
use lib.ListN.{length, take, drop, length-drop}
use lib.Seq.{length-take-le, take_all}
use Rattle.definitions.specs.Bytes.{Line, is_line}
use Rattle.definitions.specs.Journal.{Record, kept, inserted, rewrite}
use Rattle.definitions.specs.Tape.{rest_lines}
use Rattle.definitions.specs.Given.{Carried}
use Rattle.definitions.specs.Editor.{Ed, ed, before_of, after_of, put_before, put, retext, edit, edits}
use Rattle.definitions.specs.Edit.{cut_after}
use Rattle.theorems.specs.GoodLines.{taken-line, dropped_line}
use Rattle.editor.specs.Records.{LineIn}
use Rattle.editor.specs.Shows.{Holds, ShowsText, Completes, Puts}
use Rattle.editor.specs.declared.State.{State}
use Rattle.std.specs.Prelude.{Ok}
use Rattle.editor.specs.Stops.{stopping}
use Rattle.editor.specs.declared.Stop.TheVariants.{JournalFull}
use Rattle.editor.proofs.Inserting.{put-length}
use Rattle.editor.proofs.Reading.{journal-is}
use Rattle.editor.proofs.Parts.{shown-record}
use Rattle.editor.proofs.Changing.{changes-on, changes-full, put-shows, one-length}
use Rattle.changes.specs.Current.{MakesAnew, Replacing, Replaces}
use Rattle.changes.specs.declared.rewrite.Anew.{Anew}
use Rattle.changes.proofs.Putting.{put-total}
use Rattle.changes.proofs.Rewriting.{replacing, has-record, rewritten-shows}

-- lines may be put before the current one before its text changes, or after
put-either : (ls : List Line) (l : Line) (q : ℕ) (e : Ed) → edit (retext l q) (edit (put ls) e) ≡ edit (put ls) (edit (retext l q) e)
unfolding edit
put-either ls l q (ed b [] p) = refl
put-either ls l q (ed b (r ∷ a) p) = refl

-- the bytes after the first n are the rest
pub rest-is : (l : Line) (n : ℕ) → take (length l - n) (drop n l) ≡ drop n l
rest-is l n = take_all (length l - n) (drop n l) (omega (arith, length-drop n l))

-- the same, taken once more
pub rest-again : (l : Line) (n : ℕ) → take (length l - n) (take (length l - n) (drop n l)) ≡ drop n l
rest-again l n = ap (take (length l - n)) (rest-is l n) ∙ rest-is l n

pub rest-made : {j : List ℕ} {st : State} (l : Line) (n : ℕ) (d rec : List ℕ) (c : Anew) → MakesAnew j st (take (length l - n) (take (length l - n) (drop n l))) d rec c
    → MakesAnew j st (drop n l) d rec c
rest-made l n d rec c made = rw (rest-again l n) at made

module _ {j : List ℕ} {st : State} (l : Line) (n : ℕ) (inside : n ≤ length l) (fine : is_line l ≡ true) (d rec : List ℕ) (c : Anew) (made : MakesAnew j st (drop n l) d rec c)
    (more : st.back < length j) where
  rest-fine : is_line (drop n l) ≡ true
  rest-fine = dropped_line n l fine

  -- what `cut_line` does: there is no room for both records
  pub cut-full : c.end < st.front + (c.n + (n + 3)) → (x : Carried) → Completes x j st (cut_after l n) j (stopping JournalFull st)
  unfolding cut_after edits edit put_before before_of after_of
  cut-full few x (ed b [] p) t h = absurd (shown-record b p t h more)
  cut-full few x (ed b (r ∷ a) p) t h =
      let A : List Record = a ++ map kept (rest_lines t) in
      let w : Replacing j st c.end rec c.n b r A (rewrite r (drop n l)) = replacing (drop n l) rest-fine d rec c made b r A h.holds h.grounded in
      changes-full x (put (take n l ∷ []) ∷ retext (drop n l) 0 ∷ []) (ed b (r ∷ a) p) t j j st
      (rw (← journal-is (inserted (take n l) ∷ b) (rewrite r (drop n l) ∷ a) 0 t)
      (omega (
        arith,
        put-length (take n l ∷ []) b (rewrite r (drop n l) ∷ A),
        one-length (take n l),
        length-take-le n l inside,
        put-total w.holds c.end c.n rec (rewrite r (drop n l)) w.ends w.fits w.is,
        few,
      ))) h

  module _ (k : List ℕ) (s : State) (puts : Replaces j st c.end rec c.n 0 k s) where
    -- the rest stands in its place, and there is room for the left part
    pub left-room : ShowsText j st → st.front + (c.n + (n + 3)) ≤ c.end
        → ((b : List Record) × (a : List Record) × Holds k s b a) × LineIn l 0 n × (s.front + (n + 3) ≤ s.back)
    left-room h room =
        let w = has-record (drop n l) rest-fine d rec c made more h in
        let x = puts w.0 w.1 w.2 w.3 w.4 in
        ((w.0, w.3 ∷ w.2, x.holds), (omega arith, taken-line n l fine), omega (arith, x.front, x.back))

    -- both records are written
    pub cut_on : (k' : List ℕ) (s' : State) → length k' ≡ length j → Puts (take n l ∷ []) k s k' s' → (x : Carried) → Completes x j st (cut_after l n) k' (Ok s')
    unfolding cut_after edits
    cut_on k' s' same left x e t h =
        changes-on x (put (take n l ∷ []) ∷ retext (drop n l) 0 ∷ []) e t j k' s' same
        (rw (put-either (take n l ∷ []) (drop n l) 0 e)
        (put-shows (take n l ∷ []) (edit (retext (drop n l) 0) e) t (rewritten-shows (drop n l) rest-fine d rec c made more k 0 s puts e t h) left))
