-- What reading, moves and changes leave as it was: reading adds kept records, a move leaves the records, a change their old side. No command is named
-- here: a new one is made of these.
use Rattle.std.specs.Prelude.{◌≡◌, refl, ℕ, zero, suc, ◌-◌}
use Rattle.std.proofs.Common.{ap, ◌∙◌}
use mathlib.Core.List.{reverse_aux-reverse_aux-nil, List, [], ◌∷◌, ◌++◌, map, reverse_aux}
use Rattle.definitions.specs.Bytes.{Line}
use Rattle.definitions.specs.Journal.{Record, kept, changed, deleted, inserted, old_of, old_side, rewrite, erase}
use Rattle.definitions.specs.Tape.{Tape, rest_lines}
use Rattle.definitions.specs.Editor.{Ed, ed, records, journal, Got, got, stop, here, line, eof, Move, ahead, back, to, point_to, land, go_back, locate, moved}
use Rattle.definitions.specs.Editor.{Edit, strike, strike_back, strike_next, put, retext, struck, struck_back, struck_next, put_before, edit, edits}
use Rattle.definitions.specs.Reading.{seen}
use Rattle.theorems.specs.RecordLaws.{reverse-append, reverse_twice, old-append, old-kept, old-same, rewrite-old, erase-old}

-- the old lines of the records as far as read
unfoldable pub old_ed : Ed → List Line
old_ed e = old_side (records e)

pub left-old : (e e' : Ed) → records e' ≡ records e → old_ed e' ≡ old_ed e
unfolding old_ed
left-old e e' h = ap old_side h

-- ---- reading

pub seen-records : (r : Record) (e : Ed) → records (seen r e) ≡ records e ++ (r ∷ [])
unfolding seen records
seen-records r (ed b a p) = reverse-append b a (r ∷ [])

-- whatever becomes of the line that is read
pub seen-old : (r : Record) (e : Ed) → old_ed (seen r e) ≡ old_ed e ++ old_side (r ∷ [])
unfolding old_ed
seen-old r e = rw (seen-records r e, old-append)

-- the old side of the journal: what is read, then what is not
pub journal-old : (e : Ed) (t : Tape) → old_side (journal e t) ≡ old_ed e ++ rest_lines t
unfolding journal old_ed
journal-old e t = old-append (records e) (map kept (rest_lines t)) ∙ ap (λ (x : List Line). old_side (records e) ++ x) (old-kept (rest_lines t))

-- ---- moves

-- the records are `rs` still
unfoldable pub Left : List Record → Got Ed → Type 0
Left rs (got e) = records e ≡ rs
Left rs (stop n) = Unit {0}

pub land-records : (b a : List Record) → records (land b a) ≡ reverse_aux b a
unfolding land records
land-records b [] = refl
land-records b (kept l ∷ a) = refl
land-records b (changed o n ∷ a) = refl
land-records b (deleted l ∷ a) = land-records (deleted l ∷ b) a
land-records b (inserted l ∷ a) = refl

go_back-left : (b a : List Record) → Left (reverse_aux b a) (go_back b a)
unfolding Left go_back records
go_back-left [] a = tt
go_back-left (kept l ∷ b) a = refl
go_back-left (changed o n ∷ b) a = refl
go_back-left (deleted l ∷ b) a = go_back-left b (deleted l ∷ a)
go_back-left (inserted l ∷ b) a = refl

locate-left : (k : ℕ) (b rs : List Record) → Left (reverse_aux b rs) (locate k b rs)
unfolding Left locate records
locate-left k b [] = tt
locate-left k b (inserted l ∷ rs) = locate-left k (inserted l ∷ b) rs
locate-left zero b (kept l ∷ rs) = refl
locate-left zero b (changed o n ∷ rs) = refl
locate-left zero b (deleted l ∷ rs) = tt
locate-left (suc k) b (kept l ∷ rs) = locate-left k (kept l ∷ b) rs
locate-left (suc k) b (changed o n ∷ rs) = locate-left k (changed o n ∷ b) rs
locate-left (suc k) b (deleted l ∷ rs) = locate-left k (deleted l ∷ b) rs

pub moved-left : (x : Move) (e : Ed) → Left (records e) (moved x e)
unfolding Left moved records
moved-left ahead (ed b [] p) = refl
moved-left ahead (ed b (r ∷ a) p) = land-records (r ∷ b) a
moved-left back (ed b a p) = go_back-left b a
moved-left (to here) (ed b a p) = refl
moved-left (to (line n)) e = locate-left (n - 1) [] (records e)
moved-left (to eof) (ed b a p) = reverse_aux-reverse_aux-nil a b
moved-left (point_to q) (ed b a p) = refl

-- ---- changes

struck-old : (k : ℕ) (b a : List Record) → old_ed (struck k b a) ≡ old_side (reverse_aux b a)
unfolding struck old_ed records
struck-old zero b a = ap old_side (land-records b a)
struck-old (suc k) b [] = refl
struck-old (suc k) b (r ∷ a) = struck-old k (erase r ++ b) a ∙ erase-old b r a

struck_back-old : (k : ℕ) (b acc a : List Record) → old_side (reverse_aux (struck_back k b acc) a) ≡ old_side (reverse_aux b (acc ++ a))
unfolding struck_back old_side old_of
struck_back-old zero b acc a = ap old_side (reverse_twice acc b a)
struck_back-old (suc k) [] acc a = ap old_side (reverse_twice acc [] a)
struck_back-old (suc k) (kept l ∷ b) acc a = struck_back-old k b (deleted l ∷ acc) a ∙ old-same b (deleted l ∷ (acc ++ a)) (kept l ∷ (acc ++ a)) refl
struck_back-old (suc k) (changed o n ∷ b) acc a = struck_back-old k b (deleted o ∷ acc) a ∙ old-same b (deleted o ∷ (acc ++ a)) (changed o n ∷ (acc ++ a)) refl
struck_back-old (suc k) (deleted l ∷ b) acc a = struck_back-old (suc k) b (deleted l ∷ acc) a
struck_back-old (suc k) (inserted l ∷ b) acc a = struck_back-old k b acc a ∙ old-same b (acc ++ a) (inserted l ∷ (acc ++ a)) refl

struck_next-old : (a : List Record) → old_side (struck_next a) ≡ old_side a
unfolding struck_next old_side old_of
struck_next-old [] = refl
struck_next-old (kept l ∷ a) = refl
struck_next-old (changed o n ∷ a) = refl
struck_next-old (deleted l ∷ a) = ap (λ (x : List Line). l ∷ x) (struck_next-old a)
struck_next-old (inserted l ∷ a) = refl

-- what follows the current record
next-old : (r : Record) (a a' : List Record) → old_side a' ≡ old_side a → old_side (r ∷ a') ≡ old_side (r ∷ a)
unfolding old_side
next-old r a a' h = ap (λ (x : List Line). old_of r ++ x) h

put_before-old : (ls : List Line) (b a : List Record) → old_side (reverse_aux (put_before ls b) a) ≡ old_side (reverse_aux b a)
unfolding put_before old_side old_of
put_before-old [] b a = refl
put_before-old (l ∷ ls) b a = put_before-old ls (inserted l ∷ b) a ∙ old-same b (inserted l ∷ a) a refl

edit-old : (x : Edit) (e : Ed) → old_ed (edit x e) ≡ old_ed e
unfolding edit old_ed records
edit-old (strike k) (ed b a p) = unfold old_ed in (struck-old k b a)
edit-old (strike_back k) (ed b a p) = struck_back-old k b [] a
edit-old strike_next (ed b [] p) = refl
edit-old strike_next (ed b (r ∷ a) p) = old-same b (r ∷ struck_next a) (r ∷ a) (next-old r a (struck_next a) (struck_next-old a))
edit-old (put ls) (ed b a p) = put_before-old ls b a
edit-old (retext l q) (ed b [] p) = refl
edit-old (retext l q) (ed b (r ∷ a) p) = old-same b (rewrite r l ∷ a) (r ∷ a) (rewrite-old r l a)

pub edits-old : (xs : List Edit) (e : Ed) → old_ed (edits xs e) ≡ old_ed e
unfolding edits
edits-old [] e = refl
edits-old (x ∷ xs) e = edits-old xs (edit x e) ∙ edit-old x e
