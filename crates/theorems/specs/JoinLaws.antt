-- Journals joined and turned round (document 02, wish 7), as lists of records. Turned round, the second of two journals is the first: so what is shown of one of them
-- is shown of the other.
use Rattle.std.specs.Prelude.{◌≡◌, refl, true, List, [], ◌∷◌, ◌++◌, map, ◌+◌, ◌≤◌}
use Rattle.std.proofs.Math.Path.{sym, ap}
use Rattle.std.proofs.Common.{◌∙◌, arith}
use Rattle.definitions.specs.Bytes.{Line}
use Rattle.definitions.specs.Journal.{Record, kept, changed, deleted, inserted, old_of, old_side, new_of, new_side, record_length, journal_length, change, rewrite, erase}
use Rattle.definitions.specs.Arranging.{arrange_from, arrange}
use Rattle.definitions.specs.Joining.{at_middle, by_middle, join, turn_one, turn, is_arranged}
use Rattle.theorems.specs.Each.{Each, each_map}
use Rattle.theorems.specs.RecordLaws.{by-change, change-same, change-other, LiveRecord}
use Rattle.theorems.specs.ArrangeLaws.{then, behind, arrange-inserted, arranged-by, arrange-old, arrange-new, arrange-length, arrange-each}
use Rattle.theorems.specs.ArrangedTest.{arranged-same, arrange-arranged}
use Rattle.theorems.specs.Lines.{equal-itself, equal_is, equal-not}
use Rattle.theorems.specs.JournalBytes.{GoodRecord}
use Rattle.theorems.specs.MiddleLaws.{middle-assoc, middle-old, middle-good, middle-length, middle-none, middle-kept}

-- ---- the same once they are arranged

abbrev Alike : List Record → List Record → Type 0
Alike rs ss = arrange rs ≡ arrange ss

after-alike : (r : Record) (rs ss : List Record) → Alike rs ss → Alike (r ∷ rs) (r ∷ ss)
unfolding arrange arrange_from
after-alike (kept l) rs ss e = ap (then (kept l)) e
after-alike (changed o n) rs ss e = ap (then (changed o n)) e
after-alike (deleted l) rs ss e = ap (then (deleted l)) e
after-alike (inserted l) rs ss e = arrange-inserted l rs ∙ ap (behind l) e ∙ sym (arrange-inserted l ss)

erased-alike : (r : Record) (rs ss : List Record) → Alike rs ss → Alike (erase r ++ rs) (erase r ++ ss)
unfolding erase
erased-alike (kept l) rs ss e = after-alike (deleted l) rs ss e
erased-alike (changed o n) rs ss e = after-alike (deleted o) rs ss e
erased-alike (deleted l) rs ss e = after-alike (deleted l) rs ss e
erased-alike (inserted l) rs ss e = e

-- a `++` passes behind a `--`
passes-alike : (l k : Line) (rs : List Record) → Alike (deleted k ∷ inserted l ∷ rs) (inserted l ∷ deleted k ∷ rs)
unfolding arrange arrange_from
passes-alike l k rs = refl

-- ---- the first of two journals may be arranged before

at-middle-alike : (r : Record) (f g : List Record → List Record) → ((ss : List Record) → Alike (f ss) (g ss)) → (ss : List Record) → Alike (at_middle r f ss) (at_middle r g ss)
unfolding at_middle
at-middle-alike r f g h [] = after-alike r (f []) (g []) (h [])
at-middle-alike r f g h (kept l ∷ ss) = after-alike (rewrite r l) (f ss) (g ss) (h ss)
at-middle-alike r f g h (changed m l ∷ ss) = after-alike (rewrite r l) (f ss) (g ss) (h ss)
at-middle-alike r f g h (deleted l ∷ ss) = erased-alike r (f ss) (g ss) (h ss)
at-middle-alike r f g h (inserted l ∷ ss) = after-alike (inserted l) (at_middle r f ss) (at_middle r g ss) (at-middle-alike r f g h ss)

first-after : (r : Record) (rs ts : List Record) → ((ss : List Record) → Alike (by_middle ts ss) (by_middle rs ss))
    → (ss : List Record) → Alike (by_middle (r ∷ ts) ss) (by_middle (r ∷ rs) ss)
unfolding by_middle
first-after (kept l) rs ts h ss = at-middle-alike (kept l) (by_middle ts) (by_middle rs) h ss
first-after (changed o n) rs ts h ss = at-middle-alike (changed o n) (by_middle ts) (by_middle rs) h ss
first-after (deleted l) rs ts h ss = after-alike (deleted l) (by_middle ts ss) (by_middle rs ss) (h ss)
first-after (inserted l) rs ts h ss = at-middle-alike (inserted l) (by_middle ts) (by_middle rs) h ss

first_passes : (l k : Line) (rs ss : List Record) → Alike (by_middle (deleted k ∷ inserted l ∷ rs) ss) (by_middle (inserted l ∷ deleted k ∷ rs) ss)
unfolding by_middle at_middle rewrite erase
first_passes l k rs [] = passes-alike l k (by_middle rs [])
first_passes l k rs (kept m ∷ ss) = passes-alike m k (by_middle rs ss)
first_passes l k rs (changed m n ∷ ss) = passes-alike n k (by_middle rs ss)
first_passes l k rs (deleted m ∷ ss) = refl
first_passes l k rs (inserted m ∷ ss) =
    passes-alike m k (at_middle (inserted l) (by_middle rs) ss)
    ∙ after-alike (inserted m) (deleted k ∷ at_middle (inserted l) (by_middle rs) ss) (at_middle (inserted l) (λ ts. deleted k ∷ by_middle rs ts) ss) (first_passes l k rs ss)

pub middle-first : (rs ss : List Record) → arrange (by_middle (arrange rs) ss) ≡ arrange (by_middle rs ss)
middle-first rs =
    arranged-by (λ a b. (ss : List Record) → Alike (by_middle b ss) (by_middle a ss)) (λ a ss. refl) (λ a b c p q ss. q ss ∙ p ss) first-after first_passes rs

-- ---- turning round

turned-twice : (rs : List Record) → map turn_one (map turn_one rs) ≡ rs
unfolding turn_one
turned-twice [] = refl
turned-twice (kept l ∷ rs) = ap (then (kept l)) (turned-twice rs)
turned-twice (changed o n ∷ rs) = ap (then (changed o n)) (turned-twice rs)
turned-twice (deleted l ∷ rs) = ap (then (deleted l)) (turned-twice rs)
turned-twice (inserted l ∷ rs) = ap (then (inserted l)) (turned-twice rs)

pub turned_old : (rs : List Record) → old_side (map turn_one rs) ≡ new_side rs
unfolding turn_one old_side old_of new_side new_of
turned_old [] = refl
turned_old (kept l ∷ rs) = ap {B = List Line} (λ ls. l ∷ ls) (turned_old rs)
turned_old (changed o n ∷ rs) = ap {B = List Line} (λ ls. n ∷ ls) (turned_old rs)
turned_old (deleted l ∷ rs) = turned_old rs
turned_old (inserted l ∷ rs) = ap {B = List Line} (λ ls. l ∷ ls) (turned_old rs)

pub turned_new : (rs : List Record) → new_side (map turn_one rs) ≡ old_side rs
turned_new rs = sym (turned_old (map turn_one rs)) ∙ ap old_side (turned-twice rs)

pub one-long : (r : Record) → record_length (turn_one r) ≡ record_length r
unfolding turn_one record_length
one-long (kept l) = refl
one-long (changed o n) = omega arith
one-long (deleted l) = refl
one-long (inserted l) = refl

turned-length : (rs : List Record) → journal_length (map turn_one rs) ≡ journal_length rs
unfolding journal_length
turned-length [] = refl
turned-length (r ∷ rs) = omega (arith, one-long r, turned-length rs)

one-good : (r : Record) → GoodRecord r → GoodRecord (turn_one r)
unfolding turn_one
one-good (kept l) h = h
one-good (changed o n) h = (h.1, h.0, equal-not o n h.2)
one-good (deleted l) h = h
one-good (inserted l) h = h

-- "exchanges its sides"
pub turn-old : (rs : List Record) → old_side (turn rs) ≡ new_side rs
unfolding turn
turn-old rs = arrange-old (map turn_one rs) ∙ turned_old rs

pub turn-new : (rs : List Record) → new_side (turn rs) ≡ old_side rs
unfolding turn
turn-new rs = arrange-new (map turn_one rs) ∙ turned_new rs

pub turn-length : (rs : List Record) → journal_length (turn rs) ≡ journal_length rs
unfolding turn
turn-length rs = arrange-length (map turn_one rs) ∙ turned-length rs

pub turn-good : (rs : List Record) → Each GoodRecord rs → Each GoodRecord (turn rs)
unfolding turn
turn-good rs h = arrange-each GoodRecord (map turn_one rs) (each_map GoodRecord GoodRecord turn_one one-good rs h)

pub turn_arranged : (rs : List Record) → is_arranged (turn rs) ≡ true
unfolding turn
turn_arranged rs = arrange-arranged (map turn_one rs)

-- a journal may be arranged before it is turned round
turn-first : (rs : List Record) → Alike (map turn_one (arrange rs)) (map turn_one rs)
unfolding turn_one
turn-first rs =
    arranged-by (λ a b. Alike (map turn_one b) (map turn_one a)) (λ a. refl) (λ a b c p q. q ∙ p) (λ r a b p. after-alike (turn_one r) (map turn_one b) (map turn_one a) p)
    (λ l k a. sym (passes-alike k l (map turn_one a))) rs

-- turning round twice arranges; an arranged journal comes back
pub turn_twice : (rs : List Record) → turn (turn rs) ≡ arrange rs
unfolding turn
turn_twice rs = turn-first (map turn_one rs) ∙ ap arrange (turned-twice rs)

pub turn-back : (rs : List Record) → is_arranged rs ≡ true → turn (turn rs) ≡ rs
turn-back rs h = turn_twice rs ∙ arranged-same rs h

-- ---- two journals turned round: the second comes first

pub turn-change : (old new : Line) → turn_one (change old new) ≡ change new old
unfolding turn_one
turn-change old new =
    by-change (λ r. turn_one r ≡ change new old) old new
    (λ e. sym (change-same old old (equal-itself old)) ∙ ap (λ l. change l old) (equal_is old new e)) (λ e. sym (change-other new old (equal-not old new e)))

-- `r` in the first journal, and in the second its line as `s`, whose text turned round is `l`; `f` and `zs`: what follows in each
turn-stays : (r s : Record) (l : Line) → LiveRecord r → ((n : Line) → rewrite s n ≡ change l n) → erase s ≡ deleted l ∷ []
    → (xs zs : List Record) (f : List Record → List Record) → Alike xs (f zs) → Alike (turn_one (rewrite r l) ∷ xs) (at_middle s f (turn_one r ∷ zs))
unfolding rewrite turn_one at_middle
turn-stays (kept k) s l live again gone xs zs f e = rw (turn-change k l, again k) (after-alike (change l k) xs (f zs) e)
turn-stays (changed o n) s l live again gone xs zs f e = rw (turn-change o l, again o) (after-alike (change l o) xs (f zs) e)
turn-stays (deleted k) s l live again gone xs zs f e = absurd live
turn-stays (inserted k) s l live again gone xs zs f e = rw gone (after-alike (deleted l) xs (f zs) e)

-- the second journal deletes the line
turn-erased : (r : Record) (l : Line) → LiveRecord r → (xs zs : List Record) (f : List Record → List Record) → Alike (map turn_one xs) (f zs)
    → Alike (map turn_one (erase r ++ xs)) (at_middle (inserted l) f (turn_one r ∷ zs))
unfolding rewrite erase turn_one at_middle
turn-erased (kept k) l live xs zs f e = after-alike (inserted k) (map turn_one xs) (f zs) e
turn-erased (changed o n) l live xs zs f e = after-alike (inserted o) (map turn_one xs) (f zs) e
turn-erased (deleted k) l live xs zs f e = absurd live
turn-erased (inserted k) l live xs zs f e = e

turn_at : (r : Record) → LiveRecord r → (f : List Record → List Record) (rs : List Record)
    → ((ss : List Record) → Alike (map turn_one (f ss)) (by_middle (map turn_one ss) (map turn_one rs)))
    → (ss : List Record) → Alike (map turn_one (at_middle r f ss)) (by_middle (map turn_one ss) (turn_one r ∷ map turn_one rs))
unfolding at_middle by_middle rewrite erase turn_one
turn_at r live f rs h [] = after-alike (turn_one r) (map turn_one (f [])) (map turn_one rs) (h [])
turn_at r live f rs h (kept l ∷ ss) = turn-stays r (kept l) l live (λ n. refl) refl (map turn_one (f ss)) (map turn_one rs) (by_middle (map turn_one ss)) (h ss)
turn_at r live f rs h (changed m l ∷ ss) = turn-stays r (changed l m) l live (λ n. refl) refl (map turn_one (f ss)) (map turn_one rs) (by_middle (map turn_one ss)) (h ss)
turn_at r live f rs h (deleted l ∷ ss) = turn-erased r l live (f ss) (map turn_one rs) (by_middle (map turn_one ss)) (h ss)
turn_at r live f rs h (inserted l ∷ ss) =
    after-alike (deleted l) (map turn_one (at_middle r f ss)) (by_middle (map turn_one ss) (turn_one r ∷ map turn_one rs)) (turn_at r live f rs h ss)

-- a `++` that stands first in the second journal
inserted-middle : (l : Line) (rs ss : List Record) → Alike (by_middle rs (inserted l ∷ ss)) (inserted l ∷ by_middle rs ss)
unfolding by_middle at_middle
inserted-middle l [] ss = refl
inserted-middle l (kept k ∷ rs) ss = refl
inserted-middle l (changed o n ∷ rs) ss = refl
inserted-middle l (deleted k ∷ rs) ss = after-alike (deleted k) (by_middle rs (inserted l ∷ ss)) (inserted l ∷ by_middle rs ss) (inserted-middle l rs ss) ∙ passes-alike l k (by_middle rs ss)
inserted-middle l (inserted k ∷ rs) ss = refl

turn-middle : (rs ss : List Record) → Alike (map turn_one (by_middle rs ss)) (by_middle (map turn_one ss) (map turn_one rs))
unfolding by_middle turn_one
turn-middle [] ss = ap arrange (sym (middle-none (map turn_one ss)))
turn-middle (kept l ∷ rs) ss = turn_at (kept l) tt (by_middle rs) rs (turn-middle rs) ss
turn-middle (changed o n ∷ rs) ss = turn_at (changed o n) tt (by_middle rs) rs (turn-middle rs) ss
turn-middle (deleted l ∷ rs) ss =
    after-alike (inserted l) (map turn_one (by_middle rs ss)) (by_middle (map turn_one ss) (map turn_one rs)) (turn-middle rs ss)
    ∙ sym (inserted-middle l (map turn_one ss) (map turn_one rs))
turn-middle (inserted l ∷ rs) ss = turn_at (inserted l) tt (by_middle rs) rs (turn-middle rs) ss

-- so joining is joining turned round, and turned round again
join-turned : (rs ss : List Record) → join rs ss ≡ turn (join (map turn_one ss) (map turn_one rs))
unfolding join turn
join-turned rs ss =
    ap arrange (sym (turned-twice (by_middle rs ss))) ∙ sym (turn-first (map turn_one (by_middle rs ss))) ∙ ap (λ xs. arrange (map turn_one xs)) (turn-middle rs ss)

-- ---- joining

-- both journals may be arranged before
pub join_first : (rs ss : List Record) → join (arrange rs) ss ≡ join rs ss
unfolding join
join_first rs ss = middle-first rs ss

pub join-second : (rs ss : List Record) → join rs (arrange ss) ≡ join rs ss
join-second rs ss =
    let back : List Record = map turn_one rs in
    join-turned rs (arrange ss)
    ∙ ap turn (sym (join_first (map turn_one (arrange ss)) back) ∙ ap (λ xs. join xs back) (turn-first ss) ∙ join_first (map turn_one ss) back)
    ∙ sym (join-turned rs ss)

-- "joining three .. the same .. under either bracketing": so it is of all lists of records
pub join-assoc : (rs ss ts : List Record) → join (join rs ss) ts ≡ join rs (join ss ts)
join-assoc rs ss ts = unfold join in (join_first (by_middle rs ss) ts ∙ ap arrange (middle-assoc rs ss ts) ∙ sym (join-second rs (by_middle ss ts)))

pub turn-join : (rs ss : List Record) → turn (join rs ss) ≡ join (turn ss) (turn rs)
unfolding turn
turn-join rs ss =
    unfold join in (turn-first (by_middle rs ss) ∙ turn-middle rs ss) ∙ sym (join-second (arrange (map turn_one ss)) (map turn_one rs) ∙ join_first (map turn_one ss) (map turn_one rs))

pub join-arranged : (rs ss : List Record) → is_arranged (join rs ss) ≡ true
unfolding join
join-arranged rs ss = arrange-arranged (by_middle rs ss)

pub join-good : (rs ss : List Record) → Each GoodRecord rs → Each GoodRecord ss → Each GoodRecord (join rs ss)
unfolding join
join-good rs ss h k = arrange-each GoodRecord (by_middle rs ss) (middle-good rs ss h k)

pub join-length : (rs ss : List Record) → journal_length (join rs ss) ≤ journal_length rs + journal_length ss
unfolding join
join-length rs ss = rw (arrange-length (by_middle rs ss)) (middle-length rs ss)

-- "of a journal from old to middle and one from middle to new that from old to new"
pub join-old : (rs ss : List Record) → new_side rs ≡ old_side ss → old_side (join rs ss) ≡ old_side rs
unfolding join
join-old rs ss e = arrange-old (by_middle rs ss) ∙ middle-old rs ss e

pub join-new : (rs ss : List Record) → new_side rs ≡ old_side ss → new_side (join rs ss) ≡ new_side ss
join-new rs ss e =
    sym (turn-old (join rs ss)) ∙ ap old_side (turn-join rs ss) ∙ join-old (turn ss) (turn rs) (turn-new ss ∙ sym e ∙ sym (turn-old rs)) ∙ turn-old ss

-- ---- a journal that keeps every line, on either side

pub join_kept : (rs : List Record) → Each GoodRecord rs → is_arranged rs ≡ true → join rs (map kept (new_side rs)) ≡ rs
unfolding join
join_kept rs d h = ap arrange (middle-kept rs d) ∙ arranged-same rs h

pub turn-kept : (ls : List Line) → turn (map kept ls) ≡ map kept ls
unfolding turn arrange arrange_from turn_one
turn-kept [] = refl
turn-kept (l ∷ ls) = ap (then (kept l)) (turn-kept ls)

pub kept-join : (rs : List Record) → Each GoodRecord rs → is_arranged rs ≡ true → join (map kept (old_side rs)) rs ≡ rs
kept-join rs d h =
    sym (turn-back (join (map kept (old_side rs)) rs) (join-arranged (map kept (old_side rs)) rs))
    ∙ ap turn (
    turn-join (map kept (old_side rs)) rs ∙ ap (join (turn rs)) (turn-kept (old_side rs) ∙ ap (map kept) (sym (turn-new rs)))
    ∙ join_kept (turn rs) (turn-good rs d) (turn_arranged rs)
    )
    ∙ turn-back rs h
