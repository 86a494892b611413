-- The reader keeps what it has read well nested: what is due and the open groups tell which bodies are open.
use Rattle.std.specs.Prelude.{◌≡◌, refl, Bool, true, false, not, ℕ, suc, ◌<◌, length, ltb}
use Rattle.std.proofs.Common.{ap, ◌∙◌, subst, lt-ltb}
use Rattle.std.proofs.lemmas.Bool.{false≢true}
use Rattle.std.proofs.Math.Option.{Option, none, some}
use mathlib.Core.List.{List, [], ◌∷◌, reverse, reverse_aux}
use Rattle.definitions.specs.Control.{Opener, bare, Item, simple, seek, opens, bracket, close, otherwise, leave, line_end}
use Rattle.definitions.specs.Script.{Due, nothing, body, Group, group, bodies, closes, group_items, group_of, line_items}
use Rattle.theorems.specs.Nesting.{Body, due, inside, due_group, filled, is_branch, is_bare, may_come, fill, groups_in, provided, after_bracket, after_close, after_otherwise, are_none, after, nested_from, nested}

-- ---- the items so far, last first, leave these bodies open

pub record Leads (acc : List Item) (open-bodies : List Body) : Type 0 where
  pub leads : (rest : List Item) → nested_from [] (reverse_aux acc rest) ≡ nested_from open-bodies rest

start-leads : Leads [] []
start-leads = record { leads = λ rest. refl }

one_more : {acc : List Item} {bs bs' : List Body} (i : Item) → after i bs ≡ some bs' → Leads acc bs → Leads (i ∷ acc) bs'
unfolding nested_from
one_more {bs = bs} {bs' = bs'} i e h = record { leads = λ rest. h.leads (i ∷ rest) ∙ goes rest (after i bs) e }
  where
    goes : (rest : List Item) (o : Option (List Body)) → o ≡ some bs' → elim o [ none ↦ false | some bs'' ↦ nested_from bs'' rest ] ≡ nested_from bs' rest
    goes rest o q = ap (λ x. elim x as (λ y. Bool) [ none ↦ false | some bs'' ↦ nested_from bs'' rest ]) q

-- ---- the bodies that what is due and the open groups stand for

-- bodies, one the whole of the other
abbrev dues : List Opener → List Body → List Body
dues [] bs = bs
dues (o ∷ os) bs = due o ∷ dues os bs

-- a group that closes k bodies is the innermost of them, the others are each the whole of the next
pub data GroupsOpen : List Group → List Body → Type 0 where
  no_group : GroupsOpen [] []
  in_group : {k : ℕ} {e : Bool} {groups : List Group} {bs bs' : List Body} (os : List Opener) → k ≡ suc (length os) → bs' ≡ inside e ∷ dues os bs
      → GroupsOpen groups bs → GroupsOpen (group k e ∷ groups) bs'

pub data AllOpen : Due → List Group → List Body → Type 0 where
  nothing_due : {groups : List Group} {bs : List Body} → GroupsOpen groups bs → AllOpen nothing groups bs
  body_due : {k : ℕ} {e : Bool} {groups : List Group} {bs bs' : List Body} (o : Opener) (os : List Opener) → is_bare o ≡ false → is_branch o ≡ e
      → k ≡ suc (length os) → bs' ≡ due o ∷ dues os bs → GroupsOpen groups bs → AllOpen (body k e) groups bs'

-- the items so far, with what is due and the open groups
pub data Nests (d : Due) (groups : List Group) (acc : List Item) : Type 0 where
  nests : {bs : List Body} → AllOpen d groups bs → Leads acc bs → Nests d groups acc

stays : {groups : List Group} {bs : List Body} → GroupsOpen groups bs → fill bs ≡ bs
unfolding fill
stays no_group = refl
stays (in_group os q e h) = rw e refl

comes : {groups : List Group} {bs : List Body} → GroupsOpen groups bs → may_come bs ≡ true
unfolding may_come
comes no_group = refl
comes (in_group os q e h) = rw e refl

dues-groups : (os : List Opener) (bs : List Body) → groups_in (dues os bs) ≡ groups_in bs
unfolding groups_in
dues-groups [] bs = refl
dues-groups (o ∷ os) bs = dues-groups os bs

depth : {groups : List Group} {bs : List Body} → GroupsOpen groups bs → groups_in bs ≡ length groups
unfolding groups_in
depth no_group = refl
depth (in_group {bs = bs} os q e h) = rw e (ap suc (dues-groups os bs ∙ depth h))

-- ---- closes

close-filled : (bs : List Body) → after_close (filled ∷ bs) ≡ some (fill bs)
unfolding after_close
close-filled bs = refl

close-inside : (e : Bool) (bs : List Body) → after_close (inside e ∷ bs) ≡ some (fill bs)
unfolding after_close
close-inside e bs = refl

all_closed : {acc : List Item} (b : Body) (os : List Opener) (bs : List Body) → ((bs' : List Body) → after_close (b ∷ bs') ≡ some (fill bs')) → fill bs ≡ bs
    → Leads acc (b ∷ dues os bs) → Leads (closes (suc (length os)) acc) bs
unfolding closes after fill
all_closed b [] bs ends stay h = one_more close (ends bs ∙ ap some stay) h
all_closed b (o ∷ os) bs ends stay h = all_closed filled os bs close-filled stay (one_more close (ends (due o ∷ dues os bs)) h)

-- ---- what the reader does

-- a whole command: F, BF, DF, AGP or another
unfoldable pub is_command : Item → Bool
is_command (simple at op) = true
is_command (seek at s se) = true
is_command (opens at o) = false
is_command bracket = false
is_command close = false
is_command otherwise = false
is_command (leave at) = true
is_command line_end = false

after-command : (i : Item) (bs : List Body) → is_command i ≡ true → may_come bs ≡ true → after i bs ≡ some (fill bs)
unfolding is_command after provided
after-command (simple at op) bs c m = rw m refl
after-command (seek at s se) bs c m = rw m refl
after-command (opens at o) bs c m = absurd (false≢true c)
after-command bracket bs c m = absurd (false≢true c)
after-command close bs c m = absurd (false≢true c)
after-command otherwise bs c m = absurd (false≢true c)
after-command (leave at) bs c m = rw m refl
after-command line_end bs c m = absurd (false≢true c)

due-comes : (o : Opener) (bs : List Body) → is_bare o ≡ false → may_come (due o ∷ bs) ≡ true
unfolding may_come
due-comes o bs e = ap not e

pub start-nests : Nests nothing [] []
start-nests = nests (nothing_due no_group) start-leads

pub end-nests : {acc : List Item} → Nests nothing [] acc → nested (reverse acc) ≡ true
unfolding nested nested_from are_none
end-nests (nests (nothing_due no_group) h) = h.leads []

pub command-nests : {d : Due} {groups : List Group} {acc : List Item} (i : Item) → is_command i ≡ true → Nests d groups acc
    → Nests nothing groups (closes (bodies d) (i ∷ acc))
unfolding bodies closes fill
command-nests i c (nests (nothing_due {bs = bs} g) h) =
    nests (nothing_due g) (one_more i (after-command i bs c (comes g) ∙ ap some (stays g)) h)
command-nests {acc = acc} i c (nests (body_due {bs = bs} o os bare-not br k e g) h) =
    nests (nothing_due g) (rw k (all_closed filled os bs close-filled (stays g)
    (one_more i (after-command i (due o ∷ dues os bs) c (due-comes o (dues os bs) bare-not)) (subst (Leads acc) e h))))

-- an opener
pub opener-nests : {d : Due} {groups : List Group} {acc : List Item} {e : Bool} (at : ℕ) (o : Opener) → is_bare o ≡ false → is_branch o ≡ e → Nests d groups acc
    → Nests (body (suc (bodies d)) e) groups (opens at o ∷ acc)
unfolding bodies after provided
opener-nests at o p q (nests (nothing_due {bs = bs} g) h) = nests (body_due o [] p q refl refl g) (one_more (opens at o) (rw (comes g) refl) h)
opener-nests {acc = acc} at o p q (nests (body_due {bs = bs} o' os bare-not br k e g) h) =
    nests (body_due o (o' ∷ os) p q (ap suc k) refl g)
    (one_more (opens at o) (rw (due-comes o' (dues os bs) bare-not) refl) (subst (Leads acc) e h))

-- one more group may be opened
room : {groups : List Group} {bs : List Body} (os : List Opener) → GroupsOpen groups bs → length groups < 16 → ltb (groups_in (dues os bs)) 16 ≡ true
room {groups} {bs} os g few = ap (λ n. ltb n 16) (dues-groups os bs ∙ depth g) ∙ lt-ltb (length groups) 16 few

after-bracket : {groups : List Group} (o : Opener) (os : List Opener) (bs : List Body) → GroupsOpen groups bs → length groups < 16
    → after bracket (due o ∷ dues os bs) ≡ some (inside (is_branch o) ∷ dues os bs)
unfolding after after_bracket provided
after-bracket o os bs g few = ap (λ t. provided t (inside (is_branch o) ∷ dues os bs)) (room os g few)

after-else : (bs : List Body) → after otherwise (inside true ∷ bs) ≡ some (due_group ∷ bs)
unfolding after after_otherwise provided
after-else bs = refl

after-else-bracket : {groups : List Group} (os : List Opener) (bs : List Body) → GroupsOpen groups bs → length groups < 16
    → after bracket (due_group ∷ dues os bs) ≡ some (inside false ∷ dues os bs)
unfolding after after_bracket provided
after-else-bracket os bs g few = ap (λ t. provided t (inside false ∷ dues os bs)) (room os g few)

-- a group, with its opener where it is a bare one
pub group-nests : {d : Due} {groups : List Group} {acc : List Item} (at : ℕ) → length groups < 16 → Nests d groups acc
    → Nests nothing (group_of d ∷ groups) (group_items d at acc)
unfolding group_of group_items after provided is_branch
group-nests at few (nests (nothing_due {bs = bs} g) h) =
    nests (nothing_due (in_group [] refl refl g)) (one_more bracket (after-bracket bare [] bs g few) (one_more (opens at bare) (rw (comes g) refl) h))
group-nests {acc = acc} at few (nests (body_due {bs = bs} o os bare-not br k e g) h) =
    nests (nothing_due (in_group os k (ap (λ t. inside t ∷ dues os bs) br) g)) (one_more bracket (after-bracket o os bs g few) (subst (Leads acc) e h))

-- ELSE and its group
pub else-nests : {k : ℕ} {groups : List Group} {acc : List Item} → length groups < 16 → Nests nothing (group k true ∷ groups) acc
    → Nests nothing (group k false ∷ groups) (bracket ∷ otherwise ∷ acc)
else-nests {acc = acc} few (nests (nothing_due (in_group {bs = bs} os k e g)) h) =
    nests (nothing_due (in_group os k refl g))
    (one_more bracket (after-else-bracket os bs g few) (one_more otherwise (after-else (dues os bs)) (subst (Leads acc) e h)))

-- a group's end
pub close-nests : {k : ℕ} {e : Bool} {groups : List Group} {acc : List Item} → Nests nothing (group k e ∷ groups) acc → Nests nothing groups (closes k acc)
close-nests {e = e} {acc = acc} (nests (nothing_due (in_group {bs = bs} os k q g)) h) =
    nests (nothing_due g) (rw k (all_closed (inside e) os bs (close-inside e) (stays g) (subst (Leads acc) q h)))

-- a line end
pub line-nests : {groups : List Group} {acc : List Item} → Nests nothing groups acc → Nests nothing groups (line_items groups acc)
unfolding line_items after provided are_none
line-nests (nests (nothing_due no_group) h) = nests (nothing_due no_group) (one_more line_end refl h)
line-nests (nests (nothing_due (in_group os k q g)) h) = nests (nothing_due (in_group os k q g)) h
