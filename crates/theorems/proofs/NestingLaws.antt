-- What follows from being well nested, in terms of the items alone: closes match opens, brackets stand directly after an opener or `otherwise`,
-- `otherwise` stands in a body, line ends stand outside all bodies.
use Rattle.std.specs.Prelude.{◌≡◌, refl, Bool, true, false, List, [], ◌∷◌, ◌++◌, ℕ, suc, ◌+◌, ◌≤◌, length, ltb}
use Rattle.std.proofs.Common.{sym, ap, ◌∙◌, append-nil, arith}
use Rattle.std.proofs.lemmas.Bool.{false≢true}
use Rattle.std.proofs.Math.Option.{Option, none, some}
use Rattle.definitions.specs.Control.{Item, simple, seek, opens, bracket, close, otherwise, leave, line_end}
use Rattle.theorems.specs.Nesting.{Body, due, inside, due_group, filled, is_branch, may_come, fill, groups_in, provided, after_bracket, after_close, after_otherwise, are_none, after, nested_from, nested}
use Rattle.theorems.specs.NestingLaws.{opens_in, closes_in, none-some, may_bracket}

-- ---- where the reading of items stands after some of them

-- the bodies `bs` are open after the items `front`, where `n` were open before, and the items `back` go on from there
record NestedTo (n : ℕ) (front back : List Item) : Type 0 where
  bs : List Body
  count : n + opens_in front ≡ length bs + closes_in front
  goes_on : nested_from bs back ≡ true

some_same : {bs bs' : List Body} → some bs ≡ some bs' → bs ≡ bs'
some_same e = ap (λ o. elim o as (λ x. List Body) [ none ↦ [] | some x ↦ x ]) e

pub provided-some : (t : Bool) (bs bs' : List Body) → provided t bs ≡ some bs' → (t ≡ true) × (bs ≡ bs')
unfolding provided
provided-some true bs bs' e = (refl, some_same e)
provided-some false bs bs' e = absurd (none-some e)

provided-length : (t : Bool) (bs bs' : List Body) → provided t bs ≡ some bs' → length bs ≡ length bs'
provided-length t bs bs' e = ap length (provided-some t bs bs' e).1

fill-length : (bs : List Body) → length (fill bs) ≡ length bs
unfolding fill
fill-length [] = refl
fill-length (due o ∷ bs) = refl
fill-length (inside e ∷ bs) = refl
fill-length (due_group ∷ bs) = refl
fill-length (filled ∷ bs) = refl

bracket-length : (bs bs' : List Body) → after_bracket bs ≡ some bs' → length bs ≡ length bs'
unfolding after_bracket
bracket-length [] bs' e = absurd (none-some e)
bracket-length (due o ∷ bs) bs' e = provided-length (ltb (groups_in bs) 16) (inside (is_branch o) ∷ bs) bs' e
bracket-length (inside x ∷ bs) bs' e = absurd (none-some e)
bracket-length (due_group ∷ bs) bs' e = provided-length (ltb (groups_in bs) 16) (inside false ∷ bs) bs' e
bracket-length (filled ∷ bs) bs' e = absurd (none-some e)

close-length : (bs bs' : List Body) → after_close bs ≡ some bs' → length bs ≡ suc (length bs')
unfolding after_close
close-length [] bs' e = absurd (none-some e)
close-length (due o ∷ bs) bs' e = absurd (none-some e)
close-length (inside x ∷ bs) bs' e = ap suc (sym (fill-length bs) ∙ ap length (some_same e))
close-length (due_group ∷ bs) bs' e = absurd (none-some e)
close-length (filled ∷ bs) bs' e = ap suc (sym (fill-length bs) ∙ ap length (some_same e))

otherwise-length : (bs bs' : List Body) → after_otherwise bs ≡ some bs' → length bs ≡ length bs'
unfolding after_otherwise
otherwise-length [] bs' e = absurd (none-some e)
otherwise-length (due o ∷ bs) bs' e = absurd (none-some e)
otherwise-length (inside x ∷ bs) bs' e = provided-length x (due_group ∷ bs) bs' e
otherwise-length (due_group ∷ bs) bs' e = absurd (none-some e)
otherwise-length (filled ∷ bs) bs' e = absurd (none-some e)

pub after-length : (i : Item) (front : List Item) (bs bs' : List Body) → after i bs ≡ some bs'
    → length bs' + opens_in front + closes_in (i ∷ front) ≡ length bs + opens_in (i ∷ front) + closes_in front
unfolding after opens_in closes_in
after-length (simple at op) f bs bs' e = omega (arith, provided-length (may_come bs) (fill bs) bs' e, fill-length bs)
after-length (seek at s se) f bs bs' e = omega (arith, provided-length (may_come bs) (fill bs) bs' e, fill-length bs)
after-length (opens at o) f bs bs' e = omega (arith, provided-length (may_come bs) (due o ∷ bs) bs' e)
after-length bracket f bs bs' e = omega (arith, bracket-length bs bs' e)
after-length close f bs bs' e = omega (arith, close-length bs bs' e)
after-length otherwise f bs bs' e = omega (arith, otherwise-length bs bs' e)
after-length (leave at) f bs bs' e = omega (arith, provided-length (may_come bs) (fill bs) bs' e, fill-length bs)
after-length line_end f bs bs' e = omega (arith, provided-length (are_none bs) bs bs' e)

-- an item that may come, and what goes on after it
pub comes : (i : Item) (bs : List Body) (rest : List Item) → nested_from bs (i ∷ rest) ≡ true → (bs' : List Body) × (after i bs ≡ some bs') × (nested_from bs' rest ≡ true)
unfolding nested_from
comes i bs rest h = go (after i bs) refl h
  where
    go : (o : Option (List Body)) → after i bs ≡ o → elim o [ none ↦ false | some bs' ↦ nested_from bs' rest ] ≡ true
        → (bs' : List Body) × (after i bs ≡ some bs') × (nested_from bs' rest ≡ true)
    go none e q = absurd (false≢true q)
    go (some bs') e q = (bs', e, q)

stands : (front back : List Item) (bs : List Body) → nested_from bs (front ++ back) ≡ true → NestedTo (length bs) front back
unfolding opens_in closes_in
stands [] back bs h = record { bs = bs; count = refl; goes_on = h }
stands (i ∷ front) back bs h = go (comes i bs (front ++ back) h) (λ bs' q. stands front back bs' q)
  where
    go : ((bs' : List Body) × (after i bs ≡ some bs') × (nested_from bs' (front ++ back) ≡ true))
        → ((bs' : List Body) → nested_from bs' (front ++ back) ≡ true → NestedTo (length bs') front back) → NestedTo (length bs) (i ∷ front) back
    go (bs', e, q) on = record {
      bs = (on bs' q).bs;
      count = omega (arith, (on bs' q).count, after-length i front bs bs' e);
      goes_on = (on bs' q).goes_on;
    }

pub none_left : (bs : List Body) → are_none bs ≡ true → length bs ≡ 0
unfolding are_none
none_left [] e = refl
none_left (b ∷ bs) e = absurd (false≢true e)

-- ---- closes match opens

-- at every point as many bodies are opened as are closed, or more
pub closes-match : (front back : List Item) → nested (front ++ back) ≡ true → closes_in front ≤ opens_in front
unfolding nested
closes-match front back h = omega (arith, (stands front back [] h).count)

-- at the end all are closed
pub all-close : (all : List Item) → nested all ≡ true → closes_in all ≡ opens_in all
unfolding nested nested_from
all-close all h = ends (stands all [] [] (rw (append-nil all) h))
  where
    ends : NestedTo 0 all [] → closes_in all ≡ opens_in all
    ends y = omega (arith, y.count, none_left y.bs y.goes_on)

-- line ends stand outside all bodies
pub line-end-outside : (front back : List Item) → nested (front ++ line_end ∷ back) ≡ true → closes_in front ≡ opens_in front
unfolding nested after
line-end-outside front back h = outside (stands front (line_end ∷ back) [] h)
  where
    outside : NestedTo 0 front (line_end ∷ back) → closes_in front ≡ opens_in front
    outside y = at-line (comes line_end y.bs back y.goes_on)
      where
        at-line : ((bs' : List Body) × (after line_end y.bs ≡ some bs') × (nested_from bs' back ≡ true)) → closes_in front ≡ opens_in front
        at-line (bs', e, q) = omega (arith, y.count, none_left y.bs (provided-some (are_none y.bs) y.bs bs' e).0)

-- ---- brackets

-- a group may come
wants_group : List Body → Bool
wants_group [] = false
wants_group (due o ∷ bs) = true
wants_group (inside e ∷ bs) = false
wants_group (due_group ∷ bs) = true
wants_group (filled ∷ bs) = false

before-bracket : (bs bs' : List Body) → after_bracket bs ≡ some bs' → wants_group bs ≡ true
unfolding after_bracket wants_group
before-bracket [] bs' e = absurd (none-some e)
before-bracket (due o ∷ bs) bs' e = refl
before-bracket (inside x ∷ bs) bs' e = absurd (none-some e)
before-bracket (due_group ∷ bs) bs' e = refl
before-bracket (filled ∷ bs) bs' e = absurd (none-some e)

after-bracket : (bs bs' : List Body) → after_bracket bs ≡ some bs' → wants_group bs' ≡ false
unfolding after_bracket wants_group
after-bracket [] bs' e = absurd (none-some e)
after-bracket (due o ∷ bs) bs' e = ap wants_group (sym (provided-some (ltb (groups_in bs) 16) (inside (is_branch o) ∷ bs) bs' e).1)
after-bracket (inside x ∷ bs) bs' e = absurd (none-some e)
after-bracket (due_group ∷ bs) bs' e = ap wants_group (sym (provided-some (ltb (groups_in bs) 16) (inside false ∷ bs) bs' e).1)
after-bracket (filled ∷ bs) bs' e = absurd (none-some e)

fill-wants : (bs : List Body) → wants_group (fill bs) ≡ false
unfolding fill wants_group
fill-wants [] = refl
fill-wants (due o ∷ bs) = refl
fill-wants (inside e ∷ bs) = refl
fill-wants (due_group ∷ bs) = refl
fill-wants (filled ∷ bs) = refl

filled-wants : (t : Bool) (bs bs' : List Body) → provided t (fill bs) ≡ some bs' → wants_group bs' ≡ false
filled-wants t bs bs' e = ap wants_group (sym (provided-some t (fill bs) bs' e).1) ∙ fill-wants bs

close-wants : (bs bs' : List Body) → after_close bs ≡ some bs' → wants_group bs' ≡ false
unfolding after_close
close-wants [] bs' e = absurd (none-some e)
close-wants (due o ∷ bs) bs' e = absurd (none-some e)
close-wants (inside x ∷ bs) bs' e = ap wants_group (sym (some_same e)) ∙ fill-wants bs
close-wants (due_group ∷ bs) bs' e = absurd (none-some e)
close-wants (filled ∷ bs) bs' e = ap wants_group (sym (some_same e)) ∙ fill-wants bs

none-wants : (bs : List Body) → are_none bs ≡ true → wants_group bs ≡ false
unfolding are_none wants_group
none-wants [] e = refl
none-wants (b ∷ bs) e = absurd (false≢true e)

item-wants : (i : Item) (bs bs' : List Body) → after i bs ≡ some bs' → wants_group bs' ≡ true → may_bracket i ≡ true
unfolding after may_bracket
item-wants (simple at op) bs bs' e w = sym (filled-wants (may_come bs) bs bs' e) ∙ w
item-wants (seek at s se) bs bs' e w = sym (filled-wants (may_come bs) bs bs' e) ∙ w
item-wants (opens at o) bs bs' e w = refl
item-wants bracket bs bs' e w = sym (after-bracket bs bs' e) ∙ w
item-wants close bs bs' e w = sym (close-wants bs bs' e) ∙ w
item-wants otherwise bs bs' e w = refl
item-wants (leave at) bs bs' e w = sym (filled-wants (may_come bs) bs bs' e) ∙ w
item-wants line_end bs bs' e w =
    sym (none-wants bs (provided-some (are_none bs) bs bs' e).0) ∙ ap wants_group (provided-some (are_none bs) bs bs' e).1 ∙ w

-- `bracket` stands directly after an opener or `otherwise`
pub bracket-follows : (front : List Item) (i : Item) (back : List Item) → nested (front ++ i ∷ bracket ∷ back) ≡ true → may_bracket i ≡ true
unfolding nested after
bracket-follows front i back h = at_item (stands front (i ∷ bracket ∷ back) [] h)
  where
    at_bracket : (bs bs' : List Body) → after i bs ≡ some bs' → ((bs'' : List Body) × (after bracket bs' ≡ some bs'') × (nested_from bs'' back ≡ true))
        → may_bracket i ≡ true
    at_bracket bs bs' e (bs'', f, q) = item-wants i bs bs' e (before-bracket bs' bs'' f)

    at_item : NestedTo 0 front (i ∷ bracket ∷ back) → may_bracket i ≡ true
    at_item y = then-bracket (comes i y.bs (bracket ∷ back) y.goes_on)
      where
        then-bracket : ((bs' : List Body) × (after i y.bs ≡ some bs') × (nested_from bs' (bracket ∷ back) ≡ true)) → may_bracket i ≡ true
        then-bracket (bs', e, q) = at_bracket y.bs bs' e (comes bracket bs' back q)

-- nor does it stand first
pub bracket-not-first : (back : List Item) → nested (bracket ∷ back) ≡ false
unfolding nested nested_from after after_bracket
bracket-not-first back = refl
