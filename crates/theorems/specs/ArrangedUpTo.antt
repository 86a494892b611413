-- Arranging and "the journal up to a line" (document 02, wish 6; W6.5): one may be taken before the other where the next source line is kept or changed, as it is after the
-- furthest line that a run has read; and not elsewhere.
use Rattle.std.specs.Prelude.{◌≡◌, refl, List, [], ◌∷◌, ◌++◌, ℕ, zero, suc}
use Rattle.std.proofs.Common.{sym, ap, ◌∙◌, append-nil, arith}
use Rattle.definitions.specs.Bytes.{bytes}
use Rattle.definitions.specs.Journal.{Record, kept, changed, deleted, inserted, up_to_line, after_line, journal_length}
use Rattle.definitions.specs.Arranging.{arrange_from, arrange}
use Rattle.definitions.specs.Everything.{everything}
use Rattle.theorems.specs.Each.{Each}
use Rattle.theorems.specs.ArrangeLaws.{IsCame, came-more, BeginsApart}

-- `++` records that stand first are in the journal up to every line
came-up_to : (n : ℕ) (came rs : List Record) → Each IsCame came → up_to_line n (came ++ rs) ≡ came ++ up_to_line n rs
unfolding up_to_line
came-up_to n [] rs h = refl
came-up_to n (kept l ∷ came) rs h = absurd h.0
came-up_to n (changed o m ∷ came) rs h = absurd h.0
came-up_to n (deleted l ∷ came) rs h = absurd h.0
came-up_to n (inserted l ∷ came) rs h = ap (λ (z : List Record). inserted l ∷ z) (came-up_to n came rs h.1)

up_to-from : (n : ℕ) (came rs : List Record) → Each IsCame came → BeginsApart (after_line n rs) → up_to_line n (arrange_from came rs) ≡ arrange_from came (up_to_line n rs)
unfolding up_to_line after_line arrange_from
up_to-from n came [] h b = ap (up_to_line n) (sym (append-nil came)) ∙ came-up_to n came [] h ∙ append-nil came
up_to-from zero came (kept l ∷ rs) h b = came-up_to 0 came (kept l ∷ arrange_from [] rs) h ∙ append-nil came
up_to-from zero came (changed o m ∷ rs) h b = came-up_to 0 came (changed o m ∷ arrange_from [] rs) h ∙ append-nil came
up_to-from zero came (deleted l ∷ rs) h b = absurd b
up_to-from (suc n) came (kept l ∷ rs) h b =
    came-up_to (suc n) came (kept l ∷ arrange_from [] rs) h ∙ ap (λ (z : List Record). came ++ (kept l ∷ z)) (up_to-from n [] rs tt b)
up_to-from (suc n) came (changed o m ∷ rs) h b =
    came-up_to (suc n) came (changed o m ∷ arrange_from [] rs) h ∙ ap (λ (z : List Record). came ++ (changed o m ∷ z)) (up_to-from n [] rs tt b)
up_to-from (suc n) came (deleted l ∷ rs) h b = ap (λ (z : List Record). deleted l ∷ z) (up_to-from n came rs h b)
up_to-from n came (inserted l ∷ rs) h b = up_to-from n (came ++ (inserted l ∷ [])) rs (came-more came l h) b

-- THE LAW: where the next source line is kept or changed, or there is none
pub arrange-up_to : (n : ℕ) (rs : List Record) → BeginsApart (after_line n rs) → up_to_line n (arrange rs) ≡ arrange (up_to_line n rs)
unfolding arrange
arrange-up_to n rs b = up_to-from n [] rs tt b

-- the same of every line: this is false
abbrev pub EveryLine : Type 0
EveryLine = (n : ℕ) (rs : List Record) → up_to_line n (arrange rs) ≡ arrange (up_to_line n rs)

-- two lines replaced, and the journal up to the first of them
abbrev two_replaced : List Record
two_replaced = inserted (bytes "x") ∷ deleted (bytes "a") ∷ inserted (bytes "y") ∷ deleted (bytes "b") ∷ []

pub not-every-line : EveryLine → ⊥
unfolding everything
not-every-line every =
    let e : ◌≡◌ {A = ℕ} 4 12 = ap journal_length (every 1 two_replaced) in
    omega (arith, e)
