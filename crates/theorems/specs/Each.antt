-- A predicate that holds of each element of a list, and of each element after the operations on lists that the definitions use.
use mathlib.Core.List.{List, [], ◌∷◌, ◌++◌, map, reverse_aux}
use Rattle.std.specs.Prelude.{ℕ, zero, suc, ◌<◌, length, get_or, take, drop}
use Rattle.std.proofs.Common.{not-suc-le-zero, le_of_suc-le-suc}

abbrev pub Each : {A : Type 0} → (A → Type 0) → List A → Type 0
Each P [] = Unit {0}
Each P (x ∷ xs) = P x × Each P xs

module _ {A : Type 0} (P : A → Type 0) where
  pub each_all : ((x : A) → P x) → (xs : List A) → Each P xs
  each_all f [] = tt
  each_all f (x ∷ xs) = (f x, each_all f xs)

  pub each_append : (xs ys : List A) → Each P xs → Each P ys → Each P (xs ++ ys)
  each_append [] ys h k = k
  each_append (x ∷ xs) ys h k = (h.0, each_append xs ys h.1 k)

  pub each-reverse : (xs ys : List A) → Each P xs → Each P ys → Each P (reverse_aux xs ys)
  each-reverse [] ys h k = k
  each-reverse (x ∷ xs) ys h k = each-reverse xs (x ∷ ys) h.1 (h.0, k)

  pub each_take : (n : ℕ) (xs : List A) → Each P xs → Each P (take n xs)
  each_take zero xs h = tt
  each_take (suc n) [] h = tt
  each_take (suc n) (x ∷ xs) h = (h.0, each_take n xs h.1)

  pub each-drop : (n : ℕ) (xs : List A) → Each P xs → Each P (drop n xs)
  each-drop zero xs h = h
  each-drop (suc n) [] h = tt
  each-drop (suc n) (x ∷ xs) h = each-drop n xs h.1

  -- what follows for each element
  pub each_to : (R : A → Type 0) → ((x : A) → R x → P x) → (xs : List A) → Each R xs → Each P xs
  each_to R f [] h = tt
  each_to R f (x ∷ xs) h = (f x h.0, each_to R f xs h.1)

  -- what holds of each image holds of a mapped list
  pub each_map : {B : Type 0} (R : B → Type 0) (f : B → A) → ((b : B) → R b → P (f b)) → (xs : List B) → Each R xs → Each P (map f xs)
  each_map R f g [] h = tt
  each_map R f g (x ∷ xs) h = (g x h.0, each_map R f g xs h.1)

  pub each-get_or : (xs : List A) (n : ℕ) (d : A) → n < length xs → Each P xs → P (get_or xs n d)
  each-get_or [] n d l h = absurd (not-suc-le-zero l)
  each-get_or (x ∷ xs) zero d l h = h.0
  each-get_or (x ∷ xs) (suc n) d l h = each-get_or xs n d (le_of_suc-le-suc l) h.1
