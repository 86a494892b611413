-- Laws of bytes that a reader gives, one read after the other. Assumes nothing.
use Rattle.std.proofs.Math.Seq.{take-append-add}
use Rattle.std.proofs.lemmas.List.{take-append-le}
use Rattle.std.proofs.Common.{subst, length-take-le, length-append, ◌+◌, ◌≤◌, length, take, arith, ◌≡◌, ℕ, List, [], ◌++◌, sym, refl, ap, ◌∙◌, append_assoc, None, Some, Option}
use Rattle.std.specs.Io.KnownBytes.{Consumes, Keeps}

pub consumed-none : (a : Option (List ℕ)) → Consumes a a []
consumed-none None = tt
consumed-none (Some xs) = refl

pub consumed-more : (a b c : Option (List ℕ)) (x y : List ℕ) → Consumes a b x → Consumes b c y → Consumes a c (x ++ y)
consumed-more None b c x y h k = tt
consumed-more (Some u) None c x y h k = absurd h
consumed-more (Some u) (Some v) None x y h k = absurd k
consumed-more (Some u) (Some v) (Some w) x y h k = h ∙ ap (λ (z : List ℕ). x ++ z) k ∙ sym (append_assoc x y w)

pub consumed-kept : (a b c : Option (List ℕ)) (x : List ℕ) → Consumes a b x → Keeps b c → Consumes a c x
consumed-kept None b c x h k = tt
consumed-kept (Some u) None c x h k = absurd h
consumed-kept (Some u) (Some v) None x h k = absurd k
consumed-kept (Some u) (Some v) (Some w) x h k = h ∙ ap (λ (z : List ℕ). x ++ z) (sym k)

-- what lies at the front after the next n bytes were read behind the first a
pub front-more : (a n : ℕ) (xs ys zs : List ℕ) → a ≤ length xs → n ≤ length ys → take (a + n) (take a xs ++ (ys ++ zs)) ≡ take a xs ++ take n ys
front-more a n xs ys zs h k =
    let front : length (take a xs) ≡ a = length-take-le a xs h in
    subst (λ (m : ℕ). take (m + n) (take a xs ++ (ys ++ zs)) ≡ take a xs ++ take n ys) front
    (take-append-add (take a xs) (ys ++ zs) n ∙ ap (λ (l : List ℕ). take a xs ++ l) (take-append-le n ys zs k))

pub front-within : (a n : ℕ) (xs ys zs : List ℕ) → a ≤ length xs → n ≤ length ys → a + n ≤ length (take a xs ++ (ys ++ zs))
front-within a n xs ys zs h k = simp length-append (omega (arith, length-take-le a xs h))
