-- Laws of what is found, by its cases. Assumes nothing.
use Rattle.std.specs.Prelude.{Ok, Err}
use mathlib.Core.Path.{◌≡◌, refl, sym, ap, ◌∙◌}
use mathlib.Core.Bool.{Bool, true, ◌&&◌, and_assoc}
use mathlib.Core.List.{List}
use Prim.Native.Nat.{ℕ, ◌≤◌}
use native.Mathlib.Omega.{arith}
use Rattle.definitions.specs.Reader.{Got, got, refused, and_then}
use Rattle.definitions.specs.Patterns.{Pattern, is_blank}
use Rattle.patterns.specs.declared.Past.{Past}
use Rattle.patterns.specs.declared.Fault.{Fault}
use Rattle.patterns.specs.Reading.{Found, past-to, ReadTo, Reads}

pub is-past : {s : List ℕ} {least : ℕ} {x : Got Pattern} {p : Past} → Reads s least x (Ok p) → ReadTo s least x p.next p.blank
is-past (Reads.past _ _ read) = read

pub is-fault : {s : List ℕ} {least : ℕ} {x : Got Pattern} {f : Fault} → Reads s least x (Err f) → x ≡ refused 34 f.at
is-fault (Reads.fault _ refusal) = refusal

-- the same of another definition, from an earlier place on
pub same_reads : {s : List ℕ} {least least' : ℕ} {x x' : Got Pattern} {r : Found} → Reads s least x r → least' ≤ least → x' ≡ x → Reads s least' x' r
same_reads (Reads.past next blank read) h e =
    Reads.past next blank (record { pattern = read.pattern; is = e ∙ read.is; same = read.same; after = omega (arith, read.after); within = read.within })
same_reads (Reads.fault k refusal) h e = Reads.fault k (e ∙ refusal)

-- ---- what is found, as the rest of something that is blank or not

unfoldable pub rest_of : Bool → Found → Found
rest_of blank (Ok p) = Ok (past-to p.next (blank && p.blank))
rest_of blank (Err f) = Err f

pub rest-of-blank : (r : Found) → rest_of true r ≡ r
unfolding rest_of
rest-of-blank (Ok p) = refl
rest-of-blank (Err f) = refl

pub rest-of-both : (a b : Bool) (r : Found) → rest_of a (rest_of b r) ≡ rest_of (a && b) r
unfolding rest_of
rest-of-both a b (Ok p) = ap (λ (t : Bool). Ok (past-to p.next t)) (sym (and_assoc a b p.blank))
rest-of-both a b (Err f) = refl

-- the rest is read, and f puts what was before it and the rest together
pub rest-reads : {s : List ℕ} {least least' : ℕ} {x x' : Got Pattern} {r : Found} (f : Pattern → Pattern) (blank : Bool)
    → ((q : Pattern) → is_blank (f q) ≡ (blank && is_blank q)) → Reads s least x r → least' ≤ least → x' ≡ and_then x (λ q c. got (f q) c)
    → Reads s least' x' (rest_of blank r)
unfolding rest_of and_then
rest-reads f blank same (Reads.past next b read) h e = Reads.past next (blank && b) (record {
  pattern = f read.pattern;
  is = e ∙ ap (λ (y : Got Pattern). and_then y (λ q c. got (f q) c)) read.is;
  same = same read.pattern ∙ ap (λ (t : Bool). blank && t) read.same;
  after = omega (arith, read.after);
  within = read.within;
})
rest-reads f blank same (Reads.fault k refusal) h e = Reads.fault k (e ∙ ap (λ (y : Got Pattern). and_then y (λ q c. got (f q) c)) refusal)
