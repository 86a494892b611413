-- Laws of leads, for callers: a byte that is passed begins no match. Assumes nothing.
use Rattle.std.specs.Prelude.{◌≡◌, refl, Bool, true, false, not, ◌&&◌, ◌||◌, ℕ, zero, suc, ◌≤◌, ◌<◌, eqb, leb, ltb}
use Rattle.std.proofs.Common.{sym, ap, ◌∙◌, arith}
use Rattle.std.proofs.Math.Bool.{and-false}
use Rattle.std.proofs.lemmas.Bool.{false≢true}
use borrow.Author.Tests.{eqb-true, eqb-false, ltb-true, leb-true, leb-false, lt-ltb, le-ltb, le-leb, lt-leb}
use Rattle.definitions.specs.Patterns.{Pattern}
use Rattle.marks.specs.Sweeping.{takes_none, begins}
use Rattle.leads.specs.declared.Leads.{Leads}
use Rattle.leads.specs.Leading.{may_begin, first_lead, last_lead, leads_of, is_lead}

module _ (r : Leads) (b : ℕ) where
  pub lead-below : b < 32 → is_lead r b ≡ true
  unfolding is_lead
  lead-below h = rw (lt-leb 32 b h)

  pub lead-beyond : 128 ≤ b → is_lead r b ≡ true
  unfolding is_lead
  lead-beyond h = rw (le-ltb b 128 h, and-false (leb 32 b))

  pub lead-range : 32 ≤ b → b < 128 → is_lead r b ≡ (leb r.low b && leb b r.high)
  unfolding is_lead
  lead-range low high = rw (le-leb 32 b low, lt-ltb b 128 high)

-- before the first byte that a match can begin with there is none, nor after the last
before-first : (p : Pattern) (a n b : ℕ) → a ≤ b → b < first_lead p a n → may_begin p b ≡ false
unfolding first_lead
before-first p a zero b low high = absurd (omega arith)
before-first p a (suc n) b low high = go (may_begin p a) refl high (eqb a b) refl (before-first p (suc a) n b)
  where
    go : (t : Bool) → may_begin p a ≡ t → b < elim t [ true ↦ a | false ↦ first_lead p (suc a) n ] → (u : Bool) → eqb a b ≡ u
        → (a < b → b < first_lead p (suc a) n → may_begin p b ≡ false) → may_begin p b ≡ false
    go true e h u f later = absurd (omega arith)
    go false e h true f later = ap (may_begin p) (sym (eqb-true a b f)) ∙ e
    go false e h false f later = let other = eqb-false a b f in later (omega arith) h

after_last : (p : Pattern) (n b : ℕ) → b < n → last_lead p n < b → may_begin p b ≡ false
unfolding last_lead
after_last p zero b high low = absurd (omega arith)
after_last p (suc n) b high low = go (may_begin p n) refl low (eqb n b) refl (after_last p n b)
  where
    go : (t : Bool) → may_begin p n ≡ t → elim t [ true ↦ n | false ↦ last_lead p n ] < b → (u : Bool) → eqb n b ≡ u
        → (b < n → last_lead p n < b → may_begin p b ≡ false) → may_begin p b ≡ false
    go true e h u f earlier = absurd (omega arith)
    go false e h true f earlier = ap (may_begin p) (sym (eqb-true n b f)) ∙ e
    go false e h false f earlier = let other = eqb-false n b f in earlier (omega arith) h

outside : (p : Pattern) (b : ℕ) → is_lead (leads_of p) b ≡ false → may_begin p b ≡ false
unfolding is_lead leads_of
outside p b e = go (leb 32 b) refl (ltb b 128) refl (leb (first_lead p 32 96) b) refl (leb b (last_lead p 128)) refl e
  where
    go : (s : Bool) → leb 32 b ≡ s → (t : Bool) → ltb b 128 ≡ t → (u : Bool) → leb (first_lead p 32 96) b ≡ u → (v : Bool) → leb b (last_lead p 128) ≡ v
        → (not (s && t) || (u && v)) ≡ false → may_begin p b ≡ false
    go false i t j u k v l f = absurd (false≢true (sym f))
    go true i false j u k v l f = absurd (false≢true (sym f))
    go true i true j false k v l f = before-first p 32 96 b (leb-true 32 b i) (leb-false _ b k)
    go true i true j true k false l f = after_last p 128 b (ltb-true b 128 j) (leb-false b _ l)
    go true i true j true k true l f = absurd (false≢true (sym f))

-- where a byte is passed no match is empty, and none begins with the byte
pub lead-false : (p : Pattern) (b : ℕ) → is_lead (leads_of p) b ≡ false → (takes_none p ≡ false) × (begins p b ≡ false)
unfolding may_begin
lead-false p b e = neither (takes_none p) (begins p b) (outside p b e)
  where
    neither : (s t : Bool) → (s || t) ≡ false → (s ≡ false) × (t ≡ false)
    neither true t f = absurd (false≢true (sym f))
    neither false t f = (refl, f)
