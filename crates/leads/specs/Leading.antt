-- The bytes that a match of a pattern can begin with, as a range. Where no match is begun, a place of the line with a byte outside it is passed at once.
-- Assumes nothing.
use Rattle.std.specs.Prelude.{◌≡◌, Bool, true, false, not, ◌&&◌, ◌||◌, List, ℕ, zero, suc, ◌≤◌, ◌<◌, get_or, leb, ltb}
use Rattle.definitions.specs.Patterns.{Pattern}
use Rattle.marks.specs.Sweeping.{takes_none, begins}
use Rattle.leads.specs.declared.Leads.{Leads}

-- a match can begin with b, or be empty, and so begin anywhere
unfoldable pub may_begin : Pattern → ℕ → Bool
may_begin p b = takes_none p || begins p b

-- the first of n bytes from b on that a match can begin with; the one after them where there is none
unfoldable pub first_lead : Pattern → ℕ → ℕ → ℕ
first_lead p b zero = b
first_lead p b (suc n) = elim (may_begin p b) [ true ↦ b | false ↦ first_lead p (suc b) n ]

-- the last of the first n bytes that a match can begin with; 0 where there is none
unfoldable pub last_lead : Pattern → ℕ → ℕ
last_lead p zero = zero
last_lead p (suc n) = elim (may_begin p n) [ true ↦ n | false ↦ last_lead p n ]

-- the bytes from 32 to 127 that a match can begin with, from the first to the last
unfoldable pub leads_of : Pattern → Leads
leads_of p = record { low = first_lead p 32 96; high = last_lead p 128 }

-- may a match begin with the byte, by the range; of bytes that are no text nothing is known
unfoldable pub is_lead : Leads → ℕ → Bool
is_lead r b = not (leb 32 b && ltb b 128) || (leb r.low b && leb b r.high)

-- k is the first place from i on, before `end`, where a match may begin; else `end`
pub record NextLead (r : Leads) (l : List ℕ) (i end k : ℕ) : Type 0 where
  pub from : i ≤ k
  pub inside : k ≤ end
  pub passed : (j : ℕ) → i ≤ j → j < k → is_lead r (get_or l j 0) ≡ false
  pub leads : k < end → is_lead r (get_or l k 0) ≡ true
