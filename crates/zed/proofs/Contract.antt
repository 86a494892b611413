-- `Returned`, from which demand 3 and wish 5 of `zed_run` follow, is the contract of `zed_run`, no less and no more; so are `Joined` and `Turned`, from which wish 7
-- follows, those of `zed_join` and `zed_turn`. Assumes nothing.
use mathlib.Core.Path.{◌≡◌}
use Prim.Native.Nat.{◌≤◌}
use lib.ListN.{length}
use contract.Lifetimes.{Lfts}
use borrow.Fn.Kinds.{Dens, res_t, ended_of}
use denote.Triple.Clauses.{AtExit}
use Rattle.zed.proofs.zed_run.Kinds as kinds
use Rattle.zed.proofs.zed_run.Reads as contract-of
use Rattle.zed.proofs.zed_join.Kinds as join-kinds
use Rattle.zed.proofs.zed_join.Reads as join-contract
use Rattle.zed.proofs.zed_turn.Kinds as turn-kinds
use Rattle.zed.proofs.zed_turn.Reads as turn-contract
use Rattle.zed.specs.Demand3.{Call, Returned, Accepted, Demand3}
use Rattle.zed.specs.Budgets.{DifferInBudget, WishFive}
use Rattle.zed.specs.Seasons.{JoinCall, TurnCall, Joined, Turned, JoinDone, TurnDone, turn_wrote, Brackets, SameEitherWay}
use Rattle.zed.proofs.Demand3.{zed-demand3}
use Rattle.zed.proofs.Budgets.{zed-larger-budgets}
use Rattle.zed.proofs.Seasons.{zed-wish-seven}

-- the arguments of a call, in their order, its result, and what is lent as it stands at the end
module _ (κs : Lfts 5) (a : Dens κs kinds.ps) (r : (res_t kinds.r κs).Denot) (s : AtExit (ended_of 5 kinds.ps kinds.r) κs) where
  abbrev pub call : Call
  call = record {
    table = a.0.now;
    script = a.1.0.now;
    budget = a.1.1.0;
    work = a.1.1.1.0.now;
    buffer = a.1.1.1.1.0.now;
    result = r;
    answer = s.1.1.1.1.1.0.now;
    journal = s.1.1.1.1.0.now;
  }

  -- what the contract tells a caller
  pub contract-tells : contract-of.Learnt κs a r s → Returned call
  contract-tells h = record { number = h.0; answers = h.1.0; journals = h.1.1 }

  pub tells-contract : Returned call → contract-of.Learnt κs a r s
  tells-contract h = (h.number, (h.answers, h.journals))

  -- so demand 3 holds of every accepted call of the function
  pub call-demand3 : contract-of.Learnt κs a r s → Accepted call → Demand3 call
  call-demand3 h accepted = zed-demand3 call (contract-tells h) accepted

-- and wish 5 of every two calls of the function that differ in the budget alone
module _ (κs κs₂ : Lfts 5) (a : Dens κs kinds.ps) (a₂ : Dens κs₂ kinds.ps) (r : (res_t kinds.r κs).Denot) (r₂ : (res_t kinds.r κs₂).Denot)
    (s : AtExit (ended_of 5 kinds.ps kinds.r) κs) (s₂ : AtExit (ended_of 5 kinds.ps kinds.r) κs₂) where
  pub calls-larger-budgets : contract-of.Learnt κs a r s → contract-of.Learnt κs₂ a₂ r₂ s₂ → DifferInBudget (call κs a r s) (call κs₂ a₂ r₂ s₂)
      → WishFive (call κs a r s) (call κs₂ a₂ r₂ s₂)
  calls-larger-budgets h h₂ d = zed-larger-budgets (call κs a r s) (call κs₂ a₂ r₂ s₂) (contract-tells κs a r s h) (contract-tells κs₂ a₂ r₂ s₂ h₂) d

-- a call of `zed_join`
module _ (κs : Lfts 4) (a : Dens κs join-kinds.ps) (r : (res_t join-kinds.r κs).Denot) (s : AtExit (ended_of 4 join-kinds.ps join-kinds.r) κs) where
  abbrev pub join_call : JoinCall
  join_call = record {
    first = a.0.now;
    second = a.1.0.now;
    dest = a.1.1.0.now;
    result = r;
    written = s.1.1.1.0.now;
    left = s.1.1.0.now;
  }

  pub join-tells : join-contract.Learnt κs a r s → Joined join_call
  join-tells h = record { number = h.0; long = h.1.0; bytes = h.1.1 }

  pub tells-join : Joined join_call → join-contract.Learnt κs a r s
  tells-join h = (h.number, (h.long, h.bytes))

-- a call of `zed_turn`
module _ (κs : Lfts 3) (a : Dens κs turn-kinds.ps) (r : (res_t turn-kinds.r κs).Denot) (s : AtExit (ended_of 3 turn-kinds.ps turn-kinds.r) κs) where
  abbrev pub turn_call : TurnCall
  turn_call = record {
    journal = a.0.now;
    dest = a.1.0.now;
    result = r;
    written = s.1.1.0.now;
    left = s.1.0.now;
  }

  pub turn-tells : turn-contract.Learnt κs a r s → Turned turn_call
  turn-tells h = record { number = h.0; long = h.1.0; bytes = h.1.1 }

  pub tells-turn : Turned turn_call → turn-contract.Learnt κs a r s
  tells-turn h = (h.number, (h.long, h.bytes))

-- calls that have returned, with what the contract tells of them
pub record JoinReturn : Type 1 where
  pub κs : Lfts 4
  pub a : Dens κs join-kinds.ps
  pub r : (res_t join-kinds.r κs).Denot
  pub s : AtExit (ended_of 4 join-kinds.ps join-kinds.r) κs
  pub told : join-contract.Learnt κs a r s

pub record TurnReturn : Type 1 where
  pub κs : Lfts 3
  pub a : Dens κs turn-kinds.ps
  pub r : (res_t turn-kinds.r κs).Denot
  pub s : AtExit (ended_of 3 turn-kinds.ps turn-kinds.r) κs
  pub told : turn-contract.Learnt κs a r s

abbrev pub join_of : JoinReturn → JoinCall
join_of c = join_call c.κs c.a c.r c.s

abbrev pub turn_of : TurnReturn → TurnCall
turn_of c = turn_call c.κs c.a c.r c.s

pub join-told : (c : JoinReturn) → Joined (join_of c)
join-told c = join-tells c.κs c.a c.r c.s c.told

pub turn-told : (c : TurnReturn) → Turned (turn_of c)
turn-told c = turn-tells c.κs c.a c.r c.s c.told

-- so wish 7 holds of calls of the functions: three journals joined, and one turned round twice
pub calls-three : (ab bc x y : JoinReturn) → JoinDone (join_of ab) → JoinDone (join_of bc) → Brackets (join_of ab) (join_of bc) (join_of x) (join_of y)
    → SameEitherWay (join_of ab) (join_of bc) (join_of x) (join_of y)
calls-three ab bc x y p q b =
    zed-wish-seven.three (join_of ab) (join_of bc) (join_of x) (join_of y) (join-told ab) (join-told bc) (join-told x) (join-told y) p q b

pub calls-twice : (t u : TurnReturn) → TurnDone (turn_of t) → (turn_of u).journal ≡ turn_wrote (turn_of t) → length (turn_of t).journal ≤ length (turn_of u).dest
    → TurnDone (turn_of u) × (turn_wrote (turn_of u) ≡ (turn_of t).journal)
calls-twice t u p e le = zed-wish-seven.twice (turn_of t) (turn_of u) (turn-told t) (turn-told u) p e le
