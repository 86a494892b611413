-- Demand 3 of the function `zed_run`: its contract, and demand 3 of the values that a caller sees. Assumes nothing.
use mathlib.Core.Path.{◌≡◌, sym, ◌∙◌}
use mathlib.Core.Logic.{◌⊎◌, inl, inr}
use Prim.Native.Nat.{ℕ}
use native.Mathlib.Omega.{arith}
use lib.ListN.{length}
use Rattle.definitions.specs.Run.{Answer, answer, refusal, answer_number, answer_steps, answer_furthest, answer_length, answer_place, answer_records, buffer_after, outcome_from}
use Rattle.theorems.specs.Demand3.{IsAccepted}
use Rattle.theorems.specs.Numbers.{EndNumber, Numbered}
use Rattle.theorems.proofs.Numbers.{answer-numbered, accepted-by-number}
use Rattle.theorems.proofs.Demand3Values.{Call as CallOf, defined, IsRun, holds, read-journal, journal-fits, past-journal, rest-after, rest-passes, ComparedCall, calls-agree}
use Rattle.zed.specs.Values.{values, run_of}
use Rattle.zed.specs.Demand3.{Call, ran, Returned, number, steps, furthest, long, place, Accepted, Refused, Compared, DemandThree, NumberTells}

-- the call's values
abbrev valued : Call → CallOf
valued c = record {
  table = c.table;
  script = c.script;
  budget = c.budget;
  work = length c.work;
  buffer = c.buffer;
  number = number c;
  steps = steps c;
  furthest = furthest c;
  long = long c;
  place = place c;
  bytes = c.journal;
}

is-run : (c : Call) → Returned c → IsRun (valued c)
unfolding values run_of outcome_from
is-run c h = rw (h.answers, h.journals)

numbered : (c : Call) → Returned c → Numbered (ran c)
unfolding run_of
numbered c h = answer-numbered c.table c.script c.budget (length c.work) (length c.buffer)

pub number_is : (c : Call) → Returned c → number c ≡ answer_number (ran c)
unfolding values
number_is c h = rw h.answers

-- an accepted answer's number is 0 or 20 to 31, and a refusal's is neither
end-number : (a : Answer) → Numbered a → (n : ℕ) → n ≡ answer_number a → EndNumber n → EndNumber (answer_number a)
unfolding Numbered answer_number
end-number (answer m steps f at j) h n q k = h
end-number (refusal m at) (inl h) n q (inl z) = absurd (omega (arith, q, z, h.0))
end-number (refusal m at) (inl h) n q (inr z) = absurd (omega (arith, q, z.0, h.1))
end-number (refusal m at) (inr h) n q (inl z) = absurd (omega (arith, q, z, h.0))
end-number (refusal m at) (inr h) n q (inr z) = absurd (omega (arith, q, z.1, h.0))

pub is-accepted : (c : Call) → Returned c → Accepted c → IsAccepted (defined (valued c))
unfolding run_of
is-accepted c h k =
    accepted-by-number c.table c.script c.budget (length c.work) (length c.buffer) (end-number (ran c) (numbered c h) (number c) (number_is c h) k)

-- a call that is compared
compared : (c : Call) → Compared c → ComparedCall (valued c)
compared c h = record { not_full = h.not_full; not_after = h.not_after }

-- THE LAW: demand 3 holds of every accepted call of `zed_run`
pub zed-demand3 : DemandThree
zed-demand3 c h k =
    let v : CallOf = valued c in
    let run : IsRun v = is-run c h in
    let taken : IsAccepted (defined v) = is-accepted c h k in
    record {
      result_is = h.number ∙ sym (number_is c h);
      records = answer_records (defined v);
      read = read-journal v run taken;
      fits = journal-fits v run taken;
      past = past-journal v run taken;
      old = (holds v run taken).old;
      old-bytes = (holds v run taken).old-bytes;
      arranged = (holds v run taken).arranged;
      after = record { rest = rest-after v run taken; passed = rest-passes v run taken };
      agreeing = λ c₂ j₂ h₂ k₂ read same_script same-budget agree w w₂.
          let s = calls-agree v run taken (valued c₂) (is-run c₂ h₂) (is-accepted c₂ h₂ k₂) same_script same-budget j₂ read agree (compared c w) (compared c₂ w₂) in (
            record { same_number = s.number; same_place = s.place; same_steps = s.steps; same_furthest = s.furthest; same_journal = s.journal },
            record { rest = rw s.number s.after; passed = λ q. s.passed (sym s.number ∙ q) },
          );
    }

-- ---- the number tells

-- what is known of a call, by the case of its answer
told : (c : Call) (a : Answer) → Numbered a → c.answer ≡ values a → c.journal ≡ buffer_after c.buffer a → Accepted c ⊎ Refused c
unfolding Numbered values answer_number answer_steps answer_furthest answer_length answer_place buffer_after
told c (answer n steps f at j) (inl z) q b = inl (inl (rw q z))
told c (answer n steps f at j) (inr z) q b = inl (inr (rw q z))
told c (refusal n at) h q b = inr (record { refusal = rw q h; no_steps = rw q; nothing_read = rw q; no_journal = rw q; untouched = b })

pub number-tells : NumberTells
number-tells c h = told c (ran c) (numbered c h) h.answers h.journals
