-- Demand 3 of what a caller of the run sees: the answer's five values, and the bytes of the journal buffer. The code's statements are made from these laws.
use Rattle.std.specs.Prelude.{◌≡◌, refl, List, ◌++◌, ℕ, ◌-◌, ◌≤◌, length, take, drop, replicate}
use Rattle.std.proofs.Common.{sym, ◌∙◌, take_at, drop_at}
use Rattle.std.proofs.Math.Option.{some}
use Rattle.definitions.specs.Bytes.{lines_of}
use Rattle.definitions.specs.Journal.{Record, up_to_line, after_line, journal_bytes, records_of}
use Rattle.definitions.specs.Given.{Carried}
use Rattle.definitions.specs.Run.{Answer, answer, refusal, run_answer, answer_number, answer_steps, answer_furthest, answer_place, answer_length, answer_records, buffer_after, outcome, outcome_from}
use Rattle.theorems.specs.Each.{Each}
use Rattle.theorems.specs.Demand3.{IsAccepted, IsCompared, Agree, SameUpTo, Passes, unread_as, LeftAfter, standing, Demand3}
use Rattle.theorems.proofs.Demand3Proof.{demand3}
use Rattle.theorems.specs.JournalBytes.{journal-length}

-- a call: what the run is given, the answer's values, and the journal buffer's bytes afterwards
pub record Call : Type 0 where
  pub table : List ℕ
  pub script : List ℕ
  pub budget : ℕ
  pub work : ℕ
  pub buffer : List ℕ
  pub number : ℕ
  pub steps : ℕ
  pub furthest : ℕ
  pub long : ℕ
  pub place : ℕ
  pub bytes : List ℕ

-- the definitions' answer
abbrev pub defined : Call → Answer
defined c = run_answer c.table c.script c.budget c.work (length c.buffer)

-- the globals that stand at the run's end
abbrev pub stands_at : Call → Carried
stands_at c = standing c.table c.script c.budget (length c.buffer)

-- values and bytes are the definitions'
abbrev pub IsRun : Call → Type 0
IsRun c = outcome c.number c.steps c.furthest c.long c.place c.bytes ≡ outcome_from c.buffer (defined c)

-- the same, one by one
record Told (c : Call) (a : Answer) : Type 0 where
  number : c.number ≡ answer_number a
  steps : c.steps ≡ answer_steps a
  furthest : c.furthest ≡ answer_furthest a
  long : c.long ≡ answer_length a
  place : c.place ≡ answer_place a
  is : c.bytes ≡ buffer_after c.buffer a

told_of : (c : Call) (a : Answer)
    → outcome c.number c.steps c.furthest c.long c.place c.bytes ≡ outcome_from c.buffer a → Told c a
unfolding outcome_from
told_of c a q = record { number = cc; steps = cc; furthest = cc; long = cc; place = cc; is = cc }

journal-long : (a : Answer) → IsAccepted a → answer_length a ≡ length (journal_bytes (answer_records a))
unfolding IsAccepted answer_length answer_records
journal-long (answer n steps f at j) h = sym (journal-length j)
journal-long (refusal n at) h = absurd h

module _ (c : Call) (run : IsRun c) (accepted : IsAccepted (defined c)) where
  told : Told c (defined c)
  told = told_of c (defined c) run

  -- demand 3 of the definitions' run
  pub holds : Demand3 c.table c.script c.budget c.work (length c.buffer)
  holds = demand3 c.table c.script c.budget c.work (length c.buffer) accepted

  long_as : length (journal_bytes (answer_records (defined c))) ≡ c.long
  long_as = sym (told.long ∙ journal-long (defined c) accepted)

  bytes-are : c.bytes ≡ journal_bytes (answer_records (defined c)) ++ replicate (length c.buffer - c.long) 0
  bytes-are = told.is ∙ holds.bytes c.buffer refl ∙ rw long_as

  -- the first bytes of the buffer are the journal
  pub read-journal : records_of (take c.long c.bytes) ≡ some (answer_records (defined c))
  read-journal = rw (bytes-are, take_at (journal_bytes (answer_records (defined c))) _ c.long long_as) holds.reads_back

  pub journal-fits : c.long ≤ length c.buffer
  journal-fits = rw long_as at holds.fits

  -- the bytes past it are 0
  pub past-journal : drop c.long c.bytes ≡ replicate (length c.buffer - c.long) 0
  past-journal = rw bytes-are (drop_at (journal_bytes (answer_records (defined c))) _ c.long long_as)

  -- after the furthest line stand the table's lines, kept or as the globals leave them
  pub rest-after : after_line c.furthest (answer_records (defined c)) ≡ unread_as c.number (stands_at c) (drop c.furthest (lines_of c.table))
  rest-after = rw (told.furthest, told.number) holds.after.rest

  -- which stop on none of a done run's lines
  pub rest-passes : c.number ≡ 0 → Each (Passes (stands_at c)) (drop c.furthest (lines_of c.table))
  rest-passes q = rw told.furthest (holds.after.passed (sym told.number ∙ q))

  -- no other journal is read from the bytes
  only-journal : (j : List Record) → records_of (take c.long c.bytes) ≡ some j → j ≡ answer_records (defined c)
  only-journal j h = let q : some j ≡ some (answer_records (defined c)) = sym h ∙ read-journal in cc

-- a call that is compared: it does not stop with 26, nor with 25 after the script's end
pub record ComparedCall (c : Call) : Type 0 where
  pub not_full : c.number ≡ 26 → ⊥
  pub not_after : c.number ≡ 25 → c.place ≡ length c.script → ⊥

-- two calls that do not differ up to the first one's furthest line, j and j₂ being their journals; after it the second one's lines, kept or as the first one's globals
-- leave them
pub record SameCalls (c : Call) (j : List Record) (c₂ : Call) (j₂ : List Record) : Type 0 where
  pub number : c₂.number ≡ c.number
  pub place : c₂.place ≡ c.place
  pub steps : c₂.steps ≡ c.steps
  pub furthest : c₂.furthest ≡ c.furthest
  pub journal : up_to_line c.furthest j₂ ≡ up_to_line c.furthest j
  pub after : after_line c.furthest j₂ ≡ unread_as c.number (stands_at c) (drop c.furthest (lines_of c₂.table))
  pub passed : c.number ≡ 0 → Each (Passes (stands_at c)) (drop c.furthest (lines_of c₂.table))

module _ (c : Call) (run : IsRun c) (accepted : IsAccepted (defined c)) (c₂ : Call) (run₂ : IsRun c₂) (accepted₂ : IsAccepted (defined c₂)) where
  v : Told c (defined c)
  v = told c run accepted

  v₂ : Told c₂ (defined c₂)
  v₂ = told c₂ run₂ accepted₂

  same-calls : SameUpTo (answer_furthest (defined c)) (defined c) (defined c₂) → LeftAfter (answer_furthest (defined c)) (stands_at c) (lines_of c₂.table) (defined c₂)
      → SameCalls c (answer_records (defined c)) c₂ (answer_records (defined c₂))
  same-calls s k = record {
    number = v₂.number ∙ s.number ∙ sym v.number;
    place = v₂.place ∙ s.place ∙ sym v.place;
    steps = v₂.steps ∙ s.steps ∙ sym v.steps;
    furthest = v₂.furthest ∙ s.furthest ∙ sym v.furthest;
    journal = rw v.furthest s.journal;
    after = rw (v.furthest, v.number, ← s.number) k.rest;
    passed = λ q. rw v.furthest (k.passed (s.number ∙ sym v.number ∙ q));
  }

  module _ (same_script : c₂.script ≡ c.script) (same-budget : c₂.budget ≡ c.budget) where
    compared : (a : Call) → Told a (defined a) → ComparedCall a → IsCompared a.script (defined a)
    compared a t h = record { not_full = λ q. h.not_full (t.number ∙ q); not_after = λ q p. h.not_after (t.number ∙ q) (t.place ∙ p) }

    definitions-agree : Agree c.furthest (lines_of c.table) (lines_of c₂.table) → ComparedCall c → ComparedCall c₂
        → SameUpTo (answer_furthest (defined c)) (defined c) (defined c₂) × LeftAfter (answer_furthest (defined c)) (stands_at c) (lines_of c₂.table) (defined c₂)
    definitions-agree agree h h₂ =
        let h' : IsCompared c₂.script (defined c₂) = compared c₂ v₂ h₂ in
        rw (same_script, same-budget)
        ((holds c run accepted).agreeing c₂.table c₂.work (length c₂.buffer) (rw (same_script, same-budget) at accepted₂)
        (rw v.furthest at agree) (compared c v h) (rw (same_script, same-budget) at h'))

    -- THE LAW
    pub calls-agree : (j₂ : List Record) → records_of (take c₂.long c₂.bytes) ≡ some j₂
        → Agree c.furthest (lines_of c.table) (lines_of c₂.table) → ComparedCall c → ComparedCall c₂
        → SameCalls c (answer_records (defined c)) c₂ j₂
    calls-agree j₂ read agree h h₂ =
        let d = definitions-agree agree h h₂ in
        rw (only-journal c₂ run₂ accepted₂ j₂ read) (same-calls d.0 d.1)
