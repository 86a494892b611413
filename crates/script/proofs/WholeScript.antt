-- Round after round: the reader of whole scripts. Assumes nothing.
use mathlib.Core.Path.{◌≡◌, refl, sym, ◌∙◌}
use mathlib.Core.Bool.{true, false}
use mathlib.Core.List.{List, []}
use Prim.Native.Nat.{ℕ, zero, suc, ◌+◌, ◌-◌, ◌*◌, ◌≤◌, ◌<◌}
use native.Mathlib.Nat.{not-suc-le-zero}
use native.Mathlib.Numerals.{sub-one}
use native.Mathlib.Omega.{arith}
use lib.ListN.{length}
use Rattle.definitions.specs.Table.{is_script}
use Rattle.definitions.specs.Control.{Item}
use Rattle.definitions.specs.Script.{Reading, Script, items, refused_at, more, done, read_one, read_all, read_script}
use Rattle.std.specs.Prelude.{Result, Ok, Err, Option, None}
use Rattle.std.specs.Result.{result_and}
use Rattle.answers.specs.declared.Refusal.{Refusal}
use Rattle.answers.specs.declared.State.{State}
use Rattle.answers.specs.Answers.{number_of}
use Rattle.strings.proofs.Lines.{script-short}
use Rattle.script.specs.Gathered.{Gathered}
use Rattle.script.specs.Reading.{due_of, groups_in, bodies_in, reading_of, ReadSoFar, Onward, Finished, ScriptRead}
use Rattle.script.specs.Placed.{Round}
use Rattle.script.proofs.Affording.{affords-first}

-- the state and the place show a reading from which the rounds that are left come to x
pub record Going (s w : List ℕ) (st : State) (at : ℕ) (x : Script) : Type 0 where
  pub rounds : ℕ
  pub acc : List Item
  pub stands : ReadSoFar s w st at acc
  pub enough : length s - at < rounds
  pub comes_to : read_all rounds (reading_of s w st at acc) ≡ x

abbrev pub opening : State
opening = record { k = 0; due = 0; elses = false; depth = 0 }

pub begins : (s w : List ℕ) → is_script s ≡ true → 2 * length s + 64 ≤ length w → Going s w opening 0 (read_script s)
unfolding read_script reading_of due_of groups_in bodies_in Gathered
begins s w form work = record {
  rounds = suc (length s);
  acc = [];
  stands = record { inside = omega arith; deep = omega arith; no_body = λ z. refl; gathered = refl; affords = affords-first s; fits = record { work = work; small = script-short s form; form = form } };
  enough = omega arith;
  comes_to = refl;
}

after_more : (n : ℕ) (r r' : Reading) → 0 < n → read_one r ≡ more r' → read_all n r ≡ read_all (n - 1) r'
unfolding read_all
after_more zero r r' pos e = absurd (not-suc-le-zero pos)
after_more (suc n) r r' pos e = rw (sub-one, e, read_all)

after-done : (n : ℕ) (r : Reading) (x : Script) → 0 < n → read_one r ≡ done x → read_all n r ≡ x
unfolding read_all
after-done zero r x pos e = absurd (not-suc-le-zero pos)
after-done (suc n) r x pos e = rw (e, read_all)

-- a round was made from `from` on
module _ (s w w' : List ℕ) (st : State) (from : ℕ) (x : Script) (g : Going s w st from x) where
  -- it goes on at `next`
  pub goes_on : (next : ℕ) (st' : State) → Round s w st from (λ y. Onward s w' from y st' next) → Going s w' st' next x × (from < next) × (next ≤ length s)
  goes_on next st' comes = on (comes g.acc g.stands)
    where
      on : Onward s w' from (read_one (reading_of s w st from g.acc)) st' next → Going s w' st' next x × (from < next) × (next ≤ length s)
      on (acc', is, h, far) = (
        record {
          rounds = g.rounds - 1;
          acc = acc';
          stands = h;
          enough = omega (arith, g.enough, h.inside);
          comes_to = sym (after_more g.rounds (reading_of s w st from g.acc) (reading_of s w' st' next acc') (omega (arith, g.enough)) is) ∙ g.comes_to;
        },
        far,
        h.inside,
      )

  -- it was the last: what was read, or the refusal, is the whole script's
  pub ends : (r : Result (Option State) Refusal) → r ≡ Ok None → Round s w st from (λ y. Finished s w' y st.k) → ScriptRead s w' x (result_and r (Ok st.k))
  ends r none comes = rw none (on (comes g.acc g.stands))
    where
      on : Finished s w' (read_one (reading_of s w st from g.acc)) st.k → ScriptRead s w' x (Ok st.k)
      on (is, e, ready) = (is, sym g.comes_to ∙ after-done g.rounds (reading_of s w st from g.acc) (items is) (omega (arith, g.enough)) e, ready)

  pub refuses : (r : Result (Option State) Refusal) (e : Refusal) → r ≡ Err e → Round s w st from (λ y. y ≡ done (refused_at (number_of e.fault) e.place)) → ScriptRead s w' x (result_and r (Ok st.k))
  refuses r e refused comes =
      rw refused (sym g.comes_to ∙ after-done g.rounds (reading_of s w st from g.acc) (refused_at (number_of e.fault) e.place) (omega (arith, g.enough)) (comes g.acc g.stands))
