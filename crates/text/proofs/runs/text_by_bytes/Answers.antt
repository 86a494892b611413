-- `text::runs::text_by_bytes` meets its contract. Assumes nothing.
use Rattle.std.proofs.Common.{◌≡◌, ℕ, ◌<◌, true, false, length, get_or, arith, rules}
use Rattle.definitions.specs.Bytes.{is_text}
use Rattle.text.proofs.Texts.{run-is}
use Rattle.text.proofs.runs.text_by_bytes.Goals as goal

pub returns-in-Some : goal.returns-in-Some
unfolding is_text
returns-in-Some c =
    let s = c.args.s.now in
    let i = c.in-Some.i in
    let before : i < length s = search rules in
    let other : is_text (get_or s i 0) ≡ false = search rules in
    let all : (k : ℕ) → k < i → is_text (get_or s k 0) ≡ true = search rules in
    run-is s i (omega arith) all (λ _. other)

pub returns-in-None : goal.returns-in-None
unfolding is_text
returns-in-None c =
    let s = c.args.s.now in
    let all : (k : ℕ) → k < length s → is_text (get_or s k 0) ≡ true = search rules in
    run-is s (length s) (omega arith) all (λ h. absurd (omega arith))
