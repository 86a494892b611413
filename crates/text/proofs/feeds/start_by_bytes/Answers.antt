-- `text::feeds::start_by_bytes` meets its contract: after the last line feed, or at the first byte. Assumes nothing.
use Rattle.std.proofs.Common.{◌≡◌, ℕ, ◌<◌, length, get_or, sym, rules}
use Rattle.text.proofs.LineFeeds.{start-last, start-none}
use Rattle.text.proofs.feeds.start_by_bytes.Goals as goal

pub returns-in-Some : goal.returns-in-Some
returns-in-Some c =
    let s = c.args.s.now in
    let i = c.in-Some.i in
    let before : i < length s = search rules in
    let hit : get_or s i 0 ≡ 10 = search rules in
    let miss : (k : ℕ) → i < k → k < length s → get_or s k 0 ≡ 10 → ⊥ = search rules in
    sym (start-last s i (length s) before hit miss)

pub returns-in-None : goal.returns-in-None
returns-in-None c =
    let s = c.args.s.now in
    let miss : (k : ℕ) → k < length s → get_or s k 0 ≡ 10 → ⊥ = search rules in
    sym (start-none s (length s) miss)
