-- `text::feeds::line_start` meets its contract. Assumes nothing.
use Rattle.std.proofs.Common.{◌≡◌, ℕ, ◌+◌, ◌-◌, List, length, take, drop, sym, ap, ◌∙◌, arith, rules, take-take}
use Rattle.text.specs.Feeds.{line_start}
use Rattle.text.proofs.LineFeeds.{start-back, start-within}
use Rattle.text.proofs.feeds.line_start.Goals as goal

pub loop-front-preserved : goal.loop-front-preserved
loop-front-preserved c =
    let s = c.args.s.now in
    let rest = c.loop-front.rest.now in
    let front = c.in-Some.front.now in
    let is = c.loop-front.invariant in
    let first : front ≡ take (length rest - 16) rest = search rules in
    let last : c.in-Some.last.now ≡ drop (length rest - 16) rest = search rules in
    let size : length front + 16 ≡ length rest = search rules in
    let long : length front ≡ length rest - 16 = omega arith in (
      omega arith,
      first ∙ ap (take (length rest - 16)) is.1 ∙ take-take (length rest - 16) (length rest) s (omega arith) ∙ ap (λ (n : ℕ). take n s) (sym long),
      is.2 ∙ start-back s rest c.in-Some.last.now (length rest) 16 (omega arith) (omega arith) is.1 last (sym c.feed_in.ensures ∙ c.if-feed_in.false) ∙ ap (line_start s) (sym long),
    )

pub returns : goal.returns
returns c =
    let s = c.args.s.now in
    let n = length c.loop-front.rest.now in
    let is = c.loop-front.invariant in
    c.start_by_bytes.ensures ∙ ap (λ (l : List ℕ). line_start l n) is.1 ∙ start-within s n n (omega arith) ∙ sym is.2
