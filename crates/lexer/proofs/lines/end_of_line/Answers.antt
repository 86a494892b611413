use mathlib.Core.Path.{sym, ◌∙◌}
use native.Mathlib.Omega.{arith}
use Rattle.lexer.proofs.Inserts.{end_line, end-other, end-comment, end-script}
use Rattle.lexer.proofs.lines.end_of_line.Goals as goal

pub returns-then-b-eq10 : goal.returns-then-b-eq10
returns-then-b-eq10 c = end_line _ _ _ c.skip_spaces-i.ensures.place (omega arith) (omega arith) (sym c.next_byte-b.ensures ∙ c.if-b-eq10.true)

pub returns-then-b-ne92 : goal.returns-then-b-ne92
returns-then-b-ne92 c = rw c.at.ensures (end-other _ _ _ c.skip_spaces-i.ensures.place (omega arith) (omega arith) (λ e. c.if-b-eq10.false (c.next_byte-b.ensures ∙ e)) (λ e. c.if-b-ne92.true (c.next_byte-b.ensures ∙ e)))

pub returns-then-e-s : goal.returns-then-e-s
returns-then-e-s c =
    end-comment _ _ _ c.skip_spaces-i.ensures.place (omega arith) (omega arith) (λ e. c.if-b-eq10.false (c.next_byte-b.ensures ∙ e)) (sym c.next_byte-b.ensures ∙ c.if-b-ne92.false) _ c.skip_comment-e.ensures.place
    (omega arith) (omega arith)

pub returns-else-e-s : goal.returns-else-e-s
returns-else-e-s c =
    end-script _ _ _ c.skip_spaces-i.ensures.place (omega arith) (omega arith) (λ e. c.if-b-eq10.false (c.next_byte-b.ensures ∙ e)) (sym c.next_byte-b.ensures ∙ c.if-b-ne92.false) _ c.skip_comment-e.ensures.place
    (omega arith) (omega arith) (omega arith)
