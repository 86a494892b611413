use mathlib.Core.Path.{ap, ◌∙◌}
use mathlib.Core.List.{List}
use Prim.Native.Nat.{ℕ}
use Rattle.definitions.specs.Given.{words_of}
use Rattle.wordset.specs.Sets.{in_set}
use Rattle.globals.proofs.Standing.{set_long, set-counts}
use Rattle.editor.proofs.CurrentText.{line-window, read_short}
use Rattle.seeks.proofs.Finding.{reserve-in}
use Rattle.seeks.proofs.Texts.{eof-holds, text-holds}
use Rattle.seeks.proofs.holds_here.Goals as goal

pub holds_at_eof-requires : goal.holds_at_eof-requires
holds_at_eof-requires c = let p = c.requires.1.0 in (_, p.0, p.1)

pub returns-then-at-j : goal.returns-then-at-j
returns-then-at-j c = λ se e x t w g h. c.holds_at_eof.ensures _ se w ∙ eof-holds (words_of x) c.if-at-j.true se e t h.shows

pub current_line-line-requires : goal.current_line-line-requires
current_line-line-requires c = let p = c.requires.1.1 in ((p.0, p.1, p.2.shows, p.2.old), c.if-at-j.false)

pub word_set-requires : goal.word_set-requires
word_set-requires c = reserve-in _ _ c.requires.0

pub holds-requires : goal.holds-requires
holds-requires c =
    let p = c.requires in
    let h = p.1.1.2 in
    (p.1.0, set_long c.args.words.now (reserve-in _ _ p.0) _ c.word_set.ensures, line-window c.if-at-j.false p.1.1.0 p.1.1.1 h.shows h.point _ (c.current_line-line.ensures p.1.1.0 p.1.1.1 h.shows h.old), read_short _ c.current_line-line.ensures (p.1.1.0, p.1.1.1, record { shows = h.shows; old = h.old }))

pub returns : goal.returns
returns c =
    λ se e x t w g h.
    text-holds (words_of x) c.if-at-j.false se e t h.shows _ (ap (λ (s : List ℕ). in_set s 0) c.word_set.ensures ∙ set-counts _ _ x g) _ _
    (c.current_line-line.ensures e t h.shows h.old) (c.holds.ensures se w)
