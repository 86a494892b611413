-- `strings::read_string` meets its contract. Assumes nothing.
use mathlib.Core.Path.{sym, ◌∙◌}
use Rattle.strings.proofs.Quoting.{wants-more, quoted-empty, quoted-bytes}
use Rattle.strings.proofs.read_string.Goals as goal
use Rattle.strings.proofs.read_string.Goals.{then-end-start+else-wants_bytes, else-end-start}

pub wants_bytes-requires : goal.wants_bytes-requires
wants_bytes-requires c = c.requires.2.1.small

pub returns-then-wants_bytes : goal.returns-then-wants_bytes
returns-then-wants_bytes c =
    let string-end = c.string_end-end in
    let then1 = c.if-end-start in
    let wants-bytes = c.wants_bytes in
    let then2 = c.if-wants_bytes in
    λ from y h. rw c.at.ensures (wants-more c.args.s.now from y c.args.at c.args.q h _ string-end.ensures.text then1.true (sym wants-bytes.ensures ∙ then2.true))

pub read_bytes-requires : goal.read_bytes-requires
read_bytes-requires c =
    let string-end = c.string_end-end in
    (c.requires.2.1.small, string-end.ensures.within.0, string-end.ensures.within.1)

pub returns : goal.returns
returns c =
    let string-end = c.string_end-end in
    let joined1 = c.if-end-start in
    let past-delimiter = c.past_delimiter in
    λ from y h. elim joined1.branch [
      | then-end-start+else-wants_bytes w ↦ quoted-empty c.args.s.now from y c.args.at c.args.q h _ string-end.ensures.text _ string-end.ensures.place past-delimiter.ensures.place string-end.ensures.within.0 past-delimiter.ensures.within.0 past-delimiter.ensures.within.1 _ (sym w.wants_bytes.ensures ∙ w.if-wants_bytes.false) c.read_bytes.ensures
      | else-end-start w ↦ quoted-bytes c.args.s.now from y c.args.at c.args.q h _ string-end.ensures.text _ string-end.ensures.place past-delimiter.ensures.place string-end.ensures.within.0 past-delimiter.ensures.within.0 past-delimiter.ensures.within.1 _ w.if-end-start.false c.read_bytes.ensures
    ]
