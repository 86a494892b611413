-- `run::run_decoded` meets its contract. Assumes nothing.
use mathlib.Core.Path.{sym, ◌∙◌}
use native.Mathlib.Omega.{arith}
use Rattle.theorems.specs.JournalBytes.{table-short}
use Rattle.text.proofs.Forms.{table_is, table-is-not}
use Rattle.run.proofs.Whole.{not_table, no_room, has_room}
use Rattle.run.proofs.run_decoded.Goals as goal

pub returns-in_default : goal.returns-in_default
returns-in_default c = λ is d. not_table _ _ _ _ is (table-is-not _ (sym c.table_form.ensures ∙ c.in_default.is))

pub opening_fits-requires : goal.opening_fits-requires
opening_fits-requires c = omega (arith, (table_is _ _ (sym c.table_form.ensures ∙ c.in-Some.is)).1, table-short _ (table_is _ _ (sym c.table_form.ensures ∙ c.in-Some.is)).0)

pub run_table-requires : goal.run_table-requires
run_table-requires c =
    let p = c.requires in
    let f = (table_is _ _ (sym c.table_form.ensures ∙ c.in-Some.is)) in
    ((f.0, has_room c.args.journal.now _ f.0 _ f.1 _ c.opening_fits.ensures c.if-opening_fits.true), p)

pub returns-then-opening_fits : goal.returns-then-opening_fits
returns-then-opening_fits c = c.run_table.ensures

pub returns : goal.returns
returns c = λ is d.
    let f = (table_is _ _ (sym c.table_form.ensures ∙ c.in-Some.is)) in
    no_room _ _ f.0 _ f.1 _ c.opening_fits.ensures _ _ is c.if-opening_fits.false
