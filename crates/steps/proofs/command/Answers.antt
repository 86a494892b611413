-- `steps::command` meets its contract. Assumes nothing.
use mathlib.Core.Path.{refl, sym, ◌∙◌}
use Rattle.items.proofs.Meaning.{first-in}
use Rattle.globals.proofs.Standing.{keeps-only}
use Rattle.editor.proofs.Parts.{handed}
use Rattle.editor.proofs.Shown.{went-by, stops-by}
use Rattle.steps.proofs.Globals.{below-stands, reserve-below, same-only, forgot-only, named-only, item-few, names-room, leaves-carried, global-added, global-not, all-cancelled, words-named, command-on, command-stops}
use Rattle.steps.proofs.command.Goals as goal

pub kind_of-kind-requires : goal.kind_of-kind-requires
kind_of-kind-requires c = let p = c.requires.0 in first-in _ _ _ _ refl (p.1, p.2.command)

pub keep-requires : goal.keep-requires
keep-requires c = let p = c.requires.0 in (reserve-below _ _ _ p.3, item-few _ _ _ _ _ p.2)

pub returns-then-keep : goal.returns-then-keep
returns-then-keep c =
    let k = c.keep.ensures in record { commanded = record { keeps = refl; long = refl; looks = global-added _ _ _ _ c.kind_of-kind.ensures _ _ _ _ (sym c.is_global.ensures ∙ c.if-is_global.true) _ k c.if-keep.true }; only_carried = keeps-only _ _ _ _ (reserve-below _ _ _ c.requires.0.3) k }

pub returns-then-is_global : goal.returns-then-is_global
returns-then-is_global c =
    let k = c.keep.ensures in record { commanded = record { keeps = refl; long = refl; looks = global-not _ _ _ _ c.kind_of-kind.ensures _ _ _ _ (sym c.is_global.ensures ∙ c.if-is_global.true) _ k c.if-keep.false }; only_carried = keeps-only _ _ _ _ (reserve-below _ _ _ c.requires.0.3) k }

pub forget-requires : goal.forget-requires
forget-requires c = reserve-below _ _ _ c.requires.0.3

pub returns-then-kind-eq-CANCEL : goal.returns-then-kind-eq-CANCEL
returns-then-kind-eq-CANCEL c = record { commanded = record { keeps = refl; long = refl; looks = all-cancelled _ _ _ _ c.kind_of-kind.ensures _ _ _ _ c.if-kind-eq-CANCEL.true c.forget.ensures }; only_carried = forgot-only _ _ (reserve-below _ _ _ c.requires.0.3) c.forget.ensures }

pub name_words-requires : goal.name_words-requires
name_words-requires c =
    let p = c.requires.0 in
    names-room _ _ _ _ c.kind_of-kind.ensures c.if-kind-eq-WORD_SET.true p.0 p.1 p.2 p.3.0 p.3.1

pub returns-then-kind-eq-WORD_SET : goal.returns-then-kind-eq-WORD_SET
returns-then-kind-eq-WORD_SET c =
    let p = c.requires.0 in
    let kind = c.kind_of-kind.ensures in
    let this = c.if-kind-eq-WORD_SET.true in record { commanded = record { keeps = refl; long = refl; looks = words-named _ _ _ _ kind _ _ _ _ this c.name_words.ensures }; only_carried = named-only _ _ _ (names-room _ _ _ _ kind this p.0 p.1 p.2 p.3.0 p.3.1) c.name_words.ensures }

pub perform-requires : goal.perform-requires
perform-requires c =
    let p = c.requires in
    ((p.0.1, p.0.2.command), below-stands _ _ _ p.0.3, leaves-carried p.0.2.command _ c.kind_of-kind.ensures (sym c.is_global.ensures ∙ c.if-is_global.false) c.if-kind-eq-CANCEL.false c.if-kind-eq-WORD_SET.false, p.1)

pub returns : goal.returns
returns c =
    let r = c.perform.ensures in
    record {
      commanded = record {
        keeps = r.keeps;
        long = r.long;
        looks = command-on _ _ _ _ c.kind_of-kind.ensures _ _ _ (sym c.is_global.ensures ∙ c.if-is_global.false) c.if-kind-eq-CANCEL.false c.if-kind-eq-WORD_SET.false _ _ r.does _ (went-by _ c.in_ok-perform.was);
      };
      only_carried = same-only _;
    }

pub returns-in_err-perform : goal.returns-in_err-perform
returns-in_err-perform c =
    let r = c.perform.ensures in
    record {
      commanded = record {
        keeps = r.keeps;
        long = r.long;
        looks = rw (handed _ _ c.from_residual.ensures.1) (command-stops _ _ _ _ c.kind_of-kind.ensures _ _ _ (sym c.is_global.ensures ∙ c.if-is_global.false) c.if-kind-eq-CANCEL.false c.if-kind-eq-WORD_SET.false _ _ r.does _ _ (stops-by _ c.in_err-perform.was));
      };
      only_carried = same-only _;
    }
