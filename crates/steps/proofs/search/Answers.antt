-- `steps::search` meets its contract. Assumes nothing.
use mathlib.Core.Path.{refl, ap}
use Rattle.seeks.specs.Edited.{looked_by, sought_by}
use native.Mathlib.Omega.{arith}
use Rattle.steps.proofs.Globals.{below-stands}
use Rattle.steps.proofs.Views.{asks-look, search-inside, search-words}
use Rattle.steps.proofs.Searches.{after-search, is_stopped, is_found, is-unfound}
use Rattle.steps.proofs.search.Goals as goal

pub overflow_add-k : goal.overflow_add-k
overflow_add-k c = omega (arith, (search-inside _ _ _ (let p = c.requires in let z = asks-look _ _ p.0.0.0 c.args.x p.0.0.2 p.0.0.5.asks _ p.1 in (z.0, z.1))).0, (search-inside _ _ _ (let p = c.requires in let z = asks-look _ _ p.0.0.0 c.args.x p.0.0.2 p.0.0.5.asks _ p.1 in (z.0, z.1))).1)

pub search_end-m-requires : goal.search_end-m-requires
search_end-m-requires c = omega (arith, (search-inside _ _ _ (let p = c.requires in let z = asks-look _ _ p.0.0.0 c.args.x p.0.0.2 p.0.0.5.asks _ p.1 in (z.0, z.1))).0, (search-inside _ _ _ (let p = c.requires in let z = asks-look _ _ p.0.0.0 c.args.x p.0.0.2 p.0.0.5.asks _ p.1 in (z.0, z.1))).1)

pub seek-r-requires : goal.seek-r-requires
seek-r-requires c = let p = c.requires in
    (below-stands _ _ _ p.0.0.6, (search-words _ _ _ (let p = c.requires in let z = asks-look _ _ p.0.0.0 c.args.x p.0.0.2 p.0.0.5.asks _ p.1 in (z.0, z.1)) _ c.search_end-m.ensures, p.0.1), p.3)

pub returns-in_default : goal.returns-in_default
returns-in_default c =
    let p = c.requires in
    let f = c.seek-r.ensures in
    let found = sought_by c.seek-r.result c.seek-r.new.ed.st in
    record {
      keeps = f.keeps;
      long = f.long;
      seeks = after-search _ _ _ _ _ _ _ _ _ refl found _ p.1 _ c.search_end-m.ensures f.seeks
          _ (is_stopped found _ (ap (λ r. looked_by r c.seek-r.new.ed.st) c.in_default.is));
    }

pub returns-then-held : goal.returns-then-held
returns-then-held c =
    let p = c.requires in
    let f = c.seek-r.ensures in
    let found = sought_by c.seek-r.result c.seek-r.new.ed.st in
    record {
      keeps = f.keeps;
      long = f.long;
      seeks = after-search _ _ _ _ _ _ _ _ _ refl found _ p.1 _ c.search_end-m.ensures f.seeks
          _ (is_found found _ (ap (λ r. looked_by r c.seek-r.new.ed.st) c.in-Ok.is) c.if-held.true);
    }

pub returns : goal.returns
returns c =
    let p = c.requires in
    let f = c.seek-r.ensures in
    let found = sought_by c.seek-r.result c.seek-r.new.ed.st in
    record {
      keeps = f.keeps;
      long = f.long;
      seeks = after-search _ _ _ _ _ _ _ _ _ refl found _ p.1 _ c.search_end-m.ensures f.seeks
          _ (is-unfound found _ (ap (λ r. looked_by r c.seek-r.new.ed.st) c.in-Ok.is) c.if-held.false);
    }
