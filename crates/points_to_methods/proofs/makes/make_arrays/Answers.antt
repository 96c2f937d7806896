use Rattle.std.proofs.Common.{◌≡◌, ◌<◌, length, sym, refl, ◌∙◌, arith}
use Rattle.std.proofs.lemmas.Option.{slice_get_read}
use Rattle.points_to_constraints.specs.NodeItems.{NewArrayItem}
use Rattle.points_to_methods.proofs.MadeArrays.{arrays, no_arrays}
use Rattle.points_to_numbers.proofs.Making.{makes_none, makes_both, makes_same}
use Rattle.std.proofs.lemmas.Bool.{eqb-false, eqb-true}
use Rattle.points_to_methods.proofs.makes.make_arrays.Goals as goal

pub returns-then-is_empty : goal.returns-then-is_empty
returns-then-is_empty c = λ n at.
    let l = c.args.at.now.method.now in
    let none : length c.args.sites.now ≡ 0 = eqb-true _ _ (sym c.is_empty.ensures ∙ c.if-is_empty.true) in
    makes_none c.args.work.now.tables (NewArrayItem l n c.args.sites.now c.args.target) c.args.work.now.steps.items
    (no_arrays l n c.args.sites.now c.args.target none)

pub returns : goal.returns
returns c = λ n at.
    let l = c.args.at.now.method.now in
    let sites = c.args.sites.now in
    let s = c.index-sites-0.result in
    let apart = eqb-false _ _ (sym c.is_empty.ensures ∙ c.if-is_empty.false) in
    let some : 0 < length sites = omega (arith, apart) in
    makes_same c.args.work.now.tables c.nest_sites.new.work.tables _ (NewArrayItem l n sites c.args.target) c.args.work.now.steps.items c.nest_sites.new.work.steps.items
    (arrays l n sites c.args.target s (slice_get_read sites (length sites) 0 s refl some c.index-sites-0.is))
    (makes_both c.args.work.now.tables c.make_site.new.work.tables c.nest_sites.new.work.tables _ _ c.args.work.now.steps.items c.make_site.new.work.steps.items c.nest_sites.new.work.steps.items
    (c.in_ok-make_site.ensures n at) c.in_ok-nest_sites.ensures)
