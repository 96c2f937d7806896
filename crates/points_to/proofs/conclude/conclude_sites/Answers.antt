use Rattle.std.proofs.Common.{List, [], None, get_or, subst}
use Rattle.std.specs.List.{Contains}
use Rattle.std.proofs.lemmas.List.Elements.{Contains-get_or}
use Rattle.jvm_model.specs.declared.number.SiteNo.{SiteNo}
use Rattle.grouped_lists.specs.Groups.{values_at}
use Rattle.points_to_numbers.specs.declared.keys.ConstraintNo.{ConstraintNo}
use Rattle.points_to.proofs.TurnParts.{fresh_adds, fresh_notes}
use Rattle.points_to.proofs.conclude.conclude_sites.Goals as goal

pub pass_all-requires-clause-constraints : goal.pass_all-requires-clause-constraints
pass_all-requires-clause-constraints c k d l =
    c.requires.constraints c.args.fresh.now.place (get_or c.get.result.now k d)
    (subst (λ (xs : List ConstraintNo). Contains xs (get_or c.get.result.now k d)) c.get.ensures (Contains-get_or c.get.result.now k d l))

pub pass_all-requires-clause-sites : goal.pass_all-requires-clause-sites
pass_all-requires-clause-sites c k d l =
    let site = get_or c.deref.result.now k d in
    let there = subst (λ (xs : List SiteNo). Contains xs site) c.deref.ensures.value (Contains-get_or c.deref.result.now k d l) in
    c.requires.sites site.0 ((c.in_ok-sites.ensures.each site).0 there).held

pub returns-clause-adds : goal.returns-clause-adds
returns-clause-adds c =
    fresh_adds c.pass_all.result c.args.program.now c.args.found.now.work.tables c.pass_all.new.self.work.tables c.args.found.now.work.steps.items c.pass_all.new.self.work.steps.items None None c.get.result.now
    (values_at c.args.constraints.now.groups.items c.args.fresh.now.place) c.get.ensures c.args.fresh.now.sites c.in_ok-sites.sites.items c.deref.result.now c.deref.ensures.value c.in_ok-sites.ensures c.pass_all.ensures.adds

pub returns-clause-lacks : goal.returns-clause-lacks
returns-clause-lacks c =
    fresh_notes c.pass_all.result c.args.program.now c.args.found.now.work.tables c.pass_all.new.self.work.tables [] [] c.args.found.now.refusals.call c.pass_all.new.self.refusals.call c.get.result.now
    (values_at c.args.constraints.now.groups.items c.args.fresh.now.place) c.get.ensures c.args.fresh.now.sites c.in_ok-sites.sites.items c.deref.result.now c.deref.ensures.value c.in_ok-sites.ensures c.pass_all.ensures.lacks
