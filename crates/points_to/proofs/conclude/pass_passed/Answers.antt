use Rattle.std.proofs.Common.{List, [], None, get_or, subst}
use Rattle.std.specs.List.{Contains}
use Rattle.std.proofs.lemmas.List.Elements.{Contains-get_or}
use Rattle.jvm_model.specs.declared.number.SiteNo.{SiteNo}
use Rattle.points_to.proofs.TurnParts.{passed_adds, passed_notes}
use Rattle.points_to.proofs.conclude.pass_passed.Goals as goal

pub pass_each-requires-clause-sites : goal.pass_each-requires-clause-sites
pass_each-requires-clause-sites c k d l =
    let site = get_or c.deref.result.now k d in
    let there = subst (λ (xs : List SiteNo). Contains xs site) c.deref.ensures.value (Contains-get_or c.deref.result.now k d l) in
    c.requires.sites site.0 ((c.in_ok-sites.ensures.each site).0 there).held

pub returns-clause-adds : goal.returns-clause-adds
returns-clause-adds c =
    passed_adds c.pass_each.result c.args.program.now c.args.found.now.work.tables c.pass_each.new.self.work.tables c.args.found.now.work.steps.items c.pass_each.new.self.work.steps.items None None c.args.constraint
    c.args.rows.now.items c.args.place c.in_ok-sites.sites.items c.deref.result.now c.deref.ensures.value c.in_ok-sites.ensures c.pass_each.ensures.adds

pub returns-clause-lacks : goal.returns-clause-lacks
returns-clause-lacks c =
    passed_notes c.pass_each.result c.args.program.now c.args.found.now.work.tables c.pass_each.new.self.work.tables [] [] c.args.found.now.refusals.call c.pass_each.new.self.refusals.call c.args.constraint
    c.args.rows.now.items c.args.place c.in_ok-sites.sites.items c.deref.result.now c.deref.ensures.value c.in_ok-sites.ensures c.pass_each.ensures.lacks
