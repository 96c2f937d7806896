use Rattle.std.proofs.Common.{List, subst, ℕ}
use Rattle.std.proofs.lemmas.Result.{on_ok_weaker}
use Rattle.jvm_model.specs.declared.site.Site.{Site}
use Rattle.ground.specs.Added.{AreAdded}
use Rattle.report_sites.specs.Found.{IsTrackedAs}
use Rattle.report_sites.proofs.FoundSites.{given_node, made_node, other_node}
use Rattle.report_sites.proofs.nodes.add_node.Goals as goal

pub returns-in-New : goal.returns-in-New
returns-in-New c =
    let p = c.args.wanted.now.program.now in
    let a = c.args.sites.now.items in
    let b = c.add_class.new.sites.items in
    let s = c.in-New.site in
    let made : List ℕ → Site = λ class. record { kind = s.kind; method = s.method; offset = s.offset; class = class } in
    on_ok_weaker c.add_class.result
    (λ added. made_node p c.args.ground.now c.args.wanted.now.upper c.args.method c.args.node.now s c.in-New.target c.in-New.is a b
    (subst (λ (class : List ℕ). AreAdded (IsTrackedAs p c.args.wanted.now.upper (made class)) a b) c.as_slice.ensures added))
    c.add_class.ensures

pub returns-in-Call : goal.returns-in-Call
returns-in-Call c =
    on_ok_weaker c.add_given.result
    (λ added. given_node c.args.wanted.now.program.now c.args.ground.now c.args.wanted.now.upper c.args.method c.args.node.now c.in-Call.field-0 c.in-Call.is
    c.args.sites.now.items c.add_given.new.sites.items added)
    c.add_given.ensures

pub returns-in_default : goal.returns-in_default
returns-in_default c =
    other_node c.args.wanted.now.program.now c.args.ground.now c.args.wanted.now.upper c.args.method c.args.node.now c.in_default.not-New c.in_default.not-Call c.args.sites.now.items
