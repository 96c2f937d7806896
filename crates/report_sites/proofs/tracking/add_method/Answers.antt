use Rattle.std.proofs.Common.{List, sym, ◌∙◌, subst}
use Rattle.std.proofs.lemmas.Bool.{false≢true}
use Rattle.std.proofs.lemmas.Result.{on_ok_weaker}
use Rattle.op_model.specs.declared.node.Node.{Node}
use Rattle.ground.specs.Added.{AreAdded, OfOne}
use Rattle.report_sites.specs.Found.{IsSiteOf, IsSiteOfMethod}
use Rattle.ground.proofs.Adding.{added_as, added_none}
use Rattle.report_sites.proofs.tracking.add_method.Goals as goal

pub returns-then-not-may_run : goal.returns-then-not-may_run
returns-then-not-may_run c =
    added_none (IsSiteOfMethod c.args.wanted.now.program.now c.args.ground.now c.args.wanted.now.upper c.args.method.now) c.args.sites.now.items
    (λ t of. false≢true (sym c.if-not-may_run.true ∙ c.may_run.ensures.1 of.0))

pub returns : goal.returns
returns c =
    let l = c.args.method.now in
    let of = IsSiteOf c.args.wanted.now.program.now c.args.ground.now c.args.wanted.now.upper l.method in
    let a = c.args.sites.now.items in
    let b = c.add_nodes.new.sites.items in
    let runs = c.may_run.ensures.0 c.if-not-may_run.false in
    on_ok_weaker c.add_nodes.result
    (λ added. added_as (OfOne of l.nodes) (IsSiteOfMethod c.args.wanted.now.program.now c.args.ground.now c.args.wanted.now.upper l) a b
    (λ t site. (runs, site))
    (λ t site. site.1)
    (subst (λ (nodes : List Node). AreAdded (OfOne of nodes) a b) c.as_slice.ensures added))
    c.add_nodes.ensures
