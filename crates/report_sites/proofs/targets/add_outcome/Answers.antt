use Rattle.std.proofs.Common.{ap, ◌∙◌, sym}
use Rattle.std.proofs.lemmas.Result.{on_ok_weaker}
use Rattle.jvm_model.specs.declared.stub.StubResult.TheVariants as results
use Rattle.report_sites.proofs.FoundSites.{new_outcome, other_outcome}
use Rattle.report_sites.proofs.targets.add_outcome.Goals as goal

pub returns-in_default : goal.returns-in_default
returns-in_default c = other_outcome c.args.wanted.now.program.now c.args.wanted.now.upper c.args.method c.args.offset c.args.outcome.now c.in_default.not-New c.args.sites.now.items

pub returns : goal.returns
returns c =
    on_ok_weaker c.add_class.result
    (λ added. new_outcome c.args.wanted.now.program.now c.args.wanted.now.upper c.args.method c.args.offset c.args.outcome.now c.as_slice.result.now
    (c.in-New.is ∙ ap results.New (sym c.as_slice.ensures))
    c.args.sites.now.items c.add_class.new.sites.items added)
    c.add_class.ensures
