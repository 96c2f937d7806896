use Rattle.std.proofs.Common.{List, sym, ◌∙◌, subst}
use Rattle.std.proofs.lemmas.Bool.{false≢true}
use Rattle.std.proofs.lemmas.Result.{on_ok_weaker}
use Rattle.jvm_model.specs.declared.stub.StubResult.{StubResult}
use Rattle.ground.specs.Added.{AreAdded, OfOne}
use Rattle.report_sites.specs.Found.{GivesNew, StubGives}
use Rattle.ground.proofs.Adding.{added_as, added_none}
use Rattle.report_sites.proofs.targets.add_stub.Goals as goal

pub returns-then-stub : goal.returns-then-stub
returns-then-stub c =
    added_none (StubGives c.args.wanted.now.program.now c.args.wanted.now.upper c.args.method c.args.offset c.args.stub.now) c.args.sites.now.items
    (λ t gives. false≢true (sym gives.0 ∙ c.if-stub.true))

pub returns : goal.returns
returns c =
    let stub = c.args.stub.now in
    let of = GivesNew c.args.wanted.now.program.now c.args.wanted.now.upper c.args.method c.args.offset in
    let a = c.args.sites.now.items in
    let b = c.add_outcomes.new.sites.items in
    on_ok_weaker c.add_outcomes.result
    (λ added. added_as (OfOne of stub.returns) (StubGives c.args.wanted.now.program.now c.args.wanted.now.upper c.args.method c.args.offset stub) a b
    (λ t gives. (c.if-stub.false, gives))
    (λ t gives. gives.1)
    (subst (λ (outcomes : List StubResult). AreAdded (OfOne of outcomes) a b) c.as_slice.ensures added))
    c.add_outcomes.ensures
