use Rattle.std.proofs.Common.{Option, subst}
use Rattle.std.proofs.lemmas.Result.{IfOk-weaker}
use Rattle.points_to_constraints.specs.Items.{Item as RuleItem}
use Rattle.points_to_calls.specs.declared.origin.Origin.{Origin}
use Rattle.points_to_calls.specs.Describing.{IsOriginFor}
use Rattle.points_to_calls.specs.Parts.{RuleOrigin, ResultGives, ResultGot, ResultsGet}
use Rattle.points_to_numbers.proofs.Making.{makes_grown}
use Rattle.points_to_calls.proofs.Stubs.{only_origin, no_origin, none_origin}
use Rattle.points_to_calls.proofs.described.give_result.Goals as goal

pub returns-in_default : goal.returns-in_default
returns-in_default c = λ site r at is.
    let p = c.args.program.now in let n = c.args.work.now.tables in let m = c.result_origin.new.tables in let stub = c.args.description.now.stub.now in
    let found = c.in_ok-origin.ensures site r at is in
    let gets = λ (k : RuleOrigin) (x : RuleItem). ResultsGet p site k x in
    makes_grown n m m (ResultGot p site stub r c.args.outcome.now) c.args.work.now.steps.items c.args.work.now.steps.items found.grows found.calls
    (no_origin p m m m site (ResultGives c.args.outcome.now stub site r) c.args.work.now.steps.items c.args.work.now.steps.items gets
    (none_origin m (ResultGives c.args.outcome.now stub site r) c.in_ok-origin.field-0 c.in_default.not-Some found.is))

pub give_results-requires-clause-call : goal.give_results-requires-clause-call
give_results-requires-clause-call c =
    let (site, at) = c.requires.call in let (r, is) = c.requires.receiver in
    (site, (c.in_ok-origin.ensures site r at is).grows.calls c.args.call.0 site at)

pub give_results-requires-clause-origin : goal.give_results-requires-clause-origin
give_results-requires-clause-origin c =
    let (site, at) = c.requires.call in let (r, is) = c.requires.receiver in
    let Q = ResultGives c.args.outcome.now c.args.description.now.stub.now site r in
    let (g, is_g, gives, only) = subst (λ (origin : Option Origin). IsOriginFor c.result_origin.new.tables Q origin) c.in-Some.is (c.in_ok-origin.ensures site r at is).is in
    (g, is_g)

pub returns : goal.returns
returns c =
    IfOk-weaker c.give_results.result _ _
    (λ done made site r at is.
    let p = c.args.program.now in let n = c.args.work.now.tables in let m = c.result_origin.new.tables in let o = c.give_results.new.work.tables in let stub = c.args.description.now.stub.now in
    let found = c.in_ok-origin.ensures site r at is in
    let Q = ResultGives c.args.outcome.now stub site r in
    let (g, is_g, gives, only) = subst (λ (origin : Option Origin). IsOriginFor m Q origin) c.in-Some.is found.is in
    let gets = λ (k : RuleOrigin) (x : RuleItem). ResultsGet p site k x in
    makes_grown n m o (ResultGot p site stub r c.args.outcome.now) c.args.work.now.steps.items c.give_results.new.work.steps.items found.grows found.calls
    (only_origin p n m o site Q c.args.work.now.steps.items c.give_results.new.work.steps.items gets g gives only (made site g (found.grows.calls c.args.call.0 site at) is_g)))
    c.give_results.ensures
