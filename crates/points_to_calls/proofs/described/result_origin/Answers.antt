use Rattle.std.proofs.Common.{◌≡◌, sym, subst, ap, ◌∙◌}
use Rattle.std.proofs.lemmas.Result.{IfOk-weaker}
use Rattle.jvm_model.specs.declared.stub.StubResult.{StubResult}
use Rattle.jvm_model.specs.declared.stub.StubResult.TheVariants.{New}
use Rattle.points_to_calls.specs.Describing.{MakesOrigin}
use Rattle.points_to_calls.specs.Parts.{ResultGives}
use Rattle.points_to_calls.proofs.described.result_origin.Goals as goal

pub returns-in-New : goal.returns-in-New
returns-in-New c =
    IfOk-weaker c.new_origin.result _ _
    (λ origin made site r at is.
    let e : New c.as_slice.result.now ≡ c.args.outcome.now = ap New c.as_slice.ensures ∙ sym c.in-New.is in
    subst (λ (o : StubResult). MakesOrigin c.args.tables.now c.new_origin.new.tables (ResultGives o c.args.description.now.stub.now site r) origin) e (made site r at is))
    c.new_origin.ensures

pub returns-in-Kept : goal.returns-in-Kept
returns-in-Kept c =
    IfOk-weaker c.kept_origin.result _ _
    (λ origin made site r at is.
    subst (λ (o : StubResult). MakesOrigin c.args.tables.now c.kept_origin.new.tables (ResultGives o c.args.description.now.stub.now site r) origin) (sym c.in-Kept.is) (made site r is))
    c.kept_origin.ensures
