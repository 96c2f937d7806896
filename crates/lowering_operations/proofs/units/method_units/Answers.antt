use Rattle.std.proofs.Common.{◌≡◌, map, Result, Ok, Err, IfOk, ap, ◌∙◌}
use Rattle.jvm_model.specs.RowViews.{kind_view}
use Rattle.lowering_operations.specs.UnitLists.{parameter_units, gives_reference, AreUnitsOf}
use Rattle.lowering_operations.specs.declared.units.MethodUnits.{MethodUnits}
use Rattle.lowering_operations.proofs.UnitsMade.{units_are}
use Rattle.lowering_operations.proofs.units.method_units.Goals as goal

-- what follows of two clauses on what was made
both : {T E : Type 0} (r : Result T E) (P Q R : T → Type 0) → IfOk r P → IfOk r Q → ((x : T) → P x → Q x → R x) → IfOk r R
both (Ok x) P Q R p q more = more x p q
both (Err e) P Q R p q more = tt

pub returns : goal.returns
returns c =
    let text = c.args.descriptor.now in
    let o = c.in_ok-spelled.spelled in
    both c.units_spelled.result (λ (units : MethodUnits). units.parameters.items ≡ parameter_units o) (λ (units : MethodUnits). units.gives_reference ≡ gives_reference o) (AreUnitsOf text) c.units_spelled.ensures.parameters c.units_spelled.ensures.outcome
    (λ units items outcome. record {
      parameters_are = λ ps rs u. (ap (map kind_view) items ∙ (units_are text o ps rs c.in_ok-spelled.ensures.found c.in_ok-spelled.ensures.none u).0);
      results_are = λ ps rs u. (outcome ∙ (units_are text o ps rs c.in_ok-spelled.ensures.found c.in_ok-spelled.ensures.none u).1);
    })
