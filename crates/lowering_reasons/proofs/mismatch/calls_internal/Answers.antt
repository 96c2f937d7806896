use Rattle.jvm_model.specs.Lookups.{MemberReference, lent_reference}
use Rattle.jvm_model.specs.RowViews.{action_view}
use Rattle.lowering_reasons.specs.Judgements.{judged}
use Rattle.lowering_reasons.specs.Looked.{IsInternal}
use Rattle.lowering_reasons.specs.Reasons.{Calls}
use Rattle.lowering_reasons.proofs.Only.{told}
use Rattle.lowering_reasons.proofs.mismatch.calls_internal.Goals as goal

pub returns-in-Some : goal.returns-in-Some
returns-in-Some c =
    told (Calls (judged c.args.instruction)) (λ (m : MemberReference). IsInternal (action_view c.args.instruction.action) m.signature.name) (lent_reference c.in-Some.method)
    c.is_internal.result c.in-Some.ensures c.is_internal.ensures
