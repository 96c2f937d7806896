use Rattle.std.specs.Prelude.{Contains}
use Rattle.jvm_model.specs.Lookups.{MemberReference, lent_reference}
use Rattle.lowering_reasons.specs.Judgements.{judged}
use Rattle.lowering_reasons.specs.Reasons.{Calls, waiting_methods}
use Rattle.lowering_reasons.proofs.Only.{told}
use Rattle.lowering_reasons.proofs.followed.calls_waiting.Goals as goal

pub returns-in-Some : goal.returns-in-Some
returns-in-Some c =
    told (Calls (judged c.args.instruction)) (λ (m : MemberReference). Contains waiting_methods m.signature) (lent_reference c.in-Some.method)
    c.is_waiting.result c.in-Some.ensures c.is_waiting.ensures
