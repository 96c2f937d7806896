use Rattle.std.proofs.Common.{◌≡◌, codes}
use Rattle.jvm_model.specs.Lookups.{MemberReference, lent_reference}
use Rattle.lowering_reasons.specs.Judgements.{judged}
use Rattle.lowering_reasons.specs.Reasons.{Calls}
use Rattle.lowering_reasons.proofs.Only.{told}
use Rattle.lowering_reasons.proofs.followed.calls_handle.Goals as goal

pub returns-in-Some : goal.returns-in-Some
returns-in-Some c =
    told (Calls (judged c.args.instruction)) (λ (m : MemberReference). m.class ≡ codes "java/lang/invoke/MethodHandle") (lent_reference c.in-Some.method)
    c.is_text.result c.in-Some.ensures c.is_text.ensures
