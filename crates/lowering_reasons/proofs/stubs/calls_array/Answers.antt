use Rattle.std.specs.Prelude.{IsTrue}
use Rattle.jvm_model.specs.Lookups.{MemberReference, lent_reference}
use Rattle.jvm_model.specs.Soundness.{is_array}
use Rattle.lowering_reasons.specs.Judgements.{judged}
use Rattle.lowering_reasons.specs.Reasons.{Calls}
use Rattle.lowering_reasons.proofs.Only.{same_test, told}
use Rattle.lowering_reasons.proofs.stubs.calls_array.Goals as goal

pub returns-in-Some : goal.returns-in-Some
returns-in-Some c =
    told (Calls (judged c.args.instruction)) (λ (m : MemberReference). IsTrue (is_array m.class)) (lent_reference c.in-Some.method) c.is_array.result c.in-Some.ensures
    (same_test _ _ c.is_array.ensures)
