use Rattle.lowering_reasons.specs.Judgements.{judged}
use Rattle.lowering_reasons.specs.Reasons.{HasFinalizer, Names}
use Rattle.lowering_reasons.proofs.Only.{told}
use Rattle.lowering_reasons.proofs.finalizers.names_finalized.Goals as goal

pub returns-in-Some : goal.returns-in-Some
returns-in-Some c =
    told (Names (judged c.args.instruction)) (HasFinalizer c.args.instruction.program.now) c.in-Some.class.now c.is_finalized.result c.in-Some.ensures c.is_finalized.ensures
