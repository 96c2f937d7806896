use Rattle.lowering_reasons.specs.Judgements.{judged}
use Rattle.lowering_reasons.specs.Reasons.{IsNotThere, Names}
use Rattle.lowering_reasons.proofs.Only.{told}
use Rattle.lowering_reasons.proofs.absent.names_missing.Goals as goal

pub returns-in-Some : goal.returns-in-Some
returns-in-Some c =
    told (Names (judged c.args.instruction)) (IsNotThere c.args.instruction.program.now) c.in-Some.class.now c.is_not_there.result c.in-Some.ensures c.is_not_there.ensures
