use Rattle.std.proofs.Common.{codes}
use Rattle.lowering_reasons.specs.Judgements.{judged}
use Rattle.lowering_reasons.specs.Reasons.{Names, IsUnder}
use Rattle.lowering_reasons.proofs.Only.{told}
use Rattle.lowering_reasons.proofs.followed.names_reflection.Goals as goal

pub returns-in-Some : goal.returns-in-Some
returns-in-Some c = told (Names (judged c.args.instruction)) (IsUnder (codes "java/lang/reflect/")) c.in-Some.class.now c.is_under.result c.in-Some.ensures c.is_under.ensures
