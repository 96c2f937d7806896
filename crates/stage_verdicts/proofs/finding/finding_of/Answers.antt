use Rattle.std.proofs.Common.{Option, subst}
use Rattle.std.specs.Prelude.{IfNone, IfSome}
use Rattle.tabulation.specs.Found.{Found}
use Rattle.stage_verdicts.specs.LaterVerdicts.{HasAsMany, HasFound}
use Rattle.stage_verdicts.proofs.Judged.{finding_of_place, limit_is_found}
use Rattle.stage_verdicts.proofs.finding.finding_of.Goals as goal

pub returns-in-Some : goal.returns-in-Some
returns-in-Some c = λ x s subject at.
    let q = c.question_of-question.result in
    let has = subst (λ (o : Option Found). IfSome o (HasFound q)) c.in-Some.is c.in_ok-edges.ensures.edges in
    finding_of_place c.args.asked x s c.args.stage c.requires.asked subject c.requires.stage c.requires.four c.args.site q c.question_of-question.ensures at c.in-Some.edges has
    c.error_place.result c.error_place.ensures c.found_by.result c.found_by.ensures

pub returns-in-None : goal.returns-in-None
returns-in-None c = λ x s subject at.
    let q = c.question_of-question.result in
    let many = subst (λ (o : Option Found). IfNone o (HasAsMany q)) c.in-None.is c.in_ok-edges.ensures.limit in
    limit_is_found c.args.asked x s c.args.stage c.requires.asked subject c.requires.stage c.requires.four c.args.site q c.question_of-question.ensures at many
