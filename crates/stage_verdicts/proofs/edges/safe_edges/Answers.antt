use Rattle.std.proofs.Common.{Option, subst}
use Rattle.std.specs.Prelude.{IfNone, IfSome}
use Rattle.list_laws.proofs.Places.{stands_below}
use Rattle.tabulation.specs.Found.{Found}
use Rattle.stage_verdicts.specs.LaterVerdicts.{HasAsMany, HasFound}
use Rattle.stage_verdicts.proofs.Judged.{are_here, limit_is_found, own, own_is}
use Rattle.stage_verdicts.proofs.edges.safe_edges.Goals as goal

pub returns : goal.returns
returns c = λ x s subject at w is of.
    let a = c.args.asked in
    let q = c.question_of-question.result in
    let has = subst (λ (o : Option Found). IfSome o (HasFound q)) c.in-Some.is c.in_ok-edges.ensures.edges in
    are_here a x s c.args.stage c.requires.asked subject c.requires.stage c.requires.four c.args.site q c.question_of-question.ensures at c.in-Some.edges has w (record { is = is; of = of })

pub unreachable-requires : goal.unreachable-requires
unreachable-requires c =
    let a = c.args.asked in
    let q = c.question_of-question.result in
    let (s, at) = stands_below a.ground.now.sites c.args.site.0 c.requires.site in
    let many = subst (λ (o : Option Found). IfNone o (HasAsMany q)) c.in-None.is c.in_ok-edges.ensures.limit in
    (limit_is_found a (own a) s c.args.stage c.requires.asked (own_is a) c.requires.stage c.requires.four c.args.site q c.question_of-question.ensures at many).0
    (c.requires.safe (own a) s (own_is a) at)
