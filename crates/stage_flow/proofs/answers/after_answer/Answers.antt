use Rattle.std.proofs.Common.{List, map, ◌∙◌, ap, subst}
use Rattle.stage_facts.specs.Facts.{SiteFact}
use Rattle.stage_facts.specs.Plain.{fact_of}
use Rattle.stage_transfer.specs.Calls.{giving, written_by}
use Rattle.stage_transfer.specs.Changes.{writing}
use Rattle.stage_transfer.specs.Stages.{finished}
use Rattle.stage_views.specs.declared.calls.Answer.{Answer}
use Rattle.stage_views.specs.Views.{IsAnswerOf}
use Rattle.stage_flow.proofs.Answered.{gives_argument, gives_new, gives_other}
use Rattle.stage_flow.proofs.answers.after_answer.Goals as goal

pub returns-in-Argument : goal.returns-in-Argument
returns-in-Argument g c w l n r is knows told =
    let call = c.args.call.now in
    let z = c.in-Argument.slot in
    c.kept_fact.ensures w l n (giving w l n call z) is knows (c.giving.ensures w l n)
    ∙ ap (λ (fs : List SiteFact). map (finished w) fs)
    (gives_argument w l n call c.args.kept.now r (fact_of c.args.fact.now) z (subst (λ (a : Answer). IsAnswerOf w.site a r) c.in-Argument.is told))

pub returns-in-Own : goal.returns-in-Own
returns-in-Own g c w l n r is knows told =
    let call = c.args.call.now in
    let made = subst (λ (a : Answer). IsAnswerOf w.site a r) c.in-Own.is told in
    c.new_fact.ensures w l n (writing w l n (written_by call)) is knows (c.writing_call.ensures w l n)
    ∙ ap (λ (fs : List SiteFact). map (finished w) fs)
    (gives_new w l n call c.args.kept.now r (fact_of c.args.fact.now) made.0 made.1 made.2)

pub returns-in-Other : goal.returns-in-Other
returns-in-Other g c w l n r is knows told =
    let call = c.args.call.now in
    c.kept_fact-in-Other.ensures w l n (writing w l n (written_by call)) is knows (c.writing_call-in-Other.ensures w l n)
    ∙ ap (λ (fs : List SiteFact). map (finished w) fs)
    (gives_other w l n call c.args.kept.now r (fact_of c.args.fact.now) (subst (λ (a : Answer). IsAnswerOf w.site a r) c.in-Other.is told))
