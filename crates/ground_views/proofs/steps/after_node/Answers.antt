use Rattle.std.proofs.Common.{[]}
use Rattle.std.proofs.lemmas.Result.{on_ok_weaker}
use Rattle.stage_facts.specs.Plain.{fact_of}
use Rattle.ground_views.proofs.ViewedSteps.{follow_by_view}
use Rattle.ground_views.proofs.steps.after_node.Goals as goal

pub returns : goal.returns
returns c =
    let v = c.view-view.result in
    let is = c.view-view.ensures in
    let new = c.from_node.new.following in
    on_ok_weaker c.from_node.result
    (λ by.
    follow_by_view c.args.question.now c.args.seen.now c.requires.0 c.requires.1 v.setting.now v.slots.now v.method v.node.now v.ways.now is.setting is.slots is.method is.node
    is.ways (fact_of c.args.fact.now) [] new.within.items new.entered.items by) c.from_node.ensures
