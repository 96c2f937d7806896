use Rattle.std.proofs.Common.{[], ◌∷◌, Some}
use Rattle.std.proofs.lemmas.Result.{on_ok_weaker}
use Rattle.stage_facts.specs.Plain.{fact_of}
use Rattle.stage_edges.specs.Rules.{edge}
use Rattle.ground_views.proofs.ViewedSteps.{follow_by_view}
use Rattle.ground_views.proofs.steps.after_exit.Goals as goal

pub returns : goal.returns
returns c =
    let v = c.view-view.result in
    let is = c.view-view.ensures in
    on_ok_weaker c.from_exit.result
    (λ by.
    follow_by_view c.args.question.now c.args.seen.now c.requires.0 c.requires.1 v.setting.now v.slots.now v.method v.node.now v.ways.now is.setting is.slots is.method is.node
    is.ways (fact_of c.args.fact.now) (edge (Some c.args.exit.method) (fact_of c.args.exit.entry.now) c.args.exit.spot (fact_of c.args.exit.fact.now) ∷ [])
    c.from_exit.new.conclusions.items [] by) c.from_exit.ensures
