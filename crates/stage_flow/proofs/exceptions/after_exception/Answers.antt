use Rattle.std.proofs.Common.{List, map, ◌∙◌, ap}
use Rattle.stage_facts.specs.Facts.{SiteFact}
use Rattle.stage_facts.specs.Plain.{fact_of}
use Rattle.stage_transfer.specs.Stages.{finished}
use Rattle.stage_flow.specs.Shapes.{leaving_by}
use Rattle.stage_flow.proofs.Thrown.{raised_keeping}
use Rattle.stage_flow.proofs.exceptions.after_exception.Goals as goal

pub returns : goal.returns
returns g c w l is knows =
    let n = c.args.node.now in
    c.kept_fact.ensures w l n (leaving_by w l n n.op c.args.handler) is knows (c.leaving_by.ensures w l n knows)
    ∙ ap (λ (fs : List SiteFact). map (finished w) fs) (raised_keeping w l n c.args.kept.now c.args.handler (fact_of c.args.fact.now))
