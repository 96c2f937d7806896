use Rattle.std.proofs.Common.{[], ◌∷◌, List, map, ◌∙◌, ap}
use Rattle.stage_facts.specs.Facts.{SiteFact}
use Rattle.stage_facts.specs.Plain.{fact_of}
use Rattle.stage_transfer.specs.Changes.{writing}
use Rattle.stage_transfer.specs.Stages.{finished}
use Rattle.stage_flow.proofs.Allocated.{put_is}
use Rattle.stage_flow.proofs.operations.put_fact.Goals as goal

pub returns : goal.returns
returns g c w l n is knows =
    c.kept_fact.ensures w l n (writing w l n (c.args.array ∷ c.args.value ∷ [])) is knows (c.writing_two.ensures w l n)
    ∙ ap (λ (fs : List SiteFact). map (finished w) fs) (put_is w l n c.args.array c.args.value (fact_of c.args.fact.now))
