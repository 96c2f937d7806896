use Rattle.std.proofs.Common.{◌≡◌, true, false, [], ◌∷◌, List, map, sym, ◌∙◌, ap}
use Rattle.stage_facts.specs.Facts.{SiteFact}
use Rattle.stage_facts.specs.Plain.{fact_of}
use Rattle.stage_transfer.specs.Changes.{writing}
use Rattle.stage_transfer.specs.Settings.{same_site}
use Rattle.stage_transfer.specs.Stages.{finished}
use Rattle.stage_flow.proofs.Allocated.{other_allocated, own_allocated}
use Rattle.stage_flow.proofs.operations.allocated_fact.Goals as goal

pub returns-then-is_same_site : goal.returns-then-is_same_site
returns-then-is_same_site g c w l n is knows =
    let site = c.args.site.now in
    let own : same_site site w.site ≡ true = ap (same_site site) is.site ∙ sym c.is_same_site.ensures ∙ c.if-is_same_site.true in
    c.new_fact.ensures w l n (writing w l n (c.args.target ∷ [])) is knows (c.writing_one-change.ensures w l n)
    ∙ ap (λ (fs : List SiteFact). map (finished w) fs) (own_allocated w l n site c.args.target (fact_of c.args.fact.now) own)

pub returns : goal.returns
returns g c w l n is knows =
    let site = c.args.site.now in
    let other : same_site site w.site ≡ false = ap (same_site site) is.site ∙ sym c.is_same_site.ensures ∙ c.if-is_same_site.false in
    c.changed_fact.ensures w l n (writing w l n (c.args.target ∷ [])) is knows (c.writing_one-change.ensures w l n)
    ∙ ap (λ (fs : List SiteFact). map (finished w) fs) (other_allocated w l n site c.args.target (fact_of c.args.fact.now) other)
