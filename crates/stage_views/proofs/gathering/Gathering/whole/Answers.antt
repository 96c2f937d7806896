use Rattle.stage_views.proofs.Gathered.{gathers_whole}
use Rattle.stage_views.proofs.gathering.Gathering.whole.Goals as goal

pub returns-clause-gathered : goal.returns-clause-gathered
returns-clause-gathered c = gathers_whole _ c.args.set.now c.well_formed-2.ensures.ordered c.well_formed-2.ensures.few c.copied-all.ensures c.new-all.ensures.dropped
