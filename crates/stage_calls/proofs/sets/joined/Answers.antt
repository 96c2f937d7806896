use Rattle.stage_views.proofs.Gathered.{cut_of_gathered}
use Rattle.stage_calls.proofs.sets.joined.Goals as goal

pub returns : goal.returns
returns g c w l n wanted knows = cut_of_gathered _ _ (c.join.ensures w l n c.args.set.now knows c.whole-gathering.ensures.gathered)
