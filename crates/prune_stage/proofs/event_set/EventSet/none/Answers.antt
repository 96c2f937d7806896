use Rattle.std.proofs.Common.{false, refl, replicate}
use Rattle.prune_stage.proofs.Reach.{none_true}
use Rattle.prune_stage.proofs.event_set.EventSet.none.Goals as goal

pub returns : goal.returns
returns c = λ event at. none_true (replicate 32 false) event refl at
