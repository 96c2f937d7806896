use Rattle.std.proofs.Common.{[], refl}
use Rattle.stage_transfer.specs.Calls.{begins_static}
use Rattle.stage_views.proofs.Gathered.{cut_of_gathered}
use Rattle.stage_calls.proofs.enter.entered_set.Goals as goal

pub returns : goal.returns
returns c wanted slots =
    let statics = c.gather.ensures begins_static [] (λ x. refl) c.new-gathering.ensures in
    cut_of_gathered _ _ (c.pass.ensures _ slots statics)
