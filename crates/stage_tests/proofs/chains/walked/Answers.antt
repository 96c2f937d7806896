use Rattle.chained_lists.proofs.Walks.{on_place}
use Rattle.stage_tests.proofs.chains.walked.Goals as goal

pub loop-preserved : goal.loop-preserved
loop-preserved c = record { on = on_place c.loop.chains c.add_next.new.chains c.in_ok-add_next.ensures c.args.number c.in-Some.place c.in-Some.ensures.there }
