use Rattle.std.proofs.Common.{◌+◌, ◌<◌, ◌-◌, ◌^◌}
use Rattle.op_model.specs.Supplies.{IsSameSupply}
use Rattle.grouped_lists.specs.Groups.{values_at}
use Rattle.points_to_calls.specs.KeptAnswers.{AreRight}
use Rattle.points_to.specs.Queues.{IsSound, state_of, turns_of}
use Rattle.points_to.proofs.SoFar.{IsSoFar}
use Rattle.points_to.proofs.closing.close_over.Given as goal

abbrev pub invariant-loop-turn : goal.invariant-loop-turn
invariant-loop-turn g l = record {
  sound : IsSound l.working.queue;
  room : l.working.queue.rows.pairs < l.pair_limit;
  so_far : IsSoFar l.program (g.S.Supply.gives l.fn.supply) l.fn.entry l.working.found.work.tables (state_of l.working.queue) (values_at l.working.constraints.groups.items) l.working.found.refusals.call l.working.found.refusals.method l.working.methods.items;
  same : IsSameSupply (g.S.Supply.gives l.fn.supply) (g.S.Supply.gives l.supply);
  answers : AreRight l.program l.working.found.work.tables l.working.found.answers;
}

abbrev pub decreases-loop-turn : goal.decreases-loop-turn
decreases-loop-turn g l = l.pair_limit + 2 ^ 63 - turns_of l.working.queue
