use Rattle.std.proofs.Common.{◌≡◌, ◌<◌, take}
use Rattle.std.specs.List.{All}
use Rattle.points_to.specs.Queues.{IsHeld, IsSound, Takes, state_of, turns_of}
use Rattle.points_to.proofs.queue.Queue.take_all.Given as goal

abbrev pub invariant-loop-step : goal.invariant-loop-step
invariant-loop-step l = record {
  takes : Takes (state_of l.initial.self) l.steps (state_of l.self);
  sound : IsSound l.self;
  held : All (IsHeld (state_of l.self)) (take l.step-index l.steps);
  room : l.self.rows.pairs < l.limit;
  turns : turns_of l.self ≡ turns_of l.initial.self;
}
