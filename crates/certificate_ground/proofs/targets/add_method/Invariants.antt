use Rattle.std.proofs.Common.{take}
use Rattle.certificate_ground.specs.Pairs.{AddsPairs, OfSome}
use Rattle.certificate_ground.specs.Targets.{IsTargetOf}
use Rattle.certificate_ground.proofs.targets.add_method.Given as goal

abbrev pub invariant-loop-place : goal.invariant-loop-place
invariant-loop-place l = record {
  added : AddsPairs (OfSome (IsTargetOf l.known.program.now l.known.sites.now l.known.held.now l.method.method) (take l.place l.method.method.nodes)) l.initial.targets.calls.keys
      l.initial.targets.targets.groups.items l.targets.calls.keys l.targets.targets.groups.items;
}
