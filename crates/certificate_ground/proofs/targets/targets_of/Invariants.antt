use Rattle.std.proofs.Common.{take}
use Rattle.certificate_ground.specs.Pairs.{AddsPairs, OfSome}
use Rattle.certificate_ground.specs.Targets.{IsTargetIn}
use Rattle.certificate_ground.proofs.targets.targets_of.Given as goal

abbrev pub invariant-loop-method : goal.invariant-loop-method
invariant-loop-method l = record {
  added : AddsPairs (OfSome (IsTargetIn l.known.program.now l.known.sites.now l.known.held.now) (take l.method-index l.methods)) l.initial.targets.calls.keys
      l.initial.targets.targets.groups.items l.targets.calls.keys l.targets.targets.groups.items;
}
