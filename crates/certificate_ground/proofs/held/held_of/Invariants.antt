use Rattle.std.proofs.Common.{◌<◌, ◌^◌, length, take}
use Rattle.certificate_ground.specs.Held.{IsHeldBy}
use Rattle.certificate_ground.specs.Pairs.{AddsPairs, OfSome}
use Rattle.certificate_ground.proofs.held.held_of.Given as goal

abbrev pub invariant-loop-line : goal.invariant-loop-line
invariant-loop-line l = record {
  pairs : AddsPairs (OfSome (IsHeldBy l.sites) (take l.line-index l.lines)) l.initial.held.places.keys l.initial.held.sites.groups.items l.held.places.keys l.held.sites.groups.items;
  few : length l.held.places.keys < 2 ^ 32;
}
