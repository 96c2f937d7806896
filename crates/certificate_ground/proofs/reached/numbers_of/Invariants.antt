use Rattle.std.proofs.Common.{◌≡◌, map, take}
use Rattle.ground.specs.Lists.{number_of}
use Rattle.certificate_ground.proofs.reached.numbers_of.Given as goal

abbrev pub invariant-loop-method : goal.invariant-loop-method
invariant-loop-method l = record { numbers : l.numbers.keys ≡ map number_of (take l.method-index l.methods) }
