use Rattle.std.proofs.Common.{◌≡◌, take}
use Rattle.code_reader.specs.CodeReading.{known_targets}
use Rattle.code_reader.proofs.body.known_targets.Given as goal

abbrev pub invariant-loop-target : goal.invariant-loop-target
invariant-loop-target l = l.known.items ≡ known_targets (take l.target-index l.targets)
