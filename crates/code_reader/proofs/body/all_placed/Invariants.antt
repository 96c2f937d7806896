use Rattle.std.proofs.Common.{◌≡◌, map}
use Rattle.code_reader.specs.CodeReading.{placed}
use Rattle.code_reader.proofs.body.all_placed.Given as goal

abbrev pub invariant-loop-spot : goal.invariant-loop-spot
invariant-loop-spot l = l.given.items ≡ map placed l.yielded
