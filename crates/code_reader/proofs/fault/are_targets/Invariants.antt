use Rattle.std.proofs.Common.{◌≡◌, true, take}
use Rattle.std.specs.List.{list_all}
use Rattle.code_reader.specs.Division.{is_target}
use Rattle.code_reader.proofs.fault.are_targets.Given as goal

abbrev pub invariant-loop-target : goal.invariant-loop-target
invariant-loop-target l = list_all (is_target l.division.spots.items l.division.stop) (take l.target-index l.targets) ≡ true
