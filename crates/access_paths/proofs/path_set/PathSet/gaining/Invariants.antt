use Rattle.std.proofs.Common.{◌≡◌, ◌++◌, take}
use Rattle.std.specs.List.{filter_map}
use Rattle.access_paths.specs.Gains.{gained}
use Rattle.access_paths.specs.Operations.{cut_of}
use Rattle.access_paths.specs.Paths.{path_set}
use Rattle.access_paths.proofs.path_set.PathSet.gaining.Given as goal

abbrev pub invariant-loop-path : goal.invariant-loop-path
invariant-loop-path l = l.cut ≡ cut_of (path_set (l.self ++ filter_map (gained l.gain) (take l.path-index l.self)))
