use Rattle.std.proofs.Common.{◌≡◌, ◌++◌, take, drop}
use Rattle.access_paths.specs.Paths.{with_path}
use Rattle.access_paths.proofs.path_set.PathSet.place.Given as goal

abbrev pub invariant-loop-at : goal.invariant-loop-at
invariant-loop-at l = with_path l.path l.self ≡ take l.at l.self ++ with_path l.path (drop l.at l.self)
