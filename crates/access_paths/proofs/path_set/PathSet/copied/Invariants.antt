use Rattle.std.proofs.Common.{◌≡◌, take}
use Rattle.access_paths.proofs.path_set.PathSet.copied.Given as goal

abbrev pub invariant-loop-path : goal.invariant-loop-path
invariant-loop-path l = l.paths.items ≡ take l.path-index l.self
