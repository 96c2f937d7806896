use Rattle.std.proofs.Common.{◌≡◌, take, false}
use Rattle.std.specs.List.{list_any}
use Rattle.access_paths.specs.Paths.{same_path}
use Rattle.access_paths.proofs.path_set.PathSet.contains.Given as goal

abbrev pub invariant-loop-other : goal.invariant-loop-other
invariant-loop-other l = list_any (same_path l.path) (take l.other-index l.self) ≡ false
