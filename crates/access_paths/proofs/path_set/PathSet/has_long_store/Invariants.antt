use Rattle.std.proofs.Common.{◌≡◌, take, false}
use Rattle.std.specs.List.{list_any}
use Rattle.access_paths.specs.Gains.{is_long_store}
use Rattle.access_paths.proofs.path_set.PathSet.has_long_store.Given as goal

abbrev pub invariant-loop-path : goal.invariant-loop-path
invariant-loop-path l = list_any (is_long_store l.source l.depth) (take l.path-index l.self) ≡ false
