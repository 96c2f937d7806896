use Rattle.std.proofs.Common.{◌≡◌, Bool, false, take}
use Rattle.std.specs.List.{list_any}
use Rattle.access_paths.specs.Paths.{Path as AccessPath}
use Rattle.stage_calls.proofs.path_test.any_path.Given as goal

-- none of the paths so far passes
abbrev pub invariant-loop-path : goal.invariant-loop-path
invariant-loop-path g l = (p : AccessPath → Bool) → g.T.PathTest.computes l.test p → list_any p (take l.path-index l.paths) ≡ false
