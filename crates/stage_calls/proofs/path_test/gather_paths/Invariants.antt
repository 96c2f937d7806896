use Rattle.std.proofs.Common.{Bool, List, ◌++◌, take}
use Rattle.std.specs.List.{filter}
use Rattle.access_paths.specs.Paths.{Path as AccessPath}
use Rattle.stage_views.specs.Views.{Gathers}
use Rattle.stage_calls.proofs.path_test.gather_paths.Given as goal

-- those of the paths so far that pass are gathered
abbrev pub invariant-loop-path : goal.invariant-loop-path
invariant-loop-path g l = (p : AccessPath → Bool) (before : List AccessPath) → g.T.PathTest.computes l.test p → Gathers l.initial.gathering before
    → Gathers l.gathering (before ++ filter p (take l.path-index l.paths))
