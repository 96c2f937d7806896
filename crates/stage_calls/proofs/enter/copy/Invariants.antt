use Rattle.std.proofs.Common.{List, ◌++◌, map, take}
use Rattle.std.specs.List.{filter}
use Rattle.access_paths.specs.Paths.{Path as AccessPath}
use Rattle.access_paths.specs.Operations.{begins_at, with_root}
use Rattle.stage_views.specs.Views.{Gathers}
use Rattle.stage_calls.proofs.enter.copy.Given as goal

-- the copies of the paths so far are gathered
abbrev pub invariant-loop-path : goal.invariant-loop-path
invariant-loop-path l = (before : List AccessPath) → Gathers l.initial.gathering before
    → Gathers l.gathering (before ++ map (with_root l.to) (filter (begins_at l.from) (take l.path-index l.paths)))
