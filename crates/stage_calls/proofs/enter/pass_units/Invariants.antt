use Rattle.std.proofs.Common.{◌≤◌, ◌^◌, List, ◌++◌, length, take}
use Rattle.access_paths.specs.Paths.{Path as AccessPath}
use Rattle.stage_transfer.specs.Calls.{passing_from}
use Rattle.stage_transfer.specs.Changes.{copied}
use Rattle.stage_views.specs.Views.{Gathers}
use Rattle.stage_calls.proofs.enter.pass_units.Given as goal

-- what the units so far pass is gathered
abbrev pub invariant-loop-unit : goal.invariant-loop-unit
invariant-loop-unit l = (before : List AccessPath) → length l.arguments ≤ 2 ^ 32 → Gathers l.initial.gathering before
    → Gathers l.gathering (before ++ copied (passing_from 0 (take l.unit l.arguments)) l.set)
