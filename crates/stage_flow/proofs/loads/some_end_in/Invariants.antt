use Rattle.std.proofs.Common.{◌≡◌, take, false}
use Rattle.std.specs.List.{list_any}
use Rattle.access_paths.specs.Paths.{Path}
use Rattle.stage_transfer.specs.Operations.{ends_in}
use Rattle.stage_flow.proofs.loads.some_end_in.Given as goal

abbrev pub invariant-loop-path : goal.invariant-loop-path
invariant-loop-path k = list_any (λ (x : Path). ends_in k.field x.fields) (take k.path-index k.set) ≡ false
