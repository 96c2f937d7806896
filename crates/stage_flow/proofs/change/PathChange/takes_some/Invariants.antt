use Rattle.std.proofs.Common.{◌≡◌, take, false}
use Rattle.std.specs.List.{list_any}
use Rattle.access_paths.specs.Paths.{Path}
use Rattle.stage_flow.specs.Shapes.{goes_of}
use Rattle.stage_flow.proofs.change.PathChange.takes_some.Given as goal

abbrev pub invariant-loop-path : goal.invariant-loop-path
invariant-loop-path k = list_any (λ (x : Path). goes_of k.self.written k.self.leaving x.root) (take k.path-index k.set) ≡ false
