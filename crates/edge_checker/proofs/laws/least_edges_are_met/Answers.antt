use Rattle.std.specs.List.{Contains}
use Rattle.ground.specs.Findings.{gives_listed}
use Rattle.edge_checker.proofs.Closed.{accepted}
use Rattle.edge_checker.proofs.laws.least_edges_are_met.Goals as goal

pub returns : goal.returns
returns c = λ q x w claim listed just. accepted x (gives_listed q.ground.now.methods) (Contains q.ground.now.facts) w claim listed just
