use Rattle.std.specs.List.{Contains}
use Rattle.ground.specs.Findings.{gives_listed}
use Rattle.edge_checker.proofs.Closed.{all_listed}
use Rattle.edge_checker.proofs.laws.met_edges_hold.Goals as goal

pub returns : goal.returns
returns c = λ q x w listed met. all_listed x (gives_listed q.ground.now.methods) (Contains q.ground.now.facts) w listed met
