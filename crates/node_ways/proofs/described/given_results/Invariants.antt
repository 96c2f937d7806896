use Rattle.std.proofs.Common.{◌≡◌, ℕ, List, Option, map, take}
use Rattle.jvm_model.specs.declared.number.MethodNo.{MethodNo}
use Rattle.op_model.specs.declared.node.Node.{Node}
use Rattle.stage_edges.specs.Rules.{given_by}
use Rattle.node_ways.specs.Parts.{AreParameters}
use Rattle.node_ways.specs.Ways.{result_of}
use Rattle.node_ways.proofs.described.given_results.Given as goal

abbrev pub invariant-loop-outcome : goal.invariant-loop-outcome
invariant-loop-outcome l = record {
  given : (m : Option MethodNo) (n : Node) (parameters : List (List ℕ)) → AreParameters l.stub parameters
      → map (result_of m n) l.results.items ≡ map (given_by m n l.call l.stub parameters) (take l.outcome-index l.outcome-items);
}
