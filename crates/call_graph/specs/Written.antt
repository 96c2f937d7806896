-- This crate's own proofs alone rest on this module.
-- What methods may write, from what they store by themselves, and from who calls or starts whom.
use Rattle.std.specs.Prelude.{List}
use Rattle.jvm_model.specs.Programs.{Program}
use Rattle.op_model.specs.declared.lowered.LoweredMethod.{LoweredMethod}
use Rattle.call_graph.specs.declared.edges.Edge.{Edge}
use Rattle.ground.specs.declared.lists.FieldWrite.{FieldWrite}
use Rattle.call_graph.specs.declared.sets.Sets.{Sets}
use Rattle.call_graph.specs.Closing.{AreClosed}
use Rattle.call_graph.specs.Edges.{AreEdges, AreStores}

-- The writes are the least that have the stores of the methods, and with what one method writes that for each that calls or starts it.
pub record AreWrites (p : Program) (methods : List LoweredMethod) (s : Sets) (writes : List FieldWrite) : Type 0 where
  pub own : List FieldWrite
  pub edges : List Edge
  pub stores : AreStores methods s.running.keys own
  pub leads : AreEdges p methods s edges
  pub closed : AreClosed own edges writes
