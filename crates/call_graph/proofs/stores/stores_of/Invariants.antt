use Rattle.std.proofs.Common.{[], take}
use Rattle.points_to_rules.specs.declared.running_method.RunningMethod.{RunningMethod}
use Rattle.ground.specs.Added.{AreAdded, OfOne}
use Rattle.call_graph.specs.Edges.{IsStoreOf, OfRunning}
use Rattle.call_graph.proofs.stores.stores_of.Given as goal

abbrev pub invariant-loop-method : goal.invariant-loop-method
invariant-loop-method l = record { added : AreAdded (OfOne (λ (r : RunningMethod). OfRunning l.running.keys IsStoreOf r.method) (take l.method-index l.methods)) [] l.writes.keys }
