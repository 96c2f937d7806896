-- The nodes of a method are the steps of its flow graph, one by one: so they stand in the order of their offsets, each is reached, and each
-- goes on and is handled at nodes.
use Rattle.std.proofs.Common.{◌≡◌, ℕ, ◌<◌, List, Some, sym, ◌∙◌, subst, arith}
use Rattle.std.specs.List.{AllByRecursion, Contains, slice_get}
use Rattle.std.proofs.lemmas.List.Elements.{All-contains, All-from_recursion}
use Rattle.jvm_model.specs.declared.class_file.ClassFile.{ClassFile}
use Rattle.jvm_model.specs.declared.code.Code.{Code}
use Rattle.jvm_model.specs.Programs.{Program}
use Rattle.flow_graph.specs.declared.steps.Graph.{Graph}
use Rattle.flow_graph.specs.declared.steps.GraphStep.{GraphStep}
use Rattle.flow_graph.specs.Flows.{caught_at}
use Rattle.flow_graph.specs.Graphing.{HasStep, IsStep, IsFlow, IsReached, at_first as first_reached, from_step as step_reached, from_handler as handler_reached}
use Rattle.flow_graph.specs.Walks.{height_after}
use Rattle.hierarchy.proofs.ClassPlaces.{place_there}
use Rattle.least_sets.proofs.Places.{All-from_contains}
use Rattle.lowering_spec.specs.LoweredMethods.{IsLowered, IsNodeOf}
use Rattle.op_model.specs.declared.lowered.LoweredMethod.{LoweredMethod}
use Rattle.op_model.specs.declared.node.Node.{Node}
use Rattle.op_model.specs.declared.node.NodeHandler.{NodeHandler}
use Rattle.points_to_rules.specs.WholeMethods.{HasNodeAt}
use Rattle.slot_names.specs.Variables.{IsFirstNode, IsReachedNode, at_first, from_node, from_handler, AreReachedNodes}
use Rattle.simulation.proofs.Handled.{begins_caught, caught_begins}
use Rattle.simulation.proofs.Pairs.{first_at, second_at, first_of, second_of}

-- what holds of all of them holds of each
of_each : (P : ℕ → Type 0) (xs : List ℕ) (x : ℕ) → AllByRecursion P xs → Contains xs x → P x
of_each P xs x all there = All-contains P xs x (All-from_recursion P xs all) there

module _ (p : Program) (number : ℕ) (c : ClassFile) (code : Code) (graph : Graph) (l : LoweredMethod) (flow : IsFlow c code graph) (lowered : IsLowered p number c.pool code graph l) where
  -- ---- steps and nodes

  abbrev Lowers : GraphStep → Node → Type 0
  Lowers = IsNodeOf p number lowered.method c.pool code

  step_of : (n : Node) → Contains l.nodes n → (s : GraphStep) × Contains graph.steps s × Lowers s n
  step_of n there = first_of Lowers graph.steps l.nodes n lowered.nodes there

  node_of : (s : GraphStep) → Contains graph.steps s → (n : Node) × Contains l.nodes n × Lowers s n
  node_of s there = second_of Lowers graph.steps l.nodes s lowered.nodes there

  is_step : (s : GraphStep) → Contains graph.steps s → IsStep c code graph.steps s
  is_step s there = All-contains (IsStep c code graph.steps) graph.steps s flow.each there

  node_at : (offset height : ℕ) → HasStep graph.steps offset height → HasNodeAt l offset
  node_at offset height has = let n = node_of has.step has.there in record { node = n.0; stands = n.1; at = n.2.offset ∙ has.offset_is }

  -- ---- where a node goes on, and where it is handled

  pub goes_on : (n : Node) (offset : ℕ) → Contains l.nodes n → Contains n.successors offset → HasNodeAt l offset
  goes_on n offset there next =
      let s = step_of n there in
      let step = is_step s.0 s.1 in
      let height = height_after step.effect s.0.height in
      node_at offset height (of_each (λ (o : ℕ). HasStep graph.steps o height) s.0.successors offset step.successors_there ((s.2.successors offset).0 next))

  pub handled : (n : Node) (handler : NodeHandler) → Contains l.nodes n → Contains n.handlers handler → HasNodeAt l handler.target
  handled n handler there covers =
      let s = step_of n there in
      let step = is_step s.0 s.1 in
      let caught = begins_caught p c.pool code.handlers s.0.offset s.0.handlers n.handlers step.handlers_are s.2.handlers handler covers in
      node_at handler.target 1 (of_each (λ (o : ℕ). HasStep graph.steps o 1) (caught_at code.handlers s.0.offset) handler.target step.handlers_there caught)

  -- ---- what is reached

  first_node : (n : Node) × IsFirstNode l n × (n.offset ≡ 0)
  first_node =
      let some = flow.has_first.there.1 in
      let s = place_there graph.steps 0 (omega arith) in
      let n = second_at Lowers graph.steps l.nodes 0 s.0 lowered.nodes s.1 in
      (n.0, n.1, n.2.offset ∙ (flow.begins s.0 s.1).0)

  reached_at : (offset : ℕ) → IsReached code graph.steps offset → IsReachedNode l offset
  reached_at offset (first_reached o zero_is) = let n = first_node in at_first n.0 o n.1 (zero_is ∙ sym n.2)
  reached_at offset (step_reached o s there before next) =
      let n = node_of s there in
      from_node n.0 o n.1 (subst (λ (x : ℕ). IsReachedNode l x) (sym n.2.offset) (reached_at s.offset before)) ((n.2.successors o).1 next)
  reached_at offset (handler_reached o s there before caught) =
      let n = node_of s there in
      let h = caught_begins p c.pool code.handlers s.offset s.handlers n.0.handlers (is_step s there).handlers_are n.2.handlers o caught in
      from_handler n.0 h.0 o n.1 (subst (λ (x : ℕ). IsReachedNode l x) (sym n.2.offset) (reached_at s.offset before)) h.1 h.2

  reached : (n : Node) → Contains l.nodes n → IsReachedNode l n.offset
  reached n there =
      let s = step_of n there in
      let step = All-contains (λ (x : GraphStep). IsReached code graph.steps x.offset) graph.steps s.0 flow.each_reached s.1 in
      subst (λ (x : ℕ). IsReachedNode l x) (sym s.2.offset) (reached_at s.0.offset step)

  ascend : (i j : ℕ) (n k : Node) → i < j → slice_get l.nodes i ≡ Some n → slice_get l.nodes j ≡ Some k → n.offset < k.offset
  ascend i j n k before at_i at_j =
      let s = first_at Lowers graph.steps l.nodes i n lowered.nodes at_i in
      let t = first_at Lowers graph.steps l.nodes j k lowered.nodes at_j in
      let less = flow.ascends i j s.0 t.0 before s.1 t.1 in
      omega (arith, s.2.offset, t.2.offset)

  pub are_reached : AreReachedNodes l
  are_reached = record { ascend = ascend; each = All-from_contains (λ (n : Node). IsReachedNode l n.offset) l.nodes reached }
