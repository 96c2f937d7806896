-- A method that is not refused has its nodes, in order.
use Rattle.std.proofs.Common.{◌⊎◌, inl, inr, ℕ, ◌+◌, if◌then◌else◌, List, [], ◌∷◌, length, None, refl}
use Rattle.std.specs.List.{AllZip, Contains, flat_map}
use Rattle.std.proofs.lemmas.List.Elements.{All-contains}
use Rattle.jvm_model.specs.declared.code.Code.{Code}
use Rattle.jvm_model.specs.declared.reason.Refusal.{Refusal}
use Rattle.jvm_model.specs.Instructions.{kinds_of}
use Rattle.jvm_model.specs.LinkedPrograms.{IsProgram}
use Rattle.jvm_model.specs.Programs.{Program, is_static}
use Rattle.flow_graph.specs.declared.steps.Graph.{Graph}
use Rattle.flow_graph.specs.declared.steps.GraphStep.{GraphStep}
use Rattle.lowering_spec.specs.LoweredMethods.{HasParameterUnits, IsNodeOf}
use Rattle.lowering_handlers.specs.Entries.{AreKnown}
use Rattle.lowering_handlers.proofs.ParameterCounts.{method_descriptor}
use Rattle.op_model.specs.declared.lowered.LoweredMethod.{LoweredMethod}
use Rattle.op_model.specs.declared.node.Node.{Node}
use Rattle.program_laws.proofs.Orders.{first_there, more_there}
use Rattle.lowering.specs.Orders.{AreInOrder, IsInOrder}
use Rattle.lowering.specs.Refusals.{AreFree, HasFirstReason, IsAccepted, IsOwnCode, IsRefused}
use Rattle.lowering_laws.proofs.Judged.{refused_or_free}
use Rattle.lowering_laws.proofs.EachNode.{node}

module _ (p : Program) (number : ℕ) (code : Code) (graph : Graph) (program : IsProgram p) (own : IsOwnCode p number code graph) where
  -- the units of the parameters
  units : (count : ℕ) × HasParameterUnits own.method count
  units =
      let is = method_descriptor p program number own.method own.stands in (
        (if is_static own.method then 0 else 1) + length (flat_map kinds_of is.parameters),
        record {
          parameters = flat_map kinds_of is.parameters;
          results = kinds_of is.outcome;
          of_descriptor = record { is = is; parameters_are = refl; results_are = refl };
          is = refl;
        },
      )

  each_node : AreFree p own.method own.file.pool code graph.steps → AreKnown p own.file.pool code.handlers graph.steps → (steps : List GraphStep) → ((step : GraphStep) → Contains steps step → Contains graph.steps step)
      → (nodes : List Node) × AllZip (IsNodeOf p number own.method own.file.pool code) steps nodes × AllZip (IsInOrder p number own.method own.file.pool code) steps nodes
  each_node free known [] within = ([], tt, tt)
  each_node free known (step ∷ steps) within =
      let there = within step (first_there step steps) in
      let reason = All-contains (λ (s : GraphStep). HasFirstReason p own.method own.file.pool code s None) graph.steps step free there in
      let first = node p program number code graph own step there reason known in
      let rest = each_node free known steps (λ s more. within s (more_there step s steps more)) in
      (first.0 ∷ rest.0, (first.1.node, rest.1), (first.1, rest.2))

  accepted : AreFree p own.method own.file.pool code graph.steps → AreKnown p own.file.pool code.handlers graph.steps
      → (l : LoweredMethod) × IsAccepted p number code graph l × AreInOrder p number code graph l
  accepted free known =
      let nodes = each_node free known graph.steps (λ step there. there) in (
        record { method = record { 0 = number }; slots = code.max_locals; stack = code.max_stack; params = units.0; nodes = nodes.0 },
        record {
          own = own;
          free = free;
          known = known;
          lowered = record { method = own.method; stands = own.stands; number_is = refl; slots = refl; stack = refl; params = units.1; nodes = nodes.1 };
        },
        record { own = own; nodes = nodes.2 },
      )

  pub lowers : ((l : LoweredMethod) × IsAccepted p number code graph l × AreInOrder p number code graph l) ⊎ ((r : Refusal) × IsRefused p number code graph r)
  lowers = by (refused_or_free p number code graph program own)
    where
      by : ((r : Refusal) × IsRefused p number code graph r) ⊎ (AreFree p own.method own.file.pool code graph.steps × AreKnown p own.file.pool code.handlers graph.steps)
          → ((l : LoweredMethod) × IsAccepted p number code graph l × AreInOrder p number code graph l) ⊎ ((r : Refusal) × IsRefused p number code graph r)
      by (inl refused) = inr refused
      by (inr h) = inl (accepted h.0 h.1)
