-- Nodes and the steps of a graph, one by one.
use Rattle.std.proofs.Common.{◌≡◌, ℕ, List, [], ◌∷◌, map, refl, sym, ap, ◌∙◌, subst}
use Rattle.std.specs.List.{AllZip}
use Rattle.jvm_model.specs.declared.code.Code.{Code}
use Rattle.jvm_model.specs.declared.pool.PoolEntry.{PoolEntry}
use Rattle.jvm_model.specs.Programs.{Program, Method}
use Rattle.flow_graph.specs.declared.steps.GraphStep.{GraphStep}
use Rattle.op_model.specs.declared.node.Node.{Node}
use Rattle.lowering_spec.specs.LoweredMethods.{IsNodeOf}

pub same_offsets : (p : Program) (number : ℕ) (m : Method) (pool : List PoolEntry) (code : Code) (steps : List GraphStep) (nodes : List Node)
    → AllZip (IsNodeOf p number m pool code) steps nodes → map (λ (n : Node). n.offset) nodes ≡ map (λ (s : GraphStep). s.offset) steps
same_offsets p number m pool code [] [] all = refl
same_offsets p number m pool code [] (n ∷ nodes) all = absurd all
same_offsets p number m pool code (s ∷ steps) [] all = absurd all
same_offsets p number m pool code (s ∷ steps) (n ∷ nodes) all =
    ap (λ (o : ℕ). o ∷ map (λ (n : Node). n.offset) nodes) all.0.offset ∙ ap (λ (os : List ℕ). s.offset ∷ os) (same_offsets p number m pool code steps nodes all.1)
