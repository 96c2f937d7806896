-- A method that is supplied as nodes is whole.
use Rattle.std.proofs.Common.{◌≡◌, ℕ, ◌+◌, List, subst}
use Rattle.std.specs.Prelude.{Ok}
use Rattle.std.specs.List.{Contains}
use Rattle.jvm_model.specs.declared.code.Code.{Code}
use Rattle.jvm_model.specs.declared.site.Site.{Site}
use Rattle.jvm_model.specs.LinkedPrograms.{IsProgram}
use Rattle.jvm_model.specs.Names.{IsClassName}
use Rattle.jvm_model.specs.Programs.{Program}
use Rattle.lowering_laws.proofs.Own.{flow}
use Rattle.flow_graph.specs.declared.steps.Graph.{Graph}
use Rattle.flow_graph.specs.Graphing.{IsFlow}
use Rattle.lowering_supply.specs.Supplied.{IsSupplied, IsSupplyOutcome, bad_code, bad_flow, not_lowered, lowered}
use Rattle.least_sets.proofs.Places.{All-from_contains}
use Rattle.lowering.specs.Refusals.{IsAccepted}
use Rattle.lowering_spec.specs.LoweredMethods.{IsNodeOf}
use Rattle.op_model.specs.declared.lowered.LoweredMethod.{LoweredMethod}
use Rattle.op_model.specs.declared.node.Node.{Node}
use Rattle.op_model.specs.declared.op.Op.TheVariants.{NewArray}
use Rattle.op_model.specs.Supplies.{IsCodedMethod}
use Rattle.points_to_rules.specs.WholeMethods.{AreWholeMethods, IsWholeMethod, NamesNumbers}
use Rattle.simulation.proofs.FittingNodes.{node_fits}
use Rattle.simulation.proofs.Numbers.{numbers_named}
use Rattle.simulation.proofs.Operations.{FitsIn}
use Rattle.simulation.proofs.Pairs.{first_of}
use Rattle.simulation.proofs.Reached.{are_reached, goes_on, handled}

-- The sites of the arrays that its nodes make have no names of classes.
abbrev pub MakesNoClass : LoweredMethod → Type 0
MakesNoClass l = (n : Node) (sites : List Site) (target : ℕ) → Contains l.nodes n → n.op ≡ NewArray sites target → (s : Site) → Contains sites s → IsClassName s.class → ⊥

-- what lowering accepts
accepted_whole : (p : Program) (program : IsProgram p) (number : ℕ) → IsCodedMethod p number → (code : Code) (graph : Graph) (l : LoweredMethod) → IsAccepted p number code graph l
    → IsWholeMethod p number l
accepted_whole p program number coded code graph l a = record {
  coded = coded;
  number_is = a.lowered.number_is;
  reached = are_reached p number a.own.file code graph l flows a.lowered;
  successors = goes_on p number a.own.file code graph l flows a.lowered;
  handlers = handled p number a.own.file code graph l flows a.lowered;
  reads = λ n z there has. (fits n there).reads z has;
  constants = λ n site target there is. (fits n there).constants site target is;
  numbers = All-from_contains (NamesNumbers p) l.nodes named;
}
  where
    flows : IsFlow a.own.file code graph
    flows = flow p program number code graph a.own

    fits : (n : Node) → Contains l.nodes n → FitsIn (l.slots + l.stack) n.op
    fits = node_fits p program number code graph l a

    named : (n : Node) → Contains l.nodes n → NamesNumbers p n
    named n there =
        let s = first_of (IsNodeOf p number a.lowered.method a.own.file.pool code) graph.steps l.nodes n a.lowered.nodes there in
        numbers_named p number a.lowered.method a.own.file.pool code s.0 n s.2

-- only what is lowered is given as nodes
supplied : (p : Program) (program : IsProgram p) (number : ℕ) (coded : IsCodedMethod p number) (l : LoweredMethod) → IsSupplyOutcome p number coded.method coded.file coded.place (Ok l)
    → IsWholeMethod p number l
supplied p program number coded l (bad_code fault read r refusal e) = absurd cc
supplied p program number coded l (bad_flow code read offset reason fault r refusal e) = absurd cc
supplied p program number coded l (not_lowered code read graph graphed r refused e) = absurd cc
supplied p program number coded l (lowered code read graph graphed k accepted ordered e) =
    let same : k ≡ l = cc in
    subst (λ (x : LoweredMethod). IsWholeMethod p number x) same (accepted_whole p program number coded code graph k accepted)

pub supplied_whole : (p : Program) → AreWholeMethods p (IsSupplied p)
supplied_whole p number l s = supplied p s.program number s.coded l s.outcome

-- ---- arrays

-- of a method that lowering accepts
accepted_arrays : (p : Program) (program : IsProgram p) (number : ℕ) (code : Code) (graph : Graph) (l : LoweredMethod) → IsAccepted p number code graph l → MakesNoClass l
accepted_arrays p program number code graph l a = λ n sites target there is s among. (node_fits p program number code graph l a n there).arrays sites target is s among

-- of one that is supplied
arrays_by : (p : Program) (program : IsProgram p) (number : ℕ) (coded : IsCodedMethod p number) (l : LoweredMethod) → IsSupplyOutcome p number coded.method coded.file coded.place (Ok l)
    → MakesNoClass l
arrays_by p program number coded l (bad_code fault read r refusal e) = absurd cc
arrays_by p program number coded l (bad_flow code read offset reason fault r refusal e) = absurd cc
arrays_by p program number coded l (not_lowered code read graph graphed r refused e) = absurd cc
arrays_by p program number coded l (lowered code read graph graphed k accepted ordered e) =
    let same : k ≡ l = cc in
    subst (λ (x : LoweredMethod). MakesNoClass x) same (accepted_arrays p program number code graph k accepted)

pub supplied_arrays : (p : Program) (number : ℕ) (l : LoweredMethod) → IsSupplied p number (Ok l) → MakesNoClass l
supplied_arrays p number l s = arrays_by p s.program number s.coded l s.outcome
