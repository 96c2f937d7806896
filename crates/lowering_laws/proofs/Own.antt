-- What a program says of a method's own code: it is that of a member of a checked class file, and its graph is a flow.
use Rattle.std.proofs.Common.{ℕ, subst}
use Rattle.std.specs.List.{Contains}
use Rattle.std.proofs.lemmas.List.Elements.{All-contains}
use Rattle.jvm_model.specs.declared.code.Code.{Code}
use Rattle.jvm_model.specs.LinkedPrograms.{IsProgram, IsBodyOf, IsMemberOf}
use Rattle.jvm_model.specs.Programs.{Body, Method, Program}
use Rattle.code_reader.proofs.ToldCodes.{Contains-from_slice_get}
use Rattle.flow_graph.specs.declared.steps.Graph.{Graph}
use Rattle.flow_graph.specs.Graphing.{IsCodeOf, IsFlow}
use Rattle.flow_graph.proofs.WholeFlow.{flow_of}
use Rattle.lowering.specs.Refusals.{IsOwnCode}

module _ (p : Program) (program : IsProgram p) (number : ℕ) (code : Code) (graph : Graph) (own : IsOwnCode p number code graph) where
  inside : Contains p.methods own.method
  inside = Contains-from_slice_get p.methods number own.method own.stands

  pub member_of : IsMemberOf own.method own.file own.place own.member
  member_of = subst (λ (body : Body). IsBodyOf own.method body) own.of_file (All-contains (λ (m : Method). IsBodyOf m m.body) p.methods own.method program.bodies inside)

  pub code_of : IsCodeOf own.file code
  code_of = record { method = own.place; read = own.read }

  pub flow : IsFlow own.file code graph
  flow = flow_of own.file code graph code_of own.flows
