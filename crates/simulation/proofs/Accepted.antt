-- What is known of a method that is accepted, and of a program: the code of the method, the nodes of the start, the numbers of
-- classes of exceptions, and that an instruction concerns one class.
use Rattle.std.proofs.Common.{ℕ, List, subst}
use Rattle.std.specs.List.{Contains}
use Rattle.std.proofs.lemmas.List.Elements.{All-contains}
use Rattle.jvm_model.specs.declared.code.Code.{Code}
use Rattle.jvm_model.specs.declared.number.ClassNo.{ClassNo}
use Rattle.jvm_model.specs.LinkedPrograms.{IsBodyOf, IsMemberOf, IsProgram}
use Rattle.jvm_model.specs.Programs.{Body, Method, Program}
use Rattle.code_reader.proofs.MachineBodies.{code_is_the_body}
use Rattle.code_reader.proofs.ToldCodes.{Contains-from_slice_get}
use Rattle.flow_graph.specs.declared.steps.Graph.{Graph}
use Rattle.flow_graph.proofs.WholeFlow.{flow_of}
use Rattle.op_model.specs.declared.lowered.LoweredMethod.{LoweredMethod}
use Rattle.op_model.specs.declared.node.Node.{Node}
use Rattle.machine_bytecode.specs.Objects.{Subject}
use Rattle.machine_nodes.specs.Nodes.{AreStartNodes, IsClassNumber}
use Rattle.lowering.specs.Refusals.{IsAccepted}
use Rattle.lowering_laws.proofs.Concerned.{one_concerned}
use Rattle.simulation.proofs.Known.{LoweredCode}
use Rattle.simulation.proofs.StartFrames.{OneConcerned}
use Rattle.machine_laws.proofs.StartNodes.{has_number, some_start}
use Rattle.simulation.specs.Simulation.{HasEntry, HasExceptions, exception_names}

pub accepted_code : (p : Program) → IsProgram p → (number : ℕ) (code : Code) (graph : Graph) (l : LoweredMethod) → IsAccepted p number code graph l → LoweredCode p number l
accepted_code p program number code graph l accepted =
    let own = accepted.own in
    let of = All-contains (λ (m : Method). IsBodyOf m m.body) p.methods own.method program.bodies (Contains-from_slice_get p.methods number own.method own.stands) in
    let member : IsMemberOf own.method own.file own.place own.member = subst (λ (b : Body). IsBodyOf own.method b) own.of_file of in
    let body = code_is_the_body own.file own.place own.member code member.checked.fits member.checked.sound member.stands own.read in
    record {
      method = own.method;
      stands = own.stands;
      file = own.file;
      place = own.place;
      member = own.member;
      of_file = own.of_file;
      code = code;
      read = own.read;
      graph = graph;
      flow = flow_of own.file code graph (record { method = own.place; read = own.read }) own.flows;
      body = body.0;
      has = body.1;
      same = body.2;
      lowered = accepted.lowered;
    }

pub exceptions_of : (p : Program) → HasExceptions p → (name : List ℕ) → Contains exception_names name → (c : ClassNo) × IsClassNumber p c name
exceptions_of p has name there = let n = has_number p name (has.each name there) in (n.number, n.is)

pub once_of : (p : Program) → IsProgram p → OneConcerned p
once_of p program pool operand a b x y = one_concerned p pool operand a b program x y

pub start_of : (x : Subject) → IsProgram x.program → HasEntry x → (nodes : List Node) × AreStartNodes x nodes
start_of x program entry = some_start x entry.method entry.stands program
